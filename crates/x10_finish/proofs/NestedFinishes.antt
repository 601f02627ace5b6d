-- Finishes stay nested in each step, and a quiet finish has nothing inside it.
use Rattle.std.proofs.Common.{◌≡◌, ℕ, zero, suc, ◌+◌, List, [], ◌∷◌, Option, Some, None, ◌⊎◌, inl, inr, refl, sym, ◌∙◌, ap, subst, arith}
use Rattle.std.proofs.lemmas.Bool.{cases_eq}
use Rattle.std.proofs.lemmas.Option.{same_Some}
use Rattle.x10_model.specs.Maps.{with_entry, with_pair}
use Rattle.x10_model.specs.declared.finish.Finish.{Finish}
use Rattle.x10_model.specs.Places.{Stay, Message, innermost_of, innermost}
use Rattle.x10_model.specs.Worlds.{Post, Flying, Taken, IsUnder, IsWithin, itself, enclosed}
use Rattle.x10_finish.specs.Nesting.{Stays, nth, outside, IsOpen, IsHeld, IsUsed, by_stay, by_post, IsNested}
use Rattle.x10_finish.proofs.Entries.{at_entry, at_pair}

-- ---- maps of stays

pub pair_same : {V : Type 0} (f : ℕ → ℕ → V) (i j : ℕ) (v : V) → with_pair f i j v i j ≡ v
pair_same f i j v = at_pair (λ w. w ≡ v) f i j i j v (λ a b. refl) (λ other. absurd (other (refl, refl)))

pub pair_other : {V : Type 0} (f : ℕ → ℕ → V) (i j a b : ℕ) (v : V) → ((a ≡ i) × (b ≡ j) → ⊥) → with_pair f i j v a b ≡ f a b
pair_other f i j a b v apart = at_pair (λ w. w ≡ f a b) f i j a b v (λ p q. absurd (apart (p, q))) (λ other. refl)

pub no_stay : {V A : Type 0} (v : V) → None ≡ Some v → A
no_stay v e = absurd cc

pub same_at : (stays : Stays) (p k q l : ℕ) (s t : Stay) → stays p k ≡ Some s → stays q l ≡ Some t → q ≡ p → l ≡ k → t ≡ s
same_at stays p k q l s t e f eq el = same_Some t s (sym f ∙ ap (λ x. stays x l) eq ∙ ap (stays p) el ∙ e)

-- ---- stacks

pub nth_outside : (ns : List ℕ) (i m : ℕ) (ms : List ℕ) → outside ns i ≡ m ∷ ms → nth ns (suc i) ≡ Some m
nth_outside [] i m ms e = absurd cc
nth_outside (n ∷ []) zero m ms e = absurd cc
nth_outside (n ∷ k ∷ ks) zero m ms e = ap Some (let x : k ≡ m = cc in x)
nth_outside (n ∷ ns) (suc i) m ms e = nth_outside ns i m ms e

-- ---- a quiet finish has nothing inside it

-- used, or not the innermost of its stay
abbrev pub IsInside : Stays → (ℕ → Post) → Finish → Type 0
IsInside stays posts f = IsUsed stays posts f ⊎ ((k i : ℕ) × (s : Stay) × (stays f.home k ≡ Some s) × (nth s.finishes (suc i) ≡ Some f.number))

-- the next one outside
next_outside : (stays : Stays) (posts : ℕ → Post) (p k i : ℕ) (s : Stay) (ns : List ℕ) → stays p k ≡ Some s → outside s.finishes i ≡ ns
    → IsInside stays posts (innermost_of p s.inherited ns)
next_outside stays posts p k i s [] there e = inl (by_stay p k s there refl)
next_outside stays posts p k i s (n ∷ ns) there e = inr (k, i, s, there, nth_outside s.finishes i n ns e)

pub enclosed_inside : (stays : Stays) (opened : ℕ → ℕ) (enclosing : Finish → Option Finish) (posts : ℕ → Post) → IsNested stays opened enclosing posts
    → (f g : Finish) (k i : ℕ) (s : Stay) → stays f.home k ≡ Some s → nth s.finishes i ≡ Some f.number
    → enclosing f ≡ Some g → IsInside stays posts g
enclosed_inside stays opened enclosing posts n f g k i s there at e =
    subst (IsInside stays posts) (same_Some _ _ (sym (n.enclosed f.home k i f.number s there at) ∙ e))
    (next_outside stays posts f.home k i s (outside s.finishes i) there refl)

pub used_held : (stays : Stays) (opened : ℕ → ℕ) (enclosing : Finish → Option Finish) (posts : ℕ → Post) → IsNested stays opened enclosing posts
    → (f : Finish) → IsUsed stays posts f → IsHeld stays f
used_held stays opened enclosing posts n f (by_stay p k s there same) = subst (IsHeld stays) same (n.inherited p k s there)
used_held stays opened enclosing posts n f (by_post number message flies under) = n.carried number message f flies under

pub nothing_inside : (stays : Stays) (opened : ℕ → ℕ) (enclosing : Finish → Option Finish) (posts : ℕ → Post) → IsNested stays opened enclosing posts
    → (f : Finish) (key : ℕ) (owner : Stay) → stays f.home key ≡ Some owner → nth owner.finishes 0 ≡ Some f.number
    → (IsUsed stays posts f → ⊥) → (g : Finish) → IsWithin enclosing f g → IsInside stays posts g → ⊥
nothing_inside stays opened enclosing posts n f key owner there top quiet g itself (inl used) = quiet used
nothing_inside stays opened enclosing posts n f key owner there top quiet g itself (inr (k, i, s, e, at)) =
    (let same = (n.apart f.home key k 0 (suc i) f.number owner s there e top at).1 in omega arith)
nothing_inside stays opened enclosing posts n f key owner there top quiet g (enclosed g' h e rest) (inl used) =
    elim (used_held stays opened enclosing posts n g used) [
      | inl is_root ↦ no_stay h (sym n.root_outer ∙ ap enclosing (sym is_root) ∙ e)
      | inr o ↦ nothing_inside stays opened enclosing posts n f key owner there top quiet h rest
          (enclosed_inside stays opened enclosing posts n g h o.0 o.1 o.2 o.3 o.4 e)
    ]
nothing_inside stays opened enclosing posts n f key owner there top quiet g (enclosed g' h e rest) (inr (k, i, s, is, at)) =
    nothing_inside stays opened enclosing posts n f key owner there top quiet h rest
    (enclosed_inside stays opened enclosing posts n g h k (suc i) s is at e)

-- ---- one stay changes

-- a stay comes from one that was there, which had d finishes more; or it has none
abbrev Comes : Stays → (ℕ → ℕ → ℕ) → ℕ → ℕ → Stay → Type 0
Comes stays d p k u = (s : Stay) × (stays p k ≡ Some s) × (u.inherited ≡ s.inherited) × ((i : ℕ) → nth u.finishes i ≡ nth s.finishes (d p k + i))
    × ((i : ℕ) → outside u.finishes i ≡ outside s.finishes (d p k + i))

none_at : {A : Type 0} (u : Stay) (i n : ℕ) → u.finishes ≡ [] → nth u.finishes i ≡ Some n → A
none_at u i n e h = no_stay n (sym (ap (λ xs. nth xs i) e) ∙ h)

nested_by : (stays stays' : Stays) (opened : ℕ → ℕ) (enclosing : Finish → Option Finish) (posts : ℕ → Post) (d : ℕ → ℕ → ℕ)
    → IsNested stays opened enclosing posts
    → ((p k : ℕ) (u : Stay) → stays' p k ≡ Some u → (u.finishes ≡ []) ⊎ Comes stays d p k u)
    → ((p k : ℕ) (u : Stay) → stays' p k ≡ Some u → IsHeld stays' u.inherited)
    → ((number : ℕ) (message : Message) (f : Finish) → posts number ≡ Flying message → IsUnder f message → IsHeld stays' f)
    → IsNested stays' opened enclosing posts
nested_by stays stays' opened enclosing posts d n comes held carries = record {
  numbered = λ p k i m u e h. elim (comes p k u e) [
    | inl empty ↦ none_at u i m empty h
    | inr c ↦ n.numbered p k (d p k + i) m c.0 c.1 (sym (c.3 i) ∙ h)
  ];
  apart = λ p k l i j m u v e f h g. elim (comes p k u e) [
    | inl empty ↦ none_at u i m empty h
    | inr c ↦ elim (comes p l v f) [
      | inl empty ↦ none_at v j m empty g
      | inr b ↦ (let both = n.apart p k l (d p k + i) (d p l + j) m c.0 b.0 c.1 b.1 (sym (c.3 i) ∙ h) (sym (b.3 j) ∙ g) in
          let depth : d p k ≡ d p l = ap (d p) both.0 in
          let sum = both.1 in
          (both.0, omega (arith, depth, sum)))
    ]
  ];
  enclosed = λ p k i m u e h. elim (comes p k u e) [
    | inl empty ↦ none_at u i m empty h
    | inr c ↦ n.enclosed p k (d p k + i) m c.0 c.1 (sym (c.3 i) ∙ h) ∙ ap (λ f. Some (innermost_of p f (outside c.0.finishes (d p k + i)))) (sym c.2)
        ∙ ap (λ xs. Some (innermost_of p u.inherited xs)) (sym (c.4 i))
  ];
  root_outer = n.root_outer;
  root_opened = n.root_opened;
  inherited = held;
  carried = carries;
}

-- a finish stays open where the stay that changes keeps it
pub open_on : (stays : Stays) (here key : ℕ) (o : Option Stay) (f : Finish)
    → ((i : ℕ) (s : Stay) → stays here key ≡ Some s → f.home ≡ here → nth s.finishes i ≡ Some f.number → IsOpen (with_pair stays here key o) f)
    → IsOpen stays f → IsOpen (with_pair stays here key o) f
open_on stays here key o f kept (k, i, s, e, h) = elim (cases_eq f.home here) [
  | inl eh ↦ elim (cases_eq k key) [
    | inl ek ↦ kept i s (sym (ap (λ x. stays x key) eh) ∙ ap (stays f.home) (sym ek) ∙ e) eh h
    | inr nk ↦ (k, i, s, pair_other stays here key f.home k o (λ both. nk both.1) ∙ e, h)
  ]
  | inr nh ↦ (k, i, s, pair_other stays here key f.home k o (λ both. nh both.0) ∙ e, h)
]

pub held_on : (stays stays' : Stays) (f : Finish) → (IsOpen stays f → IsOpen stays' f) → IsHeld stays f → IsHeld stays' f
held_on stays stays' f on (inl r) = inl r
held_on stays stays' f on (inr o) = inr (on o)

comes_as : (stays : Stays) (d : ℕ → ℕ → ℕ) (p k : ℕ) (u s : Stay) (m : ℕ) → stays p k ≡ Some s → u.inherited ≡ s.inherited → d p k ≡ m
    → ((i : ℕ) → nth u.finishes i ≡ nth s.finishes (m + i)) → ((i : ℕ) → outside u.finishes i ≡ outside s.finishes (m + i))
    → Comes stays d p k u
comes_as stays d p k u s m e same depth at out =
    (s, e, same, (λ i. at i ∙ ap (λ x. nth s.finishes (x + i)) (sym depth)), (λ i. out i ∙ ap (λ x. outside s.finishes (x + i)) (sym depth)))

pub add_none : (i : ℕ) → i ≡ 0 + i
add_none i = omega arith

pub add_one : (i : ℕ) → suc i ≡ 1 + i
add_one i = omega arith

comes_same : (stays : Stays) (d : ℕ → ℕ → ℕ) (p k : ℕ) (u s : Stay) → stays p k ≡ Some s → u.inherited ≡ s.inherited → u.finishes ≡ s.finishes
    → d p k ≡ 0 → Comes stays d p k u
comes_same stays d p k u s e same stack depth =
    comes_as stays d p k u s 0 e same depth (λ i. ap (λ xs. nth xs i) stack ∙ ap (nth s.finishes) (add_none i))
    (λ i. ap (λ xs. outside xs i) stack ∙ ap (outside s.finishes) (add_none i))

comes_popped : (stays : Stays) (d : ℕ → ℕ → ℕ) (p k : ℕ) (u s : Stay) (n : ℕ) (rest : List ℕ) → stays p k ≡ Some s → u.inherited ≡ s.inherited
    → s.finishes ≡ n ∷ rest → u.finishes ≡ rest → d p k ≡ 1 → Comes stays d p k u
comes_popped stays d p k u s n rest e same whole stack depth =
    comes_as stays d p k u s 1 e same depth
    (λ i. ap (λ xs. nth xs i) stack ∙ ap (λ xs. nth xs (suc i)) (sym whole) ∙ ap (nth s.finishes) (add_one i))
    (λ i. ap (λ xs. outside xs i) stack ∙ ap (λ xs. outside xs (suc i)) (sym whole) ∙ ap (outside s.finishes) (add_one i))

pub moved_at : (stays : Stays) (here key p k : ℕ) (s : Stay) → stays here key ≡ Some s → p ≡ here → k ≡ key → stays p k ≡ Some s
moved_at stays here key p k s e ep ek = ap (λ x. stays x k) ep ∙ ap (stays here) ek ∙ e

-- its finishes and what it inherited stay
pub same_stacks : (stays : Stays) (opened : ℕ → ℕ) (enclosing : Finish → Option Finish) (posts : ℕ → Post) (here key : ℕ) (s t : Stay)
    → IsNested stays opened enclosing posts → stays here key ≡ Some s → t.finishes ≡ s.finishes → t.inherited ≡ s.inherited
    → IsNested (with_pair stays here key (Some t)) opened enclosing posts
same_stacks stays opened enclosing posts here key s t n e stack same =
    let on : (f : Finish) → IsOpen stays f → IsOpen (with_pair stays here key (Some t)) f =
    λ f o. open_on stays here key (Some t) f (λ i s' e' eh h. (
      key,
      i,
      t,
      ap (λ x. with_pair stays here key (Some t) x key) eh ∙ pair_same stays here key (Some t),
      ap (λ xs. nth xs i) (stack ∙ ap (λ (x : Stay). x.finishes) (same_Some s s' (sym e ∙ e'))) ∙ h,
    )) o in
    nested_by stays (with_pair stays here key (Some t)) opened enclosing posts (λ p k. 0) n
    (λ p k u h. at_pair (λ o. o ≡ Some u → (u.finishes ≡ []) ⊎ Comes stays (λ p k. 0) p k u) stays here key p k (Some t)
    (λ ep ek is. (let t_is = same_Some t u is in inr (comes_same stays (λ p k. 0) p k u s (moved_at stays here key p k s e ep ek)
    (ap (λ (x : Stay). x.inherited) (sym t_is) ∙ same) (ap (λ (x : Stay). x.finishes) (sym t_is) ∙ stack) refl)))
    (λ other is. inr (comes_same stays (λ p k. 0) p k u u is refl refl refl)) h)
    (λ p k u h. held_on stays (with_pair stays here key (Some t)) u.inherited (on u.inherited)
    (at_pair (λ o. o ≡ Some u → IsHeld stays u.inherited) stays here key p k (Some t)
    (λ ep ek is. subst (IsHeld stays) (sym same ∙ ap (λ (x : Stay). x.inherited) (same_Some t u is)) (n.inherited here key s e))
    (λ other is. n.inherited p k u is) h))
    (λ number message f flies under. held_on stays (with_pair stays here key (Some t)) f (on f) (n.carried number message f flies under))

-- a stay begins, with no finish of its own
pub new_stays : (stays : Stays) (opened : ℕ → ℕ) (enclosing : Finish → Option Finish) (posts : ℕ → Post) (here key : ℕ) (u : Stay)
    → IsNested stays opened enclosing posts → stays here key ≡ None → u.finishes ≡ [] → IsHeld stays u.inherited
    → IsNested (with_pair stays here key (Some u)) opened enclosing posts
new_stays stays opened enclosing posts here key u n free empty held =
    let on : (f : Finish) → IsOpen stays f → IsOpen (with_pair stays here key (Some u)) f =
    λ f o. open_on stays here key (Some u) f (λ i s' e' eh h. no_stay s' (sym free ∙ e')) o in
    nested_by stays (with_pair stays here key (Some u)) opened enclosing posts (λ p k. 0) n
    (λ p k v h. at_pair (λ o. o ≡ Some v → (v.finishes ≡ []) ⊎ Comes stays (λ p k. 0) p k v) stays here key p k (Some u)
    (λ ep ek is. inl (ap (λ (x : Stay). x.finishes) (sym (same_Some u v is)) ∙ empty))
    (λ other is. inr (comes_same stays (λ p k. 0) p k v v is refl refl refl)) h)
    (λ p k v h. held_on stays (with_pair stays here key (Some u)) v.inherited (on v.inherited)
    (at_pair (λ o. o ≡ Some v → IsHeld stays v.inherited) stays here key p k (Some u)
    (λ ep ek is. subst (IsHeld stays) (ap (λ (x : Stay). x.inherited) (same_Some u v is)) held) (λ other is. n.inherited p k v is) h))
    (λ number message f flies under. held_on stays (with_pair stays here key (Some u)) f (on f) (n.carried number message f flies under))

-- a stay ends, with no finish of its own
pub ended_stays : (stays : Stays) (opened : ℕ → ℕ) (enclosing : Finish → Option Finish) (posts : ℕ → Post) (here key : ℕ) (s : Stay)
    → IsNested stays opened enclosing posts → stays here key ≡ Some s → s.finishes ≡ []
    → IsNested (with_pair stays here key None) opened enclosing posts
ended_stays stays opened enclosing posts here key s n e empty =
    let on : (f : Finish) → IsOpen stays f → IsOpen (with_pair stays here key None) f =
    λ f o. open_on stays here key None f (λ i s' e' eh h. none_at s' i f.number
    (ap (λ (x : Stay). x.finishes) (same_Some s' s (sym e' ∙ e)) ∙ empty) h) o in
    nested_by stays (with_pair stays here key None) opened enclosing posts (λ p k. 0) n
    (λ p k v h. at_pair (λ o. o ≡ Some v → (v.finishes ≡ []) ⊎ Comes stays (λ p k. 0) p k v) stays here key p k None (λ ep ek is. no_stay v is)
    (λ other is. inr (comes_same stays (λ p k. 0) p k v v is refl refl refl)) h)
    (λ p k v h. held_on stays (with_pair stays here key None) v.inherited (on v.inherited)
    (at_pair (λ o. o ≡ Some v → IsHeld stays v.inherited) stays here key p k None (λ ep ek is. no_stay v is) (λ other is. n.inherited p k v is) h))
    (λ number message f flies under. held_on stays (with_pair stays here key None) f (on f) (n.carried number message f flies under))

-- what is used stays open where its stay closes another one
still_open : (stays : Stays) (posts : ℕ → Post) (here key number : ℕ) (rest : List ℕ) (s t : Stay) (f : Finish) (s' : Stay) (i : ℕ) → Some s' ≡ Some s
    → s.finishes ≡ number ∷ rest → t.finishes ≡ rest → f.home ≡ here
    → IsUsed stays posts f → (IsUsed stays posts (record { home = here; number = number }) → ⊥) → nth s'.finishes i ≡ Some f.number
    → IsOpen (with_pair stays here key (Some t)) f
still_open stays posts here key number rest s t f s' zero is whole stack eh used quiet h =
    let top : number ≡ f.number = same_Some number f.number (sym (ap (λ xs. nth xs 0) (ap (λ (x : Stay). x.finishes) (same_Some s' s is) ∙ whole))
    ∙ h) in
    absurd (quiet (subst (IsUsed stays posts) (λ j. record { home = eh j; number = sym top j }) used))
still_open stays posts here key number rest s t f s' (suc i) is whole stack eh used quiet h = (
  key,
  i,
  t,
  ap (λ x. with_pair stays here key (Some t) x key) eh ∙ pair_same stays here key (Some t),
  ap (λ xs. nth xs i) stack ∙ sym (ap (λ xs. nth xs (suc i)) (ap (λ (x : Stay). x.finishes) (same_Some s' s is) ∙ whole)) ∙ h,
)

-- a stay closes its innermost finish, which is quiet
pub closed_stays : (stays : Stays) (opened : ℕ → ℕ) (enclosing : Finish → Option Finish) (posts : ℕ → Post) (here key number : ℕ) (rest : List ℕ)
    (s t : Stay) → IsNested stays opened enclosing posts → stays here key ≡ Some s → s.finishes ≡ number ∷ rest
    → t.finishes ≡ rest → t.inherited ≡ s.inherited → (IsUsed stays posts (record { home = here; number = number }) → ⊥)
    → IsNested (with_pair stays here key (Some t)) opened enclosing posts
closed_stays stays opened enclosing posts here key number rest s t n e whole stack same quiet =
    let d : ℕ → ℕ → ℕ = with_pair (λ p k. 0) here key 1 in
    let on : (f : Finish) → IsUsed stays posts f → IsOpen stays f → IsOpen (with_pair stays here key (Some t)) f =
    λ f used o. open_on stays here key (Some t) f (λ i s' e' eh h.
    still_open stays posts here key number rest s t f s' i (sym e' ∙ e) whole stack eh used quiet h) o in
    nested_by stays (with_pair stays here key (Some t)) opened enclosing posts d n
    (λ p k u h. at_pair (λ o. o ≡ Some u → (u.finishes ≡ []) ⊎ Comes stays d p k u) stays here key p k (Some t)
    (λ ep ek is. (let t_is = same_Some t u is in
    inr (comes_popped stays d p k u s number rest (moved_at stays here key p k s e ep ek) (ap (λ (x : Stay). x.inherited) (sym t_is) ∙ same) whole
    (ap (λ (x : Stay). x.finishes) (sym t_is) ∙ stack)
    (ap (λ x. d x k) ep ∙ ap (d here) ek ∙ pair_same (λ p k. 0) here key 1))))
    (λ other is. inr (comes_same stays d p k u u is refl refl (pair_other (λ p k. 0) here key p k 1 other))) h)
    (λ p k u h. at_pair (λ o. o ≡ Some u → IsHeld (with_pair stays here key (Some t)) u.inherited) stays here key p k (Some t)
    (λ ep ek is. (let inherits : s.inherited ≡ u.inherited = sym same ∙ ap (λ (x : Stay). x.inherited) (same_Some t u is) in
    held_on stays (with_pair stays here key (Some t)) u.inherited (on u.inherited (by_stay here key s e inherits))
    (subst (IsHeld stays) inherits (n.inherited here key s e))))
    (λ other is. held_on stays (with_pair stays here key (Some t)) u.inherited (on u.inherited (by_stay p k u is refl)) (n.inherited p k u is)) h)
    (λ m message f flies under. held_on stays (with_pair stays here key (Some t)) f (on f (by_post m message flies under))
    (n.carried m message f flies under))

-- ---- messages

one_message : (m n : Message) → Flying n ≡ Flying m → m ≡ n
one_message m n e = cc

not_flying : (m : Message) → Taken ≡ Flying m → ⊥
not_flying m e = cc

pub posted : (stays : Stays) (opened : ℕ → ℕ) (enclosing : Finish → Option Finish) (posts : ℕ → Post) (number : ℕ) (message : Message)
    → IsNested stays opened enclosing posts → ((f : Finish) → IsUnder f message → IsHeld stays f)
    → IsNested stays opened enclosing (with_entry posts number (Flying message))
posted stays opened enclosing posts number message n held = record {
  numbered = n.numbered;
  apart = n.apart;
  enclosed = n.enclosed;
  root_outer = n.root_outer;
  root_opened = n.root_opened;
  inherited = n.inherited;
  carried = λ m other f flies under. at_entry (λ (o : Post). o ≡ Flying other → IsHeld stays f) posts number m (Flying message)
      (λ same is. held f (subst (IsUnder f) (one_message other message is) under)) (λ apart is. n.carried m other f is under) flies;
}

pub taken_in : (stays : Stays) (opened : ℕ → ℕ) (enclosing : Finish → Option Finish) (posts : ℕ → Post) (number : ℕ)
    → IsNested stays opened enclosing posts → IsNested stays opened enclosing (with_entry posts number Taken)
taken_in stays opened enclosing posts number n = record {
  numbered = n.numbered;
  apart = n.apart;
  enclosed = n.enclosed;
  root_outer = n.root_outer;
  root_opened = n.root_opened;
  inherited = n.inherited;
  carried = λ m other f flies under. at_entry (λ (o : Post). o ≡ Flying other → IsHeld stays f) posts number m Taken
      (λ same is. absurd (not_flying other is)) (λ apart is. n.carried m other f is under) flies;
}

innermost_by : (stays : Stays) (p k : ℕ) (s : Stay) (ns : List ℕ) → IsHeld stays s.inherited → stays p k ≡ Some s → s.finishes ≡ ns
    → IsHeld stays (innermost_of p s.inherited ns)
innermost_by stays p k s [] held e stack = held
innermost_by stays p k s (n ∷ ns) held e stack = inr (k, 0, s, e, ap (λ xs. nth xs 0) stack)

-- the innermost finish of a stay is held
pub innermost_held : (stays : Stays) (opened : ℕ → ℕ) (enclosing : Finish → Option Finish) (posts : ℕ → Post) (p k : ℕ) (s : Stay)
    → IsNested stays opened enclosing posts → stays p k ≡ Some s → IsHeld stays (innermost p s)
innermost_held stays opened enclosing posts p k s n e = innermost_by stays p k s s.finishes (n.inherited p k s e) e refl
