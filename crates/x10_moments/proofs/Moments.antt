-- What is kept of places is what they show.
use Rattle.std.proofs.Common.{◌≡◌, ℕ, zero, suc, ◌+◌, ◌<◌, ◌≤◌, List, [], ◌∷◌, ◌++◌, Option, Some, None, Result, Ok, Err, OnOk, get_or, length, map, take, refl, sym, ap, subst, ◌∙◌, append-nil, append_assoc, arith}
use Rattle.std.specs.Prelude.{IfSome, slice_get, slice_set}
use Rattle.std.proofs.lemmas.Grind.{get_or-set_at}
use Rattle.std.proofs.lemmas.List.{get_or-map, get_or-set_same, length-append, length-set, map-set, take_all, take_more}
use Rattle.x10_states.specs.declared.parts.Parts.{Parts}
use Rattle.x10_states.specs.Parts.{ArePartsOf}
use Rattle.std.proofs.lemmas.Option.{get_or_from_slice_get, same_Some, slice_get_within}
use Rattle.x10_model.specs.declared.event.Event.{Event}
use Rattle.x10_model.specs.declared.event.Event.TheVariants.{Step, Deliver}
use Rattle.x10_model.specs.Modules.{Module}
use Rattle.x10_place.specs.StandsFor.{PlaceState}
use Rattle.x10_verify.specs.Flows.{FlowFacts}
use Rattle.x10_world.specs.declared.done.Done.{Done}
use Rattle.x10_world.specs.declared.done.Done.TheVariants as done
use Rattle.x10_world.specs.Happenings.{HasDone}
use Rattle.x10_world.specs.StandsForWorld.{WorldState}
use Rattle.x10_states.specs.Json.{comma}
use Rattle.x10_moments.specs.Moments.{AreShown, IsShown, Shown, changed_place, first_places, nothing, place_text, shown_by}
use Rattle.x10_moments.specs.Recorders.{Updates}

-- the element that was put in
put_in : {A : Type 0} (xs ys : List A) (i : ℕ) (next p : A) → ys ≡ slice_set xs i next → i < length xs → slice_get ys i ≡ Some p → p ≡ next
put_in xs ys i next p e within there =
    sym (get_or_from_slice_get ys i p p there) ∙ ap (λ (zs : List _). get_or zs i p) e ∙ get_or-set_same xs i next p within

module _ (program : Module) (kinds : List FlowFacts) where
  -- one place more is shown
  pub shown_more : (ps : List PlaceState) (ss : List Shown) (p : PlaceState) (s : Shown) → AreShown program kinds ps ss → IsShown program kinds p s
      → AreShown program kinds (ps ++ p ∷ []) (ss ++ s ∷ [])
  shown_more [] [] p s all one = (one, tt)
  shown_more [] (t ∷ ss) p s all one = absurd all
  shown_more (q ∷ ps) [] p s all one = absurd all
  shown_more (q ∷ ps) (t ∷ ss) p s all one = (all.0, shown_more ps ss p s all.1 one)

  -- another place is shown in the place of one
  shown_set : (ps : List PlaceState) (ss : List Shown) (i : ℕ) (p : PlaceState) (s : Shown) → AreShown program kinds ps ss
      → IsShown program kinds p s → AreShown program kinds (slice_set ps i p) (slice_set ss i s)
  shown_set [] [] i p s all one = all
  shown_set [] (t ∷ ss) i p s all one = absurd all
  shown_set (q ∷ ps) [] i p s all one = absurd all
  shown_set (q ∷ ps) (t ∷ ss) zero p s all one = (one, all.1)
  shown_set (q ∷ ps) (t ∷ ss) (suc i) p s all one = (all.0, shown_set ps ss i p s all.1 one)

  same_places : (xs ys : List PlaceState) (old new : List Shown) → ys ≡ xs → AreShown program kinds xs old → new ≡ old → AreShown program kinds ys new
  same_places xs ys old new e kept is = subst (λ zs. AreShown program kinds zs new) (sym e) (subst (λ ss. AreShown program kinds xs ss) (sym is) kept)

  place_put : (xs ys : List PlaceState) (id : ℕ) (before next p : PlaceState) (s : Shown) (old new : List Shown) → slice_get xs id ≡ Some before
      → ys ≡ slice_set xs id next → AreShown program kinds xs old → slice_get ys id ≡ Some p → IsShown program kinds p s → new ≡ slice_set old id s
      → AreShown program kinds ys new
  place_put xs ys id before next p s old new was e kept there one is =
      subst (λ zs. AreShown program kinds zs new) (sym e) (subst (λ ss. AreShown program kinds (slice_set xs id next) ss) (sym is)
      (shown_set xs old id next s kept (subst (λ q. IsShown program kinds q s) (put_in xs ys id next p e (slice_get_within xs id before was) there) one)))

  -- after an event what is kept is what the places show
  pub all_follow : (y z : WorldState) (event : Event) (did : Done) (old new : List Shown) → HasDone y event did z
      → AreShown program kinds y.places old → Updates program kinds z (changed_place event did) old new → AreShown program kinds z.places new
  all_follow y z (Step id key) done.Idle old new h kept is = same_places y.places z.places old new h.places_are kept is
  all_follow y z (Step id key) (done.Moved function pc op first count) old new h kept is =
      place_put y.places z.places id h.moved.place h.moved.next is.0 is.1 old new h.moved.is_there h.moved.places_are kept is.2 is.3 is.4
  all_follow y z (Step id key) (done.Taken to) old new h kept is = absurd h
  all_follow y z (Deliver number) done.Idle old new h kept is = same_places y.places z.places old new h.places_are kept is
  all_follow y z (Deliver number) (done.Moved function pc op first count) old new h kept is = absurd h
  all_follow y z (Deliver number) (done.Taken to) old new h kept is =
      place_put y.places z.places to h.place h.next is.0 is.1 old new h.is_there h.places_are kept is.2 is.3 is.4

-- ---- the first moment

-- what one place more shows
first_more : (n : ℕ) (ss : List Shown) (s : Shown)
    → first_places n (ss ++ s ∷ []) ≡ first_places n ss ++ (comma (n + length ss) ++ place_text (n + length ss) nothing s)
first_more n [] s = append-nil (comma n ++ place_text n nothing s)
    ∙ ap (λ (k : ℕ). comma k ++ place_text k nothing s) (plus_none n)
  where
    plus_none : (n : ℕ) → n ≡ n + 0
    plus_none n = omega arith
first_more n (t ∷ ss) s =
    ap (λ (b : List ℕ). (comma n ++ place_text n nothing t) ++ b) (first_more (n + 1) ss s
    ∙ ap (λ (k : ℕ). first_places (n + 1) ss ++ (comma k ++ place_text k nothing s)) (next_number n ss t))
    ∙ sym (append_assoc (comma n ++ place_text n nothing t) (first_places (n + 1) ss)
    (comma (n + length (t ∷ ss)) ++ place_text (n + length (t ∷ ss)) nothing s))
  where
    next_number : (n : ℕ) (ss : List Shown) (t : Shown) → n + 1 + length ss ≡ n + length (t ∷ ss)
    next_number n ss t = omega arith

pub text_more : (old out new : List ℕ) (ss both : List Shown) (s : Shown) (id : ℕ) → length ss ≡ id → out ≡ old ++ first_places 0 ss
    → new ≡ out ++ (comma id ++ place_text id nothing s) → both ≡ ss ++ s ∷ [] → new ≡ old ++ first_places 0 both
text_more old out new ss both s id count e h more =
    h ∙ ap (λ (t : List ℕ). t ++ (comma id ++ place_text id nothing s)) e
    ∙ append_assoc old (first_places 0 ss) (comma id ++ place_text id nothing s)
    ∙ ap (λ (b : List ℕ). old ++ b) (sym (first_more 0 ss s
    ∙ ap (λ (k : ℕ). first_places 0 ss ++ (comma k ++ place_text k nothing s)) (from_zero ss id count)))
    ∙ ap (λ (ts : List Shown). old ++ first_places 0 ts) (sym more)
  where
    from_zero : (ss : List Shown) (id : ℕ) → length ss ≡ id → 0 + length ss ≡ id
    from_zero ss id e = omega (arith, e)

pub count_more : (ss both : List Shown) (s : Shown) (id : ℕ) → length ss ≡ id → both ≡ ss ++ s ∷ [] → length both ≡ id + 1
count_more ss both s id count more = ap length more ∙ length-append ss (s ∷ []) ∙ ap (λ (n : ℕ). n + 1) count

there : {A : Type 0} (xs : List A) (i : ℕ) → i < length xs → (x : A) × (slice_get xs i ≡ Some x)
there [] i lt = absurd (omega (arith, lt))
there (x ∷ xs) zero lt = (x, refl)
there (x ∷ xs) (suc i) lt = there xs i (omega (arith, lt))

take_next : {A : Type 0} (xs : List A) (i : ℕ) (x : A) → slice_get xs i ≡ Some x → take (i + 1) xs ≡ take i xs ++ x ∷ []
take_next xs i x e = take_more xs i x (slice_get_within xs i x e) ∙ ap (λ y. take i xs ++ y ∷ []) (get_or_from_slice_get xs i x x e)

module _ (program : Module) (kinds : List FlowFacts) where
  -- the next place is shown, by what is known of the same module
  pub next_shown : (same : Module) (known : List FlowFacts) → same ≡ program → known ≡ kinds → (ps : List PlaceState) (id : ℕ)
      → id < length ps → (ss both : List Shown) (s : Shown) → AreShown program kinds (take id ps) ss
      → ((p : PlaceState) → slice_get ps id ≡ Some p → IsShown same known p s) → both ≡ ss ++ s ∷ []
      → AreShown program kinds (take (id + 1) ps) both
  next_shown same known is_same is_known ps id lt ss both s all one more =
      let p = there ps id lt in
      let shown : IsShown program kinds p.0 s =
      subst (λ m. IsShown m kinds p.0 s) is_same (subst (λ k. IsShown same k p.0 s) is_known (one p.0 p.1)) in
      subst (λ (ts : List Shown). AreShown program kinds (take (id + 1) ps) ts) (sym more)
      (subst (λ (qs : List PlaceState). AreShown program kinds qs (ss ++ s ∷ [])) (sym (take_next ps id p.0 p.1))
      (shown_more program kinds (take id ps) ss p.0 s all shown))

  pub none_shown : (ps : List PlaceState) (ss : List Shown) → ss ≡ [] → AreShown program kinds (take 0 ps) ss
  none_shown ps ss e = subst (λ (ts : List Shown). AreShown program kinds [] ts) (sym e) tt

  pub all_shown : (ps : List PlaceState) (ss : List Shown) (n : ℕ) → length ps ≤ n → AreShown program kinds (take n ps) ss
      → AreShown program kinds ps ss
  all_shown ps ss n most h = subst (λ (qs : List PlaceState). AreShown program kinds qs ss) (take_all n ps most) h

-- ---- what is kept of a place

pub shown_at : (xs : List Parts) (i j : ℕ) (x : Parts) → j ≡ i → i < length xs → x ≡ get_or xs j x
    → shown_by x ≡ get_or (map shown_by xs) i nothing
shown_at xs i j x same lt e =
    ap shown_by (e ∙ ap (λ (k : ℕ). get_or xs k x) same) ∙ sym (get_or-map shown_by xs i x nothing lt)

pub shown_put : (xs : List Parts) (i j : ℕ) (x : Parts) → j ≡ i → i < length xs → shown_by x ≡ get_or (map shown_by (slice_set xs j x)) i nothing
shown_put xs i j x same lt =
    let within : i < length (slice_set xs j x) = subst (λ (n : ℕ). i < n) (sym (length-set xs j x)) lt in
    ap shown_by (sym (get_or-set_at xs j i x x (sym same) (subst (λ (k : ℕ). k < length xs) (sym same) lt)))
    ∙ sym (get_or-map shown_by (slice_set xs j x) i x nothing within)

-- what is kept of one place is what it shows
pub kept_one : {A : Type 0} {E : Type 0} (r : Result A E) (program : Module) (kinds : List FlowFacts) (x : WorldState) (place : Option ℕ) (id : ℕ)
    (items both : List Parts) (parts : Parts) → place ≡ Some id → IfSome place (λ k. k < length x.places)
    → ((p : PlaceState) → slice_get x.places id ≡ Some p → ArePartsOf program kinds p parts) → OnOk r (both ≡ slice_set items id parts)
    → OnOk r (Updates program kinds x place (map shown_by items) (map shown_by both))
kept_one (Ok a) program kinds x None id items both parts is lt one e = absurd cc
kept_one (Ok a) program kinds x (Some k) id items both parts is lt one e =
    let same = same_Some k id is in
    let q = there x.places k lt in (
      q.0,
      shown_by parts,
      q.1,
      (parts, one q.0 (subst (λ (n : ℕ). slice_get x.places n ≡ Some q.0) same q.1), refl),
      ap (map shown_by) e ∙ map-set shown_by items id parts
          ∙ ap (λ (n : ℕ). slice_set (map shown_by items) n (shown_by parts)) (sym same),
    )
kept_one (Err a) program kinds x place id items both parts is lt one e = tt

-- ---- the place of an event is there

same_length : (program : Module) (kinds : List FlowFacts) (ps : List PlaceState) (ss : List Shown) → AreShown program kinds ps ss
    → length ss ≡ length ps
same_length program kinds [] [] h = refl
same_length program kinds [] (s ∷ ss) h = absurd h
same_length program kinds (p ∷ ps) [] h = absurd h
same_length program kinds (p ∷ ps) (s ∷ ss) h = ap suc (same_length program kinds ps ss h.1)

one_within : (place : Option ℕ) (id n : ℕ) → place ≡ Some id → id < n → IfSome place (λ k. k < n)
one_within place id n e lt = subst (λ o. IfSome o (λ k. k < n)) (sym e) lt

none_within : (place : Option ℕ) (n : ℕ) → place ≡ None → IfSome place (λ k. k < n)
none_within place n e = subst (λ o. IfSome o (λ k. k < n)) (sym e) tt

-- it is one of those before the event
before_within : (y z : WorldState) (event : Event) (did : Done) (place : Option ℕ) → place ≡ changed_place event did → HasDone y event did z
    → IfSome place (λ k. k < length y.places)
before_within y z (Step id key) done.Idle place e h = none_within place (length y.places) e
before_within y z (Step id key) (done.Moved function pc op first count) place e h =
    one_within place id (length y.places) e (slice_get_within y.places id h.moved.place h.moved.is_there)
before_within y z (Step id key) (done.Taken to) place e h = absurd h
before_within y z (Deliver number) done.Idle place e h = none_within place (length y.places) e
before_within y z (Deliver number) (done.Moved function pc op first count) place e h = absurd h
before_within y z (Deliver number) (done.Taken to) place e h =
    one_within place to (length y.places) e (slice_get_within y.places to h.place h.is_there)

pub changed_within : (program : Module) (kinds : List FlowFacts) (y z : WorldState) (event : Event) (did : Done) (old : List Shown)
    (place : Option ℕ) → place ≡ changed_place event did → HasDone y event did z → AreShown program kinds y.places old
    → IfSome place (λ k. k < length old)
changed_within program kinds y z event did old place e h shown =
    subst (λ (n : ℕ). IfSome place (λ k. k < n)) (sym (same_length program kinds y.places old shown)) (before_within y z event did place e h)

-- there are as many afterwards
as_many : (y z : WorldState) (event : Event) (did : Done) → HasDone y event did z → length z.places ≡ length y.places
as_many y z (Step id key) done.Idle h = ap length h.places_are
as_many y z (Step id key) (done.Moved function pc op first count) h =
    ap length h.moved.places_are ∙ length-set y.places id h.moved.next
as_many y z (Step id key) (done.Taken to) h = absurd h
as_many y z (Deliver number) done.Idle h = ap length h.places_are
as_many y z (Deliver number) (done.Moved function pc op first count) h = absurd h
as_many y z (Deliver number) (done.Taken to) h = ap length h.places_are ∙ length-set y.places to h.next

pub changed_there : (y z : WorldState) (event : Event) (did : Done) (place : Option ℕ) → place ≡ changed_place event did → HasDone y event did z
    → IfSome place (λ k. k < length z.places)
changed_there y z event did place e h =
    subst (λ (n : ℕ). IfSome place (λ k. k < n)) (sym (as_many y z event did h)) (before_within y z event did place e h)
