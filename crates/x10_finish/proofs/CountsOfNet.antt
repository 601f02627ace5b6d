-- Counts follow the machine's net, event by event.
use Rattle.std.proofs.Common.{◌≡◌, ℕ, ◌+◌, ◌-◌, Option, Some, None, inl, inr, sym, ◌∙◌, ap, subst}
use Rattle.std.proofs.lemmas.Bool.{cases_eq}
use Rattle.std.proofs.lemmas.Option.{same_Some}
use Rattle.x10_model.specs.Maps.{with_entry, with_pair}
use Rattle.x10_model.specs.declared.finish.Finish.{Finish}
use Rattle.x10_model.specs.Places.{Stay, Message}
use Rattle.x10_model.specs.Worlds.{Post, Flying, Taken, Unused}
use Rattle.x10_finish.specs.Nesting.{Stays}
use Rattle.x10_finish.specs.Telling.{HowMany, Inherits, IsBetween, FliesBetween}
use Rattle.x10_finish.proofs.Entries.{at_entry, at_pair}
use Rattle.x10_finish.proofs.NestedFinishes.{pair_same, pair_other, no_stay}
use Rattle.x10_finish.proofs.HowMany.{many_same, many_more, many_less}
use Rattle.x10_model.proofs.Events.{flying_is}
use Rattle.x10_model.proofs.Maps.{at_key, off_key}

-- so many stays inherited the finish at each place; so many messages fly from each place to each
abbrev pub Live : Stays → Finish → (ℕ → ℕ) → Type 0
Live stays f live = (p : ℕ) → HowMany (Inherits stays f p) (live p)

abbrev pub Fly : (ℕ → Post) → Finish → (ℕ → ℕ → ℕ) → Type 0
Fly posts f flying = (p q : ℕ) → HowMany (FliesBetween posts f p q) (flying p q)

-- ---- one stay changes

inherits_other : (stays : Stays) (f : Finish) (here key p k : ℕ) (o : Option Stay) → ((p ≡ here) × (k ≡ key) → ⊥) → Inherits stays f p k
    → Inherits (with_pair stays here key o) f p k
inherits_other stays f here key p k o apart i = (i.0, pair_other stays here key p k o apart ∙ i.1, i.2)

inherited_other : (stays : Stays) (f : Finish) (here key p k : ℕ) (o : Option Stay) → ((p ≡ here) × (k ≡ key) → ⊥)
    → Inherits (with_pair stays here key o) f p k → Inherits stays f p k
inherited_other stays f here key p k o apart i = (i.0, sym (pair_other stays here key p k o apart) ∙ i.1, i.2)

there_or_apart : (here key p k : ℕ) (P : ℕ → ℕ → Type 0) → P here key → (((p ≡ here) × (k ≡ key) → ⊥) → P p k) → P p k
there_or_apart here key p k P there other = elim (cases_eq p here) [
  | inl ep ↦ elim (cases_eq k key) [
    | inl ek ↦ subst (λ x. P x k) (sym ep) (subst (P here) (sym ek) there)
    | inr nk ↦ other (λ both. nk both.1)
  ]
  | inr np ↦ other (λ both. np both.0)
]

-- the one that changes has inherited the same as before
live_key : (stays : Stays) (f : Finish) (here key : ℕ) (o : Option Stay) (live : ℕ → ℕ)
    → (Inherits stays f here key → Inherits (with_pair stays here key o) f here key)
    → (Inherits (with_pair stays here key o) f here key → Inherits stays f here key) → Live stays f live
    → Live (with_pair stays here key o) f live
live_key stays f here key o live on back l p =
    many_same (Inherits stays f p) (Inherits (with_pair stays here key o) f p) (live p) (l p)
    (λ k. there_or_apart here key p k (λ x y. Inherits stays f x y → Inherits (with_pair stays here key o) f x y) on
    (λ apart. inherits_other stays f here key p k o apart))
    (λ k. there_or_apart here key p k (λ x y. Inherits (with_pair stays here key o) f x y → Inherits stays f x y) back
    (λ apart. inherited_other stays f here key p k o apart))

pub live_same : (stays : Stays) (f : Finish) (here key : ℕ) (s t : Stay) (live : ℕ → ℕ) → stays here key ≡ Some s → t.inherited ≡ s.inherited
    → Live stays f live → Live (with_pair stays here key (Some t)) f live
live_same stays f here key s t live there same =
    live_key stays f here key (Some t) live
    (λ i. (t, pair_same stays here key (Some t), same ∙ ap (λ (x : Stay). x.inherited) (same_Some s i.0 (sym there ∙ i.1)) ∙ i.2))
    (λ i. (s, there, sym same ∙ ap (λ (x : Stay). x.inherited) (same_Some t i.0 (sym (pair_same stays here key (Some t)) ∙ i.1)) ∙ i.2))

-- a stay is new that inherited another finish
pub live_new_other : (stays : Stays) (f : Finish) (here key : ℕ) (u : Stay) (live : ℕ → ℕ) → stays here key ≡ None → (u.inherited ≡ f → ⊥)
    → Live stays f live → Live (with_pair stays here key (Some u)) f live
live_new_other stays f here key u live free apart =
    live_key stays f here key (Some u) live (λ i. no_stay i.0 (sym free ∙ i.1))
    (λ i. absurd (apart (ap (λ (x : Stay). x.inherited) (same_Some u i.0 (sym (pair_same stays here key (Some u)) ∙ i.1)) ∙ i.2)))

-- a stay is gone that had inherited another finish
pub live_gone_other : (stays : Stays) (f : Finish) (here key : ℕ) (s : Stay) (live : ℕ → ℕ) → stays here key ≡ Some s → (s.inherited ≡ f → ⊥)
    → Live stays f live → Live (with_pair stays here key None) f live
live_gone_other stays f here key s live there apart =
    live_key stays f here key None live (λ i. absurd (apart (ap (λ (x : Stay). x.inherited) (same_Some s i.0 (sym there ∙ i.1)) ∙ i.2)))
    (λ i. no_stay i.0 (sym (pair_same stays here key None) ∙ i.1))

-- at another place nothing changes
live_apart : (stays : Stays) (f : Finish) (here key p : ℕ) (o : Option Stay) (n : ℕ) → (p ≡ here → ⊥) → HowMany (Inherits stays f p) n
    → HowMany (Inherits (with_pair stays here key o) f p) n
live_apart stays f here key p o n apart h =
    many_same (Inherits stays f p) (Inherits (with_pair stays here key o) f p) n h (λ k. inherits_other stays f here key p k o (λ both. apart both.0))
    (λ k. inherited_other stays f here key p k o (λ both. apart both.0))

-- a stay is new
pub live_new : (stays : Stays) (f : Finish) (here key : ℕ) (u : Stay) (live : ℕ → ℕ) → stays here key ≡ None → u.inherited ≡ f → Live stays f live
    → Live (with_pair stays here key (Some u)) f (with_entry live here (live here + 1))
live_new stays f here key u live free is l p =
    at_entry (HowMany (Inherits (with_pair stays here key (Some u)) f p)) live here p (live here + 1)
    (λ same. subst (λ x. HowMany (Inherits (with_pair stays here key (Some u)) f x) (live here + 1)) (sym same)
    (many_more (Inherits stays f here) (Inherits (with_pair stays here key (Some u)) f here) (live here) key (l here)
    (λ i. no_stay i.0 (sym free ∙ i.1)) (u, pair_same stays here key (Some u), is)
    (λ k apart. inherits_other stays f here key here k (Some u) (λ both. apart both.1))
    (λ k apart. inherited_other stays f here key here k (Some u) (λ both. apart both.1))))
    (λ apart. live_apart stays f here key p (Some u) (live p) apart (l p))

-- a stay is gone
pub live_gone : (stays : Stays) (f : Finish) (here key : ℕ) (s : Stay) (live : ℕ → ℕ) → stays here key ≡ Some s → s.inherited ≡ f → Live stays f live
    → Live (with_pair stays here key None) f (with_entry live here (live here - 1))
live_gone stays f here key s live there is l p =
    at_entry (HowMany (Inherits (with_pair stays here key None) f p)) live here p (live here - 1)
    (λ same. subst (λ x. HowMany (Inherits (with_pair stays here key None) f x) (live here - 1)) (sym same)
    (many_less (Inherits stays f here) (Inherits (with_pair stays here key None) f here) (live here) key (l here) (s, there, is)
    (λ i. no_stay i.0 (sym (pair_same stays here key None) ∙ i.1))
    (λ k apart. inherits_other stays f here key here k None (λ both. apart both.1))
    (λ k apart. inherited_other stays f here key here k None (λ both. apart both.1))))
    (λ apart. live_apart stays f here key p None (live p) apart (l p))

-- ---- one message changes

flies_other : (posts : ℕ → Post) (f : Finish) (p q number m : ℕ) (o : Post) → (m ≡ number → ⊥) → FliesBetween posts f p q m
    → FliesBetween (with_entry posts number o) f p q m
flies_other posts f p q number m o apart b = (b.0, off_key posts number m o apart ∙ b.1, b.2)

flew_other : (posts : ℕ → Post) (f : Finish) (p q number m : ℕ) (o : Post) → (m ≡ number → ⊥) → FliesBetween (with_entry posts number o) f p q m
    → FliesBetween posts f p q m
flew_other posts f p q number m o apart b = (b.0, sym (off_key posts number m o apart) ∙ b.1, b.2)

-- neither before nor after does it fly from the one to the other
flies_same : (posts : ℕ → Post) (f : Finish) (p q number n : ℕ) (o : Post) → (FliesBetween posts f p q number → ⊥)
    → (FliesBetween (with_entry posts number o) f p q number → ⊥) → HowMany (FliesBetween posts f p q) n
    → HowMany (FliesBetween (with_entry posts number o) f p q) n
flies_same posts f p q number n o before after h =
    many_same (FliesBetween posts f p q) (FliesBetween (with_entry posts number o) f p q) n h
    (λ m. elim (cases_eq m number) [
      | inl e ↦ (λ b. absurd (before (subst (FliesBetween posts f p q) e b)))
      | inr apart ↦ flies_other posts f p q
          number m o apart
    ])
    (λ m. elim (cases_eq m number) [
      | inl e ↦ (λ b. absurd (after (subst (FliesBetween (with_entry posts number o) f p q) e b)))
      | inr apart ↦
          flew_other posts f p q number m o apart
    ])

pub not_unused : {A : Type 0} (m : Message) → Unused ≡ Flying m → A
not_unused m e = absurd cc

not_taken : {A : Type 0} (m : Message) → Taken ≡ Flying m → A
not_taken m e = absurd cc

-- a message flies that is under no such finish
pub fly_other : (posts : ℕ → Post) (f : Finish) (number : ℕ) (message : Message) (flying : ℕ → ℕ → ℕ) → posts number ≡ Unused
    → ((p q : ℕ) → IsBetween f p q message → ⊥) → Fly posts f flying → Fly (with_entry posts number (Flying message)) f flying
fly_other posts f number message flying unused apart l p q =
    flies_same posts f p q number (flying p q) (Flying message) (λ b. not_unused b.0 (sym unused ∙ b.1))
    (λ b. apart p q (subst (IsBetween f p q) (sym (flying_is message b.0 (sym (at_key posts number (Flying message)) ∙ b.1))) b.2)) (l p q)

-- a message flies from one place to another
pub fly_new : (posts : ℕ → Post) (f : Finish) (number from to : ℕ) (message : Message) (flying : ℕ → ℕ → ℕ) → posts number ≡ Unused
    → IsBetween f from to message → ((p q : ℕ) → IsBetween f p q message → (p ≡ from) × (q ≡ to)) → Fly posts f flying
    → Fly (with_entry posts number (Flying message)) f (with_pair flying from to (flying from to + 1))
fly_new posts f number from to message flying unused is one l p q =
    at_pair (HowMany (FliesBetween (with_entry posts number (Flying message)) f p q)) flying from to p q (flying from to + 1)
    (λ ep eq. subst (λ x. HowMany (FliesBetween (with_entry posts number (Flying message)) f x q) (flying from to + 1)) (sym ep)
    (subst (λ y. HowMany (FliesBetween (with_entry posts number (Flying message)) f from y) (flying from to + 1)) (sym eq)
    (many_more (FliesBetween posts f from to) (FliesBetween (with_entry posts number (Flying message)) f from to) (flying from to) number (l from to)
    (λ b. not_unused b.0 (sym unused ∙ b.1)) (message, at_key posts number (Flying message), is)
    (λ m apart. flies_other posts f from to number m (Flying message) apart)
    (λ m apart. flew_other posts f from to number m (Flying message) apart))))
    (λ other. flies_same posts f p q number (flying p q) (Flying message) (λ b. not_unused b.0 (sym unused ∙ b.1))
    (λ b. other (one p q (subst (IsBetween f p q) (sym (flying_is message b.0 (sym (at_key posts number (Flying message)) ∙ b.1))) b.2))) (l p q))

-- a message is taken in that was under no such finish
pub fly_taken_other : (posts : ℕ → Post) (f : Finish) (number : ℕ) (message : Message) (flying : ℕ → ℕ → ℕ) → posts number ≡ Flying message
    → ((p q : ℕ) → IsBetween f p q message → ⊥) → Fly posts f flying → Fly (with_entry posts number Taken) f flying
fly_taken_other posts f number message flying was apart l p q =
    flies_same posts f p q number (flying p q) Taken (λ b. apart p q (subst (IsBetween f p q) (sym (flying_is message b.0 (sym was ∙ b.1))) b.2))
    (λ b. not_taken b.0 (sym (at_key posts number Taken) ∙ b.1)) (l p q)

-- a message from one place to another is taken in
pub fly_taken : (posts : ℕ → Post) (f : Finish) (number from to : ℕ) (message : Message) (flying : ℕ → ℕ → ℕ) → posts number ≡ Flying message
    → IsBetween f from to message → ((p q : ℕ) → IsBetween f p q message → (p ≡ from) × (q ≡ to)) → Fly posts f flying
    → Fly (with_entry posts number Taken) f (with_pair flying from to (flying from to - 1))
fly_taken posts f number from to message flying was is one l p q =
    at_pair (HowMany (FliesBetween (with_entry posts number Taken) f p q)) flying from to p q (flying from to - 1)
    (λ ep eq. subst (λ x. HowMany (FliesBetween (with_entry posts number Taken) f x q) (flying from to - 1)) (sym ep)
    (subst (λ y. HowMany (FliesBetween (with_entry posts number Taken) f from y) (flying from to - 1)) (sym eq)
    (many_less (FliesBetween posts f from to) (FliesBetween (with_entry posts number Taken) f from to) (flying from to) number (l from to)
    (message, was, is) (λ b. not_taken b.0 (sym (at_key posts number Taken) ∙ b.1))
    (λ m apart. flies_other posts f from to number m Taken apart) (λ m apart. flew_other posts f from to number m Taken apart))))
    (λ other. flies_same posts f p q number (flying p q) Taken
    (λ b. other (one p q (subst (IsBetween f p q) (sym (flying_is message b.0 (sym was ∙ b.1))) b.2)))
    (λ b. not_taken b.0 (sym (at_key posts number Taken) ∙ b.1)) (l p q))
