-- What an effect leaves: a state again, and from a state that knows more one that knows more.
use Rattle.std.proofs.Common.{◌≡◌, ℕ, ◌<◌, Bool, true, false, not, ◌==◌, Option, Some, None, refl, sym, subst, ◌∙◌, inl, inr}
use Rattle.std.proofs.lemmas.Bool.{eq-eqb, eqb-true, cases_Bool}
use Rattle.std.proofs.lemmas.Option.{same_Some}
use Rattle.x10_kinds.specs.declared.kind.Kind.{Kind}
use Rattle.x10_kinds.specs.declared.homes.Term.{Term}
use Rattle.x10_kinds.specs.declared.homes.Term.TheVariants as term
use Rattle.x10_kinds.specs.Kinds.{Fits, has_place}
use Rattle.x10_kinds.specs.Equations.{Equations, IsTerm, Includes, same_term, joined, written}
use Rattle.x10_kinds.proofs.KindLemmas.{Fits-refl}
use Rattle.x10_kinds.proofs.Equivalences.{alone_ways, ways, joined_is, joined-more, written-None_is, written-Some_is, written-None-more, written-Some-more}
use Rattle.x10_kinds.proofs.Terms.{same_term-is}
use Rattle.x10_model.specs.Maps.{with_entry}
use Rattle.x10_model.specs.Assignments.{State, IsState, IsBelow, IsKind, holds_place, set}
use Rattle.x10_code.specs.declared.rule.Effect.{Effect}
use Rattle.x10_code.specs.declared.rule.Effect.TheVariants.{Keeps, Sets, Joins}
use Rattle.x10_model.specs.Assignments.{after}
use Rattle.x10_verify.specs.Effects.{StandsFor, IsSoundIn, Leaves, IsTermLike}
use Rattle.x10_verify.proofs.Below.{entry_cases}

pub stands_term : (s : State) (t : Term) → StandsFor s t → IsTerm t
stands_term s term.Here h = tt
stands_term s (term.Place p) h = h
stands_term s (term.Reg r) h = h.0

-- ---- what knows more

more_written : (r s : Equations) (reg : ℕ) (like : Option Term) → IsTermLike like → Includes r s → Includes (written r reg like) (written s reg like)
more_written r s reg None it more = written-None-more r s reg more
more_written r s reg (Some t) it more = written-Some-more r s reg t it more

set_kinds : (s t : State) (r : ℕ) (k l : Kind) (like : Option Term) → Fits k l → IsBelow s t → (q : ℕ) (want : Kind)
    → with_entry t.kinds r (Some l) q ≡ Some want → IsKind (set s r k like) q want
set_kinds s t r k l like fits below q want e = elim (entry_cases (Option Kind) r q) [
  | inl at ↦ (k, at.1 s.kinds (Some k), subst (λ w. Fits k w) (same_Some l want (sym (at.1 t.kinds (Some l)) ∙ e)) fits)
  | inr off ↦ (let h = below.kinds q want (sym (off.1 t.kinds (Some l)) ∙ e) in (h.0, off.1 s.kinds (Some k) ∙ h.1, h.2))
]

-- a kind written to the same register of both
set_below : (s t : State) (r : ℕ) (k l : Kind) (like : Option Term) → IsTermLike like → Fits k l → IsBelow s t
    → IsBelow (set s r k like) (set t r l like)
set_below s t r k l like it fits below = record {
  kinds = set_kinds s t r k l like fits below;
  homes = more_written s.homes t.homes r like it below.homes;
}

like_term : (s : State) (k : Kind) (like : Option Term) → IsSoundIn s (Sets k like) → IsTermLike like
like_term s k None h = tt
like_term s k (Some t) h = stands_term s t h.1

same_below : (a : ℕ) (s t : State) (e : Effect) → IsSoundIn s e → IsBelow s t → IsBelow (after a s e) (after a t e)
same_below a s t Keeps sound below = below
same_below a s t (Sets k like) sound below = set_below s t a k k like (like_term s k like sound) (Fits-refl k) below
same_below a s t (Joins u v) sound below = record {
  kinds = below.kinds;
  homes = joined-more s.homes t.homes u v (stands_term s u sound.0) (stands_term s v sound.1) below.homes;
}

pub after_below : (a : ℕ) (s t : State) (e f : Effect) → IsSoundIn s e → Leaves e f → IsBelow s t → IsBelow (after a s e) (after a t f)
after_below a s t e f sound (inl same) below = subst (λ x. IsBelow (after a s e) (after a t x)) same (same_below a s t e sound below)
after_below a s t e f sound (inr fit) below =
    let is : IsSoundIn s (Sets fit.0 fit.2) = subst (λ x. IsSoundIn s x) fit.4 sound in
    subst (λ x. IsBelow (after a s x) (after a t f)) (sym fit.4)
    (subst (λ x. IsBelow (after a s (Sets fit.0 fit.2)) (after a t x)) (sym fit.5)
    (set_below s t a fit.0 fit.1 fit.2 (like_term s fit.0 fit.2 is) fit.3 below))

-- ---- what an effect leaves is a state

abbrev pub IsAloneIn : State → Type 0
IsAloneIn s = (r : ℕ) (t : Term) → r < 64 → holds_place (s.kinds r) ≡ false → IsTerm t → s.homes (term.Reg r) t ≡ true → t ≡ term.Reg r

both : (b : Bool) → b ≡ true → b ≡ false → ⊥
both true e f = absurd cc
both false e f = absurd cc

-- registers that differ, and one that was not written
apart : (r a : ℕ) → (r ≡ a → ⊥) → same_term (term.Reg r) (term.Reg a) ≡ false
apart r a ne = elim (cases_Bool (r == a)) [ inl same ↦ absurd (ne (eqb-true r a same)) | inr other ↦ other ]

set_alone_None : (s : State) (a : ℕ) (k : Kind) → IsState s → IsAloneIn (set s a k None)
set_alone_None s a k is r t lt none it e = elim (alone_ways s.homes a (term.Reg r) t e) [
  | inl same ↦ sym (same_term-is (term.Reg r) t same)
  | inr known ↦ (elim (entry_cases (Option Kind) a r) [
    | inl at ↦ absurd (both (r == a) (eq-eqb r a at.0) (differs (r == a) known.0))
    | inr off ↦ is.alone r t lt (subst (λ o. holds_place o ≡ false) (off.1 s.kinds (Some k)) none) it known.2
  ])
]
  where
    differs : (b : Bool) → not b ≡ true → b ≡ false
    differs true f = absurd cc
    differs false f = refl

set_alone_Some : (s : State) (a : ℕ) (k : Kind) (u : Term) → has_place k ≡ true → StandsFor s u → IsState s → IsAloneIn (set s a k (Some u))
set_alone_Some s a k u placed stands is r t lt none it e = elim (entry_cases (Option Kind) a r) [
  | inl at ↦ absurd (both (has_place k) placed (subst (λ o. holds_place o ≡ false) (at.1 s.kinds (Some k)) none))
  | inr off ↦ other off.0 (subst (λ o. holds_place o ≡ false) (off.1 s.kinds (Some k)) none)
]
  where
    -- the term that stood for register r is not u
    not_u : holds_place (s.kinds r) ≡ false → u ≡ term.Reg r → ⊥
    not_u free same = both (holds_place (s.kinds r)) (subst (λ x. StandsFor s x) same stands).1 free

    chosen : (b : Bool) → same_term t (term.Reg a) ≡ b → (r ≡ a → ⊥) → holds_place (s.kinds r) ≡ false → t ≡ term.Reg r
    chosen true f ne free =
        let old : s.homes (term.Reg r) u ≡ true = rw (apart r a ne, f) at e in
        absurd (not_u free (is.alone r u lt free (stands_term s u stands) old))
    chosen false f ne free =
        let old : s.homes (term.Reg r) t ≡ true = rw (apart r a ne, f) at e in
        is.alone r t lt free it old

    other : (r ≡ a → ⊥) → holds_place (s.kinds r) ≡ false → t ≡ term.Reg r
    other ne free = chosen (same_term t (term.Reg a)) refl ne free

join_alone : (s : State) (t u : Term) → StandsFor s t → StandsFor s u → IsState s → IsAloneIn (record s { homes = joined s.homes t u })
join_alone s t u one two is r v lt none it e = elim (ways s.homes t u (term.Reg r) v e) [
  | inl direct ↦ is.alone r v lt none it direct
  | inr rest ↦ elim rest [
    | inl forth ↦ absurd (not_placed t one (is.alone r t lt none (stands_term s t one) forth.0))
    | inr back ↦ absurd (not_placed u two (is.alone r u lt none (stands_term s u two) back.0))
  ]
]
  where
    not_placed : (x : Term) → StandsFor s x → x ≡ term.Reg r → ⊥
    not_placed x stands same = both (holds_place (s.kinds r)) (subst (λ y. StandsFor s y) same stands).1 none

pub after_state : (a : ℕ) (s : State) (e : Effect) → IsSoundIn s e → IsState s → IsState (after a s e)
after_state a s Keeps sound is = is
after_state a s (Sets k None) sound is = record { equivalence = written-None_is s.homes a is.equivalence; alone = set_alone_None s a k is }
after_state a s (Sets k (Some t)) sound is = record {
  equivalence = written-Some_is s.homes a t (stands_term s t sound.1) is.equivalence;
  alone = set_alone_Some s a k t sound.0 sound.1 is;
}
after_state a s (Joins t u) sound is = record {
  equivalence = joined_is s.homes t u (stands_term s t sound.0)
      (stands_term s u sound.1) is.equivalence;
  alone = join_alone s t u sound.0 sound.1 is;
}
