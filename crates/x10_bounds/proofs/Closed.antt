-- Where a function nests, each region is closed.
use Rattle.std.proofs.Common.{◌≡◌, ◌⊎◌, ℕ, zero, suc, ◌<◌, ◌≤◌, Bool, true, false, ◌==◌, ◌&&◌, List, [], ◌∷◌, length, Option, Some, None, refl, sym, subst, inl, inr, arith}
use Rattle.std.specs.Prelude.{if◌then◌else◌, not, slice_get, IsTrue, IsSome}
use Rattle.x10_code.specs.declared.op.Op.{Op}
use Rattle.x10_code.specs.declared.op.Op.TheVariants as op
use Rattle.x10_code.specs.declared.instr.Instr.{Instr}
use Rattle.x10_model.specs.Structure.{Region, opener_of, outside, regions_after, passed, around, nests, is_empty, ends_well, or_else, first_failing, nesting_fault}
use Rattle.std.proofs.lemmas.Option.{slice_get_within}
use Rattle.x10_model.proofs.Decided.{get_below}
use Rattle.x10_bounds.specs.Regions.{closed_by, first_opener, is_number, is_opener, leaves_open, closer_of}
use Rattle.x10_bounds.proofs.Changes as change
use Rattle.x10_bounds.proofs.Changes.{Change}
use Rattle.x10_bounds.proofs.FirstFailure.{none_fails}
use Rattle.x10_model.proofs.Balance.{last_or_below}

-- one of the regions begins at an opener
abbrev IsOpen : ℕ → List Region → Type 0
IsOpen o [] = ⊥
IsOpen o (r ∷ rs) = (opener_of r ≡ o) ⊎ IsOpen o rs

eq_yes : (a b : ℕ) → a ≡ b → (a == b) ≡ true
eq_yes a b e = grind arith

stays_outside : (o : ℕ) (rs : List Region) → is_number o (first_opener rs) ≡ false → IsOpen o rs → IsOpen o (outside rs)
stays_outside o [] other h = absurd h
stays_outside o (r ∷ rs) other h = elim h [
  | inl e ↦ absurd (let yes : (opener_of r == o) ≡ true = eq_yes (opener_of r) o e in cc)
  | inr inner ↦ inner
]

-- it stays open past an instruction that doesn't close it
stays : (o pc : ℕ) (rs : List Region) (closed : Option ℕ) (after : List Region) → Change pc rs closed after → is_number o closed ≡ false
    → IsOpen o rs → IsOpen o after
stays o pc rs None after (change.opens r x) other h = inr h
stays o pc rs closed after change.closes other h = stays_outside o rs other h
stays o pc rs None after change.keeps other h = h

opens : (p : Op) (pc : ℕ) (i : Instr) (rs : List Region) → is_opener p ≡ true → IsOpen pc (regions_after p pc i rs)
opens op.Loop pc i rs e = inl refl
opens op.Finb pc i rs e = inl refl
opens op.Atomb pc i rs e = inl refl
opens _ pc i rs e = absurd cc

is_false : (b : Bool) → not b ≡ true → b ≡ false
is_false true e = absurd cc
is_false false e = refl

-- a region that nothing closes is open from its opener on
stays_open : (code : List Instr) (o : ℕ) (i : Instr) → slice_get code o ≡ Some i → is_opener i.op ≡ true → closer_of code o ≡ None → (x : ℕ) → o < x
    → x ≤ length code → IsOpen o (around code x)
stays_open code o i at opener none zero lt le = absurd (omega arith)
stays_open code o i at opener none (suc x) lt le = elim (last_or_below o x lt) [
  | inl e ↦ subst (λ (k : ℕ). IsOpen o (around code (suc k))) e
      (subst (λ (j : Option Instr). IsOpen o (passed j o (around code o))) (sym at) (opens i.op o i (around code o) opener))
  | inr before ↦
      let here = get_below code x (omega arith) in
      let other = is_false (is_number o (closed_by here.0.op (around code x))) (none_fails (leaves_open code o) code x here.0 none here.1) in
      let h = stays o x (around code x) _ _ (change.change here.0.op x here.0 (around code x)) other
      (stays_open code o i at opener none x before (omega arith)) in
      subst (λ (j : Option Instr). IsOpen o (passed j x (around code x))) (sym here.1) h
]

both_none : (a b : Option ℕ) → or_else a b ≡ None → (a ≡ None) × (b ≡ None)
both_none None b e = (refl, e)
both_none (Some pc) b e = absurd cc

is_true : (b : Bool) (pc : ℕ) → (if b then None else Some pc) ≡ None → b ≡ true
is_true true pc e = refl
is_true false pc e = absurd cc

first_true : (a b : Bool) → (a && b) ≡ true → a ≡ true
first_true true b e = refl
first_true false b e = absurd cc

no_region : (o : ℕ) (rs : List Region) → is_empty rs ≡ true → IsOpen o rs → ⊥
no_region o [] e h = h
no_region o (r ∷ rs) e h = absurd cc

some_or_none : (o : Option ℕ) → (o ≡ None → ⊥) → IsSome o
some_or_none None h = absurd (h refl)
some_or_none (Some n) h = refl

-- where a function nests, each opener has a closer
pub is_closed : (code : List Instr) → nesting_fault code ≡ None → (pc : ℕ) (i : Instr) → slice_get code pc ≡ Some i → IsTrue (is_opener i.op)
    → IsSome (closer_of code pc)
is_closed code nested pc i at opener =
    let ends : ends_well code ≡ true = is_true (ends_well code) _
    (both_none (first_failing (λ pc i. nests i.op (around code pc)) 0 code) _ nested).1 in
    let within = slice_get_within code pc i at in
    some_or_none (closer_of code pc) (λ none. no_region pc (around code (length code)) (first_true (is_empty (around code (length code))) _ ends)
    (stays_open code pc i at opener none (length code) within (omega arith)))
