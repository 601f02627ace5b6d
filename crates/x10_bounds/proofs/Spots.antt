-- The table of spots, one more at a time.
use Rattle.std.proofs.Common.{◌≡◌, ◌≢◌, ◌⊎◌, ℕ, zero, suc, ◌+◌, ◌*◌, ◌^◌, ◌<◌, ◌≤◌, List, [], ◌∷◌, ◌++◌, length, Option, Some, refl, sym, ap, subst, ◌∙◌, inl, inr, add-one, arith}
use Rattle.std.specs.Prelude.{slice_get}
use Rattle.std.proofs.lemmas.Grind.{common_steps}
use Rattle.x10_code.specs.declared.op.Op.{Op}
use Rattle.x10_code.specs.declared.op.Op.TheVariants as op
use Rattle.x10_code.specs.declared.instr.Instr.{Instr}
use Rattle.x10_model.specs.Structure.{Region, Turning, Waiting, Atomic, opener_of, outside, regions_after, passed, around, weight, depth_of}
use Rattle.x10_bounds.specs.Shapes.{shape_of}
use Rattle.x10_bounds.specs.declared.shape.Shape.{Shape}
use Rattle.x10_bounds.specs.declared.shape.Shape.TheVariants as shape
use Rattle.x10_bounds.specs.declared.spot.Spot.{Spot}
use Rattle.x10_bounds.specs.Spots.{AreSpotsTo, capped, spot_of, innermost_of, finishes_of, atomics_of}
use Rattle.x10_bounds.specs.declared.spot.Innermost.{Innermost}
use Rattle.x10_bounds.specs.declared.spot.Innermost.TheVariants as innermost
use Rattle.x10_bounds.proofs.Around.{IsChain, chain, counts-around}
use Rattle.x10_bounds.proofs.Capped.{right_factor}

-- the spot inside a loop
pub in_loop_is : (spot : Spot) (opener limit w : ℕ) (rs : List Region) → spot ≡ spot_of rs → w ≡ capped (limit * spot.weight)
    → ◌≡◌ {A = Spot} (record {
      innermost = innermost.Loop opener;
      loops = spot.loops + 1;
      finishes = spot.finishes;
      atomics = spot.atomics;
      weight = w;
    }) (spot_of (Turning opener limit ∷ rs))
in_loop_is spot opener limit w rs e is =
    ap (λ (s : Spot). record { innermost = innermost.Loop opener; loops = s.loops + 1; finishes = s.finishes; atomics = s.atomics; weight = w }) e
    ∙ ap (λ (n : ℕ). record {
      innermost = innermost.Loop opener;
      loops = depth_of rs + 1;
      finishes = finishes_of rs;
      atomics = atomics_of rs;
      weight = n;
    }) (is ∙ ap (λ (s : Spot). capped (limit * s.weight)) e ∙ right_factor limit (weight rs) (2 ^ 48 + 1))

-- the regions around the next instruction
pub around-more : (code : List Instr) (pc : ℕ) (i : Instr) → slice_get code pc ≡ Some i
    → around code (pc + 1) ≡ regions_after i.op pc i (around code pc)
around-more code pc i e = ap (around code) (add-one pc) ∙ ap (λ (o : Option Instr). passed o pc (around code pc)) e

first_or_more : {A : Type 0} (xs : List A) (x : A) (k : ℕ) → k ≤ length xs
    → ((k < length xs) × (slice_get (xs ++ x ∷ []) k ≡ slice_get xs k)) ⊎ ((k ≡ length xs) × (slice_get (xs ++ x ∷ []) k ≡ Some x))
first_or_more [] x zero le = inr (refl, refl)
first_or_more [] x (suc k) le = absurd (omega arith)
first_or_more (y ∷ xs) x zero le = inl (omega arith, refl)
first_or_more (y ∷ xs) x (suc k) le = elim (first_or_more xs x k (omega arith)) [ inl h ↦ inl (omega arith, h.1) | inr h ↦ inr (omega arith, h.1) ]

pub one_more : (code : List Instr) (n : ℕ) (spots : List Spot) (spot : Spot) → AreSpotsTo code n spots → spot ≡ spot_of (around code (n + 1))
    → AreSpotsTo code (n + 1) (spots ++ spot ∷ [])
one_more code n spots spot are e = record {
  count = grind (arith, common_steps, are.count);
  each = λ pc le.
      let all : length spots ≡ n + 1 = are.count in
      elim (first_or_more spots spot pc (omega arith)) [
        | inl h ↦ let lt : pc < length spots = h.0 in h.1 ∙ are.each pc (omega arith)
        | inr h ↦ let same : pc ≡ n + 1 = omega (arith, h.0) in h.1
            ∙ ap (λ (s : Spot). Some s) (e ∙ ap (λ (k : ℕ). spot_of (around code k)) (sym same))
      ];
}

-- the spot outside the innermost region is that of its opener
pub outside_is : (code : List Instr) (pc : ℕ) (r : Region) (rs : List Region) → around code pc ≡ r ∷ rs
    → (opener_of r < pc) × (rs ≡ around code (opener_of r))
outside_is code pc r rs e = let P : List Region → Type 0 = IsChain code pc in let c : IsChain code pc (r ∷ rs) = subst P e (chain code pc) in
    (c.0, c.1)

-- the innermost region, of whichever sort, has this opener
abbrev pub Opens : ℕ → Innermost → Type 0
Opens o it = (it ≡ innermost.Loop o) ⊎ ((it ≡ innermost.Finish o) ⊎ (it ≡ innermost.Atomic o))

innermost_opens : (code : List Instr) (pc o : ℕ) (rs : List Region) → around code pc ≡ rs → Opens o (innermost_of rs)
    → (o < pc) × (around code o ≡ outside rs)
innermost_opens code pc o [] e h = elim h [ inl k ↦ absurd cc | inr (inl k) ↦ absurd cc | inr (inr k) ↦ absurd cc ]
innermost_opens code pc o (Turning p l ∷ rs) e h =
    let k : p ≡ o = elim h [ inl k ↦ cc | inr (inl k) ↦ absurd cc | inr (inr k) ↦ absurd cc ] in
    let at = outside_is code pc (Turning p l) rs e in
    (omega (arith, at.0, k), sym (at.1 ∙ ap (around code) k))
innermost_opens code pc o (Waiting p ∷ rs) e h =
    let k : p ≡ o = elim h [ inl k ↦ absurd cc | inr (inl k) ↦ cc | inr (inr k) ↦ absurd cc ] in
    let at = outside_is code pc (Waiting p) rs e in
    (omega (arith, at.0, k), sym (at.1 ∙ ap (around code) k))
innermost_opens code pc o (Atomic p ∷ rs) e h =
    let k : p ≡ o = elim h [ inl k ↦ absurd cc | inr (inl k) ↦ absurd cc | inr (inr k) ↦ cc ] in
    let at = outside_is code pc (Atomic p) rs e in
    (omega (arith, at.0, k), sym (at.1 ∙ ap (around code) k))

-- the opener of the innermost region, and what is around it
pub opener_is : (code : List Instr) (pc o : ℕ) (spot : Spot) → spot ≡ spot_of (around code pc) → Opens o spot.innermost
    → (o < pc) × (around code o ≡ outside (around code pc))
opener_is code pc o spot e h =
    let same : spot.innermost ≡ innermost_of (around code pc) = ap (λ (s : Spot). s.innermost) e in
    innermost_opens code pc o (around code pc) refl (subst (Opens o) same h)

-- no region more than instructions
pub has_room : (code : List Instr) (pc : ℕ) (spot : Spot) → spot ≡ spot_of (around code pc)
    → (spot.loops ≤ pc) × ((spot.finishes ≤ pc) × (spot.atomics ≤ pc))
has_room code pc spot e =
    let loops : spot.loops ≡ depth_of (around code pc) = ap (λ (s : Spot). s.loops) e in
    let finishes : spot.finishes ≡ finishes_of (around code pc) = ap (λ (s : Spot). s.finishes) e in
    let atomics : spot.atomics ≡ atomics_of (around code pc) = ap (λ (s : Spot). s.atomics) e in
    let all : depth_of (around code pc) + finishes_of (around code pc) + atomics_of (around code pc) ≤ pc = counts-around code pc in
    (omega arith, (omega arith, omega arith))

-- ---- the regions after an instruction, by its shape

after_loop : (o : Op) (pc : ℕ) (i : Instr) (rs : List Region) → shape_of o ≡ shape.Loop → regions_after o pc i rs ≡ Turning pc i.x ∷ rs
after_loop op.Loop pc i rs e = refl
after_loop _ pc i rs e = absurd cc

after_finish : (o : Op) (pc : ℕ) (i : Instr) (rs : List Region) → shape_of o ≡ shape.Finish → regions_after o pc i rs ≡ Waiting pc ∷ rs
after_finish op.Finb pc i rs e = refl
after_finish _ pc i rs e = absurd cc

after_atomic : (o : Op) (pc : ℕ) (i : Instr) (rs : List Region) → shape_of o ≡ shape.Atomic → regions_after o pc i rs ≡ Atomic pc ∷ rs
after_atomic op.Atomb pc i rs e = refl
after_atomic _ pc i rs e = absurd cc

-- it closes a region, of whichever sort
abbrev pub Closes : Shape → Type 0
Closes s = (s ≡ shape.EndOfLoop) ⊎ ((s ≡ shape.EndOfFinish) ⊎ (s ≡ shape.EndOfAtomic))

after_end : (o : Op) (pc : ℕ) (i : Instr) (rs : List Region) → Closes (shape_of o) → regions_after o pc i rs ≡ outside rs
after_end op.Endl pc i rs e = refl
after_end op.Fine pc i rs e = refl
after_end op.Atome pc i rs e = refl
after_end _ pc i rs e = elim e [ inl h ↦ absurd cc | inr (inl h) ↦ absurd cc | inr (inr h) ↦ absurd cc ]

-- it neither opens nor closes a region
pub record IsPlain (s : Shape) : Type 0 where
  pub no_loop : s ≢ shape.Loop
  pub no_end_of_loop : s ≢ shape.EndOfLoop
  pub no_finish : s ≢ shape.Finish
  pub no_end_of_finish : s ≢ shape.EndOfFinish
  pub no_atomic : s ≢ shape.Atomic
  pub no_end_of_atomic : s ≢ shape.EndOfAtomic

after_other : (o : Op) (pc : ℕ) (i : Instr) (rs : List Region) → IsPlain (shape_of o) → regions_after o pc i rs ≡ rs
after_other op.Loop pc i rs p = absurd (p.no_loop refl)
after_other op.Endl pc i rs p = absurd (p.no_end_of_loop refl)
after_other op.Finb pc i rs p = absurd (p.no_finish refl)
after_other op.Fine pc i rs p = absurd (p.no_end_of_finish refl)
after_other op.Atomb pc i rs p = absurd (p.no_atomic refl)
after_other op.Atome pc i rs p = absurd (p.no_end_of_atomic refl)
after_other _ pc i rs p = refl

abbrev Next : List Instr → ℕ → Spot → Type 0
Next code pc next = next ≡ spot_of (around code (pc + 1))

next_by : (code : List Instr) (pc : ℕ) (i : Instr) (rs : List Region) (next : Spot) → slice_get code pc ≡ Some i
    → regions_after i.op pc i (around code pc) ≡ rs → next ≡ spot_of rs → Next code pc next
next_by code pc i rs next at e is = is ∙ ap spot_of (sym e ∙ sym (around-more code pc i at))

pub next_in_loop : (code : List Instr) (pc : ℕ) (i : Instr) (s : Shape) (next : Spot) → slice_get code pc ≡ Some i → s ≡ shape_of i.op
    → s ≡ shape.Loop → next ≡ spot_of (Turning pc i.x ∷ around code pc) → Next code pc next
next_in_loop code pc i s next at is e n = next_by code pc i (Turning pc i.x ∷ around code pc) next at
    (after_loop i.op pc i (around code pc) (sym is ∙ e)) n

pub next_in_finish : (code : List Instr) (pc : ℕ) (i : Instr) (s : Shape) (next : Spot) → slice_get code pc ≡ Some i → s ≡ shape_of i.op
    → s ≡ shape.Finish → next ≡ spot_of (Waiting pc ∷ around code pc) → Next code pc next
next_in_finish code pc i s next at is e n = next_by code pc i (Waiting pc ∷ around code pc) next at
    (after_finish i.op pc i (around code pc) (sym is ∙ e)) n

pub next_in_atomic : (code : List Instr) (pc : ℕ) (i : Instr) (s : Shape) (next : Spot) → slice_get code pc ≡ Some i → s ≡ shape_of i.op
    → s ≡ shape.Atomic → next ≡ spot_of (Atomic pc ∷ around code pc) → Next code pc next
next_in_atomic code pc i s next at is e n = next_by code pc i (Atomic pc ∷ around code pc) next at
    (after_atomic i.op pc i (around code pc) (sym is ∙ e)) n

pub next_outside : (code : List Instr) (pc : ℕ) (i : Instr) (s : Shape) (next : Spot) → slice_get code pc ≡ Some i → s ≡ shape_of i.op → Closes s
    → next ≡ spot_of (outside (around code pc)) → Next code pc next
next_outside code pc i s next at is e n = next_by code pc i (outside (around code pc)) next at
    (after_end i.op pc i (around code pc) (subst Closes is e)) n

pub next_same : (code : List Instr) (pc : ℕ) (i : Instr) (s : Shape) (next : Spot) → slice_get code pc ≡ Some i → s ≡ shape_of i.op → IsPlain s
    → next ≡ spot_of (around code pc) → Next code pc next
next_same code pc i s next at is p n = next_by code pc i (around code pc) next at (after_other i.op pc i (around code pc) (subst IsPlain is p)) n
