-- The levels of a function's code: how they change from one instruction to the next.
use Rattle.std.proofs.Common.{◌≡◌, ◌≢◌, ℕ, zero, suc, ◌+◌, ◌*◌, ◌≤◌, true, false, List, [], ◌∷◌, length, drop, Some, ◌⊎◌, inl, inr, refl, sym, ap, subst, ◌∙◌, arith}
use Rattle.std.specs.Prelude.{slice_get}
use Rattle.std.proofs.lemmas.Bool.{cases_lt}
use Rattle.x10_code.specs.declared.op.Op.{Op}
use Rattle.x10_code.specs.declared.op.Op.TheVariants as op
use Rattle.x10_code.specs.declared.instr.Instr.{Instr}
use Rattle.x10_model.specs.Structure.{Region, Turning, Waiting, Atomic, around, nests, weight, depth_of, is_call, cost, steps_from, bound_of}
use Rattle.x10_model.proofs.Decided.{get_below}
use Rattle.x10_bounds.specs.Potential.{inner, outer, total, levels_before, levels, levels_from}
use Rattle.x10_bounds.proofs.Changes.{Nested, nested, opens_loop, closes_loop, no_loop, kept}
use Rattle.x10_bounds.proofs.FirstFailure.{drop-at, drop-end}
use Rattle.x10_bounds.proofs.Spots.{around-more}

-- the levels at an instruction, by those at the next
pub levels-at : (earlier : List ℕ) (code : List Instr) (pc : ℕ) (i : Instr) → slice_get code pc ≡ Some i
    → levels_from earlier code pc ≡ levels_before earlier i.op i (levels_from earlier code (pc + 1))
levels-at earlier code pc i e = ap (levels earlier) (drop-at code pc i e)

pub levels-end : (earlier : List ℕ) (code : List Instr) (pc : ℕ) → length code ≤ pc → levels_from earlier code pc ≡ []
levels-end earlier code pc le = ap (levels earlier) (drop-end code pc le)

pub parted : (ls : List ℕ) → inner ls + total (outer ls) ≡ total ls
parted [] = refl
parted (l ∷ ls) = refl

-- the levels past the innermost ones
abbrev pub past : ℕ → List ℕ → List ℕ
past zero ls = ls
past (suc k) ls = past k (outer ls)

past-nil : (k : ℕ) → past k [] ≡ []
past-nil zero = refl
past-nil (suc k) = past-nil k

-- ---- what the levels are worth: each level as often as the loops around it turn

abbrev pub worth : List ℕ → List Region → ℕ
worth ls [] = inner ls
worth ls (Turning o limit ∷ rs) = inner ls * (limit * weight rs) + worth (outer ls) rs
worth ls (Waiting o ∷ rs) = worth ls rs
worth ls (Atomic o ∷ rs) = worth ls rs

worth-nil : (rs : List Region) → worth [] rs ≡ 0
worth-nil [] = refl
worth-nil (Turning o l ∷ rs) = let h : worth [] rs ≡ 0 = worth-nil rs in omega (arith, h)
worth-nil (Waiting o ∷ rs) = worth-nil rs
worth-nil (Atomic o ∷ rs) = worth-nil rs

at_or_past : (code : List Instr) (pc : ℕ) → ((i : Instr) × (slice_get code pc ≡ Some i)) ⊎ (length code ≤ pc)
at_or_past code pc = elim (cases_lt pc (length code)) [ inl lt ↦ inl (get_below code pc lt) | inr le ↦ inr le ]

none_left : (earlier : List ℕ) (code : List Instr) (pc : ℕ) → length code ≤ pc
    → steps_from earlier code pc (drop pc code) ≡ worth (levels_from earlier code pc) (around code pc)
none_left earlier code pc le = ap (steps_from earlier code pc) (drop-end code pc le)
    ∙ sym (ap (λ ls. worth ls (around code pc)) (levels-end earlier code pc le) ∙ worth-nil (around code pc))

plain_cost : (earlier : List ℕ) (i : Instr) → is_call i.op ≡ false → 1 ≡ cost earlier i
plain_cost earlier i e = rw e refl

-- ---- as many levels as there are loops around, and one more

-- an operation that neither opens nor closes a loop
pub onward : (earlier : List ℕ) (o : Op) (i : Instr) (ls : List ℕ) → o ≢ op.Loop → o ≢ op.Endl
    → levels_before earlier o i ls ≡ (cost earlier i + inner ls) ∷ outer ls
onward earlier op.Loop i ls a b = absurd (a refl)
onward earlier op.Endl i ls a b = absurd (b refl)
onward earlier o i ls a b = refl

-- an operation fits the regions that it stands in
none_past_before : (earlier : List ℕ) (o : Op) (pc : ℕ) (i : Instr) (rs after : List Region) (ls : List ℕ) → Nested pc i o rs after
    → past (suc (depth_of after)) ls ≡ [] → past (suc (depth_of rs)) (levels_before earlier o i ls) ≡ []
none_past_before earlier op.Loop pc i rs after ls (opens_loop xs) e = suc_is (depth_of xs) ls e
  where
    suc_is : (k : ℕ) (ls : List ℕ) → past (suc (k + 1)) ls ≡ [] → past k (outer (outer ls)) ≡ []
    suc_is k ls e = let s : suc (k + 1) ≡ suc (suc k) = omega arith in sym (ap (λ n. past n ls) s) ∙ e
none_past_before earlier op.Endl pc i rs after ls (closes_loop o l xs) e = let s : suc (depth_of xs + 1) ≡ suc (suc (depth_of xs)) = omega arith in
    ap (λ k. past k (1 ∷ ls)) s ∙ e
none_past_before earlier o pc i rs after ls (no_loop p xs ys a b s) e = ap (past (suc (depth_of xs))) (onward earlier p i ls a b)
    ∙ ap (λ k. past (suc k) ls) (kept depth_of (λ o zs. refl) (λ o zs. refl) pc xs ys s) ∙ e

-- each instruction fits the regions that it stands in
abbrev pub AllNest : List Instr → Type 0
AllNest code = (pc : ℕ) (i : Instr) → slice_get code pc ≡ Some i → nests i.op (around code pc) ≡ true

none_past_within : (earlier : List ℕ) (code : List Instr) (k pc : ℕ) → AllNest code → length code ≤ pc + k
    → past (suc (depth_of (around code pc))) (levels_from earlier code pc) ≡ []
none_past_within earlier code zero pc fit le = ap (past (suc (depth_of (around code pc)))) (levels-end earlier code pc (omega (arith, le)))
    ∙ past-nil (suc (depth_of (around code pc)))
none_past_within earlier code (suc k) pc fit le = elim (at_or_past code pc) [
  | inl at ↦
      let next : past (suc (depth_of (around code (pc + 1)))) (levels_from earlier code (pc + 1)) ≡ [] =
      none_past_within earlier code k (pc + 1) fit (omega (arith, le)) in
      ap (past (suc (depth_of (around code pc)))) (levels-at earlier code pc at.0 at.1)
      ∙ none_past_before earlier at.0.op pc at.0 (around code pc) _ (levels_from earlier code (pc + 1))
      (nested at.0.op pc at.0 (around code pc) (fit pc at.0 at.1))
      (subst (λ rs. past (suc (depth_of rs)) (levels_from earlier code (pc + 1)) ≡ []) (around-more code pc at.0 at.1) next)
  | inr past_end ↦ ap (past (suc (depth_of (around code pc)))) (levels-end earlier code pc past_end) ∙ past-nil (suc (depth_of (around code pc)))
]

-- at the beginning there is one level
pub one_level : (earlier : List ℕ) (code : List Instr) → AllNest code → total (levels_from earlier code 0) ≡ inner (levels_from earlier code 0)
one_level earlier code fit =
    let none : outer (levels_from earlier code 0) ≡ [] = none_past_within earlier code (length code) 0 fit (omega arith) in
    let t : total (outer (levels_from earlier code 0)) ≡ 0 = ap total none in
    omega (arith, parted (levels_from earlier code 0), t)

-- ---- worth

-- a cost more in the innermost level
worth_more : (c l : ℕ) (ls : List ℕ) (rs : List Region) → worth ((c + l) ∷ ls) rs ≡ c * weight rs + worth (l ∷ ls) rs
worth_more c l ls [] = omega arith
worth_more c l ls (Turning o limit ∷ rs) = let w : ℕ = limit * weight rs in ring_more c l w (worth ls rs)
  where
    ring_more : (c l w r : ℕ) → (c + l) * w + r ≡ c * w + (l * w + r)
    ring_more c l w r = grind arith
worth_more c l ls (Waiting o ∷ rs) = worth_more c l ls rs
worth_more c l ls (Atomic o ∷ rs) = worth_more c l ls rs

worth-eta : (ls : List ℕ) (rs : List Region) → worth (inner ls ∷ outer ls) rs ≡ worth ls rs
worth-eta (l ∷ ls) rs = refl
worth-eta [] [] = refl
worth-eta [] (Turning o l ∷ rs) = refl
worth-eta [] (Waiting o ∷ rs) = worth-eta [] rs
worth-eta [] (Atomic o ∷ rs) = worth-eta [] rs

worth_onward : (c : ℕ) (ls : List ℕ) (rs : List Region) → worth ((c + inner ls) ∷ outer ls) rs ≡ c * weight rs + worth ls rs
worth_onward c ls rs = worth_more c (inner ls) (outer ls) rs ∙ ap (λ n. c * weight rs + n) (worth-eta ls rs)

worth_loop : (x pc : ℕ) (ls : List ℕ) (rs : List Region) → worth ((1 + x * inner ls + inner (outer ls)) ∷ outer (outer ls)) rs
    ≡ 1 * weight rs + worth ls (Turning pc x ∷ rs)
worth_loop x pc ls rs = worth_more (1 + x * inner ls) (inner (outer ls)) (outer (outer ls)) rs
    ∙ ap (λ n. (1 + x * inner ls) * weight rs + n) (worth-eta (outer ls) rs) ∙ ring_loop x (inner ls) (weight rs) (worth (outer ls) rs)
  where
    ring_loop : (x h w r : ℕ) → (1 + x * h) * w + r ≡ 1 * w + (h * (x * w) + r)
    ring_loop x h w r = grind arith

worth_before : (earlier : List ℕ) (o : Op) (pc : ℕ) (i : Instr) (rs after : List Region) (ls : List ℕ) → i.op ≡ o → Nested pc i o rs after
    → worth (levels_before earlier o i ls) rs ≡ cost earlier i * weight rs + worth ls after
worth_before earlier op.Loop pc i rs after ls is (opens_loop xs) = worth_loop i.x pc ls xs
    ∙ ap (λ c. c * weight xs + worth ls (Turning pc i.x ∷ xs)) (plain_cost earlier i (ap is_call is))
worth_before earlier op.Endl pc i rs after ls is (closes_loop o l xs) = ap (λ c. c * (l * weight xs) + worth ls xs)
    (plain_cost earlier i (ap is_call is))
worth_before earlier o pc i rs after ls is (no_loop p xs ys a b s) = ap (λ ms. worth ms xs) (onward earlier p i ls a b)
    ∙ worth_onward (cost earlier i) ls xs
    ∙ ap (λ n. cost earlier i * weight xs + n) (kept (worth ls) (λ o zs. refl) (λ o zs. refl) pc xs ys s)

-- the steps from an instruction on are what the levels there are worth
steps_within : (earlier : List ℕ) (code : List Instr) (k pc : ℕ) → AllNest code → length code ≤ pc + k
    → steps_from earlier code pc (drop pc code) ≡ worth (levels_from earlier code pc) (around code pc)
steps_within earlier code zero pc fit le = none_left earlier code pc (omega (arith, le))
steps_within earlier code (suc k) pc fit le = elim (at_or_past code pc) [
  | inl at ↦
      let next : steps_from earlier code (pc + 1) (drop (pc + 1) code) ≡ worth (levels_from earlier code (pc + 1)) (around code (pc + 1)) =
      steps_within earlier code k (pc + 1) fit (omega (arith, le)) in
      ap (steps_from earlier code pc) (drop-at code pc at.0 at.1)
      ∙ ap (λ n. cost earlier at.0 * weight (around code pc) + n)
      (next ∙ ap (worth (levels_from earlier code (pc + 1))) (around-more code pc at.0 at.1))
      ∙ sym (worth_before earlier at.0.op pc at.0 (around code pc) _ (levels_from earlier code (pc + 1)) refl
      (nested at.0.op pc at.0 (around code pc) (fit pc at.0 at.1)))
      ∙ ap (λ ls. worth ls (around code pc)) (sym (levels-at earlier code pc at.0 at.1))
  | inr past_end ↦ none_left earlier code pc past_end
]

-- where a function begins, its levels add up to its bound
pub begins_at : (earlier : List ℕ) (code : List Instr) → AllNest code → total (levels_from earlier code 0) ≡ bound_of earlier code
begins_at earlier code fit = one_level earlier code fit ∙ sym (steps_within earlier code (length code) 0 fit (omega arith))
