-- The first closers of the regions, from the last instruction to the first; and the regions in order.
use Rattle.std.proofs.Common.{◌≡◌, ◌≢◌, ◌⊎◌, ℕ, ◌+◌, ◌<◌, Bool, true, false, ◌==◌, List, [], ◌∷◌, ◌++◌, length, drop, Option, Some, None, sym, ap, subst, ◌∙◌, inl, inr, append_assoc, arith}
use Rattle.std.specs.Prelude.{if◌then◌else◌, not, slice_get, slice_set}
use Rattle.x10_code.specs.declared.instr.Instr.{Instr}
use Rattle.x10_model.specs.Structure.{opener_of, around, first_failing}
use Rattle.x10_model.specs.Structure as structure
use Rattle.x10_model.proofs.Decided.{get_below}
use Rattle.x10_bounds.specs.declared.region.Region.{Region}
use Rattle.x10_bounds.specs.Regions.{AreClosersFrom, closed_by, first_opener, is_number, leaves_open, opened_by, regions_from, in_list}
use Rattle.x10_bounds.proofs.Around.{IsChain, chain}
use Rattle.x10_bounds.proofs.Changes.{Change, change, opens, closes, keeps}
use Rattle.x10_bounds.proofs.FirstFailure.{drop-at, drop-end}
use Rattle.x10_model.proofs.Lists.{set_here, set_off}
use Rattle.std.proofs.Math.ListN.{length-set}

first_before : (code : List Instr) (pc o : ℕ) (rs : List structure.Region) → IsChain code pc rs → first_opener rs ≡ Some o → o < pc
first_before code pc o [] c e = absurd cc
first_before code pc o (r ∷ rs) c e = let same : opener_of r ≡ o = cc in omega (arith, c.0, same)

closed_before : (code : List Instr) (pc o n : ℕ) (rs : List structure.Region) (closed : Option ℕ) (after : List structure.Region)
    → Change n rs closed after → IsChain code pc rs → closed ≡ Some o → o < pc
closed_before code pc o n rs None after (opens r x) c e = absurd cc
closed_before code pc o n rs closed after closes c e = first_before code pc o rs c e
closed_before code pc o n rs None after keeps c e = absurd cc

-- what an instruction closes begins before it
pub closes_earlier : (code : List Instr) (pc o : ℕ) (closed : Option ℕ) → pc < length code
    → ((i : Instr) → slice_get code pc ≡ Some i → closed ≡ closed_by i.op (around code pc)) → closed ≡ Some o → o < pc
closes_earlier code pc o closed lt says e =
    let at = get_below code pc lt in
    closed_before code pc o pc (around code pc) _ _ (change at.0.op pc at.0 (around code pc)) (chain code pc) (sym (says at.0 at.1) ∙ e)

-- ---- the table of closers

pub none_yet : (code : List Instr) (closers : List (Option ℕ)) → length closers ≡ length code
    → ((o : ℕ) → o < length closers → slice_get closers o ≡ Some None) → AreClosersFrom code (length code) closers
none_yet code closers count all = record {
  count = count;
  each = λ o lt. all o (omega arith) ∙ ap (λ (xs : List Instr). Some (first_failing (leaves_open code o) (length code) xs))
      (sym (drop-end code (length code) (omega arith)));
}

closer_more : (code : List Instr) (o pc : ℕ) (i : Instr) → slice_get code pc ≡ Some i
    → first_failing (leaves_open code o) pc (drop pc code) ≡ (if not (is_number o (closed_by i.op (around code pc))) then first_failing
    (leaves_open code o) (pc + 1) (drop (pc + 1) code) else Some pc)
closer_more code o pc i at = ap (first_failing (leaves_open code o) pc) (drop-at code pc i at)

-- an instruction that closes nothing
pub closes_nothing : (code : List Instr) (n pc : ℕ) (closers : List (Option ℕ)) (closed : Option ℕ) → n ≡ pc + 1 → pc < length code
    → ((i : Instr) → slice_get code pc ≡ Some i → closed ≡ closed_by i.op (around code pc)) → closed ≡ None → AreClosersFrom code n closers
    → AreClosersFrom code pc closers
closes_nothing code n pc closers closed next lt says e are = record {
  count = are.count;
  each = λ o within.
      let at = get_below code pc lt in
      are.each o within ∙ ap (λ (k : ℕ). Some (first_failing (leaves_open code o) k (drop k code))) next
      ∙ ap (λ (x : Option ℕ). Some x) (ap (λ (c : Option ℕ). if not (is_number o c) then first_failing (leaves_open code o) (pc + 1)
      (drop (pc + 1) code) else Some pc) (sym e ∙ says at.0 at.1) ∙ sym (closer_more code o pc at.0 at.1));
}

same_or_not : (a b : ℕ) → ((a ≡ b) × ((b == a) ≡ true)) ⊎ ((a ≢ b) × ((b == a) ≡ false))
same_or_not a b = grind arith

-- an instruction that closes a region
pub closes_one : (code : List Instr) (n pc o : ℕ) (closers : List (Option ℕ)) (closed : Option ℕ) → n ≡ pc + 1 → pc < length code
    → ((i : Instr) → slice_get code pc ≡ Some i → closed ≡ closed_by i.op (around code pc)) → closed ≡ Some o → AreClosersFrom code n closers
    → AreClosersFrom code pc (slice_set closers o (Some pc))
closes_one code n pc o closers closed next lt says e are = record {
  count = length-set closers o (Some pc) ∙ are.count;
  each = λ k within.
      let at = get_below code pc lt in
      let all : length closers ≡ length code = are.count in
      let rest : Option ℕ = first_failing (leaves_open code k) (pc + 1) (drop (pc + 1) code) in
      let now : (if not (is_number k (Some o)) then rest else Some pc) ≡ first_failing (leaves_open code k) pc (drop pc code) =
      ap (λ (c : Option ℕ). if not (is_number k c) then rest else Some pc) (sym e ∙ says at.0 at.1) ∙ sym (closer_more code k pc at.0 at.1) in
      elim (same_or_not k o) [
        | inl h ↦
            let small : k < length closers = omega arith in
            subst (λ (j : ℕ). slice_get (slice_set closers j (Some pc)) k ≡ Some (Some pc)) h.0 (set_here closers k (Some pc) small)
            ∙ ap (λ (x : Option ℕ). Some x) (ap (λ (b : Bool). if not b then rest else Some pc) (sym h.1) ∙ now)
        | inr h ↦
            set_off closers o k (Some pc) h.0 ∙ are.each k within ∙ ap (λ (j : ℕ). Some (first_failing (leaves_open code k) j (drop j code))) next
            ∙ ap (λ (x : Option ℕ). Some x) (ap (λ (b : Bool). if not b then rest else Some pc) (sym h.1) ∙ now)
      ];
}

-- ---- the regions in order

pub regions_more : (code : List Instr) (pc : ℕ) (found new : List Region) (opened : Option Region) (whole : List Region)
    → new ≡ found ++ in_list opened → pc < length code → ((i : Instr) → slice_get code pc ≡ Some i → in_list opened ≡ opened_by code pc i i.op)
    → found ++ regions_from code pc (drop pc code) ≡ whole → new ++ regions_from code (pc + 1) (drop (pc + 1) code) ≡ whole
regions_more code pc found new opened whole is lt says so_far =
    let at = get_below code pc lt in
    let rest : List Region = regions_from code (pc + 1) (drop (pc + 1) code) in
    ap (λ (rs : List Region). rs ++ rest) is
    ∙ append_assoc found (in_list opened) rest
    ∙ ap (λ (rs : List Region). found ++ (rs ++ rest)) (says at.0 at.1)
    ∙ ap (λ (xs : List Instr). found ++ regions_from code pc xs) (sym (drop-at code pc at.0 at.1))
    ∙ so_far
