-- What the levels at an instruction have in common with those where the loops around it begin.
use Rattle.std.proofs.Common.{◌≡◌, ℕ, zero, suc, ◌+◌, ◌≤◌, List, [], ◌∷◌, length, Option, Some, None, refl, sym, ap, subst, ◌∙◌, add-one, arith}
use Rattle.std.specs.Prelude.{slice_get}
use Rattle.x10_code.specs.declared.op.Op.{Op}
use Rattle.x10_code.specs.declared.op.Op.TheVariants as op
use Rattle.x10_code.specs.declared.instr.Instr.{Instr}
use Rattle.x10_model.specs.Structure.{Region, Turning, Waiting, Atomic, opener_of, outside, passed, around}
use Rattle.x10_model.proofs.Decided.{get_below}
use Rattle.x10_bounds.specs.Potential.{outer, levels_before, levels_from}
use Rattle.x10_bounds.proofs.Changes.{Change, change, opens, closes, keeps, SameLoops, opens_finish, opens_atomic, closes_finish, closes_atomic, none}
use Rattle.x10_bounds.proofs.Changes.{Nested, nested, opens_loop, closes_loop, no_loop}
use Rattle.x10_bounds.proofs.Levels.{AllNest, levels-at, onward}
use Rattle.x10_bounds.proofs.Spots.{around-more}

-- for each loop around, the levels past it are those past its first instruction
abbrev pub IsTail : List ℕ → List Instr → List ℕ → List Region → Type 0
IsTail earlier code ls [] = Unit {0}
IsTail earlier code ls (Turning opener limit ∷ rs) = (outer ls ≡ outer (levels_from earlier code (opener + 1))) × IsTail earlier code (outer ls) rs
IsTail earlier code ls (Waiting opener ∷ rs) = IsTail earlier code ls rs
IsTail earlier code ls (Atomic opener ∷ rs) = IsTail earlier code ls rs

tail_same : (earlier : List ℕ) (code : List Instr) (ls ms : List ℕ) (rs : List Region) → outer ls ≡ outer ms → IsTail earlier code ls rs
    → IsTail earlier code ms rs
tail_same earlier code ls ms [] e h = tt
tail_same earlier code ls ms (Turning o l ∷ rs) e h = (sym e ∙ h.0, subst (λ t. IsTail earlier code t rs) e h.1)
tail_same earlier code ls ms (Waiting o ∷ rs) e h = tail_same earlier code ls ms rs e h
tail_same earlier code ls ms (Atomic o ∷ rs) e h = tail_same earlier code ls ms rs e h

tail_kept : (earlier : List ℕ) (code : List Instr) (ls : List ℕ) (pc : ℕ) (rs after : List Region) → SameLoops pc rs after → IsTail earlier code ls rs
    → IsTail earlier code ls after
tail_kept earlier code ls pc rs after (opens_finish xs) h = h
tail_kept earlier code ls pc rs after (opens_atomic xs) h = h
tail_kept earlier code ls pc rs after (closes_finish o xs) h = h
tail_kept earlier code ls pc rs after (closes_atomic o xs) h = h
tail_kept earlier code ls pc rs after (none xs) h = h

tail_after : (earlier : List ℕ) (code : List Instr) (o : Op) (pc : ℕ) (i : Instr) (rs after : List Region) (ls : List ℕ) → Nested pc i o rs after
    → ls ≡ levels_from earlier code (pc + 1) → IsTail earlier code (levels_before earlier o i ls) rs → IsTail earlier code ls after
tail_after earlier code op.Loop pc i rs after ls (opens_loop xs) e h =
    (ap outer e, tail_same earlier code (levels_before earlier op.Loop i ls) (outer ls) xs refl h)
tail_after earlier code op.Endl pc i rs after ls (closes_loop o l xs) e h = h.1
tail_after earlier code o pc i rs after ls (no_loop p xs ys a b s) e h = tail_kept earlier code ls pc xs ys s
    (tail_same earlier code (levels_before earlier p i ls) ls xs (ap outer (onward earlier p i ls a b)) h)

-- The levels past a loop are the same at its end as at its first instruction: so an ENDL goes back at the price of having
-- one turn fewer.
pub tails : (earlier : List ℕ) (code : List Instr) (pc : ℕ) → AllNest code → pc ≤ length code
    → IsTail earlier code (levels_from earlier code pc) (around code pc)
tails earlier code zero fit le = tt
tails earlier code (suc pc) fit le =
    let at = get_below code pc (omega (arith, le)) in
    let here : IsTail earlier code (levels_from earlier code pc) (around code pc) = tails earlier code pc fit (omega (arith, le)) in
    subst (λ n. IsTail earlier code (levels_from earlier code n) (around code n)) (add-one pc)
    (subst (λ rs. IsTail earlier code (levels_from earlier code (pc + 1)) rs) (sym (around-more code pc at.0 at.1))
    (tail_after earlier code at.0.op pc at.0 (around code pc) _ (levels_from earlier code (pc + 1))
    (nested at.0.op pc at.0 (around code pc) (fit pc at.0 at.1)) refl
    (subst (λ ls. IsTail earlier code ls (around code pc)) (levels-at earlier code pc at.0 at.1) here)))

-- ---- where the regions around an instruction were opened

abbrev pub AreOpened : List Instr → List Region → Type 0
AreOpened code [] = Unit {0}
AreOpened code (r ∷ rs) = (around code (suc (opener_of r)) ≡ r ∷ rs) × AreOpened code rs

outside_opened : (code : List Instr) (rs : List Region) → AreOpened code rs → AreOpened code (outside rs)
outside_opened code [] h = tt
outside_opened code (r ∷ rs) h = h.1

opened_after : (code : List Instr) (pc : ℕ) (rs : List Region) (closed : Option ℕ) (after : List Region) → Change pc rs closed after
    → around code (suc pc) ≡ after → AreOpened code rs → AreOpened code after
opened_after code pc rs None after (opens r o) e h = (ap (λ n. around code (suc n)) o ∙ e, h)
opened_after code pc rs closed after closes e h = outside_opened code rs h
opened_after code pc rs None after keeps e h = h

opened_next : (code : List Instr) (pc : ℕ) (o : Option Instr) → slice_get code pc ≡ o → AreOpened code (around code pc)
    → AreOpened code (passed o pc (around code pc))
opened_next code pc None e h = h
opened_next code pc (Some i) e h = opened_after code pc (around code pc) _ _ (change i.op pc i (around code pc))
    (ap (λ o. passed o pc (around code pc)) e) h

pub all_opened : (code : List Instr) (pc : ℕ) → AreOpened code (around code pc)
all_opened code zero = tt
all_opened code (suc pc) = opened_next code pc (slice_get code pc) refl (all_opened code pc)
