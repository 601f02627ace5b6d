use Rattle.std.proofs.Common.{◌≡◌, suc, ◌-◌, sym, ap, ◌∙◌, refl, arith}
use Rattle.x10_heap.specs.Laid.{start_of}
use Rattle.x10_heap.proofs.Laid.{start_after}
use Rattle.x10_heap.proofs.ends.start_in.Goals as goal

pub returns-then-number-eq0 : goal.returns-then-number-eq0
returns-then-number-eq0 c = let none : c.args.number ≡ 0 = omega (arith, c.if-number-eq0.true) in rw none refl

pub returns : goal.returns
returns c =
    let next : suc (c.args.number - 1) ≡ c.args.number = omega (arith, c.if-number-eq0.false) in
    sym (start_after 0 c.args.ends.now (c.args.number - 1) (omega (arith, next, c.requires))) ∙ ap (λ k. start_of 0 k c.args.ends.now) next
