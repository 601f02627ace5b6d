use Rattle.std.proofs.Common.{◌≡◌, ◌+◌, ℕ, List, drop, Ok, sym, ap, subst, ◌∙◌, arith}
use Rattle.std.proofs.lemmas.Result.{err_from_is_err_and}
use Rattle.std.proofs.lemmas.Grind.{common_steps}
use Rattle.x10_model.specs.Structure.{bounds_of, bounds_from, checked_bound}
use Rattle.x10_model.proofs.Decided.{get_below}
use Rattle.x10_bounds.specs.Faults.{IsFaultOrMemory, named}
use Rattle.x10_bounds.proofs.InOrder.{bounds_more, bounds_end, bounds_done, each_nests}
use Rattle.x10_bounds.proofs.functions.bounds.Goals as goal

pub returns-in_err-bound-clause-exact : goal.returns-in_err-bound-clause-exact
returns-in_err-bound-clause-exact c =
    let p = err_from_is_err_and c.from_residual-in_err-bound.result c.from_residual-in_err-bound.ensures.1 in
    let at = get_below c.args.image.now.functions c.loop-f.f (omega (arith, c.loop-f-test.true, c.functions-f-end.ensures.value)) in
    let fault = c.in_err-bound.field-0.0 in
    let is : IsFaultOrMemory (named fault.cause) fault (checked_bound c.loop-f.f c.loop-f.bounds.items at.0) =
    subst (λ (xs : List ℕ). IsFaultOrMemory (named fault.cause) fault (checked_bound c.loop-f.f xs at.0)) c.deref.ensures.value
    (c.in_err-bound.ensures at.0 at.1) in
    rw (p.1, p.2) (bounds_end c.args.image.now c.loop-f.f at.0 c.loop-f.bounds.items fault
    (bounds_of c.args.image.now) c.loop-f.invariant.1 at.1 is c.loop-f.invariant.0)

pub loop-f-preserved : goal.loop-f-preserved
loop-f-preserved c =
    let at = get_below c.args.image.now.functions c.loop-f.f (omega (arith, c.loop-f-test.true, c.functions-f-end.ensures.value)) in
    let is : checked_bound c.loop-f.f c.loop-f.bounds.items at.0 ≡ Ok c.in_ok-bound.bound =
    subst (λ (xs : List ℕ). checked_bound c.loop-f.f xs at.0 ≡ Ok c.in_ok-bound.bound) c.deref.ensures.value
    (c.in_ok-bound.ensures at.0 at.1) in (
      bounds_more c.args.image.now c.loop-f.f at.0 c.loop-f.bounds.items c.in_ok-bound.bound
          (bounds_of c.args.image.now) c.loop-f.invariant.1 at.1 is c.loop-f.invariant.0
          ∙ ap (λ (xs : List ℕ). bounds_from xs (drop (c.loop-f.f + 1) c.args.image.now.functions)) (sym c.in_ok-push.ensures.items),
      grind (arith, common_steps, c.in_ok-push.ensures.items, c.loop-f.invariant.1),
    )

pub returns-clause-nests : goal.returns-clause-nests
returns-clause-nests c = each_nests c.args.image.now c.loop-f.bounds.items
    (bounds_done c.args.image.now c.loop-f.f c.loop-f.bounds.items (bounds_of c.args.image.now)
    (omega (arith, c.loop-f-test.false, c.functions-f-end.ensures.value)) c.loop-f.invariant.0)
