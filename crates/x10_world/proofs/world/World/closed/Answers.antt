use Rattle.std.proofs.Common.{refl, ap, sym, ◌∙◌}
use Rattle.std.specs.Prelude.{slice_get}
use Rattle.x10_world.proofs.QueryLemmas.{over_is}
use Rattle.x10_world.proofs.EmptyWorlds.{closed_is, closed_none}
use Rattle.x10_world.proofs.world.World.closed.Goals as goal

pub returns-in-Some-clause-ended : goal.returns-in-Some-clause-ended
returns-in-Some-clause-ended c = λ w stands. (over_is _ c.args.self.now _ _ c.in-Some.place.now c.closed.result c.self.view_is c.self.invariant.belong
    (ap (λ ps. slice_get ps 0) (sym c.list.ensures) ∙ sym c.in-Some.ensures.value) c.closed.ensures w stands).0

pub returns-in-Some-clause-over : goal.returns-in-Some-clause-over
returns-in-Some-clause-over c = λ w stands. (over_is _ c.args.self.now _ _ c.in-Some.place.now c.closed.result c.self.view_is c.self.invariant.belong
    (ap (λ ps. slice_get ps 0) (sym c.list.ensures) ∙ sym c.in-Some.ensures.value) c.closed.ensures w stands).1

pub returns-in-Some-clause-value : goal.returns-in-Some-clause-value
returns-in-Some-clause-value c = closed_is _ c.args.self.now _ _ c.in-Some.place.now c.closed.result c.self.view_is c.self.invariant.belong
    (ap (λ ps. slice_get ps 0) (sym c.list.ensures) ∙ sym c.in-Some.ensures.value) c.closed.ensures

pub returns-in-None-clause-value : goal.returns-in-None-clause-value
returns-in-None-clause-value c = let none = closed_none _ c.args.self.now c.self.view_is
    (ap (λ ps. slice_get ps 0) (sym c.list.ensures) ∙ sym c.in-None.ensures.value) in ((λ t. none), (λ h. refl))
