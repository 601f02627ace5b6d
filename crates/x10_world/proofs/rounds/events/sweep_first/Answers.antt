use Rattle.std.specs.Prelude.{take}
use Rattle.x10_world.specs.declared.rounds.Unfinished.TheVariants as halt
use Rattle.x10_world.proofs.RunCounts.{err_is, has_none, has_swept, cut_few, cut_swept}
use Rattle.x10_world.proofs.rounds.events.sweep_first.Goals as goal

pub returns-then-most-eq0-clause-made : goal.returns-then-most-eq0-clause-made
returns-then-most-eq0-clause-made c = has_none c.args.world.now c.args.left c.requires.going

pub returns-in_err-swept-clause-made : goal.returns-in_err-swept-clause-made
returns-in_err-swept-clause-made c =
    err_is c.from_residual.result (halt.Stop c.in_err-swept.field-0.0) _ _ c.from_residual.ensures.1
    (cut_swept c.args.world.now c.sweep.new.self c.args.place c.args.left (take c.min-most.result c.args.keys.now) c.in_err-swept.field-0.0
    (cut_few c.args.keys.now c.min-most.result c.args.left c.min-most.ensures) c.in_err-swept.ensures.kept c.in_err-swept.ensures.halted)

pub returns-clause-made : goal.returns-clause-made
returns-clause-made c =
    has_swept c.args.world.now c.sweep.new.self c.args.place c.args.left c.in_ok-swept.swept.made (take c.min-most.result c.args.keys.now)
    (cut_few c.args.keys.now c.min-most.result c.args.left c.min-most.ensures) c.in_ok-swept.ensures.few c.in_ok-swept.ensures.kept
    c.in_ok-swept.ensures.goes c.in_ok-swept.ensures.runs
