use Rattle.std.proofs.Common.{subst, sym}
use Rattle.std.proofs.lemmas.Result.{err_from_is_err_and}
use Rattle.x10_cli.specs.Answers.{places_for}
use Rattle.x10_cli.specs.Runs.{FoundIn}
use Rattle.x10_cli.specs.Runs.FoundIn.{none, one_more}
use Rattle.x10_cli.proofs.runs.findings_of.Goals as goal

pub returns-in_err-opened-clause-due : goal.returns-in_err-opened-clause-due
returns-in_err-opened-clause-due c = λ bytes is.
    let told = err_from_is_err_and c.from_residual.result c.from_residual.ensures.1 in
    rw (told.1, told.2) (c.in_err-opened.ensures.due bytes is)

pub returns-in_err-opened-clause-refused : goal.returns-in_err-opened-clause-refused
returns-in_err-opened-clause-refused c = λ bytes is.
    let told = err_from_is_err_and c.from_residual.result c.from_residual.ensures.1 in
    rw (told.1, told.2) (c.in_err-opened.ensures.refused bytes is)

pub loop-before-init : goal.loop-before-init
loop-before-init c = subst (λ s. FoundIn c.args.verified.now (places_for c.args.task.now.places c.args.verified.now) c.args.task.now.limit 0 s)
    (sym c.new-findings.ensures) none

pub returns-in_err-world-clause-due : goal.returns-in_err-world-clause-due
returns-in_err-world-clause-due c = λ bytes is.
    let told = err_from_is_err_and c.from_residual-in_err-world.result c.from_residual-in_err-world.ensures.1 in
    rw (told.1, told.2) (c.in_err-world.ensures.due bytes is)

pub returns-in_err-world-clause-refused : goal.returns-in_err-world-clause-refused
returns-in_err-world-clause-refused c = λ bytes is.
    let told = err_from_is_err_and c.from_residual-in_err-world.result c.from_residual-in_err-world.ensures.1 in
    rw (told.1, told.2) (c.in_err-world.ensures.refused bytes is)

pub loop-before-preserved : goal.loop-before-preserved
loop-before-preserved c =
    one_more c.loop-before.before c.loop-before.findings c.add.new.self c.in_ok-world.world c.in_ok-output.output c.in_ok-output.ended
    c.loop-before.invariant c.in_ok-world.ensures.opened c.in_ok-output.ensures.run c.in_ok-add.ensures.added
