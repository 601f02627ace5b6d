use Rattle.std.proofs.Common.{rules, ◌≡◌, refl, subst, inl, inr}
use Rattle.x10_workers.specs.Causes.{IsStopAfter}
use Rattle.x10_workers.proofs.threads.stop_of.Goals as goal

pub returns-then-eq-clause-tells : goal.returns-then-eq-clause-tells
returns-then-eq-clause-tells c = inr (inl (c.args.report, refl))

pub returns-in-Ok-clause-tells : goal.returns-in-Ok-clause-tells
returns-in-Ok-clause-tells c = inr (inl (c.args.report, refl))

pub returns-in-Ok-clause-caused : goal.returns-in-Ok-clause-caused
returns-in-Ok-clause-caused c =
    let same : c.in-Ok.stop ≡ c.args.why = search rules in
    inr (subst (λ w. IsStopAfter c.args.verified.now c.args.places c.args.report.log.items c.args.place w) same c.in-Ok.ensures)
