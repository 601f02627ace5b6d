use Rattle.std.proofs.Common.{◌≡◌, subst}
use Rattle.x10_model.specs.declared.finish.Finish.{Finish}
use Rattle.x10_finish.specs.Ledgers.{count_of}
use Rattle.x10_finish.specs.Met.{listed}
use Rattle.x10_finish.proofs.MetLemmas as lemmas
use Rattle.x10_finish.proofs.met.set_aside.Goals as goal

pub returns-in-Ok-clause-ok : goal.returns-in-Ok-clause-ok
returns-in-Ok-clause-ok c = (
  c.take.ensures.after,
  subst (λ o. (f : Finish) → count_of c.insert.new.self f ≡ count_of (listed o c.args.others.now) f) c.in-Some.ensures.value
      (lemmas.set_aside c.in-Some.field-0 c.args.others.now c.insert.new.self c.in-Ok.ensures.ok),
)
