use Rattle.std.proofs.Common.{subst}
use Rattle.x10_handles.specs.Worlds.{IsMade}
use Rattle.x10_handles.proofs.Histories.{made_is, run_on}
use Rattle.x10_handles.proofs.run.Run.happen.Goals as goal

pub invariant_of-self : goal.invariant_of-self
invariant_of-self c = run_on c.self.inside.world c.make_one.new.self c.args.event c.make_one.result
    (made_is c.self.inside.world c.make_one.new.self c.args.event c.make_one.result c.in_ok-going.ensures.ok c.make_one.ensures.told
    c.make_one.ensures.acts c.make_one.ensures.idle c.make_one.ensures.made c.make_one.ensures.goes c.make_one.ensures.stops
    c.make_one.ensures.kept) c.self.invariant

pub returns : goal.returns
returns c = subst (λ x. IsMade x c.args.event c.make_one.result c.make_one.new.self) c.self.view_is
    (made_is c.self.inside.world c.make_one.new.self c.args.event c.make_one.result c.in_ok-going.ensures.ok c.make_one.ensures.told
    c.make_one.ensures.acts c.make_one.ensures.idle c.make_one.ensures.made c.make_one.ensures.goes c.make_one.ensures.stops
    c.make_one.ensures.kept)
