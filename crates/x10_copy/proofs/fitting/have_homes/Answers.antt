use Rattle.std.proofs.Common.{rules}
use Rattle.std.proofs.lemmas.Option.{slice_get-get_or}
use Rattle.x10_frame.specs.Heads.{graph_of}
use Rattle.x10_copy.specs.Fitting.{no_slot, home_fits}
use Rattle.x10_copy.proofs.Tests.{pairs_next, pairs_fail}
use Rattle.x10_copy.proofs.fitting.have_homes.Goals as goal

pub returns-then-not-home_fits : goal.returns-then-not-home_fits
returns-then-not-home_fits c = pairs_fail (home_fits c.args.at) _ c.args.slots.now (graph_of c.args.view.now).roots c.loop-i.i _ _ c.loop-i.invariant
    (slice_get-get_or c.args.slots.now c.loop-i.i no_slot c.loop-i-test.true) c.root.ensures.value (search rules)

pub loop-i-preserved : goal.loop-i-preserved
loop-i-preserved c = pairs_next (home_fits c.args.at) _ c.args.slots.now (graph_of c.args.view.now).roots c.loop-i.i _ _ c.loop-i.invariant
    (slice_get-get_or c.args.slots.now c.loop-i.i no_slot c.loop-i-test.true) c.root.ensures.value (search rules)
