use Rattle.std.proofs.Common.{rules}
use Rattle.x10_frame.specs.Heads.{graph_of}
use Rattle.x10_copy.specs.Captured.{kinds_of}
use Rattle.x10_copy.specs.Fitting.{no_slot, item_fits}
use Rattle.x10_copy.proofs.NotedWords.{kind_at}
use Rattle.x10_copy.proofs.Tests.{pairs_next, pairs_fail}
use Rattle.x10_copy.proofs.fitting.roots_fit.Goals as goal

pub returns-then-not-item_fits : goal.returns-then-not-item_fits
returns-then-not-item_fits c = pairs_fail (item_fits (graph_of c.args.view.now)) _ (kinds_of c.args.slots.now)
    (graph_of c.args.view.now).roots c.loop-i.i _ _
    c.loop-i.invariant (kind_at c.args.slots.now c.loop-i.i no_slot c.loop-i-test.true) c.root.ensures.value (search rules)

pub loop-i-preserved : goal.loop-i-preserved
loop-i-preserved c = pairs_next (item_fits (graph_of c.args.view.now)) _ (kinds_of c.args.slots.now) (graph_of c.args.view.now).roots c.loop-i.i _ _
    c.loop-i.invariant (kind_at c.args.slots.now c.loop-i.i no_slot c.loop-i-test.true) c.root.ensures.value (search rules)
