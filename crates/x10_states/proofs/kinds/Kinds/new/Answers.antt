use Rattle.std.proofs.Common.{◌+◌, sym, subst}
use Rattle.x10_states.proofs.Flawless.{AreLeastTo, one_more}
use Rattle.x10_states.proofs.kinds.Kinds.new.Goals as goal

pub loop-f-preserved : goal.loop-f-preserved
loop-f-preserved c = subst (AreLeastTo c.args.verified.now.program (c.loop-f.f + 1)) (sym c.in_ok-push.ensures.items)
    (one_more c.args.verified.now.program c.loop-f.f c.loop-f.flows.items c.in_ok-least_flow.field-0 c.loop-f.invariant c.in_ok-least_flow.ensures)
