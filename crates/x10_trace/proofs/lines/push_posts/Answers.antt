use Rattle.std.proofs.Common.{ap, ◌++◌, ◌-◌, ◌+◌, ◌∙◌}
use Rattle.std.specs.String.{string_bytes}
use Rattle.x10_trace.specs.Trace.{post_lines}
use Rattle.x10_trace.proofs.FrameLines.{one_more}
use Rattle.x10_trace.proofs.lines.push_posts.Goals as goal

pub loop-number-preserved : goal.loop-number-preserved
loop-number-preserved c =
    ap (λ bs. bs ++ post_lines c.args.world.now.flights c.args.from (c.loop-number.number + 1)
    (c.saturating_add-number-end.result - (c.loop-number.number + 1))) c.in_ok-push_post.ensures
    ∙ (one_more c.args.world.now.flights c.args.from c.loop-number.number c.saturating_add-number-end.result
    (string_bytes c.loop-number.text) c.loop-number-test.true ∙ c.loop-number.invariant)
