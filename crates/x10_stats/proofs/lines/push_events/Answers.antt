use Rattle.std.specs.Prelude.{codes}
use Rattle.std.specs.String.{string_bytes}
use Rattle.x10_stats.specs.Lines.{line}
use Rattle.x10_stats.proofs.SeveralLines.{five_lines}
use Rattle.x10_stats.proofs.lines.push_events.Goals as goal

pub returns : goal.returns
returns c =
    five_lines c.push_line-5.result (string_bytes c.args.text.now) (line (codes "steps:                    ") c.args.stats.now.steps)
    (line (codes "idle events:              ") c.args.stats.now.idle)
    (line (codes "deliveries:               ") c.args.stats.now.deliveries)
    (line (codes "rounds:                   ") c.args.rounds)
    (line (codes "most stays at one time:   ") c.args.stats.now.stays)
    (string_bytes c.push_line.new.text) (string_bytes c.push_line-2.new.text) (string_bytes c.push_line-3.new.text)
    (string_bytes c.push_line-4.new.text) (string_bytes c.push_line-5.new.text)
    c.in_ok-push_line.ensures c.in_ok-push_line-2.ensures c.in_ok-push_line-3.ensures c.in_ok-push_line-4.ensures c.push_line-5.ensures
