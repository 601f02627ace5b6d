use Rattle.std.specs.Prelude.{codes}
use Rattle.std.specs.String.{string_bytes}
use Rattle.x10_stats.specs.Lines.{line}
use Rattle.x10_stats.proofs.SeveralLines.{four_lines}
use Rattle.x10_stats.proofs.lines.push_ends.Goals as goal

pub returns : goal.returns
returns c =
    four_lines c.push_line-4.result (string_bytes c.args.text.now) (line (codes "Back frames:              ") c.args.backs.frames)
    (line (codes "Back bytes:               ") c.args.backs.bytes)
    (line (codes "Report frames:            ") c.args.reports.frames)
    (line (codes "Report bytes:             ") c.args.reports.bytes)
    (string_bytes c.push_line.new.text) (string_bytes c.push_line-2.new.text) (string_bytes c.push_line-3.new.text)
    (string_bytes c.push_line-4.new.text)
    c.in_ok-push_line.ensures c.in_ok-push_line-2.ensures c.in_ok-push_line-3.ensures c.push_line-4.ensures
