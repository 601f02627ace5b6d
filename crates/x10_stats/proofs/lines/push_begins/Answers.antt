use Rattle.std.specs.Prelude.{codes}
use Rattle.std.specs.String.{string_bytes}
use Rattle.x10_stats.specs.Lines.{line}
use Rattle.x10_stats.proofs.SeveralLines.{four_lines}
use Rattle.x10_stats.proofs.lines.push_begins.Goals as goal

pub returns : goal.returns
returns c =
    four_lines c.push_line-4.result (string_bytes c.args.text.now) (line (codes "Spawn frames:             ") c.args.spawns.frames)
    (line (codes "Spawn bytes:              ") c.args.spawns.bytes)
    (line (codes "Shift frames:             ") c.args.shifts.frames)
    (line (codes "Shift bytes:              ") c.args.shifts.bytes)
    (string_bytes c.push_line.new.text) (string_bytes c.push_line-2.new.text) (string_bytes c.push_line-3.new.text)
    (string_bytes c.push_line-4.new.text)
    c.in_ok-push_line.ensures c.in_ok-push_line-2.ensures c.in_ok-push_line-3.ensures c.push_line-4.ensures
