use Rattle.std.proofs.Common.{ap}
use Rattle.std.specs.String.{string_bytes}
use Rattle.x10_frame_lines.specs.Lines.{what_lines, head_lines}
use Rattle.x10_frame_lines.proofs.Fronts.{both}
use Rattle.x10_frame_lines.proofs.lines.push_head.Goals as goal

pub returns-in_ok-push_first-in-Spawn : goal.returns-in_ok-push_first-in-Spawn
returns-in_ok-push_first-in-Spawn c = both c.push_launch.result (string_bytes c.args.text.now) (string_bytes c.push_first.new.text)
    (string_bytes c.push_launch.new.text) _ _ (head_lines c.args.version c.args.head) c.in_ok-push_first-in-Spawn.ensures
    (ap (what_lines c.args.version c.args.head.from c.args.head.to) c.in-Spawn.is) c.push_launch.ensures

pub returns-in_ok-push_first-in-Back : goal.returns-in_ok-push_first-in-Back
returns-in_ok-push_first-in-Back c = both c.writeln-in-Back.result (string_bytes c.args.text.now) (string_bytes c.push_first-in-Back.new.text)
    (string_bytes c.writeln-in-Back.new.self) _ _ (head_lines c.args.version c.args.head) c.in_ok-push_first-in-Back.ensures
    (ap (what_lines c.args.version c.args.head.from c.args.head.to) c.in-Back.is) c.writeln-in-Back.ensures.bytes

pub returns-in_ok-push_first-in-Report : goal.returns-in_ok-push_first-in-Report
returns-in_ok-push_first-in-Report c =
    both c.writeln-in-Report.result (string_bytes c.args.text.now) (string_bytes c.push_first-in-Report.new.text)
    (string_bytes c.writeln-in-Report.new.self) _ _ (head_lines c.args.version c.args.head) c.in_ok-push_first-in-Report.ensures
    (ap (what_lines c.args.version c.args.head.from c.args.head.to) c.in-Report.is) c.writeln-in-Report.ensures.bytes
