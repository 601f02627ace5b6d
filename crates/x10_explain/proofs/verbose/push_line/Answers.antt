use Rattle.std.specs.String.{string_bytes}
use Rattle.x10_explain.proofs.Told.{after_note}
use Rattle.x10_explain.proofs.verbose.push_line.Goals as goal

pub returns : goal.returns
returns c = after_note (string_bytes c.args.out.now) (string_bytes c.push_commented.new.out) (string_bytes c.push_plain.new.out) c.args.line.now
    c.in_ok-push_commented.ensures c.in_ok-push_plain.ensures
