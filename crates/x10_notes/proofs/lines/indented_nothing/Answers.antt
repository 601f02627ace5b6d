use Rattle.std.specs.Prelude.{codes}
use Rattle.std.specs.String.{string_bytes}
use Rattle.x10_notes.proofs.Feeds.{nothing_whole, one_note}
use Rattle.x10_notes.proofs.lines.indented_nothing.Goals as goal

pub returns-clause-notes : goal.returns-clause-notes
returns-clause-notes c = one_note (string_bytes c.new-notes.result) (string_bytes c.push_note.new.notes) (codes "nothing") c.new-notes.ensures.bytes
    nothing_whole c.in_ok-push_note.ensures
