use Rattle.std.specs.String.{string_bytes}
use Rattle.x10_notes.proofs.Feeds.{first_whole, one_more}
use Rattle.x10_notes.proofs.lines.indented.Goals as goal

pub loop-line-preserved : goal.loop-line-preserved
loop-line-preserved c = record {
  utf8 = c.in-Some.ensures.utf8.1;
  notes = one_more (string_bytes c.loop-line.notes) (string_bytes c.push_note.new.notes) c.in-Some.line.now c.loop-line.invariant.notes
      (first_whole c.loop-line.rest.now c.in-Some.line.now c.in-Some.after.now c.in-Some.ensures.lines) c.in_ok-push_note.ensures;
}
