use Rattle.std.proofs.Common.{◌≡◌, drop}
use Rattle.x10_copy.specs.Names.{noted_all}
use Rattle.x10_copy.proofs.note.note_fields.Given as goal

abbrev pub invariant-loop-j : goal.invariant-loop-j
invariant-loop-j l = noted_all l.initial.marks l.class l.words ≡ noted_all l.marks (drop l.j l.class) (drop l.j l.words)
