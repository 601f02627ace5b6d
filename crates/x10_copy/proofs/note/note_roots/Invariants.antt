use Rattle.std.proofs.Common.{◌≡◌, drop}
use Rattle.x10_copy.specs.Names.{noted_all}
use Rattle.x10_copy.specs.Captured.{kinds_of}
use Rattle.x10_copy.proofs.note.note_roots.Given as goal

abbrev pub invariant-loop-i : goal.invariant-loop-i
invariant-loop-i l = noted_all l.initial.marks (kinds_of l.slots) l.words ≡ noted_all l.marks (drop l.i (kinds_of l.slots)) (drop l.i l.words)
