use Rattle.std.proofs.Common.{sym, ◌∙◌}
use Rattle.std.proofs.lemmas.Result.{err_from_is_err_and}
use Rattle.std.proofs.lemmas.Option.{slice_get-get_or}
use Rattle.x10_copy.specs.Captured.{kinds_of}
use Rattle.x10_copy.proofs.NotedWords.{word_at, kind_at, slot_there, noted_kept, noted_end, over_all}
use Rattle.x10_copy.proofs.note.note_roots.Goals as goal

pub bounds-slots-i : goal.bounds-slots-i
bounds-slots-i c = slot_there c.args.slots.now c.args.words.now c.loop-i.i c.requires c.loop-i-test.true

pub note-requires : goal.note-requires
note-requires c = word_at (kinds_of c.args.slots.now) c.args.words.now c.loop-i.i _ _ c.requires
    (kind_at c.args.slots.now c.loop-i.i _ (slot_there c.args.slots.now c.args.words.now c.loop-i.i c.requires c.loop-i-test.true))
    (slice_get-get_or c.args.words.now c.loop-i.i 0 c.loop-i-test.true)

pub returns-in_err-note-clause-err : goal.returns-in_err-note-clause-err
returns-in_err-note-clause-err c =
    let p = err_from_is_err_and c.from_residual.result c.from_residual.ensures.1 in
    rw (p.1, p.2) (over_all c.args.marks.now c.loop-i.marks (kinds_of c.args.slots.now) c.args.words.now c.loop-i.i _ _ c.in_err-note.field-0.0
    c.loop-i.invariant
    (kind_at c.args.slots.now c.loop-i.i _ (slot_there c.args.slots.now c.args.words.now c.loop-i.i c.requires c.loop-i-test.true))
    (slice_get-get_or c.args.words.now c.loop-i.i 0 c.loop-i-test.true) c.in_err-note.ensures.err)

pub loop-i-preserved : goal.loop-i-preserved
loop-i-preserved c = noted_kept c.args.marks.now c.loop-i.marks c.note.new.self
    (kinds_of c.args.slots.now) c.args.words.now c.loop-i.i _ _ c.loop-i.invariant
    (kind_at c.args.slots.now c.loop-i.i _ (slot_there c.args.slots.now c.args.words.now c.loop-i.i c.requires c.loop-i-test.true))
    (slice_get-get_or c.args.words.now c.loop-i.i 0 c.loop-i-test.true) c.in_ok-note.ensures.ok

pub returns-clause-ok : goal.returns-clause-ok
returns-clause-ok c = sym (c.loop-i.invariant ∙ noted_end c.loop-i.marks (kinds_of c.args.slots.now) c.args.words.now c.loop-i.i c.loop-i-test.false)
