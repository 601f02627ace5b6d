use Rattle.std.proofs.Common.{sym, ◌∙◌, arith}
use Rattle.std.proofs.lemmas.Result.{err_from_is_err_and}
use Rattle.std.proofs.lemmas.Option.{slice_get-get_or}
use Rattle.x10_copy.proofs.NotedWords.{same_count, word_at, noted_kept, noted_end, over_all}
use Rattle.x10_copy.proofs.note.note_fields.Goals as goal

pub field-requires : goal.field-requires
field-requires c = omega (arith, same_count c.args.class.now c.args.words.now c.requires, c.loop-j-test.true)

pub note-requires : goal.note-requires
note-requires c = word_at c.args.class.now c.args.words.now c.loop-j.j _ _ c.requires c.field.ensures.value
    (slice_get-get_or c.args.words.now c.loop-j.j 0 c.loop-j-test.true)

pub returns-in_err-note-clause-err : goal.returns-in_err-note-clause-err
returns-in_err-note-clause-err c =
    let p = err_from_is_err_and c.from_residual.result c.from_residual.ensures.1 in
    rw (p.1, p.2) (over_all c.args.marks.now c.loop-j.marks c.args.class.now c.args.words.now c.loop-j.j _ _ c.in_err-note.field-0.0
    c.loop-j.invariant
    c.field.ensures.value
    (slice_get-get_or c.args.words.now c.loop-j.j 0 c.loop-j-test.true) c.in_err-note.ensures.err)

pub loop-j-preserved : goal.loop-j-preserved
loop-j-preserved c = noted_kept c.args.marks.now c.loop-j.marks c.note.new.self c.args.class.now c.args.words.now c.loop-j.j _ _ c.loop-j.invariant
    c.field.ensures.value
    (slice_get-get_or c.args.words.now c.loop-j.j 0 c.loop-j-test.true) c.in_ok-note.ensures.ok

pub returns-clause-ok : goal.returns-clause-ok
returns-clause-ok c = sym (c.loop-j.invariant ∙ noted_end c.loop-j.marks c.args.class.now c.args.words.now c.loop-j.j c.loop-j-test.false)
