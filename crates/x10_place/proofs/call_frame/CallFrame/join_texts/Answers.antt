use Rattle.std.proofs.Common.{refl}
use Rattle.x10_place.proofs.HeapCalls.{joined_some, joined_none, join_full, same_refusal, not_full}
use Rattle.x10_place.proofs.call_frame.CallFrame.join_texts.Goals as goal

pub returns-in-Err-clause-full : goal.returns-in-Err-clause-full
returns-in-Err-clause-full c = λ limit over.
    same_refusal c.join.result _ c.in-Err.why _ c.in-Err.is (join_full c.args.verified.now.program c.args.self.now c.args.heap.now c.args.instr
    c.requires.reads c.word-first.result c.word-second.result c.word-first.ensures c.word-second.ensures c.join.result limit c.join.ensures.full
    over) refl

pub returns-in-Ok-Some-clause-ok : goal.returns-in-Ok-Some-clause-ok
returns-in-Ok-Some-clause-ok c = joined_some c.args.verified.now.program c.args.self.now c.args.heap.now c.args.instr c.requires.reads
    c.word-first.result c.word-second.result c.word-first.ensures c.word-second.ensures
    c.put.new.self c.join.new.self c.in-Ok-Some.field-0 c.in-Ok-Some.number c.from.result c.in-Ok-Some.field-0-is c.in-Ok-Some.ensures.ok
    c.fits.ensures.texts_few c.from.ensures c.put.ensures

pub returns-in-Ok-Some-clause-full : goal.returns-in-Ok-Some-clause-full
returns-in-Ok-Some-clause-full c = λ limit over. not_full c.join.result c.in-Ok-Some.field-0 _ c.in-Ok-Some.is
    (join_full c.args.verified.now.program c.args.self.now c.args.heap.now c.args.instr c.requires.reads c.word-first.result c.word-second.result
    c.word-first.ensures c.word-second.ensures c.join.result limit c.join.ensures.full over)

pub returns-in-Ok-None-clause-ok : goal.returns-in-Ok-None-clause-ok
returns-in-Ok-None-clause-ok c = joined_none c.args.verified.now.program c.args.self.now c.args.heap.now c.args.instr c.requires.reads
    c.word-first.result c.word-second.result c.word-first.ensures c.word-second.ensures
    _ c.join.new.self c.in-Ok-None.field-0 c.in-Ok-None.field-0-is c.in-Ok-None.ensures.ok refl

pub returns-in-Ok-None-clause-full : goal.returns-in-Ok-None-clause-full
returns-in-Ok-None-clause-full c = λ limit over. not_full c.join.result c.in-Ok-None.field-0 _ c.in-Ok-None.is
    (join_full c.args.verified.now.program c.args.self.now c.args.heap.now c.args.instr c.requires.reads c.word-first.result c.word-second.result
    c.word-first.ensures c.word-second.ensures c.join.result limit c.join.ensures.full over)
