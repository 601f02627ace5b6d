use Rattle.std.proofs.Common.{arith}
use Rattle.std.proofs.lemmas.Option.{slice_get-get_or}
use Rattle.x10_model.specs.declared.version.FrameVersion.TheVariants.{Wide}
use Rattle.x10_model.specs.Frames.{item_bytes}
use Rattle.x10_copy.specs.Names.{items_of}
use Rattle.x10_copy.proofs.NotedWords.{same_count, word_at}
use Rattle.x10_copy.proofs.WrittenLemmas.{found_at, one_item, left_end, items_end}
use Rattle.x10_copy.proofs.put.put_fields.Goals as goal

pub field-requires : goal.field-requires
field-requires c = omega (arith, same_count c.args.class.now c.args.words.now c.requires.words, c.loop-j-test.true)

pub item-requires-clause-word : goal.item-requires-clause-word
item-requires-clause-word c = word_at c.args.class.now c.args.words.now c.loop-j.j _ _ c.requires.words c.field.ensures.value
    (slice_get-get_or c.args.words.now c.loop-j.j 0 c.loop-j-test.true)

pub item-requires-clause-found : goal.item-requires-clause-found
item-requires-clause-found c = found_at c.args.marks.now c.args.class.now c.args.words.now c.loop-j.j _ _ c.requires.found c.field.ensures.value
    (slice_get-get_or c.args.words.now c.loop-j.j 0 c.loop-j-test.true)

pub loop-j-preserved : goal.loop-j-preserved
loop-j-preserved c = one_item c.args.marks.now c.args.class.now c.args.words.now c.loop-j.j _ _ c.args.writer.now c.loop-j.writer c.value.new.self _
    c.loop-j.invariant c.field.ensures.value
    (slice_get-get_or c.args.words.now c.loop-j.j 0 c.loop-j-test.true) c.item.ensures c.in_ok-value.ensures.value

pub returns : goal.returns
returns c = left_end (item_bytes Wide) c.args.writer.now (items_of c.args.marks.now c.args.class.now c.args.words.now) c.loop-j.writer _
    c.loop-j.invariant
    (items_end c.args.marks.now c.args.class.now c.args.words.now c.loop-j.j c.loop-j-test.false)
