use Rattle.std.proofs.lemmas.Option.{slice_get-get_or}
use Rattle.x10_model.specs.declared.version.FrameVersion.TheVariants.{Wide}
use Rattle.x10_model.specs.Frames.{item_bytes}
use Rattle.x10_copy.specs.Names.{items_of}
use Rattle.x10_copy.specs.Captured.{kinds_of}
use Rattle.x10_copy.proofs.NotedWords.{word_at, kind_at, slot_there}
use Rattle.x10_copy.proofs.WrittenLemmas.{found_at, one_item, left_end, items_end}
use Rattle.x10_copy.proofs.put.put_roots.Goals as goal

pub bounds-slots-i : goal.bounds-slots-i
bounds-slots-i c = slot_there c.args.slots.now c.args.words.now c.loop-i.i c.requires.words c.loop-i-test.true

pub item-requires-clause-word : goal.item-requires-clause-word
item-requires-clause-word c = word_at (kinds_of c.args.slots.now) c.args.words.now c.loop-i.i _ _ c.requires.words
    (kind_at c.args.slots.now c.loop-i.i _ (slot_there c.args.slots.now c.args.words.now c.loop-i.i c.requires.words c.loop-i-test.true))
    (slice_get-get_or c.args.words.now c.loop-i.i 0 c.loop-i-test.true)

pub item-requires-clause-found : goal.item-requires-clause-found
item-requires-clause-found c = found_at c.args.marks.now (kinds_of c.args.slots.now) c.args.words.now c.loop-i.i _ _ c.requires.found
    (kind_at c.args.slots.now c.loop-i.i _ (slot_there c.args.slots.now c.args.words.now c.loop-i.i c.requires.words c.loop-i-test.true))
    (slice_get-get_or c.args.words.now c.loop-i.i 0 c.loop-i-test.true)

pub loop-i-preserved : goal.loop-i-preserved
loop-i-preserved c = one_item c.args.marks.now (kinds_of c.args.slots.now) c.args.words.now c.loop-i.i _ _ c.args.writer.now c.loop-i.writer
    c.value.new.self
    _ c.loop-i.invariant
    (kind_at c.args.slots.now c.loop-i.i _ (slot_there c.args.slots.now c.args.words.now c.loop-i.i c.requires.words c.loop-i-test.true))
    (slice_get-get_or c.args.words.now c.loop-i.i 0 c.loop-i-test.true) c.item.ensures c.in_ok-value.ensures.value

pub returns : goal.returns
returns c = left_end (item_bytes Wide) c.args.writer.now (items_of c.args.marks.now (kinds_of c.args.slots.now) c.args.words.now) c.loop-i.writer _
    c.loop-i.invariant
    (items_end c.args.marks.now (kinds_of c.args.slots.now) c.args.words.now c.loop-i.i c.loop-i-test.false)
