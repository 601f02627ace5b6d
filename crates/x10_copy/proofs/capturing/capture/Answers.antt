use Rattle.std.proofs.Common.{get_or, arith}
use Rattle.x10_copy.specs.Captured.{kinds_of}
use Rattle.x10_copy.proofs.TurnsOfObjects.{words_of, wordy}
use Rattle.x10_copy.proofs.Finished.{captured_is}
use Rattle.x10_copy.proofs.SnapshotLemmas.{copied}
use Rattle.x10_copy.proofs.capturing.capture.Goals as goal

pub written-requires-clause-words : goal.written-requires-clause-words
written-requires-clause-words c = words_of c.args.places c.args.heap.now (kinds_of c.args.slots.now) c.args.words.now (omega arith) c.requires.words

pub written-requires-clause-objects : goal.written-requires-clause-objects
written-requires-clause-objects c = λ k lt.
    let p = get_or c.mark.new.marks.objects k 0 in
    let there = (c.in_ok-mark.ensures.ok.there.objects k lt).below in
    let s = c.requires.heap p there in
    (wordy c.args.image.now.classes c.args.places c.args.heap.now p (omega arith) there s, s.count)

pub returns-in-Ok-clause-ok : goal.returns-in-Ok-clause-ok
returns-in-Ok-clause-ok c = captured_is c.args.image.now.classes c.args.places c.args.heap.now
    (kinds_of c.args.slots.now) c.args.words.now c.args.head.now
    c.in-Ok.bytes.items c.mark.new.marks (words_of c.args.places c.args.heap.now (kinds_of c.args.slots.now) c.args.words.now
    (omega arith) c.requires.words)
    c.requires.few
    c.written.ensures.few c.in-Ok.ensures.texts c.in-Ok.ensures.rails c.in_ok-mark.ensures.ok c.in-Ok.ensures.value c.requires.words c.requires.heap

pub returns-in-Ok-clause-copy : goal.returns-in-Ok-clause-copy
returns-in-Ok-clause-copy c =
    copied c.args.image.now.classes c.args.places c.args.heap.now (kinds_of c.args.slots.now) c.args.words.now c.args.head.now c.in-Ok.bytes.items
    (captured_is c.args.image.now.classes c.args.places c.args.heap.now
    (kinds_of c.args.slots.now) c.args.words.now c.args.head.now c.in-Ok.bytes.items
    c.mark.new.marks (words_of c.args.places c.args.heap.now (kinds_of c.args.slots.now) c.args.words.now (omega arith) c.requires.words)
    c.requires.few
    c.written.ensures.few c.in-Ok.ensures.texts c.in-Ok.ensures.rails c.in_ok-mark.ensures.ok c.in-Ok.ensures.value c.requires.words c.requires.heap)
