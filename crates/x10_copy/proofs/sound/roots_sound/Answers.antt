use Rattle.std.proofs.Common.{arith, rules}
use Rattle.std.proofs.lemmas.Option.{slice_get-get_or}
use Rattle.x10_copy.specs.Captured.{kinds_of}
use Rattle.x10_copy.specs.Fitting.{no_slot}
use Rattle.x10_copy.specs.Soundness.{word_sound}
use Rattle.x10_copy.proofs.NotedWords.{kind_at}
use Rattle.x10_copy.proofs.Tests.{pairs_next, pairs_fail}
use Rattle.x10_copy.proofs.sound.roots_sound.Goals as goal

pub returns-then-not-word_sound : goal.returns-then-not-word_sound
returns-then-not-word_sound c = pairs_fail (word_sound c.args.places c.args.heap.now) _ (kinds_of c.args.slots.now) c.args.words.now c.loop-i.i _ _
    c.loop-i.invariant
    (kind_at c.args.slots.now c.loop-i.i no_slot (omega arith)) (slice_get-get_or c.args.words.now c.loop-i.i 0 c.loop-i-test.true) (search rules)

pub loop-i-preserved : goal.loop-i-preserved
loop-i-preserved c = pairs_next (word_sound c.args.places c.args.heap.now) _
    (kinds_of c.args.slots.now) c.args.words.now c.loop-i.i _ _ c.loop-i.invariant
    (kind_at c.args.slots.now c.loop-i.i no_slot (omega arith)) (slice_get-get_or c.args.words.now c.loop-i.i 0 c.loop-i-test.true) (search rules)
