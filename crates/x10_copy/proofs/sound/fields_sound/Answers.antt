use Rattle.std.proofs.Common.{rules}
use Rattle.std.proofs.lemmas.Option.{slice_get-get_or}
use Rattle.x10_copy.specs.Soundness.{word_sound}
use Rattle.x10_copy.proofs.Tests.{pairs_next, pairs_fail}
use Rattle.x10_copy.proofs.sound.fields_sound.Goals as goal

pub returns-then-not-word_sound : goal.returns-then-not-word_sound
returns-then-not-word_sound c = pairs_fail (word_sound c.args.places c.args.heap.now) _ c.args.class.now c.args.words.now c.loop-j.j _ _
    c.loop-j.invariant
    c.field.ensures.value (slice_get-get_or c.args.words.now c.loop-j.j 0 c.loop-j-test.true) (search rules)

pub loop-j-preserved : goal.loop-j-preserved
loop-j-preserved c = pairs_next (word_sound c.args.places c.args.heap.now) _ c.args.class.now c.args.words.now c.loop-j.j _ _ c.loop-j.invariant
    c.field.ensures.value (slice_get-get_or c.args.words.now c.loop-j.j 0 c.loop-j-test.true) (search rules)
