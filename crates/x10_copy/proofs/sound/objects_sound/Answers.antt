use Rattle.std.proofs.Common.{◌<◌, length, arith, rules}
use Rattle.std.proofs.lemmas.Option.{slice_get-get_or}
use Rattle.x10_copy.specs.Graphs.{no_object, object_at}
use Rattle.x10_copy.specs.Soundness.{object_sound}
use Rattle.x10_copy.proofs.Tests.{each_next, each_fail}
use Rattle.x10_copy.proofs.sound.objects_sound.Goals as goal

pub returns-then-not-object_sound : goal.returns-then-not-object_sound
returns-then-not-object_sound c =
    let lt : c.loop-object.object < length c.args.heap.now.objects = omega (arith, c.loop-object-test.true, c.objects-object-end.ensures.value) in
    each_fail (object_sound c.args.image.now.classes c.args.places c.args.heap.now) _ c.args.heap.now.objects c.loop-object.object
    (object_at c.args.heap.now c.loop-object.object) c.loop-object.invariant
    (slice_get-get_or c.args.heap.now.objects c.loop-object.object no_object lt)
    (search rules)

pub loop-object-preserved : goal.loop-object-preserved
loop-object-preserved c =
    let lt : c.loop-object.object < length c.args.heap.now.objects = omega (arith, c.loop-object-test.true, c.objects-object-end.ensures.value) in
    each_next (object_sound c.args.image.now.classes c.args.places c.args.heap.now) _ c.args.heap.now.objects c.loop-object.object
    (object_at c.args.heap.now c.loop-object.object) c.loop-object.invariant
    (slice_get-get_or c.args.heap.now.objects c.loop-object.object no_object lt)
    (search rules)
