use Rattle.std.proofs.Common.{◌≡◌, drop}
use Rattle.x10_copy.specs.Fitting.{each_passes}
use Rattle.x10_copy.specs.Soundness.{object_sound}
use Rattle.x10_copy.proofs.sound.objects_sound.Given as goal

abbrev pub invariant-loop-object : goal.invariant-loop-object
invariant-loop-object l = each_passes (object_sound l.image.classes l.places l.heap) l.heap.objects
    ≡ each_passes (object_sound l.image.classes l.places l.heap) (drop l.object l.heap.objects)
