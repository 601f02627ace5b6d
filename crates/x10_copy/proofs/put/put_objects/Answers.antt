use Rattle.std.proofs.Common.{◌<◌, length, arith}
use Rattle.x10_copy.proofs.WrittenLemmas.{object_found}
use Rattle.x10_copy.proofs.put.put_objects.Goals as goal

pub put_object-requires-clause-found : goal.put_object-requires-clause-found
put_object-requires-clause-found c =
    let lt : c.loop-k.k < length c.args.marks.now.objects = omega (arith, c.loop-k-test.true, c.objects-k-end.ensures.value) in
    rw c.object.ensures (object_found c.args.image.now.classes c.args.heap.now c.args.marks.now c.args.marks.now.objects c.loop-k.k c.requires.found
    lt)
