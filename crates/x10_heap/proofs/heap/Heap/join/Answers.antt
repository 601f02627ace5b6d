use Rattle.std.proofs.Common.{◌++◌, [], ◌∷◌, length, ap, arith, length-append}
use Rattle.x10_heap.proofs.heap.Heap.join.Goals as goal

pub invariant_of-self-2 : goal.invariant_of-self-2
invariant_of-self-2 c =
    let one = (c.text.result.now ++ c.text-2.result.now) ∷ [] in
    let first = rw (← c.self.view_is) at c.text.ensures.value in
    let second = rw (← c.self.view_is) at c.text-2.ensures.value in
    record {
      objects_few = c.self.invariant.objects_few;
      rails_few = c.self.invariant.rails_few;
      texts_few = grind (
        arith,
        ap length (c.in-Ok.ensures.ok c.text.result.now c.text-2.result.now first second),
        length-append c.self.inside.texts one,
        c.in_ok-number.ensures.full,
        c.len.ensures,
      );
      exports_few = c.self.invariant.exports_few;
    }
