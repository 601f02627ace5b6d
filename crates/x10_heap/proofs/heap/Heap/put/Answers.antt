use Rattle.std.proofs.Common.{◌∙◌, length, ap, arith}
use Rattle.std.proofs.lemmas.List.{length-set}
use Rattle.x10_heap.proofs.heap.Heap.put.Goals as goal

pub invariant_of-self : goal.invariant_of-self
invariant_of-self c =
    let there = rw (← c.self.view_is) at c.requires.is_there in
    let same = ap length (c.put.ensures c.requires.it there) ∙ length-set c.self.inside.objects c.args.object _ in
    record {
      objects_few = omega (arith, c.self.invariant.objects_few, same);
      rails_few = c.self.invariant.rails_few;
      texts_few = c.self.invariant.texts_few;
      exports_few = c.self.invariant.exports_few;
    }
