use Rattle.std.proofs.Common.{length, ap, arith}
use Rattle.x10_heap.proofs.Laid.{many}
use Rattle.x10_heap.proofs.objects.Objects.len.Goals as goal

pub returns : goal.returns
returns c = omega (
  arith,
  c.len.ensures,
  c.self.inside.classes.ok,
  (many 0 c.self.inside.classes.items c.self.inside.ends.items c.self.inside.words.items (length c.self.inside.words.items) c.self.invariant).0,
  ap length c.self.view_is,
)
