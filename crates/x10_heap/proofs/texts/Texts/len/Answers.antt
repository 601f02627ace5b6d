use Rattle.std.proofs.Common.{length, ap, arith}
use Rattle.x10_heap.proofs.LaidTexts.{many}
use Rattle.x10_heap.proofs.texts.Texts.len.Goals as goal

pub returns : goal.returns
returns c = omega (arith, c.len.ensures, c.self.inside.ends.ok, many 0 c.self.inside.ends.items c.self.inside.bytes.items, ap length c.self.view_is)
