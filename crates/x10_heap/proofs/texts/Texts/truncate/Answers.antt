use Rattle.std.proofs.Common.{sym, ap, length, arith}
use Rattle.std.proofs.lemmas.List.{take_all}
use Rattle.x10_heap.proofs.LaidTexts.{many, shortened}
use Rattle.x10_heap.proofs.texts.Texts.truncate.Goals as goal

pub returns-then-texts-len : goal.returns-then-texts-len
returns-then-texts-len c = sym (take_all c.args.texts c.args.self.now (omega (
  arith,
  c.if-texts-len.true,
  c.len.ensures,
  c.self.inside.ends.ok,
  many 0 c.self.inside.ends.items c.self.inside.bytes.items,
  ap length c.self.view_is,
)))

pub invariant_of-self : goal.invariant_of-self
invariant_of-self c =
    let s = shortened c.self.inside.ends.items c.self.inside.bytes.items c.args.self.now c.args.texts c.self.invariant
    c.self.view_is (omega (arith, c.if-texts-len.false, c.len.ensures, c.self.inside.ends.ok)) in
    rw (c.truncate.ensures.items, c.truncate-2.ensures.items, c.start_in-start.ensures, c.deref.ensures.value) s.laid

pub returns : goal.returns
returns c =
    let s = shortened c.self.inside.ends.items c.self.inside.bytes.items c.args.self.now c.args.texts c.self.invariant
    c.self.view_is (omega (arith, c.if-texts-len.false, c.len.ensures, c.self.inside.ends.ok)) in
    rw (c.truncate.ensures.items, c.truncate-2.ensures.items, c.start_in-start.ensures, c.deref.ensures.value) s.are
