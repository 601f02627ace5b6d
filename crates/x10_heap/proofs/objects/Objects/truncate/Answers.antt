use Rattle.std.proofs.Common.{sym, ap, length, arith}
use Rattle.std.proofs.lemmas.List.{take_all}
use Rattle.x10_heap.proofs.Laid.{many, shortened}
use Rattle.x10_heap.proofs.objects.Objects.truncate.Goals as goal

pub returns-then-objects-len : goal.returns-then-objects-len
returns-then-objects-len c =
    let m = many 0 c.self.inside.classes.items c.self.inside.ends.items c.self.inside.words.items
    (length c.self.inside.words.items) c.self.invariant in
    sym (take_all c.args.objects c.args.self.now (omega (
      arith,
      c.if-objects-len.true,
      c.len.ensures,
      c.self.inside.classes.ok,
      m.0,
      ap length c.self.view_is,
    )))

pub start_in-start-requires : goal.start_in-start-requires
start_in-start-requires c =
    let m = many 0 c.self.inside.classes.items c.self.inside.ends.items c.self.inside.words.items
    (length c.self.inside.words.items) c.self.invariant in
    rw c.deref.ensures.value (omega (arith, c.if-objects-len.false, c.len.ensures, c.self.inside.classes.ok, m.1))

pub invariant_of-self : goal.invariant_of-self
invariant_of-self c =
    let s = shortened c.self.inside.classes.items c.self.inside.ends.items c.self.inside.words.items c.args.self.now c.args.objects c.self.invariant
    c.self.view_is (omega (arith, c.if-objects-len.false, c.len.ensures, c.self.inside.classes.ok)) in
    rw (c.truncate.ensures.items, c.truncate-2.ensures.items, c.truncate-3.ensures.items, c.start_in-start.ensures, c.deref.ensures.value) s.laid

pub returns : goal.returns
returns c =
    let s = shortened c.self.inside.classes.items c.self.inside.ends.items c.self.inside.words.items c.args.self.now c.args.objects c.self.invariant
    c.self.view_is (omega (arith, c.if-objects-len.false, c.len.ensures, c.self.inside.classes.ok)) in
    rw (c.truncate.ensures.items, c.truncate-2.ensures.items, c.truncate-3.ensures.items, c.start_in-start.ensures, c.deref.ensures.value) s.are
