use Rattle.std.proofs.Common.{sym, ◌∙◌, arith, rules}
use Rattle.x10_copy.proofs.Position.{numbered_next}
use Rattle.x10_copy.proofs.numbers.Numbers.note.Goals as goal

pub invariant_of-self-2 : goal.invariant_of-self-2
invariant_of-self-2 c =
    numbered_next c.self.inside.places.items c.make_place.new.places.items c.self.inside.parts.items _ c.args.part c.len-count.result c.self.invariant
    c.make_place.ensures.longer c.make_place.ensures.kept
    (search rules) (omega arith) c.in_ok-make_place.ensures.ok (rw c.deref-2.ensures.value at (sym c.is_numbered.ensures ∙ c.if-is_numbered.false))
    c.in-Ok.ensures.items
