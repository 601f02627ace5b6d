use Rattle.x10_heap.proofs.LaidTexts.{there}
use Rattle.x10_heap.proofs.texts.Texts.get.Goals as goal

pub span_in-requires : goal.span_in-requires
span_in-requires c = rw c.deref-2.ensures.value
    (there c.self.inside.ends.items c.self.inside.bytes.items c.args.self.now c.args.text c.self.invariant c.self.view_is c.requires).end_there

pub part-bytes-requires-clause-ordered : goal.part-bytes-requires-clause-ordered
part-bytes-requires-clause-ordered c = rw (c.span_in.ensures.start, c.span_in.ensures.end, c.deref-2.ensures.value)
    (there c.self.inside.ends.items c.self.inside.bytes.items c.args.self.now c.args.text c.self.invariant c.self.view_is c.requires).ordered

pub part-bytes-requires-clause-within : goal.part-bytes-requires-clause-within
part-bytes-requires-clause-within c = rw (c.span_in.ensures.end, c.deref-2.ensures.value, c.deref.ensures.value)
    (there c.self.inside.ends.items c.self.inside.bytes.items c.args.self.now c.args.text c.self.invariant c.self.view_is c.requires).within

pub from_utf8_unchecked-requires : goal.from_utf8_unchecked-requires
from_utf8_unchecked-requires c =
    rw (c.part-bytes.ensures, c.span_in.ensures.start, c.span_in.ensures.end, c.deref-2.ensures.value, c.deref.ensures.value)
    (there c.self.inside.ends.items c.self.inside.bytes.items c.args.self.now c.args.text c.self.invariant c.self.view_is c.requires).fits.utf8

pub returns-clause-value : goal.returns-clause-value
returns-clause-value c =
    rw (
      c.from_utf8_unchecked.ensures,
      c.part-bytes.ensures,
      c.span_in.ensures.start,
      c.span_in.ensures.end,
      c.deref-2.ensures.value,
      c.deref.ensures.value,
    )
    (there c.self.inside.ends.items c.self.inside.bytes.items c.args.self.now c.args.text c.self.invariant c.self.view_is c.requires).is

pub returns-clause-fits : goal.returns-clause-fits
returns-clause-fits c =
    rw (
      c.from_utf8_unchecked.ensures,
      c.part-bytes.ensures,
      c.span_in.ensures.start,
      c.span_in.ensures.end,
      c.deref-2.ensures.value,
      c.deref.ensures.value,
    )
    (there c.self.inside.ends.items c.self.inside.bytes.items c.args.self.now c.args.text c.self.invariant c.self.view_is c.requires).fits
