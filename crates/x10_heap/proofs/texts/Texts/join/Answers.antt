use Rattle.x10_heap.proofs.LaidTexts.{there, pair, appended, named}
use Rattle.x10_heap.proofs.texts.Texts.join.Goals as goal

pub span_in-first-requires : goal.span_in-first-requires
span_in-first-requires c = rw c.deref.ensures.value
    (there c.self.inside.ends.items c.self.inside.bytes.items c.args.self.now c.args.first c.self.invariant c.self.view_is c.requires.first).end_there

pub span_in-second-requires : goal.span_in-second-requires
span_in-second-requires c = rw c.deref-2.ensures.value
    (there c.self.inside.ends.items c.self.inside.bytes.items c.args.self.now c.args.second c.self.invariant
    c.self.view_is c.requires.second).end_there

pub append_joined-requires-clause-first : goal.append_joined-requires-clause-first
append_joined-requires-clause-first c =
    let t = there c.self.inside.ends.items c.self.inside.bytes.items c.args.self.now c.args.first c.self.invariant c.self.view_is c.requires.first in
    rw (c.span_in-first.ensures.start, c.span_in-first.ensures.end, c.deref.ensures.value) (t.ordered, t.within)

pub append_joined-requires-clause-second : goal.append_joined-requires-clause-second
append_joined-requires-clause-second c =
    let t = there c.self.inside.ends.items c.self.inside.bytes.items c.args.self.now c.args.second c.self.invariant
    c.self.view_is c.requires.second in
    rw (c.span_in-second.ensures.start, c.span_in-second.ensures.end, c.deref-2.ensures.value) (t.ordered, t.within)

pub append_joined-requires-clause-few : goal.append_joined-requires-clause-few
append_joined-requires-clause-few c =
    let t = there c.self.inside.ends.items c.self.inside.bytes.items c.args.self.now c.args.first c.self.invariant c.self.view_is c.requires.first in
    let u = there c.self.inside.ends.items c.self.inside.bytes.items c.args.self.now c.args.second c.self.invariant
    c.self.view_is c.requires.second in
    rw (
      c.span_in-first.ensures.start,
      c.span_in-first.ensures.end,
      c.deref.ensures.value,
      c.span_in-second.ensures.start,
      c.span_in-second.ensures.end,
      c.deref-2.ensures.value,
    )
    (pair c.self.inside.ends.items c.self.inside.bytes.items c.args.self.now c.args.first c.args.second t u c.requires.few).few

pub invariant_of-self : goal.invariant_of-self
invariant_of-self c =
    let t = there c.self.inside.ends.items c.self.inside.bytes.items c.args.self.now c.args.first c.self.invariant c.self.view_is c.requires.first in
    let u = there c.self.inside.ends.items c.self.inside.bytes.items c.args.self.now c.args.second c.self.invariant
    c.self.view_is c.requires.second in
    let p = pair c.self.inside.ends.items c.self.inside.bytes.items c.args.self.now c.args.first c.args.second t u c.requires.few in
    (appended c.append_joined.result c.self.inside.ends.items c.self.inside.bytes.items _ _ _ c.args.self.now c.self.invariant c.self.view_is p.fits
    c.append_joined.ensures.ends
    (rw (
      c.span_in-first.ensures.start,
      c.span_in-first.ensures.end,
      c.deref.ensures.value,
      c.span_in-second.ensures.start,
      c.span_in-second.ensures.end,
      c.deref-2.ensures.value,
    ) at c.append_joined.ensures.bytes) c.append_joined.ensures.err).laid

pub returns-clause-ok : goal.returns-clause-ok
returns-clause-ok c =
    let t = there c.self.inside.ends.items c.self.inside.bytes.items c.args.self.now c.args.first c.self.invariant c.self.view_is c.requires.first in
    let u = there c.self.inside.ends.items c.self.inside.bytes.items c.args.self.now c.args.second c.self.invariant
    c.self.view_is c.requires.second in
    let p = pair c.self.inside.ends.items c.self.inside.bytes.items c.args.self.now c.args.first c.args.second t u c.requires.few in
    named c.append_joined.result _ c.args.self.now _ c.args.first c.args.second
    (appended c.append_joined.result c.self.inside.ends.items c.self.inside.bytes.items _ _ _ c.args.self.now c.self.invariant c.self.view_is p.fits
    c.append_joined.ensures.ends
    (rw (
      c.span_in-first.ensures.start,
      c.span_in-first.ensures.end,
      c.deref.ensures.value,
      c.span_in-second.ensures.start,
      c.span_in-second.ensures.end,
      c.deref-2.ensures.value,
    ) at c.append_joined.ensures.bytes) c.append_joined.ensures.err).are p.is
