use Rattle.std.proofs.Common.{◌≡◌, ◌∙◌, ap, arith}
use Rattle.std.specs.Prelude.{slice_index}
use Rattle.std.proofs.lemmas.List.{get_or_default}
use Rattle.x10_heap.specs.Heaps.{ObjectState}
use Rattle.x10_heap.proofs.Laid.{there, this_one}
use Rattle.x10_heap.proofs.objects.Objects.fields.Goals as goal

pub start_in-requires : goal.start_in-requires
start_in-requires c = rw c.deref-2.ensures.value (omega (
  arith,
  (there c.self.inside.classes.items c.self.inside.ends.items c.self.inside.words.items c.args.self.now c.args.object c.self.invariant
      c.self.view_is c.requires).end_there,
))

pub index-requires : goal.index-requires
index-requires c = omega (
  arith,
  (there c.self.inside.classes.items c.self.inside.ends.items c.self.inside.words.items c.args.self.now c.args.object
      c.self.invariant c.self.view_is c.requires).end_there,
  c.self.inside.ends.ok,
)

pub part-requires-clause-ordered : goal.part-requires-clause-ordered
part-requires-clause-ordered c =
    let t = there c.self.inside.classes.items c.self.inside.ends.items c.self.inside.words.items c.args.self.now c.args.object c.self.invariant
    c.self.view_is c.requires in
    let to : c.index.result.now ≡ slice_index c.self.inside.ends.items c.args.object =
    c.index.ensures ∙ get_or_default c.self.inside.ends.items c.args.object c.index.result.now 0 t.end_there in
    rw (c.start_in.ensures, c.deref-2.ensures.value, to) t.ordered

pub part-requires-clause-within : goal.part-requires-clause-within
part-requires-clause-within c =
    let t = there c.self.inside.classes.items c.self.inside.ends.items c.self.inside.words.items c.args.self.now c.args.object c.self.invariant
    c.self.view_is c.requires in
    let to : c.index.result.now ≡ slice_index c.self.inside.ends.items c.args.object =
    c.index.ensures ∙ get_or_default c.self.inside.ends.items c.args.object c.index.result.now 0 t.end_there in
    rw (c.deref.ensures.value, to) t.within

pub returns : goal.returns
returns c = λ o e.
    let t = there c.self.inside.classes.items c.self.inside.ends.items c.self.inside.words.items c.args.self.now c.args.object c.self.invariant
    c.self.view_is c.requires in
    let to : c.index.result.now ≡ slice_index c.self.inside.ends.items c.args.object =
    c.index.ensures ∙ get_or_default c.self.inside.ends.items c.args.object c.index.result.now 0 t.end_there in
    rw (c.part.ensures, c.start_in.ensures, c.deref.ensures.value, c.deref-2.ensures.value, to)
    (ap (λ (x : ObjectState). x.fields) (this_one c.self.inside.classes.items c.self.inside.ends.items c.self.inside.words.items c.args.self.now
    c.args.object o t e))
