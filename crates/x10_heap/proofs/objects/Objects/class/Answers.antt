use Rattle.std.proofs.Common.{◌∙◌, ap, arith}
use Rattle.std.proofs.lemmas.List.{get_or_default}
use Rattle.x10_heap.specs.Heaps.{ObjectState}
use Rattle.x10_heap.proofs.Laid.{there, this_one}
use Rattle.x10_heap.proofs.objects.Objects.class.Goals as goal

pub index-requires : goal.index-requires
index-requires c = omega (
  arith,
  (there c.self.inside.classes.items c.self.inside.ends.items c.self.inside.words.items c.args.self.now c.args.object
      c.self.invariant c.self.view_is c.requires).class_there,
  c.self.inside.classes.ok,
)

pub returns : goal.returns
returns c = λ o e.
    let t = there c.self.inside.classes.items c.self.inside.ends.items c.self.inside.words.items c.args.self.now c.args.object c.self.invariant
    c.self.view_is c.requires in
    c.index.ensures ∙ get_or_default c.self.inside.classes.items c.args.object c.index.result.now 0 t.class_there
    ∙ ap (λ (x : ObjectState). x.class) (this_one c.self.inside.classes.items c.self.inside.ends.items c.self.inside.words.items c.args.self.now
    c.args.object o t e)
