use Rattle.std.proofs.Common.{map, ◌∙◌, ap, arith}
use Rattle.std.specs.Prelude.{option_map}
use Rattle.std.proofs.lemmas.List.{length-map}
use Rattle.std.proofs.lemmas.Option.{slice_get-map}
use Rattle.x10_copy.specs.Arrived.{object_from}
use Rattle.x10_copy.proofs.Additions.{objects_start, objects_next, objects_end}
use Rattle.x10_copy.proofs.adding.add_each.Goals as goal

pub loop-k-init : goal.loop-k-init
loop-k-init c = objects_start c.args.heap.now
    (map (object_from c.args.bases.now.texts c.args.bases.now.rails c.args.bases.now.objects) c.args.nodes.now)

pub loop-k-preserved : goal.loop-k-preserved
loop-k-preserved c =
    let f = object_from c.args.bases.now.texts c.args.bases.now.rails c.args.bases.now.objects in
    let nodes = c.args.nodes.now in
    objects_next c.args.heap.now c.loop-k.heap c.add_object.new.heap (map f nodes) c.loop-k.k (f c.node.result) c.loop-k.invariant
    (slice_get-map f nodes c.loop-k.k ∙ ap (λ o. option_map f o) c.node.ensures.value) c.in_ok-add_object.ensures.ok

pub returns-clause-ok : goal.returns-clause-ok
returns-clause-ok c =
    let f = object_from c.args.bases.now.texts c.args.bases.now.rails c.args.bases.now.objects in
    let nodes = c.args.nodes.now in
    objects_end c.args.heap.now c.loop-k.heap (map f nodes) c.loop-k.k c.loop-k.invariant
    (omega (arith, length-map nodes f, c.loop-k-test.false, c.len-k-end.ensures.value))
