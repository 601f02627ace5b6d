use Rattle.std.proofs.Common.{◌≡◌, ◌+◌, ◌<◌, List, map, take, sym, subst}
use Rattle.std.specs.String.{string_bytes}
use Rattle.x10_model.proofs.Decided.{get_below}
use Rattle.x10_states.specs.Objects.{object_text}
use Rattle.x10_states.proofs.Listed.{one_text_more}
use Rattle.x10_states.proofs.lists.object_texts.Goals as goal

pub loop-i-preserved : goal.loop-i-preserved
loop-i-preserved c =
    let there = get_below c.args.heap.now.objects c.loop-i.i (subst (λ n. c.loop-i.i < n) c.objects-count.ensures.value c.loop-i-test.true) in
    subst (λ (ts : List _). map string_bytes ts ≡ map (object_text c.args.image.now.classes c.args.heap.now) (take (c.loop-i.i + 1) c.args.heap.now.objects)) (sym {A = List _} c.in_ok-push.ensures.items)
    (one_text_more (object_text c.args.image.now.classes c.args.heap.now) string_bytes c.args.heap.now.objects c.loop-i.texts.items c.loop-i.i there.0 c.in_ok-object_at.field-0 there.1 c.loop-i.invariant
    (c.in_ok-object_at.ensures there.0 there.1))
