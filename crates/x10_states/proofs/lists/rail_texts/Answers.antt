use Rattle.std.proofs.Common.{◌≡◌, ◌+◌, List, map, take, sym, subst}
use Rattle.std.specs.String.{string_bytes}
use Rattle.x10_states.specs.Objects.{numbers_text}
use Rattle.x10_states.proofs.Listed.{one_text_more}
use Rattle.x10_states.proofs.lists.rail_texts.Goals as goal

pub loop-i-preserved : goal.loop-i-preserved
loop-i-preserved c = subst (λ (ts : List _). map string_bytes ts ≡ map numbers_text (take (c.loop-i.i + 1) c.args.heap.now.rails)) (sym {A = List _} c.in_ok-push.ensures.items)
    (one_text_more numbers_text string_bytes c.args.heap.now.rails c.loop-i.texts.items c.loop-i.i c.rail.result.now c.in_ok-rail_text.field-0 c.rail.ensures.value c.loop-i.invariant c.in_ok-rail_text.ensures)
