use Rattle.std.proofs.Common.{◌≡◌, ◌+◌, List, map, take, sym, subst}
use Rattle.std.specs.String.{string_bytes}
use Rattle.x10_states.specs.Json.{json}
use Rattle.x10_states.proofs.Listed.{one_text_more}
use Rattle.x10_states.proofs.lists.text_texts.Goals as goal

pub loop-i-preserved : goal.loop-i-preserved
loop-i-preserved c = subst (λ (ts : List _). map string_bytes ts ≡ map json (take (c.loop-i.i + 1) c.args.heap.now.texts)) (sym {A = List _} c.in_ok-push.ensures.items)
    (one_text_more json string_bytes c.args.heap.now.texts c.loop-i.texts.items c.loop-i.i c.text.result.now c.in_ok-quoted_text.field-0 c.text.ensures.value c.loop-i.invariant c.in_ok-quoted_text.ensures)
