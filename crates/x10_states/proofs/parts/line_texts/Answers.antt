use Rattle.std.proofs.Common.{◌≡◌, ◌+◌, List, map, take, sym, subst}
use Rattle.std.specs.String.{string_bytes}
use Rattle.x10_model.proofs.Decided.{get_below}
use Rattle.x10_states.specs.Parts.{line_text}
use Rattle.x10_states.proofs.Listed.{one_text_more}
use Rattle.x10_states.proofs.parts.line_texts.Goals as goal

pub loop-i-preserved : goal.loop-i-preserved
loop-i-preserved c =
    let there = get_below c.args.lines.now c.loop-i.i c.loop-i-test.true in
    subst (λ (ts : List _). map string_bytes ts ≡ map line_text (take (c.loop-i.i + 1) c.args.lines.now)) (sym {A = List _} c.in_ok-push.ensures.items)
    (one_text_more line_text string_bytes c.args.lines.now c.loop-i.texts.items c.loop-i.i there.0 c.in_ok-line_at.field-0 there.1
    c.loop-i.invariant (c.in_ok-line_at.ensures there.0 there.1))
