use Rattle.std.proofs.Common.{◌+◌, List, [], ◌∷◌, length, map, sym, ap, subst, ◌∙◌}
use Rattle.std.proofs.lemmas.List.{length-append}
use Rattle.std.specs.String.{string_bytes}
use Rattle.x10_states.specs.Stays.{AreListed}
use Rattle.x10_states.proofs.Stayed.{next_listed}
use Rattle.x10_states.proofs.parts.push_stays.Goals as goal

pub loop-key-preserved : goal.loop-key-preserved
loop-key-preserved c = (
  ap length c.in_ok-push.ensures.items ∙ length-append c.loop-key.texts.items (c.in_ok-stay_text.field-0 ∷ [])
      ∙ ap (λ n. n + 1) c.loop-key.invariant.0,
  λ a. subst (λ (ts : List _). AreListed c.args.kinds.now c.args.place.now (map string_bytes ts)) (sym {A = List _} c.in_ok-push.ensures.items)
      (next_listed string_bytes c.args.kinds.now c.args.place.now c.loop-key.texts.items c.in_ok-stay_text.field-0 c.loop-key.key
      (c.loop-key.invariant.1 a) c.loop-key.invariant.0 c.in_ok-stay_text.ensures),
)
