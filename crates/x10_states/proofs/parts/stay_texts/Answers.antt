use Rattle.std.proofs.Common.{ℕ, ◌≤◌, List, map, sym, subst, ◌∙◌}
use Rattle.std.specs.String.{string_bytes}
use Rattle.x10_states.proofs.Stayed.{AreSoFar, all, one_used}
use Rattle.x10_states.proofs.parts.stay_texts.Goals as goal

pub loop-key-preserved : goal.loop-key-preserved
loop-key-preserved c =
    subst (λ (ts : List _). AreSoFar c.args.kinds.now c.args.place.now (map string_bytes ts)) (sym {A = List _} c.in_ok-push.ensures.items)
    (one_used string_bytes c.args.kinds.now c.args.place.now c.push_stays.new.texts.items c.in_ok-stay_text.field-0 c.in-Some.key
    (c.in_ok-push_stays.ensures.listed c.loop-key.invariant.listed) c.in_ok-push_stays.ensures.length c.in_ok-stay_text.ensures
    c.in-Some.ensures.used)

pub returns : goal.returns
returns c = all string_bytes c.args.kinds.now c.args.place.now c.loop-key.texts.items c.loop-key.invariant
    (λ (k : ℕ) h. c.in_default.ensures k (subst (λ (n : ℕ). n ≤ k) (sym (c.len.ensures ∙ c.loop-key.texts.ok.0)) h))
