use Rattle.std.proofs.Common.{ℕ, List, ◌++◌, ap, ◌∙◌}
use Rattle.slab.specs.Slab.{get}
use Rattle.x10_states.specs.Stays.{stay_or_null}
use Rattle.x10_states.proofs.parts.stay_text.Goals as goal

pub returns : goal.returns
returns c = record {
  idle = c.is_idle-idle.result;
  idle_is = c.is_idle-idle.ensures;
  text_is = c.in_ok-push_keyed.ensures
      ∙ ap (λ (t : List ℕ). t ++ stay_or_null c.args.kinds.now c.args.place.now (get c.args.place.now.stays c.args.key) c.is_idle-idle.result)
      c.new-text.ensures.bytes;
}
