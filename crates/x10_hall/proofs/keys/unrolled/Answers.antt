use Rattle.std.proofs.Common.{◌∷◌, [], ◌++◌, sym, ap, ◌∙◌}
use Rattle.x10_hall.specs.KeyLists.{in_rounds}
use Rattle.x10_hall.proofs.KeyRounds.{longer}
use Rattle.x10_hall.proofs.keys.unrolled.Goals as goal

pub loop-at-preserved : goal.loop-at-preserved
loop-at-preserved c =
    c.in_ok-push.ensures.items ∙ ap (λ ks. ks ++ c.in_round.result ∷ []) c.loop-at.invariant
    ∙ ap (λ k. in_rounds c.args.round.now c.loop-at.at ++ k ∷ []) c.in_round.ensures
    ∙ sym (longer c.args.round.now c.loop-at.at)
