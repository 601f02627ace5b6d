use Rattle.std.proofs.Common.{ℕ, ap, ◌∙◌, arith}
use Rattle.x10_model.specs.Structure.{around}
use Rattle.x10_bounds.specs.Spots.{spot_of}
use Rattle.x10_bounds.proofs.Spots.{opener_is}
use Rattle.x10_bounds.proofs.spot.outside.Goals as goal

pub spot_at-requires-in-Loop : goal.spot_at-requires-in-Loop
spot_at-requires-in-Loop c =
    let at = opener_is c.args.code.now c.args.pc c.in-Loop.opener c.spot_at.result c.spot_at.ensures c.in-Loop.is in
    c.requires.each c.from.result (omega (arith, at.0, c.from.ensures))

pub returns-in-Loop : goal.returns-in-Loop
returns-in-Loop c =
    let at = opener_is c.args.code.now c.args.pc c.in-Loop.opener c.spot_at.result c.spot_at.ensures c.in-Loop.is in
    c.spot_at-in-Loop.ensures ∙ ap (λ (o : ℕ). spot_of (around c.args.code.now o)) c.from.ensures ∙ ap spot_of at.1
