use Rattle.std.proofs.Common.{ℕ, ◌*◌, ap, ◌∙◌}
use Rattle.x10_bounds.specs.Spots.{capped}
use Rattle.x10_bounds.proofs.Spots.{in_loop_is}
use Rattle.x10_bounds.proofs.spot.in_loop.Goals as goal

pub returns : goal.returns
returns c rs e = in_loop_is c.args.spot c.args.opener c.args.limit c.capped_product.result rs e
    (c.capped_product.ensures ∙ ap (λ (n : ℕ). capped (n * c.args.spot.weight)) c.from.ensures)
