use Rattle.std.proofs.Common.{length, ap}
use Rattle.x10_model.specs.Structure.{calls_earlier, bound_of}
use Rattle.x10_bounds.specs.Spots.{capped}
use Rattle.x10_bounds.proofs.FirstFailure.{none_fails}
use Rattle.x10_bounds.proofs.Sums.{sum_more, capped-capped}
use Rattle.x10_bounds.specs.declared.spot.Spot.{Spot}
use Rattle.x10_bounds.proofs.steps.bound_of.Goals as goal

pub cost-cost-requires : goal.cost-cost-requires
cost-cost-requires c = none_fails (λ pc i. calls_earlier (length c.args.earlier.now) i) c.args.code.now c.loop-pc.pc c.instr_at.result
    c.requires.order c.instr_at.ensures

pub loop-pc-preserved : goal.loop-pc-preserved
loop-pc-preserved c = (
  sum_more c.args.earlier.now c.args.code.now c.loop-pc.pc c.instr_at.result c.loop-pc.steps c.capped_sum-steps.result c.capped_product.result
      c.cost-cost.result c.spot_at-weight.result.weight (capped (bound_of c.args.earlier.now c.args.code.now))
      c.instr_at.ensures c.cost-cost.ensures (ap (λ (s : Spot). s.weight) c.spot_at-weight.ensures) c.capped_product.ensures
      c.capped_sum-steps.ensures c.loop-pc.invariant.0,
  capped-capped c.capped_sum-steps.result _ c.capped_sum-steps.ensures,
)
