use Rattle.x10_asm.proofs.FittingSources.{spelled_fits}
use Rattle.x10_asm.proofs.assembling.image_in.Goals as goal

pub unreachable-requires : goal.unreachable-requires
unreachable-requires c = c.in_default.not-Memory (c.in-Err.ensures.only (spelled_fits c.args.text.now _ c.in_ok-module.ensures.exact))
