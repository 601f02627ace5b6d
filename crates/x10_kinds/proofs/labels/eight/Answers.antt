use Rattle.x10_kinds.specs.Labels.{eight_from}
use Rattle.x10_kinds.proofs.labels.eight.Goals as goal

pub returns : goal.returns
unfolding eight_from
returns c = c.from_le_bytes.ensures
