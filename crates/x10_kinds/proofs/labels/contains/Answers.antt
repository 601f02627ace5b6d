use Rattle.x10_kinds.proofs.Rows.{lacks}
use Rattle.x10_kinds.proofs.labels.contains.Goals as goal

pub returns-then-labels-at : goal.returns-then-labels-at
returns-then-labels-at c = (
  λ e. cc,
  λ all. absurd (lacks c.args.labels.now c.args.less.now c.loop-at.at c.requires c.loop-at-test.true
      c.if-labels-at.true all),
)
