use Rattle.std.proofs.Common.{◌+◌, sym, subst, ◌∙◌, arith}
use Rattle.x10_kinds.specs.Labels.{IsFirstAlike, IsMetTo}
use Rattle.x10_kinds.proofs.Rows.{first_alike-lacks, met_to-kept, met_to-set}
use Rattle.x10_kinds.proofs.labels.weaken_part.Goals.{then-first-before, else-first-before}
use Rattle.x10_kinds.proofs.labels.weaken_part.Goals as goal

pub loop-at-preserved : goal.loop-at-preserved
loop-at-preserved c = elim c.if-first-before.branch [
  | then-first-before w ↦ record {
    done = subst (λ xs. IsMetTo c.args.before.now c.args.other.now (c.loop-at.at + 1) xs) (sym w.labels-is)
        (met_to-set c.args.before.now c.args.other.now c.loop-at.labels c.loop-at.at c.first_alike-first.result
        (omega arith) c.loop-at.invariant.done c.first_alike-first.ensures);
    kept = λ f. absurd (let e = w.changed-is in cc);
    lacking = λ f all. first_alike-lacks c.args.before.now c.args.other.now c.loop-at.at c.first_alike-first.result c.requires.left
        (omega arith) c.first_alike-first.ensures w.if-first-before.true all;
  }
  | else-first-before w ↦ record {
    done = subst (λ xs. IsMetTo c.args.before.now c.args.other.now (c.loop-at.at + 1) xs) (sym w.labels-is)
        (met_to-kept c.args.before.now c.args.other.now c.loop-at.labels c.loop-at.at c.loop-at.invariant.done
        (subst (λ x. IsFirstAlike c.args.before.now c.args.other.now c.loop-at.at x) w.if-first-before.false c.first_alike-first.ensures));
    kept = λ f. w.labels-is ∙ c.loop-at.invariant.kept (sym w.changed-is ∙ f);
    lacking = λ f. c.loop-at.invariant.lacking (sym w.changed-is ∙ f);
  }
]
