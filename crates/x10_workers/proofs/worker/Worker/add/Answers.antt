use Rattle.std.proofs.Common.{◌++◌, ◌∷◌, [], sym, ap, subst, ◌∙◌}
use Rattle.x10_hall.specs.Repetitions.{IsLast}
use Rattle.x10_workers.proofs.WorkLemmas.{alike_itself}
use Rattle.x10_workers.proofs.worker.Worker.add.Goals as goal

pub returns-then-is_again-clause-kept : goal.returns-then-is_again-clause-kept
returns-then-is_again-clause-kept c =
    let again = c.is_again.ensures c.if-is_again.true in
    record {
      like = again.last;
      kept = c.in_ok-again.ensures.ok again.last (subst (λ k. IsLast k.items again.last) (sym c.wait_again.ensures.kept) again.is_last)
          ∙ ap (λ k. k.items ++ again.last ∷ []) c.wait_again.ensures.kept;
      alike = again.alike;
    }

pub returns-clause-kept : goal.returns-clause-kept
returns-clause-kept c = record {
  like = c.args.own;
  kept = c.in_ok-push.ensures.ok ∙ ap (λ k. k.items ++ c.args.own ∷ []) c.wait_to_be_posted.ensures.kept;
  alike = alike_itself c.args.own;
}
