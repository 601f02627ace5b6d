use Rattle.x10_finish.proofs.Ledgers.{if_err}
use Rattle.x10_finish.proofs.MetLemmas.{first_not_full}
use Rattle.x10_finish.proofs.tally.Tally.count.Goals as goal
use Rattle.x10_finish.proofs.tally.Tally.count.Goals.{in-Some-count, in-None}

pub returns-clause-err : goal.returns-clause-err
returns-clause-err c = elim c.match-count-2.branch [
  | in-Some-count w ↦
      let counted = w.in-Some-count.ensures in
      rw w.result-is (if_err w.in-Some-count.counted counted.err
      (λ why x. absurd (first_not_full c.count.new.self c.meet.new.self c.args.finish c.self.inside.places c.args.change counted.was
      c.in_ok-meet.ensures.ok counted.was_there x.1)))
  | in-None w ↦ rw w.result-is tt
]
