use Rattle.std.specs.Prelude.{◌≡◌, List, ◌++◌}
use Rattle.std.specs.Vec.Iter.{into_iter_items}
use Rattle.x10_hall.specs.declared.turn.Turn.{Turn}
use Rattle.x10_hall.specs.Mails.{with_turns, turns_in}
use Rattle.x10_hall.proofs.mail.Limited.post_all.Given as goal

abbrev pub invariant-loop-stint : goal.invariant-loop-stint
invariant-loop-stint l = record {
  can_next : (goal.iterator-loop-stint).can_next l.stint-iterator;
  is_finite : (goal.iterator-loop-stint).is_finite l.stint-iterator;
  most : l.self.most ≡ l.initial.self.most;
  posted : List Turn;
  turns : turns_in l.fn.stints.items ≡ posted ++ turns_in (into_iter_items l.stint-iterator);
  hall : l.self.hall ≡ with_turns l.initial.self.hall posted;
}
