use Rattle.std.specs.Prelude.{◌≡◌, ◌≤◌, replicate}
use Rattle.x10_hall.specs.Mails.{with_turns}
use Rattle.x10_hall.proofs.mail.Limited.post_stint.Given as goal

abbrev pub invariant-loop : goal.invariant-loop
invariant-loop l = record {
  most : l.self.most ≡ l.fn.self.most;
  some : 1 ≤ l.counter;
  hall : l.self.hall ≡ with_turns l.fn.self.hall (replicate l.counter l.fn.stint.turn);
}
