use Rattle.std.proofs.Common.{◌≡◌, length}
use Rattle.x10_verify.specs.States.{IsFresh}
use Rattle.x10_verify.proofs.states.blank.Given as goal

abbrev pub invariant-loop : goal.invariant-loop
invariant-loop l = record { fresh : IsFresh l.table.items; size : length l.table.items ≡ l.counter }
