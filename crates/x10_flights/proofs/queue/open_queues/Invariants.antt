use Rattle.std.proofs.Common.{◌≡◌, ◌≤◌, [], All, length}
use Rattle.x10_flights.proofs.queue.open_queues.Given as goal

abbrev pub invariant-loop : goal.invariant-loop
invariant-loop l = (length l.queues.items ≡ l.counter) × All (λ q. (q.numbers ≡ []) × (2 ≤ q.spare)) l.queues.items
