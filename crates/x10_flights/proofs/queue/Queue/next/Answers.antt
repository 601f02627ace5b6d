use Rattle.std.proofs.Common.{ℕ, ◌-◌, List, find, take, length, drop, ltb, subst, ap, ◌∙◌, sym, arith, rules}
use Rattle.std.proofs.lemmas.Bool.{ltb-true, ltb-false}
use Rattle.std.proofs.lemmas.List.{take_rest}
use Rattle.std.proofs.lemmas.List.Sorted.{IsPartitionPoint-from_clause, IsPartitionedBy-ltb}
use Rattle.x10_flights.specs.Flights.{flies_to, IsNext, RisingBy, Queued, Has}
use Rattle.x10_flights.proofs.RisingKeys.{rising_sorted, rising_drop}
use Rattle.x10_flights.proofs.FlightsQueues.{Has-drop, next}
use Rattle.x10_flights.proofs.queue.Queue.next.Goals as goal

pub returns : goal.returns
returns c =
    let test = flies_to c.args.table.now.flying c.args.place in
    let numbers = take (length c.deref.result.now - c.self.inside.head) (drop c.self.inside.head c.deref.result.now) in
    let same = take_rest c.deref.result.now c.self.inside.head ∙ ap (drop c.self.inside.head) c.deref.ensures.value
    ∙ ap (λ (q : Queued). q.numbers) c.self.view_is in
    let rising = subst (λ (ns : List ℕ). RisingBy (λ n. n) 0 ns c.args.table.now.posted) (sym same) c.requires.rising in
    let sorted = rising_sorted (λ (n : ℕ). n) 0 numbers c.args.table.now.posted rising in
    let parted = IsPartitionedBy-ltb (λ (n : ℕ). n) numbers c.args.from sorted in
    let point = IsPartitionPoint-from_clause (λ (n : ℕ). ltb n c.args.from) _ _ c.partition_point-start.ensures.partitioned parted
    (λ a r q k. search rules) in
    subst (IsNext test c.args.from) (sym (c.first_flying.ensures ∙ ap (find test) (take_rest numbers c.partition_point-start.result)))
    (next test c.args.from (drop c.partition_point-start.result numbers) c.args.table.now.posted
    (rising_drop (λ (n : ℕ). n) 0 numbers c.args.table.now.posted c.partition_point-start.result c.args.from rising
    (λ k d a b. ltb-false _ _ (point.1 k d a b)))
    (λ m a t. Has-drop numbers c.partition_point-start.result c.args.from m (subst (λ (ns : List ℕ). Has ns m) (sym same) (c.requires.filed m t)) a
    (λ k d b. ltb-true _ _ (point.0 k d (omega arith) b))))
