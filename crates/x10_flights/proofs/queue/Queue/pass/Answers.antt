use Rattle.std.proofs.Common.{◌≡◌, ℕ, ◌+◌, ◌<◌, false, List, drop, get_or, ap, subst, sym, ◌∙◌}
use Rattle.std.proofs.lemmas.List.{drop-drop, take_rest}
use Rattle.x10_flights.specs.Flights.{Queued, flies_to, Has, RisingBy}
use Rattle.x10_flights.proofs.FlightsQueues.{Has-passed}
use Rattle.x10_flights.proofs.RisingKeys.{rising_rest}
use Rattle.x10_flights.proofs.queue.Queue.pass.Goals as goal

left : (c : goal.After-self-1) → drop (c.self.inside.head + c.passed.result) c.self.inside.numbers.items
    ≡ drop c.passed.result c.args.self.now.numbers
left c = sym (drop-drop c.passed.result c.self.inside.head c.self.inside.numbers.items)
    ∙ ap (λ (q : Queued). drop c.passed.result q.numbers) c.self.view_is

before : (c : goal.After-self-1) → (k : ℕ) → k < c.passed.result
    → flies_to c.args.table.now.flying c.args.place (get_or c.args.self.now.numbers k 0) ≡ false
before c = subst (λ (ns : List ℕ). (k : ℕ) → k < c.passed.result → flies_to c.args.table.now.flying c.args.place (get_or ns k 0) ≡ false)
    (take_rest c.deref.result.now c.self.inside.head ∙ ap (drop c.self.inside.head) c.deref.ensures.value
    ∙ ap (λ (q : Queued). q.numbers) c.self.view_is)
    c.passed.ensures.before

pub returns-clause-kept : goal.returns-clause-kept
returns-clause-kept c n t h =
    subst (λ (ns : List ℕ). Has ns n) (sym (left c)) (Has-passed
    (flies_to c.args.table.now.flying c.args.place) c.args.self.now.numbers c.passed.result n t h (before c))

pub returns-clause-rising : goal.returns-clause-rising
returns-clause-rising c top r =
    subst (λ (ns : List ℕ). RisingBy (λ n. n) 0 ns top) (sym (left c)) (rising_rest (λ (n : ℕ). n) 0 c.args.self.now.numbers top c.passed.result r)
