use Rattle.std.proofs.Common.{ℕ, List, sym, subst, inl, inr}
use Rattle.x10_flights.specs.Flights.{Queued, flies_to, RisingBy, Has}
use Rattle.x10_flights.proofs.FlightsQueues.{Has-filter}
use Rattle.x10_flights.proofs.RisingKeys.{rising_filter}
use Rattle.x10_flights.proofs.queue.Queue.sweep.Goals as goal

pub returns-then-self-all-clause-kept : goal.returns-then-self-all-clause-kept
returns-then-self-all-clause-kept c n t h =
    let passed = c.pass.ensures.kept n t (subst (λ (q : Queued). Has q.numbers n) (sym c.self.view_is) h) in
    elim c.cut.ensures.numbers [
      | inl e ↦ subst (λ (ns : List ℕ). Has ns n) (sym e) passed
      | inr e ↦ subst (λ (ns : List ℕ). Has ns n) (sym e) (Has-filter (flies_to c.args.table.now.flying c.args.place) _ n t passed)
    ]

pub returns-then-self-all-clause-rising : goal.returns-then-self-all-clause-rising
returns-then-self-all-clause-rising c top r =
    let passed = c.pass.ensures.rising top (subst (λ (q : Queued). RisingBy (λ n. n) 0 q.numbers top) (sym c.self.view_is) r) in
    elim c.cut.ensures.numbers [
      | inl e ↦ subst (λ (ns : List ℕ). RisingBy (λ n. n) 0 ns top) (sym e) passed
      | inr e ↦ subst (λ (ns : List ℕ). RisingBy (λ n. n) 0 ns top) (sym e)
          (rising_filter (λ (n : ℕ). n) (flies_to c.args.table.now.flying c.args.place) 0 _ top passed)
    ]
