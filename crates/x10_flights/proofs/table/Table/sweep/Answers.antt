use Rattle.std.proofs.Common.{List, is_some, ap, subst, ◌∙◌, sym, rules}
use Rattle.std.proofs.lemmas.Fn.{filter_same}
use Rattle.x10_flights.specs.declared.table.Slot.{Slot}
use Rattle.x10_flights.specs.Flights.{RisingBy, Tabled}
use Rattle.x10_flights.proofs.RisingKeys.{rising_filter}
use Rattle.x10_flights.proofs.FlightsSlots.{swept, flights_in}
use Rattle.x10_flights.proofs.table.Table.sweep.Goals as goal

pub invariant_of-self : goal.invariant_of-self
invariant_of-self c =
    let kept = filter_same _ (λ (s : Slot). is_some s.bytes) _ (λ x b q k. search rules) c.self.inside.slots.items _ c.retain.ensures.filtered in
    subst (λ (ss : List Slot). RisingBy (λ s. s.number) 0 ss c.self.inside.posted) (sym kept)
    (rising_filter (λ (s : Slot). s.number) (λ s. is_some s.bytes) 0 c.self.inside.slots.items c.self.inside.posted c.self.invariant)

pub returns-then-self-len-clause-flying : goal.returns-then-self-len-clause-flying
returns-then-self-len-clause-flying c =
    let kept = filter_same _ (λ (s : Slot). is_some s.bytes) _ (λ x b q k. search rules) c.self.inside.slots.items _ c.retain.ensures.filtered in
    ap flights_in kept ∙ swept c.self.inside.slots.items ∙ ap (λ (t : Tabled). t.flying) c.self.view_is
