use Rattle.std.proofs.Common.{ℕ, List, Some, ap, ◌∙◌, sym}
use Rattle.x10_flights.specs.declared.table.Slot.{Slot}
use Rattle.x10_flights.specs.Flights.{flight_among, Tabled, held}
use Rattle.x10_flights.proofs.RisingKeys.{rising_sorted}
use Rattle.x10_flights.proofs.FlightsSlots.{absent, told}
use Rattle.x10_flights.proofs.table.Table.get.Goals as goal

pub find-requires : goal.find-requires
find-requires c = rw c.deref.ensures.value (rising_sorted (λ (s : Slot). s.number) 0 c.self.inside.slots.items c.self.inside.posted c.self.invariant)

pub returns-in_default : goal.returns-in_default
returns-in_default c =
    sym (ap (λ (t : Tabled). flight_among t.flying c.args.number) c.self.view_is)
    ∙ absent c.self.inside.slots.items c.args.number (rw c.deref.ensures.value at c.in_default.ensures.none)

pub returns-in-Some-bytes : goal.returns-in-Some-bytes
returns-in-Some-bytes c =
    let here = rw c.deref.ensures.value at c.in-Some.ensures.some in
    sym (ap (λ (t : Tabled). flight_among t.flying c.args.number) c.self.view_is)
    ∙ told c.self.inside.slots.items c.self.inside.posted c.in-Some.at c.index-slot.result.now c.args.number c.self.invariant here.0
    (here.1 c.index-slot.result.now) c.index-slot.ensures
    ∙ ap (held c.args.number c.index-slot.result.now.to) c.in-Some-bytes.is
    ∙ ap (λ (bs : List ℕ). Some (record { number = c.args.number; to = c.index-slot.result.now.to; bytes = bs })) (sym c.as_slice.ensures.value)

pub returns-in-None : goal.returns-in-None
returns-in-None c =
    let here = rw c.deref.ensures.value at c.in-Some.ensures.some in
    sym (ap (λ (t : Tabled). flight_among t.flying c.args.number) c.self.view_is)
    ∙ told c.self.inside.slots.items c.self.inside.posted c.in-Some.at c.index-slot.result.now c.args.number c.self.invariant here.0
    (here.1 c.index-slot.result.now) c.index-slot.ensures
    ∙ ap (held c.args.number c.index-slot.result.now.to) c.in-None.is
