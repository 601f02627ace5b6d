use Rattle.std.proofs.Common.{refl, ap, ◌∙◌, sym}
use Rattle.x10_flights.specs.declared.table.Slot.{Slot}
use Rattle.x10_flights.specs.Flights.{flight_among, without, Tabled, held}
use Rattle.x10_flights.proofs.RisingKeys.{rising_sorted, rising_set}
use Rattle.x10_flights.proofs.FlightsSlots.{absent, told, taken, untaken}
use Rattle.x10_flights.proofs.table.Table.take.Goals as goal

pub find-requires : goal.find-requires
find-requires c = rw c.deref.ensures.value (rising_sorted (λ (s : Slot). s.number) 0 c.self.inside.slots.items c.self.inside.posted c.self.invariant)

pub returns-in_default-clause-none : goal.returns-in_default-clause-none
returns-in_default-clause-none c = (
  sym (ap (λ (t : Tabled). flight_among t.flying c.args.number) c.self.view_is)
      ∙ absent c.self.inside.slots.items c.args.number (rw c.deref.ensures.value at c.in_default.ensures.none),
  refl,
)

pub returns-in_default-take-clause-none : goal.returns-in_default-take-clause-none
returns-in_default-take-clause-none c =
    let here = rw c.deref.ensures.value at c.in-Some.ensures.some in
    let empty = sym c.take.ensures.value ∙ c.in_default-take.is in (
      sym (ap (λ (t : Tabled). flight_among t.flying c.args.number) c.self.view_is)
          ∙ told c.self.inside.slots.items c.self.inside.posted c.in-Some.at c.index_mut-slot.result.now c.args.number c.self.invariant here.0
          (here.1 c.index_mut-slot.result.now) c.index_mut-slot.ensures.value
          ∙ ap (held c.args.number c.index_mut-slot.result.now.to) empty,
      untaken c.self.inside.slots.items c.in-Some.at c.index_mut-slot.result.now c.take.new.self c.index_mut-slot.ensures.value c.take.ensures.after
          empty
          ∙ ap (λ (t : Tabled). t.flying) c.self.view_is,
    )

pub invariant_of-self-2 : goal.invariant_of-self-2
invariant_of-self-2 c =
    let here = rw c.deref.ensures.value at c.in-Some.ensures.some in
    rising_set (λ (s : Slot). s.number) 0 c.self.inside.slots.items c.self.inside.posted c.in-Some.at _ c.index_mut-slot.result.now here.0
    (ap (λ (s : Slot). s.number) c.index_mut-slot.ensures.value) c.self.invariant

pub returns-clause-some : goal.returns-clause-some
returns-clause-some c =
    let here = rw c.deref.ensures.value at c.in-Some.ensures.some in (
      sym (ap (λ (t : Tabled). flight_among t.flying c.args.number) c.self.view_is)
          ∙ told c.self.inside.slots.items c.self.inside.posted c.in-Some.at c.index_mut-slot.result.now c.args.number c.self.invariant here.0
          (here.1 c.index_mut-slot.result.now) c.index_mut-slot.ensures.value
          ∙ ap (held c.args.number c.index_mut-slot.result.now.to) (sym c.take.ensures.value ∙ c.in-Some-take.is),
      taken 0 c.self.inside.slots.items c.self.inside.posted c.in-Some.at c.index_mut-slot.result.now _ c.args.number c.self.invariant here.0
          (here.1 c.index_mut-slot.result.now) c.take.ensures.after
          ∙ ap (λ (t : Tabled). without c.args.number t.flying) c.self.view_is,
    )
