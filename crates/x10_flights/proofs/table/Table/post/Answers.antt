use Rattle.std.proofs.Common.{◌+◌, refl, List, [], ◌∷◌, ◌++◌, ap, subst, ◌∙◌, sym, arith}
use Rattle.std.proofs.lemmas.Bool.{cond-true}
use Rattle.std.proofs.lemmas.List.Elements.{filter_map-append}
use Rattle.x10_flights.specs.declared.table.Slot.{Slot}
use Rattle.x10_flights.specs.Flights.{RisingBy, Tabled, held}
use Rattle.x10_flights.proofs.RisingKeys.{rising_push}
use Rattle.x10_flights.proofs.FlightsSlots.{flights_in}
use Rattle.x10_flights.proofs.table.Table.post.Goals as goal

pub invariant_of-self : goal.invariant_of-self
invariant_of-self c =
    let room = ap (λ (t : Tabled). t.spare) c.self.view_is in
    let here = c.push.ensures.items ∙ cond-true _ _ _ (c.push.ensures.succeeds (omega (arith, room, c.requires.room))) in
    subst (λ (ss : List Slot). RisingBy (λ s. s.number) 0 ss (c.self.inside.posted + 1)) (sym here)
    (rising_push (λ (s : Slot). s.number) 0 c.self.inside.slots.items c.self.inside.posted _ (omega arith) refl c.self.invariant)

pub returns-clause-flying : goal.returns-clause-flying
returns-clause-flying c =
    let room = ap (λ (t : Tabled). t.spare) c.self.view_is in
    let here = c.push.ensures.items ∙ cond-true _ _ _ (c.push.ensures.succeeds (omega (arith, room, c.requires.room))) in
    ap flights_in here ∙ filter_map-append (λ (s : Slot). held s.number s.to s.bytes) c.self.inside.slots.items _
    ∙ ap (λ (t : Tabled). t.flying ++ (record { number = t.posted; to = c.args.to; bytes = c.args.bytes.items }) ∷ []) c.self.view_is
