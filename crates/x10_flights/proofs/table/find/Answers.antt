use Rattle.std.proofs.Common.{ltb, ap, ◌∙◌, arith, rules}
use Rattle.std.proofs.lemmas.List.{get_or_default}
use Rattle.std.proofs.lemmas.List.Sorted.{IsPartitionPoint-from_clause, IsPartitionedBy-ltb}
use Rattle.x10_flights.specs.declared.table.Slot.{Slot}
use Rattle.x10_flights.proofs.FlightsSlots.{not_there}
use Rattle.x10_flights.proofs.table.find.Goals as goal
use Rattle.x10_flights.proofs.table.find.Goals.{else-at-slots-via-then-at-slots+else-slots-at, else-at-slots-via-else-at-slots}

pub returns-clause-none : goal.returns-clause-none
returns-clause-none c =
    let parted = IsPartitionedBy-ltb (λ (s : Slot). s.number) c.args.slots.now c.args.number c.requires in
    let point = IsPartitionPoint-from_clause (λ (s : Slot). ltb s.number c.args.number) _ _ c.partition_point-at.ensures.partitioned parted
    (λ a r q k. search rules) in
    not_there c.args.slots.now c.args.number c.partition_point-at.result c.requires (λ k d h. point.0 k d (omega arith) h) point.1
    (λ d l e. elim c.else-at-slots.branch [
      | else-at-slots-via-then-at-slots+else-slots-at w ↦ w.if-slots-at.false
          (ap (λ (s : Slot). s.number) (get_or_default c.args.slots.now c.partition_point-at.result w.index-slots-at.result d l) ∙ e)
      | else-at-slots-via-else-at-slots w ↦ absurd (omega arith)
    ])
