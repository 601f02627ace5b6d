use Rattle.std.proofs.Common.{ℕ, List, ◌<◌, length, get_or, is_some, refl, sym, subst, ap, ◌∙◌, arith}
use Rattle.std.proofs.lemmas.List.{get_or_read}
use Rattle.x10_flights.specs.Flights.{flies_to, Queued, nothing, Flight, Has, RisingBy}
use Rattle.x10_flights.proofs.FlightsQueues.{any_first}
use Rattle.x10_flights.proofs.FlightsLookups.{flies_nowhere}
use Rattle.x10_flights.proofs.FiledFrames.{among_all, awaited_before, filed_take}
use Rattle.x10_flights.proofs.flights.Flights.take.Goals as goal

pub index_mut-queue-requires : goal.index_mut-queue-requires
index_mut-queue-requires c =
    let there = among_all (λ f. f.to < length c.self.inside.queues.items) c.self.inside.table.flying c.args.number _ c.self.invariant.there
    c.in-Some.ensures.some.0 in
    omega (arith, there, c.from.ensures, c.self.inside.queues.ok.0)

pub sweep-requires-2 : goal.sweep-requires-2
sweep-requires-2 c =
    ap (λ (fs : List Flight). flies_to fs c.in-Some.to c.args.number) (c.sweep.ensures.flying ∙ c.in-Some.ensures.some.1)
    ∙ flies_nowhere c.args.number c.self.inside.table.flying c.in-Some.to

pub remove-requires : goal.remove-requires
remove-requires c =
    let there = among_all (λ f. f.to < length c.self.inside.queues.items) c.self.inside.table.flying c.args.number _ c.self.invariant.there
    c.in-Some.ensures.some.0 in
    omega (arith, there, c.self.invariant.places)

pub invariant_of-self-then-is_none : goal.invariant_of-self-then-is_none
invariant_of-self-then-is_none c =
    let there = among_all (λ f. f.to < length c.self.inside.queues.items) c.self.inside.table.flying c.args.number _ c.self.invariant.there
    c.in-Some.ensures.some.0 in
    let here : c.from.result < length c.self.inside.queues.items = omega (arith, there, c.from.ensures) in
    let queue = get_or_read c.self.inside.queues.items c.from.result c.index_mut-queue.result.now here c.index_mut-queue.ensures.value nothing
    ∙ ap (λ (k : ℕ). get_or c.self.inside.queues.items k nothing) c.from.ensures in
    rw c.from.ensures (filed_take c.self.inside.queues.items c.self.inside.table c.sweep.new.self c.self.inside.room c.self.inside.first
    c.self.inside.second c.self.inside.awaited c.remove.new.self c.in-Some.to c.args.number _
    c.sweep-2.new.self c.self.invariant there c.in-Some.ensures.some.0 refl
    (λ n t h. c.sweep-2.ensures.kept n t (subst (λ (x : Queued). Has x.numbers n) (sym queue) h))
    (λ top r. c.sweep-2.ensures.rising top (subst (λ (x : Queued). RisingBy (λ n. n) 0 x.numbers top) (sym queue) r))
    c.sweep-2.ensures.first
    (omega (arith, ap (λ (x : Queued). x.spare) queue, c.sweep-2.ensures.spare)) (c.sweep.ensures.posted ∙ c.take.ensures.posted)
    (omega (arith, c.sweep.ensures.spare, c.take.ensures.spare))
    (c.sweep.ensures.flying ∙ c.in-Some.ensures.some.1)
    (c.remove.ensures.same ∙ sym (sym (any_first c.sweep-2.new.self.numbers) ∙ ap is_some (sym c.first.ensures) ∙ c.if-is_none.ensures))
    c.remove.ensures.others)

pub invariant_of-self-else-is_none : goal.invariant_of-self-else-is_none
invariant_of-self-else-is_none c =
    let there = among_all (λ f. f.to < length c.self.inside.queues.items) c.self.inside.table.flying c.args.number _ c.self.invariant.there
    c.in-Some.ensures.some.0 in
    let here : c.from.result < length c.self.inside.queues.items = omega (arith, there, c.from.ensures) in
    let queue = get_or_read c.self.inside.queues.items c.from.result c.index_mut-queue.result.now here c.index_mut-queue.ensures.value nothing
    ∙ ap (λ (k : ℕ). get_or c.self.inside.queues.items k nothing) c.from.ensures in
    rw c.from.ensures (filed_take c.self.inside.queues.items c.self.inside.table c.sweep.new.self c.self.inside.room c.self.inside.first
    c.self.inside.second c.self.inside.awaited c.self.inside.awaited c.in-Some.to c.args.number _
    c.sweep-2.new.self c.self.invariant there c.in-Some.ensures.some.0 refl
    (λ n t h. c.sweep-2.ensures.kept n t (subst (λ (x : Queued). Has x.numbers n) (sym queue) h))
    (λ top r. c.sweep-2.ensures.rising top (subst (λ (x : Queued). RisingBy (λ n. n) 0 x.numbers top) (sym queue) r))
    c.sweep-2.ensures.first
    (omega (arith, ap (λ (x : Queued). x.spare) queue, c.sweep-2.ensures.spare)) (c.sweep.ensures.posted ∙ c.take.ensures.posted)
    (omega (arith, c.sweep.ensures.spare, c.take.ensures.spare))
    (c.sweep.ensures.flying ∙ c.in-Some.ensures.some.1)
    (awaited_before c.self.inside.queues.items c.self.inside.table c.self.inside.room c.self.inside.first c.self.inside.second c.self.inside.awaited
    c.in-Some.to c.args.number _ c.self.invariant c.in-Some.ensures.some.0 refl
    ∙ sym (sym (any_first c.sweep-2.new.self.numbers) ∙ ap is_some (sym c.first.ensures) ∙ c.if-is_none.ensures))
    (λ p u. refl))
