use Rattle.std.proofs.Common.{ℕ, ◌<◌, [], ◌∷◌, ◌++◌, length, get_or, ap, ◌∙◌, arith}
use Rattle.std.proofs.lemmas.List.{get_or_read}
use Rattle.x10_flights.specs.Flights.{FlightsState, Queued, nothing, numbers_at}
use Rattle.x10_flights.proofs.FiledFrames.{filed_post}
use Rattle.x10_flights.proofs.flights.Flights.post.Goals as goal

pub invariant_of-self : goal.invariant_of-self
invariant_of-self c =
    let there : c.args.to < length c.self.inside.queues.items = omega (arith, ap (λ (s : FlightsState). s.places) c.self.view_is, c.requires.place) in
    let here : c.from.result < length c.self.inside.queues.items = omega (arith, there, c.from.ensures) in
    let queue = get_or_read c.self.inside.queues.items c.from.result c.index_mut-queue.result.now here c.index_mut-queue.ensures.value nothing
    ∙ ap (λ (k : ℕ). get_or c.self.inside.queues.items k nothing) c.from.ensures in
    rw c.from.ensures (filed_post c.self.inside.queues.items c.self.inside.table c.post.new.self c.self.inside.room c.self.inside.first
    c.self.inside.second c.self.inside.awaited c.insert.new.self c.args.to c.args.bytes.items
    c.push.new.self c.self.invariant (omega (arith, ap (λ (s : FlightsState). s.room) c.self.view_is, c.requires.room)) there
    (c.push.ensures.numbers ∙ ap (λ (x : Queued). x.numbers ++ c.posted-number.result ∷ []) queue
    ∙ ap (λ (n : ℕ). numbers_at c.self.inside.queues.items c.args.to ++ n ∷ []) c.posted-number.ensures)
    (omega (arith, ap (λ (x : Queued). x.spare) queue, c.push.ensures.spare)) c.post.ensures.posted c.post.ensures.spare c.post.ensures.flying
    c.insert.ensures.same c.insert.ensures.others)
