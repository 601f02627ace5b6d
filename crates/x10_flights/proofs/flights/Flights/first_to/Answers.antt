use Rattle.std.proofs.Common.{ℕ, ◌<◌, length, get_or, slice_get, ap, ◌∙◌, sym, subst, arith}
use Rattle.std.proofs.lemmas.List.{get_or_read}
use Rattle.x10_flights.specs.Flights.{flies_to, IsNext, Queued, nothing}
use Rattle.x10_flights.proofs.FiledFrames.{filed_first}
use Rattle.x10_flights.proofs.flights.Flights.first_to.Goals as goal

pub returns : goal.returns
returns c =
    let queues = c.self.inside.queues.items in
    let here : c.from-2.result < length queues = omega (arith, c.from-2.ensures, c.from.ensures) in
    let queue = get_or_read queues c.from-2.result c.index.result.now here c.index.ensures nothing
    ∙ ap (λ (k : ℕ). get_or queues k nothing) c.from-2.ensures in
    rw (← c.self.view_is)
    (subst (IsNext (flies_to c.self.inside.table.flying c.args.place) 0) (sym (c.first.ensures ∙ ap (λ (q : Queued). slice_get q.numbers 0) queue))
    (filed_first queues c.self.inside.table c.self.inside.room c.self.inside.first c.self.inside.second c.self.inside.awaited c.args.place
    c.self.invariant))
