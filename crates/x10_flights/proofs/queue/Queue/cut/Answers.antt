use Rattle.std.proofs.Common.{filter, ap, ◌∙◌, inr, rules}
use Rattle.std.proofs.lemmas.Fn.{filter_same}
use Rattle.x10_flights.specs.Flights.{flies_to, Queued}
use Rattle.x10_flights.proofs.queue.Queue.cut.Goals as goal

pub returns-then-scattered-clause-numbers : goal.returns-then-scattered-clause-numbers
returns-then-scattered-clause-numbers c =
    let kept = filter_same _ (flies_to c.args.table.now.flying c.args.place) _
    (λ x b q k. search rules) c.drop_first.new.numbers.items _ c.retain.ensures.filtered in
    inr (kept ∙ ap (filter (flies_to c.args.table.now.flying c.args.place))
    (c.drop_first.ensures.items ∙ ap (λ (q : Queued). q.numbers) c.self.view_is))
