use Rattle.std.specs.String.{string_bytes}
use Rattle.x10_finish.specs.Ledgers.{totals_of}
use Rattle.x10_states.proofs.Totals.{counted}
use Rattle.x10_states.proofs.stays.push_counted.Goals as goal

pub returns : goal.returns
returns c = counted c.push_totals.result c.places.result c.args.place.now.places c.counts-live.result.0 c.counts-live.result.1.now c.counts-live.result.2.now
    (totals_of c.args.place.now.ledger c.args.finish) (string_bytes c.args.out.now) (string_bytes c.push_totals.new.out)
    c.places.ensures c.counts-live.ensures.live c.counts-live.ensures.sent c.counts-live.ensures.received c.push_totals.ensures
