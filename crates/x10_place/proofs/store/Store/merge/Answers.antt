use Rattle.std.proofs.Common.{refl, subst}
use Rattle.x10_place.specs.Arrivals.{Merges}
use Rattle.x10_place.specs.Receiving.{report_of}
use Rattle.x10_place.specs.contracts.store.Store.{the_view}
use Rattle.x10_place.proofs.StoreLemmas.{merged_books, merged_this, merged_others}
use Rattle.x10_place.proofs.store.Store.merge.Goals as goal

pub invariant_of-self : goal.invariant_of-self
invariant_of-self c = merged_books c.self.inside.tally.place c.self.inside.tally.places c.args.number c.args.from c.args.sent.now c.args.received.now
    c.self.inside.books c.merge.new.self c.merge.ensures c.self.invariant

pub returns : goal.returns
returns c =
    let here = c.self.inside.tally.place in
    let places = c.self.inside.tally.places in
    let this = merged_this here places c.args.number c.args.from c.args.sent.now c.args.received.now c.self.inside.books c.merge.new.self
    c.merge.ensures c.self.invariant in
    let others = merged_others here places c.args.number c.args.from c.args.sent.now c.args.received.now c.self.inside.books c.merge.new.self
    c.merge.ensures c.self.invariant in
    subst (λ s. Merges s (report_of c.args.from c.args.number c.args.sent.now c.args.received.now)
    (the_view (record c.self.inside { books = c.merge.new.self }))) c.self.view_is
    (record { rest = refl; this = this; others = others })
