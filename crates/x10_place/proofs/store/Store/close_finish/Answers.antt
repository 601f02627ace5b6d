use Rattle.std.proofs.Common.{sym, subst}
use Rattle.x10_place.specs.Stays.{AreBooks}
use Rattle.x10_place.proofs.StoreLemmas.{gone_book}
use Rattle.x10_place.proofs.store.Store.close_finish.Goals as goal

pub invariant_of-self : goal.invariant_of-self
invariant_of-self c =
    subst (λ p. AreBooks p c.forget.new.self.places c.close.new.self) (sym c.forget.ensures.place)
    (subst (λ n. AreBooks c.self.inside.tally.place n c.close.new.self) (sym c.forget.ensures.places)
    (gone_book c.self.inside.tally.place c.self.inside.tally.places c.args.number c.self.inside.books c.close.new.self
    c.close.ensures c.self.invariant))
