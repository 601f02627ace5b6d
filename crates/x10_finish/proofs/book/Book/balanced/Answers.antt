use Rattle.std.proofs.Common.{◌≡◌, ℕ, slice_index, subst}
use Rattle.x10_finish.specs.Ledgers.{totals_of}
use Rattle.x10_finish.specs.Books.{Kept}
use Rattle.x10_finish.proofs.book.Book.balanced.Goals as goal

pub returns : goal.returns
returns c =
    c.balances.ensures (totals_of c.args.tally.now c.args.self.now.finish)
    (subst (λ (b : Kept). (p : ℕ) → slice_index c.totals.result.1.now p ≡ (totals_of c.args.tally.now b.finish).sent p) c.self.view_is
    c.totals.ensures.sent)
    (subst (λ (b : Kept). (p : ℕ) → slice_index c.totals.result.2.now p ≡ (totals_of c.args.tally.now b.finish).received p) c.self.view_is
    c.totals.ensures.received)
