use Rattle.std.proofs.Common.{◌↔◌, ◌∙◌, IsTrue, subst}
use Rattle.x10_place.specs.Stays.{books_in, book_at, HasBook}
use Rattle.x10_place.proofs.FilledLists.{has_tells}
use Rattle.x10_place.proofs.StoreLemmas.{is_found}
use Rattle.x10_place.proofs.store.Store.has_book.Goals as goal

pub returns : goal.returns
returns c = subst (λ s. IsTrue c.is_some.result ↔ HasBook (books_in s) c.args.number) c.self.view_is
    (has_tells c.is_some.result (book_at c.self.inside.books c.args.number)
    (c.is_some.ensures ∙ is_found c.get.result (λ b. b.now) (book_at c.self.inside.books c.args.number) c.get.ensures))
