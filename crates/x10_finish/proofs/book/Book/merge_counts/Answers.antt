use Rattle.std.proofs.Common.{◌≡◌, ℕ, length, refl, sym, ◌∙◌, ap, subst}
use Rattle.x10_finish.specs.Books.{Kept, MergesCounts}
use Rattle.x10_finish.specs.Pairs.{pair_at, merged_to}
use Rattle.x10_finish.specs.contracts.book.Book.{the_view}
use Rattle.x10_finish.proofs.Balances.{kept_merged}
use Rattle.x10_finish.proofs.book.Book.merge_counts.Goals as goal

pub returns : goal.returns
returns c =
    let places : length c.args.sent.now ≡ c.self.inside.places = c.requires.sent ∙ ap (λ (b : Kept). b.places) (sym c.self.view_is) in
    subst (λ b. MergesCounts b c.args.from c.args.sent.now c.args.received.now
    (the_view (record c.self.inside { pairs = c.merge-self-inside.new.pairs; unequal = c.merge-self-inside.result }))) c.self.view_is (record {
      finish = refl;
      places = refl;
      kept = kept_merged c.self.inside.places (pair_at c.self.inside.places c.self.inside.pairs)
          (pair_at c.self.inside.places c.merge-self-inside.new.pairs)
          (record { place = c.args.from; number = c.self.inside.finish.number; sent = c.args.sent.now; received = c.args.received.now })
          places (c.requires.received ∙ ap (λ (b : Kept). b.places) (sym c.self.view_is))
          (subst (λ (p : ℕ). (a b : ℕ) → pair_at c.self.inside.places c.merge-self-inside.new.pairs a b
          ≡ merged_to p c.args.sent.now c.args.received.now c.self.inside.places (pair_at c.self.inside.places c.self.inside.pairs) a b)
          c.from.ensures
          (subst (λ (n : ℕ). (a b : ℕ) → pair_at n c.merge-self-inside.new.pairs a b
          ≡ merged_to c.from.result c.args.sent.now c.args.received.now n (pair_at n c.self.inside.pairs) a b) places
          c.merge-self-inside.ensures.pairs));
    })
