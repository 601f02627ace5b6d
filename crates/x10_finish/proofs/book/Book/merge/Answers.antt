use Rattle.std.proofs.Common.{◌≡◌, List, ℕ, subst}
use Rattle.x10_model.specs.Totals.{merged}
use Rattle.x10_finish.specs.Books.{kept_of}
use Rattle.x10_finish.proofs.book.Book.merge.Goals as goal

pub returns : goal.returns
returns c = record {
  finish = c.merge_counts.ensures.finish;
  places = c.merge_counts.ensures.places;
  kept =
      subst (λ (sent : List ℕ). kept_of c.merge_counts.new.self
      ≡ merged (kept_of c.args.self.now) (record {
        place = c.args.report.now.place;
        number = c.args.report.now.number;
        sent = sent;
        received = c.args.report.now.received.items;
      })) c.deref.ensures.value
      (subst (λ (received : List ℕ). kept_of c.merge_counts.new.self
      ≡ merged (kept_of c.args.self.now) (record {
        place = c.args.report.now.place;
        number = c.args.report.now.number;
        sent = c.deref.result.now;
        received = received;
      })) c.deref-2.ensures.value c.merge_counts.ensures.kept);
}
