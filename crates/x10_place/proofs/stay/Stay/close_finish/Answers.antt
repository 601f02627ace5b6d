use Rattle.std.proofs.Common.{ℕ, ◌-◌, slice_index_or, ap, ◌∙◌}
use Rattle.x10_place.specs.Stays.{StayState}
use Rattle.x10_place.proofs.WaitLemmas.{waits_at}
use Rattle.x10_place.proofs.stay.Stay.close_finish.Goals as goal

pub returns-then-not-is_done : goal.returns-then-not-is_done
returns-then-not-is_done c = record {
  leaves = waits_at c.is_done.result c.self.inside.finishes.items c.index-number.result.now c.args.self.now c.args.store.now
      (ap (λ (a : StayState). a.finishes) c.self.view_is)
      (c.index-number.ensures ∙ ap (λ (n : ℕ). slice_index_or c.self.inside.finishes.items (n - 1) c.index-number.result.now)
      (c.len-last.ensures ∙ c.self.inside.finishes.ok.0)) c.requires.open c.is_done.ensures.1 c.if-not-is_done.true;
}
