use Rattle.std.proofs.Common.{ℕ, ◌-◌, slice_index_or, ap, ◌∙◌}
use Rattle.x10_place.specs.Stays.{StayState}
use Rattle.x10_place.proofs.WaitLemmas.{waits_is}
use Rattle.x10_place.proofs.stay.Stay.has_open_finish.Goals as goal

pub returns : goal.returns
returns c = waits_is c.is_done.result c.self.inside.finishes.items c.index.result.now c.args.self.now c.args.store.now
    (ap (λ (a : StayState). a.finishes) c.self.view_is)
    (c.index.ensures ∙ ap (λ (n : ℕ). slice_index_or c.self.inside.finishes.items (n - 1) c.index.result.now)
    (c.len-last.ensures ∙ c.self.inside.finishes.ok.0)) c.requires c.is_done.ensures
