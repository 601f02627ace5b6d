use Rattle.std.proofs.Common.{sym, ap}
use Rattle.std.proofs.lemmas.Option.{slice_get_within}
use Rattle.x10_model.specs.Images.{Header}
use Rattle.x10_image.proofs.Accessors.{shows}
use Rattle.x10_image.proofs.Spelled.{entry_part}
use Rattle.x10_image.proofs.view.ImageView.entry.Goals as goal

pub returns-clause-value : goal.returns-clause-value
returns-clause-value c =
    let v = shows _ _ _ _ _ _ _ c.self.invariant c.self.view_is in
    sym (ap (λ (h : Header). h.entry) v.header_is)

pub returns-clause-below : goal.returns-clause-below
returns-clause-below c =
    let v = shows _ _ _ _ _ _ _ c.self.invariant c.self.view_is in
    rw (← ap (λ (h : Header). h.entry) v.header_is) (slice_get_within _ _ v.fits.entry.0 v.fits.entry.1)

pub returns-clause-there : goal.returns-clause-there
returns-clause-there c =
    let v = shows _ _ _ _ _ _ _ c.self.invariant c.self.view_is in
    rw (← ap (λ (h : Header). h.entry) v.header_is) v.fits.entry

pub returns-clause-part : goal.returns-clause-part
returns-clause-part c = entry_part _ _ (returns-clause-value c)
