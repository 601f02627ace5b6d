use Rattle.std.proofs.Common.{false, None, sym, ap, subst, ◌∙◌}
use Rattle.x10_place.specs.StandsFor.{place_of, plain, IsInsider}
use Rattle.x10_place.specs.Opening.{Opens}
use Rattle.x10_place.proofs.Openings.{fresh, opened_first, opened_empty, opens_standing, main_outside, nobody_outside}
use Rattle.x10_place.proofs.place.Place.new.Goals.{then-id-eq0+in_ok-stays, else-id-eq0}
use Rattle.x10_place.proofs.place.Place.new.Goals as goal

opens : (c : goal.In-Ok) → Opens (place_of c.args.verified.now c.if-id-eq0.stays c.in-Ok.store false)
opens c =
    let is_fresh = fresh c.args.verified.now c.if-id-eq0.stays c.in-Ok.store c.args.id c.args.places c.certificate.ensures.fits c.assignments.ensures
    (record { within = c.requires.within; enough = c.requires.enough; few = c.requires.few }) c.in-Ok.ensures.ok in
    elim c.if-id-eq0.branch [
      | then-id-eq0+in_ok-stays w ↦ opened_first (place_of c.args.verified.now c.if-id-eq0.stays c.in-Ok.store false) w.in_ok-stays.stays is_fresh
          (ap plain w.stays-is) w.in_ok-stays.ensures (c.in-Ok.ensures.ok.here ∙ w.if-id-eq0.true)
      | else-id-eq0 w ↦ opened_empty (place_of c.args.verified.now c.if-id-eq0.stays c.in-Ok.store false) w.new-stays.result is_fresh
          (ap plain w.stays-is) w.new-stays.ensures.empty (λ e. w.if-id-eq0.false (sym c.in-Ok.ensures.ok.here ∙ e))
    ]

pub invariant_of-result : goal.invariant_of-result
invariant_of-result c = (
  opens_standing (place_of c.args.verified.now c.if-id-eq0.stays c.in-Ok.store false) (opens c),
  elim c.if-id-eq0.branch [
    | then-id-eq0+in_ok-stays w ↦ subst (λ slab. IsInsider slab None) (sym w.stays-is)
        (main_outside c.args.verified.now.program w.in_ok-stays.stays w.in_ok-stays.ensures)
    | else-id-eq0 w ↦ subst (λ slab. IsInsider slab None) (sym w.stays-is) (nobody_outside w.new-stays.result w.new-stays.ensures.empty)
  ],
)

pub returns-clause-opening : goal.returns-clause-opening
returns-clause-opening c = opens c
