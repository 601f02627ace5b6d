use Rattle.std.proofs.Common.{Some, sym, ap, subst, ◌∙◌}
use Rattle.x10_place.specs.Stays.{GoesNext}
use Rattle.x10_place.specs.contracts.stay.Stay.{the_view}
use Rattle.x10_place.proofs.BegunStays.{parts_away, parts_on}
use Rattle.x10_place.proofs.departing.part.Goals as goal

pub returns-in-At : goal.returns-in-At
returns-in-At c = λ a e. parts_away c.args.stays.now c.args.key (the_view c.stay.inside) a c.args.departure c.in-At.is
    (sym c.in-Some.ensures.value ∙ ap Some (sym c.stay.view_is)) e

pub returns-in-Ata : goal.returns-in-Ata
returns-in-Ata c = λ a e. parts_on c.args.stays.now c.args.key (the_view c.stay.inside) a c.args.departure c.next.new.self c.in-Ata.is
    (sym c.in-Some.ensures.value ∙ ap Some (sym c.stay.view_is)) (subst (λ f. GoesNext f c.next.new.self) c.deref_mut.ensures.value c.next.ensures) e
