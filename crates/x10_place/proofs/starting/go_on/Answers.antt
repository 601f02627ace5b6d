use Rattle.std.proofs.Common.{Some, sym, ap, subst, ◌∙◌}
use Rattle.x10_place.specs.Stays.{GoesNext}
use Rattle.x10_place.specs.contracts.stay.Stay.{the_view}
use Rattle.x10_place.proofs.BegunStays.{went_on}
use Rattle.x10_place.proofs.starting.go_on.Goals as goal

pub returns-in-Some : goal.returns-in-Some
returns-in-Some c = λ a e. went_on c.args.stays.now c.args.key (the_view c.stay.inside) a c.next.new.self
    (sym c.in-Some.ensures.value ∙ ap Some (sym c.stay.view_is)) (subst (λ f. GoesNext f c.next.new.self) c.deref_mut.ensures.value c.next.ensures) e
