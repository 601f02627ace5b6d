-- Routes that one operation each has, and those that leave as many finishes open.
use Rattle.std.proofs.Common.{◌≡◌, ◌≢◌, true, false, refl, sym, ap, subst, ◌∙◌}
use Rattle.x10_code.specs.declared.op.Op.{Op}
use Rattle.x10_code.specs.declared.op.Op.TheVariants as op
use Rattle.x10_place.specs.declared.route.Route.{Route}
use Rattle.x10_place.specs.declared.route.Route.TheVariants as route
use Rattle.x10_place.specs.Parting.{IsGoing}
use Rattle.x10_place.specs.Routes.{route_of, op_going}
use Rattle.x10_place.specs.declared.outcome.Departure.{Departure}
use Rattle.x10_place.specs.declared.outcome.Departure.TheVariants as departure

-- ---- routes of one operation each

pub is_export : (o : Op) → route_of o ≡ route.Export → o ≡ op.Gnew
is_export op.Gnew e = refl
is_export _ e = absurd cc

pub is_call : (o : Op) → route_of o ≡ route.Call → o ≡ op.Call
is_call op.Call e = refl
is_call _ e = absurd cc

pub is_return : (o : Op) → route_of o ≡ route.Return → o ≡ op.Ret
is_return op.Ret e = refl
is_return _ e = absurd cc

pub is_print : (o : Op) → route_of o ≡ route.Print → o ≡ op.Print
is_print op.Print e = refl
is_print _ e = absurd cc

pub is_open_finish : (o : Op) → route_of o ≡ route.OpenFinish → o ≡ op.Finb
is_open_finish op.Finb e = refl
is_open_finish _ e = absurd cc

pub is_close_finish : (o : Op) → route_of o ≡ route.CloseFinish → o ≡ op.Fine
is_close_finish op.Fine e = refl
is_close_finish _ e = absurd cc

pub is_enter : (o : Op) → route_of o ≡ route.Region true → o ≡ op.Atomb
is_enter op.Atomb e = refl
is_enter _ e = absurd cc

pub is_leave : (o : Op) → route_of o ≡ route.Region false → o ≡ op.Atome
is_leave op.Atome e = refl
is_leave _ e = absurd cc

pub is_async : (o : Op) → route_of o ≡ route.Async → o ≡ op.Async
is_async op.Async e = refl
is_async _ e = absurd cc

pub is_at : (o : Op) → route_of o ≡ route.At → o ≡ op.At
is_at op.At e = refl
is_at _ e = absurd cc

pub is_ata : (o : Op) → route_of o ≡ route.Ata → o ≡ op.Ata
is_ata op.Ata e = refl
is_ata _ e = absurd cc

-- an AT or ATA
pub is_going : (w : Departure) → IsGoing (op_going w)
is_going departure.At = tt
is_going departure.Ata = tt

-- the routes of operations that leave as many finishes open, and neither enter nor leave an atomic region
abbrev pub stays_in : Route → Type 0
stays_in route.OpenFinish = ⊥
stays_in route.CloseFinish = ⊥
stays_in (route.Region inside) = ⊥
stays_in _ = Unit {0}

pub not_finb : (o : Op) (r : Route) → route_of o ≡ r → stays_in r → o ≢ op.Finb
not_finb o r e s f = subst stays_in (sym e ∙ ap route_of f) s

pub not_fine : (o : Op) (r : Route) → route_of o ≡ r → stays_in r → o ≢ op.Fine
not_fine o r e s f = subst stays_in (sym e ∙ ap route_of f) s

pub not_atomb : (o : Op) (r : Route) → route_of o ≡ r → stays_in r → o ≢ op.Atomb
not_atomb o r e s f = subst stays_in (sym e ∙ ap route_of f) s

pub not_atome : (o : Op) (r : Route) → route_of o ≡ r → stays_in r → o ≢ op.Atome
not_atome o r e s f = subst stays_in (sym e ∙ ap route_of f) s
