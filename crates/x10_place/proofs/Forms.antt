-- What is known of an operation by its route: what its operands name, and whether it gives a number of two.
use Rattle.std.proofs.Common.{◌≡◌, ℕ, length, refl, ap, ◌∙◌}
use Rattle.std.specs.Prelude.{slice_get, Bool, true, false}
use Rattle.x10_code.specs.declared.op.Op.{Op}
use Rattle.x10_code.specs.declared.op.Op.TheVariants as op
use Rattle.x10_code.specs.declared.instr.Instr.{Instr}
use Rattle.x10_code.specs.declared.operands.Operand.TheVariants.{Unused, Register, Arguments, Slot, Count, Field, Int, Text, Place, Class, Target}
use Rattle.x10_code.specs.declared.operands.Form.{Form}
use Rattle.x10_code.specs.Table.{form, form_of}
use Rattle.x10_model.specs.Modules.{Module}
use Rattle.x10_model.specs.Ranges.{fields_of, argument_count}
use Rattle.x10_place.specs.declared.route.Local.{Local}
use Rattle.x10_place.specs.declared.route.Local.TheVariants as local
use Rattle.x10_place.specs.declared.route.Route.{Route}
use Rattle.x10_place.specs.declared.route.Route.TheVariants as route
use Rattle.x10_place.specs.declared.route.Make.{Make}
use Rattle.x10_place.specs.declared.route.Make.TheVariants as make
use Rattle.x10_place.specs.declared.route.Site.{Site}
use Rattle.x10_place.specs.declared.route.Site.TheVariants as site
use Rattle.x10_place.specs.declared.route.Number.{Number}
use Rattle.x10_place.specs.declared.route.Number.TheVariants as number
use Rattle.x10_place.specs.Routes.{route_of}

abbrev pub number_form : Number → Form
number_form number.Constant = form Register Unused Unused Int
number_form number.RailLength = form Register Register Unused Unused
number_form number.TextLength = form Register Register Unused Unused
number_form number.PlaceNumber = form Register Register Unused Unused
number_form _ = form Register Register Register Unused

abbrev pub local_form : Local → Form
local_form (local.Number n) = number_form n
local_form (local.Partial d) = form Register Register Register Target
local_form local.Copy = form Register Register Unused Unused
local_form local.Null = form Register Unused Unused Class
local_form local.NotNull = form Register Register Unused Target
local_form local.GetField = form Register Register Field Unused
local_form local.SetField = form Register Register Field Unused
local_form local.SetByte = form Register Register Register Target
local_form local.Place = form Register Unused Unused Place
local_form local.Home = form Register Register Unused Unused
local_form local.Open = form Register Register Unused Unused
local_form local.SamePlace = form Register Register Unused Target
local_form local.Jump = form Unused Unused Unused Target
local_form local.JumpIfZero = form Register Unused Unused Target
local_form local.Loop = form Slot Unused Unused Count
local_form local.EndLoop = form Slot Unused Unused Target

abbrev pub make_form : Make → Form
make_form make.Text = form Register Unused Unused Text
make_form make.JoinedText = form Register Register Register Target
make_form make.Object = form Register Arguments Unused Class
make_form make.Rail = form Register Register Unused Target

abbrev pub site_form : Site → Form
site_form site.Here = form Register Unused Unused Unused
site_form site.Count = form Register Unused Unused Unused
site_form site.Next = form Register Register Unused Unused
site_form site.Numbered = form Register Register Unused Target
site_form site.IsHere = form Register Unused Unused Target

-- the form of a route's operations, where they have one form
abbrev pub form_by : Route → Form → Form
form_by (route.Local l) f = local_form l
form_by (route.Make k) f = make_form k
form_by (route.Site k) f = site_form k
form_by route.Export f = form Register Register Unused Unused
form_by _ f = f

-- how many registers hold arguments, where the route settles it
abbrev pub count_by : Route → Module → Instr → ℕ → ℕ
count_by (route.Make make.Object) m i n = length (fields_of (slice_get m.classes i.x))
count_by _ m i n = n

-- each operation computes to itself, so a new one needs no line here
formed : (o : Op) → form_of o ≡ form_by (route_of o) (form_of o)
formed op.New = refl
formed _ = refl

pub counted : (m : Module) (i : Instr) (o : Op) → argument_count m i o ≡ count_by (route_of o) m i (argument_count m i o)
counted m i op.New = refl
counted m i _ = refl

pub form_is : (o : Op) (r : Route) → route_of o ≡ r → form_of o ≡ form_by r (form_of o)
form_is o r e = formed o ∙ ap (λ q. form_by q (form_of o)) e

-- ---- numbers

-- whether a route's operations give a number of two numbers
abbrev pub of_two : Route → Bool
of_two (route.Local (local.Number number.Constant)) = false
of_two (route.Local (local.Number number.RailLength)) = false
of_two (route.Local (local.Number number.TextLength)) = false
of_two (route.Local (local.Number number.PlaceNumber)) = false
of_two (route.Local (local.Number _)) = true
of_two _ = false

-- what gives the number, where one is given
abbrev pub number_by : Route → Number
number_by (route.Local (local.Number n)) = n
number_by _ = number.Constant
