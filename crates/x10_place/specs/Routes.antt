-- Operations as a step tells them apart.
use Rattle.std.specs.Prelude.{true, false, Option, Some, None}
use Rattle.x10_code.specs.declared.op.Op.{Op}
use Rattle.x10_code.specs.declared.op.Op.TheVariants as op
use Rattle.x10_place.specs.declared.outcome.Deed.{Deed}
use Rattle.x10_place.specs.declared.outcome.Deed.TheVariants as deed
use Rattle.x10_place.specs.declared.outcome.Departure.{Departure}
use Rattle.x10_place.specs.declared.outcome.Departure.TheVariants as departure
use Rattle.x10_place.specs.declared.route.Route.{Route}
use Rattle.x10_place.specs.declared.route.Route.TheVariants as route
use Rattle.x10_place.specs.declared.route.Local.{Local}
use Rattle.x10_place.specs.declared.route.Local.TheVariants as local
use Rattle.x10_place.specs.declared.route.Partial.TheVariants as partial
use Rattle.x10_place.specs.declared.route.Number.TheVariants as number
use Rattle.x10_place.specs.declared.route.Make.TheVariants as make
use Rattle.x10_place.specs.declared.route.Site.TheVariants as site

abbrev pub route_of : Op → Route
route_of op.Intk = route.Local (local.Number number.Constant)
route_of op.Add = route.Local (local.Number number.Sum)
route_of op.Sub = route.Local (local.Number number.Difference)
route_of op.Mul = route.Local (local.Number number.Product)
route_of op.Div = route.Local (local.Partial partial.Quotient)
route_of op.Rem = route.Local (local.Partial partial.Remainder)
route_of op.Lt = route.Local (local.Number number.Less)
route_of op.Eq = route.Local (local.Number number.Equal)
route_of op.Move = route.Local local.Copy
route_of op.Jmp = route.Local local.Jump
route_of op.Jz = route.Local local.JumpIfZero
route_of op.Loop = route.Local local.Loop
route_of op.Endl = route.Local local.EndLoop
route_of op.Call = route.Call
route_of op.Ret = route.Return
route_of op.Print = route.Print
route_of op.Textk = route.Make make.Text
route_of op.Tlen = route.Local (local.Number number.TextLength)
route_of op.Tcat = route.Make make.JoinedText
route_of op.New = route.Make make.Object
route_of op.Get = route.Local local.GetField
route_of op.Put = route.Local local.SetField
route_of op.Null = route.Local local.Null
route_of op.Ifobj = route.Local local.NotNull
route_of op.Rail = route.Make make.Rail
route_of op.Rget = route.Local (local.Partial partial.Byte)
route_of op.Rset = route.Local local.SetByte
route_of op.Rlen = route.Local (local.Number number.RailLength)
route_of op.Here = route.Site site.Here
route_of op.Placek = route.Local local.Place
route_of op.Placen = route.Site site.Numbered
route_of op.Placei = route.Local (local.Number number.PlaceNumber)
route_of op.Nextp = route.Site site.Next
route_of op.Count = route.Site site.Count
route_of op.Home = route.Local local.Home
route_of op.Gnew = route.Export
route_of op.Gopen = route.Local local.Open
route_of op.Ifhere = route.Site site.IsHere
route_of op.Ifsame = route.Local local.SamePlace
route_of op.Async = route.Async
route_of op.At = route.At
route_of op.Ata = route.Ata
route_of op.Finb = route.OpenFinish
route_of op.Fine = route.CloseFinish
route_of op.Atomb = route.Region true
route_of op.Atome = route.Region false

-- what an operation of one call frame does; none for another route
abbrev pub local_part : Route → Option Local
local_part (route.Local l) = Some l
local_part _ = None

-- the operation by which an activity goes to a place
abbrev pub op_going : Departure → Op
op_going departure.At = op.At
op_going departure.Ata = op.Ata

-- the operation of what a place makes
abbrev pub op_made : Deed → Op
op_made deed.Begin = op.Async
op_made (deed.Depart d) = op_going d
op_made deed.Leave = op.Ret
