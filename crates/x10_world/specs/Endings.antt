-- What a run from an image's bytes ends with, and why there is none.
use Rattle.std.specs.Prelude.{◌≡◌, ◌↔◌, ℕ, List, [], length, map, take, Some, None, IsTrue, slice_get, Vec, IfSome, ◌<◌}
use Rattle.std.specs.Global.{Global}
use Rattle.x10_kinds.specs.declared.stop.Stop.{Stop}
use Rattle.x10_model.specs.declared.event.Event.{Event}
use Rattle.x10_model.specs.Modules.{Module, FitsImage}
use Rattle.x10_model.specs.Images.{spelling}
use Rattle.x10_model.specs.ReadingImages.{module_at}
use Rattle.x10_model.specs.Places as machine
use Rattle.x10_model.specs.Places.{Setting}
use Rattle.x10_model.specs.Worlds.{World, Ideal, Run, WithinBounds, IsOver, opening}
use Rattle.x10_image.specs.Faults.{named, IsFaultOrMemory}
use Rattle.x10_verify.specs.Certified.{Certified, IsCertified}
use Rattle.x10_verify.specs.Faults.{Refutes}
use Rattle.x10_place.specs.declared.line.Line.{Line}
use Rattle.x10_place.specs.StandsFor.{PlaceState, line_as}
use Rattle.x10_world.specs.declared.fault.OpenFault.TheVariants as opened
use Rattle.x10_world.specs.declared.ending.Ending.{Ending}
use Rattle.x10_world.specs.declared.ending.RunFault.{RunFault}
use Rattle.x10_world.specs.declared.ending.RunFault.TheVariants as fault
use Rattle.x10_world.specs.Opening.{IsForbidden, IsOpenedWorld}
use Rattle.x10_world.specs.Queries.{IsClosed}
use Rattle.x10_world.specs.Runs.{Course}
use Rattle.x10_world.specs.StandsForWorld.{WorldState, StandsForWorld, IsHinderedAt}

-- lists of lines as the machine has them
abbrev pub lines_in : List (Vec Line Global) → List (List machine.Line)
lines_in outputs = map (λ lines. map line_as lines.items) outputs

-- the lines of places
abbrev pub lines_at : List PlaceState → List (List machine.Line)
lines_at places = map (λ p. map line_as p.lines) places

-- the bytes are the image of a module that the verifier accepts
pub record IsImageOf (bytes : List ℕ) (c : Certified) : Type 0 where
  pub certified : IsCertified c
  pub spelled : bytes ≡ spelling c.program

-- for each place of the machine, the lines that it has printed
abbrev pub AreLinesOf : List (List machine.Line) → World → Type 0
AreLinesOf outputs w = (id : ℕ) (m : machine.Place) → w.net.places id ≡ Some m
    → slice_get outputs id ≡ Some m.lines

-- why an event of a list, the one with a number, is refused
abbrev pub IsHinderedNext : WorldState → List Event → ℕ → Stop → Type 0
IsHinderedNext x events n why = (next : Event) × (slice_get events n ≡ Some next)
    × IsHinderedAt x next why

-- A run of the machine, from its opening, where main has key 0, under the events that were made: none goes wrong, and no
-- activity takes more steps than its bound; and where no frame is in flight, none waits at the end of a finish that may end
-- (`course`). The world is opened at so many places, which is a permitted number, and each event leads from one of its states
-- to the next. All events were made, or a Stop is told of the one after them, and why it was refused; the lines, and whether
-- the run has ended, are those of the last state.
pub record IsEndingOf (c : Certified) (count : ℕ) (events : List Event)
    (outputs : List (List machine.Line)) (e : Ending) : Type 0 where
  pub last : World
  pub run : Run Ideal (record { program = c.program; places = count }) (WithinBounds c.bounds)
      (opening (record { program = c.program; places = count }) 0)
      (take e.done events) last
  pub first : WorldState
  pub opened : IsOpenedWorld c count first
  pub final : WorldState
  pub course : Course (record { program = c.program; places = count }) c.bounds first
      (opening (record { program = c.program; places = count }) 0)
      (take e.done events) final last
  pub stands : StandsForWorld final last
  pub permitted : IsForbidden c count → ⊥
  pub all : e.stop ≡ None → e.done ≡ length events
  pub less : IfSome e.stop (λ stop. e.done < length events)
  pub hindered : IfSome e.stop (IsHinderedNext final events e.done)
  pub count_is : length outputs ≡ count
  pub lines : AreLinesOf outputs last
  pub closed : IsTrue e.closed ↔ IsClosed final.places
  pub ended : IsTrue e.closed → IsOver last
  pub over : IsOver last → final.flights.flying ≡ [] → IsTrue e.closed

-- why there is no run: the bytes are no image, the verifier refuses their module, or it does not run at so many places;
-- where memory ran out, nothing is said
abbrev pub Explains : List ℕ → ℕ → RunFault → Type 0
Explains bytes count (fault.Image f) = IsFaultOrMemory (named f) (module_at bytes)
Explains bytes count (fault.Verify f) = (m : Module) × FitsImage m × (bytes ≡ spelling m)
    × Refutes m f
Explains bytes count (fault.Open opened.Places) = (c : Certified) × IsImageOf bytes c
    × IsForbidden c count
Explains bytes count (fault.Open opened.Memory) = Unit {0}
Explains bytes count fault.Memory = Unit {0}
