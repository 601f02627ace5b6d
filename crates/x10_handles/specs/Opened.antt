-- Opening handles.
use Rattle.std.specs.Prelude.{◌≡◌, ◌⊎◌, ◌<◌, ◌≤◌, ℕ, Option, Some, None, Result, IsSome, IfOk, IfErr}
use Rattle.x10_verify.specs.Certified.{Certified}
use Rattle.x10_place.specs.Messages.{no_sent}
use Rattle.x10_place.specs.Opening.{IsNew, Opens}
use Rattle.x10_handles.specs.declared.inside.Inside.{Inside}
use Rattle.x10_handles.specs.declared.inside.Inside.TheVariants as inside
use Rattle.x10_handles.specs.declared.station.Station.{Station}
use Rattle.x10_handles.specs.declared.unopened.Unopened.{Unopened}
use Rattle.x10_handles.specs.declared.unopened.Unopened.TheVariants as unopened

-- a module doesn't run at so many places, or there is no such place among them
abbrev pub IsForbidden : Certified → (id places : ℕ) → Type 0
IsForbidden v id places = (places < v.program.least_places) ⊎ (64 < places) ⊎ (places ≤ id)

-- a place of the module at the beginning, which has put out nothing
abbrev pub IsNewPlace : Certified → (id places : ℕ) → Option Inside → Type 0
IsNewPlace v id places i = (s : Station) × (i ≡ Some (inside.Place s))
    × IsNew v id places s.place × Opens s.place × (s.sent ≡ no_sent)

-- why no place is opened, with a module and for a handle
abbrev pub IsWhy : (m h : Option Inside) → (id places : ℕ) → Unopened → Type 0
IsWhy m h id places unopened.InUse = IsSome h
IsWhy m h id places unopened.NoModule = (v : Certified) → m ≡ Some (inside.Module v) → ⊥
IsWhy m h id places unopened.Places = (v : Certified)
    × (m ≡ Some (inside.Module v)) × IsForbidden v id places
IsWhy m h id places unopened.Memory = Unit {0}

-- A call that opens a place of a module, in a handle that was closed. The module's handle is as it
-- was, and a handle that isn't opened too.
pub record OpensPlace (m m_after old new : Option Inside) (id places : ℕ)
    (result : Result Unit Unopened) : Type 0 where
  pub opened : IfOk result (λ u. (v : Certified) × (m ≡ Some (inside.Module v))
      × IsNewPlace v id places new)
  pub shut : IfOk result (λ u. old ≡ None)
  pub why : IfErr result (IsWhy m old id places)
  pub kept : IfErr result (λ e. new ≡ old)
  pub module_kept : m_after ≡ m
