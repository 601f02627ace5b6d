-- The activities with which a place begins.
use Rattle.std.specs.Prelude.{◌≡◌, ◌≢◌, ℕ, ◌<◌, ◌≤◌, Bool, false, ◌==◌, List, [], length, map, replicate, Some, None, if◌then◌else◌}
use Rattle.slab.specs.Slab.{Slab, get, entries}
use Rattle.x10_model.specs.Modules.{Module, Function, IsEntry}
use Rattle.x10_model.specs.Ranges.{function_at}
use Rattle.x10_model.specs.Places as machine
use Rattle.x10_model.specs.declared.finish.Finish.{Finish}
use Rattle.x10_model.specs.Places.{Setting, root}
use Rattle.x10_model.specs.Totals.{zeros, first_totals}
use Rattle.x10_model.specs.Worlds.{first_place, empty_place}
use Rattle.x10_verify.specs.Certified.{Certified}
use Rattle.x10_place.specs.Stays.{StayState, StoreState, HasBook, totals_in, books_in, kept_in}
use Rattle.x10_heap.specs.Heaps.{empty}
use Rattle.x10_place.specs.StandsFor.{PlaceState, store_of, first_number, setting_of, StandsFor}

-- the entry function at its first instruction, under the root finish
pub record IsMain (program : Module) (a : StayState) : Type 0 where
  pub function_is : a.top.function ≡ program.entry
  pub pc : a.top.pc ≡ 0
  pub function : Function
  pub is_function : function_at program a.top.function ≡ Some function
  pub is_entry : IsEntry function
  pub registers : function.registers ≤ length a.top.registers.items
  pub loops : a.top.loops ≡ replicate 8 0
  pub callers : a.callers ≡ []
  pub finishes : a.finishes ≡ []
  pub inherited : a.inherited ≡ root
  pub away : a.away ≡ false
  pub inside : a.inside ≡ false
  pub back : a.back ≡ None

-- one activity, and no other
pub record HoldsOnly (slab : Slab StayState) (key : ℕ) (a : StayState) : Type 0 where
  pub here : get slab key ≡ Some a
  pub others : (other : ℕ) → other ≢ key → get slab other ≡ None

-- the machine's place at the beginning: main at place 0, nothing at the others
abbrev pub opening_place : Setting → ℕ → ℕ → machine.Place
opening_place setting key id = if id == 0 then first_place setting key else empty_place 0

-- what a place keeps at the beginning: nothing is made, printed or opened, but that place 0 has opened the root, under
-- which main lives
pub record IsNewStore (id places : ℕ) (s : StoreState) : Type 0 where
  pub heap : s.heap ≡ empty
  pub lines : s.lines ≡ []
  pub opened : s.opened ≡ first_number id
  pub here : s.here ≡ id
  pub places_is : s.places ≡ places
  pub totals : (f : Finish) → totals_in s f ≡ first_totals id f
  pub kept : (n : ℕ) → kept_in (books_in s n) ≡ (λ p. zeros)
  pub unopened : (n : ℕ) → s.opened ≤ n → books_in s n ≡ None
  pub root : id ≡ 0 → HasBook (books_in s) 0

-- the place stands for the machine's place at the beginning, where main has key 0, whatever other places export
abbrev pub Opens : PlaceState → Type 0
Opens p = (far : ℕ → ℕ → ℕ → Bool) → StandsFor far p (opening_place (setting_of p) 0 p.id)

-- a place as it was asked for, with what a place keeps at the beginning
pub record IsNew (verified : Certified) (id places : ℕ) (p : PlaceState) : Type 0 where
  pub program : p.program ≡ verified.program
  pub bounds : p.bounds ≡ verified.bounds
  pub store : IsNewStore id places (store_of p)
  pub stopped : p.stopped ≡ false

-- the key is in use, and none from a number up to it is
pub record IsNextKey (slab : Slab StayState) (from key : ℕ) : Type 0 where
  pub least : from ≤ key
  pub used : (a : StayState) × (get slab key ≡ Some a)
  pub before : (k : ℕ) → from ≤ k → k < key → get slab k ≡ None

-- the keys in use, by rising number
abbrev pub keys_of : Slab StayState → List ℕ
keys_of slab = map (λ e. e.0) (entries slab)
