-- Stays that can make steps at their place: their words have the kinds that the verifier knows, and the place counts them.
use Rattle.std.specs.Prelude.{◌≡◌, ℕ, ◌<◌, false, Some}
use Rattle.x10_model.specs.Modules.{Module}
use Rattle.x10_model.specs.Places as machine
use Rattle.x10_model.specs.Places.{Stay}
use Rattle.x10_model.specs.Values.{Cells}
use Rattle.x10_heap.specs.Heaps.{HeapState}
use Rattle.x10_heap.specs.Words.{HoldsHeap}
use Rattle.x10_finish.specs.Nesting.{nth}
use Rattle.x10_place.specs.declared.call_frame.CallFrame.{CallFrame}
use Rattle.x10_place.specs.Stays.{StayState, StoreState, Location, HasBook, totals_in}
use Rattle.x10_place.specs.Stays.{books_in}
use Rattle.x10_place.specs.StandsFor.{Far, context, Assigned, StandsForFrame, StandsForStay, AreNamed, IsWithinPlaces}

-- ---- stays that can make steps

-- The words of a call frame have the kinds that the verifier knows: beside this heap it stands for some call frame.
pub record IsTypedFrame (program : Module) (heap : HeapState) (f : CallFrame) : Type 0 where
  pub assigned : Assigned program
  pub places : ℕ
  pub here : ℕ
  pub site : IsWithinPlaces program here places
  pub named : AreNamed heap
  pub far : Far
  pub frame : machine.CallFrame
  pub stands : StandsForFrame program assigned
      (context (record { program = program; places = places }) here heap far) f frame
  pub cells : Cells
  pub holds : HoldsHeap (context (record { program = program; places = places }) here heap far)
      cells

-- The same of all words of a stay: at its place, beside this heap, it stands for some stay.
pub record IsTyped (at : Location) (heap : HeapState) (a : StayState) : Type 0 where
  pub assigned : Assigned at.program
  pub site : IsWithinPlaces at.program at.here at.places
  pub named : AreNamed heap
  pub far : Far
  pub stay : Stay
  pub stands : StandsForStay at.program assigned
      (context (record { program = at.program; places = at.places }) at.here heap far) a stay
  pub cells : Cells
  pub holds : HoldsHeap (context (record { program = at.program; places = at.places }) at.here heap
      far) cells

-- The place counts the stay, and keeps a book of each finish that it has open.
pub record IsRegistered (at : Location) (s : StoreState) (a : StayState) : Type 0 where
  pub here : s.here ≡ at.here
  pub places : s.places ≡ at.places
  pub live : 0 < (totals_in s a.inherited).live
  pub are_open : (i n : ℕ) → nth a.finishes i ≡ Some n → HasBook (books_in s) n × (n < s.opened)
  pub once : (i j n : ℕ) → nth a.finishes i ≡ Some n → nth a.finishes j ≡ Some n → i ≡ j

-- A stay that can make steps at its place. Steps of one stretch need no other fact: by `typed` what an operation reads in
-- the heap is there, and by `registered` a FINE finds its book.
pub record IsWorking (at : Location) (s : StoreState) (a : StayState) : Type 0 where
  pub ready : a.away ≡ false
  pub typed : IsTyped at s.heap a
  pub registered : IsRegistered at s a
