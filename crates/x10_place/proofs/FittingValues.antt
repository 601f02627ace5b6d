-- Values that arrive: they stand in a heap that grew, and fit the function that takes them.
use Rattle.std.proofs.Common.{◌≡◌, ℕ, zero, suc, ◌<◌, ◌≤◌, List, [], ◌∷◌, length, map, Some, refl, sym, ap, subst, ◌∙◌, arith}
use Rattle.std.specs.Prelude.{slice_get, slice_index}
use Rattle.std.proofs.lemmas.Option.{same_Some}
use Rattle.x10_kinds.specs.declared.kind.Kind.{Kind}
use Rattle.x10_heap.specs.Heaps.{HeapState}
use Rattle.x10_heap.specs.Words.{Context, IsWordOf, AreWordsOf, HoldsHeap}
use Rattle.x10_heap.proofs.GrownHeaps.{Grows}
use Rattle.x10_model.specs.declared.slot.Slot.{Slot}
use Rattle.x10_model.specs.Assignments.{parameter_kind, entry_state}
use Rattle.x10_model.specs.Modules.{Module, Function}
use Rattle.x10_model.specs.Moves.{entry_frame}
use Rattle.x10_model.specs.Ranges.{function_at}
use Rattle.x10_model.specs.Signatures.{HasHome, FitSlots}
use Rattle.x10_model.specs.Values.{Value, Int, Place, Text, Rail, Object, Null, Ref, Cells, IsOfKind}
use Rattle.x10_model.specs.Copies.{Names, named}
use Rattle.x10_model.specs.Frames.{Graph}
use Rattle.x10_model.proofs.Lists.{append_front}
use Rattle.x10_copy.specs.Captured.{kinds_of}
use Rattle.x10_copy.specs.Arrived.{arrived, HaveHomes}
use Rattle.x10_copy.specs.Taken.{with_heap}
use Rattle.x10_place.specs.declared.call_frame.CallFrame.{CallFrame}
use Rattle.x10_place.specs.Frames.{IsEnteredWith}
use Rattle.x10_place.specs.StandsFor.{Assigned, HoldRegisters, StandsForFrame}
use Rattle.x10_place.proofs.Calls.{no_turns}
use Rattle.x10_place.proofs.Framed.{has_state}
use Rattle.x10_place.proofs.Homes.{homes_weaken, homes_entry}
use Rattle.x10_place.proofs.Words.{of_kind, words_weaken}

-- ---- the heap

-- a heap that takes a graph in grows
pub arrived_grows : (x : Context) (new : HeapState) (g : Graph) → new ≡ arrived x.heap g → Grows x (with_heap x new)
arrived_grows x new g e = subst (λ h. Grows x (with_heap x h)) (sym e) (record {
  classes = refl;
  here = refl;
  places = refl;
  objects = λ n o is. (o, append_front x.heap.objects _ n o is, refl);
  rails = λ n bytes is. (bytes, append_front x.heap.rails _ n bytes is);
  texts = λ n text is. append_front x.heap.texts _ n text is;
  exports = λ id export is. is;
  far = λ home id class is. is;
})

-- ---- values

-- a value that is named has the home that it had
home_named : (at : ℕ) (n : Names) (v : Value) → HasHome at v → HasHome at (named n v)
home_named at n (Int z) h = h
home_named at n (Place p) h = h
home_named at n (Text t) h = h
home_named at n (Rail r) h = h
home_named at n (Object r) h = h
home_named at n Null h = h
home_named at n (Ref home id class) h = h

pub homes_named : (at : ℕ) (n : Names) (vs : List Value) (slots : List Slot) → HaveHomes at vs slots → HaveHomes at (map (named n) vs) slots
homes_named at n [] [] h = tt
homes_named at n [] (s ∷ slots) h = absurd h
homes_named at n (v ∷ vs) [] h = absurd h
homes_named at n (v ∷ vs) (s ∷ slots) h = (λ here. home_named at n v (h.0 here), homes_named at n vs slots h.1)

module _ (y : Context) (cells : Cells) (holds : HoldsHeap y cells) where
  -- values of words, with their homes, fit the slots
  pub values_fit : (at : ℕ) (slots : List Slot) (words : List ℕ) (vs : List Value) → AreWordsOf y (kinds_of slots) words vs → HaveHomes at vs slots
      → FitSlots (IsOfKind cells) at vs slots
  values_fit at [] [] [] w h = tt
  values_fit at [] [] (v ∷ vs) w h = absurd w
  values_fit at [] (word ∷ words) vs w h = absurd w
  values_fit at (s ∷ slots) [] vs w h = absurd w
  values_fit at (s ∷ slots) (word ∷ words) [] w h = absurd w
  values_fit at (s ∷ slots) (word ∷ words) (v ∷ vs) w h = (
    record { kind = of_kind y cells s.kind word v holds w.0; home = h.0 },
    values_fit at slots words vs w.1 h.1,
  )

-- ---- the function that takes them

module _ (program : Module) (assigned : Assigned program) (y : Context) where
  -- the word of a parameter
  word_of : (slots : List Slot) (words : List ℕ) (vs : List Value) (r : ℕ) (want : Kind) → AreWordsOf y (kinds_of slots) words vs
      → parameter_kind (slice_get slots r) ≡ Some want → (v : Value) × (slice_get vs r ≡ Some v) × IsWordOf y want (slice_index words r) v
      × (r < length words)
  word_of [] words vs r want w e = absurd cc
  word_of (s ∷ slots) [] vs r want w e = absurd w
  word_of (s ∷ slots) (word ∷ words) [] r want w e = absurd w
  word_of (s ∷ slots) (word ∷ words) (v ∷ vs) zero want w e = (v, refl, subst (λ k. IsWordOf y k word v) (same_Some s.kind want e) w.0, omega arith)
  word_of (s ∷ slots) (word ∷ words) (v ∷ vs) (suc r) want w e = let u = word_of slots words vs r want w.1 e in let lt = u.3 in
      (u.0, u.1, u.2, omega (arith, lt))

  -- its call frame, at its first instruction
  pub entered_stands : (cells : Cells) (number count : ℕ) (callee : Function) (words : List ℕ) (vs : List Value) (f : CallFrame)
      → length callee.parameters ≤ 16 → function_at program number ≡ Some callee → IsEnteredWith number count words f
      → AreWordsOf y (kinds_of callee.parameters) words vs → FitSlots (IsOfKind cells) y.here vs callee.parameters
      → StandsForFrame program assigned y f (entry_frame number vs)
  entered_stands cells number count callee words vs f few is e stand fit =
      let start = (assigned number callee is).1.consistent.entry in
      let state = has_state program assigned number f.function 0 f.pc start.0 (sym e.function_is) (sym e.pc_is) (callee, is, start.1) in
      record {
        function_is = sym e.function_is;
        pc_is = sym e.pc_is;
        function = state.0;
        is_function = state.1;
        state = start.0;
        is_state = state.2;
        words = words_weaken y (entry_state callee) start.0 (slice_get vs) f.registers.items start.2 typed;
        homes = homes_weaken y.here (entry_state callee) start.0 (slice_get vs) start.2 (homes_entry cells y.here callee vs (omega (arith, few)) fit);
        slots = ap length e.loops_are;
        loops = λ slot lt. sym (ap (λ ls. slice_index ls slot) e.loops_are ∙ no_turns 8 slot);
      }
    where
      typed : HoldRegisters y (entry_state callee) (slice_get vs) f.registers.items
      typed r want k = let v = word_of callee.parameters words vs r want stand k in
          (v.0, v.1, subst (λ w. IsWordOf y want w v.0) (sym (e.arguments r v.3)) v.2)
