-- What calls of the heap give is what operations of a call frame do.
use Rattle.std.proofs.Common.{◌≡◌, ℕ, ℤ, ◌+◌, ◌<◌, ◌≤◌, ◌^◌, List, ◌++◌, length, Option, Some, None, Result, Ok, Err, refl, sym, ap, ap₂, subst, ◌∙◌}
use Rattle.std.specs.Prelude.{◌-◌, IsSome, slice_get, slice_set, Bool, true, false, if◌then◌else◌}
use Rattle.std.proofs.lemmas.Bool.{le-leb, lt-leb}
use Rattle.x10_kinds.specs.declared.limit.Limit.{Limit}
use Rattle.x10_kinds.specs.declared.limit.Limit.TheVariants as limits
use Rattle.x10_kinds.specs.declared.stop.Stop.{Stop}
use Rattle.x10_kinds.specs.declared.stop.Stop.TheVariants as stop
use Rattle.x10_code.specs.declared.instr.Instr.{Instr}
use Rattle.x10_model.specs.declared.limits.TheConstants.{MOST_BYTES}
use Rattle.x10_model.specs.Modules.{Module}
use Rattle.x10_model.specs.Results.{byte_at}
use Rattle.x10_model.proofs.Decided.{get_below}
use Rattle.x10_heap.specs.declared.export.Export.{Export}
use Rattle.x10_heap.specs.References.{id_of, reference_word}
use Rattle.x10_heap.specs.Heaps.{HeapState, ObjectState, with_export, IsJoined, IsFull}
use Rattle.x10_place.specs.declared.call_frame.CallFrame.{CallFrame}
use Rattle.x10_place.specs.declared.route.Local.{Local}
use Rattle.x10_place.specs.declared.route.Local.TheVariants as local
use Rattle.x10_place.specs.declared.route.Make.TheVariants as make
use Rattle.x10_place.specs.Frames.{workspace, space_of, Acts, Reads, SetsByte, byte_set, rail_in, text_in, object_in, word_at, int_at}
use Rattle.x10_place.specs.Making.{Makes, Joins, ReadsMake, Overfills, NamesObject, ExportsObject}
use Rattle.x10_place.specs.Stays.{GoesNextWith}

-- ---- bytes of rails

module _ (program : Module) (l : Local) (is : l ≡ local.SetByte) (words : List ℕ) (heap new : HeapState) (i : Instr) (reads : Reads l heap words i)
    (rail : ℕ) (index number : ℤ) (rail_is : rail ≡ word_at words i.a) (index_is : index ≡ int_at words i.b)
    (number_is : number ≡ int_at words i.c) where
  bytes_there : (bytes : List ℕ) × (rail_in heap words i.a ≡ Some bytes)
  bytes_there = get_below heap.rails (word_at words i.a) (subst (λ k. Reads k heap words i) is reads)

  bytes_at : slice_get heap.rails rail ≡ Some bytes_there.0
  bytes_at = ap (λ n. slice_get heap.rails n) rail_is ∙ bytes_there.1

  -- there is no such byte
  byte_kept : (pc q : ℕ) (loops : List ℕ) → q ≡ i.x
      → ((bytes : List ℕ) → slice_get heap.rails rail ≡ Some bytes → (byte_at bytes index ≡ None) × (new ≡ heap))
      → Acts l program (workspace pc words loops heap) i (workspace q words loops new)
  byte_kept pc q loops next h =
      let none = h bytes_there.0 bytes_at in
      let at : byte_at bytes_there.0 (int_at words i.b) ≡ None = ap (λ z. byte_at bytes_there.0 z) (sym index_is) ∙ none.0 in
      subst (λ k. Acts k program (workspace pc words loops heap) i (workspace q words loops new)) (sym is) (
        bytes_there.0,
        bytes_there.1,
        subst (λ o. SetsByte o bytes_there.0 (workspace pc words loops heap) i (workspace q words loops new)) (sym at)
            (record { pc_is = next; words_are = refl; loops_are = refl; heap_is = none.1 }),
      )

  some_byte : (o : Option ℕ) → IsSome o → (byte : ℕ) × (o ≡ Some byte)
  some_byte (Some byte) h = (byte, refl)
  some_byte None h = absurd cc

  byte_written : (pc q : ℕ) (loops : List ℕ) → q ≡ pc + 1
      → ((bytes : List ℕ) → slice_get heap.rails rail ≡ Some bytes → IsSome (byte_at bytes index) × (new ≡ byte_set heap rail bytes index number))
      → Acts l program (workspace pc words loops heap) i (workspace q words loops new)
  byte_written pc q loops next h =
      let some = h bytes_there.0 bytes_at in
      let byte = some_byte (byte_at bytes_there.0 index) some.0 in
      let at : byte_at bytes_there.0 (int_at words i.b) ≡ Some byte.0 = ap (λ z. byte_at bytes_there.0 z) (sym index_is) ∙ byte.1 in
      let heap_is : new ≡ byte_set heap (word_at words i.a) bytes_there.0 (int_at words i.b) (int_at words i.c) =
      some.1 ∙ ap (λ n. byte_set heap n bytes_there.0 index number) rail_is
      ∙ ap₂ (λ z w. byte_set heap (word_at words i.a) bytes_there.0 z w) index_is number_is in
      subst (λ k. Acts k program (workspace pc words loops heap) i (workspace q words loops new)) (sym is) (
        bytes_there.0,
        bytes_there.1,
        subst (λ o. SetsByte o bytes_there.0 (workspace pc words loops heap) i (workspace q words loops new)) (sym at)
            (record { pc_is = next; words_are = refl; loops_are = refl; heap_is = heap_is }),
      )

  -- the byte is written where there is one, and else the next instruction is x
  pub byte_tried : (pc q : ℕ) (loops : List ℕ) (done : Bool) → q ≡ (if done then pc + 1 else i.x)
      → (done ≡ true → (bytes : List ℕ) → slice_get heap.rails rail ≡ Some bytes
      → IsSome (byte_at bytes index) × (new ≡ byte_set heap rail bytes index number))
      → (done ≡ false → (bytes : List ℕ) → slice_get heap.rails rail ≡ Some bytes → (byte_at bytes index ≡ None) × (new ≡ heap))
      → Acts l program (workspace pc words loops heap) i (workspace q words loops new)
  byte_tried pc q loops true next some none = byte_written pc q loops next (some refl)
  byte_tried pc q loops false next some none = byte_kept pc q loops next (none refl)

-- ---- global references

-- the object that a reference names
pub opens : (program : Module) (l : Local) (pc q : ℕ) (words after loops : List ℕ) (heap : HeapState) (i : Instr) (reference word : ℕ)
    → l ≡ local.Open → Reads l heap words i → reference ≡ word_at words i.b → q ≡ pc + 1 → after ≡ slice_set words i.a word
    → ((e : Export) → slice_get heap.exports (id_of reference) ≡ Some e → word ≡ e.object + 1)
    → Acts l program (workspace pc words loops heap) i (workspace q after loops heap)
opens program l pc q words after loops heap i reference word is reads reference_is next after_is names =
    let e = get_below heap.exports (id_of (word_at words i.b)) (subst (λ k. Reads k heap words i) is reads) in
    let word_is = names e.0 (ap (λ n. slice_get heap.exports (id_of n)) reference_is ∙ e.1) in
    subst (λ k. Acts k program (workspace pc words loops heap) i (workspace q after loops heap)) (sym is)
    (e.0, e.1, record { pc_is = next; words_are = after_is ∙ ap (slice_set words i.a) word_is; loops_are = refl; heap_is = refl })

-- a reference is made
pub exports : (f g : CallFrame) (heap new : HeapState) (here id r w : ℕ) (i : Instr) → NamesObject heap f.registers.items i.b
    → r ≡ word_at f.registers.items i.b → id ≡ length heap.exports → length heap.exports < 2 ^ 32
    → ((o : ObjectState) → slice_get heap.objects (r - 1) ≡ Some o → new ≡ with_export heap o.class (r - 1)) → w ≡ reference_word here id
    → GoesNextWith f i.a w g → ExportsObject here (space_of f heap) i (space_of g new)
exports f g heap new here id r w i names r_is id_is few made w_is goes =
    let o = get_below heap.objects (object_in f.registers.items i.b) names.there in
    let new_is = made o.0 (ap (λ n. slice_get heap.objects (n - 1)) r_is ∙ o.1) in
    record {
      few = few;
      object = o.0;
      is_object = o.1;
      becomes = record {
        pc_is = goes.pc_is;
        words_are = goes.words_are ∙ ap (λ n. slice_set f.registers.items i.a n) (w_is ∙ ap (reference_word here) id_is);
        loops_are = goes.loops_are;
        heap_is = new_is ∙ ap (λ n. with_export heap o.0.class (n - 1)) r_is;
      };
    }

-- ---- texts joined

module _ (program : Module) (f : CallFrame) (heap : HeapState) (i : Instr) (reads : ReadsMake make.JoinedText heap f.registers.items i)
    (first second : ℕ) (first_is : first ≡ word_at f.registers.items i.b) (second_is : second ≡ word_at f.registers.items i.c) where
  left : (t : List ℕ) × (text_in heap f.registers.items i.b ≡ Some t)
  left = get_below heap.texts (word_at f.registers.items i.b) reads.0

  right : (t : List ℕ) × (text_in heap f.registers.items i.c ≡ Some t)
  right = get_below heap.texts (word_at f.registers.items i.c) reads.1

  left_at : slice_get heap.texts first ≡ Some left.0
  left_at = ap (λ n. slice_get heap.texts n) first_is ∙ left.1

  right_at : slice_get heap.texts second ≡ Some right.0
  right_at = ap (λ n. slice_get heap.texts n) second_is ∙ right.1

  abbrev Joined : Option ℕ → HeapState → Type 0
  Joined made new = (t u : List ℕ) → slice_get heap.texts first ≡ Some t → slice_get heap.texts second ≡ Some u → IsJoined heap t u made new

  pub joined_some : (g : CallFrame) (new : HeapState) (made : Option ℕ) (n w : ℕ) → made ≡ Some n → Joined made new → length heap.texts < 2 ^ 32
      → w ≡ n → GoesNextWith f i.a w g → Makes make.JoinedText program (space_of f heap) i (space_of g new)
  joined_some g new made n w is h few same goes =
      let got = subst (λ o. IsJoined heap left.0 right.0 o new) is (h left.0 right.0 left_at right_at) in (
        left.0,
        right.0,
        left.1,
        right.1,
        subst (λ b. Joins b (left.0 ++ right.0) (space_of f heap) i (space_of g new)) (sym (le-leb (length left.0 + length right.0) MOST_BYTES got.0))
            (record {
              few = few;
              becomes = record {
                pc_is = goes.pc_is;
                words_are = goes.words_are ∙ ap (λ v. slice_set f.registers.items i.a v) (same ∙ got.1);
                loops_are = goes.loops_are;
                heap_is = got.2;
              };
            }),
      )

  pub joined_none : (g : CallFrame) (new : HeapState) (made : Option ℕ) → made ≡ None → Joined made new → g ≡ record f { pc = i.x }
      → Makes make.JoinedText program (space_of f heap) i (space_of g new)
  joined_none g new made is h goes =
      let got = subst (λ o. IsJoined heap left.0 right.0 o new) is (h left.0 right.0 left_at right_at) in (
        left.0,
        right.0,
        left.1,
        right.1,
        subst (λ b. Joins b (left.0 ++ right.0) (space_of f heap) i (space_of g new)) (sym (lt-leb (length left.0 + length right.0) MOST_BYTES got.0))
            (record {
              pc_is = ap (λ (q : CallFrame). q.pc) goes;
              words_are = ap (λ (q : CallFrame). q.registers.items) goes;
              loops_are = ap (λ (q : CallFrame). q.loops) goes;
              heap_is = got.1;
            }),
      )

  -- where there can be no more texts, and these two would fit
  pub join_full : (result : Result (Option ℕ) Stop) (limit : Limit)
      → ((t u : List ℕ) → slice_get heap.texts first ≡ Some t → slice_get heap.texts second ≡ Some u → length t + length u ≤ 65535
      → IsFull (length heap.texts) → result ≡ Err (stop.Limit limits.Texts))
      → Overfills make.JoinedText heap f.registers.items i limit → result ≡ Err (stop.Limit limit)
  join_full result limit full over = full left.0 right.0 left_at right_at (over.2 left.0 right.0 left.1 right.1) over.1
      ∙ ap (λ n. Err (stop.Limit n)) (sym over.0)

-- the same refusal, whatever was asked for
pub same_refusal : {A B : Type 0} (f : Result A Stop) (g : Result B Stop) (why other : Stop) → f ≡ Err why → f ≡ Err other → g ≡ Err why
    → g ≡ Err other
same_refusal f g why other e h is = let same : why ≡ other = cc in is ∙ ap Err same

pub not_full : (result : Result (Option ℕ) Stop) (made : Option ℕ) (why : Stop) → result ≡ Ok made → result ≡ Err why → Ok (tt {0}) ≡ Err why
not_full result made why is e = absurd (let f : Ok made ≡ Err why = sym is ∙ e in cc)
