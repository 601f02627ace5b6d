-- Words that stand for values: weakening what is known, reading a number, writing a register.
use Rattle.std.proofs.Common.{◌≡◌, ℕ, ◌*◌, ◌<◌, List, length, get_or, set, Option, Some, refl, sym, ap, subst, ◌∙◌, inl, inr, get_or-set_same, get_or-set_other}
use Rattle.std.specs.Prelude.{slice_index, slice_set}
use Rattle.std.specs.Int.{w64, cast_signed}
use Rattle.std.proofs.lemmas.Option.{same_Some}
use Rattle.std.proofs.lemmas.Bool.{cases_eq}
use Rattle.x10_kinds.specs.declared.kind.Kind.{Kind}
use Rattle.x10_kinds.specs.declared.kind.Kind.TheVariants as kind
use Rattle.x10_kinds.specs.declared.homes.Term.{Term}
use Rattle.x10_kinds.specs.Kinds.{Fits}
use Rattle.x10_model.specs.Maps.{with_entry}
use Rattle.x10_model.specs.Values.{Value, Int, Fields, Cells, IsObjectOf, IsOfKind}
use Rattle.x10_model.specs.Assignments.{State, IsKind, IsBelow, set as set_kind}
use Rattle.x10_model.proofs.Maps.{at_key, off_key}
use Rattle.x10_heap.specs.Words.{Context, IsObjectWord, IsWordOf, HoldsObject, rail_cell, HoldsHeap}
use Rattle.x10_place.specs.StandsFor.{HoldRegisters}

-- ---- kinds

same_kind : (x : Context) (w : ℕ) (v : Value) (have want : Kind) → have ≡ want → IsWordOf x have w v → IsWordOf x want w v
same_kind x w v have want e h = subst (λ k. IsWordOf x k w v) e h

object_fits : (x : Context) (w : ℕ) (v : Value) (c : ℕ) (want : Kind) → Fits (kind.Obj c) want → IsWordOf x (kind.Obj c) w v → IsWordOf x want w v
object_fits x w v c (kind.Opt d) f h = inr (subst (λ k. IsObjectWord x.heap k w v) f h)
object_fits x w v c kind.Int f h = same_kind x w v (kind.Obj c) kind.Int f h
object_fits x w v c kind.Place f h = same_kind x w v (kind.Obj c) kind.Place f h
object_fits x w v c kind.Text f h = same_kind x w v (kind.Obj c) kind.Text f h
object_fits x w v c kind.Rail f h = same_kind x w v (kind.Obj c) kind.Rail f h
object_fits x w v c (kind.Obj d) f h = same_kind x w v (kind.Obj c) (kind.Obj d) f h
object_fits x w v c (kind.GRef d) f h = same_kind x w v (kind.Obj c) (kind.GRef d) f h

-- a word of a kind stands for the same value by each kind that this one fits
pub word_up : (x : Context) (w : ℕ) (v : Value) (have want : Kind) → Fits have want → IsWordOf x have w v → IsWordOf x want w v
word_up x w v (kind.Obj c) want f h = object_fits x w v c want f h
word_up x w v kind.Int want f h = same_kind x w v kind.Int want f h
word_up x w v kind.Place want f h = same_kind x w v kind.Place want f h
word_up x w v kind.Text want f h = same_kind x w v kind.Text want f h
word_up x w v kind.Rail want f h = same_kind x w v kind.Rail want f h
word_up x w v (kind.Opt c) want f h = same_kind x w v (kind.Opt c) want f h
word_up x w v (kind.GRef c) want f h = same_kind x w v (kind.GRef c) want f h

-- ---- values of a kind

object_of : (x : Context) (cells : Cells) (c w : ℕ) (v : Value) → HoldsHeap x cells → (h : IsObjectWord x.heap c w v)
    → IsObjectOf cells (2 * h.number) c
object_of x cells c w v holds h =
    let cell = subst (λ o. HoldsObject x o (cells (2 * h.number))) h.is_there (holds.objects h.number) in
    (cell.values, subst (λ k. cells (2 * h.number) ≡ Some (Fields k cell.values)) h.class_is cell.cell_is)

-- the value is of the kind, in cells that stand for the heap
pub of_kind : (x : Context) (cells : Cells) (k : Kind) (w : ℕ) (v : Value) → HoldsHeap x cells → IsWordOf x k w v → IsOfKind cells v k
of_kind x cells kind.Int w v holds h = subst (λ u. IsOfKind cells u kind.Int) (sym h) tt
of_kind x cells kind.Place w v holds h = subst (λ u. IsOfKind cells u kind.Place) (sym h.1) tt
of_kind x cells kind.Text w v holds h = subst (λ u. IsOfKind cells u kind.Text) (sym h.2) tt
of_kind x cells kind.Rail w v holds h = subst (λ u. IsOfKind cells u kind.Rail) (sym h.2) (h.0, holds.rails w ∙ ap rail_cell h.1)
of_kind x cells (kind.Obj c) w v holds h = subst (λ u. IsOfKind cells u (kind.Obj c)) (sym h.value_is) (object_of x cells c w v holds h)
of_kind x cells (kind.Opt c) w v holds (inl h) = subst (λ u. IsOfKind cells u (kind.Opt c)) (sym h.1) tt
of_kind x cells (kind.Opt c) w v holds (inr h) = subst (λ u. IsOfKind cells u (kind.Opt c)) (sym h.value_is) (object_of x cells c w v holds h)
of_kind x cells (kind.GRef c) w v holds h = subst (λ u. IsOfKind cells u (kind.GRef c)) (sym h.3) refl

-- ---- reading

-- what a register that is asked for holds
abbrev pub Reads : Context → (ℕ → Option Value) → List ℕ → ℕ → Kind → Type 0
Reads x registers words r kind = (v : Value) × (registers r ≡ Some v) × IsWordOf x kind (slice_index words r) v

pub reads : (x : Context) (s : State) (registers : ℕ → Option Value) (words : List ℕ) (r : ℕ) (want : Kind) → HoldRegisters x s registers words
    → IsKind s r want → Reads x registers words r want
reads x s registers words r want typed k =
    let h = typed r k.0 k.1 in
    (h.0, h.1, word_up x (slice_index words r) h.0 k.0 want k.2 h.2)

-- a register of kind Int holds the number that its word stands for
pub reads_int : (x : Context) (s : State) (registers : ℕ → Option Value) (words : List ℕ) (r : ℕ) → HoldRegisters x s registers words
    → IsKind s r kind.Int → registers r ≡ Some (Int (cast_signed w64 (slice_index words r)))
reads_int x s registers words r typed k =
    let h = reads x s registers words r kind.Int typed k in
    h.1 ∙ ap Some h.2

-- ---- what is known changes

pub words_weaken : (x : Context) (s t : State) (registers : ℕ → Option Value) (words : List ℕ) → IsBelow s t → HoldRegisters x s registers words
    → HoldRegisters x t registers words
words_weaken x s t registers words below typed r kind e = reads x s registers words r kind typed (below.kinds r kind e)

-- a value and its word are written to a register
pub words_written : (x : Context) (s : State) (registers : ℕ → Option Value) (words : List ℕ) (a : ℕ) (k : Kind) (like : Option Term) (v : Value)
    (word : ℕ) → a < length words → HoldRegisters x s registers words → IsWordOf x k word v
    → HoldRegisters x (set_kind s a k like) (with_entry registers a (Some v)) (slice_set words a word)
words_written x s registers words a k like v word lt typed word-is r kind e = elim (cases_eq r a) [
  | inl at ↦
      (let k-is : k ≡ kind = same_Some k kind (sym (at_key s.kinds a (Some k)) ∙ subst (λ q. with_entry s.kinds a (Some k) q ≡ Some kind) at e) in
      let held : with_entry registers a (Some v) r ≡ Some v = subst (λ q. with_entry registers a (Some v) q ≡ Some v) (sym at)
      (at_key registers a (Some v)) in
      let got : get_or (set words a word) r 0 ≡ word = subst (λ q. get_or (set words a word) q 0 ≡ word) (sym at)
      (get_or-set_same words a word 0 lt) in
      (v, held, subst (λ w. IsWordOf x kind w v) (sym got) (subst (λ w. IsWordOf x w word v) k-is word-is)))
  | inr off ↦
      (let h = typed r kind (sym (off_key s.kinds a r (Some k) off) ∙ e) in
      (h.0, off_key registers a r (Some v) off ∙ h.1, subst (λ w. IsWordOf x kind w h.0) (sym (get_or-set_other words a r word 0 off)) h.2))
]
