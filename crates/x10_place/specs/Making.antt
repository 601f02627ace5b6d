-- What an instruction makes in the heap: texts, objects, rails, and exports that global references name.
use Rattle.std.specs.Prelude.{◌≡◌, ℕ, ◌+◌, ◌^◌, ◌<◌, ◌≤◌, ◌⊎◌, Bool, true, false}
use Rattle.std.specs.Prelude.{nat_le, List, ◌++◌, length, replicate, Option, Some, None, slice_get}
use Rattle.std.specs.Prelude.{slice_set}
use Rattle.std.specs.List.{slice_range}
use Rattle.x10_kinds.specs.declared.limit.Limit.{Limit}
use Rattle.x10_kinds.specs.declared.limit.Limit.TheVariants as limits
use Rattle.x10_kinds.specs.declared.kind.Kind.{Kind}
use Rattle.x10_kinds.specs.declared.stop.Stop.{Stop}
use Rattle.x10_kinds.specs.declared.stop.Stop.TheVariants as stop
use Rattle.x10_code.specs.declared.instr.Instr.{Instr}
use Rattle.x10_model.specs.Modules.{Module}
use Rattle.x10_model.specs.declared.limits.TheConstants.{MOST_BYTES}
use Rattle.x10_model.specs.Results.{rail_length}
use Rattle.x10_heap.specs.References.{reference_word}
use Rattle.x10_heap.specs.Heaps.{HeapState, ObjectState, with_object, with_rail, with_text, with_export, IsFull}
use Rattle.x10_place.specs.declared.route.Make.{Make}
use Rattle.x10_place.specs.declared.route.Make.TheVariants as make
use Rattle.x10_place.specs.Frames.{Workspace, word_at, int_at, Becomes, text_in, object_in}

-- ---- what is made in the heap

-- a text, under the next number, which goes to register a
pub record MakesText (w : Workspace) (i : Instr) (text : List ℕ) (v : Workspace) : Type 0 where
  pub few : length w.heap.texts < 2 ^ 32
  pub becomes : Becomes v (w.pc + 1) (slice_set w.words i.a (length w.heap.texts)) w.loops
      (with_text w.heap text)

-- the same of two texts joined; where they are too long together, the next instruction is x
abbrev pub Joins : Bool → List ℕ → Workspace → Instr → Workspace → Type 0
Joins true text w i v = MakesText w i text v
Joins false text w i v = Becomes v i.x w.words w.loops w.heap

-- an object with so many fields from register b on, under the next number; register a gets one more
pub record MakesObject (w : Workspace) (i : Instr) (count : ℕ) (v : Workspace) : Type 0 where
  pub few : length w.heap.objects < 2 ^ 32
  pub becomes : Becomes v (w.pc + 1) (slice_set w.words i.a (length w.heap.objects + 1)) w.loops
      (with_object w.heap i.x (slice_range w.words i.b (i.b + count)))

-- a rail of so many zeros, under the next number
pub record MakesZeros (w : Workspace) (i : Instr) (count : ℕ) (v : Workspace) : Type 0 where
  pub few : length w.heap.rails < 2 ^ 32
  pub becomes : Becomes v (w.pc + 1) (slice_set w.words i.a (length w.heap.rails)) w.loops
      (with_rail w.heap (replicate count 0))

-- the same, where there is such a length; the next instruction is x where there is none
abbrev pub MakesRail : Option ℕ → Workspace → Instr → Workspace → Type 0
MakesRail (Some count) w i v = MakesZeros w i count v
MakesRail None w i v = Becomes v i.x w.words w.loops w.heap

-- what an operation makes
abbrev pub Makes : Make → Module → Workspace → Instr → Workspace → Type 0
Makes make.Text program w i v = (text : List ℕ) × (slice_get program.texts i.x ≡ Some text)
    × MakesText w i text v
Makes make.JoinedText program w i v = (t u : List ℕ) × (text_in w.heap w.words i.b ≡ Some t)
    × (text_in w.heap w.words i.c ≡ Some u)
    × Joins (nat_le (length t + length u) MOST_BYTES) (t ++ u) w i v
Makes make.Object program w i v = (kinds : List Kind) × (slice_get program.classes i.x ≡ Some kinds)
    × MakesObject w i (length kinds) v
Makes make.Rail program w i v = MakesRail (rail_length (int_at w.words i.b)) w i v

-- what it asks of the module and of the number of registers
abbrev pub AsksMake : Make → Module → ℕ → Instr → Type 0
AsksMake make.Text program registers i = (i.a < registers) × (i.x < length program.texts)
AsksMake make.JoinedText program registers i = (i.a < registers) × (i.b < registers)
    × (i.c < registers) × (i.x < 2 ^ 16)
AsksMake make.Object program registers i = (i.a < registers)
    × ((kinds : List Kind) → slice_get program.classes i.x ≡ Some kinds
    → i.b + length kinds ≤ registers) × (i.x < length program.classes)
AsksMake make.Rail program registers i = (i.a < registers) × (i.b < registers) × (i.x < 2 ^ 16)

-- what it reads in the heap is there
abbrev pub ReadsMake : Make → HeapState → List ℕ → Instr → Type 0
ReadsMake make.JoinedText heap words i = (word_at words i.b < length heap.texts)
    × (word_at words i.c < length heap.texts)
ReadsMake _ heap words i = Unit {0}

-- the two texts together are no longer than a text may be
abbrev pub FitTogether : HeapState → List ℕ → Instr → Type 0
FitTogether heap words i = (t u : List ℕ) → text_in heap words i.b ≡ Some t
    → text_in heap words i.c ≡ Some u → length t + length u ≤ MOST_BYTES

-- it would make one more of what there can be no more of
abbrev pub Overfills : Make → HeapState → List ℕ → Instr → Limit → Type 0
Overfills make.Text heap words i limit = (limit ≡ limits.Texts) × IsFull (length heap.texts)
Overfills make.JoinedText heap words i limit = (limit ≡ limits.Texts) × IsFull (length heap.texts)
    × FitTogether heap words i
Overfills make.Object heap words i limit = (limit ≡ limits.Objects) × IsFull (length heap.objects)
Overfills make.Rail heap words i limit = (limit ≡ limits.Rails) × IsFull (length heap.rails)
    × ((count : ℕ) × (rail_length (int_at words i.b) ≡ Some count))

-- why it makes nothing: memory was refused, or there can be no more
abbrev pub IsRefused : Make → HeapState → List ℕ → Instr → Stop → Type 0
IsRefused m heap words i why = (why ≡ stop.Memory)
    ⊎ ((limit : Limit) × (why ≡ stop.Limit limit) × Overfills m heap words i limit)

-- ---- global references

-- the object in register b is exported under the next number, and the reference goes to register a
pub record ExportsObject (here : ℕ) (w : Workspace) (i : Instr) (v : Workspace) : Type 0 where
  pub few : length w.heap.exports < 2 ^ 32
  pub object : ObjectState
  pub is_object : slice_get w.heap.objects (object_in w.words i.b) ≡ Some object
  pub becomes : Becomes v (w.pc + 1) (slice_set w.words i.a
      (reference_word here (length w.heap.exports))) w.loops
      (with_export w.heap object.class (object_in w.words i.b))

-- the register names an object
pub record NamesObject (heap : HeapState) (words : List ℕ) (r : ℕ) : Type 0 where
  pub not_null : 0 < word_at words r
  pub there : object_in words r < length heap.objects

-- why there is no export: memory was refused, or there can be no more
abbrev pub IsExportRefused : HeapState → Stop → Type 0
IsExportRefused heap why = (why ≡ stop.Memory)
    ⊎ ((limit : Limit) × (why ≡ stop.Limit limit) × (limit ≡ limits.References)
    × IsFull (length heap.exports))
