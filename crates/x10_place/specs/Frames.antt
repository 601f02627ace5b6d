-- Call frames: what an instruction does to the words in the registers and to the turns of the loops.
use Rattle.std.specs.Prelude.{◌≡◌, ◌≢◌, ℕ, ℤ, pos, negsuc, ◌+ℤ◌, ◌-ℤ◌, ◌*ℤ◌, int_lt, ◌+◌, ◌-◌, ◌%◌, ◌^◌, ◌<◌, ◌≤◌, Bool, true, false}
use Rattle.std.specs.Prelude.{◌==◌, nat_lt, List, length, replicate, Option, Some, None, IfSome, if◌then◌else◌, slice_get}
use Rattle.std.specs.Prelude.{slice_index, slice_set}
use Rattle.std.specs.List.{AllByRecursion}
use Rattle.std.specs.Int.{w64, cast_signed, int_rem_euclid}
use Rattle.std.specs.Ordering.{int_eq}
use Rattle.x10_code.specs.declared.op.Op.{Op}
use Rattle.x10_code.specs.declared.op.Op.TheVariants as op
use Rattle.x10_code.specs.declared.instr.Instr.{Instr}
use Rattle.x10_model.specs.Modules.{Module, Function, FitsSlot}
use Rattle.x10_model.specs.Ranges.{function_at, IsInRange}
use Rattle.x10_model.specs.Values.{Value, Int}
use Rattle.x10_model.specs.Results.{is_zero, wrapped, quotient, remainder, truth, byte_at, byte_value, index_of}
use Rattle.x10_heap.specs.References.{home_of, id_of}
use Rattle.x10_heap.specs.Heaps.{HeapState, ObjectState, HasField, with_field, with_byte}
use Rattle.x10_heap.specs.declared.export.Export.{Export}
use Rattle.x10_place.specs.declared.call_frame.CallFrame.{CallFrame}
use Rattle.x10_place.specs.declared.route.Local.{Local}
use Rattle.x10_place.specs.declared.route.Local.TheVariants as local
use Rattle.x10_place.specs.declared.route.Partial.{Partial}
use Rattle.x10_place.specs.declared.route.Partial.TheVariants as partial
use Rattle.x10_place.specs.declared.route.Number.{Number}
use Rattle.x10_place.specs.declared.route.Number.TheVariants as number
use Rattle.x10_place.specs.declared.route.Site.{Site}
use Rattle.x10_place.specs.declared.route.Site.TheVariants as site

-- what an operation of one call frame works on: the number of the next instruction, the words in the registers, the turns
-- that open loops have left, and the heap of the place
pub record Workspace : Type 0 where
  pub pc : ℕ
  pub words : List ℕ
  pub loops : List ℕ
  pub heap : HeapState

abbrev pub workspace : ℕ → List ℕ → List ℕ → HeapState → Workspace
workspace pc words loops heap = record { pc = pc; words = words; loops = loops; heap = heap }

-- that of a call frame
abbrev pub space_of : CallFrame → HeapState → Workspace
space_of f heap = workspace f.pc f.registers.items f.loops heap

-- a call frame with another one
abbrev pub with_space : CallFrame → Workspace → CallFrame
with_space f w = record f {
  pc = w.pc;
  loops = w.loops;
  registers = record f.registers { items = w.words };
}

abbrev pub word_at : List ℕ → ℕ → ℕ
word_at words r = slice_index words r

abbrev pub int_at : List ℕ → ℕ → ℤ
int_at words r = cast_signed w64 (word_at words r)

-- the next instruction, these words in the registers, these turns and this heap
pub record Becomes (w : Workspace) (pc : ℕ) (words loops : List ℕ) (heap : HeapState) : Type 0 where
  pub pc_is : w.pc ≡ pc
  pub words_are : w.words ≡ words
  pub loops_are : w.loops ≡ loops
  pub heap_is : w.heap ≡ heap

-- how large a function is
pub record HasSizes (classes : ℕ) (f : Function) : Type 0 where
  pub parameters : length f.parameters ≤ 16
  pub registers : (1 ≤ f.registers) × (f.registers ≤ 64)
  pub room : length f.parameters ≤ f.registers
  pub loops : f.loops ≤ 8
  pub slots : AllByRecursion (FitsSlot classes) f.parameters
  pub result : IfSome f.result (FitsSlot classes)
  pub length : (1 ≤ length f.code) × (length f.code ≤ 4096)

-- a call frame with so many registers stands at an instruction of its function; it may have more than the function has
pub record IsWithin (program : Module) (number at count : ℕ) : Type 0 where
  pub function : Function
  pub is_function : function_at program number ≡ Some function
  pub pc : at < length function.code
  pub registers : function.registers ≤ count

abbrev pub IsInside : Module → CallFrame → Type 0
IsInside program f = IsWithin program f.function f.pc (length f.registers.items)

-- an instruction as it was fetched for a call frame of a function
pub record IsFetched (program : Module) (number pc count : ℕ) (i : Instr) : Type 0 where
  pub function : Function
  pub is_function : function_at program number ≡ Some function
  pub is_instr : slice_get function.code pc ≡ Some i
  pub in_range : IsInRange program function i
  pub sizes : HasSizes (length program.classes) function
  pub registers : function.registers ≤ count
  pub next : i.op ≢ op.Ret → pc + 1 < length function.code

-- the same, for a call frame
abbrev pub IsFetchedFor : Module → CallFrame → Instr → Type 0
IsFetchedFor program f i = IsFetched program f.function f.pc (length f.registers.items) i

-- ---- what is in the heap

-- the bytes of the rail, or of the text, that a register names
abbrev pub rail_in : HeapState → List ℕ → ℕ → Option (List ℕ)
rail_in heap words r = slice_get heap.rails (word_at words r)

abbrev pub text_in : HeapState → List ℕ → ℕ → Option (List ℕ)
text_in heap words r = slice_get heap.texts (word_at words r)

-- the number of the object that a register names, which holds one more
abbrev pub object_in : List ℕ → ℕ → ℕ
object_in words r = word_at words r - 1

-- the register names an object with such a field
pub record NamesField (heap : HeapState) (words : List ℕ) (r field : ℕ) : Type 0 where
  pub not_null : 0 < word_at words r
  pub has_field : HasField heap (object_in words r) field

-- how many bytes there are
abbrev pub size : Option (List ℕ) → Option Value
size None = None
size (Some bytes) = Some (Int (pos (length bytes)))

abbrev pub byte_in : Option (List ℕ) → ℤ → Option Value
byte_in None z = None
byte_in (Some bytes) z = byte_value (byte_at bytes z)

-- a rail with the lowest eight bits of a number at an index
abbrev pub byte_set : HeapState → ℕ → List ℕ → (index number : ℤ) → HeapState
byte_set heap rail bytes index number = with_byte heap rail bytes (index_of index)
    (index_of (int_rem_euclid number (pos 256)))

-- ---- places

-- two registers stand for one place
abbrev pub are_same : List ℕ → ℕ → ℕ → Bool
are_same words r s = home_of (word_at words r) == home_of (word_at words s)

abbrev pub is_at : List ℕ → ℕ → ℕ → Bool
is_at words r place = home_of (word_at words r) == place

-- the number of a place, if there is one
abbrev pub numbered : ℕ → ℤ → Option ℕ
numbered places (pos n) = if nat_lt n places then Some n else None
numbered places (negsuc n) = None

-- ---- operations of one call frame

abbrev pub as_value : Option ℤ → Option Value
as_value None = None
as_value (Some z) = Some (Int z)

-- the value that an operation gives, by the machine's own definitions
abbrev pub given : Number → Module → HeapState → List ℕ → Instr → Option Value
given number.Constant program heap words i = as_value (slice_get program.ints i.x)
given number.Sum program heap words i = Some (wrapped (int_at words i.b +ℤ int_at words i.c))
given number.Difference program heap words i = Some (wrapped (int_at words i.b -ℤ int_at words i.c))
given number.Product program heap words i = Some (wrapped (int_at words i.b *ℤ int_at words i.c))
given number.Less program heap words i = Some (truth (int_lt (int_at words i.b) (int_at words i.c)))
given number.Equal program heap words i =
    Some (truth (int_eq (int_at words i.b) (int_at words i.c)))
given number.RailLength program heap words i = size (rail_in heap words i.b)
given number.TextLength program heap words i = size (text_in heap words i.b)
given number.PlaceNumber program heap words i = Some (Int (pos (word_at words i.b)))

-- the same, where there may be none
abbrev pub tried : Partial → HeapState → List ℕ → Instr → Option Value
tried partial.Quotient heap words i = quotient (int_at words i.b) (int_at words i.c)
tried partial.Remainder heap words i = remainder (int_at words i.b) (int_at words i.c)
tried partial.Byte heap words i = byte_in (rail_in heap words i.b) (int_at words i.c)

-- the number's word goes to register a
abbrev pub Writes : Workspace → Instr → ℤ → Workspace → Type 0
Writes w i z v = (word : ℕ) × (z ≡ cast_signed w64 word)
    × Becomes v (w.pc + 1) (slice_set w.words i.a word) w.loops w.heap

-- the same; where there is no number, the next instruction is x
abbrev pub Takes : Workspace → Instr → Option ℤ → Workspace → Type 0
Takes w i (Some z) v = Writes w i z v
Takes w i None v = Becomes v i.x w.words w.loops w.heap

-- the number of the next instruction, from that of one and where that jumps to
abbrev pub landing : ℕ → Option ℕ → ℕ
landing pc None = pc + 1
landing pc (Some target) = target

-- how often the loop of a slot still turns after this turn
abbrev pub turns_left : List ℕ → ℕ → ℕ
turns_left loops slot = slice_index loops slot - 1

-- a reference is copied; where it is null, the next instruction is x
abbrev pub CopiesUnless : Bool → Workspace → Instr → Workspace → Type 0
CopiesUnless true w i v = Becomes v i.x w.words w.loops w.heap
CopiesUnless false w i v = Becomes v (w.pc + 1)
    (slice_set w.words i.a (word_at w.words i.b)) w.loops w.heap

-- a field is copied to register a
pub record GetsField (w : Workspace) (i : Instr) (v : Workspace) : Type 0 where
  pub object : ObjectState
  pub is_object : slice_get w.heap.objects (object_in w.words i.b) ≡ Some object
  pub word : ℕ
  pub is_field : slice_get object.fields i.c ≡ Some word
  pub becomes : Becomes v (w.pc + 1) (slice_set w.words i.a word) w.loops w.heap

-- register b is copied to a field
pub record SetsField (w : Workspace) (i : Instr) (v : Workspace) : Type 0 where
  pub object : ObjectState
  pub is_object : slice_get w.heap.objects (object_in w.words i.a) ≡ Some object
  pub becomes : Becomes v (w.pc + 1) w.words w.loops
      (with_field w.heap (object_in w.words i.a) object i.c (word_at w.words i.b))

-- the byte of a rail at an index is written; where there is none, the next instruction is x
abbrev pub SetsByte : Option ℕ → List ℕ → Workspace → Instr → Workspace → Type 0
SetsByte (Some byte) bytes w i v = Becomes v (w.pc + 1) w.words w.loops
    (byte_set w.heap (word_at w.words i.a) bytes (int_at w.words i.b) (int_at w.words i.c))
SetsByte None bytes w i v = Becomes v i.x w.words w.loops w.heap

-- what an operation of one call frame does
abbrev pub Acts : Local → Module → Workspace → Instr → Workspace → Type 0
Acts (local.Number n) program w i v = (z : ℤ) × (Some (Int z) ≡ given n program w.heap w.words i)
    × Writes w i z v
Acts (local.Partial d) program w i v = (z : Option ℤ) × (as_value z ≡ tried d w.heap w.words i)
    × Takes w i z v
Acts local.Copy program w i v = Becomes v (w.pc + 1)
    (slice_set w.words i.a (word_at w.words i.b)) w.loops w.heap
Acts local.Null program w i v = Becomes v (w.pc + 1) (slice_set w.words i.a 0) w.loops w.heap
Acts local.NotNull program w i v = CopiesUnless (word_at w.words i.b == 0) w i v
Acts local.GetField program w i v = GetsField w i v
Acts local.SetField program w i v = SetsField w i v
Acts local.SetByte program w i v = (bytes : List ℕ) × (rail_in w.heap w.words i.a ≡ Some bytes)
    × SetsByte (byte_at bytes (int_at w.words i.b)) bytes w i v
Acts local.Place program w i v = Becomes v (w.pc + 1) (slice_set w.words i.a i.x) w.loops w.heap
Acts local.Home program w i v = Becomes v (w.pc + 1)
    (slice_set w.words i.a (home_of (word_at w.words i.b))) w.loops w.heap
Acts local.Open program w i v = (e : Export)
    × (slice_get w.heap.exports (id_of (word_at w.words i.b)) ≡ Some e)
    × Becomes v (w.pc + 1) (slice_set w.words i.a (e.object + 1)) w.loops w.heap
Acts local.SamePlace program w i v = Becomes v
    (if are_same w.words i.a i.b then w.pc + 1 else i.x) w.words w.loops w.heap
Acts local.Jump program w i v = Becomes v i.x w.words w.loops w.heap
Acts local.JumpIfZero program w i v = Becomes v
    (if is_zero (int_at w.words i.a) then i.x else w.pc + 1) w.words w.loops w.heap
Acts local.Loop program w i v = Becomes v (w.pc + 1) w.words (slice_set w.loops i.a i.x) w.heap
Acts local.EndLoop program w i v = Becomes v
    (if nat_lt 0 (turns_left w.loops i.a) then i.x else w.pc + 1) w.words
    (slice_set w.loops i.a (turns_left w.loops i.a)) w.heap

-- what an operation that gives a number asks of the constants and of the number of registers
abbrev pub AsksNumber : Number → Module → ℕ → Instr → Type 0
AsksNumber number.Constant program registers i = (i.a < registers) × (i.x < length program.ints)
AsksNumber number.RailLength program registers i = (i.a < registers) × (i.b < registers)
AsksNumber number.TextLength program registers i = (i.a < registers) × (i.b < registers)
AsksNumber number.PlaceNumber program registers i = (i.a < registers) × (i.b < registers)
AsksNumber _ program registers i = (i.a < registers) × (i.b < registers) × (i.c < registers)

-- what an operation of one call frame asks: the registers, slots and constants that it names are there, and its target is a
-- number of an instruction
abbrev pub Asks : Local → Module → ℕ → Instr → Type 0
Asks (local.Number n) program registers i = AsksNumber n program registers i
Asks (local.Partial d) program registers i = (i.a < registers) × (i.b < registers)
    × (i.c < registers) × (i.x < 2 ^ 16)
Asks local.Copy program registers i = (i.a < registers) × (i.b < registers)
Asks local.Null program registers i = i.a < registers
Asks local.NotNull program registers i = (i.a < registers) × (i.b < registers) × (i.x < 2 ^ 16)
Asks local.GetField program registers i = (i.a < registers) × (i.b < registers)
Asks local.SetField program registers i = (i.a < registers) × (i.b < registers)
Asks local.SetByte program registers i = (i.a < registers) × (i.b < registers) × (i.c < registers)
    × (i.x < 2 ^ 16)
Asks local.Place program registers i = i.a < registers
Asks local.Home program registers i = (i.a < registers) × (i.b < registers)
Asks local.Open program registers i = (i.a < registers) × (i.b < registers)
Asks local.SamePlace program registers i = (i.a < registers) × (i.b < registers) × (i.x < 2 ^ 16)
Asks local.Jump program registers i = i.x < 2 ^ 16
Asks local.JumpIfZero program registers i = (i.a < registers) × (i.x < 2 ^ 16)
Asks local.Loop program registers i = i.a < 8
Asks local.EndLoop program registers i = (i.a < 8) × (i.x < 2 ^ 16)

-- what an operation of one call frame reads in the heap is there
abbrev pub ReadsNumber : Number → HeapState → List ℕ → Instr → Type 0
ReadsNumber number.RailLength heap words i = word_at words i.b < length heap.rails
ReadsNumber number.TextLength heap words i = word_at words i.b < length heap.texts
ReadsNumber number.PlaceNumber heap words i = word_at words i.b < 2 ^ 16
ReadsNumber _ heap words i = Unit {0}

abbrev pub ReadsPartial : Partial → HeapState → List ℕ → Instr → Type 0
ReadsPartial partial.Byte heap words i = word_at words i.b < length heap.rails
ReadsPartial _ heap words i = Unit {0}

abbrev pub Reads : Local → HeapState → List ℕ → Instr → Type 0
Reads (local.Number n) heap words i = ReadsNumber n heap words i
Reads (local.Partial d) heap words i = ReadsPartial d heap words i
Reads local.GetField heap words i = NamesField heap words i.b i.c
Reads local.SetField heap words i = NamesField heap words i.a i.c
Reads local.SetByte heap words i = word_at words i.a < length heap.rails
Reads local.Open heap words i = id_of (word_at words i.b) < length heap.exports
Reads _ heap words i = Unit {0}

-- ---- by the place

-- what goes to register a; where there is nothing, the next instruction is x
abbrev pub Puts : Option ℕ → Workspace → Instr → Workspace → Type 0
Puts (Some word) w i v = Becomes v (w.pc + 1) (slice_set w.words i.a word) w.loops w.heap
Puts None w i v = Becomes v i.x w.words w.loops w.heap

-- what an operation does at a place, one of so many
abbrev pub ActsAt : Site → (here places : ℕ) → Workspace → Instr → Workspace → Type 0
ActsAt site.Here here places w i v = Puts (Some here) w i v
ActsAt site.Count here places w i v = Writes w i (pos places) v
ActsAt site.Next here places w i v = Puts (Some ((word_at w.words i.b + 1) % places)) w i v
ActsAt site.Numbered here places w i v = Puts (numbered places (int_at w.words i.b)) w i v
ActsAt site.IsHere here places w i v = Becomes v
    (if is_at w.words i.a here then w.pc + 1 else i.x) w.words w.loops w.heap

-- what it asks of the number of registers
abbrev pub AsksAt : Site → ℕ → Instr → Type 0
AsksAt site.Here registers i = i.a < registers
AsksAt site.Count registers i = i.a < registers
AsksAt site.Next registers i = (i.a < registers) × (i.b < registers)
AsksAt site.Numbered registers i = (i.a < registers) × (i.b < registers) × (i.x < 2 ^ 16)
AsksAt site.IsHere registers i = (i.a < registers) × (i.x < 2 ^ 16)

-- the register stands for a place that there is
abbrev pub ReadsAt : Site → ℕ → List ℕ → Instr → Type 0
ReadsAt site.Next places words i = word_at words i.b < places
ReadsAt _ places words i = Unit {0}

-- ---- calls

-- the operations that pass arguments to a function of this place
abbrev pub PassesArguments : Op → Type 0
PassesArguments op.Call = Unit {0}
PassesArguments op.Async = Unit {0}
PassesArguments _ = ⊥

-- the call frame of the function that an instruction calls, at its beginning
pub record IsEntered (program : Module) (words : List ℕ) (i : Instr) (f : CallFrame) : Type 0 where
  pub callee : Function
  pub is_callee : function_at program i.x ≡ Some callee
  pub function_is : f.function ≡ i.x
  pub pc_is : f.pc ≡ 0
  pub registers : callee.registers ≤ length f.registers.items
  pub arguments : (r : ℕ) → r < length callee.parameters
      → word_at f.registers.items r ≡ word_at words (i.b + r)
  pub loops_are : f.loops ≡ replicate 8 0

-- a call frame at the first instruction of a function, with so many registers, of which the first ones have these words
pub record IsEnteredWith (function count : ℕ) (words : List ℕ) (f : CallFrame) : Type 0 where
  pub function_is : f.function ≡ function
  pub pc_is : f.pc ≡ 0
  pub registers : length f.registers.items ≡ count
  pub arguments : (r : ℕ) → r < length words → word_at f.registers.items r ≡ word_at words r
  pub loops_are : f.loops ≡ replicate 8 0
