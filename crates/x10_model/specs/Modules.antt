-- A module: the version of its image, classes, constants and functions, with the least number of places and the entry function.
use Rattle.std.specs.Prelude.{◌≡◌, ℕ, ℤ, ◌<◌, ◌≤◌, ◌^◌, Bool, true, false, List, length, Option, Some, IfSome, IsTrue, slice_get}
use Rattle.std.specs.List.{AllByRecursion}
use Rattle.std.specs.Prelude.{FitsSigned, IsUtf8}
use Rattle.std.specs.Int.{w64}
use Rattle.x10_model.specs.declared.limits.TheConstants.{MOST_FIELDS, MOST_FUNCTIONS, MOST_INSTRUCTIONS, MOST_LOOPS, MOST_PARAMETERS, MOST_PLACES}
use Rattle.x10_model.specs.declared.limits.TheConstants.{MOST_REGISTERS}
use Rattle.x10_kinds.specs.declared.kind.Kind.{Kind}
use Rattle.x10_kinds.specs.declared.kind.Kind.TheVariants as kind
use Rattle.x10_code.specs.declared.op.Op.{Op}
use Rattle.x10_code.specs.declared.op.Op.TheVariants as op
use Rattle.x10_code.specs.declared.instr.Instr.{Instr}
use Rattle.x10_code.specs.Spelling.{IsInstr}
use Rattle.x10_model.specs.declared.slot.Slot.{Slot}
use Rattle.x10_model.specs.declared.version.ImageVersion.{ImageVersion}
use Rattle.x10_model.specs.declared.version.ImageVersion.TheVariants.{One}

pub record Function : Type 0 where
  pub parameters : List Slot
  pub registers : ℕ
  -- how many loop slots
  pub loops : ℕ
  pub result : Option Slot
  pub code : List Instr

pub record Module : Type 0 where
  pub version : ImageVersion
  pub least_places : ℕ
  -- the kinds of each class's fields
  pub classes : List (List Kind)
  pub ints : List ℤ
  -- each in UTF-8
  pub texts : List (List ℕ)
  pub functions : List Function
  pub entry : ℕ

-- the kind names no class that isn't there
abbrev pub NamesClassBelow : ℕ → Kind → Type 0
NamesClassBelow classes (kind.Obj c) = c < classes
NamesClassBelow classes (kind.Opt c) = c < classes
NamesClassBelow classes (kind.GRef c) = c < classes
NamesClassBelow classes _ = Unit {0}

-- only a global reference may be said to have its home here
abbrev pub takes_flag : Kind → Bool
takes_flag (kind.GRef c) = true
takes_flag _ = false

pub record FitsSlot (classes : ℕ) (s : Slot) : Type 0 where
  pub class : NamesClassBelow classes s.kind
  pub flag : IsTrue s.home_here → IsTrue (takes_flag s.kind)

pub record FitsClass (classes : ℕ) (fields : List Kind) : Type 0 where
  pub count : length fields ≤ MOST_FIELDS
  pub kinds : AllByRecursion (NamesClassBelow classes) fields

pub record FitsText (text : List ℕ) : Type 0 where
  pub length : length text < 2 ^ 16
  pub utf8 : IsUtf8 text

-- the operations that an image of a version may have: those of atomic regions are new in version 2
abbrev pub is_known : ImageVersion → Op → Bool
is_known One op.Atomb = false
is_known One op.Atome = false
is_known version op = true

-- the instructions that an image of a version may have
pub record IsInstrOf (version : ImageVersion) (i : Instr) : Type 0 where
  pub spelled : IsInstr i
  pub known : IsTrue (is_known version i.op)

pub record FitsFunction (version : ImageVersion) (classes : ℕ) (f : Function) : Type 0 where
  pub parameters : length f.parameters ≤ MOST_PARAMETERS
  pub registers : (1 ≤ f.registers) × (f.registers ≤ MOST_REGISTERS)
  pub room : length f.parameters ≤ f.registers
  pub loops : f.loops ≤ MOST_LOOPS
  pub slots : AllByRecursion (FitsSlot classes) f.parameters
  pub result : IfSome f.result (FitsSlot classes)
  pub length : (1 ≤ length f.code) × (length f.code ≤ MOST_INSTRUCTIONS)
  pub code : AllByRecursion (IsInstrOf version) f.code

-- the entry function takes nothing and gives nothing
pub record IsEntry (f : Function) : Type 0 where
  pub parameters : length f.parameters ≤ 0
  pub result : IfSome f.result (λ s. ⊥)

-- the modules that have an image
pub record FitsImage (m : Module) : Type 0 where
  pub least_places : (1 ≤ m.least_places) × (m.least_places ≤ MOST_PLACES)
  pub classes : length m.classes < 2 ^ 16
  pub fields : AllByRecursion (FitsClass (length m.classes)) m.classes
  pub ints : (length m.ints < 2 ^ 16) × AllByRecursion (FitsSigned w64) m.ints
  pub texts : (length m.texts < 2 ^ 16) × AllByRecursion FitsText m.texts
  pub functions : (1 ≤ length m.functions) × (length m.functions ≤ MOST_FUNCTIONS)
      × AllByRecursion (FitsFunction m.version (length m.classes)) m.functions
  pub entry : (f : Function) × (slice_get m.functions m.entry ≡ Some f) × IsEntry f
