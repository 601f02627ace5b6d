-- The image of a module: its one spelling in bytes. Numbers stand with the highest byte first.
use Rattle.std.specs.Prelude.{ℕ, ℤ, Bool, true, false, List, [], ◌∷◌, ◌++◌, length, Option, Some, None}
use Rattle.std.specs.List.{flat_map}
use Rattle.std.specs.Int.{w16, w32, w64, to_be_bytes, cast_unsigned}
use Rattle.x10_kinds.specs.declared.kind.Kind.{Kind}
use Rattle.x10_kinds.specs.declared.kind.Kind.TheVariants as kind
use Rattle.x10_code.specs.Spelling.{spelling as instruction}
use Rattle.x10_model.specs.Modules.{Function, Module}
use Rattle.x10_model.specs.declared.slot.Slot.{Slot}
use Rattle.x10_model.specs.declared.version.ImageVersion.{ImageVersion}
use Rattle.x10_model.specs.declared.version.ImageVersion.TheVariants.{One, Two}

-- "X10P"
abbrev pub magic : ℕ
magic = 0x58313050

abbrev pub tag_of : Kind → ℕ
tag_of kind.Int = 1
tag_of kind.Place = 2
tag_of kind.Text = 3
tag_of kind.Rail = 4
tag_of (kind.Obj c) = 5
tag_of (kind.Opt c) = 6
tag_of (kind.GRef c) = 7

-- the class that it names, and 0 where it names none
abbrev pub class_of : Kind → ℕ
class_of (kind.Obj c) = c
class_of (kind.Opt c) = c
class_of (kind.GRef c) = c
class_of _ = 0

unfoldable pub kind_bytes : Kind → List ℕ
kind_bytes k = tag_of k ∷ to_be_bytes w16 (class_of k)

abbrev pub flag_byte : Bool → ℕ
flag_byte false = 0
flag_byte true = 1

unfoldable pub slot_bytes : Slot → List ℕ
slot_bytes s = kind_bytes s.kind ++ flag_byte s.home_here ∷ []

-- a function without result has four zero bytes in its place
unfoldable pub result_bytes : Option Slot → List ℕ
result_bytes None = 0 ∷ 0 ∷ 0 ∷ 0 ∷ []
result_bytes (Some s) = slot_bytes s

unfoldable pub class_bytes : List Kind → List ℕ
class_bytes fields = length fields ∷ flat_map kind_bytes fields

-- in two's complement
abbrev pub int_bytes : ℤ → List ℕ
int_bytes z = to_be_bytes w64 (cast_unsigned w64 z)

unfoldable pub text_bytes : List ℕ → List ℕ
text_bytes text = to_be_bytes w16 (length text) ++ text

unfoldable pub function_bytes : Function → List ℕ
function_bytes f =
    (length f.parameters ∷ f.registers ∷ f.loops ∷ 0 ∷ [])
    ++ (flat_map slot_bytes f.parameters
    ++ (result_bytes f.result
    ++ (to_be_bytes w16 (length f.code)
    ++ (to_be_bytes w16 0
    ++ flat_map instruction f.code))))

abbrev pub number_of : ImageVersion → ℕ
number_of One = 1
number_of Two = 2

-- the version, and how much of everything there is
pub record Header : Type 0 where
  pub version : ImageVersion
  pub least_places : ℕ
  pub classes : ℕ
  pub ints : ℕ
  pub texts : ℕ
  pub functions : ℕ
  pub entry : ℕ

abbrev pub header_of : Module → Header
header_of m = record {
  version = m.version;
  least_places = m.least_places;
  classes = length m.classes;
  ints = length m.ints;
  texts = length m.texts;
  functions = length m.functions;
  entry = m.entry;
}

unfoldable pub header_bytes : Header → List ℕ
header_bytes h =
    to_be_bytes w32 magic
    ++ (to_be_bytes w16 (number_of h.version)
    ++ (to_be_bytes w16 h.least_places
    ++ (to_be_bytes w16 h.classes
    ++ (to_be_bytes w16 h.ints
    ++ (to_be_bytes w16 h.texts
    ++ (to_be_bytes w16 h.functions
    ++ (to_be_bytes w16 h.entry
    ++ to_be_bytes w16 0)))))))

unfoldable pub spelling : Module → List ℕ
spelling m =
    header_bytes (header_of m)
    ++ (flat_map class_bytes m.classes
    ++ (flat_map int_bytes m.ints
    ++ (flat_map text_bytes m.texts
    ++ flat_map function_bytes m.functions)))
