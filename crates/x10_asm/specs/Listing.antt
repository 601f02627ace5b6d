-- The listing of a module: its canonical text. One space stands between words, and a line feed ends each line.
use Rattle.std.specs.Prelude.{ℕ, Bool, true, ◌==◌, List, [], ◌∷◌, ◌++◌, map, Option, Some, None, if◌then◌else◌, codes, decimal}
use Rattle.std.specs.Prelude.{ℤ}
use Rattle.std.specs.Fmt.{signed_decimal}
use Rattle.std.specs.List.{flat_map}
use Rattle.x10_kinds.specs.declared.kind.Kind.{Kind}
use Rattle.x10_kinds.specs.declared.kind.Kind.TheVariants as kind
use Rattle.x10_code.specs.declared.instr.Instr.{Instr}
use Rattle.x10_code.specs.declared.operands.Operand.{Operand}
use Rattle.x10_code.specs.declared.operands.Operand.TheVariants as operand
use Rattle.x10_code.specs.Table.{name_of, form_of}
use Rattle.x10_model.specs.declared.version.ImageVersion.{ImageVersion}
use Rattle.x10_model.specs.declared.version.ImageVersion.TheVariants.{One, Two}
use Rattle.x10_model.specs.Modules.{Function, Module}
use Rattle.x10_model.specs.declared.slot.Slot.{Slot}

-- a word and the space before it
abbrev pub spaced : List ℕ → List ℕ
spaced word = 32 ∷ word

-- a first word and others
abbrev pub line : List ℕ → List (List ℕ) → List ℕ
line first others = first ++ (flat_map spaced others ++ 10 ∷ [])

-- ---- kinds

abbrev pub kind_word : Kind → List ℕ
kind_word kind.Int = codes "int"
kind_word kind.Place = codes "place"
kind_word kind.Text = codes "text"
kind_word kind.Rail = codes "rail"
kind_word (kind.Obj c) = codes "obj:" ++ decimal c
kind_word (kind.Opt c) = codes "opt:" ++ decimal c
kind_word (kind.GRef c) = codes "gref:" ++ decimal c

-- a global reference whose home is here has a word of its own
abbrev pub flagged_word : Bool → Kind → List ℕ
flagged_word true (kind.GRef c) = codes "here:" ++ decimal c
flagged_word _ k = kind_word k

abbrev pub slot_word : Slot → List ℕ
slot_word s = flagged_word s.home_here s.kind

abbrev pub result_word : Option Slot → List ℕ
result_word None = codes "none"
result_word (Some s) = slot_word s

-- ---- texts

-- a byte of a text between its quotes: quote, backslash and line feed have a backslash before them
abbrev pub escape : ℕ → List ℕ
escape c = if c == 34 then 92 ∷ 34 ∷ [] else
    (if c == 92 then 92 ∷ 92 ∷ [] else (if c == 10 then 92 ∷ 110 ∷ [] else c ∷ []))

abbrev pub quoted : List ℕ → List ℕ
quoted text = 34 ∷ (flat_map escape text ++ 34 ∷ [])

-- ---- instructions

-- an operand that the form names, as a word
abbrev pub operand_word : Operand → ℕ → List (List ℕ)
operand_word operand.Unused n = []
operand_word _ n = decimal n ∷ []

unfoldable pub operand_words : Instr → List (List ℕ)
operand_words i =
    operand_word (form_of i.op).a i.a
    ++ (operand_word (form_of i.op).b i.b
    ++ (operand_word (form_of i.op).c i.c
    ++ operand_word (form_of i.op).x i.x))

-- ---- lines

-- version 1 has no line
unfoldable pub version_lines : ImageVersion → List ℕ
version_lines One = []
version_lines Two = line (codes "version") (decimal 2 ∷ [])

unfoldable pub places_line : ℕ → List ℕ
places_line n = line (codes "places") (decimal n ∷ [])

unfoldable pub class_line : List Kind → List ℕ
class_line fields = line (codes "class") (map kind_word fields)

unfoldable pub int_line : ℤ → List ℕ
int_line z = line (codes "int") (signed_decimal z ∷ [])

unfoldable pub text_line : List ℕ → List ℕ
text_line text = line (codes "text") (quoted text ∷ [])

-- what a function's line says: its registers, loop slots, result and parameters
unfoldable pub func_line : ℕ → ℕ → Option Slot → List Slot → List ℕ
func_line registers loops result parameters =
    line (codes "func") (decimal registers ∷ decimal loops ∷ result_word result
    ∷ map slot_word parameters)

unfoldable pub instruction_line : Instr → List ℕ
instruction_line i = line (name_of i.op) (operand_words i)

unfoldable pub end_line : List ℕ
end_line = line (codes "end") []

unfoldable pub function_lines : Function → List ℕ
function_lines f = func_line f.registers f.loops f.result f.parameters
    ++ (flat_map instruction_line f.code ++ end_line)

unfoldable pub entry_line : ℕ → List ℕ
entry_line n = line (codes "entry") (decimal n ∷ [])

-- the canonical text of a module
unfoldable pub listing : Module → List ℕ
listing m =
    version_lines m.version
    ++ (places_line m.least_places
    ++ (flat_map class_line m.classes
    ++ (flat_map int_line m.ints
    ++ (flat_map text_line m.texts
    ++ (flat_map function_lines m.functions
    ++ entry_line m.entry)))))
