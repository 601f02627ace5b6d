-- Kinds as words.
use Rattle.std.specs.Prelude.{ℕ, Bool, true, false, not, nat_lt, is_some, List, [], ◌∷◌, Option, Some, None, Result, Ok, Err, if◌then◌else◌, codes}
use Rattle.std.specs.Str.{bytes_eq}
use Rattle.std.specs.List.{list_all}
use Rattle.x10_kinds.specs.declared.kind.Kind.{Kind}
use Rattle.x10_kinds.specs.declared.kind.Kind.TheVariants as kind
use Rattle.x10_model.specs.declared.slot.Slot.{Slot}
use Rattle.x10_asm.specs.declared.fault.AsmCause.{AsmCause}
use Rattle.x10_asm.specs.declared.fault.AsmCause.TheVariants.{Word, Number}
use Rattle.x10_asm.specs.Lines.{stripped, number_of}
use Rattle.x10_asm.specs.Checks.{◌>>=◌, ◌>>◌, check, given}

-- the number of a class that is there, after the colon
abbrev pub class_of : ℕ → List ℕ → Result ℕ AsmCause
class_of classes word = do
  class ← given (number_of 65535 word) Number
  check (nat_lt class classes) Number
  Ok class

abbrev pub slot_with : (ℕ → Kind) → Bool → Result ℕ AsmCause → Result Slot AsmCause
slot_with make here (Ok class) = Ok (record { kind = make class; home_here = here })
slot_with make here (Err cause) = Err cause

-- what a word with the prefix says, else what another reading gives
abbrev pub prefixed : Option (List ℕ) → (List ℕ → Result Slot AsmCause) → Result Slot AsmCause
    → Result Slot AsmCause
prefixed (Some class) read other = read class
prefixed None read other = other

abbrev pub classed : ℕ → (ℕ → Kind) → Bool → List ℕ → Result Slot AsmCause
classed classes make here word = slot_with make here (class_of classes word)

abbrev pub plain : Kind → Slot
plain k = record { kind = k; home_here = false }

-- a kind with a class, or one whose home is here
abbrev pub reference_of : ℕ → List ℕ → Result Slot AsmCause
reference_of classes word =
    prefixed (stripped (codes "obj:") word) (classed classes kind.Obj false)
    (prefixed (stripped (codes "opt:") word) (classed classes kind.Opt false)
    (prefixed (stripped (codes "gref:") word) (classed classes kind.GRef false)
    (prefixed (stripped (codes "here:") word) (classed classes kind.GRef true)
    (Err Word))))

-- the kind of a parameter
unfoldable pub slot_of : ℕ → List ℕ → Result Slot AsmCause
slot_of classes word =
    if bytes_eq word (codes "int") then Ok (plain kind.Int)
    else (if bytes_eq word (codes "place") then Ok (plain kind.Place)
    else (if bytes_eq word (codes "text") then Ok (plain kind.Text)
    else (if bytes_eq word (codes "rail") then Ok (plain kind.Rail)
    else reference_of classes word)))

abbrev pub is_here : List ℕ → Bool
is_here word = is_some (stripped (codes "here:") word)

-- the kind of a field, which has no home flag
unfoldable pub field_of : ℕ → List ℕ → Result Kind AsmCause
field_of classes word = do
  check (not (is_here word)) Word
  s ← slot_of classes word
  Ok s.kind

abbrev pub some_slot : Result Slot AsmCause → Result (Option Slot) AsmCause
some_slot (Ok s) = Ok (Some s)
some_slot (Err cause) = Err cause

-- the kind of a result
unfoldable pub result_of : ℕ → List ℕ → Result (Option Slot) AsmCause
result_of classes word = if bytes_eq word (codes "none") then Ok None else some_slot
    (slot_of classes word)

-- ---- several words

-- the word is no word of a kind
abbrev pub is_unknown : {A : Type 0} → Result A AsmCause → Bool
is_unknown (Err Word) = true
is_unknown _ = false

-- each word's kind, or the first fault
abbrev pub each : {A : Type 0} → (List ℕ → Result A AsmCause) → List (List ℕ)
    → Result (List A) AsmCause
each read [] = Ok []
each read (word ∷ others) = do
  first ← read word
  rest ← each read others
  Ok (first ∷ rest)

-- every word is that of a kind
abbrev pub are_known : {A : Type 0} → (List ℕ → Result A AsmCause) → List (List ℕ) → Bool
are_known read ws = list_all (λ w. not (is_unknown (read w))) ws
