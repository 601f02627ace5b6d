-- What the words of a turn's line say, one by one.
use Rattle.std.specs.Prelude.{ℕ, ◌≡◌, ◌<◌, ◌≤◌, ◌^◌, ◌==◌, true, not, List, [], ◌∷◌, ◌++◌, length, map, replicate, Option, Some, None, Result, Ok, Err, ⊤, decimal}
use Rattle.std.specs.Borrow.{Bor}
use Rattle.std.specs.Fmt.{signed_decimal}
use Rattle.std.specs.List.{list_all}
use Rattle.hex.specs.Hex.{encode_lower}
use Rattle.x10_model.specs.Places as machine
use Rattle.x10_model.specs.Places.{Number, Words}
use Rattle.x10_asm.specs.Lines.{is_word_end}
use Rattle.x10_asm.specs.Listing.{spaced, quoted}
use Rattle.x10_place.specs.StandsFor.{line_as}
use Rattle.x10_hall.specs.Halls.{PostedFrame, frame_of}
use Rattle.x10_log.specs.declared.fault.LogCause.{LogCause}
use Rattle.x10_log.specs.declared.fault.LogFault.{LogFault}
use Rattle.x10_log.specs.declared.fault.LogCause.TheVariants.{Memory}
use Rattle.x10_hall.specs.declared.limits.TheConstants.{MOST_TAKEN, MOST_STEPS}
use Rattle.x10_log.specs.declared.item.Item.{Item}
use Rattle.x10_log.specs.declared.item.Item.TheVariants as item
use Rattle.x10_log.specs.declared.draft.Draft.{Draft}
use Rattle.x10_log.specs.Logs.{TurnValue, times}
use Rattle.x10_log.specs.Limits.{FitsFrame, FitsLine}

-- what was answered shows the value, unless memory ran out
abbrev pub Shows : {X Y : Type 0} → (X → Y) → Result X LogCause → Y → Type 0
Shows view (Ok x) y = view x ≡ y
Shows view (Err cause) y = cause ≡ Memory

-- the same of two parts
abbrev pub ShowsBoth : {A B Y : Type 0} → (A → Y) → (B → List ℕ) → Result (A × B) LogCause → Y
    → List ℕ → Type 0
ShowsBoth view tail (Ok x) y rest = (view x.0 ≡ y) × (tail x.1 ≡ rest)
ShowsBoth view tail (Err cause) y rest = cause ≡ Memory

-- the byte isn't among these
abbrev pub Lacks : ℕ → List ℕ → Type 0
Lacks c bytes = list_all (λ b. not (b == c)) bytes ≡ true

-- a word ends here: by a space, or the line does
abbrev pub IsEnd : List ℕ → Type 0
IsEnd rest = is_word_end rest ≡ true

-- what follows a word: nothing, or a space and the rest
abbrev pub tail_bytes : Option (Bor (List ℕ)) → List ℕ
tail_bytes None = []
tail_bytes (Some rest) = spaced rest.now

-- ---- what a word says

pub data Said : Type 0 where
  Taken : ℕ → Said
  Steps : ℕ → ℕ → Said
  Sent : PostedFrame → Said
  Printed : machine.Line → Said

abbrev pub said : Item → Said
said (item.Taken number) = Taken number
said (item.Steps key count) = Steps key count
said (item.Sent frame) = Sent (frame_of frame)
said (item.Printed line) = Printed (line_as line)

-- the word that says it
abbrev pub said_word : Said → List ℕ
said_word (Taken n) = 60 ∷ decimal n
said_word (Steps key count) = decimal key ++ times count
said_word (Sent f) = 62 ∷ (decimal f.to ++ 58 ∷ encode_lower f.bytes)
said_word (Printed (Number z)) = 61 ∷ signed_decimal z
said_word (Printed (Words t)) = quoted t

abbrev pub said_text : Said → List ℕ
said_text s = spaced (said_word s)

-- what it says fits its type
abbrev pub FitsSaid : Said → Type 0
FitsSaid (Taken n) = n < 2 ^ 64
FitsSaid (Steps key count) = (key < 2 ^ 64) × (count < 2 ^ 64)
FitsSaid (Sent f) = FitsFrame f
FitsSaid (Printed line) = FitsLine line

-- it is no text, which alone may have a space in it
abbrev pub IsPlain : Said → Type 0
IsPlain (Printed (Words t)) = ⊥
IsPlain _ = ⊤

-- ---- what words say together

abbrev pub draft_value : Draft → TurnValue
draft_value d = record {
  place = d.place;
  taken = d.taken.items;
  keys = d.keys.items;
  frames = map frame_of d.frames.items;
  lines = map line_as d.lines.items;
}

-- nothing is said yet
abbrev pub nothing_said : ℕ → TurnValue
nothing_said place = record { place = place; taken = []; keys = []; frames = []; lines = [] }

-- with one more word
abbrev pub with_said : TurnValue → Said → TurnValue
with_said t (Taken n) = record t { taken = t.taken ++ n ∷ [] }
with_said t (Steps key count) = record t { keys = t.keys ++ replicate count key }
with_said t (Sent f) = record t { frames = t.frames ++ f ∷ [] }
with_said t (Printed line) = record t { lines = t.lines ++ line ∷ [] }

-- with more words
abbrev pub with_all : TurnValue → List Said → TurnValue
with_all t [] = t
with_all t (s ∷ ss) = with_all (with_said t s) ss

-- no more frames are taken, and no more steps made, than in a turn
pub record AreFew (t : TurnValue) : Type 0 where
  pub taken : length t.taken ≤ MOST_TAKEN
  pub keys : length t.keys ≤ MOST_STEPS

-- a turn that is read further: the same place, and no more than a turn has where it had no more
pub record IsKept (old new : TurnValue) : Type 0 where
  pub place : new.place ≡ old.place
  pub few : AreFew old → AreFew new

-- the log that was read, unless memory ran out
abbrev pub ShowsLog : {X Y : Type 0} → (X → Y) → Result X LogFault → Y → Type 0
ShowsLog view (Ok x) y = view x ≡ y
ShowsLog view (Err fault) y = fault.cause ≡ Memory
