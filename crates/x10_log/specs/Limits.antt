-- Which logs a text may say.
use Rattle.std.specs.Prelude.{ℕ, ◌≡◌, ◌<◌, ◌≤◌, ◌^◌, length, FitsSigned}
use Rattle.std.specs.Int.{w64}
use Rattle.std.specs.List.{AllByRecursion}
use Rattle.std.specs.Str.{IsUtf8}
use Rattle.hex.specs.Hex.{IsBytes}
use Rattle.x10_model.specs.Places as machine
use Rattle.x10_model.specs.Places.{Number, Words}
use Rattle.x10_model.specs.declared.limits.TheConstants.{MOST_PLACES}
use Rattle.x10_hall.specs.Halls.{PostedFrame}
use Rattle.x10_hall.specs.declared.limits.TheConstants.{MOST_TAKEN, MOST_STEPS}
use Rattle.x10_log.specs.Logs.{TurnValue, LogValue}

-- the turn is one of a run with so many places: at most 16 frames taken and 64 steps
pub record IsWithin (places : ℕ) (t : TurnValue) : Type 0 where
  pub place : t.place < places
  pub taken : length t.taken ≤ MOST_TAKEN
  pub keys : length t.keys ≤ MOST_STEPS

-- there are 1 to 64 places, and each turn is one of theirs
pub record IsLimited (l : LogValue) : Type 0 where
  pub some : 0 < l.places
  pub few : l.places ≤ MOST_PLACES
  pub turns : AllByRecursion (IsWithin l.places) l.turns

-- the frame's place and bytes fit their types
pub record FitsFrame (f : PostedFrame) : Type 0 where
  pub to : f.to < 2 ^ 16
  pub bytes : IsBytes f.bytes

abbrev pub FitsLine : machine.Line → Type 0
FitsLine (Number z) = FitsSigned w64 z
FitsLine (Words t) = IsUtf8 t

-- all that the turn says fits its type
pub record FitsTurn (t : TurnValue) : Type 0 where
  pub taken : AllByRecursion (λ n. n < 2 ^ 64) t.taken
  pub keys : AllByRecursion (λ n. n < 2 ^ 64) t.keys
  pub frames : AllByRecursion FitsFrame t.frames
  pub lines : AllByRecursion FitsLine t.lines

-- all that the log says fits its type
pub record FitsLog (l : LogValue) : Type 0 where
  pub digest : IsBytes l.digest
  pub length : length l.digest ≡ 32
  pub turns : AllByRecursion FitsTurn l.turns
