-- What a log says, and the one text that spells it.
use Rattle.std.specs.Prelude.{ℕ, ◌+◌, ◌==◌, List, [], ◌∷◌, ◌++◌, map, if◌then◌else◌, codes, decimal}
use Rattle.std.specs.Fmt.{signed_decimal}
use Rattle.std.specs.List.{flat_map}
use Rattle.hex.specs.Hex.{encode_lower}
use Rattle.x10_model.specs.Places as machine
use Rattle.x10_model.specs.Places.{Number, Words}
use Rattle.x10_asm.specs.Listing.{spaced, quoted}
use Rattle.x10_place.specs.StandsFor.{line_as}
use Rattle.x10_hall.specs.Halls.{PostedFrame, frame_of}
use Rattle.x10_hall.specs.declared.turn.Turn.{Turn}
use Rattle.x10_log.specs.declared.log.Log.{Log}

-- what a turn says: its place, the numbers of the frames that were taken in, the key of each
-- step, the frames that were put out, and the lines that were printed
pub record TurnValue : Type 0 where
  pub place : ℕ
  pub taken : List ℕ
  pub keys : List ℕ
  pub frames : List PostedFrame
  pub lines : List machine.Line

-- what a log says: the digest of the image, how many places there are, and the turns
pub record LogValue : Type 0 where
  pub digest : List ℕ
  pub places : ℕ
  pub turns : List TurnValue

abbrev pub turn_value : Turn → TurnValue
turn_value t = record {
  place = t.place;
  taken = t.taken.items;
  keys = t.keys;
  frames = map frame_of t.frames.items;
  lines = map line_as t.lines.items;
}

abbrev pub value_of : List ℕ → ℕ → List Turn → LogValue
value_of digest places turns = record {
  digest = digest;
  places = places;
  turns = map turn_value turns;
}

abbrev pub log_value : Log → LogValue
log_value l = value_of l.digest l.places l.turns.items

-- ---- the keys of steps

-- one key, so often
pub record Run : Type 0 where
  pub key : ℕ
  pub count : ℕ

-- the longest runs of equal keys, where a run comes before the first of them
abbrev pub runs_from : ℕ → ℕ → List ℕ → List Run
runs_from key count [] = (record { key = key; count = count }) ∷ []
runs_from key count (k ∷ ks) = if k == key then runs_from key (count + 1) ks else
    (record { key = key; count = count }) ∷ runs_from k 1 ks

-- the longest runs of equal keys
abbrev pub runs : List ℕ → List Run
runs [] = []
runs (k ∷ ks) = runs_from k 1 ks

-- ---- a turn's line: its place, and words with a space before each

-- a frame that was taken in, by its number
abbrev pub taken_word : ℕ → List ℕ
taken_word n = spaced (60 ∷ decimal n)

-- how often, where that is more than once
abbrev pub times : ℕ → List ℕ
times count = if count == 1 then [] else 42 ∷ decimal count

-- the steps of a run
abbrev pub run_word : Run → List ℕ
run_word r = spaced (decimal r.key ++ times r.count)

-- a frame that was put out: the place that it goes to, and its bytes
abbrev pub frame_word : PostedFrame → List ℕ
frame_word f = spaced (62 ∷ (decimal f.to ++ 58 ∷ encode_lower f.bytes))

-- a line that was printed
abbrev pub line_word : machine.Line → List ℕ
line_word (Number z) = spaced (61 ∷ signed_decimal z)
line_word (Words t) = spaced (quoted t)

-- a turn's line, without the line feed
unfoldable pub turn_line : TurnValue → List ℕ
turn_line t = decimal t.place
    ++ (flat_map taken_word t.taken
    ++ (flat_map run_word (runs t.keys)
    ++ (flat_map frame_word t.frames ++ flat_map line_word t.lines)))

-- ---- the text

-- the first three lines
abbrev pub head_lines : List ℕ → ℕ → List ℕ
head_lines digest places = codes "x10 log 1\nimage "
    ++ (encode_lower digest ++ (codes "\nplaces " ++ (decimal places ++ 10 ∷ [])))

abbrev pub ended_line : TurnValue → List ℕ
ended_line t = turn_line t ++ 10 ∷ []

-- the text of a log
unfoldable pub spelled : LogValue → List ℕ
spelled l = head_lines l.digest l.places ++ flat_map ended_line l.turns
