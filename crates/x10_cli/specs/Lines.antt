-- Lines that the program prints.
use Rattle.json.specs.Print.{quoted}
use Rattle.std.specs.Prelude.{◌≡◌, ℕ, ◌≤◌, ◌+◌, Bool, true, false, List, [], ◌∷◌, ◌++◌, codes, decimal, drop}
use Rattle.std.specs.List.{flat_map}
use Rattle.std.specs.Fmt.{signed_decimal}
use Rattle.x10_model.specs.Places as machine
use Rattle.x10_model.specs.Places.{Number, Words}

-- a number in decimal, or a text as it is
abbrev pub shown : machine.Line → List ℕ
shown (Number z) = signed_decimal z
shown (Words text) = text

-- a line of a place, behind the place's number
abbrev pub numbered : ℕ → machine.Line → List ℕ
numbered place line = decimal place ++ (codes ": " ++ (shown line ++ 10 ∷ []))

-- a line that ends with a line feed, in which a place and what is behind it are from `start` to `end`
pub record HasFront (place : ℕ) (line : List ℕ) (start end : ℕ) : Type 0 where
  pub before : start ≤ end
  pub room : 22 ≤ end
  pub within : end ≤ 42
  pub front : drop start line ≡ decimal place ++ (codes ": " ++ drop end line)
  pub last : drop 42 line ≡ 10 ∷ []

-- a line of a place as a JSON object, with the number or the text as a member
abbrev pub object_line : ℕ → machine.Line → List ℕ
object_line place (Number z) = codes "{\"place\":"
    ++ (decimal place ++ (codes ",\"number\":" ++ (signed_decimal z ++ codes "}\n")))
object_line place (Words text) = codes "{\"place\":"
    ++ (decimal place ++ (codes ",\"text\":" ++ (quoted text ++ codes "}\n")))

-- a line of a place: as JSON, or for people
abbrev pub line_in : Bool → ℕ → machine.Line → List ℕ
line_in true place line = object_line place line
line_in false place line = numbered place line

abbrev pub place_lines : Bool → ℕ → List machine.Line → List ℕ
place_lines json place lines = flat_map (line_in json place) lines

-- the lines of each place, from a number on
abbrev pub all_lines : Bool → ℕ → List (List machine.Line) → List ℕ
all_lines json place [] = []
all_lines json place (lines ∷ rest) = place_lines json place lines
    ++ all_lines json (place + 1) rest

-- a function's number and its bound
abbrev pub bound_line : ℕ → ℕ → List ℕ
bound_line function bound = decimal function ++ (codes " " ++ (decimal bound ++ 10 ∷ []))

-- the bounds of functions, from a number on
abbrev pub bound_lines : ℕ → List ℕ → List ℕ
bound_lines function [] = []
bound_lines function (bound ∷ rest) = bound_line function bound ++ bound_lines (function + 1) rest
