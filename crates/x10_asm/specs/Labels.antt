-- Labels: names of instructions inside a function.
use Rattle.std.specs.Prelude.{ℕ, ◌-◌, Bool, ◌==◌, ◌&&◌, ◌||◌, nat_le, List, length, take, slice_index, Option, find}
use Rattle.std.specs.Str.{bytes_eq}
use Rattle.std.specs.List.{list_all}

abbrev pub is_letter : ℕ → Bool
is_letter c = (nat_le 65 c && nat_le c 90) || (nat_le 97 c && nat_le c 122) || c == 95

abbrev pub is_name_byte : ℕ → Bool
is_name_byte c = is_letter c || (nat_le 48 c && nat_le c 57)

-- 1 to 32 ASCII letters, digits and underscores, no digit first
abbrev pub is_name : List ℕ → Bool
is_name name = is_letter (slice_index name 0) && nat_le
    (length name) 32 && list_all is_name_byte name

-- the last byte is a colon
abbrev pub ends_in_colon : List ℕ → Bool
ends_in_colon word = slice_index word (length word - 1) == 58

-- a label's name, without the colon
abbrev pub label_name : List ℕ → List ℕ
label_name word = take (length word - 1) word

-- a name, the line that defines it, and the index of the next instruction
pub record Label : Type 0 where
  pub name : List ℕ
  pub line : ℕ
  pub index : ℕ

-- the first label of a name
abbrev pub label_of : List Label → List ℕ → Option Label
label_of labels name = find (λ l. bytes_eq l.name name) labels
