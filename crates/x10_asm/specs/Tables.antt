-- A table of labels, by their names.
use Rattle.std.specs.Prelude.{◌≡◌, ℕ, ◌+◌, ◌*◌, List, slice_index}
use Rattle.std.specs.Option.{option_map}
use Rattle.std.specs.BTreeMap.{BTreeMap, get_by}
use Rattle.std.specs.Ordering.{nat_cmp, ordering_then}
use Rattle.std.specs.declared.cmp.Ordering.{Ordering}
use Rattle.std.specs.Cmp.Lexicographic.{slice_cmp}
use Rattle.std.specs.Borrow.{Bor}
use Rattle.x10_asm.specs.declared.label.Definition.{Definition}
use Rattle.x10_asm.specs.Labels.{Label, label_of}

abbrev pub definition_of : Label → Definition
definition_of l = record { line = l.line; index = l.index }

-- four bytes as a number, the first of them the highest; a byte behind the end is 0
abbrev pub quad : List ℕ → ℕ → ℕ
quad bytes at = 16777216 * slice_index bytes at + 65536 * slice_index bytes
    (at + 1) + 256 * slice_index bytes (at + 2) + slice_index bytes (at + 3)

-- the first eight bytes of a name as a number
unfoldable pub front : List ℕ → ℕ
front name = 4294967296 * quad name 0 + quad name 4

-- what stands before a key: the front of a name, and where that is the same, the name
abbrev pub key_cmp : List ℕ → ℕ × Bor (List ℕ) → Ordering
key_cmp name k = ordering_then (nat_cmp (front name) k.0) (slice_cmp nat_cmp name k.1.now)

abbrev pub Table : Type 0
Table = BTreeMap (ℕ × Bor (List ℕ)) Definition

-- each name has the definition of its first label
abbrev pub IsTable : Table → List Label → Type 0
IsTable table labels = (name : List ℕ) → get_by (key_cmp name) table
    ≡ option_map definition_of (label_of labels name)
