-- The laws of the eight bytes and of the table.
use Rattle.std.specs.Prelude.{◌≡◌, ℕ, ◌<◌, List, length, Ok, slice_index, Contains}
use Rattle.x10_code.specs.declared.op.Op.{Op}
use Rattle.x10_code.specs.declared.instr.Instr.{Instr}
use Rattle.x10_code.specs.Table.{operations, code_of, name_of}
use Rattle.x10_code.specs.Spelling.{IsInstr, spelling, decoded}

-- what is spelled is decoded
abbrev pub SpelledIsDecoded : Type 0
SpelledIsDecoded = (i : Instr) → IsInstr i → decoded (spelling i) ≡ Ok i

-- what is decoded was spelled so
abbrev pub DecodedWasSpelled : Type 0
DecodedWasSpelled = (bytes : List ℕ) (i : Instr) → length bytes ≡ 8
    → ((k : ℕ) → slice_index bytes k < 256) → decoded bytes ≡ Ok i
    → IsInstr i × (bytes ≡ spelling i)

-- no two operations share a code
abbrev pub CodesDiffer : Type 0
CodesDiffer = (o p : Op) → code_of o ≡ code_of p → o ≡ p

-- no two operations share a name
abbrev pub NamesDiffer : Type 0
NamesDiffer = (o p : Op) → name_of o ≡ name_of p → o ≡ p

-- every operation stands in the list of operations
abbrev pub AllAreListed : Type 0
AllAreListed = (o : Op) → Contains operations o
