-- The table of operations, a row for each: its code, its name, its group, and what its operands name.
use Rattle.std.specs.Prelude.{ℕ, List, [], ◌∷◌, Option, find, codes}
use Rattle.std.specs.Str.{bytes_eq}
use Rattle.x10_code.specs.declared.op.Op.{Op}
use Rattle.x10_code.specs.declared.op.Op.TheVariants as op
use Rattle.x10_code.specs.declared.groups.Group.{Group}
use Rattle.x10_code.specs.declared.groups.Group.TheVariants.{Numbers, Control, Texts, Objects, Rails, Places, Activities, Output}
use Rattle.x10_code.specs.declared.operands.Operand.{Operand}
use Rattle.x10_code.specs.declared.operands.Operand.TheVariants.{Unused, Register, Result, Arguments, Slot, Count, Field, Int, Text, Place, Class}
use Rattle.x10_code.specs.declared.operands.Operand.TheVariants.{Function, Target}
use Rattle.x10_code.specs.declared.operands.Form.{Form}

-- the first byte, the name in text, the group, and what a, b, c and x name
pub record Row : Type 0 where
  pub code : ℕ
  pub name : List ℕ
  pub group : Group
  pub form : Form

abbrev pub form : (a b c x : Operand) → Form
form a b c x = record { a = a; b = b; c = c; x = x }

abbrev pub row : ℕ → List ℕ → Group → (a b c x : Operand) → Row
row code name group a b c x = record {
  code = code;
  name = name;
  group = group;
  form = form a b c x;
}

abbrev pub row_of : Op → Row
row_of op.Intk = row 0x01 (codes "INTK") Numbers Register Unused Unused Int
row_of op.Textk = row 0x02 (codes "TEXTK") Texts Register Unused Unused Text
row_of op.Move = row 0x03 (codes "MOVE") Control Register Register Unused Unused
row_of op.Add = row 0x04 (codes "ADD") Numbers Register Register Register Unused
row_of op.Sub = row 0x05 (codes "SUB") Numbers Register Register Register Unused
row_of op.Mul = row 0x06 (codes "MUL") Numbers Register Register Register Unused
row_of op.Div = row 0x07 (codes "DIV") Numbers Register Register Register Target
row_of op.Rem = row 0x08 (codes "REM") Numbers Register Register Register Target
row_of op.Lt = row 0x09 (codes "LT") Numbers Register Register Register Unused
row_of op.Eq = row 0x0a (codes "EQ") Numbers Register Register Register Unused
row_of op.Jmp = row 0x0b (codes "JMP") Control Unused Unused Unused Target
row_of op.Jz = row 0x0c (codes "JZ") Control Register Unused Unused Target
row_of op.Loop = row 0x0d (codes "LOOP") Control Slot Unused Unused Count
row_of op.Endl = row 0x0e (codes "ENDL") Control Slot Unused Unused Target
row_of op.Print = row 0x0f (codes "PRINT") Output Register Unused Unused Unused
row_of op.Here = row 0x10 (codes "HERE") Places Register Unused Unused Unused
row_of op.Placek = row 0x11 (codes "PLACEK") Places Register Unused Unused Place
row_of op.Placen = row 0x12 (codes "PLACEN") Places Register Register Unused Target
row_of op.Placei = row 0x13 (codes "PLACEI") Places Register Register Unused Unused
row_of op.Nextp = row 0x14 (codes "NEXTP") Places Register Register Unused Unused
row_of op.Count = row 0x15 (codes "COUNT") Places Register Unused Unused Unused
row_of op.Home = row 0x16 (codes "HOME") Places Register Register Unused Unused
row_of op.Gnew = row 0x17 (codes "GNEW") Places Register Register Unused Unused
row_of op.Gopen = row 0x18 (codes "GOPEN") Places Register Register Unused Unused
row_of op.Ifhere = row 0x19 (codes "IFHERE") Places Register Unused Unused Target
row_of op.Ifsame = row 0x1a (codes "IFSAME") Places Register Register Unused Target
row_of op.New = row 0x1b (codes "NEW") Objects Register Arguments Unused Class
row_of op.Get = row 0x1c (codes "GET") Objects Register Register Field Unused
row_of op.Put = row 0x1d (codes "PUT") Objects Register Register Field Unused
row_of op.Null = row 0x1e (codes "NULL") Objects Register Unused Unused Class
row_of op.Ifobj = row 0x1f (codes "IFOBJ") Objects Register Register Unused Target
row_of op.Rail = row 0x20 (codes "RAIL") Rails Register Register Unused Target
row_of op.Rget = row 0x21 (codes "RGET") Rails Register Register Register Target
row_of op.Rset = row 0x22 (codes "RSET") Rails Register Register Register Target
row_of op.Rlen = row 0x23 (codes "RLEN") Rails Register Register Unused Unused
row_of op.Tlen = row 0x24 (codes "TLEN") Texts Register Register Unused Unused
row_of op.Tcat = row 0x25 (codes "TCAT") Texts Register Register Register Target
row_of op.Call = row 0x28 (codes "CALL") Control Result Arguments Unused Function
row_of op.Ret = row 0x29 (codes "RET") Control Result Unused Unused Unused
row_of op.Async = row 0x2a (codes "ASYNC") Activities Unused Arguments Unused Function
row_of op.At = row 0x2b (codes "AT") Activities Result Arguments Register Function
row_of op.Ata = row 0x2c (codes "ATA") Activities Unused Arguments Register Function
row_of op.Finb = row 0x2d (codes "FINB") Activities Unused Unused Unused Unused
row_of op.Fine = row 0x2e (codes "FINE") Activities Unused Unused Unused Unused
row_of op.Atomb = row 0x2f (codes "ATOMB") Activities Unused Unused Unused Unused
row_of op.Atome = row 0x30 (codes "ATOME") Activities Unused Unused Unused Unused

abbrev pub code_of : Op → ℕ
code_of o = (row_of o).code

abbrev pub name_of : Op → List ℕ
name_of o = (row_of o).name

abbrev pub group_of : Op → Group
group_of o = (row_of o).group

abbrev pub form_of : Op → Form
form_of o = (row_of o).form

-- every operation, by rising code
abbrev pub operations : List Op
operations = op.Intk ∷ op.Textk ∷ op.Move ∷ op.Add ∷ op.Sub ∷ op.Mul ∷ op.Div ∷ op.Rem ∷ op.Lt
    ∷ op.Eq ∷ op.Jmp ∷ op.Jz ∷ op.Loop ∷
    op.Endl ∷ op.Print ∷ op.Here ∷ op.Placek ∷ op.Placen ∷ op.Placei ∷ op.Nextp ∷ op.Count ∷ op.Home
    ∷ op.Gnew ∷ op.Gopen ∷ op.Ifhere ∷
    op.Ifsame ∷ op.New ∷ op.Get ∷ op.Put ∷ op.Null ∷ op.Ifobj ∷ op.Rail ∷ op.Rget ∷ op.Rset
    ∷ op.Rlen ∷ op.Tlen ∷ op.Tcat ∷ op.Call ∷
    op.Ret ∷ op.Async ∷ op.At ∷ op.Ata ∷ op.Finb ∷ op.Fine ∷ op.Atomb ∷ op.Atome ∷ []

-- the operation with a name
abbrev pub op_of_name : List ℕ → Option Op
op_of_name text = find (λ o. bytes_eq (name_of o) text) operations
