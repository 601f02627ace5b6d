-- Examples of what is refused: one wrong move and one misfit of each cause; and what arrives with its sharing kept.
use Rattle.std.specs.Prelude.{ℕ, pos, false, List, [], ◌∷◌, Some, None}
use Rattle.x10_kinds.specs.declared.kind.Kind.TheVariants as kind
use Rattle.x10_code.specs.declared.op.Op.TheVariants as op
use Rattle.x10_code.specs.declared.instr.Instr.{Instr}
use Rattle.x10_model.specs.Maps.{with_entry}
use Rattle.x10_model.specs.declared.slot.Slot.{Slot}
use Rattle.x10_model.specs.declared.version.ImageVersion.TheVariants.{One}
use Rattle.x10_model.specs.Modules.{Module, Function}
use Rattle.x10_model.specs.Values.{Value, Int, Object, Null, Ref, Fields, Cells}
use Rattle.x10_model.specs.Copies.{Node, Snapshot, Arrives}
use Rattle.x10_model.specs.Places as places
use Rattle.x10_model.specs.Places.{root, CallFrame, Stay, Message, Spawn, Shift, Back, with_stay, goes}
use Rattle.x10_model.specs.Wrong.{IsWrong, IsMisfit}
use Rattle.x10_model.specs.Examples.{instr, plain_function, on_places, one_frame, one_stay, one_place, holding, no_cells}

-- ---- moves

abbrev pub a_number : Slot
a_number = record { kind = kind.Int; home_here = false }

-- takes a number
abbrev pub taker : Function
taker = record {
  parameters = a_number ∷ [];
  registers = 1;
  loops = 0;
  result = None;
  code = instr op.Ret 0 0 0 0 ∷ [];
}

-- gives a number
abbrev pub giver : Function
giver = record {
  parameters = [];
  registers = 1;
  loops = 0;
  result = Some a_number;
  code = instr op.Ret 0 0 0 0 ∷ [];
}

-- function 0 has one instruction; class 0 has one field, a number
abbrev pub trying : Instr → Module
trying i = record {
  version = One;
  least_places = 1;
  classes = (kind.Int ∷ []) ∷ [];
  ints = [];
  texts = [];
  functions = plain_function 8 1 (i ∷ []) ∷ taker ∷ giver ∷ [];
  entry = 0;
}

-- an object of the class
abbrev pub an_object : Cells
an_object = with_entry no_cells 5 (Some (Fields 0 (Int (pos 3) ∷ [])))

-- the instruction goes wrong, where the first registers hold these values
abbrev pub IsWrongWith : Instr → List Value → Type 0
IsWrongWith i values = IsWrong (on_places 2 (trying i)) 0
    (one_place an_object (one_frame (holding values))) 4

-- a stay at an instruction of a function goes wrong
abbrev pub IsWrongIn : Instr → Stay → Type 0
IsWrongIn i stay = IsWrong (on_places 2 (trying i)) 0
    (with_stay (one_place no_cells stay.top) 4 (Some stay)) 4

abbrev pub at_zero : CallFrame
at_zero = one_frame (holding [])

pub record EachMoveGoesWrong : Type 0 where
  -- of a stay behind the last instruction
  pub no_instruction : IsWrongIn (instr op.Fine 0 0 0 0) (one_stay (goes at_zero 1))
  -- register 9 of 8
  pub out_of_range : IsWrongWith (instr op.Add 9 0 1 0) (Int (pos 1) ∷ Int (pos 2) ∷ [])
  -- the length of null
  pub operand : IsWrongWith (instr op.Tlen 1 0 0 0) (Null ∷ [])
  -- a call with a register that holds nothing
  pub argument : IsWrongWith (instr op.Call 0 0 0 1) []
  pub result_dropped : IsWrongWith (instr op.Async 0 0 0 2) []
  -- null for a number
  pub new_field : IsWrongWith (instr op.New 1 0 0 0) (Null ∷ [])
  pub put_field : IsWrongWith (instr op.Put 0 1 0 0) (Object 5 ∷ Null ∷ [])
  -- field 5 of one
  pub no_field : IsWrongWith (instr op.Get 1 0 5 0) (Object 5 ∷ [])
  -- a reference whose home is place 1, at place 0
  pub away : IsWrongWith (instr op.Gopen 1 0 0 0) (Ref 1 0 0 ∷ [])
  -- where nothing was exported
  pub no_export : IsWrongWith (instr op.Gopen 1 0 0 0) (Ref 0 0 0 ∷ [])
  -- the function that gives a number, with a register that holds nothing
  pub result : IsWrongIn (instr op.Fine 0 0 0 0) (one_stay (record at_zero { function = 2 }))
  pub finish_open : IsWrongIn (instr op.Ret 0 0 0 0)
      (record (one_stay at_zero) { finishes = 1 ∷ [] })
  -- to a caller that stands at a RET
  pub no_call : IsWrongIn (instr op.Ret 0 0 0 0)
      (record (one_stay at_zero) { callers = at_zero ∷ [] })
  pub no_finish : IsWrongIn (instr op.Fine 0 0 0 0) (one_stay at_zero)

-- ---- messages

abbrev pub nothing : Snapshot
nothing = record { roots = []; rails = []; nodes = [] }

abbrev pub node : ℕ → Node
node class = record { class = class; fields = [] }

-- a place where nobody is
abbrev pub empty : places.Place
empty = record { cells = no_cells; exports = []; stays = λ k. None; opened = 1; lines = [] }

-- the message is a misfit at place 0, where nobody is
abbrev pub IsMisfitHere : Message → Type 0
IsMisfitHere message = IsMisfit (on_places 2 (trying (instr op.Ret 0 0 0 0))) 0 empty message

pub record EachMessageMisfits : Type 0 where
  -- for place 1
  pub not_here : IsMisfitHere (Spawn 1 1 root 0 nothing)
  -- an object of a class that isn't there
  pub graph : IsMisfitHere (Spawn 1 0 root 0
      (record nothing { roots = Object 0 ∷ []; nodes = node 7 ∷ [] }))
  -- an object that nothing reaches
  pub torn : IsMisfitHere (Spawn 1 0 root 0 (record nothing { nodes = node 0 ∷ [] }))
  -- no argument for the function that takes one
  pub spawn : IsMisfitHere (Spawn 1 0 root 1 nothing)
  -- a function that isn't there
  pub shift : IsMisfitHere (Shift 1 0 0 root 9 nothing)
  -- nobody waits
  pub back : IsMisfitHere (Back 1 0 0 nothing)

-- ---- arrivals

-- one object, passed twice
abbrev pub shared : Snapshot
shared = record nothing { roots = Object 0 ∷ Object 0 ∷ []; nodes = node 0 ∷ [] }

-- it is one object where it arrives too
abbrev pub SharedArrives : Type 0
SharedArrives = Arrives no_cells shared (Object 5 ∷ Object 5 ∷ [])
    (with_entry no_cells 5 (Some (Fields 0 [])))
