-- Worked examples of the definitions. Each is a law that the check computes.
use Rattle.std.specs.Prelude.{◌≡◌, ℕ, ℤ, pos, negsuc, Bool, true, false, List, [], ◌∷◌, Option, Some, None, Ok, Err, slice_get, slice_index}
use Rattle.x10_code.specs.declared.op.Op.{Op}
use Rattle.x10_code.specs.declared.op.Op.TheVariants as op
use Rattle.x10_code.specs.declared.instr.Instr.{Instr}
use Rattle.x10_model.specs.declared.event.Event.TheVariants.{Step}
use Rattle.x10_model.specs.Maps.{with_entry}
use Rattle.x10_model.specs.declared.version.ImageVersion.TheVariants.{One}
use Rattle.x10_model.specs.Modules.{Module, Function}
use Rattle.x10_model.specs.Structure.{Jump, TooLarge, bounds_of}
use Rattle.x10_model.specs.Values.{Value, Int, Place, Text, Rail, Object, Null, Fields, Bytes, Cells}
use Rattle.x10_model.specs.Copies.{Snapshot, IsCopy}
use Rattle.x10_model.specs.Places as places
use Rattle.x10_model.specs.Places.{Setting, root, CallFrame, Stay, Line, Number, Words, Message, Effect, Works, Opens, with_stay, writes, next}
use Rattle.x10_model.specs.Moves.{Moves, with_cell, with_line}
use Rattle.x10_model.specs.Worlds.{Ideal, World, Run, WithinBounds, opening}
use Rattle.x10_model.specs.Totals.{Entry, Cut, Report, zeros, merged, seen_from, is_balanced}

-- ---- modules

abbrev pub instr : Op → ℕ → ℕ → ℕ → ℕ → Instr
instr o a b c x = record { op = o; a = a; b = b; c = c; x = x }

-- a function without parameters and result
abbrev pub plain_function : ℕ → ℕ → List Instr → Function
plain_function registers loops code = record {
  parameters = [];
  registers = registers;
  loops = loops;
  result = None;
  code = code;
}

-- a module of one such function
abbrev pub plain_module : List ℤ → Function → Module
plain_module ints f = record {
  version = One;
  least_places = 1;
  classes = [];
  ints = ints;
  texts = [];
  functions = f ∷ [];
  entry = 0;
}

-- prints 7
abbrev pub seven : Module
seven = plain_module (pos 7 ∷ []) (plain_function 1 0
    (instr op.Intk 0 0 0 0 ∷ instr op.Print 0 0 0 0 ∷ instr op.Ret 0 0 0 0 ∷ []))

-- doubles 1 twelve times, in a loop of 4 in a loop of 3
abbrev pub doubling : Module
doubling = plain_module (pos 1 ∷ []) (plain_function 1 2 (
    instr op.Intk 0 0 0 0 ∷ instr op.Loop 0 0 0 3 ∷ instr op.Loop 1 0 0 4 ∷ instr op.Add 0 0 0 0
    ∷ instr op.Endl 1 0 0 3 ∷ instr op.Endl 0 0 0 2
    ∷ instr op.Print 0 0 0 0 ∷ instr op.Ret 0 0 0 0 ∷ []))

abbrev pub DoublingIsBounded : Type 0
DoublingIsBounded = bounds_of doubling ≡ Ok (34 ∷ [])

-- three loops of the greatest length, one in the other
abbrev pub long_loops : Module
long_loops = plain_module [] (plain_function 1 3 (
    instr op.Loop 0 0 0 65535 ∷ instr op.Loop 1 0 0 65535 ∷ instr op.Loop 2 0 0 65535
    ∷ instr op.Endl 2 0 0 3 ∷ instr op.Endl 1 0 0 2 ∷ instr op.Endl 0 0 0 1
    ∷ instr op.Ret 0 0 0 0 ∷ []))

-- with one instruction more in the second loop
abbrev pub longer_loops : Module
longer_loops = plain_module (pos 0 ∷ []) (plain_function 1 3 (
    instr op.Loop 0 0 0 65535 ∷ instr op.Loop 1 0 0 65535 ∷ instr op.Intk 0 0 0 0
    ∷ instr op.Loop 2 0 0 65535 ∷ instr op.Endl 2 0 0 4 ∷ instr op.Endl 1 0 0 2
    ∷ instr op.Endl 0 0 0 1 ∷ instr op.Ret 0 0 0 0 ∷ []))

-- and one more in the first, which passes the greatest bound by one
abbrev pub longest_loops : Module
longest_loops = plain_module (pos 0 ∷ []) (plain_function 1 3 (
    instr op.Loop 0 0 0 65535 ∷ instr op.Intk 0 0 0 0 ∷ instr op.Loop 1 0 0 65535
    ∷ instr op.Intk 0 0 0 0 ∷ instr op.Loop 2 0 0 65535 ∷ instr op.Endl 2 0 0 5
    ∷ instr op.Endl 1 0 0 3 ∷ instr op.Endl 0 0 0 1 ∷ instr op.Ret 0 0 0 0 ∷ []))

pub record LongLoopsAreBounded : Type 0 where
  pub long : bounds_of long_loops ≡ Ok (281470681808897 ∷ [])
  pub longer : bounds_of longer_loops ≡ Ok (281474976645122 ∷ [])
  pub longest : bounds_of longest_loops ≡ Err (record { cause = TooLarge; function = 0; pc = 0 })

-- a jump into a loop, out of a finish, and backward
abbrev pub jumping : List Instr → Module
jumping code = plain_module [] (plain_function 1 1 code)

pub record JumpsAreRefused : Type 0 where
  pub into_a_loop : bounds_of (jumping (instr op.Jmp 0 0 0 2 ∷ instr op.Loop 0 0 0 2
      ∷ instr op.Endl 0 0 0 2 ∷ instr op.Ret 0 0 0 0 ∷ []))
      ≡ Err (record { cause = Jump; function = 0; pc = 0 })
  pub out_of_a_finish : bounds_of (jumping
      (instr op.Finb 0 0 0 0 ∷ instr op.Jmp 0 0 0 3 ∷ instr op.Fine 0 0 0 0 ∷ instr op.Ret 0 0 0 0
      ∷ []))
      ≡ Err (record { cause = Jump; function = 0; pc = 1 })
  pub backward : bounds_of (jumping (instr op.Here 0 0 0 0 ∷ instr op.Jmp 0 0 0 0
      ∷ instr op.Ret 0 0 0 0 ∷ []))
      ≡ Err (record { cause = Jump; function = 0; pc = 1 })

-- ---- moves, one of each group

-- a place with one activity, with the key 4, in a function of one instruction under the root finish
abbrev pub one_frame : (ℕ → Option Value) → CallFrame
one_frame registers = record { function = 0; pc = 0; registers = registers; loops = λ n. 0 }

abbrev pub one_stay : CallFrame → Stay
one_stay top = record {
  top = top;
  callers = [];
  finishes = [];
  inherited = root;
  away = false;
  inside = false;
  back = None;
}

abbrev pub one_place : Cells → CallFrame → places.Place
one_place cells top = record {
  cells = cells;
  exports = [];
  stays = with_entry (λ k. None) 4 (Some (one_stay top));
  opened = 1;
  lines = [];
}

abbrev pub on_places : ℕ → Module → Setting
on_places n m = record { program = m; places = n }

abbrev pub one_instr : Instr → Module
one_instr i = plain_module (pos 7 ∷ []) (plain_function 8 1 (i ∷ []))

-- registers 0, 1, .. in order
abbrev pub holding : List Value → ℕ → Option Value
holding values = slice_get values

abbrev pub no_cells : Cells
no_cells r = None

abbrev pub after : places.Place → CallFrame → places.Place
after place top = with_stay place 4 (Some (one_stay top))

-- numbers: the greatest number and 1 wrap to the least
abbrev pub AddWraps : Type 0
AddWraps =
    let frame = one_frame (holding (Int (pos 9223372036854775807) ∷ Int (pos 1) ∷ [])) in
    let place = one_place no_cells frame in
    Moves (on_places 1 (one_instr (instr op.Add 2 0 1 0))) 0 place 4
    (after place (writes frame 2 (Int (negsuc 9223372036854775807)))) Works

-- control: a loop sets its slot
abbrev pub LoopSetsItsSlot : Type 0
LoopSetsItsSlot =
    let frame = one_frame (holding []) in
    let place = one_place no_cells frame in
    Moves (on_places 1 (one_instr (instr op.Loop 0 0 0 3))) 0 place 4
    (after place (record frame { pc = 1; loops = with_entry (λ n. 0) 0 3 })) Works

-- text: two texts are joined
abbrev pub TextsAreJoined : Type 0
TextsAreJoined =
    let frame = one_frame (holding (Text (72 ∷ []) ∷ Text (105 ∷ []) ∷ [])) in
    let place = one_place no_cells frame in
    Moves (on_places 1 (one_instr (instr op.Tcat 2 0 1 0))) 0 place 4
    (after place (writes frame 2 (Text (72 ∷ 105 ∷ [])))) Works

-- objects: a field is read
abbrev pub FieldIsRead : Type 0
FieldIsRead =
    let frame = one_frame (holding (Object 5 ∷ [])) in
    let place = one_place (with_entry no_cells 5 (Some (Fields 0 (Int (pos 3) ∷ Null ∷ []))))
    frame in
    Moves (on_places 1 (one_instr (instr op.Get 1 0 1 0))) 0 place 4
    (after place (writes frame 1 Null)) Works

-- rails: a byte takes a number's lowest eight bits
abbrev pub ByteIsSet : Type 0
ByteIsSet =
    let frame = one_frame (holding (Rail 5 ∷ Int (pos 1) ∷ Int (negsuc 0) ∷ [])) in
    let place = one_place (with_entry no_cells 5 (Some (Bytes (0 ∷ 0 ∷ [])))) frame in
    Moves (on_places 1 (one_instr (instr op.Rset 0 1 2 0))) 0 place 4
    (after (with_cell place 5 (Bytes (0 ∷ 255 ∷ []))) (next frame)) Works

-- places: the place after the last is the first
abbrev pub PlacesGoRound : Type 0
PlacesGoRound =
    let frame = one_frame (holding (Place 2 ∷ [])) in
    let place = one_place no_cells frame in
    Moves (on_places 3 (one_instr (instr op.Nextp 1 0 0 0))) 0 place 4
    (after place (writes frame 1 (Place 0))) Works

-- activities: the next finish of place 0 is opened inside the root
abbrev pub FinishIsOpened : Type 0
FinishIsOpened =
    let frame = one_frame (holding []) in
    let place = one_place no_cells frame in
    Moves (on_places 1 (one_instr (instr op.Finb 0 0 0 0))) 0 place 4
    (with_stay (record place { opened = 2 }) 4
    (Some (record (one_stay (next frame)) { finishes = 1 ∷ [] }))) (Opens 1 root)

-- output: a number is a line
abbrev pub NumberIsPrinted : Type 0
NumberIsPrinted =
    let frame = one_frame (holding (Int (pos 7) ∷ [])) in
    let place = one_place no_cells frame in
    Moves (on_places 1 (one_instr (instr op.Print 0 0 0 0))) 0 place 4
    (after (with_line place (Number (pos 7))) (next frame)) Works

pub record EachGroupMoves : Type 0 where
  pub numbers : AddWraps
  pub control : LoopSetsItsSlot
  pub text : TextsAreJoined
  pub objects : FieldIsRead
  pub rails : ByteIsSet
  pub places : PlacesGoRound
  pub activities : FinishIsOpened
  pub output : NumberIsPrinted

-- ---- a run

-- the end of that run: a line, and nobody left
abbrev pub IsAtEnd : World → Type 0
IsAtEnd w = (place : places.Place) × (w.net.places 0 ≡ Some place)
    × (place.lines ≡ Number (pos 7) ∷ []) × (place.stays 0 ≡ None)

-- main's three steps, from the opening to a world whose place 0 has printed 7 and has no activity
abbrev pub SevenRuns : Type 0
SevenRuns = (w : World) × Run Ideal (on_places 1 seven) (WithinBounds (3 ∷ []))
    (opening (on_places 1 seven) 0) (Step 0 0 ∷ Step 0 0 ∷ Step 0 0 ∷ []) w
    × IsAtEnd w

-- ---- copies

-- two objects that name each other and share a rail
abbrev pub pair_of_objects : Cells
pair_of_objects = with_entry (with_entry
    (with_entry no_cells 3 (Some (Fields 0 (Object 5 ∷ Rail 8 ∷ [])))) 5
    (Some (Fields 0 (Object 3 ∷ Rail 8 ∷ [])))) 8
    (Some (Bytes (0 ∷ 0 ∷ [])))

abbrev pub pair_snapshot : Snapshot
pair_snapshot = record {
  roots = Object 0 ∷ [];
  rails = (0 ∷ 0 ∷ []) ∷ [];
  nodes = record { class = 0; fields = Object 1 ∷ Rail 0 ∷ [] }
      ∷ record { class = 0; fields = Object 0 ∷ Rail 0 ∷ [] } ∷ [];
}

abbrev pub CycleIsCopied : Type 0
CycleIsCopied = IsCopy pair_of_objects (Object 3 ∷ []) pair_snapshot
    (record { objects = 3 ∷ 5 ∷ []; rails = 8 ∷ [] })

-- ---- reports

-- a finish of home 0, which sent one activity to place 1 and one to place 2
abbrev pub home_entry : Entry
home_entry = record { sent = slice_index (0 ∷ 1 ∷ 1 ∷ []); received = λ p. 0 }

abbrev pub report : ℕ → List ℕ → List ℕ → Report
report place sent received = record { place = place; number = 1; sent = sent; received = received }

-- place 1 began one activity; place 2 began one, which sent one to place 1; that one has ended too
abbrev pub first_report : Report
first_report = report 1 (0 ∷ 0 ∷ 0 ∷ []) (1 ∷ 0 ∷ 0 ∷ [])

abbrev pub second_report : Report
second_report = report 2 (0 ∷ 1 ∷ 0 ∷ []) (1 ∷ 0 ∷ 0 ∷ [])

abbrev pub third_report : Report
third_report = report 1 (0 ∷ 0 ∷ 0 ∷ []) (1 ∷ 0 ∷ 1 ∷ [])

abbrev pub kept_after : List Report → Cut
kept_after [] = λ p. zeros
kept_after (r ∷ rs) = merged (kept_after rs) r

abbrev pub balances : List Report → Bool
balances rs = is_balanced 3 (seen_from 0 home_entry (kept_after rs))

-- the reports in three orders, the last first: an older report changes nothing, and all three are needed in any order
pub record ReportsBalance : Type 0 where
  pub third : balances (third_report ∷ []) ≡ false
  pub third_first : balances (first_report ∷ third_report ∷ []) ≡ false
  pub all_three : balances (second_report ∷ first_report ∷ third_report ∷ []) ≡ true
  pub second : balances (second_report ∷ []) ≡ false
  pub second_third : balances (third_report ∷ second_report ∷ []) ≡ true
  pub stale : balances (first_report ∷ third_report ∷ second_report ∷ []) ≡ true
  pub first_second : balances (second_report ∷ first_report ∷ []) ≡ false
