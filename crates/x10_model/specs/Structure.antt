-- How loops, finishes and atomic regions nest, where jumps may go, and how many steps a function may take.
use Rattle.std.specs.Prelude.{ℕ, zero, suc, ◌+◌, ◌-◌, ◌*◌, ◌^◌, Bool, true, false, ◌==◌, ◌&&◌, ◌||◌, not, nat_lt, nat_le, List, [], ◌∷◌, ◌++◌}
use Rattle.std.specs.Prelude.{length, Option, Some, None, Result, Ok, Err, if◌then◌else◌, slice_get, slice_index}
use Rattle.x10_model.specs.declared.limits.TheConstants.{MOST_TURNS}
use Rattle.x10_code.specs.declared.op.Op.{Op}
use Rattle.x10_code.specs.declared.op.Op.TheVariants as op
use Rattle.x10_code.specs.declared.instr.Instr.{Instr}
use Rattle.x10_code.specs.declared.operands.Operand.{Operand}
use Rattle.x10_code.specs.declared.operands.Operand.TheVariants as operand
use Rattle.x10_code.specs.Table.{form_of}
use Rattle.x10_model.specs.Modules.{Module, Function}

-- what an instruction stands in: a loop, by the number of its LOOP and how often it turns, a finish, by its FINB, or an
-- atomic region, by its ATOMB
pub data Region : Type 0 where
  Turning : (opener limit : ℕ) → Region
  Waiting : (opener : ℕ) → Region
  Atomic : (opener : ℕ) → Region

abbrev pub opener_of : Region → ℕ
opener_of (Turning opener limit) = opener
opener_of (Waiting opener) = opener
opener_of (Atomic opener) = opener

abbrev pub outside : List Region → List Region
outside [] = []
outside (r ∷ rs) = rs

-- the regions after an instruction: an opener stands outside its region, a closer inside
abbrev pub regions_after : Op → ℕ → Instr → List Region → List Region
regions_after op.Loop pc i rs = Turning pc i.x ∷ rs
regions_after op.Finb pc i rs = Waiting pc ∷ rs
regions_after op.Atomb pc i rs = Atomic pc ∷ rs
regions_after op.Endl pc i rs = outside rs
regions_after op.Fine pc i rs = outside rs
regions_after op.Atome pc i rs = outside rs
regions_after _ pc i rs = rs

abbrev pub passed : Option Instr → ℕ → List Region → List Region
passed None pc rs = rs
passed (Some i) pc rs = regions_after i.op pc i rs

-- the regions that an instruction stands in, the innermost first
abbrev pub around : List Instr → ℕ → List Region
around code zero = []
around code (suc pc) = passed (slice_get code pc) pc (around code pc)

-- ---- nesting

abbrev pub is_loop : Region → Bool
is_loop (Turning opener limit) = true
is_loop (Waiting opener) = false
is_loop (Atomic opener) = false

abbrev pub is_finish : Region → Bool
is_finish (Turning opener limit) = false
is_finish (Waiting opener) = true
is_finish (Atomic opener) = false

abbrev pub is_atomic : Region → Bool
is_atomic (Turning opener limit) = false
is_atomic (Waiting opener) = false
is_atomic (Atomic opener) = true

abbrev pub are_loops : List Region → Bool
are_loops [] = true
are_loops (r ∷ rs) = is_loop r && are_loops rs

abbrev pub is_in_loop : List Region → Bool
is_in_loop [] = false
is_in_loop (r ∷ rs) = is_loop r

abbrev pub is_in_finish : List Region → Bool
is_in_finish [] = false
is_in_finish (r ∷ rs) = is_finish r

-- the innermost of the regions is an atomic one
abbrev pub ends_atomic : List Region → Bool
ends_atomic [] = false
ends_atomic (r ∷ rs) = is_atomic r

-- one of the regions is an atomic one
abbrev pub is_in_atomic : List Region → Bool
is_in_atomic [] = false
is_in_atomic (r ∷ rs) = is_atomic r || is_in_atomic rs

-- a closer closes the innermost region, and no function ends inside a finish or an atomic region
abbrev pub nests : Op → List Region → Bool
nests op.Endl rs = is_in_loop rs
nests op.Fine rs = is_in_finish rs
nests op.Atome rs = ends_atomic rs
nests op.Ret rs = are_loops rs
nests _ rs = true

-- ---- jumps

abbrev pub is_target : Operand → Bool
is_target operand.Target = true
is_target _ = false

abbrev pub same_openers : List Region → List Region → Bool
same_openers [] [] = true
same_openers (r ∷ rs) (t ∷ ts) = (opener_of r == opener_of t) && same_openers rs ts
same_openers _ _ = false

-- from inside some regions to inside others by leaving loops alone
abbrev pub leaves_loops : List Region → List Region → Bool
leaves_loops [] target = same_openers [] target
leaves_loops (r ∷ rs) target = same_openers (r ∷ rs) target || (is_loop r && leaves_loops rs target)

-- forward, inside the function, and out of loops alone
abbrev pub jumps_forward : List Instr → ℕ → ℕ → Bool
jumps_forward code pc x = nat_lt pc x && nat_lt x (length code) && leaves_loops (around code pc)
    (around code x)

-- the end of a loop goes to the instruction after its LOOP
abbrev pub jumps_back : List Region → ℕ → Bool
jumps_back [] x = false
jumps_back (r ∷ rs) x = x == opener_of r + 1

abbrev pub jumps_well : List Instr → ℕ → Instr → Op → Bool
jumps_well code pc i op.Endl = jumps_back (around code pc) i.x
jumps_well code pc i o = if is_target (form_of o).x then jumps_forward code pc i.x else true

-- ---- loop slots

-- how many of the regions are loops
abbrev pub depth_of : List Region → ℕ
depth_of [] = 0
depth_of (r ∷ rs) = if is_loop r then depth_of rs + 1 else depth_of rs

-- a loop's slot is its depth among loops, and it turns 1 to 65,535 times
abbrev pub has_slot : ℕ → List Region → Instr → Op → Bool
has_slot loops rs i op.Loop = (i.a == depth_of rs) && nat_lt i.a loops && nat_le 1 i.x && nat_le i.x
    MOST_TURNS
has_slot loops rs i op.Endl = (i.a + 1 == depth_of rs) && nat_lt i.a loops
has_slot loops rs i _ = true

-- ---- calls

-- the operations whose function's steps are the caller's own
abbrev pub is_call : Op → Bool
is_call op.Call = true
is_call op.At = true
is_call _ = false

-- a function calls functions of smaller numbers
abbrev pub calls_earlier : ℕ → Instr → Bool
calls_earlier function i = if is_call i.op then nat_lt i.x function else true

-- ---- atomic regions

-- the operations that begin a function, an activity, a finish or an atomic region, or go to another place
abbrev pub is_kept_out : Op → Bool
is_kept_out op.Call = true
is_kept_out op.At = true
is_kept_out op.Ata = true
is_kept_out op.Async = true
is_kept_out op.Finb = true
is_kept_out op.Atomb = true
is_kept_out _ = false

-- none of them stands in an atomic region
abbrev pub stays_out : Op → List Region → Bool
stays_out o rs = if is_kept_out o then not (is_in_atomic rs) else true

-- ---- bounds

-- how often what stands in the regions is executed, at most
abbrev pub weight : List Region → ℕ
weight [] = 1
weight (Turning opener limit ∷ rs) = limit * weight rs
weight (Waiting opener ∷ rs) = weight rs
weight (Atomic opener ∷ rs) = weight rs

-- one step, and those of the function that it calls
abbrev pub cost : List ℕ → Instr → ℕ
cost earlier i = if is_call i.op then 1 + slice_index earlier i.x else 1

-- the sum over the instructions from pc on
abbrev pub steps_from : List ℕ → List Instr → ℕ → List Instr → ℕ
steps_from earlier code pc [] = 0
steps_from earlier code pc (i ∷ rest) = cost earlier i * weight
    (around code pc) + steps_from earlier code (pc + 1) rest

-- the most steps that a function takes, given those of the functions before it
abbrev pub bound_of : List ℕ → List Instr → ℕ
bound_of earlier code = steps_from earlier code 0 code

-- ---- faults

pub data BoundCause : Type 0 where
  Nesting Jump LoopSlot CallOrder InAtomic TooLarge : BoundCause

pub record BoundFault : Type 0 where
  pub cause : BoundCause
  pub function : ℕ
  pub pc : ℕ

-- the first of the instructions from pc on that fails a test
abbrev pub first_failing : (ℕ → Instr → Bool) → ℕ → List Instr → Option ℕ
first_failing test pc [] = None
first_failing test pc (i ∷ rest) = if test pc i then first_failing test (pc + 1) rest else Some pc

abbrev pub is_ret : Op → Bool
is_ret op.Ret = true
is_ret _ = false

abbrev pub is_last_ret : Option Instr → Bool
is_last_ret None = false
is_last_ret (Some i) = is_ret i.op

abbrev pub is_empty : List Region → Bool
is_empty [] = true
is_empty (r ∷ rs) = false

-- nothing is open at the end, and the last instruction ends the function
abbrev pub ends_well : List Instr → Bool
ends_well code = is_empty (around code (length code)) && is_last_ret
    (slice_get code (length code - 1))

abbrev pub or_else : Option ℕ → Option ℕ → Option ℕ
or_else None o = o
or_else (Some pc) o = Some pc

abbrev pub nesting_fault : List Instr → Option ℕ
nesting_fault code = or_else (first_failing (λ pc i. nests i.op (around code pc)) 0 code)
    (if ends_well code then None else Some (length code - 1))

abbrev pub jump_fault : List Instr → Option ℕ
jump_fault code = first_failing (λ pc i. jumps_well code pc i i.op) 0 code

abbrev pub slot_fault : ℕ → List Instr → Option ℕ
slot_fault loops code = first_failing (λ pc i. has_slot loops (around code pc) i i.op) 0 code

abbrev pub order_fault : ℕ → List Instr → Option ℕ
order_fault function code = first_failing (λ pc i. calls_earlier function i) 0 code

abbrev pub atomic_fault : List Instr → Option ℕ
atomic_fault code = first_failing (λ pc i. stays_out i.op (around code pc)) 0 code

-- goes on where a function has no fault of a cause
abbrev pub unless : {A : Type 0} → Option ℕ → BoundCause → ℕ → Result A BoundFault
    → Result A BoundFault
unless None cause function r = r
unless (Some pc) cause function r = Err (record { cause = cause; function = function; pc = pc })

-- the bound of a function, or its least cause at the least instruction
abbrev pub checked_bound : ℕ → List ℕ → Function → Result ℕ BoundFault
checked_bound function earlier f =
    unless (nesting_fault f.code) Nesting function
    (unless (jump_fault f.code) Jump function
    (unless (slot_fault f.loops f.code) LoopSlot function
    (unless (order_fault function f.code) CallOrder function
    (unless (atomic_fault f.code) InAtomic function
    (if nat_le (bound_of earlier f.code) (2 ^ 48) then Ok (bound_of earlier f.code) else Err
    (record { cause = TooLarge; function = function; pc = 0 }))))))

-- goes on with one bound more, or ends in a fault
abbrev pub with_bound : List ℕ → Result ℕ BoundFault → (List ℕ → Result (List ℕ) BoundFault)
    → Result (List ℕ) BoundFault
with_bound earlier (Ok bound) others = others (earlier ++ bound ∷ [])
with_bound earlier (Err fault) others = Err fault

abbrev pub bounds_from : List ℕ → List Function → Result (List ℕ) BoundFault
bounds_from earlier [] = Ok earlier
bounds_from earlier (f ∷ fs) = with_bound earlier (checked_bound (length earlier) earlier f)
    (λ bounds. bounds_from bounds fs)

-- the bounds of a module's functions, or the fault of the least function that has one
abbrev pub bounds_of : Module → Result (List ℕ) BoundFault
bounds_of m = bounds_from [] m.functions
