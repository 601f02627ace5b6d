-- What a move takes of what its stay can still take, told by its effect.
use Rattle.std.proofs.Common.{◌≡◌, ℕ, ◌+◌, ◌≤◌, Bool, true, false, List, ◌∷◌, take, Option, Some, None, Ok, refl, sym, ap, ◌∙◌, arith}
use Rattle.std.specs.Prelude.{slice_get, slice_index, if◌then◌else◌}
use Rattle.x10_code.specs.declared.op.Op.{Op}
use Rattle.x10_code.specs.Table.{form_of}
use Rattle.x10_model.specs.Maps.{with_entry}
use Rattle.x10_model.specs.Modules.{Module, Function}
use Rattle.x10_model.specs.Ranges.{function_at}
use Rattle.x10_model.specs.Structure.{bounds_of, cost, is_call, is_target}
use Rattle.x10_model.specs.Places as places
use Rattle.x10_model.specs.Places.{Setting, CallFrame, Origin, Stay, Message, innermost, Effect, Waits, Works, Begins, Spawns, Shifts, Opens, Closes, Ends, next}
use Rattle.x10_model.specs.Moves.{Situation, SendsBack, new_stay, resumed, entry_frame, Moves}
use Rattle.x10_model.specs.Values.{Value}
use Rattle.x10_model.proofs.NotWrong.{situation}
use Rattle.x10_model.proofs.Ways as ways
use Rattle.x10_model.proofs.Operations.{way_of}
use Rattle.x10_model.proofs.Ways.{turns, no_loop, no_end, Onward, Way}
use Rattle.x10_image.specs.Parts.{code_in, code_at}
use Rattle.x10_bounds.specs.Potential.{PotentialFalls}
use Rattle.x10_world.specs.Budget.{left_in, left_after, left_of, left_of_any, left_for}
use Rattle.x10_world.proofs.BoundLemmas.{falls, entry_left, call_costs}

-- ---- what a move takes

abbrev pub left_for_any : List ℕ → Option Message → ℕ
left_for_any bounds None = 0
left_for_any bounds (Some message) = left_for bounds message

-- the stay that moves is another now, or none, which with so many steps more that go out can take one step less
pub record Takes (program : Module) (bounds : List ℕ) (old : ℕ → Option Stay) (key : ℕ) (s : Stay) (new : ℕ → Option Stay) (stay : Option Stay)
    (more : ℕ) : Type 0 where
  pub stays : new ≡ with_entry old key stay
  pub less : left_of_any program bounds stay + more + 1 ≤ left_of program bounds s

-- and another stay begins with the steps of its function
pub record TakesTwo (program : Module) (bounds : List ℕ) (old : ℕ → Option Stay) (key : ℕ) (s : Stay) (new : ℕ → Option Stay) (t : Stay) (other : ℕ)
    (u : Stay) (function : ℕ) : Type 0 where
  pub stays : new ≡ with_entry (with_entry old key (Some t)) other (Some u)
  pub free : old other ≡ None
  pub less : left_of program bounds t + 1 ≤ left_of program bounds s
  pub begins : left_of program bounds u ≡ slice_index bounds function

-- what the move of the stay with a key takes
abbrev pub Spends : Module → List ℕ → places.Place → ℕ → Stay → places.Place → Effect → Type 0
Spends program bounds old key s new (Waits number) = new ≡ old
Spends program bounds old key s new (Begins other function under) = (t u : Stay)
    × TakesTwo program bounds old.stays key s new.stays t other u function
Spends program bounds old key s new (Spawns message function under) = (t : Stay) × Takes program bounds old.stays key s new.stays (Some t) 0
    × (left_for bounds message ≡ slice_index bounds function)
Spends program bounds old key s new (Shifts message under) = (t : Stay)
    × Takes program bounds old.stays key s new.stays (Some t) (left_for bounds message)
Spends program bounds old key s new (Ends under back) = Takes program bounds old.stays key s new.stays None (left_for_any bounds back)
Spends program bounds old key s new _ = (t : Stay) × Takes program bounds old.stays key s new.stays (Some t) 0

-- ---- what a step takes of its function

-- in a module with these bounds, the instruction stands where the stay is, which is ready
pub record IsBoundedAt (bounds : List ℕ) (s : Situation) : Type 0 where
  pub bounds_are : bounds_of s.setting.program ≡ Ok bounds
  pub is_ready : s.stay.away ≡ false
  pub function_is : function_at s.setting.program s.stay.top.function ≡ Some s.function
  pub instr_is : slice_get s.function.code s.stay.top.pc ≡ Some s.instr

-- with this call frame in place of its own, the stay's function has fewer steps left
abbrev pub Falls : List ℕ → Situation → CallFrame → Type 0
Falls bounds s top = left_in s.setting.program bounds top top.pc + 1 ≤ left_in s.setting.program bounds s.stay.top s.stay.top.pc

falls_at : (bounds : List ℕ) (s : Situation) → IsBoundedAt bounds s
    → PotentialFalls s.function.loops (take s.stay.top.function bounds) (code_at s.setting.program s.stay.top.function)
falls_at bounds s at = falls s.setting.program bounds s.stay.top.function s.function at.bounds_are at.function_is

code_is : (bounds : List ℕ) (s : Situation) → IsBoundedAt bounds s
    → slice_get (code_at s.setting.program s.stay.top.function) s.stay.top.pc ≡ Some s.instr
code_is bounds s at = ap (λ o. slice_get (code_in o) s.stay.top.pc) at.function_is ∙ at.instr_is

-- to the next instruction, for what the instruction costs
costs : (bounds : List ℕ) (s : Situation) (o : Op) → IsBoundedAt bounds s → s.instr.op ≡ o → turns o ≡ false
    → left_in s.setting.program bounds s.stay.top (s.stay.top.pc + 1) + cost (take s.stay.top.function bounds) s.instr
    ≡ left_in s.setting.program bounds s.stay.top s.stay.top.pc
costs bounds s o at is plain = (falls_at bounds s at).onward s.stay.top.pc s.instr s.stay.top.loops (code_is bounds s at)
    (λ e. no_loop o plain (sym is ∙ e)) (λ e. no_end o plain (sym is ∙ e))

-- and for one step at least
passes : (bounds : List ℕ) (s : Situation) (o : Op) → IsBoundedAt bounds s → s.instr.op ≡ o → turns o ≡ false → Falls bounds s (next s.stay.top)
passes bounds s o at is plain = less (is_call s.instr.op) _ (slice_index (take s.stay.top.function bounds) s.instr.x) _ (costs bounds s o at is plain)
  where
    less : (b : Bool) (rest n whole : ℕ) → rest + (if b then 1 + n else 1) ≡ whole → rest + 1 ≤ whole
    less true rest n whole e = omega (arith, e)
    less false rest n whole e = omega (arith, e)

-- as it goes on in its function
falls_onward : (bounds : List ℕ) (s : Situation) (o : Op) (top : CallFrame) → IsBoundedAt bounds s → s.instr.op ≡ o → Onward s o top
    → Falls bounds s top
falls_onward bounds s o top at is (ways.passes plain) = passes bounds s o at is plain
falls_onward bounds s o top at is (ways.jumps plain target) =
    (falls_at bounds s at).jump s.stay.top.pc s.instr s.stay.top.loops (code_is bounds s at) (λ e. no_end o plain (sym is ∙ e))
    (ap (λ p. is_target (form_of p).x) is ∙ target)
falls_onward bounds s o top at is ways.begins_loop = (falls_at bounds s at).loop s.stay.top.pc s.instr s.stay.top.loops (code_is bounds s at) is
falls_onward bounds s o top at is (ways.turns_loop more) = (falls_at bounds s at).turns s.stay.top.pc s.instr s.stay.top.loops
    (code_is bounds s at) is more
falls_onward bounds s o top at is ways.ends_loop = (falls_at bounds s at).ends s.stay.top.pc s.instr s.stay.top.loops (code_is bounds s at) is

-- a call's instruction costs one step and the bound of the function that it calls
costs_call : (bounds : List ℕ) (s : Situation) (o : Op) (callee : Function) → IsBoundedAt bounds s → s.instr.op ≡ o → turns o ≡ false
    → is_call o ≡ true → function_at s.setting.program s.instr.x ≡ Some callee
    → left_in s.setting.program bounds s.stay.top (s.stay.top.pc + 1) + (1 + slice_index bounds s.instr.x)
    ≡ left_in s.setting.program bounds s.stay.top s.stay.top.pc
costs_call bounds s o callee at is plain call callee_is =
    ap (λ n. left_in s.setting.program bounds s.stay.top (s.stay.top.pc + 1) + n)
    (sym (call_costs s.setting.program bounds s.stay.top.function s.stay.top.pc s.function callee s.instr at.bounds_are at.function_is at.instr_is
    (ap is_call is ∙ call) callee_is))
    ∙ costs bounds s o at is plain

-- ---- what becomes of a stay

-- that of the stay that moves in a situation
abbrev TakesOf : List ℕ → Situation → (ℕ → Option Stay) → Option Stay → ℕ → Type 0
TakesOf bounds s stays stay more = Takes s.setting.program bounds s.place.stays s.key s.stay stays stay more

-- what a stay that is ready can still take
left_ready : (program : Module) (bounds : List ℕ) (t : Stay) → t.away ≡ false
    → left_of program bounds t ≡ left_in program bounds t.top t.top.pc + left_after program bounds t.callers
left_ready program bounds t ready = ap (λ b. left_in program bounds t.top
    (if b then t.top.pc + 1 else t.top.pc) + left_after program bounds t.callers) ready

-- the stay is another, which is ready
takes : (bounds : List ℕ) (s : Situation) (stays : ℕ → Option Stay) (t : Stay) → IsBoundedAt bounds s → t.away ≡ s.stay.away
    → stays ≡ with_entry s.place.stays s.key (Some t)
    → left_in s.setting.program bounds t.top t.top.pc + left_after s.setting.program bounds t.callers + 1
    ≤ left_in s.setting.program bounds s.stay.top s.stay.top.pc + left_after s.setting.program bounds s.stay.callers
    → TakesOf bounds s stays (Some t) 0
takes bounds s stays t at same stays_are less =
    let before = left_ready s.setting.program bounds s.stay at.is_ready in
    let after = left_ready s.setting.program bounds t (same ∙ at.is_ready) in
    record { stays = stays_are; less = omega (arith, less, before, after) }

-- its own call frame is another
takes_on : (bounds : List ℕ) (s : Situation) (stays : ℕ → Option Stay) (t : Stay) → IsBoundedAt bounds s → t.away ≡ s.stay.away
    → stays ≡ with_entry s.place.stays s.key (Some t) → t.callers ≡ s.stay.callers → Falls bounds s t.top → TakesOf bounds s stays (Some t) 0
takes_on bounds s stays t at same stays_are callers less =
    let after = ap (left_after s.setting.program bounds) callers in
    takes bounds s stays t at same stays_are (omega (arith, less, after))

-- a function that is called begins with its bound, and what called it goes on behind the call
calls : (bounds : List ℕ) (s : Situation) (o : Op) (callee : Function) (t : Stay) → IsBoundedAt bounds s → s.instr.op ≡ o → turns o ≡ false
    → is_call o ≡ true → function_at s.setting.program s.instr.x ≡ Some callee → t.away ≡ s.stay.away
    → left_in s.setting.program bounds t.top t.top.pc ≡ slice_index bounds s.instr.x → t.callers ≡ s.stay.top ∷ s.stay.callers
    → TakesOf bounds s (with_entry s.place.stays s.key (Some t)) (Some t) 0
calls bounds s o callee t at is plain call callee_is same begins callers =
    let cost = costs_call bounds s o callee at is plain call callee_is in
    let after = ap (left_after s.setting.program bounds) callers in
    takes bounds s _ t at same refl (omega (arith, begins, cost, after))

-- a caller that goes on has left what it had behind its call
resumed_left : (program : Module) (bounds : List ℕ) (caller : CallFrame) (register : ℕ) (r : Option Value)
    → left_in program bounds (resumed caller register r) (resumed caller register r).pc ≡ left_in program bounds caller (caller.pc + 1)
resumed_left program bounds caller register None = refl
resumed_left program bounds caller register (Some v) = refl

-- a function that ends had a step left
returns : (bounds : List ℕ) (s : Situation) (o : Op) (caller : CallFrame) (t : Stay) → IsBoundedAt bounds s → s.instr.op ≡ o → turns o ≡ false
    → s.stay.callers ≡ caller ∷ t.callers → t.away ≡ s.stay.away
    → left_in s.setting.program bounds t.top t.top.pc ≡ left_in s.setting.program bounds caller (caller.pc + 1)
    → TakesOf bounds s (with_entry s.place.stays s.key (Some t)) (Some t) 0
returns bounds s o caller t at is plain callers same goes_on =
    let less = passes bounds s o at is plain in
    let before = ap (left_after s.setting.program bounds) callers in
    takes bounds s _ t at same refl (omega (arith, less, goes_on, before))

-- a result takes no steps along
nothing_left : (bounds : List ℕ) (s : Situation) (r : Option Value) (origin : Option Origin) (message : Option Message) → SendsBack s r origin message
    → left_for_any bounds message ≡ 0
nothing_left bounds s r None message h = ap (left_for_any bounds) h
nothing_left bounds s r (Some origin) message h = ap (left_for_any bounds) h.2

-- ---- moves

spends : (bounds : List ℕ) (s : Situation) (o : Op) (new : places.Place) (effect : Effect) → IsBoundedAt bounds s → s.instr.op ≡ o
    → Way s o new effect → Spends s.setting.program bounds s.place s.key s.stay new effect
spends bounds s o new effect at is (ways.goes_onward base top inside g) =
    let t : Stay = record s.stay { top = top; inside = inside } in
    (t, takes_on bounds s _ t at refl (ap (λ f. with_entry f s.key (Some t)) g.stays) refl (falls_onward bounds s o top at is g.onward))
spends bounds s o new effect at is (ways.calls callee arguments passing) = (
  _,
  calls bounds s o callee (record s.stay { top = entry_frame s.instr.x arguments; callers = s.stay.top ∷ s.stay.callers }) at is refl refl
      passing.callee_is refl (entry_left s.setting.program bounds s.instr.x callee (λ n. 0) at.bounds_are passing.callee_is) refl,
)
spends bounds s o new effect at is (ways.returns result caller callers call gives callers_are call_is is_call) = (
  _,
  returns bounds s o caller (record s.stay { top = resumed caller call.a result; callers = callers }) at is refl callers_are refl
      (resumed_left s.setting.program bounds caller call.a result),
)
spends bounds s o new effect at is (ways.ends result back gives alone none sends) =
    let less = passes bounds s o at is refl in
    let before = left_ready s.setting.program bounds s.stay at.is_ready in
    let nothing = nothing_left bounds s result s.stay.back back sends in
    record { stays = refl; less = omega (arith, nothing, before, less) }
spends bounds s o new effect at is (ways.begins callee arguments key passing no_result free) =
    let t : Stay = record s.stay { top = next s.stay.top } in
    let own = takes_on bounds s (with_entry s.place.stays s.key (Some t)) t at refl refl refl (passes bounds s o at is refl) in
    let less = own.less in
    let entry = entry_left s.setting.program bounds s.instr.x callee (λ n. 0) at.bounds_are passing.callee_is in (
      t,
      new_stay s.instr.x arguments (innermost s.here s.stay) None,
      record { stays = refl; free = free; less = omega (arith, less); begins = omega (arith, entry) },
    )
spends bounds s o new effect at is (ways.shifts callee arguments to graph holds passing captures) =
    let cost = costs_call bounds s o callee at is refl refl passing.callee_is in
    let before = left_ready s.setting.program bounds s.stay at.is_ready in
    (record s.stay { away = true }, record { stays = refl; less = omega (arith, cost, before) })
spends bounds s o new effect at is (ways.spawns callee arguments to graph holds passing no_result captures) =
    (_, takes_on bounds s _ (record s.stay { top = next s.stay.top }) at refl refl refl (passes bounds s o at is refl), refl)
spends bounds s o new effect at is ways.opens = (
  _,
  takes_on bounds s _
      (record s.stay { top = next s.stay.top; finishes = s.place.opened ∷ s.stay.finishes }) at refl refl refl (passes bounds s o at is refl),
)
spends bounds s o new effect at is (ways.waits number finishes innermost_is) = refl
spends bounds s o new effect at is (ways.closes number finishes innermost_is) =
    (_, takes_on bounds s _ (record s.stay { top = next s.stay.top; finishes = finishes }) at refl refl refl (passes bounds s o at is refl))

pub move_spends : (setting : Setting) (bounds : List ℕ) (here key : ℕ) (old new : places.Place) (effect : Effect)
    → bounds_of setting.program ≡ Ok bounds → (m : Moves setting here old key new effect) → Spends setting.program bounds old key m.stay new effect
move_spends setting bounds here key old new effect bounds_are m =
    let at : IsBoundedAt bounds (situation m) = record {
      bounds_are = bounds_are;
      is_ready = m.is_ready;
      function_is = m.function_is;
      instr_is = m.instr_is;
    } in
    spends bounds (situation m) m.instr.op new effect at refl (way_of m.instr.op (situation m) new effect m.does)
