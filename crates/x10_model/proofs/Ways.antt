-- How the move of each operation goes: on in its function, or in one of the ways that a few operations have.
use Rattle.std.proofs.Common.{◌≡◌, ◌≢◌, ℕ, ◌+◌, ◌-◌, ◌<◌, Bool, true, false, List, [], ◌∷◌, ◌++◌, Option, Some, None, refl, sym, ap, subst, ◌∙◌, inl, inr, append-nil}
use Rattle.std.specs.Prelude.{ℤ, nat_lt, if◌then◌else◌}
use Rattle.std.proofs.lemmas.Bool.{ltb-true}
use Rattle.x10_code.specs.declared.op.Op.{Op}
use Rattle.x10_code.specs.declared.op.Op.TheVariants as op
use Rattle.x10_code.specs.declared.instr.Instr.{Instr}
use Rattle.x10_code.specs.Table.{form_of}
use Rattle.x10_model.specs.Maps.{with_entry}
use Rattle.x10_model.specs.Modules.{Function}
use Rattle.x10_model.specs.Ranges.{instr_at}
use Rattle.x10_model.specs.Structure.{is_target}
use Rattle.x10_model.specs.Values.{Value, Place}
use Rattle.x10_model.specs.Copies.{Snapshot, Captures}
use Rattle.x10_model.specs.Places as places
use Rattle.x10_model.specs.Places.{CallFrame, Stay, Export, Message, Spawn, Shift, innermost, Effect, Waits, Works, Begins, Spawns, Shifts, Opens, Closes, Ends, with_stay, goes, next}
use Rattle.x10_model.specs.Moves.{Situation, Holds, Passes, GivesBack, SendsBack, Returns, LeavesFinish, ContinuesAt, Continues, GoesOnInside, new_stay, resumed, entry_frame, MakesRail, SetsByte, writes_or_goes, next_or_goes}

-- ---- on in its function

-- the operations by which loops turn
abbrev pub turns : Op → Bool
turns op.Loop = true
turns op.Endl = true
turns _ = false

pub no_loop : (o : Op) → turns o ≡ false → o ≢ op.Loop
no_loop o plain e = absurd (let f : true ≡ false = ap turns (sym e) ∙ plain in cc)

pub no_end : (o : Op) → turns o ≡ false → o ≢ op.Endl
no_end o plain e = absurd (let f : true ≡ false = ap turns (sym e) ∙ plain in cc)

-- How a call frame goes on in its function by an operation: to the next instruction, whatever its registers hold then, or to
-- x, and no loop turns; or as LOOP begins a loop, and as ENDL turns or ends it.
pub data Onward (s : Situation) : Op → CallFrame → Type 0 where
  passes : {o : Op} {registers : ℕ → Option Value} → turns o ≡ false
      → Onward s o (record s.stay.top { pc = s.stay.top.pc + 1; registers = registers })
  jumps : {o : Op} → turns o ≡ false → is_target (form_of o).x ≡ true → Onward s o (goes s.stay.top s.instr.x)
  begins_loop : Onward s op.Loop (record s.stay.top { pc = s.stay.top.pc + 1; loops = with_entry s.stay.top.loops s.instr.a s.instr.x })
  turns_loop : 0 < s.stay.top.loops s.instr.a - 1 → Onward s op.Endl
      (record s.stay.top { pc = s.instr.x; loops = with_entry s.stay.top.loops s.instr.a (s.stay.top.loops s.instr.a - 1) })
  ends_loop : Onward s op.Endl (record s.stay.top {
    pc = s.stay.top.pc + 1;
    loops = with_entry s.stay.top.loops s.instr.a (s.stay.top.loops s.instr.a - 1);
  })

pub same_function : (s : Situation) (o : Op) (top : CallFrame) → Onward s o top → top.function ≡ s.stay.top.function
same_function s o top (passes plain) = refl
same_function s o top (jumps plain target) = refl
same_function s o top begins_loop = refl
same_function s o top (turns_loop more) = refl
same_function s o top ends_loop = refl

-- the call frame goes on in its function, at a place with the stays and finishes that there were, and some exports more
pub record GoesOnward (s : Situation) (o : Op) (base : places.Place) (top : CallFrame) : Type 0 where
  pub stays : base.stays ≡ s.place.stays
  pub opened : base.opened ≡ s.place.opened
  pub more : List Export
  pub exports : base.exports ≡ s.place.exports ++ more
  pub onward : Onward s o top

-- ---- the ways

-- To what place and with what effect a move goes by an operation. What isn't onward in a function is as `Does` says of its
-- operation.
pub data Way (s : Situation) : Op → places.Place → Effect → Type 0 where
  goes_onward : {o : Op} (base : places.Place) (top : CallFrame) (inside : Bool) → GoesOnward s o base top
      → Way s o (with_stay base s.key (Some (record s.stay { top = top; inside = inside }))) Works
  calls : (callee : Function) (arguments : List Value) → Passes s s.here callee arguments
      → Way s op.Call (with_stay s.place s.key (Some (record s.stay
      { top = entry_frame s.instr.x arguments; callers = s.stay.top ∷ s.stay.callers }))) Works
  returns : (result : Option Value) (caller : CallFrame) (callers : List CallFrame) (call : Instr) → GivesBack s s.function.result result
      → s.stay.callers ≡ caller ∷ callers
      → instr_at s.setting.program caller.function caller.pc ≡ Some call → call.op ≡ op.Call
      → Way s op.Ret (with_stay s.place s.key (Some (record s.stay { top = resumed caller call.a result; callers = callers }))) Works
  ends : (result : Option Value) (back : Option Message) → GivesBack s s.function.result result → s.stay.callers ≡ [] → s.stay.finishes ≡ []
      → SendsBack s result s.stay.back back
      → Way s op.Ret (with_stay s.place s.key None) (Ends s.stay.inherited back)
  begins : (callee : Function) (arguments : List Value) (key : ℕ) → Passes s s.here callee arguments → callee.result ≡ None → s.place.stays key ≡ None
      → Way s op.Async (with_stay (with_stay s.place s.key (Some (record s.stay { top = next s.stay.top }))) key
      (Some (new_stay s.instr.x arguments (innermost s.here s.stay) None))) (Begins key s.instr.x (innermost s.here s.stay))
  shifts : (callee : Function) (arguments : List Value) (to : ℕ) (graph : Snapshot) → Holds s s.instr.c (Place to) → Passes s to callee arguments
      → Captures s.place.cells arguments graph
      → Way s op.At (with_stay s.place s.key (Some (record s.stay { away = true })))
      (Shifts (Shift s.here to s.key (innermost s.here s.stay) s.instr.x graph) (innermost s.here s.stay))
  spawns : (callee : Function) (arguments : List Value) (to : ℕ) (graph : Snapshot) → Holds s s.instr.c (Place to) → Passes s to callee arguments
      → callee.result ≡ None → Captures s.place.cells arguments graph
      → Way s op.Ata (with_stay s.place s.key (Some (record s.stay { top = next s.stay.top })))
      (Spawns (Spawn s.here to (innermost s.here s.stay) s.instr.x graph) s.instr.x (innermost s.here s.stay))
  opens : Way s op.Finb (with_stay (record s.place { opened = s.place.opened + 1 }) s.key
      (Some (record s.stay { top = next s.stay.top; finishes = s.place.opened ∷ s.stay.finishes }))) (Opens s.place.opened (innermost s.here s.stay))
  waits : (number : ℕ) (finishes : List ℕ) → s.stay.finishes ≡ number ∷ finishes → Way s op.Fine s.place (Waits number)
  closes : (number : ℕ) (finishes : List ℕ) → s.stay.finishes ≡ number ∷ finishes
      → Way s op.Fine (with_stay s.place s.key (Some (record s.stay { top = next s.stay.top; finishes = finishes }))) (Closes number)

-- ---- how operations go

-- a way leads to what its place and its effect are
pub to : {s : Situation} {o : Op} {place new : places.Place} {made effect : Effect} → new ≡ place → effect ≡ made → Way s o place made
    → Way s o new effect
to {s} {o} {place} {new} {made} {effect} is effect_is way = subst (λ p. Way s o p effect) (sym is) (subst (λ e. Way s o place e) (sym effect_is) way)

-- on in the function, with some exports more
pub exporting : {s : Situation} {o : Op} {base : places.Place} {top : CallFrame} {new : places.Place} {effect : Effect} (more : List Export)
    → base.stays ≡ s.place.stays → base.opened ≡ s.place.opened → base.exports ≡ s.place.exports ++ more → Onward s o top
    → ContinuesAt s base top new effect → Way s o new effect
exporting {s} {base} {top} more stays opened exports onward d =
    to d.0 d.1 (goes_onward base top s.stay.inside (record { stays = stays; opened = opened; more = more; exports = exports; onward = onward }))

-- with the heap or the lines changed alone
pub changing : {s : Situation} {o : Op} {base : places.Place} {top : CallFrame} {new : places.Place} {effect : Effect} → base.stays ≡ s.place.stays
    → base.opened ≡ s.place.opened → base.exports ≡ s.place.exports → Onward s o top → ContinuesAt s base top new effect → Way s o new effect
changing {s} stays opened exports onward d = exporting [] stays opened (exports ∙ sym (append-nil s.place.exports)) onward d

-- at a place that is otherwise as it was
pub goes_on : {s : Situation} {o : Op} {top : CallFrame} {new : places.Place} {effect : Effect} → Onward s o top → Continues s top new effect
    → Way s o new effect
goes_on onward d = changing refl refl refl onward d

-- inside an atomic region from then on, or not
pub marked : {s : Situation} {o : Op} {new : places.Place} {effect : Effect} (inside : Bool) → turns o ≡ false → GoesOnInside s inside new effect
    → Way s o new effect
marked {s} inside plain d = to d.0 d.1 (goes_onward s.place (next s.stay.top) inside
    (record { stays = refl; opened = refl; more = []; exports = sym (append-nil s.place.exports); onward = passes plain }))

-- to the next instruction with a value, or to x
pub written : {s : Situation} {o : Op} (v : Option Value) → turns o ≡ false → is_target (form_of o).x ≡ true → Onward s o (writes_or_goes s v)
written None plain target = jumps plain target
written (Some v) plain target = passes plain

-- to the next instruction, or to x
pub went : {s : Situation} {o : Op} (b : Bool) → turns o ≡ false → is_target (form_of o).x ≡ true → Onward s o (next_or_goes s b)
went true plain target = passes plain
went false plain target = jumps plain target

-- to x, or to the next instruction
pub jumped : {s : Situation} {o : Op} (b : Bool) → turns o ≡ false → is_target (form_of o).x ≡ true
    → Onward s o (if b then goes s.stay.top s.instr.x else next s.stay.top)
jumped true plain target = jumps plain target
jumped false plain target = passes plain

-- as a loop turns or ends
pub turned : {s : Situation} (b : Bool) → nat_lt 0 (s.stay.top.loops s.instr.a - 1) ≡ b
    → Onward s op.Endl (record s.stay.top {
      pc = if b then s.instr.x else s.stay.top.pc + 1;
      loops = with_entry s.stay.top.loops s.instr.a (s.stay.top.loops s.instr.a - 1);
    })
turned {s} true more = turns_loop (ltb-true 0 (s.stay.top.loops s.instr.a - 1) more)
turned false more = ends_loop

-- a rail is made where there is such a length
pub made : (s : Situation) (n : Option ℕ) (new : places.Place) (effect : Effect) → MakesRail s n new effect → Way s op.Rail new effect
made s None new effect d = goes_on (jumps refl refl) d
made s (Some n) new effect d = changing refl refl refl (passes refl) d.2

-- a byte is set where there is one
pub set : (s : Situation) (reference : ℕ) (bytes : List ℕ) (z w : ℤ) (byte : Option ℕ) (new : places.Place) (effect : Effect)
    → SetsByte s reference bytes z w byte new effect → Way s op.Rset new effect
set s reference bytes z w None new effect d = goes_on (jumps refl refl) d
set s reference bytes z w (Some byte) new effect d = changing refl refl refl (passes refl) d

pub returned : (s : Situation) (callers : List CallFrame) (result : Option Value) (new : places.Place) (effect : Effect) → s.stay.callers ≡ callers
    → GivesBack s s.function.result result → Returns s callers result new effect → Way s op.Ret new effect
returned s [] result new effect alone gives d = to d.3 d.4 (ends result d.0 gives alone d.1 d.2)
returned s (caller ∷ callers) result new effect is gives d = to d.3 d.4 (returns result caller callers d.0 gives is d.1 d.2)

pub left : (s : Situation) (number : ℕ) (finishes : List ℕ) (new : places.Place) (effect : Effect) → s.stay.finishes ≡ number ∷ finishes
    → LeavesFinish s number finishes new effect → Way s op.Fine new effect
left s number finishes new effect is (inl waited) = to waited.0 waited.1 (waits number finishes is)
left s number finishes new effect is (inr closed) = to closed.0 closed.1 (closes number finishes is)
