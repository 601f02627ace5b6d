-- Links between places: each message in flight fits the place that it goes to, and the stay that a result comes back to
-- waits for it there.
use Rattle.std.specs.Prelude.{◌≡◌, ℕ, true, List, [], ◌∷◌, Some, None}
use Rattle.x10_code.specs.declared.op.Op.TheVariants as op
use Rattle.x10_code.specs.declared.instr.Instr.{Instr}
use Rattle.x10_model.specs.declared.event.Event.{Event}
use Rattle.x10_model.specs.Modules.{Module, Function}
use Rattle.x10_model.specs.Ranges.{function_at, instr_at}
use Rattle.x10_model.specs.Values.{Place}
use Rattle.x10_model.specs.Copies.{Snapshot, IsWhole}
use Rattle.x10_model.specs.Places as places
use Rattle.x10_model.specs.Places.{Setting, CallFrame, Origin, Stay, Message, Spawn, Shift, Back, receiver, Effect}
use Rattle.x10_model.specs.Moves.{Moves}
use Rattle.x10_model.specs.Deliveries.{FitsPlace, FitsFunctionAt, FitsResultAt, WaitsFor}
use Rattle.x10_model.specs.Wrong.{IsMisfit, graph_of}
use Rattle.x10_model.specs.Worlds.{Flying, Net, World, net_after, Delivers, Rule, Happens, opening}
use Rattle.x10_finish.specs.Nesting.{Stays, stays_of}
use Rattle.x10_finish.specs.Closing.{IsSound}

-- ---- who waits for whom

-- the function that the first of some call frames executes: the last one of the callers, or the top where there are none
abbrev pub first_function_of : CallFrame → List CallFrame → ℕ
first_function_of top [] = top.function
first_function_of top (caller ∷ callers) = first_function_of caller callers

-- the function that a stay began with
abbrev pub first_function : Stay → ℕ
first_function s = first_function_of s.top s.callers

-- the stay with a key at a place p is away: it waits at an at that sends the function to the place to
pub record WaitsAt (program : Module) (stays : Stays) (p key to function : ℕ) : Type 0 where
  pub stay : Stay
  pub call : Instr
  pub is_there : stays p key ≡ Some stay
  pub is_away : stay.away ≡ true
  pub call_is : instr_at program stay.top.function stay.top.pc ≡ Some call
  pub is_at : call.op ≡ op.At
  pub function_is : call.x ≡ function
  pub to_is : stay.top.registers call.c ≡ Some (Place to)

-- what a message asks of the net for its receiver to take it in, beside the classes and exports that its graph names: its
-- arguments fit its function there; and where something comes back, the stay that it comes back to waits for it, and the
-- result fits the function that was waited for
abbrev pub FitsReceiver : Setting → Stays → Message → Type 0
FitsReceiver setting stays (Spawn from to under function graph) = (callee : Function)
    × FitsFunctionAt setting to function graph callee × (callee.result ≡ None)
    × IsWhole graph
FitsReceiver setting stays (Shift from to waiting under function graph) = (callee : Function)
    × FitsFunctionAt setting to function graph callee
    × WaitsAt setting.program stays from waiting to function × IsWhole graph
FitsReceiver setting stays (Back from to waiting graph) = (function : ℕ) × (callee : Function)
    × WaitsAt setting.program stays to waiting from function
    × (function_at setting.program function ≡ Some callee)
    × FitsResultAt graph from callee.result graph.roots × IsWhole graph

-- a stay whose result goes back is at the place to which the stay that waits for it sent the function with which it began,
-- and each message in flight fits its receiver
pub record AreAnswered (setting : Setting) (net : Net) : Type 0 where
  pub stays : (p key : ℕ) (s : Stay) (o : Origin) → stays_of net p key ≡ Some s → s.back ≡ Some o
      → WaitsAt setting.program (stays_of net) o.place o.key p (first_function s)
  pub posts : (number : ℕ) (message : Message) → net.posts number ≡ Flying message
      → FitsReceiver setting (stays_of net) message

-- ---- laws

abbrev pub AnsweredAtOpening : Type 0
AnsweredAtOpening = (setting : Setting) (key : ℕ) → AreAnswered setting (opening setting key).net

-- a stay that moves isn't away, so that nothing waits there; what it sends fits its receiver
abbrev pub AnsweredAfterMove : Type 0
AnsweredAfterMove = (setting : Setting) (net : Net) (here key number : ℕ) (old new : places.Place)
    (effect : Effect) → AreAnswered setting net
    → net.places here ≡ Some old → Moves setting here old key new effect
    → AreAnswered setting (net_after net here new effect number)

-- a result that comes is the only one for which its stay waited
abbrev pub AnsweredAfterDelivery : Type 0
AnsweredAfterDelivery = (setting : Setting) (w v : World) (number : ℕ) → IsSound w.net w.book
    → AreAnswered setting w.net → Delivers setting w number v
    → AreAnswered setting v.net

-- so what happens at any event keeps all answered, whenever finishes may close
abbrev pub AnsweredAfterEvent : Type 0
AnsweredAfterEvent = (rule : Rule) (setting : Setting) (w v : World) (event : Event)
    → IsSound w.net w.book → AreAnswered setting w.net
    → Happens rule setting w event v → AreAnswered setting v.net

-- a message that fits its receiver is no misfit there, where its graph fits the place
abbrev pub FittingIsNoMisfit : Type 0
FittingIsNoMisfit = (setting : Setting) (net : Net) (message : Message) (place : places.Place)
    → net.places (receiver message) ≡ Some place
    → FitsReceiver setting (stays_of net) message
    → FitsPlace setting (receiver message) place (graph_of message)
    → IsMisfit setting (receiver message) place message → ⊥

-- and where it brings a result, a stay at the place waits for it, whose function the result fits
abbrev pub FittingResultIsAwaited : Type 0
FittingResultIsAwaited = (setting : Setting) (net : Net) (from to waiting : ℕ) (graph : Snapshot)
    (place : places.Place) → net.places to ≡ Some place
    → FitsReceiver setting (stays_of net) (Back from to waiting graph)
    → (stay : Stay) × (call : Instr) × (callee : Function)
    × WaitsFor setting place waiting from stay call callee
    × FitsResultAt graph from callee.result graph.roots
