-- An AT: what it names is there, and a result that comes back to it.
use Rattle.std.proofs.Common.{◌≡◌, ℕ, ◌+◌, ◌<◌, ◌^◌, List, length, Option, Some, sym, ap, subst, ◌∙◌, arith}
use Rattle.slab.specs.Slab.{Slab, get, Updates}
use Rattle.x10_code.specs.declared.op.Op.TheVariants as op
use Rattle.x10_code.specs.declared.instr.Instr.{Instr}
use Rattle.x10_code.specs.Table.{form_of}
use Rattle.x10_image.specs.Parts.{Signature, signature_of}
use Rattle.x10_model.specs.declared.slot.Slot.{Slot}
use Rattle.x10_model.specs.Frames.{Frame}
use Rattle.x10_model.specs.Modules.{Module, Function}
use Rattle.x10_model.specs.Ranges.{function_at, instr_in, IsThere}
use Rattle.x10_frame.specs.Heads.{graph_of}
use Rattle.x10_copy.specs.declared.refusal.Refusal.{Refusal}
use Rattle.x10_copy.specs.declared.refusal.Refusal.TheVariants as refusal
use Rattle.x10_copy.specs.Arrived.{IsArrived, IsRefusal}
use Rattle.x10_copy.specs.Taken.{IsTakenIn}
use Rattle.x10_place.specs.Arrivals.{IsWaitingFor, GoesOnBy, ComesBack, IsExpected, IsBackRefused}
use Rattle.x10_place.specs.Frames.{IsFetched}
use Rattle.x10_place.specs.Sending.{slots_of}
use Rattle.x10_place.specs.Stays.{StayState, StoreState}

module _ (program : Module) (index at count : ℕ) (i : Instr) (fetched : IsFetched program index at count i) (is : i.op ≡ op.At) where
  -- the register of the place
  pub place_register : i.c < fetched.function.registers
  place_register = subst (λ q. IsThere program fetched.function i (form_of q).c i.c) is fetched.in_range.c

  pub place_there : i.c < count
  place_there = let lt = place_register in let le = fetched.registers in omega (arith, lt, le)

  -- the function
  pub callee_there : i.x < length program.functions
  callee_there = subst (λ q. IsThere program fetched.function i (form_of q).x i.x) is fetched.in_range.x

  -- an instruction follows
  pub at_follows : at + 1 < length fetched.function.code
  at_follows = fetched.next (λ e. absurd (let f = sym is ∙ e in cc))

  pub at_next : at + 1 < 2 ^ 16
  at_next = let lt = at_follows in let few = fetched.sizes.length.1 in omega (arith, lt, few)

-- ---- a result that comes back

-- why it doesn't, where somebody waits for it
pub back_refused : (program : Module) (old : Slab StayState) (s : StoreState) (f : Frame) (from key : ℕ) (slots : List Slot) (why : Refusal)
    → IsExpected program old from key slots → IsRefusal program s.here from s.heap slots (graph_of f) why → IsBackRefused program old s f from key why
back_refused program old s f from key slots refusal.Kind expected h = (slots, expected, h)
back_refused program old s f from key slots refusal.Home expected h = (slots, expected, h)
back_refused program old s f from key slots refusal.Ref expected h = (slots, expected, h)
back_refused program old s f from key slots refusal.Memory expected h = (slots, expected, h)
back_refused program old s f from key slots (refusal.Limit limit) expected h = (slots, expected, h)
back_refused program old s f from key slots _ expected h = absurd h

-- the function that an AT names, by its signature
callee_of : (program image : Module) (call : Instr) (sig : Signature) (slot : Option Slot) → image ≡ program
    → (g : Function) × (function_at image call.x ≡ Some g) × (sig ≡ signature_of g) → slot ≡ sig.result
    → (g : Function) × (function_at program call.x ≡ Some g) × (slot ≡ g.result)
callee_of program image call sig slot same g e = (
  g.0,
  subst (λ (m : Module). function_at m call.x ≡ Some g.0) same g.1,
  e ∙ ap (λ (t : Signature). t.result) g.2,
)

module _ (program image : Module) (old : Slab StayState) (s : StoreState) (f : Frame) (from key : ℕ) (a : StayState) (call : Instr) (sig : Signature)
    (slot : Option Slot) (same : image ≡ program) (there : get old key ≡ Some a) (waits : IsWaitingFor program a from call)
    (g : (g : Function) × (function_at image call.x ≡ Some g) × (sig ≡ signature_of g)) (e : slot ≡ sig.result) where
  pub expected : IsExpected program old from key (slots_of slot)
  expected = let c = callee_of program image call sig slot same g e in
      record {
        stay = a;
        is_there = there;
        call = call;
        awaits = record {
          is_away = waits.is_away;
          call_is = subst (λ o. instr_in o a.top.pc ≡ Some call) (sym waits.fetched.is_function) waits.fetched.is_instr;
          is_at = waits.is_at;
          from_is = waits.from_is;
        };
        callee = c.0;
        callee_is = c.1;
        slots_are = ap slots_of c.2;
      }

  pub comes_back : (new : Slab StayState) (t : StoreState) (roots : List ℕ) (b : StayState)
      → IsArrived program s.here from s.heap (slots_of slot) (graph_of f) roots t.heap
      → IsTakenIn program s.here s.heap (slots_of slot) f roots t.heap
      → GoesOnBy roots a call.a b → Updates old new key (Some b) → t ≡ record s { heap = t.heap } → ComesBack program old s f from key new t
  comes_back new t roots b arrived taken goes changed store =
      let c = callee_of program image call sig slot same g e in
      record {
        stay = a;
        is_there = there;
        call = call;
        waits = waits;
        callee = c.0;
        callee_is = c.1;
        roots = roots;
        arrived = subst (λ o. IsArrived program s.here from s.heap (slots_of o) (graph_of f) roots t.heap) c.2 arrived;
        taken = subst (λ o. IsTakenIn program s.here s.heap (slots_of o) f roots t.heap) c.2 taken;
        next = b;
        goes = goes;
        changed = changed;
        store = store;
      }
