-- Call frames and stays, as the heap grows: what they stand for is kept.
use Rattle.std.proofs.Common.{◌≡◌, ℕ, List, [], ◌∷◌, Option, Some, sym, subst, ◌∙◌}
use Rattle.std.specs.Prelude.{slice_get, map}
use Rattle.x10_model.specs.Modules.{Module}
use Rattle.x10_model.specs.Places as machine
use Rattle.x10_model.specs.Places.{Stay}
use Rattle.x10_model.specs.Values.{Value}
use Rattle.x10_model.specs.Assignments.{State}
use Rattle.x10_heap.specs.Words.{Context, export_as}
use Rattle.x10_heap.proofs.GrownHeaps.{Grows, word_kept}
use Rattle.x10_place.specs.declared.call_frame.CallFrame.{CallFrame}
use Rattle.x10_place.specs.Homes.{AreHomes}
use Rattle.x10_place.specs.Stays.{StayState}
use Rattle.x10_place.specs.StandsFor.{Assigned, HoldRegisters, StandsForFrame, StandForCallers, IsOfRun, StandsForStay, HoldsExports}

module _ (x y : Context) (grows : Grows x y) where
  pub registers_kept : (s : State) (registers : ℕ → Option Value) (words : List ℕ) → HoldRegisters x s registers words
      → HoldRegisters y s registers words
  registers_kept s registers words h r kind e = let held = h r kind e in (held.0, held.1, word_kept x y grows kind _ held.0 held.2)

  module _ (program : Module) (assigned : Assigned program) where
    abbrev pub frame_kept : (f : CallFrame) (c : machine.CallFrame) → StandsForFrame program assigned x f c → StandsForFrame program assigned y f c
    frame_kept f c h = record {
      function_is = h.function_is;
      pc_is = h.pc_is;
      function = h.function;
      is_function = h.is_function;
      state = h.state;
      is_state = h.is_state;
      words = registers_kept h.state c.registers f.registers.items h.words;
      homes = subst (λ n. AreHomes n h.state.homes c.registers) (sym grows.here) h.homes;
      slots = h.slots;
      loops = h.loops;
    }

    pub callers_kept : (fs : List CallFrame) (cs : List machine.CallFrame) → StandForCallers program assigned x fs cs
        → StandForCallers program assigned y fs cs
    callers_kept fs [] h = h
    callers_kept fs (c ∷ cs) h = (h.0, h.1, h.2, frame_kept h.1 c h.3, callers_kept h.0 cs h.4)

    pub stay_kept : (a : StayState) (s : Stay) → StandsForStay program assigned x a s → StandsForStay program assigned y a s
    stay_kept a s h = record {
      placed = h.placed;
      top = frame_kept a.top s.top h.top;
      callers = callers_kept a.callers s.callers h.callers;
      finishes = h.finishes;
      inherited = h.inherited;
      away = h.away;
      inside = h.inside;
      back = h.back;
      run = subst (λ n. IsOfRun n a) (sym grows.places) h.run;
    }

-- the exports are as they were, and so are the classes of the objects that they name
pub exports_kept : (x y : Context) (grows : Grows x y) (exports : List machine.Export) → y.heap.exports ≡ x.heap.exports → HoldsExports x.heap exports
    → HoldsExports y.heap exports
exports_kept x y grows exports same h = record {
  exports_are = subst (λ es. exports ≡ map export_as es) (sym same) h.exports_are;
  named = λ id e is.
      let o = h.named id e (subst (λ es. slice_get es id ≡ Some e) same is) in
      let q = grows.objects e.object o.0 o.1 in
      (q.0, q.1, q.2 ∙ o.2);
}
