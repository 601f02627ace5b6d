-- The ends of functions, and what is printed: the program's steps are the machine's.
use Rattle.std.proofs.Common.{◌≡◌, ℕ, ◌+◌, ◌<◌, ◌≤◌, List, [], ◌∷◌, ◌++◌, length, Option, Some, None, refl, sym, ap, subst, ◌∙◌, arith}
use Rattle.std.specs.Prelude.{slice_set, string_bytes, IfSome}
use Rattle.std.proofs.lemmas.Option.{same_Some}
use Rattle.x10_kinds.specs.declared.kind.Kind.TheVariants as kind
use Rattle.x10_kinds.specs.declared.homes.Term.TheVariants as term
use Rattle.x10_code.specs.declared.op.Op.TheVariants as op
use Rattle.x10_code.specs.declared.instr.Instr.{Instr}
use Rattle.x10_code.specs.declared.rule.Effect.{Effect}
use Rattle.x10_code.specs.declared.rule.Effect.TheVariants.{Sets}
use Rattle.x10_code.specs.Table.{form_of}
use Rattle.x10_model.specs.Maps.{with_entry, IsIn}
use Rattle.x10_model.specs.Modules.{Module, Function, FitsSlot}
use Rattle.x10_model.specs.declared.slot.Slot.{Slot}
use Rattle.x10_model.specs.Ranges.{function_at, instr_at, instr_in, result_of, result_for, IsResultRegister, IsThere}
use Rattle.x10_model.specs.Values.{Value, Int, Text, Cells, IsOfKind}
use Rattle.x10_model.specs.Signatures.{FitsSlotAt}
use Rattle.x10_model.specs.Places as machine
use Rattle.x10_model.specs.Places.{Setting, Stay, Message, Works, Ends, with_stay, next, writes}
use Rattle.x10_model.specs.Moves.{Situation, Does, GivesBack, SendsBack, Returns, resumed, with_line}
use Rattle.x10_model.specs.Results.{line_of}
use Rattle.x10_model.specs.Assignments.{State, Edges, ReturnsWell, GivesResult, like_if, Permits, Reaches, after as after_effect}
use Rattle.x10_model.proofs.Rules.{leads}
use Rattle.x10_place.specs.declared.call_frame.CallFrame.{CallFrame}
use Rattle.x10_heap.specs.Heaps.{HeapState}
use Rattle.x10_heap.specs.Words.{Context, IsWordOf, HoldsHeap}
use Rattle.x10_place.specs.Frames.{word_at, IsFetchedFor}
use Rattle.x10_place.specs.declared.line.Line.{Line}
use Rattle.x10_place.specs.declared.line.Line.TheVariants as line
use Rattle.x10_place.specs.Stays.{StayState, IsPlaced, GoesNext, Resumes, GoesOn, IsPrinted}
use Rattle.x10_place.specs.StandsFor.{Far, context, line_as, Assigned, HoldRegisters, StandsForFrame, StandForCallers, IsOfRun, StandsForStay}
use Rattle.x10_place.proofs.Words.{reads, reads_int, words_written}
use Rattle.x10_place.proofs.Homes.{homes_written, result_like}
use Rattle.x10_place.proofs.Framed.{FrameAfter, point_of, onward, in_range, small, count, rule, frame_after}
use Rattle.x10_place.proofs.FrameMoves.{situated}
use Rattle.x10_place.proofs.HeapReads.{text_known}
use Rattle.x10_place.proofs.Calls.{fits_word}

-- ---- lists

-- a list with a last member, in two ways
last_same : {X : Type 0} (xs ys : List X) (x y : X) → xs ++ x ∷ [] ≡ ys ++ y ∷ [] → (xs ≡ ys) × (x ≡ y)
last_same [] [] x y e = (refl, cc)
last_same [] (b ∷ []) x y e = absurd cc
last_same [] (b ∷ (d ∷ ys)) x y e = absurd cc
last_same (a ∷ []) [] x y e = absurd cc
last_same (a ∷ (c ∷ xs)) [] x y e = absurd cc
last_same (a ∷ xs) (b ∷ ys) x y e =
    let heads : a ≡ b = cc in
    let tails : xs ++ x ∷ [] ≡ ys ++ y ∷ [] = cc in
    let rest = last_same xs ys x y tails in
    (ap (λ z. z ∷ xs) heads ∙ ap (λ zs. b ∷ zs) rest.0, rest.1)

not_empty : {X : Type 0} (xs : List X) (x : X) → xs ++ x ∷ [] ≡ [] → ⊥
not_empty [] x e = cc
not_empty (a ∷ xs) x e = cc

-- ---- results

-- what a function gives, and its word
abbrev pub IsGiven : Context → Cells → Option Slot → Option Value → ℕ → Type 0
IsGiven x cells None None word = Unit {0}
IsGiven x cells (Some slot) (Some v) word = FitsSlotAt (IsOfKind cells) x.here v slot × IsWordOf x slot.kind word v
IsGiven x cells _ _ word = ⊥

-- a caller's call frame after its call
call_result : (program : Module) (function : Function) (i : Instr) (slot : Slot) (o : Option Slot) → i.op ≡ op.Call
    → IsThere program function i (form_of i.op).a i.a → result_of (function_at program i.x) ≡ o → o ≡ Some slot → i.a < function.registers
call_result program function i slot o e there is some =
    let at = subst (λ q. IsThere program function i (form_of q).a i.a) e there in
    let register = subst (λ q. IsResultRegister function (result_for program function i q) i.a) e at in
    subst (λ q. IsResultRegister function q i.a) (is ∙ some) register

module _ (program : Module) (assigned : Assigned program) (x : Context) (cells : Cells) (f : CallFrame) (c : machine.CallFrame)
    (h : StandsForFrame program assigned x f c) (call : Instr) (fetched : IsFetchedFor program f call) (o : call.op ≡ op.Call) where
  -- the caller goes on after its call
  pub goes_after : (slot : Option Slot) (result : Option Value) (word : ℕ) (e : Effect) (top g : CallFrame) (i : Instr)
      → result_of (function_at program call.x) ≡ slot → GivesResult (point_of program h.function f call) term.Here slot e
      → Reaches (assigned f.function h.function h.is_function).0 (f.pc + 1, after_effect call.a h.state e) → IsGiven x cells slot result word
      → word ≡ word_at top.registers.items i.a → GoesOn slot f call top i g → StandsForFrame program assigned x g (resumed c call.a result)
  goes_after None None word e top g i is given reached back same goes =
      frame_after program assigned x f c h call fetched g (next c) (f.pc + 1) h.state f.registers.items f.loops
      (record { function_is = goes.function_is; pc_is = goes.pc_is; words_are = goes.words_are; loops_are = goes.loops_are })
      (subst (λ q. Reaches (assigned f.function h.function h.is_function).0 (f.pc + 1, after_effect call.a h.state q)) given.1 reached) refl
      (ap (λ n. n + 1) h.pc_is) h.words h.homes h.slots h.loops
  goes_after (Some slot) (Some v) word e top g i is given reached back same goes =
      let there = call_result program h.function call slot (Some slot) o (in_range program assigned x f c h call fetched).a is refl in
      let lt : call.a < length f.registers.items = omega (arith, there, count program assigned x f c h call fetched) in
      let like = like_if slot.home_here term.Here in
      let known = after_effect call.a h.state (Sets slot.kind like) in
      let typed : HoldRegisters x known (with_entry c.registers call.a (Some v)) (slice_set f.registers.items call.a word) =
      words_written x h.state c.registers f.registers.items call.a slot.kind like v word lt h.words back.1 in
      frame_after program assigned x f c h call fetched g (writes c call.a v) (f.pc + 1) known (slice_set f.registers.items call.a word) f.loops
      (subst (λ w. FrameAfter f g (f.pc + 1) (slice_set f.registers.items call.a w) f.loops) (sym same)
      (record { function_is = goes.function_is; pc_is = goes.pc_is; words_are = goes.words_are; loops_are = goes.loops_are }))
      (subst (λ q. Reaches (assigned f.function h.function h.is_function).0 (f.pc + 1, after_effect call.a h.state q)) given reached) refl
      (ap (λ n. n + 1) h.pc_is)
      typed (homes_written x.here h.state.homes c.registers call.a like v h.homes (result_like cells x.here c.registers v slot back.0)) h.slots
      h.loops
  goes_after None (Some v) word e top g i is given reached back same goes = absurd back
  goes_after (Some slot) None word e top g i is given reached back same goes = absurd back

-- ---- the end of a function

slot_of : (classes : ℕ) (o : Option Slot) (slot : Slot) → o ≡ Some slot → IfSome o (FitsSlot classes) → FitsSlot classes slot
slot_of classes None slot e h = absurd cc
slot_of classes (Some t) slot e h = subst (λ u. FitsSlot classes u) (same_Some t slot e) h

pub result_register : (program : Module) (function : Function) (i : Instr) (slot : Slot) → i.op ≡ op.Ret
    → IsThere program function i (form_of i.op).a i.a → function.result ≡ Some slot → i.a < function.registers
result_register program function i slot e there is =
    let at = subst (λ q. IsThere program function i (form_of q).a i.a) e there in
    let register = subst (λ q. IsResultRegister function (result_for program function i q) i.a) e at in
    subst (λ q. IsResultRegister function q i.a) is register

module _ (setting : Setting) (here : ℕ) (far : Far) (m : machine.Place) (key : ℕ) (s : Stay) (assigned : Assigned setting.program) (heap : HeapState)
    (holds : HoldsHeap (context setting here heap far) m.cells) (few : setting.places ≤ 64) (a : StayState)
    (h : StandsForStay setting.program assigned (context setting here heap far) a s) (i : Instr)
    (fetched : IsFetchedFor setting.program a.top i) where
  abbrev x : Context
  x = context setting here heap far

  abbrev function : Function
  function = h.top.function

  abbrev sit : Situation
  sit = situated setting here m key s function i

  -- what the function gives
  gives_back : (slot : Option Slot) → i.op ≡ op.Ret → function.result ≡ slot
      → ReturnsWell (point_of setting.program function a.top i) h.top.state slot
      → (result : Option Value) × GivesBack sit slot result × IsGiven x m.cells slot result (word_at a.top.registers.items i.a)
  gives_back None o is well = (None, tt, tt)
  gives_back (Some slot) o is well =
      let fit = small setting.program assigned x a.top s.top h.top i fetched in
      let lt = result_register setting.program function i slot o (in_range setting.program assigned x a.top s.top h.top i fetched).a is in
      let v = fits_word (length setting.program.classes) x m.cells h.top.state s.top.registers a.top.registers.items i.a slot term.Here here
      (record { is_term = tt; place_is = refl }) holds (omega (arith, lt, fit.registers.1))
      (slot_of (length setting.program.classes) function.result slot is fit.result) h.top.words h.top.homes well in
      (Some v.0, (v.1, v.2), (v.2, v.3))

  -- the last function of an activity ends
  ends_stay : (result : Option Value) (back : Option Message) (cs : List machine.CallFrame) → s.callers ≡ cs
      → StandForCallers setting.program assigned x a.callers cs → a.callers ≡ [] → a.finishes ≡ [] → GivesBack sit function.result result
      → SendsBack sit result a.back back
      → Does op.Ret sit (with_stay m key None) (Ends s.inherited back)
  ends_stay result back [] is callers none closed given sends = (
    result,
    given,
    subst (λ cs. Returns sit cs result (with_stay m key None) (Ends s.inherited back)) (sym is)
        (back, h.finishes ∙ closed, subst (λ o. SendsBack sit result o back) (sym h.back) sends, refl, refl),
  )
  ends_stay result back (c ∷ cs) is callers none closed given sends = absurd (not_empty callers.0 callers.1 (sym callers.2 ∙ none))

  -- the result of the last function of a stay, which ends the stay
  pub record Ending : Type 0 where
    pub result : Option Value
    pub given : IsGiven x m.cells function.result result (word_at a.top.registers.items i.a)
    pub does : (back : Option Message) → SendsBack sit result a.back back → Does op.Ret sit (with_stay m key None) (Ends s.inherited back)

  pub ret_ends : (out : Edges) → i.op ≡ op.Ret → Permits op.Ret (point_of setting.program function a.top i) h.top.state out → a.callers ≡ []
      → a.finishes ≡ [] → Ending
  ret_ends out o permits none closed =
      let given = gives_back function.result o refl permits.1.settles.0 in
      record { result = given.0; given = given.2; does = λ back sends. ends_stay given.0 back s.callers refl h.callers none closed given.1 sends }

  -- a called function ends
  resumes_stay : (b : StayState) (placed : IsPlaced setting.program b) (r : Resumes setting.program a i b) (result : Option Value)
      (cs : List machine.CallFrame) → s.callers ≡ cs → StandForCallers setting.program assigned x a.callers cs → GivesBack sit function.result result
      → IsGiven x m.cells function.result result (word_at a.top.registers.items i.a)
      → (t : Stay) × Does op.Ret sit (with_stay m key (Some t)) Works × StandsForStay setting.program assigned x b t
  resumes_stay b placed r result [] is callers given word = absurd (not_empty b.callers r.caller (sym r.callers ∙ callers))
  resumes_stay b placed r result (c ∷ cs) is callers given word =
      let same = last_same b.callers callers.0 r.caller callers.1 (sym r.callers ∙ callers.2) in
      let stands : StandsForFrame setting.program assigned x r.caller c =
      subst (λ f. StandsForFrame setting.program assigned x f c) (sym same.1) callers.3 in
      let at = rule setting.program assigned x r.caller c stands r.back.call r.back.fetched in
      let call = subst (λ q. Permits q (point_of setting.program stands.function r.caller r.back.call) stands.state at.0) r.back.op_is at.1 in
      let callee : function_at setting.program r.back.call.x ≡ Some function =
      ap (λ n. function_at setting.program n) r.back.callee_is ∙ h.top.is_function in
      let asked = call.1.settles in
      let same-callee : asked.0 ≡ function = same_Some asked.0 function (sym asked.1.there ∙ callee) in
      let t = after_effect r.back.call.a stands.state call.0 in
      let gives : GivesResult (point_of setting.program stands.function r.caller r.back.call) term.Here function.result call.0 =
      subst (λ (g : Function). GivesResult (point_of setting.program stands.function r.caller r.back.call) term.Here g.result call.0) same-callee
      asked.2 in
      let reached = at.2 (r.caller.pc + 1, t) (subst (λ (o : Edges). IsIn (r.caller.pc + 1, t) o) (sym call.2) (0, refl)) in
      let goes = subst (λ o. GoesOn o r.caller r.back.call a.top i b.top) (ap result_of h.top.is_function) r.back.goes in
      let call-is : instr_at setting.program c.function c.pc ≡ Some r.back.call =
      ap (λ n. instr_at setting.program n c.pc) stands.function_is ∙ ap (λ n. instr_at setting.program r.caller.function n) stands.pc_is
      ∙ subst (λ o. instr_in o r.caller.pc ≡ Some r.back.call) (sym r.back.fetched.is_function) r.back.fetched.is_instr in (
        record s { top = resumed c r.back.call.a result; callers = cs },
        (
          result,
          given,
          subst (λ ks. Returns sit ks result (with_stay m key (Some (record s { top = resumed c r.back.call.a result; callers = cs })))
              Works) (sym is) (r.back.call, call-is, r.back.op_is, refl, refl),
        ),
        record {
          placed = placed;
          top = goes_after setting.program assigned x m.cells r.caller c stands r.back.call r.back.fetched r.back.op_is function.result result
              (word_at a.top.registers.items i.a) call.0 a.top b.top i (ap result_of callee) gives reached word refl goes;
          callers = subst (λ fs. StandForCallers setting.program assigned x fs cs) (sym same.0) callers.4;
          finishes = h.finishes ∙ ap (λ (y : StayState). y.finishes) (sym r.rest);
          inherited = h.inherited ∙ ap (λ (y : StayState). y.inherited) (sym r.rest);
          away = h.away ∙ ap (λ (y : StayState). y.away) (sym r.rest);
          inside = h.inside ∙ ap (λ (y : StayState). y.inside) (sym r.rest);
          back = h.back ∙ ap (λ (y : StayState). y.back) (sym r.rest);
          run = subst (λ (y : StayState). IsOfRun setting.places y) (sym r.rest) (record { inherited = h.run.inherited; back = h.run.back });
        },
      )

  pub ret_resumes : (b : StayState) (out : Edges) → IsPlaced setting.program b → i.op ≡ op.Ret
      → Permits op.Ret (point_of setting.program function a.top i) h.top.state out → Resumes setting.program a i b
      → (t : Stay) × Does op.Ret sit (with_stay m key (Some t)) Works × StandsForStay setting.program assigned x b t
  ret_resumes b out placed o permits r = let back = gives_back function.result o refl permits.1.settles.0 in
      resumes_stay b placed r back.0 s.callers refl h.callers back.1 back.2

  -- ---- the next instruction

  pub next_stands : (b : StayState) (out : Edges) → out ≡ onward (point_of setting.program function a.top i) h.top.state
      → ((edge : ℕ × State) → IsIn edge out → Reaches (assigned a.top.function function h.top.is_function).0 edge) → GoesNext a.top b.top
      → StandsForFrame setting.program assigned x b.top (next s.top)
  next_stands b out is edges goes =
      frame_after setting.program assigned x a.top s.top h.top i fetched b.top (next s.top)
      (a.top.pc + 1) h.top.state a.top.registers.items a.top.loops
      (record { function_is = goes.function_is; pc_is = goes.pc_is; words_are = goes.words_are; loops_are = goes.loops_are })
      (edges (a.top.pc + 1, h.top.state) (subst (λ (o : Edges). IsIn (a.top.pc + 1, h.top.state) o) (sym is) (0, refl))) refl
      (ap (λ n. n + 1) h.top.pc_is) h.top.words h.top.homes h.top.slots h.top.loops

  -- ---- output

  -- what a register holds that is printed
  abbrev HoldsLine : Line → Type 0
  HoldsLine l = (v : Value) × (s.top.registers i.a ≡ Some v) × (line_of v ≡ Some (line_as l))

  printed : (l : Line) → IsPrinted setting.program heap a.top i.a l → HoldsLine l
  printed (line.Int z) (number, is) =
      let known = number function h.top.is_function (assigned a.top.function function h.top.is_function) h.top.state h.top.is_state in
      (Int z, reads_int x h.top.state s.top.registers a.top.registers.items i.a h.top.words known ∙ ap (λ n. Some (Int n)) (sym is), refl)
  printed (line.Text t) (text, is) =
      let v = reads x h.top.state s.top.registers a.top.registers.items i.a kind.Text h.top.words
      (text_known setting.program assigned x refl m.cells holds few a.top s.top h.top i fetched text) in
      (Text (string_bytes t), v.1 ∙ ap Some (v.2.2 ∙ ap Text (same_Some v.2.0 (string_bytes t) (sym v.2.1 ∙ is))), refl)

  pub print_moves : (b : StayState) (out : Edges) (l : Line) → IsPrinted setting.program heap a.top i.a l
      → Permits op.Print (point_of setting.program function a.top i) h.top.state out
      → ((edge : ℕ × State) → IsIn edge out → Reaches (assigned a.top.function function h.top.is_function).0 edge) → GoesNext a.top b.top
      → Does op.Print sit (with_stay (with_line m (line_as l)) key (Some (record s { top = next s.top }))) Works
      × StandsForFrame setting.program assigned x b.top (next s.top)
  print_moves b out l is permits edges goes =
      let v = printed l is in (
        (v.0, line_as l, v.1, v.2, (refl, refl)),
        next_stands b out (leads op.Print (point_of setting.program function a.top i) h.top.state out permits permits.1.settles.1) edges goes,
      )
