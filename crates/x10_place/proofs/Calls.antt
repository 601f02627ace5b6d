-- Calls: what the program does to its call frames is what the machine does to its own.
use Rattle.std.proofs.Common.{◌≡◌, ℕ, zero, suc, ◌+◌, ◌<◌, ◌≤◌, ◌^◌, List, [], ◌∷◌, length, replicate, Option, Some, None, refl, sym, ap, ap₂, subst, ◌∙◌, arith}
use Rattle.std.specs.Prelude.{IsTrue, slice_get, slice_index}
use Rattle.std.specs.List.{AllByRecursion}
use Rattle.std.proofs.lemmas.Option.{same_Some}
use Rattle.x10_kinds.specs.declared.kind.Kind.{Kind}
use Rattle.x10_kinds.specs.declared.kind.Kind.TheVariants as kind
use Rattle.x10_kinds.specs.declared.homes.Term.{Term}
use Rattle.x10_kinds.specs.declared.homes.Term.TheVariants as term
use Rattle.x10_kinds.specs.Equations.{IsTerm}
use Rattle.x10_copy.specs.Captured.{kinds_of}
use Rattle.x10_code.specs.declared.op.Op.TheVariants as op
use Rattle.x10_code.specs.declared.instr.Instr.{Instr}
use Rattle.x10_code.specs.Table.{form_of}
use Rattle.x10_model.specs.Modules.{Function, FitsImage, FitsSlot, takes_flag}
use Rattle.x10_model.specs.declared.slot.Slot.{Slot}
use Rattle.x10_model.specs.Ranges.{function_at, parameters_of, argument_count, AreArgumentRegisters, IsThere}
use Rattle.x10_model.specs.Values.{Value, Int, Place, Text, Rail, Object, Null, Ref, Cells, IsOfKind}
use Rattle.x10_model.specs.Signatures.{HasHome, FitsSlotAt, FitSlots}
use Rattle.x10_model.specs.Places as machine
use Rattle.x10_model.specs.declared.finish.Finish.{Finish}
use Rattle.x10_model.specs.Places.{Setting, Stay, innermost, innermost_of, Works, Begins, with_stay, next}
use Rattle.x10_model.specs.Moves.{Situation, Does, HoldsFrom, entry_frame, new_stay}
use Rattle.x10_model.specs.Results.{place_of}
use Rattle.x10_model.specs.Assignments.{State, Edges, SlotsAre, FitsAs, parameter_kind, entry_state, Permits}
use Rattle.x10_model.proofs.Rules.{first_slot, next_slots}
use Rattle.x10_verify.proofs.Wholes.{function_fits}
use Rattle.x10_place.specs.declared.call_frame.CallFrame.{CallFrame}
use Rattle.x10_heap.specs.Heaps.{HeapState}
use Rattle.x10_heap.specs.Words.{Context, IsWordOf, AreWordsOf, HoldsHeap}
use Rattle.x10_place.specs.Homes.{AreHomes, place_in, place_at}
use Rattle.x10_place.specs.Frames.{IsFetchedFor, IsEntered}
use Rattle.x10_place.specs.Stays.{StayState, IsPlaced, Calls, IsBegun, innermost_at}
use Rattle.x10_place.specs.StandsFor.{Far, context, Assigned, HoldRegisters, StandsForFrame, IsOfRun, StandsForStay}
use Rattle.x10_place.proofs.Words.{of_kind, reads, words_weaken}
use Rattle.x10_place.proofs.Homes.{homes_weaken, homes_entry}
use Rattle.x10_place.proofs.Framed.{has_state, point_of, in_range, small}
use Rattle.x10_place.proofs.FrameMoves.{situated}

-- ---- homes

ref_home : (cells : Cells) (v : Value) (c here : ℕ) → IsOfKind cells v (kind.GRef c) → place_of v ≡ Some here → HasHome here v
ref_home cells (Ref home id class) c here of e = same_Some home here e
ref_home cells (Int z) c here of e = absurd of
ref_home cells (Place p) c here of e = absurd of
ref_home cells (Text t) c here of e = absurd of
ref_home cells (Rail r) c here of e = absurd of
ref_home cells (Object r) c here of e = absurd of
ref_home cells Null c here of e = absurd of

-- a value whose kind may be said to have its home here has it, where it stands for here
has_home : (cells : Cells) (v : Value) (k : Kind) (here : ℕ) → IsTrue (takes_flag k) → IsOfKind cells v k → place_of v ≡ Some here → HasHome here v
has_home cells v (kind.GRef c) here flag of e = ref_home cells v c here of e
has_home cells v _ here flag of e = absurd cc

-- the term stands for a place
pub record IsTermOf (x : Context) (registers : ℕ → Option Value) (at : Term) (there : ℕ) : Type 0 where
  pub is_term : IsTerm at
  pub place_is : place_at x.here registers at ≡ Some there

-- what a register holds that fits a slot at a place
abbrev pub FitsWord : Context → Cells → ℕ → (ℕ → Option Value) → ℕ → ℕ → Slot → Type 0
FitsWord x cells there registers word r slot = (v : Value) × (registers r ≡ Some v) × FitsSlotAt (IsOfKind cells) there v slot
    × IsWordOf x slot.kind word v

pub fits_word : (classes : ℕ) (x : Context) (cells : Cells) (s : State) (registers : ℕ → Option Value) (words : List ℕ) (r : ℕ) (slot : Slot)
    (at : Term) (there : ℕ) → IsTermOf x registers at there → HoldsHeap x cells → r < 64 → FitsSlot classes slot → HoldRegisters x s registers words
    → AreHomes x.here s.homes registers → FitsAs s at r slot
    → FitsWord x cells there registers (slice_index words r) r slot
fits_word classes x cells s registers words r slot at there stands holds few fit typed homes fits-as =
    let v = reads x s registers words r slot.kind typed fits-as.0 in
    let of = of_kind x cells slot.kind (slice_index words r) v.0 holds v.2 in (
      v.0,
      v.1,
      record {
        kind = of;
        home = λ flag. has_home cells v.0 slot.kind there (fit.flag flag) of
            (sym (ap place_in v.1) ∙ homes (term.Reg r) at few stands.is_term (fits-as.1 flag) ∙ stands.place_is);
      },
      v.2,
    )

-- ---- arguments

-- so many words from r on
abbrev pub words_at : List ℕ → ℕ → ℕ → List ℕ
words_at words r zero = []
words_at words r (suc n) = slice_index words r ∷ words_at words (r + 1) n

-- what the registers from r on pass to a function's parameters at a place
pub record PassesWords (x : Context) (cells : Cells) (there : ℕ) (sit : Situation) (words : List ℕ) (r : ℕ) (slots : List Slot)
    (vs : List Value) : Type 0 where
  pub held : HoldsFrom sit r vs
  pub fit : FitSlots (IsOfKind cells) there vs slots
  pub along : AreWordsOf x (kinds_of slots) (words_at words r (length slots)) vs
  pub words_are : (k : ℕ) (want : Kind) → parameter_kind (slice_get slots k) ≡ Some want
      → (v : Value) × (slice_get vs k ≡ Some v) × IsWordOf x want (slice_index words (r + k)) v

kind_is : (slot : Slot) (want : Kind) → parameter_kind (Some slot) ≡ Some want → slot.kind ≡ want
kind_is slot want e = same_Some slot.kind want e

module _ (classes : ℕ) (x : Context) (cells : Cells) (holds : HoldsHeap x cells) (sit : Situation) (s : State) (words : List ℕ)
    (typed : HoldRegisters x s sit.stay.top.registers words) (homes : AreHomes x.here s.homes sit.stay.top.registers) (to : Term) (there : ℕ)
    (stands : IsTermOf x sit.stay.top.registers to there) where
  passes_words : (r : ℕ) (slots : List Slot) → r + length slots ≤ 64 → AllByRecursion (FitsSlot classes) slots → SlotsAre s to r slots
      → (vs : List Value) × PassesWords x cells there sit words r slots vs
  passes_words r [] few all fit = ([], record { held = tt; fit = tt; along = tt; words_are = λ k want e. absurd cc })
  passes_words r (slot ∷ slots) few all fit =
      let v = fits_word classes x cells s sit.stay.top.registers words r slot to there stands holds (omega (arith, few)) all.0 typed homes
      (first_slot s to r slot slots fit) in
      let rest = passes_words (r + 1) slots (omega (arith, few)) all.1 (next_slots s to r slot slots fit) in (
        v.0 ∷ rest.0,
        record { held = (v.1, rest.1.held); fit = (v.2, rest.1.fit); along = (v.3, rest.1.along); words_are = λ k want e. at k want e v rest },
      )
    where
      at : (k : ℕ) (want : Kind) → parameter_kind (slice_get (slot ∷ slots) k) ≡ Some want
          → (v : FitsWord x cells there sit.stay.top.registers (slice_index words r) r slot)
          → (rest : (vs : List Value) × PassesWords x cells there sit words (r + 1) slots vs)
          → (u : Value) × (slice_get (v.0 ∷ rest.0) k ≡ Some u) × IsWordOf x want (slice_index words (r + k)) u
      at zero want e v rest = (
        v.0,
        refl,
        subst (λ n. IsWordOf x want (slice_index words n) v.0) (omega arith)
            (subst (λ k. IsWordOf x k (slice_index words r) v.0) (kind_is slot want e) v.3),
      )
      at (suc k) want e v rest = let u = rest.1.words_are k want e in
          (u.0, u.1, subst (λ n. IsWordOf x want (slice_index words n) u.0) (omega arith) u.2)

pub no_turns : (n slot : ℕ) → slice_index (replicate n 0) slot ≡ 0
no_turns zero slot = refl
no_turns (suc n) zero = refl
no_turns (suc n) (suc slot) = no_turns n slot

-- ---- the call

slot_below : (slots : List Slot) (r : ℕ) (want : Kind) → parameter_kind (slice_get slots r) ≡ Some want → r < length slots
slot_below [] r want e = absurd cc
slot_below (slot ∷ slots) zero want e = omega arith
slot_below (slot ∷ slots) (suc r) want e = let h : r < length slots = slot_below slots r want e in omega arith

module _ (setting : Setting) (here : ℕ) (far : Far) (m : machine.Place) (key : ℕ) (s : Stay) (assigned : Assigned setting.program) (heap : HeapState)
    (holds : HoldsHeap (context setting here heap far) m.cells) (a : StayState)
    (h : StandsForStay setting.program assigned (context setting here heap far) a s) (i : Instr)
    (fetched : IsFetchedFor setting.program a.top i) where
  abbrev x : Context
  x = context setting here heap far

  abbrev function : Function
  function = h.top.function

  abbrev sit : Situation
  sit = situated setting here m key s function i

  -- the callee's call frame, at its first instruction
  entered_stands : (callee : Function) (vs : List Value) (f : CallFrame) → length callee.parameters ≤ 16
      → (e : IsEntered setting.program a.top.registers.items i f) → function_at setting.program i.x ≡ Some callee
      → PassesWords x m.cells here sit a.top.registers.items i.b callee.parameters vs
      → StandsForFrame setting.program assigned x f (entry_frame i.x vs)
  entered_stands callee vs f few e is passed =
      let start = (assigned i.x callee is).1.consistent.entry in
      let state = has_state setting.program assigned i.x f.function 0 f.pc start.0 (sym e.function_is) (sym e.pc_is) (callee, is, start.1) in
      record {
        function_is = sym e.function_is;
        pc_is = sym e.pc_is;
        function = state.0;
        is_function = state.1;
        state = start.0;
        is_state = state.2;
        words = words_weaken x (entry_state callee) start.0 (slice_get vs) f.registers.items start.2 typed;
        homes = homes_weaken here (entry_state callee) start.0 (slice_get vs) start.2
            (homes_entry m.cells here callee vs (omega (arith, few)) passed.fit);
        slots = ap length e.loops_are;
        loops = λ slot lt. sym (ap (λ ls. slice_index ls slot) e.loops_are ∙ no_turns 8 slot);
      }
    where
      typed : HoldRegisters x (entry_state callee) (slice_get vs) f.registers.items
      typed r want k =
          let v = passed.words_are r want k in
          let same : e.callee ≡ callee = same_Some e.callee callee (sym e.is_callee ∙ is) in
          let lt : r < length e.callee.parameters = subst (λ (g : Function). r < length g.parameters) (sym same)
          (slot_below callee.parameters r want k) in
          (v.0, v.1, subst (λ w. IsWordOf x want w v.0) (sym (e.arguments r lt)) v.2)

  -- what an instruction passes to a function at a place
  pub passed_to : (to : Term) (there : ℕ) → IsTermOf x s.top.registers to there → (callee : Function) → FitsImage setting.program
      → function_at setting.program i.x ≡ Some callee → SlotsAre h.top.state to i.b callee.parameters
      → i.b + length callee.parameters ≤ function.registers
      → (vs : List Value) × PassesWords x m.cells there sit a.top.registers.items i.b callee.parameters vs
  passed_to to there stands callee image is slots counted =
      let few = (small setting.program assigned x a.top s.top h.top i fetched).registers.1 in
      passes_words (length setting.program.classes) x m.cells holds sit h.top.state a.top.registers.items h.top.words h.top.homes to there stands i.b
      callee.parameters (omega (arith, counted, few)) (function_fits setting.program i.x callee image is).slots slots

  -- what a call, or the begin of an activity, passes
  passed : (callee : Function) → FitsImage setting.program → function_at setting.program i.x ≡ Some callee
      → SlotsAre h.top.state term.Here i.b callee.parameters → i.b + length callee.parameters ≤ function.registers
      → (vs : List Value) × PassesWords x m.cells here sit a.top.registers.items i.b callee.parameters vs
  passed callee image is slots counted = passed_to term.Here here (record { is_term = tt; place_is = refl }) callee image is slots counted

  pub call_moves : (b : StayState) (out : Edges) → FitsImage setting.program → IsPlaced setting.program b → i.op ≡ op.Call
      → Permits op.Call (point_of setting.program function a.top i) h.top.state out → Calls setting.program a i b
      → (t : Stay) × Does op.Call sit (with_stay m key (Some t)) Works × StandsForStay setting.program assigned x b t
  call_moves b out image placed o permits calls =
      let callee = permits.1.settles.0 in
      let is = permits.1.settles.1.there in
      let range = subst (λ q. IsThere setting.program function i (form_of q).b i.b) o
      (in_range setting.program assigned x a.top s.top h.top i fetched).b in
      let count : AreArgumentRegisters function (argument_count setting.program i op.Call) i.b =
      subst (λ q. AreArgumentRegisters function (argument_count setting.program i q) i.b) o range in
      let counted : i.b + length callee.parameters ≤ function.registers =
      subst (λ g. i.b + length (parameters_of g) ≤ function.registers) is count.1 in
      let passes = passed callee image is permits.1.settles.1.arguments counted in (
        record s { top = entry_frame i.x passes.0; callers = s.top ∷ s.callers },
        (callee, passes.0, record { callee_is = is; held = passes.1.held; fit = passes.1.fit }, refl, refl),
        record {
          placed = placed;
          top = entered_stands callee passes.0 b.top (function_fits setting.program i.x callee image is).parameters calls.entered is passes.1;
          callers = (a.callers, a.top, ap (λ (y : StayState). y.callers) calls.rest, h.top, h.callers);
          finishes = h.finishes ∙ ap (λ (y : StayState). y.finishes) (sym calls.rest);
          inherited = h.inherited ∙ ap (λ (y : StayState). y.inherited) (sym calls.rest);
          away = h.away ∙ ap (λ (y : StayState). y.away) (sym calls.rest);
          inside = h.inside ∙ ap (λ (y : StayState). y.inside) (sym calls.rest);
          back = h.back ∙ ap (λ (y : StayState). y.back) (sym calls.rest);
          run = subst (λ (y : StayState). IsOfRun setting.places y) (sym calls.rest) (record { inherited = h.run.inherited; back = h.run.back });
        },
      )

  -- its innermost finish is of a place of the run
  pub innermost_home : (inherited : Finish) (ns : List ℕ) → here < setting.places → inherited.home < setting.places
      → (innermost_of here inherited ns).home < setting.places
  innermost_home inherited [] within lt = lt
  innermost_home inherited (n ∷ ns) within lt = within

  -- the activity that begins, and what of it is said
  pub record Begun (other : ℕ) (c : StayState) : Type 0 where
    pub child : Stay
    pub does : m.stays other ≡ None → Does op.Async sit (with_stay (with_stay m key (Some (record s { top = next s.top }))) other (Some child))
        (Begins other i.x (innermost here s))
    pub stands : StandsForStay setting.program assigned x c child

  pub begin_moves : (other : ℕ) (c : StayState) (out : Edges) → FitsImage setting.program → IsPlaced setting.program c → i.op ≡ op.Async
      → Permits op.Async (point_of setting.program function a.top i) h.top.state out
      → here < setting.places → (innermost_at here a).number < 2 ^ 32 → IsBegun setting.program a.top.registers.items i (innermost_at here a) c
      → Begun other c
  begin_moves other c out image placed o permits within few begun =
      let callee = permits.1.settles.0 in
      let is = permits.1.settles.1.there in
      let range = subst (λ q. IsThere setting.program function i (form_of q).b i.b) o
      (in_range setting.program assigned x a.top s.top h.top i fetched).b in
      let count : AreArgumentRegisters function (argument_count setting.program i op.Async) i.b =
      subst (λ q. AreArgumentRegisters function (argument_count setting.program i q) i.b) o range in
      let counted : i.b + length callee.parameters ≤ function.registers =
      subst (λ g. i.b + length (parameters_of g) ≤ function.registers) is count.1 in
      let passes = passed callee image is permits.1.settles.1.arguments counted in
      let under : innermost here s ≡ innermost_at here a = ap₂ (λ f ns. innermost_of here f ns) h.inherited h.finishes in
      record {
        child = new_stay i.x passes.0 (innermost here s) None;
        does = λ free. (
          callee,
          passes.0,
          other,
          record { callee_is = is; held = passes.1.held; fit = passes.1.fit },
          permits.1.settles.2,
          free,
          refl,
          refl,
        );
        stands = record {
          placed = placed;
          top = entered_stands callee passes.0 c.top (function_fits setting.program i.x callee image is).parameters begun.entered is passes.1;
          callers = begun.callers;
          finishes = sym begun.finishes;
          inherited = under ∙ sym begun.inherited;
          away = sym begun.away;
          inside = sym begun.inside;
          back = sym begun.back;
          run = record {
            inherited = subst (λ (f : Finish). (f.home < setting.places) × (f.number < 2 ^ 32)) (sym begun.inherited)
                (innermost_home a.inherited a.finishes within h.run.inherited.0, few);
            back = λ origin e. absurd (let none = begun.back in cc);
          };
        };
      }
