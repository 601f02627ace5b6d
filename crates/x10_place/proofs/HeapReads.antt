-- What operations read in the heap is there, since words have the kinds that the verifier knows.
use Rattle.std.proofs.Common.{◌≡◌, ℕ, ◌<◌, ◌≤◌, ◌==◌, Bool, true, false, length, Option, Some, None, refl, sym, ap, subst, ◌∙◌, arith}
use Rattle.std.specs.Prelude.{IsTrue, if◌then◌else◌, slice_get}
use Rattle.std.proofs.lemmas.Bool.{eq-eqb}
use Rattle.std.proofs.lemmas.Option.{slice_get_within, same_Some}
use Rattle.x10_kinds.specs.declared.kind.Kind.{Kind}
use Rattle.x10_kinds.specs.declared.kind.Kind.TheVariants as kind
use Rattle.x10_code.specs.declared.op.Op.{Op}
use Rattle.x10_code.specs.declared.op.Op.TheVariants as op
use Rattle.x10_code.specs.declared.instr.Instr.{Instr}
use Rattle.x10_model.specs.Modules.{Module, Function}
use Rattle.x10_code.specs.Table.{form_of}
use Rattle.x10_kinds.specs.declared.homes.Term.TheVariants as term
use Rattle.x10_model.specs.Results.{place_of}
use Rattle.x10_model.specs.Ranges.{IsThere}
use Rattle.x10_model.specs.Places as machine
use Rattle.x10_model.specs.Assignments.{State, HasAssignment, Edges, IsKind, Permits, field_of}
use Rattle.x10_model.proofs.Rules.{class_of_field}
use Rattle.x10_model.specs.Values.{Cells}
use Rattle.x10_verify.specs.Printing.{PrintsText}
use Rattle.x10_heap.specs.References.{home_of, id_of}
use Rattle.x10_heap.specs.Heaps.{HeapState}
use Rattle.x10_heap.specs.declared.export.Export.{Export}
use Rattle.x10_heap.specs.Words.{Context, HoldsHeap, has_class}
use Rattle.x10_place.specs.declared.call_frame.CallFrame.{CallFrame}
use Rattle.x10_place.specs.declared.route.Local.{Local}
use Rattle.x10_place.specs.declared.route.Route.{Route}
use Rattle.x10_place.specs.declared.route.Route.TheVariants as route
use Rattle.x10_place.specs.Frames as frames
use Rattle.x10_place.specs.Frames.{IsFetchedFor, NamesField, ReadsAt, word_at}
use Rattle.x10_place.specs.Making.{ReadsMake, NamesObject}
use Rattle.x10_place.specs.Routes.{route_of}
use Rattle.x10_place.specs.Homes.{place_in}
use Rattle.x10_finish.specs.Nesting.{nth}
use Rattle.x10_place.specs.Stays.{StayState, StoreState, Location, HasFinish, ReadsStore}
use Rattle.x10_place.specs.StandsFor.{context, Assigned, StandsForFrame}
use Rattle.x10_place.specs.WorkingStays.{IsTyped, IsTypedFrame, IsWorking}
use Rattle.x10_place.proofs.Words.{reads}
use Rattle.x10_place.proofs.Framed.{point_of, is_instr, in_range, small, rule}
use Rattle.x10_place.proofs.StandingFrames.{IsChecked}
use Rattle.x10_place.proofs.RoutesOfOne.{is_close_finish}
use Rattle.x10_place.proofs.StandingStays.{some_open}
use Rattle.x10_place.proofs.Objects.{object_at, field_there}

module _ (program : Module) (assigned : Assigned program) (x : Context) (same_classes : x.classes ≡ program.classes) (cells : Cells)
    (holds : HoldsHeap x cells) (few : x.places ≤ 64) (f : CallFrame) (c : machine.CallFrame) (h : StandsForFrame program assigned x f c) (i : Instr)
    (fetched : IsFetchedFor program f i) where
  -- a register that holds a text, or a rail
  text_there : (r : ℕ) → IsKind h.state r kind.Text → word_at f.registers.items r < length x.heap.texts
  text_there r k = let t = reads x h.state c.registers f.registers.items r kind.Text h.words k in
      slice_get_within x.heap.texts (word_at f.registers.items r) t.2.0 t.2.1

  rail_there : (r : ℕ) → IsKind h.state r kind.Rail → word_at f.registers.items r < length x.heap.rails
  rail_there r k = let t = reads x h.state c.registers f.registers.items r kind.Rail h.words k in
      slice_get_within x.heap.rails (word_at f.registers.items r) t.2.0 t.2.1

  -- an object with the field
  field_at : (r class n : ℕ) (k : Kind) → IsKind h.state r (kind.Obj class) → field_of program class n ≡ Some k
      → NamesField x.heap f.registers.items r n
  field_at r class n k known is =
      let of = class_of_field (slice_get program.classes class) n k is in
      let kinds = of.0 in
      let v = reads x h.state c.registers f.registers.items r (kind.Obj class) h.words known in
      let o = object_at x cells class kinds (word_at f.registers.items r) v.0 holds v.2 (ap (λ cs. slice_get cs class) same_classes ∙ of.1) in
      record { not_null = o.not_null; has_field = field_there x cells class kinds (word_at f.registers.items r) v.0 n k o of.2 }

  -- a global reference that is known to be of this place
  export_there : (r class : ℕ) → r < 64 → IsKind h.state r (kind.GRef class) → IsTrue (h.state.homes (term.Reg r) term.Here)
      → id_of (word_at f.registers.items r) < length x.heap.exports
  export_there r class small k known =
      let t = reads x h.state c.registers f.registers.items r (kind.GRef class) h.words k in
      let word = word_at f.registers.items r in
      let home : home_of word ≡ x.here = same_Some (home_of word) x.here
      (sym (ap place_in t.1 ∙ ap place_of t.2.3) ∙ h.homes (term.Reg r) term.Here small tt known) in
      there (slice_get x.heap.exports (id_of word)) refl (chosen (home_of word == x.here) (has_class (slice_get x.heap.exports (id_of word)) class)
      (x.far (home_of word) (id_of word) class) (eq-eqb (home_of word) x.here home) t.2.2)
    where
      chosen : (b p q : Bool) → b ≡ true → IsTrue (if b then p else q) → IsTrue p
      chosen true p q e n = n
      chosen false p q e n = absurd cc

      there : (o : Option Export) → slice_get x.heap.exports (id_of (word_at f.registers.items r)) ≡ o → IsTrue (has_class o class)
          → id_of (word_at f.registers.items r) < length x.heap.exports
      there None is named = absurd cc
      there (Some e) is named = slice_get_within x.heap.exports (id_of (word_at f.registers.items r)) e is

  -- where a PRINT prints a text, its register is known to hold one
  pub text_known : PrintsText program f.function f.pc → IsKind h.state i.a kind.Text
  text_known text = there text.function (same_Some text.function h.function (sym text.is_function ∙ h.is_function)) text.instr text.is_instr text.text
    where
      there : (g : Function) → g ≡ h.function → (j : Instr) → slice_get g.code f.pc ≡ Some j
          → ((d : HasAssignment program g) → (t : State) × (d.0 f.pc ≡ Some t) × (t.kinds j.a ≡ Some kind.Text)) → IsKind h.state i.a kind.Text
      there g e j j_is all =
          let at = subst (λ (q : Function). slice_get q.code f.pc ≡ Some j) e j_is in
          let same_instr : j ≡ i = same_Some j i (sym at ∙ is_instr program assigned x f c h i fetched) in
          let least = assigned f.function h.function h.is_function in
          let found = (subst (λ (q : Function). (d : HasAssignment program q) → (t : State) × (d.0 f.pc ≡ Some t) × (t.kinds j.a ≡ Some kind.Text)) e
          all) (least.0, least.1.consistent) in
          let same_state : found.0 ≡ h.state = same_Some found.0 h.state (sym found.1 ∙ h.is_state) in (
            kind.Text,
            subst (λ (t : State). t.kinds i.a ≡ Some kind.Text) same_state
                (subst (λ (q : Instr). found.0.kinds q.a ≡ Some kind.Text) same_instr found.2),
            refl,
          )

  pub prints_there : PrintsText program f.function f.pc → word_at f.registers.items i.a < length x.heap.texts
  prints_there text = text_there i.a (text_known text)

  register_small : i.op ≡ op.Gopen → i.b < 64
  register_small e =
      let lt : i.b < h.function.registers = subst (λ q. IsThere program h.function i (form_of q).b i.b) e
      (in_range program assigned x f c h i fetched).b in
      omega (arith, lt, (small program assigned x f c h i fetched).registers.1)

  -- what a route reads
  abbrev Read : Route → Type 0
  Read (route.Local l) = frames.Reads l x.heap f.registers.items i
  Read (route.Make k) = ReadsMake k x.heap f.registers.items i
  Read (route.Site k) = ReadsAt k x.places f.registers.items i
  Read route.Export = NamesObject x.heap f.registers.items i.b
  Read _ = Unit {0}

  place_there : (r : ℕ) → IsKind h.state r kind.Place → word_at f.registers.items r < x.places
  place_there r k = let t = reads x h.state c.registers f.registers.items r kind.Place h.words k in t.2.0

  object_there : (r class : ℕ) → IsKind h.state r (kind.Obj class) → NamesObject x.heap f.registers.items r
  object_there r class k =
      let t = reads x h.state c.registers f.registers.items r (kind.Obj class) h.words k in
      let some = t.2 in
      let lt = slice_get_within x.heap.objects some.number some.object some.is_there in
      record { not_null = omega (arith, some.word_is); there = omega (arith, some.word_is, lt) }

  -- the last line is checked for each operation that isn't named above it: these read nothing there
  reads_of : (o : Op) → i.op ≡ o → (out : Edges) → Permits o (point_of program h.function f i) h.state out → Read (route_of o)
  reads_of op.Tlen e out p = text_there i.b p.1.b
  reads_of op.Tcat e out p = (text_there i.b p.1.b, text_there i.c p.1.c)
  reads_of op.Get e out p = let asked = p.1.settles in field_at i.b asked.0 i.c asked.1 asked.2 asked.3
  reads_of op.Put e out p = let asked = p.1.settles in field_at i.a asked.0 i.c asked.1 asked.2 asked.3
  reads_of op.Rget e out p = rail_there i.b p.1.b
  reads_of op.Rset e out p = rail_there i.a p.1.a
  reads_of op.Rlen e out p = rail_there i.b p.1.b
  reads_of op.Placei e out p = let lt = place_there i.b p.1.b in omega (arith, lt, few)
  reads_of op.Nextp e out p = place_there i.b p.1.b
  reads_of op.Gnew e out p = object_there i.b p.1.settles.0 p.1.settles.1
  reads_of op.Gopen e out p = export_there i.b p.1.settles.0 (register_small e) p.1.settles.1 p.1.settles.2
  reads_of _ e out p = tt

  by_route : (r : Route) → route_of i.op ≡ r → Read r
  by_route r e = let at = rule program assigned x f c h i fetched in subst Read e (reads_of i.op refl at.0 at.1)

  pub local_reads : (l : Local) → route_of i.op ≡ route.Local l → frames.Reads l x.heap f.registers.items i
  local_reads l r = by_route (route.Local l) r

-- what the step of a stay reads
module _ (at : Location) (s : StoreState) (a : StayState) (w : IsWorking at s a) (checks : IsChecked at.program) (i : Instr)
    (fetched : IsFetchedFor at.program a.top i) where
  abbrev t : IsTyped at s.heap a
  t = w.typed

  abbrev x : Context
  x = context (record { program = at.program; places = at.places }) at.here s.heap t.far

  pub has_finish : i.op ≡ op.Fine → HasFinish a s
  has_finish e = let open_one = some_open at.program checks a i t.stands.placed fetched e in
      (open_one.0, open_one.1, open_one.2, (w.registered.are_open 0 open_one.0 (ap (λ ns. nth ns 0) open_one.2)).0)

  stored : (r : Route) → route_of i.op ≡ r → ReadsStore r at a s i
  stored (route.Local l) e = by_route at.program t.assigned x refl t.cells t.holds t.site.few a.top t.stay.top t.stands.top i fetched
      (route.Local l) e
  stored (route.Make k) e = by_route at.program t.assigned x refl t.cells t.holds t.site.few a.top t.stay.top t.stands.top i fetched (route.Make k) e
  stored (route.Site k) e = by_route at.program t.assigned x refl t.cells t.holds t.site.few a.top t.stay.top t.stands.top i fetched (route.Site k) e
  stored route.Export e = by_route at.program t.assigned x refl t.cells t.holds t.site.few a.top t.stay.top t.stands.top i fetched route.Export e
  stored route.Print e = prints_there at.program t.assigned x refl t.cells t.holds t.site.few a.top t.stay.top t.stands.top i fetched
  stored route.Call e = tt
  stored route.Return e = tt
  stored (route.Region inside) e = tt
  stored route.OpenFinish e = tt
  stored route.CloseFinish e = has_finish (is_close_finish i.op e)
  stored route.Async e = tt
  stored route.At e = tt
  stored route.Ata e = tt

  pub working_reads : ReadsStore (route_of i.op) at a s i
  working_reads = stored (route_of i.op) refl

pub frame_reads : (program : Module) (heap : HeapState) (f : CallFrame) → IsTypedFrame program heap f → (i : Instr) → IsFetchedFor program f i
    → (l : Local) → route_of i.op ≡ route.Local l → frames.Reads l heap f.registers.items i
frame_reads program heap f t i fetched l r = local_reads program t.assigned
    (context (record { program = program; places = t.places }) t.here heap t.far) refl t.cells t.holds t.site.few f t.frame t.stands i fetched l r
