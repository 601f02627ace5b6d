-- Operations of one call frame that go by a reference: IFOBJ, GET, HOME, GOPEN and IFSAME.
use Rattle.std.proofs.Common.{◌≡◌, ℕ, ◌+◌, Bool, true, false, List, Option, Some, None, refl, sym, ap, subst, ◌∙◌, inl, inr, arith}
use Rattle.std.specs.Prelude.{◌*◌, ◌==◌, IsTrue, option_map, if◌then◌else◌, slice_get, slice_set}
use Rattle.x10_kinds.specs.declared.kind.Kind.{Kind}
use Rattle.x10_kinds.specs.declared.kind.Kind.TheVariants as kind
use Rattle.x10_kinds.specs.declared.homes.Term.TheVariants as term
use Rattle.x10_kinds.specs.Equations.{joined}
use Rattle.x10_code.specs.declared.op.Op.TheVariants as op
use Rattle.x10_model.specs.Maps.{IsIn}
use Rattle.x10_model.specs.Values.{Place, Object, Ref}
use Rattle.x10_model.specs.Places.{with_stay, goes, next, writes}
use Rattle.x10_model.specs.Moves.{next_or_goes}
use Rattle.x10_model.specs.Results.{place_of}
use Rattle.x10_model.specs.Assignments.{State, Point, Edges, IsPlaced, Reaches}
use Rattle.x10_heap.specs.declared.export.Export.{Export}
use Rattle.x10_heap.specs.References.{home_of, id_of}
use Rattle.x10_heap.specs.Heaps.{HeapState, ObjectState}
use Rattle.x10_heap.specs.Words.{Context, IsWordOf, HoldsHeap, export_as, has_class}
use Rattle.x10_place.specs.declared.call_frame.CallFrame.{CallFrame}
use Rattle.x10_place.specs.declared.route.Local.TheVariants as local
use Rattle.x10_place.specs.Homes.{place_in}
use Rattle.x10_place.specs.Frames.{space_of, Becomes, Acts, CopiesUnless, GetsField, word_at, are_same}
use Rattle.x10_place.specs.StandsFor.{HoldsExports, IsWithinPlaces}
use Rattle.std.proofs.lemmas.Bool.{eqb-true, eq-eqb}
use Rattle.std.proofs.lemmas.Option.{slice_get-map, same_Some}
use Rattle.x10_place.proofs.Words.{Reads}
use Rattle.x10_place.proofs.Objects.{ObjectAt, object_at, word_in}
use Rattle.x10_place.proofs.Framed.{FrameAfter, after_of, onward, onward_or, gives}
use Rattle.x10_place.proofs.FrameMoves.{situated, Fetched, context_at, states_at, point_at, goes_to, writes_like, writes_word, goes_joined, Moved, room, edge_next, edge_first, edge_target, register_few, placed_in, register_small}

-- the export that a name is of
named_export : (o : Option Export) (class : ℕ) → IsTrue (has_class o class) → (e : Export) × (o ≡ Some e) × (e.class ≡ class)
named_export None class named = absurd cc
named_export (Some e) class named = (e, refl, eqb-true e.class class named)

module _ (fetch : Fetched) (g : CallFrame) (kept : HeapState) (out : Edges) (same : g.function ≡ fetch.f.function)
    (edges : (edge : ℕ × State) → IsIn edge out → Reaches (states_at fetch) edge) where
  open fetch use {setting, here, far, m, key, s, assigned, heap, f, h, i, fetched}

  abbrev x : Context
  x = context_at fetch

  abbrev states : ℕ → Option State
  states = states_at fetch

  abbrev point : Point
  point = point_at fetch

  went : (pc : ℕ) (words loops : List ℕ) → Becomes (space_of g kept) pc words loops heap → FrameAfter f g pc words loops
  went pc words loops b = after_of f g kept heap pc words loops same b

  -- a reference is copied where it isn't null
  pub copies : (class : ℕ) (b : Bool) → i.op ≡ op.Ifobj → (word_at f.registers.items i.b == 0) ≡ b
      → Reads x s.top.registers f.registers.items i.b (kind.Opt class) → CopiesUnless b (space_of f heap) i (space_of g kept)
      → out ≡ onward_or point (gives point h.state (kind.Obj class) None) h.state → Moved fetch op.Ifobj g
  copies class true e zero (v, is, inl null) c to = (
    goes s.top i.x,
    inr (is ∙ ap Some null.1, (refl, refl)),
    goes_to fetch g i.x h.state (went i.x f.registers.items f.loops c)
        (edge_target fetch out (gives point h.state (kind.Obj class) None) h.state edges to) refl,
  )
  copies class false e zero (v, is, inl null) c to = absurd (let f = eq-eqb (word_at f.registers.items i.b) 0 null.0 in cc)
  copies class true e zero (v, is, inr some) c to = absurd (let e = eqb-true (word_at f.registers.items i.b) 0 zero in
      omega (arith, e, some.word_is))
  copies class false e zero (v, is, inr some) c to = (
    writes s.top i.a v,
    inl (
      2 * some.number,
      is ∙ ap Some some.value_is,
      (
        ap (λ u. with_stay m key (Some (record s { top = writes s.top i.a u }))) some.value_is,
        refl,
      ),
    ),
    writes_word fetch g (kind.Obj class) v (word_at f.registers.items i.b) some (room fetch op.Ifobj e (λ a. a))
        (went (f.pc + 1) (slice_set f.registers.items i.a (word_at f.registers.items i.b)) f.loops c)
        (edge_first fetch out (gives point h.state (kind.Obj class) None) h.state edges to),
  )

  -- a field is read
  pub gets : HoldsHeap x m.cells → (class : ℕ) (kinds : List Kind) (k : Kind) → i.op ≡ op.Get
      → Reads x s.top.registers f.registers.items i.b (kind.Obj class)
      → slice_get setting.program.classes class ≡ Some kinds → slice_get kinds i.c ≡ Some k → GetsField (space_of f heap) i (space_of g kept)
      → out ≡ onward point (gives point h.state k None) → Moved fetch op.Get g
  gets held class kinds k e (v, is, some) classes known c to =
      let o : ObjectAt x m.cells class kinds (word_at f.registers.items i.b) v =
      object_at x m.cells class kinds (word_at f.registers.items i.b) v held some classes in
      let same-object : o.object ≡ c.object = same_Some o.object c.object (sym o.is_there ∙ c.is_object) in
      let field = word_in x kinds o.object.fields o.values i.c k o.words known in
      let same-word : field.0 ≡ c.word = same_Some field.0 c.word
      (sym field.2 ∙ subst (λ (q : ObjectState). slice_get q.fields i.c ≡ Some c.word) (sym same-object) c.is_field) in (
        writes s.top i.a field.1,
        (o.reference, class, o.values, field.1, is ∙ ap Some o.value_is, o.cell_is, field.3, (refl, refl)),
        writes_word fetch g k field.1 c.word (subst (λ w. IsWordOf x k w field.1) same-word field.4) (room fetch op.Get e (λ a. a))
            (went (f.pc + 1) (slice_set f.registers.items i.a c.word) f.loops c.becomes) (edge_next fetch out (gives point h.state k None) edges to),
      )

  -- the place of a global reference
  pub homes_in : (class : ℕ) → i.op ≡ op.Home → Reads x s.top.registers f.registers.items i.b (kind.GRef class)
      → Acts local.Home setting.program (space_of f heap) i (space_of g kept)
      → out ≡ onward point (gives point h.state kind.Place (Some (term.Reg i.b))) → Moved fetch op.Home g
  homes_in class e (v, is, (home, id, named, value_is)) home_acts to =
      let word = word_at f.registers.items i.b in (
        writes s.top i.a (Place (home_of word)),
        (home_of word, id_of word, class, is ∙ ap Some value_is, (refl, refl)),
        writes_like fetch g kind.Place (Some (term.Reg i.b)) (Place (home_of word)) (home_of word) (home, refl)
            (register_few fetch op.Home e (λ b. b), ap place_in is ∙ ap place_of value_is)
            (room fetch op.Home e (λ a. a)) (went (f.pc + 1) (slice_set f.registers.items i.a (home_of word)) f.loops home_acts)
            (edge_next fetch out (gives point h.state kind.Place (Some (term.Reg i.b))) edges to),
      )

  -- the object that a global reference of this place names
  pub opens : HoldsExports heap m.exports → (class : ℕ) → i.op ≡ op.Gopen → Reads x s.top.registers f.registers.items i.b (kind.GRef class)
      → IsTrue (h.state.homes (term.Reg i.b) term.Here) → Acts local.Open setting.program (space_of f heap) i (space_of g kept)
      → out ≡ onward point (gives point h.state (kind.Obj class) None) → Moved fetch op.Gopen g
  opens exported class e (v, is, (home, small_id, named, value_is)) known acts to =
      let word = word_at f.registers.items i.b in
      let at_home : home_of word ≡ here = same_Some (home_of word) here
      (sym (ap place_in is ∙ ap place_of value_is) ∙ h.homes (term.Reg i.b) term.Here (register_few fetch op.Gopen e (λ b. b)) tt known) in
      let here_named : IsTrue (has_class (slice_get heap.exports (id_of word)) class) =
      chosen (home_of word == here) (has_class (slice_get heap.exports (id_of word)) class) (far (home_of word) (id_of word) class)
      (eq-eqb (home_of word) here at_home) named in
      let found = named_export (slice_get heap.exports (id_of word)) class here_named in
      let same_export : found.0 ≡ acts.0 = same_Some found.0 acts.0 (sym found.1 ∙ acts.1) in
      let object = exported.named (id_of word) found.0 found.1 in
      let reference = 2 * found.0.object in
      let there_is : slice_get m.exports (id_of word) ≡ Some (record { class = class; object = reference }) =
      ap (λ es. slice_get es (id_of word)) exported.exports_are ∙ slice_get-map export_as heap.exports (id_of word)
      ∙ ap (option_map export_as) found.1 ∙ ap (λ c. Some (record { class = c; object = reference })) found.2 in (
        writes s.top i.a (Object reference),
        (id_of word, class, reference, is ∙ ap Some (value_is ∙ ap (λ p. Ref p (id_of word) class) at_home), there_is, (refl, refl)),
        writes_word fetch g (kind.Obj class) (Object reference) (acts.0.object + 1)
            (record {
              number = found.0.object;
              object = object.0;
              word_is = ap (λ (q : Export). q.object + 1) (sym same_export);
              is_there = object.1;
              class_is = object.2 ∙ found.2;
              value_is = refl;
            })
            (room fetch op.Gopen e (λ a. a)) (went (f.pc + 1) (slice_set f.registers.items i.a (acts.0.object + 1)) f.loops acts.2)
            (edge_next fetch out (gives point h.state (kind.Obj class) None) edges to),
      )
    where
      chosen : (b p q : Bool) → b ≡ true → IsTrue (if b then p else q) → IsTrue p
      chosen true p q e n = n
      chosen false p q e n = absurd cc

  -- two registers stand for one place, or they don't
  pub compares : IsWithinPlaces setting.program here setting.places → (b : Bool) → i.op ≡ op.Ifsame
      → are_same f.registers.items i.a i.b ≡ b → IsPlaced h.state i.a → IsPlaced h.state i.b
      → Becomes (space_of g kept) (if b then f.pc + 1 else i.x) f.registers.items f.loops heap
      → out ≡ onward_or point (record h.state { homes = joined h.state.homes (term.Reg i.a) (term.Reg i.b) }) h.state → Moved fetch op.Ifsame g
  compares site true e is ka kb c to =
      let v = placed_in fetch site i.a ka in
      let w = placed_in fetch site i.b kb in
      let same = eqb-true (home_of (word_at f.registers.items i.a)) (home_of (word_at f.registers.items i.b)) is in (
        next s.top,
        (
          v.0,
          w.0,
          home_of (word_at f.registers.items i.a),
          home_of (word_at f.registers.items i.b),
          v.1,
          w.1,
          v.2,
          w.2,
          (ap (λ b. with_stay m key (Some (record s { top = next_or_goes (situated setting here m key s h.function i) b }))) (sym is), refl),
        ),
        goes_joined fetch g (term.Reg i.a) (term.Reg i.b) (register_small fetch op.Ifsame e (λ a. a)) (register_few fetch op.Ifsame e (λ b. b))
            (ap place_in v.1 ∙ v.2 ∙ ap Some same ∙ sym (ap place_in w.1 ∙ w.2)) (went (f.pc + 1) f.registers.items f.loops c)
            (edge_first fetch out (record h.state { homes = joined h.state.homes (term.Reg i.a) (term.Reg i.b) }) h.state edges to),
      )
  compares site false e is ka kb c to =
      let v = placed_in fetch site i.a ka in
      let w = placed_in fetch site i.b kb in (
        goes s.top i.x,
        (
          v.0,
          w.0,
          home_of (word_at f.registers.items i.a),
          home_of (word_at f.registers.items i.b),
          v.1,
          w.1,
          v.2,
          w.2,
          (ap (λ b. with_stay m key (Some (record s { top = next_or_goes (situated setting here m key s h.function i) b }))) (sym is), refl),
        ),
        goes_to fetch g i.x h.state (went i.x f.registers.items f.loops c)
            (edge_target fetch out (record h.state { homes = joined h.state.homes (term.Reg i.a) (term.Reg i.b) }) h.state edges to) refl,
      )
