-- Operations that go by the place, and global references: what the program does to its words is what the machine does to
-- its values.
use Rattle.std.proofs.Common.{◌≡◌, ℕ, ℤ, ◌+◌, ◌*◌, ◌<◌, ◌^◌, Bool, true, false, List, [], ◌∷◌, ◌++◌, length, map, Option, Some, None, refl, sym, ap, ap₂, subst, ◌∙◌, inl, inr, arith}
use Rattle.std.specs.Prelude.{◌==◌, ◌%◌, pos, negsuc, nat_lt, IsTrue, if◌then◌else◌, slice_get, slice_set}
use Rattle.std.proofs.lemmas.Bool.{eqb-true, eq-eqb, ltb-true, cases_eq}
use Rattle.std.proofs.lemmas.Nat.{mod_below}
use Rattle.std.proofs.lemmas.List.{length-map}
use Rattle.std.proofs.lemmas.Option.{same_Some}
use Rattle.x10_kinds.specs.declared.kind.Kind.TheVariants as kind
use Rattle.x10_kinds.specs.declared.homes.Term.TheVariants as term
use Rattle.x10_kinds.specs.Equations.{joined}
use Rattle.x10_code.specs.declared.op.Op.{Op}
use Rattle.x10_code.specs.declared.op.Op.TheVariants as op
use Rattle.x10_code.specs.declared.rule.Effect.{Effect}
use Rattle.x10_code.specs.Table.{form_of}
use Rattle.x10_model.specs.Maps.{IsIn}
use Rattle.x10_model.specs.Ranges.{IsThere}
use Rattle.x10_model.specs.Values.{Value, Int, Place, Object, Ref, Fields, IsOfKind}
use Rattle.x10_model.specs.Places as machine
use Rattle.x10_model.specs.Places.{Works, with_stay, goes, next, writes}
use Rattle.x10_model.specs.Moves.{Situation, Does, writes_or_goes, next_or_goes}
use Rattle.x10_model.specs.Results.{place_number}
use Rattle.x10_model.specs.Assignments.{State, Point, Edges, IsKind, IsPlaced, Permits, Reaches, edges_of}
use Rattle.x10_model.proofs.Rules.{leads}
use Rattle.x10_heap.specs.declared.export.Export.{Export}
use Rattle.x10_heap.specs.References.{reference_word, home_of, id_of}
use Rattle.x10_heap.specs.Heaps.{HeapState, ObjectState, with_export}
use Rattle.x10_heap.specs.Words.{Context, IsWordOf, HoldsHeap, export_as, has_class, is_named}
use Rattle.x10_heap.proofs.GrownHeaps.{Grows, grows_not, written_last, last_kept, holds_texts}
use Rattle.x10_place.specs.declared.call_frame.CallFrame.{CallFrame}
use Rattle.x10_place.specs.declared.route.Route.TheVariants as route
use Rattle.x10_place.specs.declared.route.Site.{Site}
use Rattle.x10_place.specs.declared.route.Site.TheVariants as site
use Rattle.x10_place.specs.Homes.{place_in}
use Rattle.x10_place.specs.Frames.{space_of, Becomes, Writes, Puts, ActsAt, numbered, is_at, object_in, int_at, word_at}
use Rattle.x10_place.specs.Making.{ExportsObject}
use Rattle.x10_place.specs.Routes.{route_of}
use Rattle.x10_place.specs.StandsFor.{context, StandsForFrame, HoldsExports, IsWithinPlaces}
use Rattle.x10_place.proofs.Words.{Reads, reads, reads_int, of_kind}
use Rattle.x10_place.proofs.Framed.{FrameAfter, after_of, onward, onward_or, gives}
use Rattle.x10_place.proofs.FrameMoves.{situated, Fetched, context_at, states_at, point_at, beside, goes_to, writes_like, writes_word, goes_joined, room, edge_next, edge_first, edge_target, placed_in, register_small, Done}

abbrev as_place : Option ℕ → Option Value
as_place None = None
as_place (Some n) = Some (Place n)

-- the place with a number, as the machine has it
numbered_is : (places : ℕ) (z : ℤ) (o : Option ℕ) → numbered places z ≡ o → place_number places z ≡ as_place o
numbered_is places (pos n) o e = chosen (nat_lt n places) n o e
  where
    chosen : (b : Bool) (n : ℕ) (o : Option ℕ) → (if b then Some n else None) ≡ o → (if b then Some (Place n) else None) ≡ as_place o
    chosen true n o e = ap as_place e
    chosen false n o e = ap as_place e
numbered_is places (negsuc n) o e = ap as_place e

below : (places : ℕ) (z : ℤ) (n : ℕ) → numbered places z ≡ Some n → n < places
below places (pos m) n e = chosen (nat_lt m places) m n refl e
  where
    chosen : (b : Bool) (m n : ℕ) → nat_lt m places ≡ b → (if b then Some m else None) ≡ Some n → n < places
    chosen true m n lt e = subst (λ k. k < places) (same_Some m n e) (ltb-true m places lt)
    chosen false m n lt e = absurd cc
below places (negsuc m) n e = absurd cc

map_last : {A B : Type 0} (f : A → B) (xs : List A) (x : A) → map f (xs ++ x ∷ []) ≡ map f xs ++ f x ∷ []
map_last f [] x = refl
map_last f (y ∷ xs) x = ap (λ ys. f y ∷ ys) (map_last f xs x)

home_is : (here id : ℕ) → here < 65536 → home_of (reference_word here id) ≡ here
home_is here id lt = omega (arith, lt)

id_is : (here id : ℕ) → here < 65536 → id_of (reference_word here id) ≡ id
id_is here id lt = omega (arith, lt)

module _ (fetch : Fetched) (held : HoldsHeap (context_at fetch) fetch.m.cells) (exported : HoldsExports fetch.heap fetch.m.exports)
    (locality : IsWithinPlaces fetch.setting.program fetch.here fetch.setting.places) where
  open fetch use {setting, here, far, m, key, s, assigned, heap, f, h, i, fetched}

  abbrev x : Context
  x = context_at fetch

  abbrev y : HeapState → Context
  y new = context setting here new far

  abbrev sit : Situation
  sit = situated setting here m key s h.function i

  abbrev Result : Op → CallFrame → HeapState → Type 0
  Result o g new = Done fetch o g new

  abbrev states : ℕ → Option State
  states = states_at fetch

  abbrev point : Point
  point = point_at fetch

  register : (o : Op) → i.op ≡ o → (IsThere setting.program h.function i (form_of o).a i.a → i.a < h.function.registers)
      → i.a < length f.registers.items
  register = room fetch

  module _ (g : CallFrame) (kept : HeapState) (out : Edges) (same : g.function ≡ f.function)
      (edges : (edge : ℕ × State) → IsIn edge out → Reaches states edge) where
    went : (pc : ℕ) (words loops : List ℕ) → Becomes (space_of g kept) pc words loops heap → FrameAfter f g pc words loops
    went pc words loops b = after_of f g kept heap pc words loops same b

    -- the heap is as it was
    unchanged : (o : Op) (top : machine.CallFrame) → kept ≡ heap → Does o sit (with_stay m key (Some (record s { top = top }))) Works
        → StandsForFrame setting.program assigned x g top → Result o g kept
    unchanged o top e does stands = subst (λ hp. Result o g hp) (sym e)
        (record {
          top = top;
          cells = m.cells;
          exports = m.exports;
          does = does;
          stands = stands;
          holds = held;
          grows = grows_not x;
          exported = exported;
        })

    counts : i.op ≡ op.Count → Writes (space_of f heap) i (pos setting.places) (space_of g kept)
        → out ≡ onward point
        (gives point h.state kind.Int None) → Result op.Count g kept
    counts e w to = unchanged op.Count (writes s.top i.a (Int (pos setting.places))) w.2.heap_is (refl, refl)
        (writes_word fetch g kind.Int (Int (pos setting.places)) w.0 (ap Int w.1)
        (register op.Count e (λ a. a)) (went (f.pc + 1) (slice_set f.registers.items i.a w.0) f.loops w.2)
        (edge_next fetch out
        (gives point h.state kind.Int None) edges to))

    next_place : i.op ≡ op.Nextp → Reads x s.top.registers f.registers.items i.b kind.Place
        → Puts (Some ((word_at f.registers.items i.b + 1) % setting.places)) (space_of f heap) i (space_of g kept)
        → out ≡ onward point
        (gives point h.state kind.Place None) → Result op.Nextp g kept
    next_place e (v, is, (lt, value_is)) p to =
        let word = (word_at f.registers.items i.b + 1) % setting.places in
        unchanged op.Nextp (writes s.top i.a (Place word)) p.heap_is (word_at f.registers.items i.b, is ∙ ap Some value_is, (refl, refl))
        (writes_word fetch g kind.Place (Place word) word
        (mod_below (word_at f.registers.items i.b + 1) setting.places (omega (arith, lt)), refl) (register op.Nextp e (λ a. a))
        (went (f.pc + 1) (slice_set f.registers.items i.a word) f.loops p)
        (edge_next fetch out
        (gives point h.state kind.Place None) edges to))

    numbers : (o : Option ℕ) → i.op ≡ op.Placen → numbered setting.places (int_at f.registers.items i.b) ≡ o → IsKind h.state i.b kind.Int
        → Puts o (space_of f heap) i (space_of g kept)
        → out ≡ onward_or point
        (gives point h.state kind.Place None) h.state → Result op.Placen g kept
    numbers (Some n) e is k p to = unchanged op.Placen (writes s.top i.a (Place n)) p.heap_is (
      int_at f.registers.items i.b,
      reads_int x h.state s.top.registers f.registers.items i.b h.words k,
      (
        ap (λ o. with_stay m key (Some (record s { top = writes_or_goes sit o })))
            (sym (numbered_is setting.places (int_at f.registers.items i.b) (Some n) is)),
        refl,
      ),
    )
        (writes_word fetch g kind.Place (Place n) n
        (below setting.places (int_at f.registers.items i.b) n is, refl) (register op.Placen e (λ a. a))
        (went (f.pc + 1) (slice_set f.registers.items i.a n) f.loops p)
        (edge_first fetch out
        (gives point h.state kind.Place None) h.state edges to))
    numbers None e is k p to = unchanged op.Placen (goes s.top i.x) p.heap_is (
      int_at f.registers.items i.b,
      reads_int x h.state s.top.registers f.registers.items i.b h.words k,
      (
        ap (λ o. with_stay m key (Some (record s { top = writes_or_goes sit o })))
            (sym (numbered_is setting.places (int_at f.registers.items i.b) None is)),
        refl,
      ),
    )
        (goes_to fetch g i.x h.state (went i.x f.registers.items f.loops p)
        (edge_target fetch out
        (gives point h.state kind.Place None) h.state edges to) refl)

    -- a register stands for this place, or for another one
    is_here : (b : Bool) → i.op ≡ op.Ifhere → is_at f.registers.items i.a here ≡ b → IsPlaced h.state i.a
        → Becomes (space_of g kept) (if b then f.pc + 1 else i.x) f.registers.items f.loops heap
        → out ≡ onward_or point
        (record h.state { homes = joined h.state.homes (term.Reg i.a) term.Here }) h.state → Result op.Ifhere g kept
    is_here true e is k c to =
        let v = placed_in fetch locality i.a k in
        unchanged op.Ifhere (next s.top) c.heap_is (
          v.0,
          home_of (word_at f.registers.items i.a),
          v.1,
          v.2,
          (ap (λ b. with_stay m key (Some (record s { top = next_or_goes sit b }))) (sym is), refl),
        )
        (goes_joined fetch g (term.Reg i.a) term.Here
        (register_small fetch op.Ifhere e (λ a. a)) tt
        (ap place_in v.1 ∙ v.2 ∙ ap Some (eqb-true (home_of (word_at f.registers.items i.a)) here is)) (went (f.pc + 1) f.registers.items f.loops c)
        (edge_first fetch out
        (record h.state { homes = joined h.state.homes (term.Reg i.a) term.Here }) h.state edges to))
    is_here false e is k c to =
        let v = placed_in fetch locality i.a k in
        unchanged op.Ifhere (goes s.top i.x) c.heap_is (
          v.0,
          home_of (word_at f.registers.items i.a),
          v.1,
          v.2,
          (ap (λ b. with_stay m key (Some (record s { top = next_or_goes sit b }))) (sym is), refl),
        )
        (goes_to fetch g i.x h.state (went i.x f.registers.items f.loops c)
        (edge_target fetch out
        (record h.state { homes = joined h.state.homes (term.Reg i.a) term.Here }) h.state edges to) refl)

    -- where an operation leads, with the effect that its row settles
    edges_by : {e : Effect} (o : Op) (permits : Permits o point h.state out) → permits.0 ≡ e
        → out ≡ edges_of o point h.state e
    edges_by o permits same = leads o point h.state out permits same

    pub site_moves : (k : Site) (o : Op) → i.op ≡ o → route_of o ≡ route.Site k
        → Permits o point h.state out
        → ActsAt k here setting.places (space_of f heap) i (space_of g kept) → Result o g kept
    site_moves site.Here op.Here e r permits p = unchanged op.Here (writes s.top i.a (Place here)) p.heap_is (refl, refl)
        (writes_like fetch g kind.Place (Some term.Here) (Place here) here (locality.within, refl)
        (tt, refl) (register op.Here e (λ a. a)) (went (f.pc + 1) (slice_set f.registers.items i.a here) f.loops p)
        (edge_next fetch out
        (gives point h.state kind.Place (Some term.Here)) edges
        (edges_by op.Here permits permits.1.settles)))
    site_moves site.Count op.Count e r permits p = counts e p (edges_by op.Count permits permits.1.settles)
    site_moves site.Next op.Nextp e r permits p = next_place e
        (reads x h.state s.top.registers f.registers.items i.b kind.Place h.words permits.1.b) p (edges_by op.Nextp permits permits.1.settles)
    site_moves site.Numbered op.Placen e r permits p = numbers (numbered setting.places (int_at f.registers.items i.b)) e refl permits.1.b p
        (edges_by op.Placen permits permits.1.settles)
    site_moves site.IsHere op.Ifhere e r permits p = is_here (is_at f.registers.items i.a here) e refl permits.1.settles.0 p
        (edges_by op.Ifhere permits permits.1.settles.1)
    site_moves k o e r permits p = absurd cc

    -- ---- global references

    module _ (class : ℕ) (made : ExportsObject here (space_of f heap) i (space_of g kept)) (is_class : made.object.class ≡ class) where
      abbrev export : Export
      export = record { class = made.object.class; object = object_in f.registers.items i.b }

      abbrev new : HeapState
      new = with_export heap made.object.class (object_in f.registers.items i.b)

      grows : Grows x (y new)
      grows = record {
        classes = refl;
        here = refl;
        places = refl;
        objects = λ n o is. (o, is, refl);
        rails = λ n bytes is. (bytes, is);
        texts = λ n t is. is;
        exports = λ k q is. last_kept heap.exports export k q is;
        far = λ home k c is. is;
      }

      low : here < 65536
      low = let lt = locality.within in omega (arith, lt, locality.few)

      many : length m.exports ≡ length heap.exports
      many = ap (λ es. length es) exported.exports_are ∙ length-map heap.exports export_as

      abbrev IsReference : ℕ → ℕ → Type 0
      IsReference p q = (p < setting.places) × (q < 2 ^ 32) × IsTrue (is_named (y new) p q class)
          × (Ref here (length m.exports) made.object.class ≡ Ref p q class)

      named_here : (b : Bool) (o : Option Export) (q : Bool) → b ≡ true → o ≡ Some export → IsTrue (if b then has_class o class else q)
      named_here true o q e is = subst (λ r. IsTrue (has_class r class)) (sym is) (eq-eqb made.object.class class is_class)
      named_here false o q e is = absurd cc

      reference : IsReference here (length heap.exports)
      reference = (
        locality.within,
        made.few,
        named_here (here == here) (slice_get new.exports (length heap.exports)) (far here (length heap.exports) class) (eq-eqb here here refl)
            (written_last heap.exports export).at,
        ap₂ (λ k c. Ref here k c) many is_class,
      )

      word_is : IsWordOf (y new) (kind.GRef class) (reference_word here (length heap.exports)) (Ref here (length m.exports) made.object.class)
      word_is = subst (λ p. IsReference p (id_of (reference_word here (length heap.exports)))) (sym (home_is here (length heap.exports) low))
          (subst (λ q. IsReference here q) (sym (id_is here (length heap.exports) low)) reference)

      all_named : (k : ℕ) (q : Export) → slice_get new.exports k ≡ Some q
          → (o : ObjectState) × (slice_get heap.objects q.object ≡ Some o) × (o.class ≡ q.class)
      all_named k q at = elim (cases_eq k (length heap.exports)) [
        | inl same_id ↦
            (let is : export ≡ q = same_Some export q (sym (written_last heap.exports export).at ∙ ap (λ n. slice_get new.exports n) (sym same_id)
            ∙ at) in
            subst (λ (r : Export). (o : ObjectState) × (slice_get heap.objects r.object ≡ Some o) × (o.class ≡ r.class)) is
            (made.object, made.is_object, refl))
        | inr off ↦ exported.named k q (sym ((written_last heap.exports export).others k off) ∙ at)
      ]

      now_exported : HoldsExports new (m.exports ++ export_as export ∷ [])
      now_exported = record {
        exports_are = ap (λ es. es ++ export_as export ∷ []) exported.exports_are
            ∙ sym (map_last export_as heap.exports export);
        named = all_named;
      }

      pub exports_object : i.op ≡ op.Gnew → (fields : List Value) → s.top.registers i.b ≡ Some (Object (2 * object_in f.registers.items i.b))
          → m.cells (2 * object_in f.registers.items i.b) ≡ Some (Fields made.object.class fields)
          → out ≡ onward point
          (gives point h.state (kind.GRef class) (Some term.Here)) → Result op.Gnew g kept
      exports_object e fields is cell to = subst (λ hp. Result op.Gnew g hp) (sym made.becomes.heap_is) (record {
        top = writes s.top i.a (Ref here (length m.exports) made.object.class);
        cells = m.cells;
        exports = m.exports ++ export_as export ∷ [];
        does = (2 * object_in f.registers.items i.b, made.object.class, fields, is, cell, (refl, refl));
        stands = writes_like (beside fetch new grows) g
            (kind.GRef class) (Some term.Here) (Ref here (length m.exports) made.object.class)
            (reference_word here (length heap.exports)) word_is (tt, refl) (register op.Gnew e (λ a. a))
            (after_of f g kept new (f.pc + 1) (slice_set f.registers.items i.a (reference_word here (length heap.exports))) f.loops same
            made.becomes)
            (edge_next fetch out
            (gives point h.state (kind.GRef class) (Some term.Here)) edges to);
        holds = holds_texts x (y new) grows m.cells held refl refl held.few_texts;
        grows = grows;
        exported = now_exported;
      })

    pub export_moves : i.op ≡ op.Gnew → Permits op.Gnew point h.state out
        → ExportsObject here (space_of f heap) i (space_of g kept) → Result op.Gnew g kept
    export_moves e permits made =
        let asked = permits.1.settles in
        let read = reads x h.state s.top.registers f.registers.items i.b (kind.Obj asked.0) h.words asked.1 in
        let some = read.2 in
        let number_is : some.number ≡ object_in f.registers.items i.b = omega (arith, some.word_is) in
        let same_object : some.object ≡ made.object = same_Some some.object made.object
        (sym (subst (λ n. slice_get heap.objects n ≡ Some some.object) number_is some.is_there) ∙ made.is_object) in
        let class_is : made.object.class ≡ asked.0 = ap (λ (q : ObjectState). q.class) (sym same_object) ∙ some.class_is in
        let cell : IsOfKind m.cells (Object (2 * some.number)) (kind.Obj asked.0) =
        subst (λ v. IsOfKind m.cells v (kind.Obj asked.0)) some.value_is
        (of_kind x m.cells (kind.Obj asked.0) (word_at f.registers.items i.b) read.0 held some) in
        exports_object asked.0 made class_is e cell.0 (read.1 ∙ ap Some (some.value_is ∙ ap (λ n. Object (2 * n)) number_is))
        (ap (λ n. m.cells (2 * n)) (sym number_is) ∙ cell.1 ∙ ap (λ c. Some (Fields c cell.0)) (sym class_is)) (edges_by op.Gnew permits asked.2)
