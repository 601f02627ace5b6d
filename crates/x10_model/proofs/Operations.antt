-- The lists of operations that proofs go by: what their moves found, that they can be done or go wrong, and how they go on.
-- The last line of a list is checked for each operation that isn't named above it; where that is one that makes a number
-- of two, a new one of them needs no line.
use Rattle.std.proofs.Common.{◌≡◌, ℕ, ◌<◌, List, [], ◌∷◌, length, Option, Some, None, refl, sym, ap, subst, ◌∙◌, inl, inr, pos, ◌+◌, ◌-◌, ◌%◌, true, false, ◌==◌, ◌++◌}
use Rattle.std.specs.Prelude.{slice_get, nat_lt, ◌==◌, if◌then◌else◌}
use Rattle.std.proofs.lemmas.Option.{slice_get_cases}
use Rattle.x10_kinds.specs.declared.kind.Kind.{Kind}
use Rattle.x10_code.specs.declared.op.Op.{Op}
use Rattle.x10_code.specs.declared.op.Op.TheVariants as op
use Rattle.x10_model.specs.Maps.{with_entry}
use Rattle.x10_model.specs.declared.slot.Slot.{Slot}
use Rattle.x10_model.specs.Ranges.{function_at, IsInRange, result_of, fields_of}
use Rattle.x10_model.specs.Values.{Value, Int, Place, Text, Rail, Object, Null, Ref, Fields, IsOfKind}
use Rattle.x10_model.specs.Signatures.{AreOfKinds}
use Rattle.x10_model.specs.Places as places
use Rattle.x10_model.specs.Places.{Setting, Stay, CallFrame, Effect, Origin, Export, Message, Spawn, Shift, Back, innermost, Waits, Works, Begins, Spawns, Shifts, Opens, Closes, Ends, with_stay, goes, next, writes}
use Rattle.x10_model.specs.Moves.{Situation, Passes, Does, entry_frame, new_stay, writes_or_goes, next_or_goes, with_line, with_cell}
use Rattle.x10_model.specs.Results.{is_zero, quotient, remainder, joined_text, rail_length, byte_at, byte_value, place_number}
use Rattle.x10_model.specs.Wrong.{AnIntOrText, asked, IsTarget, IsDetached, IsFieldOwner, new_field, no_field, no_finish, result, Anything, AnObjectOrNull}
use Rattle.x10_model.proofs.Lists.{none_some, below_some}
use Rattle.std.specs.Bool.{if◌then◌else◌}
use Rattle.x10_model.specs.Laws.{HasRoom}
use Rattle.x10_model.proofs.Decided.{and_then, empty_or_not, get_below, kinds_or_not, gives_or_not}
use Rattle.x10_model.proofs.Found.{AllMet, placed, printed, Passed, passed_at, held_place, held_object, same_object}
use Rattle.x10_model.proofs.Able.{Result, ask, ask_int, ask_place, ask_text, ask_rail, ask_object, ask_ref, ask_placed, is_line, is_object_or_null, holds, on_at, on, put, x_there, called, detached, captured, returns_to, put_value, opened, makes_rail, sets_byte}
use Rattle.x10_model.proofs.Ways.{Way, passes, jumps, begins_loop, calls, begins, shifts, spawns, opens, to, exporting, changing, goes_on, marked, written, went, jumped, turned, made, set, returned, left}

-- ---- a move found what its operation asks for

-- in the registers, beside arguments and results
pub asked_met : (o : Op) (s : Situation) (new : places.Place) (effect : Effect) → Does o s new effect → AllMet s (asked o s.instr)
-- numbers
asked_met op.Intk s new effect d = tt
-- control
asked_met op.Move s new effect d = ((d.0, d.1, tt), tt)
asked_met op.Jmp s new effect d = tt
asked_met op.Jz s new effect d = ((Int d.0, d.1, tt), tt)
asked_met op.Loop s new effect d = tt
asked_met op.Endl s new effect d = tt
asked_met op.Call s new effect d = tt
asked_met op.Ret s new effect d = tt
-- text
asked_met op.Textk s new effect d = tt
asked_met op.Tlen s new effect d = ((Text d.0, d.1, tt), tt)
asked_met op.Tcat s new effect d = ((Text d.0, d.2, tt), ((Text d.1, d.3, tt), tt))
-- objects
asked_met op.New s new effect d = tt
asked_met op.Get s new effect d = ((Object d.0, d.4, (d.1, (d.2, d.5))), tt)
asked_met op.Put s new effect d = ((Object d.0, d.6, (d.1, (d.2, d.7))), ((d.3, d.8, tt), tt))
asked_met op.Null s new effect d = tt
asked_met op.Ifobj s new effect d = elim d [ inl h ↦ ((Object h.0, h.1, tt), tt) | inr h ↦ ((Null, h.0, tt), tt) ]
-- rails
asked_met op.Rail s new effect d = ((Int d.0, d.1, tt), tt)
asked_met op.Rget s new effect d = ((Rail d.0, d.3, (d.1, d.4)), ((Int d.2, d.5, tt), tt))
asked_met op.Rset s new effect d = ((Rail d.0, d.4, (d.1, d.5)), ((Int d.2, d.6, tt), ((Int d.3, d.7, tt), tt)))
asked_met op.Rlen s new effect d = ((Rail d.0, d.2, (d.1, d.3)), tt)
-- places
asked_met op.Here s new effect d = tt
asked_met op.Placek s new effect d = tt
asked_met op.Placen s new effect d = ((Int d.0, d.1, tt), tt)
asked_met op.Placei s new effect d = ((Place d.0, d.1, tt), tt)
asked_met op.Nextp s new effect d = ((Place d.0, d.1, tt), tt)
asked_met op.Count s new effect d = tt
asked_met op.Home s new effect d = ((Ref d.0 d.1 d.2, d.3, tt), tt)
asked_met op.Gnew s new effect d = ((Object d.0, d.3, (d.1, (d.2, d.4))), tt)
asked_met op.Gopen s new effect d = ((Ref s.here d.0 d.1, d.3, tt), tt)
asked_met op.Ifhere s new effect d = ((d.0, d.2, placed s.place.cells d.0 d.1 d.3), tt)
asked_met op.Ifsame s new effect d = ((d.0, d.4, placed s.place.cells d.0 d.2 d.6), ((d.1, d.5, placed s.place.cells d.1 d.3 d.7), tt))
-- activities
asked_met op.Async s new effect d = tt
asked_met op.At s new effect d = ((Place d.2, d.4, tt), tt)
asked_met op.Ata s new effect d = ((Place d.2, d.4, tt), tt)
asked_met op.Finb s new effect d = tt
asked_met op.Fine s new effect d = tt
asked_met op.Atomb s new effect d = tt
asked_met op.Atome s new effect d = tt
-- output
asked_met op.Print s new effect d = ((d.0, d.2, printed s.place.cells d.0 d.1 d.3), tt)
-- two numbers
asked_met _ s new effect d = ((Int d.0, d.2, tt), ((Int d.1, d.3, tt), tt))

-- arguments that fit the function
pub arguments_fit : (o : Op) (s : Situation) (new : places.Place) (effect : Effect) (at : ℕ) → Does o s new effect → IsTarget s o at → Passed s at
arguments_fit op.Call s new effect at d e = passed_at s at d.0 d.1 (subst (λ p. Passes s p d.0 d.1) (sym e) d.2)
arguments_fit op.Async s new effect at d e = passed_at s at d.0 d.1 (subst (λ p. Passes s p d.0 d.1) (sym e) d.3)
arguments_fit op.At s new effect at d e = passed_at s at d.0 d.1 (subst (λ p. Passes s p d.0 d.1) (held_place s s.instr.c d.2 at d.4 e) d.5)
arguments_fit op.Ata s new effect at d e = passed_at s at d.0 d.1 (subst (λ p. Passes s p d.0 d.1) (held_place s s.instr.c d.2 at d.4 e) d.5)
arguments_fit _ s new effect at d e = absurd e

-- a function that gives nothing back, where an activity begins with it
pub no_result_dropped : (o : Op) (s : Situation) (new : places.Place) (effect : Effect) (slot : Slot) → Does o s new effect → IsDetached o
    → result_of (function_at s.setting.program s.instr.x) ≡ Some slot → ⊥
no_result_dropped op.Async s new effect slot d h e = none_some (result_of (function_at s.setting.program s.instr.x)) slot
    (ap result_of d.3.callee_is ∙ d.4) e
no_result_dropped op.Ata s new effect slot d h e = none_some (result_of (function_at s.setting.program s.instr.x)) slot
    (ap result_of d.5.callee_is ∙ d.6) e
no_result_dropped _ s new effect slot d h e = h

-- a get or a put found the field that it speaks of
pub field_found : (o : Op) (s : Situation) (new : places.Place) (effect : Effect) (r c : ℕ) (fields : List Value) → Does o s new effect
    → IsFieldOwner s o r → s.place.cells r ≡ Some (Fields c fields) → slice_get fields s.instr.c ≡ None → ⊥
field_found op.Get s new effect r c fields d h e none =
    let same = same_object s.place.cells d.0 r d.1 c d.2 fields (held_object s s.instr.b d.0 r d.4 h) d.5 e in
    none_some (slice_get fields s.instr.c) d.3 none (subst (λ xs. slice_get xs s.instr.c ≡ Some d.3) same.1 d.6)
field_found op.Put s new effect r c fields d h e none =
    let same = same_object s.place.cells d.0 r d.1 c d.2 fields (held_object s s.instr.a d.0 r d.6 h) d.7 e in
    below_some fields s.instr.c none (subst (λ xs. s.instr.c < length xs) same.1 d.12)
field_found _ s new effect r c fields d h e none = h

-- ---- an operation can be done, or it goes wrong

pub step : (o : Op) (s : Situation) → s.instr.op ≡ o → IsInRange s.setting.program s.function s.instr → HasRoom s → Result o s
-- numbers
step op.Intk s e range room = let z = get_below s.setting.program.ints s.instr.x (x_there op.Intk s e range) in
    inl (on s (put s (Int z.0)), Works, (z.0, z.1, (refl, refl)))
-- control
step op.Move s e range room = and_then (ask op.Move s e s.instr.b Anything (0, refl)) (λ h. inl (on s (put s h.0), Works, (h.0, h.1, (refl, refl))))
step op.Jmp s e range room = inl (on s (goes s.stay.top s.instr.x), Works, (refl, refl))
step op.Jz s e range room = and_then (ask_int op.Jz s e s.instr.a (0, refl))
    (λ z. inl (on s (if is_zero z.0 then goes s.stay.top s.instr.x else next s.stay.top), Works, (z.0, z.1, (refl, refl))))
step op.Loop s e range room = inl (
  on s (record s.stay.top { pc = s.stay.top.pc + 1; loops = with_entry s.stay.top.loops s.instr.a s.instr.x }),
  Works,
  (refl, refl),
)
step op.Endl s e range room = inl (
  on s (let left = s.stay.top.loops s.instr.a - 1 in
      record s.stay.top { pc = if nat_lt 0 left then s.instr.x else s.stay.top.pc + 1; loops = with_entry s.stay.top.loops s.instr.a left }),
  Works,
  (refl, refl),
)
step op.Call s e range room = and_then (called op.Call s s.here e (x_there op.Call s e range) refl) (λ h.
    inl (
      with_stay s.place s.key (Some (record s.stay { top = entry_frame s.instr.x h.1; callers = s.stay.top ∷ s.stay.callers })),
      Works,
      (h.0, h.1, h.2, refl, refl),
    ))
step op.Ret s e range room = elim (gives_or_not s s.function.result) [
  | inl g ↦ and_then (returns_to s room g.0 s.stay.callers e g.1 refl) (λ r. inl (r.0, r.1, (g.0, g.1, r.2)))
  | inr never ↦ inr (result e never)
]
-- text
step op.Textk s e range room = let z = get_below s.setting.program.texts s.instr.x (x_there op.Textk s e range) in
    inl (on s (put s (Text z.0)), Works, (z.0, z.1, (refl, refl)))
step op.Tlen s e range room = and_then (ask_text op.Tlen s e s.instr.b (0, refl))
    (λ t. inl (on s (put s (Int (pos (length t.0)))), Works, (t.0, t.1, (refl, refl))))
step op.Tcat s e range room = and_then (ask_text op.Tcat s e s.instr.b (0, refl)) (λ t. and_then (ask_text op.Tcat s e s.instr.c (1, refl)) (λ u.
    inl (on s (writes_or_goes s (joined_text t.0 u.0)), Works, (t.0, u.0, t.1, u.1, (refl, refl)))))
-- objects
step op.New s e range room = let kinds = get_below s.setting.program.classes s.instr.x (x_there op.New s e range) in
    elim (kinds_or_not s s.instr.b kinds.0) [
      | inl h ↦ inl (
        on_at s (with_cell s.place room.reference.0 (Fields s.instr.x h.0)) (put s (Object room.reference.0)),
        Works,
        (kinds.0, h.0, room.reference.0, kinds.1, h.1, h.2, room.reference.1, (refl, refl)),
      )
      | inr never ↦ inr (new_field e (λ vs held fit. never vs held
          (subst (λ (g : Option (List Kind)). AreOfKinds (IsOfKind s.place.cells) vs (fields_of g)) kinds.1 fit)))
    ]
step op.Get s e range room = and_then (ask_object op.Get s e s.instr.b (0, refl)) (λ h. elim (slice_get_cases h.2 s.instr.c).1 [
  | inl v ↦ inl (on s (put s v.0), Works, (h.0, h.1, h.2, v.0, h.3, h.4, v.2, (refl, refl)))
  | inr none ↦ inr (no_field h.0 h.1 h.2 (subst (λ o. IsFieldOwner s o h.0) (sym e) h.3) h.4 none.1)
])
step op.Put s e range room = and_then (ask_object op.Put s e s.instr.a (0, refl)) (λ h. and_then (ask op.Put s e s.instr.b Anything (1, refl)) (λ v.
    put_value s h.0 h.1 h.2 v.0 (slice_get h.2 s.instr.c) e h.3 h.4 v.1 refl))
step op.Null s e range room = inl (on s (put s Null), Works, (refl, refl))
step op.Ifobj s e range room = and_then (ask op.Ifobj s e s.instr.b AnObjectOrNull (0, refl)) (λ h. elim (is_object_or_null s.place.cells h.0 h.2) [
  | inl r ↦ inl (on s (put s (Object r.0)), Works, inl (r.0, holds s s.instr.b h.0 (Object r.0) h.1 r.1, (refl, refl)))
  | inr null ↦ inl (on s (goes s.stay.top s.instr.x), Works, inr (holds s s.instr.b h.0 Null h.1 null, (refl, refl)))
])
-- rails
step op.Rail s e range room = and_then (ask_int op.Rail s e s.instr.b (0, refl))
    (λ z. let m = makes_rail s room (rail_length z.0) in inl (m.0, m.1, (z.0, z.1, m.2)))
step op.Rget s e range room = and_then (ask_rail op.Rget s e s.instr.b (0, refl)) (λ r. and_then (ask_int op.Rget s e s.instr.c (1, refl)) (λ z.
    inl (on s (writes_or_goes s (byte_value (byte_at r.1 z.0))), Works, (r.0, r.1, z.0, r.2, r.3, z.1, (refl, refl)))))
step op.Rset s e range room = and_then (ask_rail op.Rset s e s.instr.a (0, refl))
    (λ r. and_then (ask_int op.Rset s e s.instr.b (1, refl)) (λ z. and_then (ask_int op.Rset s e s.instr.c (2, refl)) (λ w.
    let m = sets_byte s r.0 r.1 z.0 w.0 (byte_at r.1 z.0) in inl (m.0, m.1, (r.0, r.1, z.0, w.0, r.2, r.3, z.1, w.1, m.2)))))
step op.Rlen s e range room = and_then (ask_rail op.Rlen s e s.instr.b (0, refl))
    (λ r. inl (on s (put s (Int (pos (length r.1)))), Works, (r.0, r.1, r.2, r.3, (refl, refl))))
-- places
step op.Here s e range room = inl (on s (put s (Place s.here)), Works, (refl, refl))
step op.Placek s e range room = inl (on s (put s (Place s.instr.x)), Works, (refl, refl))
step op.Placen s e range room = and_then (ask_int op.Placen s e s.instr.b (0, refl))
    (λ z. inl (on s (writes_or_goes s (place_number s.setting.places z.0)), Works, (z.0, z.1, (refl, refl))))
step op.Placei s e range room = and_then (ask_place op.Placei s e s.instr.b (0, refl))
    (λ p. inl (on s (put s (Int (pos p.0))), Works, (p.0, p.1, (refl, refl))))
step op.Nextp s e range room = and_then (ask_place op.Nextp s e s.instr.b (0, refl))
    (λ p. inl (on s (put s (Place ((p.0 + 1) % s.setting.places))), Works, (p.0, p.1, (refl, refl))))
step op.Count s e range room = inl (on s (put s (Int (pos s.setting.places))), Works, (refl, refl))
step op.Home s e range room = and_then (ask_ref op.Home s e s.instr.b (0, refl))
    (λ h. inl (on s (put s (Place h.0)), Works, (h.0, h.1, h.2, h.3, (refl, refl))))
step op.Gnew s e range room = and_then (ask_object op.Gnew s e s.instr.b (0, refl)) (λ h.
    inl (
      on_at s (record s.place { exports = s.place.exports ++ record { class = h.1; object = h.0 } ∷ [] })
          (put s (Ref s.here (length s.place.exports) h.1)),
      Works,
      (h.0, h.1, h.2, h.3, h.4, (refl, refl)),
    ))
step op.Gopen s e range room = and_then (ask_ref op.Gopen s e s.instr.b (0, refl)) (λ h. opened s h.0 h.1 h.2 e h.3)
step op.Ifhere s e range room = and_then (ask_placed op.Ifhere s e s.instr.a (0, refl))
    (λ h. inl (on s (next_or_goes s (h.1 == s.here)), Works, (h.0, h.1, h.2, h.3, (refl, refl))))
step op.Ifsame s e range room = and_then (ask_placed op.Ifsame s e s.instr.a (0, refl))
    (λ h. and_then (ask_placed op.Ifsame s e s.instr.b (1, refl)) (λ k.
    inl (on s (next_or_goes s (h.1 == k.1)), Works, (h.0, k.0, h.1, k.1, h.2, k.2, h.3, k.3, (refl, refl)))))
-- activities
step op.Async s e range room = and_then (called op.Async s s.here e (x_there op.Async s e range) refl)
    (λ h. and_then (detached op.Async s h.0 e tt h.2.callee_is) (λ none.
    inl (
      with_stay (with_stay s.place s.key (Some (record s.stay { top = next s.stay.top }))) room.key.0
          (Some (new_stay s.instr.x h.1 (innermost s.here s.stay) None)),
      Begins room.key.0 s.instr.x (innermost s.here s.stay),
      (h.0, h.1, room.key.0, h.2, none, room.key.1, refl, refl),
    )))
step op.At s e range room = and_then (ask_place op.At s e s.instr.c (0, refl))
    (λ to. and_then (called op.At s to.0 e (x_there op.At s e range) to.1) (λ h.
    let graph = captured op.At s room e h.1 (to.0, h.0, h.2) in
    inl (
      with_stay s.place s.key (Some (record s.stay { away = true })),
      Shifts (Shift s.here to.0 s.key (innermost s.here s.stay) s.instr.x graph.0) (innermost s.here s.stay),
      (h.0, h.1, to.0, graph.0, to.1, h.2, graph.1, refl, refl),
    )))
step op.Ata s e range room = and_then (ask_place op.Ata s e s.instr.c (0, refl))
    (λ to. and_then (called op.Ata s to.0 e (x_there op.Ata s e range) to.1) (λ h. and_then (detached op.Ata s h.0 e tt h.2.callee_is) (λ none.
    let graph = captured op.Ata s room e h.1 (to.0, h.0, h.2) in
    inl (
      with_stay s.place s.key (Some (record s.stay { top = next s.stay.top })),
      Spawns (Spawn s.here to.0 (innermost s.here s.stay) s.instr.x graph.0) s.instr.x (innermost s.here s.stay),
      (h.0, h.1, to.0, graph.0, to.1, h.2, none, graph.1, refl, refl),
    ))))
step op.Finb s e range room = inl (
  with_stay (record s.place { opened = s.place.opened + 1 }) s.key
      (Some (record s.stay { top = next s.stay.top; finishes = s.place.opened ∷ s.stay.finishes })),
  Opens s.place.opened (innermost s.here s.stay),
  (refl, refl),
)
step op.Fine s e range room = elim (empty_or_not s.stay.finishes) [
  | inl f ↦ inl (
    with_stay s.place s.key (Some (record s.stay { top = next s.stay.top; finishes = f.1 })),
    Closes f.0,
    (f.0, f.1, f.2, inr (refl, refl)),
  )
  | inr none ↦ inr (no_finish e none)
]
step op.Atomb s e range room = inl (_, Works, (refl, refl))
step op.Atome s e range room = inl (_, Works, (refl, refl))
-- output
step op.Print s e range room = and_then (ask op.Print s e s.instr.a AnIntOrText (0, refl)) (λ h.
    let line = is_line s.place.cells h.0 h.2 in inl (
      on_at s (with_line s.place line.0) (next s.stay.top),
      Works,
      (h.0, line.0, h.1, line.1, (refl, refl)),
    ))
-- two numbers
step o s e range room = and_then (ask_int o s e s.instr.b (0, refl))
    (λ x. and_then (ask_int o s e s.instr.c (1, refl)) (λ y. inl (_, Works, (x.0, y.0, x.1, y.1, (refl, refl)))))

-- ---- how an operation goes on

pub way_of : (o : Op) (s : Situation) (new : places.Place) (effect : Effect) → Does o s new effect → Way s o new effect
-- numbers
way_of op.Intk s new effect d = goes_on (passes refl) d.2
way_of op.Div s new effect d = goes_on (written (quotient d.0 d.1) refl refl) d.4
way_of op.Rem s new effect d = goes_on (written (remainder d.0 d.1) refl refl) d.4
-- control
way_of op.Move s new effect d = goes_on (passes refl) d.2
way_of op.Jmp s new effect d = goes_on (jumps refl refl) d
way_of op.Jz s new effect d = goes_on (jumped (is_zero d.0) refl refl) d.2
way_of op.Loop s new effect d = goes_on begins_loop d
way_of op.Endl s new effect d = goes_on (turned _ refl) d
way_of op.Call s new effect d = to d.3 d.4 (calls d.0 d.1 d.2)
way_of op.Ret s new effect d = returned s s.stay.callers d.0 new effect refl d.1 d.2
-- text
way_of op.Textk s new effect d = goes_on (passes refl) d.2
way_of op.Tlen s new effect d = goes_on (passes refl) d.2
way_of op.Tcat s new effect d = goes_on (written (joined_text d.0 d.1) refl refl) d.4
-- objects
way_of op.New s new effect d = changing refl refl refl (passes refl) d.7
way_of op.Get s new effect d = goes_on (passes refl) d.7
way_of op.Put s new effect d = changing refl refl refl (passes refl) d.13
way_of op.Null s new effect d = goes_on (passes refl) d
way_of op.Ifobj s new effect (inl some) = goes_on (passes refl) some.2
way_of op.Ifobj s new effect (inr none) = goes_on (jumps refl refl) none.1
-- rails
way_of op.Rail s new effect d = made s (rail_length d.0) new effect d.2
way_of op.Rget s new effect d = goes_on (written (byte_value (byte_at d.1 d.2)) refl refl) d.6
way_of op.Rset s new effect d = set s d.0 d.1 d.2 d.3 (byte_at d.1 d.2) new effect d.8
way_of op.Rlen s new effect d = goes_on (passes refl) d.4
-- places
way_of op.Here s new effect d = goes_on (passes refl) d
way_of op.Placek s new effect d = goes_on (passes refl) d
way_of op.Placen s new effect d = goes_on (written (place_number s.setting.places d.0) refl refl) d.2
way_of op.Placei s new effect d = goes_on (passes refl) d.2
way_of op.Nextp s new effect d = goes_on (passes refl) d.2
way_of op.Count s new effect d = goes_on (passes refl) d
way_of op.Home s new effect d = goes_on (passes refl) d.4
way_of op.Gnew s new effect d = exporting _ refl refl refl (passes refl) d.5
way_of op.Gopen s new effect d = goes_on (passes refl) d.5
way_of op.Ifhere s new effect d = goes_on (went (d.1 == s.here) refl refl) d.4
way_of op.Ifsame s new effect d = goes_on (went (d.2 == d.3) refl refl) d.8
-- activities
way_of op.Async s new effect d = to d.6 d.7 (begins d.0 d.1 d.2 d.3 d.4 d.5)
way_of op.At s new effect d = to d.7 d.8 (shifts d.0 d.1 d.2 d.3 d.4 d.5 d.6)
way_of op.Ata s new effect d = to d.8 d.9 (spawns d.0 d.1 d.2 d.3 d.4 d.5 d.6 d.7)
way_of op.Finb s new effect d = to d.0 d.1 opens
way_of op.Fine s new effect d = left s d.0 d.1 new effect d.2 d.3
way_of op.Atomb s new effect d = marked true refl d
way_of op.Atome s new effect d = marked false refl d
-- output
way_of op.Print s new effect d = changing refl refl refl (passes refl) d.4
-- two numbers to a number
way_of _ s new effect d = goes_on (passes refl) d.4
