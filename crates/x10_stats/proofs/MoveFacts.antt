-- What a move says of the stays at its place: which one began, and that a wait is the move of a FINE.
use Rattle.std.proofs.Common.{◌≡◌, ◌⊎◌, ℕ, ◌+◌, Option, None, Some, refl, sym, ap, subst, ◌∙◌, inl, inr}
use Rattle.std.proofs.lemmas.Bool.{cases_eq}
use Rattle.x10_code.specs.declared.op.Op.{Op}
use Rattle.x10_code.specs.declared.op.Op.TheVariants as op
use Rattle.x10_model.specs.Maps.{with_entry}
use Rattle.x10_model.specs.Places as places
use Rattle.x10_model.specs.declared.finish.Finish.{Finish}
use Rattle.x10_model.specs.Places.{Setting, Stay, Effect, Waits, Works, Begins, Spawns, Shifts, Opens, Closes, Ends}
use Rattle.x10_model.specs.Moves.{Situation, Moves, Does}
use Rattle.x10_model.specs.Ranges.{instr_at, instr_in}
use Rattle.x10_model.proofs.Lists.{none_some, same_some}
use Rattle.x10_model.proofs.Maps.{at_key, at_equal_key, off_key}
use Rattle.x10_model.proofs.NotWrong.{situation}
use Rattle.x10_model.proofs.Ways as ways
use Rattle.x10_model.proofs.Ways.{Way}
use Rattle.x10_finish.specs.Stays.{Changes}

-- ---- which stay began

-- where one stay changes, none begins
pub still_free : (old new : places.Place) (key other : ℕ) (s : Stay) (o : Option Stay) → old.stays key ≡ Some s → old.stays other ≡ None
    → new.stays ≡ with_entry old.stays key o → new.stays other ≡ None
still_free old new key other s o there free is =
    ap (λ (f : ℕ → Option Stay). f other) is
    ∙ off_key old.stays key other o (λ same. none_some (old.stays other) s free (ap old.stays same ∙ there)) ∙ free

-- so a stay that was not there is that of an activity that the move begins
pub only_begins : (here key other : ℕ) (old new : places.Place) (s u : Stay) (effect : Effect) → Changes here old key s new effect
    → old.stays key ≡ Some s → old.stays other ≡ None → new.stays other ≡ Some u
    → (function : ℕ) × (under : Finish) × (effect ≡ Begins other function under)
only_begins here key other old new s u (Waits number) c there free is =
    absurd (none_some (old.stays other) u free (ap (λ (p : places.Place). p.stays other) (sym c) ∙ is))
only_begins here key other old new s u Works c there free is =
    absurd (none_some (new.stays other) u (still_free old new key other s (Some c.0) there free c.2.stays) is)
only_begins here key other old new s u (Begins k function under) c there free is = elim (cases_eq other k) [
  | inl same ↦ (function, under, ap (λ i. Begins i function under) (sym same))
  | inr apart ↦ absurd (none_some (new.stays other) u
      (ap (λ (f : ℕ → Option Stay). f other) c.6 ∙ off_key (with_entry old.stays key (Some c.0)) k other (Some c.1) apart
      ∙ off_key old.stays key other (Some c.0) (λ same. none_some (old.stays other) s free (ap old.stays same ∙ there)) ∙ free) is)
]
only_begins here key other old new s u (Spawns message function under) c there free is =
    absurd (none_some (new.stays other) u (still_free old new key other s (Some c.0) there free c.6.stays) is)
only_begins here key other old new s u (Shifts message under) c there free is =
    absurd (none_some (new.stays other) u (still_free old new key other s (Some c.0) there free c.7.stays) is)
only_begins here key other old new s u (Opens number inside) c there free is =
    absurd (none_some (new.stays other) u (still_free old new key other s (Some c.0) there free c.4.stays) is)
only_begins here key other old new s u (Closes number) c there free is =
    absurd (none_some (new.stays other) u (still_free old new key other s (Some c.0) there free c.4.stays) is)
only_begins here key other old new s u (Ends under back) c there free is =
    absurd (none_some (new.stays other) u (still_free old new key other s None there free c.3.stays) is)

begun_parts : (key f : ℕ) (g : Finish) (other function : ℕ) (under : Finish) → Begins key f g ≡ Begins other function under
    → (key ≡ other) × (f ≡ function)
begun_parts key f g other function under e = (let a : key ≡ other = cc in a, let b : f ≡ function = cc in b)

-- the function that it executes
pub begun_function : (s : Situation) (o : Op) (new : places.Place) (effect : Effect) (other function : ℕ) (under : Finish) (u : Stay)
    → Way s o new effect → effect ≡ Begins other function under → new.stays other ≡ Some u → u.top.function ≡ function
begun_function s o new effect other function under u (ways.goes_onward base top inside g) e is = absurd cc
begun_function s o new effect other function under u (ways.calls callee arguments passes) e is = absurd cc
begun_function s o new effect other function under u (ways.returns result caller callers call gives at call_is op_is) e is = absurd cc
begun_function s o new effect other function under u (ways.ends result back gives alone none sends) e is = absurd cc
begun_function s o new effect other function under u (ways.begins callee arguments key passes no_result free) e is =
    let same : (key ≡ other) × (s.instr.x ≡ function) = begun_parts key s.instr.x _ other function under e in
    ap (λ (t : Stay). t.top.function)
    (same_some (new.stays other) u _ is (at_equal_key (with_entry s.place.stays s.key _) key other _ (sym same.0))) ∙ same.1
begun_function s o new effect other function under u (ways.shifts callee arguments to graph holds passes captures) e is = absurd cc
begun_function s o new effect other function under u (ways.spawns callee arguments to graph holds passes no_result captures) e is = absurd cc
begun_function s o new effect other function under u ways.opens e is = absurd cc
begun_function s o new effect other function under u (ways.waits number finishes at) e is = absurd cc
begun_function s o new effect other function under u (ways.closes number finishes at) e is = absurd cc

-- ---- a wait

pub waits_at_fine : (s : Situation) (o : Op) (new : places.Place) (effect : Effect) (number : ℕ) → Way s o new effect → effect ≡ Waits number
    → o ≡ op.Fine
waits_at_fine s o new effect number (ways.goes_onward base top inside g) e = absurd cc
waits_at_fine s o new effect number (ways.calls callee arguments passes) e = absurd cc
waits_at_fine s o new effect number (ways.returns result caller callers call gives at call_is op_is) e = absurd cc
waits_at_fine s o new effect number (ways.ends result back gives alone none sends) e = absurd cc
waits_at_fine s o new effect number (ways.begins callee arguments key passes no_result free) e = absurd cc
waits_at_fine s o new effect number (ways.shifts callee arguments to graph holds passes captures) e = absurd cc
waits_at_fine s o new effect number (ways.spawns callee arguments to graph holds passes no_result captures) e = absurd cc
waits_at_fine s o new effect number ways.opens e = absurd cc
waits_at_fine s o new effect number (ways.waits n finishes at) e = refl
waits_at_fine s o new effect number (ways.closes n finishes at) e = absurd cc

-- at a FINE it is that, or the stay goes on to the next instruction
abbrev pub FineGoes : Stay → ℕ → places.Place → places.Place → Effect → Type 0
FineGoes s key old new effect = ((number : ℕ) × (effect ≡ Waits number) × (new ≡ old))
    ⊎ ((t : Stay) × (new.stays key ≡ Some t) × (t.top.pc ≡ s.top.pc + 1))

fine_does : (s : Situation) (new : places.Place) (effect : Effect) → Does op.Fine s new effect → FineGoes s.stay s.key s.place new effect
fine_does s new effect (number, finishes, is, inl waits) = inl (number, waits.1, waits.0)
fine_does s new effect (number, finishes, is, inr closes) = inr
    (_, ap (λ (p : places.Place). p.stays s.key) closes.0 ∙ at_key s.place.stays s.key _, refl)

pub fine_goes : (setting : Setting) (here key : ℕ) (old new : places.Place) (effect : Effect) (m : Moves setting here old key new effect)
    → m.instr.op ≡ op.Fine → FineGoes m.stay key old new effect
fine_goes setting here key old new effect m fine =
    fine_does (situation m) new effect (subst (λ o. Does o (situation m) new effect) fine m.does)

pub instr_there : (setting : Setting) (here key : ℕ) (old new : places.Place) (effect : Effect) (m : Moves setting here old key new effect)
    → instr_at setting.program m.stay.top.function m.stay.top.pc ≡ Some m.instr
instr_there setting here key old new effect m = ap (λ o. instr_in o m.stay.top.pc) m.function_is ∙ m.instr_is

-- two moves of a stay are by the same instruction
pub same_instr : (setting : Setting) (here key : ℕ) (old new other : places.Place) (effect another : Effect)
    (m : Moves setting here old key new effect) (n : Moves setting here old key other another) → (m.stay ≡ n.stay) × (m.instr ≡ n.instr)
same_instr setting here key old new other effect another m n =
    let stay : m.stay ≡ n.stay = same_some (old.stays key) m.stay n.stay m.is_there n.is_there in (
      stay,
      same_some (instr_at setting.program m.stay.top.function m.stay.top.pc) m.instr n.instr
          (instr_there setting here key old new effect m)
          (ap (λ (t : Stay). instr_at setting.program t.top.function t.top.pc) stay ∙ instr_there setting here key old other another n),
    )
