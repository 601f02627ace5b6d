-- Exports stay: a move of the machine only adds some, and a delivery none.
use Rattle.std.proofs.Common.{◌≡◌, ℕ, Some, ap, ◌∙◌}
use Rattle.std.specs.Prelude.{slice_get}
use Rattle.x10_code.specs.declared.op.Op.{Op}
use Rattle.x10_model.specs.Places as places
use Rattle.x10_model.specs.Places.{Setting, Export, Message, Spawn, Shift, Back, Effect}
use Rattle.x10_model.specs.Moves.{Situation, Moves}
use Rattle.x10_model.specs.Deliveries.{Receives}
use Rattle.x10_model.proofs.Lists.{append_front}
use Rattle.x10_model.proofs.NotWrong.{situation}
use Rattle.x10_model.proofs.Ways as ways
use Rattle.x10_model.proofs.Operations.{way_of}
use Rattle.x10_model.proofs.Ways.{Way}

-- each export is there still
abbrev pub AreExported : places.Place → places.Place → Type 0
AreExported old new = (id : ℕ) (e : Export) → slice_get old.exports id ≡ Some e → slice_get new.exports id ≡ Some e

pub exports_same : (old new : places.Place) → new.exports ≡ old.exports → AreExported old new
exports_same old new same id e is = ap (λ xs. slice_get xs id) same ∙ is

-- ---- moves

exported : (s : Situation) (o : Op) (new : places.Place) (effect : Effect) → Way s o new effect → AreExported s.place new
exported s o new effect (ways.goes_onward base top inside g) id e is =
    ap (λ xs. slice_get xs id) g.exports ∙ append_front s.place.exports g.more id e is
exported s o new effect _ id e is = is

pub move_exports : (setting : Setting) (here key : ℕ) (old new : places.Place) (effect : Effect) → Moves setting here old key new effect
    → AreExported old new
move_exports setting here key old new effect m = exported (situation m) m.instr.op new effect (way_of m.instr.op (situation m) new effect m.does)

-- ---- deliveries

pub delivery_exports : (setting : Setting) (here key : ℕ) (old new : places.Place) (message : Message) → Receives setting here old message key new
    → AreExported old new
delivery_exports setting here key old new (Spawn from to under function graph) r =
    exports_same old new (ap (λ (p : places.Place). p.exports) r.1.new_is)
delivery_exports setting here key old new (Shift from to waiting under function graph) r =
    exports_same old new (ap (λ (p : places.Place). p.exports) r.1.new_is)
delivery_exports setting here key old new (Back from to waiting graph) r = exports_same old new (ap (λ (p : places.Place). p.exports) r.2.new_is)
