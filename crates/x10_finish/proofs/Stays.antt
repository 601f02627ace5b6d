-- Each move changes the stays at its place as its effect says.
use Rattle.std.proofs.Common.{◌≡◌, ℕ, false, List, Option, Some, None, refl, ap}
use Rattle.x10_code.specs.declared.op.Op.{Op}
use Rattle.x10_model.specs.Maps.{with_entry}
use Rattle.x10_model.specs.Values.{Value}
use Rattle.x10_model.specs.Places as places
use Rattle.x10_model.specs.Places.{CallFrame, Origin, Stay, Message, Effect}
use Rattle.x10_model.specs.Moves.{Situation, SendsBack}
use Rattle.x10_model.proofs.NotWrong.{situation}
use Rattle.x10_model.proofs.Ways as ways
use Rattle.x10_model.proofs.Operations.{way_of}
use Rattle.x10_model.proofs.Ways.{Way}
use Rattle.x10_finish.specs.Stays.{GoesOn, IsWayBack, Changes, StaysChange}

-- a stay that is ready goes on with other call frames and finishes
goes_on : (s : Stay) (top : CallFrame) (callers : List CallFrame) (finishes : List ℕ) → s.away ≡ false
    → GoesOn s finishes false (record s { top = top; callers = callers; finishes = finishes })
goes_on s top callers finishes ready = record { finishes_are = refl; away_is = ready; inherited = refl; back = refl }

way_back : (s : Situation) (result : Option Value) (back : Option Origin) (message : Option Message) → SendsBack s result back message
    → IsWayBack s.here back message
way_back s result None message d = d
way_back s result (Some origin) message d = (d.0, d.2)

changes : (s : Situation) (o : Op) (new : places.Place) (effect : Effect) → s.stay.away ≡ false → Way s o new effect
    → Changes s.here s.place s.key s.stay new effect
changes s o new effect ready (ways.goes_onward base top inside g) =
    let t : Stay = record s.stay { top = top; inside = inside } in (
      t,
      record { finishes_are = refl; away_is = ready; inherited = refl; back = refl },
      record { stays = ap (λ f. with_entry f s.key (Some t)) g.stays; opened_is = g.opened },
    )
changes s o new effect ready (ways.calls callee arguments passes) = (_, goes_on s.stay _ _ _ ready, record { stays = refl; opened_is = refl })
changes s o new effect ready (ways.returns result caller callers call gives is call_is op_is) =
    (_, goes_on s.stay _ _ _ ready, record { stays = refl; opened_is = refl })
changes s o new effect ready (ways.ends result back gives alone none sends) =
    (none, refl, way_back s result s.stay.back back sends, record { stays = refl; opened_is = refl })
changes s o new effect ready (ways.begins callee arguments key passes no_result free) =
    (_, _, goes_on s.stay _ _ _ ready, record { finishes = refl; away = refl; inherited = refl; back_is = refl }, refl, free, refl, refl)
changes s o new effect ready (ways.shifts callee arguments to graph holds passes captures) = (
  _,
  to,
  s.instr.x,
  graph,
  record { finishes_are = refl; away_is = refl; inherited = refl; back = refl },
  refl,
  refl,
  record { stays = refl; opened_is = refl },
)
changes s o new effect ready (ways.spawns callee arguments to graph holds passes no_result captures) =
    (_, to, graph, goes_on s.stay _ _ _ ready, refl, refl, record { stays = refl; opened_is = refl })
changes s o new effect ready ways.opens = (_, goes_on s.stay _ _ _ ready, refl, refl, record { stays = refl; opened_is = refl })
changes s o new effect ready (ways.waits number finishes is) = refl
changes s o new effect ready (ways.closes number finishes is) =
    (_, finishes, is, goes_on s.stay _ _ _ ready, record { stays = refl; opened_is = refl })

pub stays_change : StaysChange
stays_change setting here key old new effect m = record {
  stay = m.stay;
  is_there = m.is_there;
  is_ready = m.is_ready;
  changes = changes (situation m) m.instr.op new effect m.is_ready (way_of m.instr.op (situation m) new effect m.does);
}
