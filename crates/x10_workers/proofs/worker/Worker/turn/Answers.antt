use Rattle.std.proofs.Common.{map, rules}
use Rattle.x10_hall.specs.Halls.{told}
use Rattle.x10_workers.specs.declared.trail.OwnTurn.{OwnTurn}
use Rattle.x10_workers.specs.Trails.{TurnLeads}
use Rattle.x10_workers.proofs.WorkLemmas.{goes_kept}
use Rattle.x10_kinds.specs.declared.stop.Stop.TheVariants as stop
use Rattle.x10_workers.specs.Causes.{Halts}
use Rattle.x10_workers.specs.declared.halt.Halt.TheVariants as halt
use Rattle.x10_workers.proofs.CauseLemmas.{halts_stepped, halts_taken, memory_halts, told_as}
use Rattle.x10_workers.proofs.worker.Worker.turn.Goals as goal

pub returns-clause-works : goal.returns-clause-works
returns-clause-works g c =
    let own : OwnTurn = record {
      taken = c.in_ok-taken.taken;
      keys = c.in_ok-folded.field-0;
      frames = c.in_ok-keys.frames;
      lines = c.push_copies.new.to;
    } in
    let led : TurnLeads c.args.self.now.place own c.keep.new.self.place = record {
      middle = c.take_frames.new.self.place;
      takes = c.in_ok-taken.ensures.takes;
      steps = search rules;
      printed = search rules;
      short = record { few_taken = c.in_ok-taken.ensures.few; few_keys = search rules };
    } in
    goes_kept c.args.self.now.place c.keep.new.self.place c.args.self.now.kept.items c.keep.new.self.kept.items own (search rules) led (search rules)

pub returns-in_err-keys-clause-halts : goal.returns-in_err-keys-clause-halts
returns-in_err-keys-clause-halts g c = told_as c.from_residual-in_err-keys.result c.in_err-keys.field-0.0 (Halts c.args.self.now.place)
    c.from_residual-in_err-keys.ensures.1 (halts_taken c.args.self.now.place c.take_frames.new.self.place (map told c.in_ok-taken.taken.items) c.in_err-keys.field-0.0
    c.in_ok-taken.ensures.takes c.in_err-keys.ensures.halts)

pub returns-in_err-keep-clause-halts : goal.returns-in_err-keep-clause-halts
returns-in_err-keep-clause-halts g c = told_as c.from_residual-in_err-keep.result c.in_err-keep.field-0.0 (Halts c.args.self.now.place)
    c.from_residual-in_err-keep.ensures.1 (halts_taken c.args.self.now.place c.take_frames.new.self.place (map told c.in_ok-taken.taken.items) c.in_err-keep.field-0.0
    c.in_ok-taken.ensures.takes
    (halts_stepped c.take_frames.new.self.place c.make_steps.new.self.place _ _ c.in_err-keep.field-0.0 c.in_ok-keys.ensures.steps
    c.in_err-keep.ensures.halts))

pub returns-in_err-push_copies-clause-halts : goal.returns-in_err-push_copies-clause-halts
returns-in_err-push_copies-clause-halts g c = told_as c.from_residual-in_err-push_copies.result (halt.Stop stop.Memory) (Halts c.args.self.now.place) c.from_residual-in_err-push_copies.ensures.1
    (memory_halts c.args.self.now.place)

pub returns-in_err-folded-clause-halts : goal.returns-in_err-folded-clause-halts
returns-in_err-folded-clause-halts g c = told_as c.from_residual-in_err-folded.result (halt.Stop stop.Memory) (Halts c.args.self.now.place) c.from_residual-in_err-folded.ensures.1
    (memory_halts c.args.self.now.place)
