use Rattle.std.proofs.Common.{false, Result, Ok, Err, sym, subst, ap, ◌∙◌}
use Rattle.x10_kinds.specs.declared.stop.Stop.{Stop}
use Rattle.x10_place.specs.declared.place.Stepped.{Stepped}
use Rattle.x10_place.specs.declared.sent.Sent.{Sent}
use Rattle.x10_handles.specs.Stations.{IsStepped}
use Rattle.x10_handles.proofs.Stepping.{Made, idled, moved, halted}
use Rattle.x10_handles.proofs.station.Station.step.Goals as goal

pub returns-in-Err : goal.returns-in-Err
returns-in-Err c = subst (λ (s : Sent). IsStepped c.args.self.now c.args.key (Err c.in-Err.why) (record { place = c.step.new.self; sent = s }))
    (sym c.nothing.ensures)
    (halted c.args.self.now c.args.key c.step.new.self c.in-Err.why
    (subst (λ (r : Result Stepped Stop). Made c.args.self.now.place c.args.key r c.step.new.self) c.in-Err.is
    (record {
      idle = c.step.ensures.idle;
      only = c.step.ensures.only;
      some = c.step.ensures.some;
      stopped = c.step.ensures.stopped;
      refused = c.step.ensures.refused;
      full = c.step.ensures.full;
      stop = c.step.ensures.stop;
      goes = c.step.ensures.goes;
      kept = c.step.ensures.kept;
    })))

pub returns-in-Ok-Idle : goal.returns-in-Ok-Idle
returns-in-Ok-Idle c = subst (λ (s : Sent). IsStepped c.args.self.now c.args.key (Ok false) (record { place = c.step.new.self; sent = s }))
    (sym c.nothing.ensures)
    (idled c.args.self.now c.args.key c.step.new.self (subst (λ (r : Result Stepped Stop). Made c.args.self.now.place c.args.key r c.step.new.self)
    (c.in-Ok-Idle.is ∙ ap Ok c.in-Ok-Idle.field-0-is)
    (record {
      idle = c.step.ensures.idle;
      only = c.step.ensures.only;
      some = c.step.ensures.some;
      stopped = c.step.ensures.stopped;
      refused = c.step.ensures.refused;
      full = c.step.ensures.full;
      stop = c.step.ensures.stop;
      goes = c.step.ensures.goes;
      kept = c.step.ensures.kept;
    })))

pub returns-in-Ok-Moved : goal.returns-in-Ok-Moved
returns-in-Ok-Moved c = moved c.args.self.now c.args.key c.step.new.self c.in-Ok-Moved.sent
    (subst (λ (r : Result Stepped Stop). Made c.args.self.now.place c.args.key r c.step.new.self) (c.in-Ok-Moved.is ∙ ap Ok c.in-Ok-Moved.field-0-is)
    (record {
      idle = c.step.ensures.idle;
      only = c.step.ensures.only;
      some = c.step.ensures.some;
      stopped = c.step.ensures.stopped;
      refused = c.step.ensures.refused;
      full = c.step.ensures.full;
      stop = c.step.ensures.stop;
      goes = c.step.ensures.goes;
      kept = c.step.ensures.kept;
    }))
