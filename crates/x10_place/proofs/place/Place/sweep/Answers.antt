use Rattle.std.proofs.Common.{length, refl, arith, ◌∙◌}
use Rattle.std.proofs.lemmas.Option.{slice_get-get_or}
use Rattle.x10_place.specs.Sweeps.{unswept, swept, loudly}
use Rattle.x10_place.proofs.SweepLemmas.{counted, goes_on_as, ends_as, never_on, sweeps_as, all_quiet}
use Rattle.x10_place.proofs.place.Place.sweep.Goals as goal

pub loop-at-init : goal.loop-at-init
loop-at-init c = record {
  sweeps = unswept;
  kept = record { program = refl; bounds = refl; id = refl; places = refl };
  few = omega arith;
  goes = λ on. on;
  on = λ off. (refl, refl);
}

pub loop-at-preserved : goal.loop-at-preserved
loop-at-preserved c =
    let before = c.loop-at.invariant in
    let goes_on = goes_on_as _ c.loop-at.moved c.pace.new.moved c.loop-at.self c.pace.new.self c.in-Ok-None.field-0 c.in-Ok-None.ensures.goes_on
    c.in-Ok-None.field-0-is in
    let k = c.in-Ok-None.ensures.kept in
    record {
      sweeps = swept c.loop-at.at c.loop-at.moved c.pace.new.moved _ c.loop-at.self c.pace.new.self before.sweeps
          (slice_get-get_or c.args.keys.now c.loop-at.at 0 c.loop-at-test.true) goes_on;
      kept = record {
        program = k.program ∙ before.kept.program;
        bounds = k.bounds ∙ before.kept.bounds;
        id = k.id ∙ before.kept.id;
        places = k.places ∙ before.kept.places;
      };
      few = counted _ c.loop-at.moved c.pace.new.moved c.loop-at.at c.loop-at.self c.pace.new.self goes_on before.few;
      goes = λ on. c.in-Ok-None.ensures.goes;
      on = never_on c.args.self.now c.loop-at.self c.pace.new.self c.loop-at.at c.in-Ok-None.field-0 before.on c.in-Ok-None.ensures.stopped;
    }

pub returns-in-Ok-Some-clause-ran : goal.returns-in-Ok-Some-clause-ran
returns-in-Ok-Some-clause-ran c = loudly c.loop-at.at c.loop-at.moved c.pace.new.moved _ c.in-Ok-Some.sent c.loop-at.self c.pace.new.self
    c.loop-at.invariant.sweeps (slice_get-get_or c.args.keys.now c.loop-at.at 0 c.loop-at-test.true)
    (ends_as _ c.loop-at.moved c.pace.new.moved c.loop-at.self c.pace.new.self c.in-Ok-Some.field-0 c.in-Ok-Some.sent c.in-Ok-Some.ensures.ends
    c.in-Ok-Some.field-0-is)

pub returns-in-Ok-Some-clause-all : goal.returns-in-Ok-Some-clause-all
returns-in-Ok-Some-clause-all c = λ less. record {
  before = c.loop-at.at;
  count = refl;
  moved = c.loop-at.moved;
  last = c.loop-at.self;
  sweeps = c.loop-at.invariant.sweeps;
  key = _;
  is_key = slice_get-get_or c.args.keys.now c.loop-at.at 0 c.loop-at-test.true;
  ends = ends_as _ c.loop-at.moved c.pace.new.moved c.loop-at.self c.pace.new.self c.in-Ok-Some.field-0 c.in-Ok-Some.sent c.in-Ok-Some.ensures.ends
      c.in-Ok-Some.field-0-is;
}

pub returns-in-Err-clause-ran : goal.returns-in-Err-clause-ran
returns-in-Err-clause-ran c = record {
  last = c.loop-at.self;
  sweeps = sweeps_as c.args.keys.now c.args.self.now c.loop-at.self c.loop-at.at c.loop-at.moved c.pace.new.moved c.in-Err.ensures.refused.1
      c.loop-at.invariant.sweeps;
  key = _;
  is_next = slice_get-get_or c.args.keys.now c.loop-at.at 0 c.loop-at-test.true;
  refused = c.in-Err.ensures.refused.0;
}

pub returns-clause-ran : goal.returns-clause-ran
returns-clause-ran c = all_quiet c.args.keys.now c.args.self.now c.loop-at.self c.loop-at.at (length c.args.keys.now) c.loop-at.moved c.no_sent.result
    (omega (arith, c.loop-at-test.false, c.loop-at.auto.at-end)) c.no_sent.ensures c.loop-at.invariant.sweeps
