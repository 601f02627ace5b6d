use Rattle.std.proofs.Common.{◌+◌, [], ◌∷◌, ◌++◌, length, refl, ◌∙◌, inl, inr, arith}
use Rattle.std.proofs.lemmas.Result.{err_from_is_err_and}
use Rattle.x10_cli.specs.Showing.{manner_of}
use Rattle.x10_cli.proofs.ShowLemmas.{event_in, some_told, tells_more, tells_none}
use Rattle.x10_cli.proofs.WindowLemmas.{none_in, one_more, reached_more, shown_in}
use Rattle.x10_cli.proofs.shown.show_run.Goals as goal

pub returns-then-skipped-before-clause-told : goal.returns-then-skipped-before-clause-told
returns-then-skipped-before-clause-told g = λ c. record {
  events = [];
  tells = tells_none (manner_of c.args.show.now) c.args.world.now (g.O.Write.contents c.args.out.now);
  window = none_in c.args.task.now.window c.args.skipped c.requires.few;
  ends = c.requires.ended (omega (arith, c.if-skipped-before.true, c.before-2.ensures));
}

pub loop-made-init : goal.loop-made-init
loop-made-init g = λ c. record {
  same = refl;
  follows = c.requires.follows;
  events = [];
  tells = tells_none (manner_of c.args.show.now) c.args.world.now (g.O.Write.contents c.args.out.now);
  count = omega arith;
  few = inr refl;
}

pub loop-made-preserved : goal.loop-made-preserved
loop-made-preserved g = λ c. record {
  same = c.show_event.ensures.manner ∙ c.loop-made.invariant.same;
  follows = c.in_ok-show_event.ensures.follows;
  events = c.loop-made.invariant.events ++ c.in_ok-event.event ∷ [];
  tells = tells_more (manner_of c.args.show.now) c.args.world.now c.loop-made.world c.show_event.new.world c.loop-made.invariant.events
      c.in_ok-event.event (g.O.Write.contents c.args.out.now) (g.O.Write.contents c.loop-made.out) (g.O.Write.contents c.show_event.new.out)
      c.loop-made.invariant.tells c.show_event.ensures.kept c.in_ok-show_event.ensures.made
      (event_in (manner_of c.loop-made.show) (manner_of c.args.show.now) c.loop-made.world c.show_event.new.world c.in_ok-event.event
      (g.O.Write.contents c.loop-made.out) (g.O.Write.contents c.show_event.new.out) c.loop-made.invariant.same
      c.in_ok-show_event.ensures.told);
  count = one_more c.loop-made.invariant.events c.in_ok-event.event c.args.skipped c.loop-made.made c.loop-made.invariant.count;
  few = inl (let more = one_more c.loop-made.invariant.events c.in_ok-event.event c.args.skipped c.loop-made.made c.loop-made.invariant.count in
      omega (arith, more, c.loop-made-test.true));
}

pub returns-then-closed-clause-told : goal.returns-then-closed-clause-told
returns-then-closed-clause-told g = λ c. record {
  events = c.loop-made.invariant.events;
  tells = c.loop-made.invariant.tells;
  window = shown_in c.args.task.now.window c.args.skipped (length c.loop-made.invariant.events) c.last_of-last.result.0 c.requires.few
      (λ less. omega (arith, less, c.if-skipped-before.false, c.before-2.ensures)) c.last_of-last.ensures.within c.loop-made.invariant.few;
  ends = record { over = λ w stand. c.closed.ensures.ended w stand c.if-closed.true };
}

pub returns-then-closed-2-clause-told : goal.returns-then-closed-2-clause-told
returns-then-closed-2-clause-told g = λ c. record {
  events = c.loop-made.invariant.events;
  tells = c.loop-made.invariant.tells;
  window = shown_in c.args.task.now.window c.args.skipped (length c.loop-made.invariant.events) c.last_of-last.result.0 c.requires.few
      (λ less. omega (arith, less, c.if-skipped-before.false, c.before-2.ensures)) c.last_of-last.ensures.within c.loop-made.invariant.few;
  ends = record { over = λ w stand. c.closed-2.ensures.ended w stand c.if-closed-2.true };
}

pub returns-then-is_asked-clause-told : goal.returns-then-is_asked-clause-told
returns-then-is_asked-clause-told g = λ c. record {
  events = c.loop-made.invariant.events;
  tells = c.loop-made.invariant.tells;
  window = shown_in c.args.task.now.window c.args.skipped (length c.loop-made.invariant.events) c.last_of-last.result.0 c.requires.few
      (λ less. omega (arith, less, c.if-skipped-before.false, c.before-2.ensures)) c.last_of-last.ensures.within c.loop-made.invariant.few;
  ends = reached_more c.args.task.now.window.to (c.args.skipped + length c.loop-made.invariant.events) c.last_of-last.result.0
      (let count = c.loop-made.invariant.count in omega (arith, count, c.loop-made-test.false, c.loop-made.auto.made-end))
      (c.last_of-last.ensures.reached c.if-is_asked.true);
}

pub returns-in_err-show_event-clause-some : goal.returns-in_err-show_event-clause-some
returns-in_err-show_event-clause-some g = λ c.
    let told = err_from_is_err_and c.from_residual-in_err-show_event.result c.from_residual-in_err-show_event.ensures.1 in
    rw (told.1, told.2) (some_told (manner_of c.args.show.now) c.args.task.now.window c.args.skipped c.in_err-show_event.field-0.0
    c.args.world.now c.loop-made.world c.loop-made.invariant.events (g.O.Write.contents c.args.out.now) (g.O.Write.contents c.loop-made.out)
    (g.O.Write.contents c.show_event.new.out) c.loop-made.invariant.tells
    (shown_in c.args.task.now.window c.args.skipped (length c.loop-made.invariant.events) c.last_of-last.result.0 c.requires.few
    (λ less. omega (arith, less, c.if-skipped-before.false, c.before-2.ensures)) c.last_of-last.ensures.within c.loop-made.invariant.few)
    c.in_err-show_event.ensures.still)
