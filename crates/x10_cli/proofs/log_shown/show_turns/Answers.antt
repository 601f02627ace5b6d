use Rattle.std.proofs.Common.{◌+◌, [], ◌∷◌, ◌++◌, length, refl, sym, ◌∙◌, inr, arith}
use Rattle.std.proofs.lemmas.Result.{err_from_is_err_and}
use Rattle.x10_cli.specs.Showing.{manner_of}
use Rattle.x10_cli.proofs.ShowLemmas.{event_in, first_told, tells_more, tells_none}
use Rattle.x10_cli.proofs.ShownLemmas.{split_more, split_same, stops_traced}
use Rattle.x10_cli.proofs.WindowLemmas.{left_at_first, left_more, none_in, none_left, shown_left, within_more}
use Rattle.x10_cli.proofs.log_shown.show_turns.Goals as goal

pub returns-then-skipped-before-clause-told : goal.returns-then-skipped-before-clause-told
returns-then-skipped-before-clause-told g = λ c. record {
  events = [];
  rest = [];
  split = sym (c.requires.ended (omega (arith, c.if-skipped-before.true, c.before-2.ensures)));
  tells = tells_none (manner_of c.args.show.now) c.args.world.now (g.O.Write.contents c.args.out.now);
  window = none_in c.args.window c.args.skipped c.requires.few;
  ends = refl;
}

pub loop-event-init : goal.loop-event-init
loop-event-init g = λ c. record {
  same = refl;
  follows = c.requires.follows;
  made = [];
  split = refl;
  goes = c.requires.goes;
  tells = tells_none (manner_of c.args.show.now) c.args.world.now (g.O.Write.contents c.args.out.now);
  left = left_at_first c.args.window.to c.args.skipped c.left_of-left.result c.left_of-left.ensures;
  within = inr refl;
}

pub loop-event-preserved : goal.loop-event-preserved
loop-event-preserved g = λ c. record {
  same = c.show_event.ensures.manner ∙ c.loop-event.invariant.same;
  follows = c.in_ok-show_event.ensures.follows;
  made = c.loop-event.invariant.made ++ c.in-Some.event ∷ [];
  split = split_more c.loop-event.invariant.made c.loop-event.events c.next.new.self c.args.events.now c.in-Some.event
      c.in-Some.ensures c.loop-event.invariant.split;
  goes = c.in_ok-show_event.ensures.goes;
  tells = tells_more (manner_of c.args.show.now) c.args.world.now c.loop-event.world c.show_event.new.world c.loop-event.invariant.made
      c.in-Some.event (g.O.Write.contents c.args.out.now) (g.O.Write.contents c.loop-event.out) (g.O.Write.contents c.show_event.new.out)
      c.loop-event.invariant.tells c.show_event.ensures.kept c.in_ok-show_event.ensures.made
      (event_in (manner_of c.loop-event.show) (manner_of c.args.show.now) c.loop-event.world c.show_event.new.world c.in-Some.event
      (g.O.Write.contents c.loop-event.out) (g.O.Write.contents c.show_event.new.out) c.loop-event.invariant.same
      c.in_ok-show_event.ensures.told);
  left = left_more c.args.window.to c.args.skipped c.loop-event.invariant.made c.in-Some.event c.loop-event.left c.fewer-left.result
      c.loop-event.invariant.left c.fewer-left.ensures;
  within = within_more c.args.window.to c.args.skipped c.loop-event.invariant.made c.in-Some.event c.loop-event.left
      c.loop-event.invariant.left (c.is_over.ensures.no c.if-is_over.false);
}

pub returns-in_err-show_event-clause-some : goal.returns-in_err-show_event-clause-some
returns-in_err-show_event-clause-some g = λ c.
    let told = err_from_is_err_and c.from_residual.result c.from_residual.ensures.1 in
    rw (told.1, told.2) (first_told (manner_of c.args.show.now) c.args.window c.args.skipped c.in_err-show_event.field-0.0 c.args.world.now
    c.loop-event.world c.loop-event.invariant.made c.loop-event.events c.args.events.now (g.O.Write.contents c.args.out.now)
    (g.O.Write.contents c.loop-event.out) (g.O.Write.contents c.show_event.new.out) c.loop-event.invariant.split
    c.loop-event.invariant.tells (shown_left c.args.window c.args.skipped (length c.loop-event.invariant.made) c.requires.few
    (λ less. omega (arith, less, c.if-skipped-before.false, c.before-2.ensures)) c.loop-event.invariant.within) c.in_err-show_event.ensures.still)

pub returns-in_err-show_event-clause-why : goal.returns-in_err-show_event-clause-why
returns-in_err-show_event-clause-why g = λ c.
    let told = err_from_is_err_and c.from_residual.result c.from_residual.ensures.1 in
    rw (told.1, told.2) (stops_traced c.args.world.now c.loop-event.world c.loop-event.invariant.made c.loop-event.events c.next.new.self
    c.args.events.now c.in-Some.event c.in_err-show_event.field-0.0 c.in-Some.ensures c.loop-event.invariant.split
    c.loop-event.invariant.tells.runs (c.in_err-show_event.ensures.why c.loop-event.invariant.goes))

pub returns-then-is_over-clause-told : goal.returns-then-is_over-clause-told
returns-then-is_over-clause-told g = λ c. record {
  events = c.loop-event.invariant.made;
  rest = c.in-Some.event ∷ c.next.new.self;
  split = split_same c.loop-event.invariant.made c.loop-event.events (c.in-Some.event ∷ c.next.new.self) c.args.events.now c.in-Some.ensures
      c.loop-event.invariant.split;
  tells = c.loop-event.invariant.tells;
  window = shown_left c.args.window c.args.skipped (length c.loop-event.invariant.made) c.requires.few
      (λ less. omega (arith, less, c.if-skipped-before.false, c.before-2.ensures)) c.loop-event.invariant.within;
  ends = none_left c.args.window.to (c.args.skipped + length c.loop-event.invariant.made) c.loop-event.left c.loop-event.invariant.left
      (c.is_over.ensures.yes c.if-is_over.true);
}

pub returns-clause-told : goal.returns-clause-told
returns-clause-told g = λ c. record {
  events = c.loop-event.invariant.made;
  rest = [];
  split = split_same c.loop-event.invariant.made c.loop-event.events [] c.args.events.now c.in_default.ensures.0
      c.loop-event.invariant.split;
  tells = c.loop-event.invariant.tells;
  window = shown_left c.args.window c.args.skipped (length c.loop-event.invariant.made) c.requires.few
      (λ less. omega (arith, less, c.if-skipped-before.false, c.before-2.ensures)) c.loop-event.invariant.within;
  ends = refl;
}
