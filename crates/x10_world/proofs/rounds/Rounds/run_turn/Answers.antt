use Rattle.std.proofs.Common.{subst, arith}
use Rattle.x10_world.specs.declared.rounds.Unfinished.TheVariants as halt
use Rattle.x10_world.specs.Rounds.{RunsIn}
use Rattle.x10_world.proofs.RunCounts.{err_is, in_none, in_after, in_repeats, cut_after, cut_stretch, ends_after}
use Rattle.x10_world.proofs.rounds.Rounds.run_turn.Goals as goal

pub returns-in_err-look : goal.returns-in_err-look
returns-in_err-look c = record {
  made = err_is c.from_residual.result halt.Memory _ _ c.from_residual.ensures.1
      (0, omega arith, in_none c.args.world.now, c.requires.going);
}

pub returns-in_default : goal.returns-in_default
returns-in_default c = record {
  made = ends_after c.args.world.now c.go_on.new.world c.make_all.new.world c.args.left c.make_all.result
      (subst (λ n. RunsIn c.args.world.now n c.go_on.new.world) (omega (arith, c.if-made-gt0.false)) c.in_ok-made.ensures.made.runs)
      c.make_all.ensures.made;
}

pub returns-in_err-made-2 : goal.returns-in_err-made-2
returns-in_err-made-2 c = record {
  made = err_is c.from_residual-in_err-made-2.result (halt.Stop c.in_err-made-2.field-0.0) _ _ c.from_residual-in_err-made-2.ensures.1
      (cut_after c.args.world.now c.go_on.new.world c.run_activity.new.self c.args.left (halt.Stop c.in_err-made-2.field-0.0)
      (subst (λ n. RunsIn c.args.world.now n c.go_on.new.world) (omega (arith, c.if-made-gt0.false)) c.in_ok-made.ensures.made.runs)
      (cut_stretch c.go_on.new.world c.run_activity.new.self _ c.in-Some.key c.args.left c.in_err-made-2.field-0.0 c.in_err-made-2.ensures.kept
      (c.in_err-made-2.ensures.hindered c.in_ok-made.ensures.made.goes)));
}

pub returns-in_err-look-2 : goal.returns-in_err-look-2
returns-in_err-look-2 c = record {
  made = err_is c.from_residual-in_err-look-2.result halt.Memory _ _ c.from_residual-in_err-look-2.ensures.1 (
    c.in_ok-made-2.made,
    c.in_ok-made-2.ensures.few,
    in_after c.args.world.now c.go_on.new.world c.run_activity.new.self c.in_ok-made-2.made
        (subst (λ n. RunsIn c.args.world.now n c.go_on.new.world) (omega (arith, c.if-made-gt0.false)) c.in_ok-made.ensures.made.runs)
        (in_repeats c.go_on.new.world c.run_activity.new.self c.in_ok-made-2.made _ c.in-Some.key c.in_ok-made-2.ensures.kept
        c.in_ok-made-2.ensures.ok),
    c.in_ok-made-2.ensures.goes,
  );
}

pub returns-then-made-eq0 : goal.returns-then-made-eq0
returns-then-made-eq0 c = record {
  made = ends_after c.args.world.now c.run_activity.new.self c.make_next.new.world c.args.left c.make_next.result
      (subst (λ n. RunsIn c.args.world.now n c.run_activity.new.self) c.if-made-eq0.true
      (in_after c.args.world.now c.go_on.new.world c.run_activity.new.self c.in_ok-made-2.made
      (subst (λ n. RunsIn c.args.world.now n c.go_on.new.world) (omega (arith, c.if-made-gt0.false)) c.in_ok-made.ensures.made.runs)
      (in_repeats c.go_on.new.world c.run_activity.new.self c.in_ok-made-2.made _ c.in-Some.key c.in_ok-made-2.ensures.kept
      c.in_ok-made-2.ensures.ok)))
      c.make_next.ensures.made;
}

pub returns : goal.returns
returns c = record {
  made = (
    record {
      few = c.in_ok-made-2.ensures.few;
      runs = in_after c.args.world.now c.go_on.new.world c.run_activity.new.self c.in_ok-made-2.made
          (subst (λ n. RunsIn c.args.world.now n c.go_on.new.world) (omega (arith, c.if-made-gt0.false)) c.in_ok-made.ensures.made.runs)
          (in_repeats c.go_on.new.world c.run_activity.new.self c.in_ok-made-2.made _ c.in-Some.key c.in_ok-made-2.ensures.kept
          c.in_ok-made-2.ensures.ok);
      goes = c.in_ok-made-2.ensures.goes;
    },
    (λ e. absurd (c.if-made-eq0.false e)),
  );
}
