use Rattle.std.proofs.Common.{arith}
use Rattle.std.specs.Prelude.{◌-◌}
use Rattle.x10_world.specs.declared.rounds.Unfinished.TheVariants as halt
use Rattle.x10_world.proofs.RunCounts.{err_is, in_none, in_on, cut_on}
use Rattle.x10_world.proofs.rounds.Rounds.make_each.Goals as goal

pub loop-init : goal.loop-init
loop-init g c = record { less = omega (arith, c.requires.some); runs = in_none c.args.world.now; goes = c.requires.going }

pub returns-in_err-more : goal.returns-in_err-more
returns-in_err-more g c = record {
  made = err_is c.from_residual.result c.in_err-more.field-0.0 _ _ c.from_residual.ensures.1
      (cut_on c.args.world.now c.loop.world c.make_some.new.world c.loop.made
      (c.args.left - c.loop.made) c.args.left c.in_err-more.field-0.0 c.loop.invariant.runs
      c.in_err-more.ensures.made (omega (arith, c.loop.invariant.less)));
}

pub returns-in_err-look : goal.returns-in_err-look
returns-in_err-look g c =
    let more = c.in_ok-more.ensures.made in
    record {
      made = err_is c.from_residual-in_err-look.result halt.Memory _ _ c.from_residual-in_err-look.ensures.1 (
        _,
        omega (arith, c.loop.invariant.less, more.few),
        in_on c.args.world.now c.loop.world c.make_some.new.world c.loop.made
            c.in_ok-more.more c.loop.invariant.runs more.runs,
        more.goes,
      );
    }

pub returns-then-more-eq0 : goal.returns-then-more-eq0
returns-then-more-eq0 g c =
    let more = c.in_ok-more.ensures.made in
    record {
      made = record {
        few = omega (arith, c.loop.invariant.less, more.few);
        runs = in_on c.args.world.now c.loop.world c.make_some.new.world c.loop.made c.in_ok-more.more c.loop.invariant.runs more.runs;
        goes = more.goes;
      };
    }

pub returns-then-made-left : goal.returns-then-made-left
returns-then-made-left g c =
    let more = c.in_ok-more.ensures.made in
    record {
      made = record {
        few = omega (arith, c.loop.invariant.less, more.few);
        runs = in_on c.args.world.now c.loop.world c.make_some.new.world c.loop.made c.in_ok-more.more c.loop.invariant.runs more.runs;
        goes = more.goes;
      };
    }

pub loop-preserved : goal.loop-preserved
loop-preserved g c =
    let more = c.in_ok-more.ensures.made in
    record {
      less = omega (arith, c.loop.invariant.less, more.few, c.if-made-left.false);
      runs = in_on c.args.world.now c.loop.world c.make_some.new.world c.loop.made c.in_ok-more.more c.loop.invariant.runs more.runs;
      goes = more.goes;
    }
