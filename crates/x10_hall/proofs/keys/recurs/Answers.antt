use Rattle.std.proofs.Common.{get_or, sym, ap, arith}
use Rattle.std.proofs.Math.Nat.{mod-eq_of_lt}
use Rattle.x10_hall.proofs.KeyRounds.{recurs_next}
use Rattle.x10_hall.proofs.keys.recurs.Goals as goal

pub loop-at-init : goal.loop-at-init
loop-at-init c = record {
  past = omega arith;
  again = λ k lt. ap (λ n. get_or c.args.keys.now n 0) (sym (mod-eq_of_lt lt));
}

pub loop-at-preserved : goal.loop-at-preserved
loop-at-preserved c =
    let old = c.loop-at.invariant in
    record {
      past = omega (arith, old.past);
      again = recurs_next c.args.keys.now c.args.period c.loop-at.at old.past old.again c.requires c.if-keys-at.false;
    }
