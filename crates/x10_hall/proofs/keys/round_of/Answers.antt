use Rattle.std.proofs.Common.{◌<◌, refl, arith}
use Rattle.x10_hall.proofs.KeyRounds.{whole, again}
use Rattle.x10_hall.proofs.keys.round_of.Goals as goal

pub returns-then-period-eq0 : goal.returns-then-period-eq0
returns-then-period-eq0 c = whole c.args.keys.now

pub returns : goal.returns
returns c =
    let some : 0 < c.next_first-period.result = omega (arith, c.if-period-eq0.false) in
    again c.args.keys.now c.next_first-period.result some c.next_first-period.ensures.within (c.if-not-recurs.ensures refl)
