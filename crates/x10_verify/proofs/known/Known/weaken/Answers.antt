use Rattle.std.proofs.Common.{refl}
use Rattle.std.proofs.lemmas.Bool.{or_left, or_right}
use Rattle.x10_verify.proofs.WeakestState.{weakened_met, weakened_falls}
use Rattle.x10_verify.proofs.known.Known.weaken.Goals as goal

pub returns-then-homes-clause-met : goal.returns-then-homes-clause-met
returns-then-homes-clause-met c = weakened_met c.args.self.now
    (record { kinds = c.args.self.now.kinds; homes = c.weaken-homes.new.self }) c.args.other.now c.weaken_kinds-kinds.new.self
    c.weaken_kinds-kinds.result c.weaken-homes.ensures.met refl c.weaken_kinds-kinds.ensures

pub returns-else-homes-clause-met : goal.returns-else-homes-clause-met
returns-else-homes-clause-met c = weakened_met c.args.self.now
    (record { kinds = c.args.self.now.kinds; homes = c.weaken-homes.new.self }) c.args.other.now c.weaken_kinds-kinds.new.self
    c.weaken_kinds-kinds.result c.weaken-homes.ensures.met refl c.weaken_kinds-kinds.ensures

pub returns-then-homes-clause-falls : goal.returns-then-homes-clause-falls
returns-then-homes-clause-falls c = λ e. weakened_falls c.args.self.now
    (record { kinds = c.args.self.now.kinds; homes = c.weaken-homes.new.self }) c.args.other.now c.weaken_kinds-kinds.new.self c.weaken-homes.result
    c.weaken_kinds-kinds.result refl c.weaken-homes.ensures.kept c.weaken-homes.ensures.fewer c.weaken_kinds-kinds.ensures
    (or_left _ _ c.if-homes.true)

pub returns-else-homes-clause-falls : goal.returns-else-homes-clause-falls
returns-else-homes-clause-falls c = λ e. weakened_falls c.args.self.now
    (record { kinds = c.args.self.now.kinds; homes = c.weaken-homes.new.self }) c.args.other.now c.weaken_kinds-kinds.new.self c.weaken-homes.result
    c.weaken_kinds-kinds.result refl c.weaken-homes.ensures.kept c.weaken-homes.ensures.fewer c.weaken_kinds-kinds.ensures (or_right _ _ e)
