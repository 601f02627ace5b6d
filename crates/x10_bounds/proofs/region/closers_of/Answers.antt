use Rattle.std.proofs.Common.{◌≡◌, ◌+◌, ◌-◌, ◌<◌, length, ℕ, Some, subst, sym, arith}
use Rattle.std.specs.Prelude.{slice_set}
use Rattle.x10_bounds.specs.Regions.{AreClosersFrom}
use Rattle.x10_bounds.proofs.Closers.{closes_earlier, closes_one, closes_nothing}
use Rattle.x10_bounds.proofs.region.closers_of.Goals as goal

pub index_mut-requires : goal.index_mut-requires
index_mut-requires c =
    let within : c.loop-pc.pc - 1 < length c.args.code.now = omega arith in
    let earlier = closes_earlier c.args.code.now (c.loop-pc.pc - 1) c.in-Some.opener c.closed_at.result within c.closed_at.ensures c.in-Some.is in
    omega (arith, earlier, c.from.ensures, c.loop-pc.closers.ok.0, c.loop-pc.invariant.count)

pub loop-pc-preserved-in-Some : goal.loop-pc-preserved-in-Some
loop-pc-preserved-in-Some c =
    let within : c.loop-pc.pc - 1 < length c.args.code.now = omega arith in
    let next : c.loop-pc.pc ≡ c.loop-pc.pc - 1 + 1 = omega arith in
    subst (λ (o : ℕ). AreClosersFrom c.args.code.now (c.loop-pc.pc - 1) (slice_set c.loop-pc.closers.items o (Some (c.loop-pc.pc - 1))))
    (sym c.from.ensures)
    (closes_one c.args.code.now c.loop-pc.pc (c.loop-pc.pc - 1) c.in-Some.opener c.loop-pc.closers.items c.closed_at.result next within
    c.closed_at.ensures c.in-Some.is c.loop-pc.invariant)

pub loop-pc-preserved : goal.loop-pc-preserved
loop-pc-preserved c =
    let within : c.loop-pc.pc - 1 < length c.args.code.now = omega arith in
    let next : c.loop-pc.pc ≡ c.loop-pc.pc - 1 + 1 = omega arith in
    closes_nothing c.args.code.now c.loop-pc.pc (c.loop-pc.pc - 1) c.loop-pc.closers.items c.closed_at.result next within c.closed_at.ensures
    c.in_default.is c.loop-pc.invariant
