use Rattle.std.proofs.Common.{true, refl}
use Rattle.x10_model.specs.Structure.{around, nests, jumps_well, has_slot, calls_earlier, stays_out}
use Rattle.x10_bounds.proofs.FirstFailure.{goes_on}
use Rattle.x10_bounds.proofs.rules.all_hold.Goals as goal

pub loop-pc-preserved : goal.loop-pc-preserved
loop-pc-preserved c = record {
  nests = goes_on (λ pc i. nests i.op (around c.args.code.now pc)) c.args.code.now c.loop-pc.pc true _ c.loop-pc-test.true
      (c.if-not-holds_at.ensures.nests refl) refl c.loop-pc.invariant.nests;
  jumps = goes_on (λ pc i. jumps_well c.args.code.now pc i i.op) c.args.code.now c.loop-pc.pc true _ c.loop-pc-test.true
      (c.if-not-holds_at.ensures.jumps refl) refl c.loop-pc.invariant.jumps;
  slots = goes_on (λ pc i. has_slot c.args.loops (around c.args.code.now pc) i i.op) c.args.code.now c.loop-pc.pc true _ c.loop-pc-test.true
      (c.if-not-holds_at.ensures.slot refl) refl c.loop-pc.invariant.slots;
  calls = goes_on (λ pc i. calls_earlier c.args.function i) c.args.code.now c.loop-pc.pc true _ c.loop-pc-test.true
      (c.if-not-holds_at.ensures.calls refl) refl c.loop-pc.invariant.calls;
  atomics = goes_on (λ pc i. stays_out i.op (around c.args.code.now pc)) c.args.code.now c.loop-pc.pc true _ c.loop-pc-test.true
      (c.if-not-holds_at.ensures.atomics refl) refl c.loop-pc.invariant.atomics;
}
