use Rattle.std.proofs.Common.{◌≡◌, ◌+◌, ℕ, slice_index, arith, below_more, bit_or}
use lib.Bits.{or_add_and, and_le_l, and_le_r}
use Rattle.x10_finish.proofs.pairs.has_counted.Goals as goal

no_bits : (a b : ℕ) → bit_or a b ≡ 0 → (a ≡ 0) × (b ≡ 0)
no_bits a b e = (omega (arith, e, or_add_and a b, and_le_r a b), omega (arith, e, or_add_and a b, and_le_l a b))

pub loop-q-preserved : goal.loop-q-preserved
loop-q-preserved c =
    record {
      sent = λ e. below_more (λ (k : ℕ). slice_index c.args.sent.now (c.args.from + k) ≡ 0) c.loop-q.q
          (c.loop-q.invariant.sent (no_bits c.loop-q.all _ e).0) (no_bits _ _ (no_bits c.loop-q.all _ e).1).0;
      received = λ e. below_more (λ (k : ℕ). slice_index c.args.received.now (c.args.from + k) ≡ 0) c.loop-q.q
          (c.loop-q.invariant.received (no_bits c.loop-q.all _ e).0) (no_bits _ _ (no_bits c.loop-q.all _ e).1).1;
    }
