use Rattle.std.specs.Prelude.{decimal, slice_index}
use Rattle.std.specs.String.{string_bytes}
use Rattle.x10_states.proofs.Elements.{one_more}
use Rattle.x10_states.proofs.stays.push_counts.Goals as goal

pub loop-place-preserved : goal.loop-place-preserved
loop-place-preserved c = one_more c.loop-place.place (λ p. decimal (slice_index c.args.counts.now p)) (string_bytes c.args.out.now)
    (string_bytes c.loop-place.out) (string_bytes c.push_count.new.out) c.loop-place.invariant c.in_ok-push_count.ensures
