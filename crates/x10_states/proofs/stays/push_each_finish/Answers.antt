use Rattle.std.specs.Prelude.{slice_index}
use Rattle.std.specs.String.{string_bytes}
use Rattle.x10_place.specs.Stays.{finish_at}
use Rattle.x10_states.specs.Stays.{count_text}
use Rattle.x10_states.proofs.Elements.{one_more}
use Rattle.x10_states.proofs.stays.push_each_finish.Goals as goal

pub loop-i-preserved : goal.loop-i-preserved
loop-i-preserved c = one_more c.loop-i.i
    (λ i. count_text c.args.place.now (finish_at c.args.place.now.id (slice_index c.args.stay.now.finishes i)))
    (string_bytes c.args.out.now) (string_bytes c.loop-i.out) (string_bytes c.push_opened.new.out) c.loop-i.invariant c.in_ok-push_opened.ensures
