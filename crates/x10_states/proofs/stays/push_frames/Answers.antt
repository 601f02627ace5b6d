use Rattle.std.proofs.Common.{ap, codes}
use Rattle.std.specs.String.{string_bytes}
use Rattle.x10_states.specs.Frames.{frame_text}
use Rattle.x10_states.specs.Stays.{callers_text, frames_text}
use Rattle.x10_states.proofs.Pieces.{three}
use Rattle.x10_states.proofs.stays.push_frames.Goals as goal

pub returns : goal.returns
unfolding frames_text
returns c = three c.push_all_callers.result (string_bytes c.args.out.now) (string_bytes c.push_str.new.self) (string_bytes c.push_frame.new.out)
    (string_bytes c.push_all_callers.new.out) (codes "{\"frames\":[")
    (frame_text c.args.kinds.now c.args.heap.now c.frame.result.now) (frame_text c.args.kinds.now c.args.heap.now c.args.stay.now.top)
    (callers_text c.args.kinds.now c.args.heap.now c.args.stay.now.callers) c.in_ok-push_str.ensures.bytes c.in_ok-push_frame.ensures
    (ap (λ f. frame_text c.args.kinds.now c.args.heap.now f) c.frame.ensures) c.push_all_callers.ensures
