use Rattle.std.proofs.Common.{◌++◌, refl}
use Rattle.std.specs.Prelude.{decimal}
use Rattle.std.specs.String.{string_bytes}
use Rattle.x10_asm.specs.Listing.{spaced}
use Rattle.x10_frame.specs.Heads.{received_of}
use Rattle.x10_frame_lines.specs.Lines.{count_words}
use Rattle.x10_frame_lines.proofs.Numbered.{one_more}
use Rattle.x10_frame_lines.proofs.lines.push_received.Goals as goal

pub loop-place-preserved : goal.loop-place-preserved
loop-place-preserved c = one_more (λ n xs. count_words xs) (λ n x. spaced (decimal x)) (λ n x xs. refl)
    (string_bytes c.args.text.now ++ count_words (received_of c.args.frame.now)) (string_bytes c.loop-place.text) (string_bytes c.write.new.self)
    (received_of c.args.frame.now) c.loop-place.place (c.received-count.result) c.loop-place.invariant c.received-count.ensures.value
    c.in_ok-write.ensures.bytes
