use Rattle.std.proofs.Common.{◌++◌, refl}
use Rattle.std.specs.Prelude.{decimal}
use Rattle.std.specs.String.{string_bytes}
use Rattle.x10_asm.specs.Listing.{spaced}
use Rattle.x10_frame.specs.Heads.{sent_of}
use Rattle.x10_frame_lines.specs.Lines.{count_words}
use Rattle.x10_frame_lines.proofs.Numbered.{one_more}
use Rattle.x10_frame_lines.proofs.lines.push_sent.Goals as goal

pub loop-place-preserved : goal.loop-place-preserved
loop-place-preserved c = one_more (λ n xs. count_words xs) (λ n x. spaced (decimal x)) (λ n x xs. refl)
    (string_bytes c.args.text.now ++ count_words (sent_of c.args.frame.now)) (string_bytes c.loop-place.text) (string_bytes c.write.new.self)
    (sent_of c.args.frame.now) c.loop-place.place (c.sent-count.result) c.loop-place.invariant c.sent-count.ensures.value c.in_ok-write.ensures.bytes
