-- What a frame says.
use Rattle.std.proofs.Common.{◌≡◌, ℕ, ◌<◌, ◌^◌, List, sym, ap, ap₂, ◌∙◌}
use Rattle.x10_model.specs.ReadingFrames.{frame_at}
use Rattle.x10_model.proofs.FrameLaws.{frame_again}
use Rattle.x10_frame_lines.specs.Lines.{IsTold}
use Rattle.x10_frame_lines.proofs.Fronts.{first_is}
use Rattle.x10_moments.specs.Moments.{words_of, words_read}

-- the lines that are told of bytes are the words of the frame that they are
pub told_words : (places : ℕ) (bytes text : List ℕ) → places < 2 ^ 16 → IsTold places bytes text → text ≡ words_of places bytes
told_words places bytes text few t = t.text_is ∙ sym (ap₂ words_read (first_is t.version t.frame bytes t.spelled)
    (ap (frame_at places) t.spelled ∙ frame_again t.version places few t.frame t.fits))
