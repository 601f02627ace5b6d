use Rattle.std.proofs.Common.{sym, ◌∙◌}
use Rattle.x10_copy.specs.Captured.{kinds_of}
use Rattle.x10_copy.proofs.SoundWords.{words_to, words_from}
use Rattle.x10_copy.proofs.sound.words_are_sound.Goals as goal

pub returns : goal.returns
returns c = (
  λ h. words_to c.args.places c.args.heap.now (kinds_of c.args.slots.now) c.args.words.now c.fits.ensures (sym c.roots_sound.ensures ∙ h),
  λ h.
      c.roots_sound.ensures ∙ words_from c.args.places c.args.heap.now (kinds_of c.args.slots.now) c.args.words.now h,
)
