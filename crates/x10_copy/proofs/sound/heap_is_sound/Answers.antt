use Rattle.std.proofs.Common.{sym, ◌∙◌}
use Rattle.x10_copy.proofs.SoundWords.{heap_to, heap_from}
use Rattle.x10_copy.proofs.sound.heap_is_sound.Goals as goal

pub returns : goal.returns
returns c = (
  λ h. heap_to c.args.image.now.classes c.args.places c.args.heap.now c.fits.ensures c.fits-2.ensures.classes c.fits-2.ensures.fields
      (sym c.objects_sound.ensures ∙ h),
  λ h. c.objects_sound.ensures ∙ heap_from c.args.image.now.classes c.args.places c.args.heap.now h,
)
