use Rattle.std.proofs.Common.{◌∙◌, arith, refl}
use Rattle.std.proofs.lemmas.Str.{IsCharBoundary-start, IsCharBoundary-after_ascii}
use Rattle.x10_asm.proofs.LinesAndWords.{space_passed}
use Rattle.x10_asm.proofs.split.after_spaces.Goals as goal

pub loop-at-init : goal.loop-at-init
loop-at-init c = record { boundary = IsCharBoundary-start c.args.text.now c.utf8.text; left = refl }

pub loop-at-preserved : goal.loop-at-preserved
loop-at-preserved c =
    let here = rw c.as_bytes-bytes.ensures.value at c.if-bytes-at-ne32.false in
    let lt = rw c.as_bytes-bytes.ensures.value at c.loop-at-test.true in
    record {
      boundary = IsCharBoundary-after_ascii c.args.text.now c.loop-at.at c.utf8.text lt (omega (arith, here));
      left = c.loop-at.invariant.left ∙ space_passed c.args.text.now c.loop-at.at lt here;
    }
