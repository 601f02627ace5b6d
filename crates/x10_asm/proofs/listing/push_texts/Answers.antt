use Rattle.std.proofs.Common.{arith}
use Rattle.std.specs.String.{string_bytes}
use Rattle.x10_asm.specs.Listing.{text_line}
use Rattle.x10_asm.proofs.Items.{none_listed, one_more_listed, all_listed}
use Rattle.x10_asm.proofs.listing.push_texts.Goals as goal

pub loop-i-init : goal.loop-i-init
loop-i-init c = none_listed text_line c.args.image.now.texts (string_bytes c.args.out.now)

pub loop-i-preserved : goal.loop-i-preserved
loop-i-preserved c = one_more_listed text_line c.args.image.now.texts c.loop-i.i c.text.result.now (string_bytes c.args.out.now)
    (string_bytes c.loop-i.out) (string_bytes c.push_text_line.new.out) c.loop-i.invariant c.text.ensures.value c.in_ok-push_text_line.ensures

pub returns : goal.returns
returns c = all_listed text_line c.args.image.now.texts c.loop-i.i (string_bytes c.args.out.now) (string_bytes c.loop-i.out) c.loop-i.invariant
    (omega arith)
