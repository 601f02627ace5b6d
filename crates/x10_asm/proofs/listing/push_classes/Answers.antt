use Rattle.std.proofs.Common.{arith}
use Rattle.std.specs.String.{string_bytes}
use Rattle.x10_asm.specs.Listing.{class_line}
use Rattle.x10_asm.proofs.Items.{none_listed, one_more_listed, all_listed}
use Rattle.x10_asm.proofs.listing.push_classes.Goals as goal

pub loop-c-init : goal.loop-c-init
loop-c-init c = none_listed class_line c.args.image.now.classes (string_bytes c.args.out.now)

pub loop-c-preserved : goal.loop-c-preserved
loop-c-preserved c = one_more_listed class_line c.args.image.now.classes c.loop-c.c c.class.result (string_bytes c.args.out.now)
    (string_bytes c.loop-c.out) (string_bytes c.push_class.new.out) c.loop-c.invariant c.class.ensures.value c.in_ok-push_class.ensures

pub returns : goal.returns
returns c = all_listed class_line c.args.image.now.classes c.loop-c.c (string_bytes c.args.out.now) (string_bytes c.loop-c.out) c.loop-c.invariant
    (omega arith)
