use Rattle.std.proofs.Common.{arith}
use Rattle.std.specs.String.{string_bytes}
use Rattle.x10_asm.specs.Listing.{int_line}
use Rattle.x10_asm.proofs.Items.{none_listed, one_more_listed, all_listed}
use Rattle.x10_asm.proofs.listing.push_ints.Goals as goal

pub loop-i-init : goal.loop-i-init
loop-i-init c = none_listed int_line c.args.image.now.ints (string_bytes c.args.out.now)

pub loop-i-preserved : goal.loop-i-preserved
loop-i-preserved c = one_more_listed int_line c.args.image.now.ints c.loop-i.i c.in_ok-push_int_at.ensures.0 (string_bytes c.args.out.now)
    (string_bytes c.loop-i.out) (string_bytes c.push_int_at.new.out) c.loop-i.invariant c.in_ok-push_int_at.ensures.1 c.in_ok-push_int_at.ensures.2

pub returns : goal.returns
returns c = all_listed int_line c.args.image.now.ints c.loop-i.i (string_bytes c.args.out.now) (string_bytes c.loop-i.out) c.loop-i.invariant
    (omega arith)
