use Rattle.std.proofs.Common.{arith}
use Rattle.std.specs.String.{string_bytes}
use Rattle.x10_asm.specs.Listing.{function_lines}
use Rattle.x10_asm.proofs.Items.{none_listed, one_more_listed, all_listed}
use Rattle.x10_asm.proofs.listing.push_functions.Goals as goal

pub loop-f-init : goal.loop-f-init
loop-f-init c = none_listed function_lines c.args.image.now.functions (string_bytes c.args.out.now)

pub loop-f-preserved : goal.loop-f-preserved
loop-f-preserved c = one_more_listed function_lines c.args.image.now.functions c.loop-f.f c.in_ok-push_function.ensures.0
    (string_bytes c.args.out.now) (string_bytes c.loop-f.out) (string_bytes c.push_function.new.out) c.loop-f.invariant
    c.in_ok-push_function.ensures.1 c.in_ok-push_function.ensures.2

pub returns : goal.returns
returns c = all_listed function_lines c.args.image.now.functions c.loop-f.f (string_bytes c.args.out.now)
    (string_bytes c.loop-f.out) c.loop-f.invariant (omega arith)
