use Rattle.std.proofs.Common.{arith}
use Rattle.std.specs.String.{string_bytes}
use Rattle.std.proofs.Common.{map}
use Rattle.x10_asm.specs.Listing.{spaced, slot_word}
use Rattle.std.proofs.lemmas.List.{length-map}
use Rattle.x10_asm.proofs.Items.{none_listed, one_more_listed, all_listed, word_at}
use Rattle.x10_asm.proofs.listing.push_slots.Goals as goal

pub loop-i-init : goal.loop-i-init
loop-i-init c = none_listed spaced (map slot_word c.args.signature.now.parameters) (string_bytes c.args.out.now)

pub loop-i-preserved : goal.loop-i-preserved
loop-i-preserved c = one_more_listed spaced (map slot_word c.args.signature.now.parameters) c.loop-i.i (slot_word c.parameter.result)
    (string_bytes c.args.out.now) (string_bytes c.loop-i.out) (string_bytes c.push_slot.new.out) c.loop-i.invariant
    (word_at slot_word c.args.signature.now.parameters c.loop-i.i c.parameter.result c.parameter.ensures.value) c.in_ok-push_slot.ensures

pub returns : goal.returns
returns c = all_listed spaced (map slot_word c.args.signature.now.parameters) c.loop-i.i (string_bytes c.args.out.now)
    (string_bytes c.loop-i.out) c.loop-i.invariant (simp length-map (omega arith))
