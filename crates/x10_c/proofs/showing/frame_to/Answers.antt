use Rattle.std.proofs.Common.{length, ap, ◌∙◌}
use Rattle.x10_c.proofs.Sent.{copied, told}
use Rattle.x10_c.proofs.showing.frame_to.Goals as goal

pub returns-then-copy : goal.returns-then-copy
returns-then-copy c = copied c.args.station.now.sent c.args.number c.copy.new.needed c.args.buffer.now c.copy.new.buffer
    c.in-Some.frame.now c.in-Some.ensures
    (c.copy.ensures.needed ∙ ap length c.deref.ensures.value) (c.copy.ensures.written c.if-copy.true ∙ c.deref.ensures.value)
    (c.copy.ensures.rest c.if-copy.true) (c.copy.ensures.fits c.if-copy.true)

pub returns : goal.returns
returns c = told c.args.station.now.sent c.args.number c.copy.new.needed c.args.buffer.now c.copy.new.buffer c.in-Some.frame.now c.in-Some.ensures
    (c.copy.ensures.needed ∙ ap length c.deref.ensures.value) (c.copy.ensures.small c.if-copy.false) (c.copy.ensures.kept c.if-copy.false)
