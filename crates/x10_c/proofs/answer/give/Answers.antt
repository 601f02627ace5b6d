use Rattle.x10_c.proofs.Giving.{given}
use Rattle.x10_c.proofs.answer.give.Goals as goal

pub returns-then-copy : goal.returns-then-copy
returns-then-copy c v asked bytes came = given v asked bytes c.args.text.now c.args.buffer.now c.copy.new.buffer c.tell-status.result
    c.copy.new.needed c.tell-status.new.told (c.copy.ensures.written c.if-copy.true) (c.copy.ensures.rest c.if-copy.true)
    (c.copy.ensures.fits c.if-copy.true) c.args.done c.tell-status.ensures.status c.tell-status.ensures.told came
