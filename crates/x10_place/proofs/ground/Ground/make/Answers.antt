use Rattle.std.proofs.Common.{◌∙◌, ap}
use Rattle.x10_place.specs.Routes.{op_made}
use Rattle.x10_place.proofs.StandingFrames.{checked}
use Rattle.x10_place.proofs.Partings.{begun_ok, departed_ok, left_ok, begin_refused, begin_over, send_over, end_over, end_outside}
use Rattle.x10_place.proofs.Insides.{begun_inside, departed_inside, left_inside}
use Rattle.x10_place.proofs.ground.Ground.make.Goals as goal

pub returns-in-Begin : goal.returns-in-Begin
returns-in-Begin c =
    let async = c.requires.op_is ∙ ap op_made c.in-Begin.is in
    let checks = checked c.args.self.now.verified.now c.certificate.ensures in
    record {
      ok = begun_ok c.args.self.now.verified.now c.args.self.now.stays c.args.self.now.store c.args.key c.args.instr checks c.requires
          c.begin.new.self.stays c.begin.new.self.store c.begin.result c.begin.ensures.ok c.begin.ensures.none;
      err = c.begin.ensures.err;
      verified = c.begin.ensures.verified;
      refused = begin_refused c.args.self.now.verified.now c.args.self.now.stays c.args.self.now.store c.args.key c.args.instr checks c.requires
          c.begin.result async c.begin.ensures.refused;
      full = λ limit over. c.begin.ensures.full limit c.requires.stay c.requires.is_there
          (begin_over c.args.self.now.verified.now c.args.self.now.stays c.args.self.now.store c.args.key c.args.instr checks c.requires async limit
          over);
      inside = begun_inside c.begin.result c.args.self.now.verified.now.program c.args.self.now.stays c.args.self.now.store c.args.key
          c.begin.new.self.stays c.begin.new.self.store c.begin.ensures.ok c.begin.ensures.err;
    }

pub returns-in-Depart : goal.returns-in-Depart
returns-in-Depart c =
    let checks = checked c.args.self.now.verified.now c.certificate.ensures in
    record {
      ok = departed_ok c.args.self.now.verified.now c.args.self.now.stays c.args.self.now.store c.args.key c.args.instr checks c.requires
          c.depart.new.self.stays c.depart.new.self.store c.depart.result c.depart.ensures.ok;
      err = c.depart.ensures.err;
      verified = c.depart.ensures.verified;
      refused = c.depart.ensures.refused;
      full = λ limit over. c.depart.ensures.full limit c.requires.stay c.requires.is_there
          (send_over c.args.self.now.verified.now c.args.self.now.stays c.args.self.now.store c.args.key c.args.instr checks c.requires
          c.in-Depart.departure (c.requires.op_is ∙ ap op_made c.in-Depart.is) limit over);
      inside = departed_inside c.depart.result c.args.self.now.verified.now.program c.args.self.now.stays c.args.self.now.store c.args.key
          c.depart.new.self.stays c.depart.new.self.store c.depart.ensures.ok c.depart.ensures.err;
    }

pub returns-in-Leave : goal.returns-in-Leave
returns-in-Leave c =
    let ret = c.requires.op_is ∙ ap op_made c.in-Leave.is in
    let checks = checked c.args.self.now.verified.now c.certificate.ensures in
    record {
      ok = left_ok c.args.self.now.verified.now c.args.self.now.stays c.args.self.now.store c.args.key c.args.instr checks c.requires
          c.leave.new.self.stays c.leave.new.self.store c.leave.result c.leave.ensures.ok;
      err = c.leave.ensures.err;
      verified = c.leave.ensures.verified;
      refused = c.leave.ensures.refused;
      inside = left_inside c.leave.result c.args.self.now.verified.now.program c.args.self.now.stays c.args.self.now.store c.args.key c.requires.stay
          c.leave.new.self.stays c.leave.new.self.store c.requires.is_there
          (end_outside c.args.self.now.verified.now c.args.self.now.stays c.args.self.now.store c.args.key c.args.instr checks c.requires ret)
          c.leave.ensures.ok c.leave.ensures.err;
      full = λ limit over. absurd (end_over c.args.self.now.verified.now c.args.self.now.stays c.args.self.now.store c.args.key c.args.instr checks
          c.requires ret limit over);
    }
