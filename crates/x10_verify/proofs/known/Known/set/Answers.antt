use Rattle.std.proofs.Common.{arith, set, subst, sym}
use Rattle.x10_model.specs.Assignments.{set as set_kind}
use Rattle.x10_verify.specs.Known.{state_of}
use Rattle.x10_verify.specs.Knowledge.{SameState}
use Rattle.x10_verify.proofs.Rows.{same_set}
use Rattle.x10_verify.proofs.known.Known.set.Goals as goal

pub returns : goal.returns
returns c = λ is. subst (λ ks. SameState (state_of (record { kinds = set ks c.args.register c.encode.result; homes = c.relocate.new.self.homes }))
    (set_kind (state_of c.args.self.now) c.args.register c.args.kind c.args.like)) (sym c.relocate.ensures.kinds)
    (same_set c.args.self.now.kinds c.args.self.now.homes c.relocate.new.self.homes c.args.register c.encode.result c.args.kind c.args.like
    c.encode.ensures (omega arith) (c.relocate.ensures.homes is))
