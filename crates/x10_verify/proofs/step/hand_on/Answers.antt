use Rattle.std.proofs.Common.{◌≡◌, true, arith}
use Rattle.x10_code.specs.Rules.{goes_on_of}
use Rattle.x10_verify.proofs.step.hand_on.Goals as goal

pub returns : goal.returns
returns c = λ entry is.
    let on : goes_on_of c.args.instr.op ≡ true = cc (c.goes_on.ensures, c.if-not-goes_on.false) in
    let a = c.advance.ensures entry is in
    rw on (a.0, a.1, omega arith, a.2, a.3, a.4)
