use Rattle.std.proofs.Common.{false, length, subst}
use Rattle.x10_asm.specs.Literals.{scan}
use Rattle.x10_log.proofs.Quotes.{IsShorter, given_is, scan_shorter}
use Rattle.x10_log.proofs.quoted.scan.Goals as goal

pub returns-in-Ok-clause-shorter : goal.returns-in-Ok-clause-shorter
returns-in-Ok-clause-shorter c =
    subst (IsShorter (length c.args.quoted.now)) (given_is (scan false c.args.quoted.now) _ c.in-Ok.ensures) (scan_shorter false c.args.quoted.now)
