use Rattle.std.proofs.Common.{refl}
use Rattle.x10_explain.proofs.Verdicts.{not_verified}
use Rattle.x10_explain.proofs.check.check_bytes.Goals as goal

pub returns-in_ok-text-in-Err-verify-clause-verdict : goal.returns-in_ok-text-in-Err-verify-clause-verdict
returns-in_ok-text-in-Err-verify-clause-verdict c = (
  λ f. absurd cc,
  λ is. absurd (not_verified c.args.bytes.now c.in-Ok.image c.in-Err-verify.fault c.in-Ok.ensures.found.0 c.in-Ok.ensures.found.1
      c.in-Err-verify.ensures.err (λ e. absurd (let t = c.is_memory.ensures.1 e in cc)) is),
)

pub returns-in_ok-text-in-Err-verify-clause-why : goal.returns-in_ok-text-in-Err-verify-clause-why
returns-in_ok-text-in-Err-verify-clause-why c = (refl, (c.in-Ok.image, c.in-Ok.ensures.found.0, c.in-Ok.ensures.found.1, c.in-Err-verify.ensures.err))
