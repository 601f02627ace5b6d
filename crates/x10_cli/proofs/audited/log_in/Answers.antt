use Rattle.std.proofs.Common.{sym, ◌∙◌}
use Rattle.x10_cli.proofs.audited.log_in.Goals as goal

pub returns-then-not-is_digest_of-clause-due : goal.returns-then-not-is_digest_of-clause-due
returns-then-not-is_digest_of-clause-due c = record {
  log = c.in_ok-read.read;
  is_text = sym c.in-Ok.ensures.cases.0 ∙ c.in_ok-read.ensures.only;
  other = λ d. let h = sym (c.is_digest_of.ensures.1 d) ∙ c.if-not-is_digest_of.true in cc;
}
