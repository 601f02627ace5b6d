use Rattle.x10_explain.proofs.Verdicts.{text_verdict, text_why}
use Rattle.x10_explain.proofs.check.check_text.Goals as goal

pub returns-in_ok-report-in-Ok-clause-verdict : goal.returns-in_ok-report-in-Ok-clause-verdict
returns-in_ok-report-in-Ok-clause-verdict c = text_verdict c.args.text.now c.in-Ok.bytes.items c.deref.result.now c.in_ok-report-in-Ok.report.verified
    c.deref.ensures.value c.in-Ok.ensures.found c.in_ok-report-in-Ok.ensures.verdict

pub returns-in_ok-report-in-Ok-clause-why : goal.returns-in_ok-report-in-Ok-clause-why
returns-in_ok-report-in-Ok-clause-why c = text_why c.args.text.now c.in-Ok.bytes.items c.deref.result.now c.in_ok-report-in-Ok.report.verified
    c.in_ok-report-in-Ok.report.refusal c.deref.ensures.value c.in-Ok.ensures.found c.in_ok-report-in-Ok.ensures.why
