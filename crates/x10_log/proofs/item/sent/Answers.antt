use Rattle.std.proofs.Common.{◌∙◌}
use Rattle.x10_log.specs.Reading.{said, Sent}
use Rattle.x10_log.proofs.Faults.{no_fault, handed_on, value_is}
use Rattle.x10_log.proofs.Words.{frame_parts, sent_is}
use Rattle.x10_log.proofs.item.sent.Goals as goal

pub returns-in_err-to : goal.returns-in_err-to
returns-in_err-to c = λ f fits e.
    let parts = frame_parts f c.in-Some.to.now c.in-Some.digits.now c.args.text.now fits e c.in-Some.ensures.some.0 c.in-Some.ensures.some.1 in
    absurd (no_fault c.in_err-to.field-0.0 f.to (c.in_err-to.ensures f.to fits.to parts.0))

pub returns-in_err-bytes : goal.returns-in_err-bytes
returns-in_err-bytes c = λ f fits e.
    let parts = frame_parts f c.in-Some.to.now c.in-Some.digits.now c.args.text.now fits e c.in-Some.ensures.some.0 c.in-Some.ensures.some.1 in
    handed_on said c.from_residual-in_err-bytes.result _ (Sent f) c.from_residual-in_err-bytes.ensures.1
    (λ cause is. is ∙ c.in_err-bytes.ensures f.bytes fits.bytes parts.1)

pub returns : goal.returns
returns c = λ f fits e.
    let parts = frame_parts f c.in-Some.to.now c.in-Some.digits.now c.args.text.now fits e c.in-Some.ensures.some.0 c.in-Some.ensures.some.1 in
    sent_is f c.in_ok-to.to c.in_ok-bytes-2.bytes c.in_ok-bytes.bytes (value_is c.in_ok-to.to f.to 0 (c.in_ok-to.ensures f.to fits.to parts.0))
    c.in_ok-bytes-2.ensures.ok (c.in_ok-bytes.ensures f.bytes fits.bytes parts.1)
