use Rattle.std.proofs.Common.{ap, map, length, sym, ◌∙◌, arith}
use Rattle.std.proofs.lemmas.Bool.{eqb-false}
use Rattle.x10_log.specs.Logs.{turn_value}
use Rattle.x10_log.proofs.LogLines.{line_fault, one_read, end_read}
use Rattle.x10_log.proofs.reading.turns_in.Goals as goal

pub returns-in-Err-clause-found : goal.returns-in-Err-clause-found
returns-in-Err-clause-found c = λ ts within fits e.
    c.fault_on.ensures ∙ line_fault c.args.places c.args.text.now c.loop-line.rest.now c.in-Some.line.now c.in-Some.after.now
    (map turn_value c.loop-line.turns.items) ts c.in-Err.cause (omega (arith, c.ranges.places.fits)) c.loop-line.invariant.1
    c.in-Some.ensures.some.0 c.in-Some.ensures.some.1 c.in-Err.ensures.found within fits e

pub loop-line-preserved : goal.loop-line-preserved
loop-line-preserved c = (
  c.in-Some.ensures.utf8,
  one_read c.args.places c.args.text.now c.loop-line.rest.now c.in-Some.line.now c.in-Some.after.now (map turn_value c.loop-line.turns.items)
      (map turn_value c.push_read.new.turns.items) (omega (arith, c.ranges.places.fits)) c.loop-line.invariant.1 c.in-Some.ensures.some.0
      c.in-Some.ensures.some.1 c.in_default-push_read.ensures.only c.in_default-push_read.ensures.found,
)

pub returns-then-not-is_empty-clause-found : goal.returns-then-not-is_empty-clause-found
returns-then-not-is_empty-clause-found c = λ ts within fits e.
    let end = end_read c.args.places c.args.text.now c.loop-line.rest.now (map turn_value c.loop-line.turns.items) ts c.loop-line.invariant.1
    c.in_default.ensures.none within fits e in
    absurd (eqb-false (length c.loop-line.rest.now) 0 (sym c.is_empty.ensures ∙ c.if-not-is_empty.true) (ap length end.1))

pub returns-clause-found : goal.returns-clause-found
returns-clause-found c = λ ts within fits e.
    (end_read c.args.places c.args.text.now c.loop-line.rest.now (map turn_value c.loop-line.turns.items) ts c.loop-line.invariant.1
    c.in_default.ensures.none within fits e).0
