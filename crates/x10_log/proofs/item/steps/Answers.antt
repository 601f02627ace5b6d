use Rattle.std.proofs.Common.{ap₂}
use Rattle.x10_log.specs.Reading.{Steps}
use Rattle.x10_log.proofs.Faults.{no_fault, value_is}
use Rattle.x10_log.proofs.Words.{run_parts}
use Rattle.x10_log.proofs.item.steps.Goals as goal

pub returns-in_err-count_of-in-Some : goal.returns-in_err-count_of-in-Some
returns-in_err-count_of-in-Some c = λ key count small few e.
    let parts = run_parts key count c.in-Some.key.now c.in-Some.count.now c.args.word.now small e c.in-Some.ensures.some.0 c.in-Some.ensures.some.1 in
    absurd (no_fault c.in_err-count_of-in-Some.field-0.0 key (c.in_err-count_of-in-Some.ensures key small parts.0))

pub returns-in_err-count_of-in-Some-2 : goal.returns-in_err-count_of-in-Some-2
returns-in_err-count_of-in-Some-2 c = λ key count small few e.
    let parts = run_parts key count c.in-Some.key.now c.in-Some.count.now c.args.word.now small e c.in-Some.ensures.some.0 c.in-Some.ensures.some.1 in
    absurd (no_fault c.in_err-count_of-in-Some-2.field-0.0 count (c.in_err-count_of-in-Some-2.ensures count few parts.1))

pub returns-in_ok-count_of-in-Some-2 : goal.returns-in_ok-count_of-in-Some-2
returns-in_ok-count_of-in-Some-2 c = λ key count small few e.
    let parts = run_parts key count c.in-Some.key.now c.in-Some.count.now c.args.word.now small e c.in-Some.ensures.some.0 c.in-Some.ensures.some.1 in
    ap₂ Steps (value_is c.in_ok-count_of-in-Some.field-0 key 0 (c.in_ok-count_of-in-Some.ensures key small parts.0))
    (value_is c.in_ok-count_of-in-Some-2.field-0 count 0 (c.in_ok-count_of-in-Some-2.ensures count few parts.1))
