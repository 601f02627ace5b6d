use Rattle.x10_verify.proofs.RuleDecided.{if_err}
use Rattle.x10_verify.proofs.decide.settled.Goals as goal

pub returns-in-Copies-clause-decides : goal.returns-in-Copies-clause-decides
returns-in-Copies-clause-decides c = λ function pc same. rw c.in-Copies.is (c.copied.ensures.decides c.args.image.now function pc)

pub returns-in-Calls-clause-decides : goal.returns-in-Calls-clause-decides
returns-in-Calls-clause-decides c = λ function pc same. rw c.in-Calls.is (c.called.ensures.decides function pc)

pub returns-in-Returns-clause-decides : goal.returns-in-Returns-clause-decides
returns-in-Returns-clause-decides c = λ function pc same. rw c.in-Returns.is (c.returned.ensures.decides c.args.image.now function pc same)

pub returns-in-Makes-clause-decides : goal.returns-in-Makes-clause-decides
returns-in-Makes-clause-decides c = λ function pc same. rw c.in-Makes.is (c.made.ensures.decides function pc)

pub returns-in-Gets-clause-decides : goal.returns-in-Gets-clause-decides
returns-in-Gets-clause-decides c = λ function pc same. rw c.in-Gets.is (c.got.ensures.decides function pc)

pub returns-in-Puts-clause-decides : goal.returns-in-Puts-clause-decides
returns-in-Puts-clause-decides c = λ function pc same. rw c.in-Puts.is (c.put.ensures.decides function pc)

pub returns-in-Unwraps-clause-decides : goal.returns-in-Unwraps-clause-decides
returns-in-Unwraps-clause-decides c = λ function pc same. rw c.in-Unwraps.is (c.unwrapped.ensures.decides c.args.image.now function pc)

pub returns-in-Locates-clause-decides : goal.returns-in-Locates-clause-decides
returns-in-Locates-clause-decides c = λ function pc same. rw c.in-Locates.is (c.located.ensures.decides c.args.image.now function pc)

pub returns-in-Exports-clause-decides : goal.returns-in-Exports-clause-decides
returns-in-Exports-clause-decides c = λ function pc same. rw c.in-Exports.is (c.exported.ensures.decides c.args.image.now function pc)

pub returns-in-Opens-clause-decides : goal.returns-in-Opens-clause-decides
returns-in-Opens-clause-decides c = λ function pc same. rw c.in-Opens.is (c.opened.ensures.decides c.args.image.now function pc)

pub returns-in-FindsHere-clause-decides : goal.returns-in-FindsHere-clause-decides
returns-in-FindsHere-clause-decides c = λ function pc same. rw c.in-FindsHere.is (c.found_here.ensures.decides c.args.image.now function pc)

pub returns-in-FindsSame-clause-decides : goal.returns-in-FindsSame-clause-decides
returns-in-FindsSame-clause-decides c = λ function pc same. rw c.in-FindsSame.is (c.found_same.ensures.decides c.args.image.now function pc)

pub returns-in-Starts-clause-decides : goal.returns-in-Starts-clause-decides
returns-in-Starts-clause-decides c = λ function pc same. rw c.in-Starts.is (c.started.ensures.decides function pc)

pub returns-in-Prints-clause-decides : goal.returns-in-Prints-clause-decides
returns-in-Prints-clause-decides c = λ function pc same. rw c.in-Prints.is (c.printed.ensures.decides c.args.image.now function pc)

pub returns-in-Copies-clause-cause : goal.returns-in-Copies-clause-cause
returns-in-Copies-clause-cause c = rw c.in-Copies.is (if_err c.copied.result c.copied.ensures.cause
    (λ why h function pc same. h c.args.image.now function pc))

pub returns-in-Calls-clause-cause : goal.returns-in-Calls-clause-cause
returns-in-Calls-clause-cause c = rw c.in-Calls.is (if_err c.called.result c.called.ensures.cause (λ why h function pc same. h function pc))

pub returns-in-Makes-clause-cause : goal.returns-in-Makes-clause-cause
returns-in-Makes-clause-cause c = rw c.in-Makes.is (if_err c.made.result c.made.ensures.cause (λ why h function pc same. h function pc))

pub returns-in-Unwraps-clause-cause : goal.returns-in-Unwraps-clause-cause
returns-in-Unwraps-clause-cause c = rw c.in-Unwraps.is (if_err c.unwrapped.result c.unwrapped.ensures.cause
    (λ why h function pc same. h c.args.image.now function pc))

pub returns-in-Locates-clause-cause : goal.returns-in-Locates-clause-cause
returns-in-Locates-clause-cause c = rw c.in-Locates.is (if_err c.located.result c.located.ensures.cause
    (λ why h function pc same. h c.args.image.now function pc))

pub returns-in-Exports-clause-cause : goal.returns-in-Exports-clause-cause
returns-in-Exports-clause-cause c = rw c.in-Exports.is (if_err c.exported.result c.exported.ensures.cause
    (λ why h function pc same. h c.args.image.now function pc))

pub returns-in-Opens-clause-cause : goal.returns-in-Opens-clause-cause
returns-in-Opens-clause-cause c = rw c.in-Opens.is (if_err c.opened.result c.opened.ensures.cause
    (λ why h function pc same. h c.args.image.now function pc))

pub returns-in-FindsHere-clause-cause : goal.returns-in-FindsHere-clause-cause
returns-in-FindsHere-clause-cause c = rw c.in-FindsHere.is (if_err c.found_here.result c.found_here.ensures.cause
    (λ why h function pc same. h c.args.image.now function pc))

pub returns-in-FindsSame-clause-cause : goal.returns-in-FindsSame-clause-cause
returns-in-FindsSame-clause-cause c = rw c.in-FindsSame.is (if_err c.found_same.result c.found_same.ensures.cause
    (λ why h function pc same. h c.args.image.now function pc))

pub returns-in-Starts-clause-cause : goal.returns-in-Starts-clause-cause
returns-in-Starts-clause-cause c = rw c.in-Starts.is (if_err c.started.result c.started.ensures.cause (λ why h function pc same. h function pc))

pub returns-in-Prints-clause-cause : goal.returns-in-Prints-clause-cause
returns-in-Prints-clause-cause c = rw c.in-Prints.is (if_err c.printed.result c.printed.ensures.cause
    (λ why h function pc same. h c.args.image.now function pc))
