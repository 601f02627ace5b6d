use Rattle.x10_verify.proofs.ranges.is_there.Goals as goal

pub returns-in-Arguments : goal.returns-in-Arguments
returns-in-Arguments c = λ function there. rw c.in-Arguments.is (c.arguments_fit.ensures function (c.requires.signature function there))
