use Rattle.x10_log.proofs.Cuts.{word_before}
use Rattle.x10_log.proofs.cut.word_of.Goals as goal

pub returns-in-Some-clause-found : goal.returns-in-Some-clause-found
returns-in-Some-clause-found c = λ word rest lacks end e. word_before word rest c.in-Some.word.now c.in-Some.rest.now c.args.text.now lacks end e
    c.in-Some.ensures.some.0 c.in-Some.ensures.some.1
