use Rattle.x10_asm.proofs.KindWords.{stripped_is}
use Rattle.x10_asm.proofs.split.stripped.Goals as goal

pub returns : goal.returns
returns c = stripped_is c.args.prefix.now c.args.word.now c.strip_prefix.result c.strip_prefix.ensures.cases
