use Rattle.std.proofs.Common.{None, arith}
use Rattle.std.proofs.lemmas.Str.Pattern.{strip_prefix_char}
use Rattle.x10_states.proofs.values.push_unspaced.Goals as goal

pub returns-in-None : goal.returns-in-None
returns-in-None c word e = absurd (strip_prefix_char 32 c.args.spaced.now None c.in-None.ensures.cases (omega arith) word e)
