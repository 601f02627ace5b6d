use Rattle.x10_kinds.proofs.KindLemmas.{meet_of-above, meet_of-least, meet_of-none}
use Rattle.x10_kinds.proofs.laws.meet_is_least.Goals as goal

pub returns-clause-above : goal.returns-clause-above
returns-clause-above c = meet_of-above

pub returns-clause-least : goal.returns-clause-least
returns-clause-least c = meet_of-least

pub returns-clause-none : goal.returns-clause-none
returns-clause-none c = meet_of-none
