use Rattle.x10_states.proofs.Registers.{shown_as_held}
use Rattle.x10_states.proofs.laws.registers_are_shown_as_held.Goals as goal

pub returns : goal.returns
returns c = shown_as_held
