use Rattle.x10_world.proofs.StepLemmas.{step_leads}
use Rattle.x10_world.proofs.laws.step_leads.Goals as goal

pub returns : goal.returns
returns c = step_leads
