use Rattle.x10_model.proofs.ImageLaws.{module_takes}
use Rattle.x10_model.proofs.images.read_is_spelled.Goals as goal

pub returns : goal.returns
returns c = record { fits_and_spelled = module_takes }
