use Rattle.x10_model.proofs.ImageLaws.{module_again}
use Rattle.x10_model.proofs.images.spelled_is_read.Goals as goal

pub returns : goal.returns
returns c = record { again = module_again }
