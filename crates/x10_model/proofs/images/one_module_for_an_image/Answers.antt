use Rattle.x10_model.proofs.ImageLaws.{one_module}
use Rattle.x10_model.proofs.images.one_module_for_an_image.Goals as goal

pub returns : goal.returns
returns c = record { same = one_module }
