use Rattle.std.proofs.Common.{◌∙◌, ap}
use Rattle.x10_asm.specs.Reading.{module_of}
use Rattle.x10_asm.proofs.Answered.{only_spelled}
use Rattle.x10_asm.proofs.ListingAgain.{read_again}
use Rattle.x10_asm.proofs.assembling.assemble.Goals as goal

pub returns-clause-only : goal.returns-clause-only
returns-clause-only c = λ m e. only_spelled (λ v. v.items) c.image_in.result (module_of c.args.text.now) m c.image_in.ensures.exact e

pub returns-clause-listed : goal.returns-clause-listed
returns-clause-listed c = λ m f e. only_spelled (λ v. v.items) c.image_in.result (module_of c.args.text.now) m c.image_in.ensures.exact
    (ap module_of e ∙ read_again m f)
