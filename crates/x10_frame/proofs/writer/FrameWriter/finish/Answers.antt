use Rattle.std.proofs.Common.{◌∙◌}
use Rattle.x10_model.specs.declared.version.FrameVersion.TheVariants.{Wide}
use Rattle.x10_frame.proofs.Drafts.{draft_is}
use Rattle.x10_frame.proofs.writer.FrameWriter.finish.Goals as goal

pub returns-clause-spelled : goal.returns-clause-spelled
returns-clause-spelled c h g i e = c.self.view_is ∙ e ∙ draft_is Wide h g i
