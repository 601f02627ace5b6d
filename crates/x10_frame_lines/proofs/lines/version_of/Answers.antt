use Rattle.x10_frame_lines.proofs.Fronts.{first_is, has_first}
use Rattle.x10_frame_lines.proofs.lines.version_of.Goals as goal

pub bounds-bytes-0 : goal.bounds-bytes-0
bounds-bytes-0 c = has_first c.requires.0 c.requires.1 c.args.bytes.now c.requires.2

pub returns : goal.returns
returns c v f e = first_is v f c.args.bytes.now e
