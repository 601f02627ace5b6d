-- What a frame has, handed out by its version.
use Rattle.std.specs.Prelude.{List}
use Rattle.x10_model.specs.Frames.{Node}
use Rattle.x10_frame.specs.declared.nodes.NodesByVersion.{NodesByVersion}
use Rattle.x10_frame.specs.declared.nodes.NodesByVersion.TheVariants.{Narrow, Wide}

-- the objects, whichever the version
abbrev pub nodes_of : NodesByVersion → List Node
nodes_of (Narrow nodes) = nodes
nodes_of (Wide nodes) = nodes
