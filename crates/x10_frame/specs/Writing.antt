-- The bytes of a frame part after part. They are written in version 2.
use Rattle.std.specs.Prelude.{ℕ, List, [], ◌∷◌, ◌++◌, length, map}
use Rattle.std.specs.List.{flat_map}
use Rattle.std.specs.Int.{w16, w32, to_be_bytes}
use Rattle.x10_model.specs.declared.version.FrameVersion.{FrameVersion}
use Rattle.x10_model.specs.declared.version.FrameVersion.TheVariants.{Wide}
use Rattle.x10_model.specs.Frames.{byte_of, width_of, Graph, item_bytes, blob_bytes, node_bytes}
use Rattle.x10_model.specs.Frames as frames
use Rattle.x10_frame.specs.declared.head.Head.{Head}
use Rattle.x10_frame.specs.declared.head.What.{What}
use Rattle.x10_frame.specs.declared.head.What.TheVariants as what
use Rattle.x10_frame.specs.declared.item.Item.{Item}
use Rattle.x10_frame.specs.Items.{item_of}

-- the type of a frame
abbrev pub type_byte : What → ℕ
type_byte (what.Spawn under function) = 1
type_byte (what.Shift waiting under function) = 2
type_byte (what.Back waiting) = 3
type_byte (what.Report number) = 4

-- what stands behind the two places
abbrev pub numbers_bytes : What → List ℕ
numbers_bytes (what.Spawn under function) =
    to_be_bytes w16 under.home ++ (to_be_bytes w32 under.number ++ to_be_bytes w16 function)
numbers_bytes (what.Shift waiting under function) = to_be_bytes w32 waiting
    ++ (to_be_bytes w16 under.home
    ++ (to_be_bytes w32 under.number ++ to_be_bytes w16 function))
numbers_bytes (what.Back waiting) = to_be_bytes w32 waiting
numbers_bytes (what.Report number) = to_be_bytes w32 number

-- the head of a frame
abbrev pub head_bytes : FrameVersion → Head → List ℕ
head_bytes v h = (byte_of v ∷ type_byte h.what ∷ [])
    ++ (to_be_bytes w16 h.from ++ (to_be_bytes w16 h.to ++ numbers_bytes h.what))

-- how much of everything the graph has
abbrev pub sizes_bytes : FrameVersion → (roots texts rails nodes : ℕ) → List ℕ
sizes_bytes v roots texts rails nodes = to_be_bytes w16 roots
    ++ (to_be_bytes (width_of v) texts ++ (to_be_bytes (width_of v) rails
    ++ to_be_bytes (width_of v) nodes))

-- the values as they are written, one after another
abbrev pub values_bytes : List Item → List ℕ
values_bytes items = flat_map (item_bytes Wide) (map item_of items)

-- a node of these fields
abbrev pub node_of : ℕ → List Item → frames.Node
node_of class fields = record { class = class; fields = map item_of fields }

-- the head, the sizes, the roots, the texts, the rails and the nodes, appended one after another
abbrev pub draft : FrameVersion → Head → Graph → List ℕ
draft v h g =
    ((((head_bytes v h ++ sizes_bytes v (length g.roots) (length g.texts) (length g.rails)
    (length g.nodes))
    ++ flat_map (item_bytes v) g.roots)
    ++ flat_map blob_bytes g.texts)
    ++ flat_map blob_bytes g.rails)
    ++ flat_map (node_bytes v) g.nodes
