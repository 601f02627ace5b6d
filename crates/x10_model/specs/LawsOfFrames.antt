-- Laws of frames, and worked examples. The number of places is any that 16 bits hold.
use Rattle.std.specs.Prelude.{◌≡◌, ℕ, ◌<◌, ◌^◌, List, [], ◌∷◌, ◌++◌, Ok, Err, slice_index}
use Rattle.x10_model.specs.declared.version.FrameVersion.{FrameVersion}
use Rattle.x10_model.specs.declared.version.FrameVersion.TheVariants.{Narrow, Wide}
use Rattle.x10_model.specs.Frames.{ObjectItem, RailItem, RefItem, Node, Graph, Frame, Spawn, Report, FitsFrame, IsSpelled, spelling}
use Rattle.x10_model.specs.ReadingFrames.{FrameFault, Short, Version, FrameType, Place, Tag, Text, Order, Trailing, frame_at}

-- what is spelled, in either version, is read again
abbrev pub IsReadAgain : Type 0
IsReadAgain = (v : FrameVersion) (places : ℕ) → places < 2 ^ 16 → (f : Frame) → FitsFrame v places f
    → frame_at places (spelling v f) ≡ Ok f

-- no two frames share a spelling, and no frame has one in both versions
abbrev pub IsOneFrame : Type 0
IsOneFrame = (v w : FrameVersion) (places : ℕ) → places < 2 ^ 16 → (f g : Frame)
    → FitsFrame v places f → FitsFrame w places g → spelling v f ≡ spelling w g → (v ≡ w) × (f ≡ g)

-- what is read has a spelling in one of the versions, and is spelled so
abbrev pub IsSpelledSo : Type 0
IsSpelledSo = (places : ℕ) → places < 2 ^ 16 → (bytes : List ℕ) (f : Frame)
    → ((k : ℕ) → slice_index bytes k < 256) → frame_at places bytes ≡ Ok f
    → IsSpelled places f bytes

-- what has a spelling in version 1 has one in version 2
abbrev pub IsWider : Type 0
IsWider = (v : FrameVersion) (places : ℕ) (f : Frame) → FitsFrame v places f
    → FitsFrame Wide places f

-- ---- examples

-- the bytes are the frame in a version, both ways, where there are so many places
pub record Spells (v : FrameVersion) (places : ℕ) (bytes : List ℕ) (f : Frame) : Type 0 where
  pub spelled : spelling v f ≡ bytes
  pub read : frame_at places bytes ≡ Ok f

abbrev empty : Graph
empty = record { roots = []; texts = []; rails = []; nodes = [] }

-- at place 1, for place 2: function 0 without arguments, under finish 1 of place 0
abbrev pub IsSpawn : Type 0
IsSpawn = Spells Narrow 3 (1 ∷ 1 ∷ 0 ∷ 1 ∷ 0 ∷ 2 ∷ 0 ∷ 0 ∷ 0 ∷ 0 ∷ 0 ∷ 1 ∷ 0 ∷ 0 ∷ 0 ∷ 0 ∷ 0 ∷ 0 ∷ 0
    ∷ 0 ∷ 0 ∷ 0 ∷ []) (Spawn 1 2 0 1 0 empty)

-- the same of zeros alone, for one place
abbrev pub IsLeast : Type 0
IsLeast = Spells Narrow 1 (1 ∷ 1 ∷ 0 ∷ 0 ∷ 0 ∷ 0 ∷ 0 ∷ 0 ∷ 0 ∷ 0 ∷ 0 ∷ 0 ∷ 0 ∷ 0 ∷ 0 ∷ 0 ∷ 0 ∷ 0 ∷ 0
    ∷ 0 ∷ 0 ∷ 0 ∷ []) (Spawn 0 0 0 0 0 empty)

-- place 1 on finish 1 of place 0: one activity sent to place 2, and one received from place 0
abbrev pub IsReport : Type 0
IsReport = Spells Narrow 3
    (1 ∷ 4 ∷ 0 ∷ 1 ∷ 0 ∷ 0 ∷ 0 ∷ 0 ∷ 0 ∷ 1 ∷ 0 ∷ 3 ∷ 0 ∷ 0 ∷ 0 ∷ 0 ∷ 0 ∷ 0 ∷ 0 ∷ 0 ∷ 0 ∷ 0 ∷ 0 ∷ 1
    ∷ 0 ∷ 0 ∷ 0 ∷ 1 ∷ 0 ∷ 0 ∷ 0 ∷ 0 ∷ 0 ∷ 0 ∷ 0 ∷ 0 ∷ [])
    (Report 1 0 1 (0 ∷ 0 ∷ 1 ∷ []) (1 ∷ 0 ∷ 0 ∷ []))

abbrev link : ℕ → Node
link i = record { class = 0; fields = ObjectItem i ∷ RailItem 0 ∷ RefItem 0 0 1 ∷ [] }

-- two objects that name each other and share a rail
abbrev cycle : Graph
cycle = record {
  roots = ObjectItem 0 ∷ [];
  texts = [];
  rails = (0 ∷ 0 ∷ []) ∷ [];
  nodes = link 1 ∷ link 0 ∷ [];
}

abbrev pub IsCycle : Type 0
IsCycle = Spells Narrow 2 (1 ∷ 1 ∷ 0 ∷ 0 ∷ 0 ∷ 1 ∷ 0 ∷ 0 ∷ 0 ∷ 0 ∷ 0 ∷ 1 ∷ 0 ∷ 0 ∷ 0 ∷ 1 ∷ 0 ∷ 0 ∷ 0
    ∷ 1 ∷ 0 ∷ 2 ∷ 5 ∷ 0 ∷ 0 ∷ 0 ∷ 0 ∷ 0 ∷ 2 ∷ 0 ∷ 0 ∷ 0 ∷ 0 ∷ 3 ∷ 5
    ∷ 0 ∷ 1 ∷ 4 ∷ 0 ∷ 0 ∷ 7 ∷ 0 ∷ 0 ∷ 0 ∷ 0 ∷ 0 ∷ 0 ∷ 0 ∷ 1 ∷ 0 ∷ 0 ∷ 3 ∷ 5 ∷ 0 ∷ 0 ∷ 4 ∷ 0 ∷ 0 ∷ 7
    ∷ 0 ∷ 0 ∷ 0 ∷ 0 ∷ 0 ∷ 0 ∷ 0 ∷ 1 ∷ [])
    (Spawn 0 1 0 1 0 cycle)

-- the same in version 2
abbrev pub IsWideCycle : Type 0
IsWideCycle = Spells Wide 2 (2 ∷ 1 ∷ 0 ∷ 0 ∷ 0 ∷ 1 ∷ 0 ∷ 0 ∷ 0 ∷ 0 ∷ 0 ∷ 1 ∷ 0 ∷ 0 ∷ 0 ∷ 1 ∷ 0 ∷ 0
    ∷ 0 ∷ 0 ∷ 0 ∷ 0 ∷ 0 ∷ 1 ∷ 0 ∷ 0 ∷ 0 ∷ 2 ∷ 5 ∷ 0 ∷ 0 ∷ 0 ∷ 0
    ∷ 0 ∷ 0 ∷ 0 ∷ 2 ∷ 0 ∷ 0 ∷ 0 ∷ 0 ∷ 3 ∷ 5 ∷ 0 ∷ 0 ∷ 0 ∷ 1 ∷ 4 ∷ 0 ∷ 0 ∷ 0 ∷ 0 ∷ 7 ∷ 0 ∷ 0 ∷ 0 ∷ 0
    ∷ 0 ∷ 0 ∷ 0 ∷ 1
    ∷ 0 ∷ 0 ∷ 3 ∷ 5 ∷ 0 ∷ 0 ∷ 0 ∷ 0 ∷ 4 ∷ 0 ∷ 0 ∷ 0 ∷ 0 ∷ 7 ∷ 0 ∷ 0 ∷ 0 ∷ 0 ∷ 0 ∷ 0 ∷ 0 ∷ 1 ∷ [])
    (Spawn 0 1 0 1 0 cycle)

-- ---- refusals

-- what follows is the graph of a new activity, where there are two places
abbrev head : List ℕ
head = 1 ∷ 1 ∷ 0 ∷ 0 ∷ 0 ∷ 1 ∷ 0 ∷ 0 ∷ 0 ∷ 0 ∷ 0 ∷ 1 ∷ 0 ∷ 0 ∷ []

abbrev refused : FrameFault → List ℕ → Type 0
refused fault graph = frame_at 2 (head ++ graph) ≡ Err fault

-- 17 roots
abbrev pub IsTooManyRoots : Type 0
IsTooManyRoots = refused Order (0 ∷ 17 ∷ 0 ∷ 0 ∷ 0 ∷ 0 ∷ 0 ∷ 0 ∷ [])

-- an object that its table doesn't have
abbrev pub IsPastTable : Type 0
IsPastTable = refused Order (0 ∷ 1 ∷ 0 ∷ 0 ∷ 0 ∷ 0 ∷ 0 ∷ 1 ∷ 5 ∷ 0 ∷ 1 ∷ [])

-- an object that isn't the next new one
abbrev pub IsNotNext : Type 0
IsNotNext = refused Order (0 ∷ 1 ∷ 0 ∷ 0 ∷ 0 ∷ 0 ∷ 0 ∷ 2 ∷ 5 ∷ 0 ∷ 1 ∷ [])

-- a class of one byte
abbrev pub IsHalfAClass : Type 0
IsHalfAClass = refused Short (0 ∷ 0 ∷ 0 ∷ 0 ∷ 0 ∷ 0 ∷ 0 ∷ 1 ∷ 0 ∷ [])

-- a node that no root and no earlier node has used, once its class is read
abbrev pub IsUnusedNode : Type 0
IsUnusedNode = refused Order (0 ∷ 0 ∷ 0 ∷ 0 ∷ 0 ∷ 0 ∷ 0 ∷ 1 ∷ 0 ∷ 0 ∷ [])

-- 17 fields
abbrev pub IsTooManyFields : Type 0
IsTooManyFields = refused Order (0 ∷ 1 ∷ 0 ∷ 0 ∷ 0 ∷ 0 ∷ 0 ∷ 1 ∷ 5 ∷ 0 ∷ 0 ∷ 0 ∷ 0 ∷ 17 ∷ [])

-- a text of 65,536 bytes
abbrev pub IsTooLong : Type 0
IsTooLong = refused Order (0 ∷ 1 ∷ 0 ∷ 1 ∷ 0 ∷ 0 ∷ 0 ∷ 0 ∷ 3 ∷ 0 ∷ 0 ∷ 0 ∷ 1 ∷ 0 ∷ 0 ∷ [])

-- a text that nothing uses
abbrev pub IsUnusedText : Type 0
IsUnusedText = refused Order (0 ∷ 0 ∷ 0 ∷ 1 ∷ 0 ∷ 0 ∷ 0 ∷ 0 ∷ 0 ∷ 0 ∷ 0 ∷ 0 ∷ [])

-- a text that isn't UTF-8
abbrev pub IsNotText : Type 0
IsNotText = refused Text (0 ∷ 1 ∷ 0 ∷ 1 ∷ 0 ∷ 0 ∷ 0 ∷ 0 ∷ 3 ∷ 0 ∷ 0 ∷ 0 ∷ 0 ∷ 0 ∷ 1 ∷ 255 ∷ [])

-- a tag above 7
abbrev pub IsUnknownTag : Type 0
IsUnknownTag = refused Tag (0 ∷ 1 ∷ 0 ∷ 0 ∷ 0 ∷ 0 ∷ 0 ∷ 0 ∷ 8 ∷ [])

-- a place that isn't there
abbrev pub IsNoPlace : Type 0
IsNoPlace = refused Place (0 ∷ 1 ∷ 0 ∷ 0 ∷ 0 ∷ 0 ∷ 0 ∷ 0 ∷ 2 ∷ 0 ∷ 2 ∷ [])

-- a home that isn't there
abbrev pub IsNoHome : Type 0
IsNoHome = refused Place (0 ∷ 1 ∷ 0 ∷ 0 ∷ 0 ∷ 0 ∷ 0 ∷ 0 ∷ 7 ∷ 0 ∷ 2 ∷ [])

-- a byte more
abbrev pub IsMoreBytes : Type 0
IsMoreBytes = refused Trailing (0 ∷ 0 ∷ 0 ∷ 0 ∷ 0 ∷ 0 ∷ 0 ∷ 0 ∷ 0 ∷ [])

-- another version
abbrev pub IsVersion : Type 0
IsVersion = frame_at 2 (3 ∷ 1 ∷ []) ≡ Err Version

-- in version 2, 1,048,577 objects
abbrev pub IsTooManyNodes : Type 0
IsTooManyNodes = frame_at 2 (2 ∷ 1 ∷ 0 ∷ 0 ∷ 0 ∷ 1 ∷ 0 ∷ 0 ∷ 0 ∷ 0 ∷ 0 ∷ 1 ∷ 0 ∷ 0 ∷ 0 ∷ 0 ∷ 0 ∷ 0
    ∷ 0 ∷ 0 ∷ 0 ∷ 0 ∷ 0 ∷ 0 ∷ 0 ∷ 16 ∷ 0 ∷ 1 ∷ []) ≡ Err Order

-- in version 2, a number of two bytes
abbrev pub IsHalfANumber : Type 0
IsHalfANumber = frame_at 2 (2 ∷ 1 ∷ 0 ∷ 0 ∷ 0 ∷ 1 ∷ 0 ∷ 0 ∷ 0 ∷ 0 ∷ 0 ∷ 1 ∷ 0 ∷ 0 ∷ 0 ∷ 1 ∷ 0 ∷ 0
    ∷ 0 ∷ 0 ∷ 0 ∷ 0 ∷ 0 ∷ 0 ∷ 0 ∷ 0 ∷ 0 ∷ 1 ∷ 5 ∷ 0 ∷ 0 ∷ []) ≡ Err Short

-- a type above 4, before anything else is read
abbrev pub IsFrameType : Type 0
IsFrameType = frame_at 2 (1 ∷ 5 ∷ []) ≡ Err FrameType

-- a report for another number of places
abbrev pub IsOtherPlaces : Type 0
IsOtherPlaces = frame_at 3 (1 ∷ 4 ∷ 0 ∷ 1 ∷ 0 ∷ 0 ∷ 0 ∷ 0 ∷ 0 ∷ 1 ∷ 0 ∷ 2 ∷ 0 ∷ 0 ∷ 0 ∷ 0 ∷ 0 ∷ 0
    ∷ 0 ∷ 0 ∷ 0 ∷ 0 ∷ 0 ∷ 0 ∷ 0 ∷ 0 ∷ 0 ∷ 0 ∷ []) ≡ Err Place
