-- Values and numbers used as the program keeps them.
use Rattle.std.specs.Prelude.{◌≡◌, ℕ, ◌+◌, ◌<◌, ◌^◌, List, [], Result, Ok, Err}
use Rattle.x10_model.specs.declared.version.FrameVersion.{FrameVersion}
use Rattle.x10_model.specs.Frames.{most_of, IntItem, PlaceItem, TextItem, RailItem, ObjectItem, NullItem, RefItem, tables}
use Rattle.x10_model.specs.Frames as frames
use Rattle.x10_model.specs.Readers.{times}
use Rattle.x10_model.specs.ReadingFrames.{FrameFault, item_at}
use Rattle.x10_frame.specs.declared.item.Item.{Item}
use Rattle.x10_frame.specs.declared.item.Item.TheVariants as item
use Rattle.x10_frame.specs.declared.used.Used.{Used}

-- the value of the frame
abbrev pub item_of : Item → frames.Item
item_of (item.Int z) = IntItem z
item_of (item.Place p) = PlaceItem p
item_of (item.Text i) = TextItem i
item_of (item.Rail i) = RailItem i
item_of (item.Object i) = ObjectItem i
item_of item.Null = NullItem
item_of (item.Ref home id class) = RefItem home id class

-- one more than its index, if it has one, is a number of 32 bits
abbrev pub HasNext : Item → Type 0
HasNext (item.Text i) = i + 1 < 2 ^ 32
HasNext (item.Rail i) = i + 1 < 2 ^ 32
HasNext (item.Object i) = i + 1 < 2 ^ 32
HasNext _ = Unit {0}

-- how many texts, rails and nodes
abbrev pub tables_in : Used → frames.Tables
tables_in u = tables u.texts u.rails u.nodes

-- ---- values that are read once more

-- tables that every index of a version fits
abbrev pub full : FrameVersion → frames.Tables
full v = tables (most_of v) (most_of v) (most_of v)

abbrev pub items_of : Result (List frames.Item × List ℕ) FrameFault → List frames.Item
items_of (Ok x) = x.0
items_of (Err fault) = []

-- so many values at the front of the bytes
unfoldable pub items_in : FrameVersion → ℕ → ℕ → List ℕ → List frames.Item
items_in v places n bytes = items_of (times n (item_at v places (full v) (full v)) bytes)

-- so many values stand at the front of the bytes
pub record HasItems (v : FrameVersion) (places n : ℕ) (bytes : List ℕ) : Type 0 where
  pub items : List frames.Item
  pub rest : List ℕ
  pub reads : times n (item_at v places (full v) (full v)) bytes ≡ Ok (items, rest)
