-- Reading a frame field by field from front to back, with the first fault that is met: a field that isn't there whole is short, and then comes its rule.
use Rattle.std.specs.Prelude.{ℕ, zero, suc, Bool, ◌&&◌, ◌==◌, nat_lt, nat_le, List, Option, Some, None, Result}
use Rattle.std.specs.Int.{w16, w32}
use Rattle.std.specs.Str.{is_utf8}
use Rattle.x10_model.specs.declared.limits.TheConstants.{MOST_BYTES, MOST_FIELDS, MOST_PARAMETERS, MOST_WIDE}
use Rattle.x10_model.specs.Frames.{Item, IntItem, PlaceItem, TextItem, RailItem, ObjectItem, NullItem, RefItem, Node, Graph, Launch, launch, Frame}
use Rattle.x10_model.specs.declared.version.FrameVersion.{FrameVersion}
use Rattle.x10_model.specs.declared.version.FrameVersion.TheVariants.{Narrow, Wide}
use Rattle.x10_model.specs.Frames.{width_of, Spawn, Shift, Back, Report, Tables, tables, none, uses, used_after, Turn, turn, next_turn, used_in_all}
use Rattle.x10_model.specs.Readers.{Reader, ◌>>=◌, ◌>>◌, done, check, such_that, expect, given, part, byte, number, int, many, times, all_of}

pub data FrameFault : Type 0 where
  -- the bytes end inside a field
  Short : FrameFault
  Version : FrameFault
  FrameType : FrameFault
  -- no such place, or another number of places
  Place : FrameFault
  Tag : FrameFault
  -- a text that isn't UTF-8
  Text : FrameFault
  -- not numbered by first use, not used, too many or too long
  Order : FrameFault
  Trailing : FrameFault

unfoldable pub place_at : ℕ → Reader FrameFault ℕ
place_at places = such_that (number w16 Short) (λ p. nat_lt p places) Place

-- an index that was used before or is the next new one, and is in its table
unfoldable pub index_at : FrameVersion → ℕ → ℕ → Reader FrameFault ℕ
index_at v used table = such_that (number (width_of v) Short)
    (λ i. nat_le i used && nat_lt i table) Order

unfoldable pub untagged_at : FrameVersion → ℕ → Tables → Tables → ℕ → Reader FrameFault Item
untagged_at v places all used zero = given None Tag
untagged_at v places all used (suc zero) = do
  z ← int Short
  done (IntItem z)
untagged_at v places all used (suc (suc zero)) = do
  p ← place_at places
  done (PlaceItem p)
untagged_at v places all used (suc (suc (suc zero))) = do
  i ← index_at v used.texts all.texts
  done (TextItem i)
untagged_at v places all used (suc (suc (suc (suc zero)))) = do
  i ← index_at v used.rails all.rails
  done (RailItem i)
untagged_at v places all used (suc (suc (suc (suc (suc zero))))) = do
  i ← index_at v used.nodes all.nodes
  done (ObjectItem i)
untagged_at v places all used (suc (suc (suc (suc (suc (suc zero)))))) = done NullItem
untagged_at v places all used (suc (suc (suc (suc (suc (suc (suc zero))))))) = do
  home ← place_at places
  id ← number w32 Short
  class ← number w16 Short
  done (RefItem home id class)
untagged_at v places all used (suc (suc (suc (suc (suc (suc (suc (suc tag)))))))) = given None Tag

-- an item, by what was used before it
unfoldable pub item_at : FrameVersion → ℕ → Tables → Tables → Reader FrameFault Item
item_at v places all used = do
  tag ← such_that (byte Short) (λ n. nat_le 1 n && nat_le n 7) Tag
  untagged_at v places all used tag

unfoldable pub length_at : Reader FrameFault ℕ
length_at = such_that (number w32 Short) (λ n. nat_le n MOST_BYTES) Order

unfoldable pub text_at : Reader FrameFault (List ℕ)
text_at = do
  length ← length_at
  such_that (part length Short) is_utf8 Text

unfoldable pub rail_at : Reader FrameFault (List ℕ)
rail_at = do
  length ← length_at
  part length Short

-- a node whose turn it is
unfoldable pub node_at : FrameVersion → ℕ → Tables → Turn → Reader FrameFault Node
node_at v places all t = do
  class ← number w16 Short
  check (nat_lt t.number t.used.nodes) Order
  count ← such_that (byte Short) (λ n. nat_le n MOST_FIELDS) Order
  fields ← many (item_at v places all) uses count t.used
  done (record { class = class; fields = fields })

abbrev pub same_tables : Tables → Tables → Bool
same_tables a b = (a.texts == b.texts) && ((a.rails == b.rails) && (a.nodes == b.nodes))

-- how many texts, rails or nodes there are: any number of 16 bits, or one of 32 bits that is not too large
unfoldable pub count_at : FrameVersion → Reader FrameFault ℕ
count_at Narrow = number w16 Short
count_at Wide = such_that (number w32 Short) (λ n. nat_le n MOST_WIDE) Order

-- a graph of so many roots at most
unfoldable pub graph_at : FrameVersion → ℕ → ℕ → Reader FrameFault Graph
graph_at v places most = do
  root_count ← such_that (number w16 Short) (λ n. nat_le n most) Order
  text_count ← count_at v
  rail_count ← count_at v
  node_count ← count_at v
  let all = tables text_count rail_count node_count
  roots ← many (item_at v places all) uses root_count none
  texts ← times text_count text_at
  rails ← times rail_count rail_at
  nodes ← such_that (many (node_at v places all) next_turn node_count
      (turn 0 (used_after none roots))) (λ nodes. same_tables (used_in_all roots nodes) all) Order
  done (record { roots = roots; texts = texts; rails = rails; nodes = nodes })

unfoldable pub launch_at : FrameVersion → ℕ → Reader FrameFault Launch
launch_at v places = do
  home ← place_at places
  finish ← number w32 Short
  function ← number w16 Short
  graph ← graph_at v places MOST_PARAMETERS
  done (launch home finish function graph)

-- what follows the head of a frame of a type
unfoldable pub body_at : FrameVersion → ℕ → (type from to : ℕ) → Reader FrameFault Frame
body_at v places zero from to = given None FrameType
body_at v places (suc zero) from to = do
  l ← launch_at v places
  done (Spawn from to l.home l.number l.function l.graph)
body_at v places (suc (suc zero)) from to = do
  waiting ← number w32 Short
  l ← launch_at v places
  done (Shift from to waiting l.home l.number l.function l.graph)
body_at v places (suc (suc (suc zero))) from to = do
  waiting ← number w32 Short
  graph ← graph_at v places 1
  done (Back from to waiting graph)
body_at v places (suc (suc (suc (suc zero)))) from to = do
  finish ← number w32 Short
  expect (number w16 Short) places Place
  sent ← times places (number w32 Short)
  received ← times places (number w32 Short)
  done (Report from to finish sent received)
body_at v places (suc (suc (suc (suc (suc type))))) from to = given None FrameType

-- the version that a first byte says
abbrev pub version_of : ℕ → Option FrameVersion
version_of zero = None
version_of (suc zero) = Some Narrow
version_of (suc (suc zero)) = Some Wide
version_of (suc (suc (suc n))) = None

unfoldable pub version_at : Reader FrameFault FrameVersion
version_at = do
  first ← byte Short
  given (version_of first) Version

-- what follows the version
unfoldable pub after_version : FrameVersion → ℕ → Reader FrameFault Frame
after_version v places = do
  type ← such_that (byte Short) (λ n. nat_le 1 n && nat_le n 4) FrameType
  from ← place_at places
  to ← place_at places
  body_at v places type from to

unfoldable pub parts_at : ℕ → Reader FrameFault Frame
parts_at places = do
  v ← version_at
  after_version v places

-- the frame that the bytes spell, in either version, where there are so many places, or their first fault
unfoldable pub frame_at : ℕ → List ℕ → Result Frame FrameFault
frame_at places bytes = all_of (parts_at places) Trailing bytes
