-- Reading a graph: its counts, and then its parts.
use Rattle.std.specs.Prelude.{ℕ, nat_le}
use Rattle.std.specs.Int.{w16}
use Rattle.x10_model.specs.declared.version.FrameVersion.{FrameVersion}
use Rattle.x10_model.specs.Frames.{Graph, Tables, tables, none, uses, used_after, turn, next_turn, used_in_all}
use Rattle.x10_model.specs.Readers.{Reader, ◌>>=◌, done, such_that, number, many, times}
use Rattle.x10_model.specs.ReadingFrames.{FrameFault, Short, Order, item_at, text_at, rail_at, node_at, same_tables, count_at}

-- how many roots there are, and how many texts, rails and nodes
unfoldable pub counts_at : FrameVersion → ℕ → Reader FrameFault (ℕ × Tables)
counts_at v most = do
  roots ← such_that (number w16 Short) (λ n. nat_le n most) Order
  texts ← count_at v
  rails ← count_at v
  nodes ← count_at v
  done (roots, tables texts rails nodes)

-- what follows them
unfoldable pub graph_from : FrameVersion → (places count : ℕ) → Tables → Reader FrameFault Graph
graph_from v places count all = do
  roots ← many (item_at v places all) uses count none
  texts ← times all.texts text_at
  rails ← times all.rails rail_at
  nodes ← such_that (many (node_at v places all) next_turn all.nodes
      (turn 0 (used_after none roots))) (λ nodes. same_tables (used_in_all roots nodes) all) Order
  done (record { roots = roots; texts = texts; rails = rails; nodes = nodes })
