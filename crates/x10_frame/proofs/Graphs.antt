-- Reading a graph: what each step gives, and what they make together.
use Rattle.std.proofs.Common.{◌≡◌, ℕ, ◌-◌, ◌^◌, ◌<◌, Bool, true, false, List, length, Option, Ok, Err, refl, sym, ap, ◌∙◌, flat_map}
use Rattle.x10_model.specs.declared.version.FrameVersion.{FrameVersion}
use Rattle.x10_model.specs.Frames.{Item, Node, Graph, Tables, tables, none, uses, used_after, turn, next_turn, used_in_all, item_bytes, blob_bytes, node_bytes}
use Rattle.x10_model.specs.Readers.{Reader, IsBytes, bind, done, such_that, many, times, after_all}
use Rattle.x10_model.specs.ReadingFrames.{FrameFault, Order, item_at, text_at, rail_at, node_at, same_tables, graph_at}
use Rattle.x10_model.proofs.ReaderLaws.{Takes, bind_is}
use Rattle.x10_model.proofs.PartLaws.{number_reads, many_reads, wide16}
use Rattle.x10_model.proofs.ItemLaws.{Few, item_reads}
use Rattle.x10_model.proofs.GraphLaws.{count_reads}
use Rattle.x10_model.specs.Offsets.{EndsWith}
use Rattle.x10_model.proofs.Offsets.{place_is, still_ends}
use Rattle.x10_frame.specs.Faults.{IsFault, IsFaultOrMemory}
use Rattle.x10_frame.specs.NodeTables.{IsNodeTable}
use Rattle.x10_bytes.specs.Tables.{IsWalk, IsTable}
use Rattle.x10_frame.specs.Graphs.{counts_at, graph_from}
use Rattle.x10_frame.specs.Bodies.{IsGraph}
use Rattle.x10_bytes.proofs.Loops.{lenient, early}
use Rattle.x10_frame.proofs.Readers.{Drops, drops_reads, drops_done, drops_bind, drops_such_that, split, early_such_that, such_that_is, such_that_not}

pub counts_drop : (v : FrameVersion) (most : ℕ) → Drops (counts_at v most)
unfolding counts_at
counts_drop v most =
    drops_bind _ _ (drops_such_that _ _ _ (drops_reads (number_reads _ (2 ^ 16) wide16 _))) (λ roots.
    drops_bind _ _ (drops_reads (count_reads v)) (λ texts.
    drops_bind _ _ (drops_reads (count_reads v)) (λ rails.
    drops_bind _ _ (drops_reads (count_reads v)) (λ nodes.
    drops_done (roots, tables texts rails nodes)))))

abbrev pub graph_of_counts : FrameVersion → ℕ → ℕ × Tables → Reader FrameFault Graph
graph_of_counts v places k = graph_from v places k.0 k.1

pub graph_is : (v : FrameVersion) (places most : ℕ) (bytes : List ℕ)
    → graph_at v places most bytes ≡ bind (counts_at v most) (graph_of_counts v places) bytes
unfolding graph_at counts_at graph_from done
graph_is v places most bytes =
    split _ _ _ (graph_of_counts v places) (λ roots.
    split _ _ _ (graph_of_counts v places) (λ texts.
    split _ _ _ (graph_of_counts v places) (λ rails.
    split _ _ _ (graph_of_counts v places) (λ nodes rest. sym (bind_is _ (graph_of_counts v places) rest
    (roots, tables texts rails nodes) rest refl))))) bytes

-- ---- the steps after the counts

abbrev pub graph_with : List Item → List (List ℕ) → List (List ℕ) → List Node → Graph
graph_with roots texts rails nodes = record { roots = roots; texts = texts; rails = rails; nodes = nodes }

abbrev nodes_at : FrameVersion → ℕ → Tables → List Item → Reader FrameFault (List Node)
nodes_at v places all roots = many (node_at v places all) next_turn all.nodes (turn 0 (used_after none roots))

abbrev whole_nodes_at : FrameVersion → ℕ → Tables → List Item → Reader FrameFault (List Node)
whole_nodes_at v places all roots = such_that (nodes_at v places all roots) (λ nodes. same_tables (used_in_all roots nodes) all) Order

abbrev from_rails : FrameVersion → ℕ → Tables → List Item → List (List ℕ) → List (List ℕ) → Reader FrameFault Graph
from_rails v places all roots texts rails = bind (whole_nodes_at v places all roots) (λ nodes. done (graph_with roots texts rails nodes))

abbrev from_texts : FrameVersion → ℕ → Tables → List Item → List (List ℕ) → Reader FrameFault Graph
from_texts v places all roots texts = bind (times all.rails rail_at) (from_rails v places all roots texts)

abbrev from_roots : FrameVersion → ℕ → Tables → List Item → Reader FrameFault Graph
from_roots v places all roots = bind (times all.texts text_at) (from_texts v places all roots)

graph_from_is : (v : FrameVersion) (places count : ℕ) (all : Tables) (bytes : List ℕ)
    → graph_from v places count all bytes ≡ bind (many (item_at v places all) uses count none) (from_roots v places all) bytes
unfolding graph_from
graph_from_is v places count all bytes = refl

-- ---- what the steps give

abbrev pub AreRoots : (v : FrameVersion) (places count : ℕ) → Tables → (used : Tables) → (from rest : List ℕ) → Type 0
AreRoots v places count all used from rest = IsWalk uses none used rest (many (item_at v places all) uses count none from)

abbrev pub AreTexts : List ℕ → Tables → (table from rest : List ℕ) → Type 0
AreTexts frame all table from rest = IsTable blob_bytes frame table rest (times all.texts text_at from)

abbrev pub AreRails : List ℕ → Tables → (table from rest : List ℕ) → Type 0
AreRails frame all table from rest = IsTable blob_bytes frame table rest (times all.rails rail_at from)

abbrev pub AreNodes : FrameVersion → ℕ → List ℕ → (all used last : Tables) → (table from rest : List ℕ) → Type 0
AreNodes v places frame all used last table from rest = IsNodeTable used last (node_bytes v) frame table rest
    (many (node_at v places all) next_turn all.nodes (turn 0 used) from)

at_roots : (v : FrameVersion) (places count : ℕ) (all used : Tables) (from rest : List ℕ) → (w : AreRoots v places count all used from rest)
    → graph_from v places count all from ≡ from_roots v places all w.items rest
at_roots v places count all used from rest w = graph_from_is v places count all from
    ∙ bind_is (many (item_at v places all) uses count none) (from_roots v places all) from w.items rest w.reads

at_texts : (v : FrameVersion) (places : ℕ) (frame : List ℕ) (all : Tables) (roots : List Item) (table from rest : List ℕ)
    → (t : AreTexts frame all table from rest) → from_roots v places all roots from ≡ from_texts v places all roots t.items rest
at_texts v places frame all roots table from rest t = bind_is (times all.texts text_at) (from_texts v places all roots) from t.items rest t.reads

at_rails : (v : FrameVersion) (places : ℕ) (frame : List ℕ) (all : Tables) (roots : List Item) (texts : List (List ℕ)) (table from rest : List ℕ)
    → (t : AreRails frame all table from rest) → from_texts v places all roots texts from ≡ from_rails v places all roots texts t.items rest
at_rails v places frame all roots texts table from rest t = bind_is (times all.rails rail_at)
    (from_rails v places all roots texts) from t.items rest t.reads

-- ---- faults

pub roots_fault : (v : FrameVersion) (places count : ℕ) (all : Tables) (from : List ℕ) (f : Option FrameFault)
    → IsFault f (many (item_at v places all) uses count none from) → IsFaultOrMemory f (graph_from v places count all from)
roots_fault v places count all from f e = rw graph_from_is (early (many (item_at v places all) uses count none) (from_roots v places all) from f
    (lenient f (many (item_at v places all) uses count none from) e))

pub texts_fault : (v : FrameVersion) (places count : ℕ) (all used : Tables) (b0 b1 : List ℕ) (f : Option FrameFault)
    → AreRoots v places count all used b0 b1 → IsFaultOrMemory f (times all.texts text_at b1) → IsFaultOrMemory f (graph_from v places count all b0)
texts_fault v places count all used b0 b1 f w e = rw (at_roots v places count all used b0 b1 w)
    (early (times all.texts text_at) (from_texts v places all w.items) b1 f e)

pub rails_fault : (v : FrameVersion) (places count : ℕ) (frame : List ℕ) (all used : Tables) (b0 b1 t1 b2 : List ℕ) (f : Option FrameFault)
    → AreRoots v places count all used b0 b1 → AreTexts frame all t1 b1 b2 → IsFaultOrMemory f (times all.rails rail_at b2)
    → IsFaultOrMemory f (graph_from v places count all b0)
rails_fault v places count frame all used b0 b1 t1 b2 f w t e =
    rw (at_roots v places count all used b0 b1 w ∙ at_texts v places frame all w.items t1 b1 b2 t)
    (early (times all.rails rail_at) (from_rails v places all w.items t.items) b2 f e)

at_nodes : (v : FrameVersion) (places count : ℕ) (frame : List ℕ) (all used : Tables) (b0 b1 t1 b2 t2 b3 : List ℕ)
    → (w : AreRoots v places count all used b0 b1) → (t : AreTexts frame all t1 b1 b2) → (r : AreRails frame all t2 b2 b3)
    → graph_from v places count all b0 ≡ from_rails v places all w.items t.items r.items b3
at_nodes v places count frame all used b0 b1 t1 b2 t2 b3 w t r =
    at_roots v places count all used b0 b1 w ∙ at_texts v places frame all w.items t1 b1 b2 t ∙ at_rails v places frame all w.items t.items t2 b2 b3 r

nodes_read : (v : FrameVersion) (places : ℕ) (all used : Tables) (roots : List Item) (from : List ℕ) → used ≡ used_after none roots
    → many (node_at v places all) next_turn all.nodes (turn 0 used) from ≡ nodes_at v places all roots from
nodes_read v places all used roots from e = ap (λ (u : Tables). many (node_at v places all) next_turn all.nodes (turn 0 u) from) e

pub nodes_fault : (v : FrameVersion) (places count : ℕ) (frame : List ℕ) (all used : Tables) (b0 b1 t1 b2 t2 b3 : List ℕ) (f : Option FrameFault)
    → AreRoots v places count all used b0 b1 → AreTexts frame all t1 b1 b2 → AreRails frame all t2 b2 b3
    → IsFaultOrMemory f (many (node_at v places all) next_turn all.nodes (turn 0 used) b3) → IsFaultOrMemory f (graph_from v places count all b0)
nodes_fault v places count frame all used b0 b1 t1 b2 t2 b3 f w t r e =
    rw (at_nodes v places count frame all used b0 b1 t1 b2 t2 b3 w t r)
    (early (whole_nodes_at v places all w.items) (λ nodes. done (graph_with w.items t.items r.items nodes)) b3 f
    (early_such_that (nodes_at v places all w.items) _ Order b3 f (rw (← nodes_read v places all used w.items b3 w.state) e)))

-- ---- all of the steps

pub record Steps (v : FrameVersion) (places count : ℕ) (frame : List ℕ) (all used last : Tables) (b0 b1 t1 b2 t2 b3 t3 b4 : List ℕ) : Type 0 where
  pub roots : AreRoots v places count all used b0 b1
  pub texts : AreTexts frame all t1 b1 b2
  pub rails : AreRails frame all t2 b2 b3
  pub nodes : AreNodes v places frame all used last t3 b3 b4

abbrev used_from : Tables → List Node → Tables
used_from used nodes = (after_all next_turn (turn 0 used) nodes).used

used_is : (used last : Tables) (roots : List Item) (nodes : List Node) → used ≡ used_after none roots → last ≡ used_from used nodes
    → last ≡ used_in_all roots nodes
used_is used last roots nodes e s = s ∙ ap (λ (u : Tables). used_from u nodes) e

test_is : (v : FrameVersion) (places count : ℕ) (frame : List ℕ) (all used last : Tables) (b0 b1 t1 b2 t2 b3 t3 b4 : List ℕ) (b : Bool)
    → (s : Steps v places count frame all used last b0 b1 t1 b2 t2 b3 t3 b4) → same_tables last all ≡ b
    → same_tables (used_in_all s.roots.items s.nodes.known.items) all ≡ b
test_is v places count frame all used last b0 b1 t1 b2 t2 b3 t3 b4 b s e =
    ap (λ (u : Tables). same_tables u all) (sym (used_is used last s.roots.items s.nodes.known.items s.roots.state s.nodes.state)) ∙ e

nodes_are : (v : FrameVersion) (places count : ℕ) (frame : List ℕ) (all used last : Tables) (b0 b1 t1 b2 t2 b3 t3 b4 : List ℕ)
    → (s : Steps v places count frame all used last b0 b1 t1 b2 t2 b3 t3 b4) → nodes_at v places all s.roots.items b3 ≡ Ok (s.nodes.known.items, b4)
nodes_are v places count frame all used last b0 b1 t1 b2 t2 b3 t3 b4 s =
    sym (nodes_read v places all used s.roots.items b3 s.roots.state) ∙ s.nodes.known.reads

pub not_all_used : (v : FrameVersion) (places count : ℕ) (frame : List ℕ) (all used last : Tables) (b0 b1 t1 b2 t2 b3 t3 b4 : List ℕ)
    → Steps v places count frame all used last b0 b1 t1 b2 t2 b3 t3 b4 → same_tables last all ≡ false → graph_from v places count all b0 ≡ Err Order
unfolding bind
not_all_used v places count frame all used last b0 b1 t1 b2 t2 b3 t3 b4 s e =
    at_nodes v places count frame all used b0 b1 t1 b2 t2 b3 s.roots s.texts s.rails
    ∙ rw (such_that_not (nodes_at v places all s.roots.items) (λ nodes. same_tables (used_in_all s.roots.items nodes) all) Order b3
    s.nodes.known.items b4 (nodes_are v places count frame all used last b0 b1 t1 b2 t2 b3 t3 b4 s)
    (test_is v places count frame all used last b0 b1 t1 b2 t2 b3 t3 b4 false s e)) refl

abbrev made : (v : FrameVersion) (places count : ℕ) (frame : List ℕ) (all used last : Tables) (b0 b1 t1 b2 t2 b3 t3 b4 : List ℕ)
    → Steps v places count frame all used last b0 b1 t1 b2 t2 b3 t3 b4 → Graph
made v places count frame all used last b0 b1 t1 b2 t2 b3 t3 b4 s = graph_with s.roots.items s.texts.items s.rails.items s.nodes.known.items

graph_read : (v : FrameVersion) (places count : ℕ) (frame : List ℕ) (all used last : Tables) (b0 b1 t1 b2 t2 b3 t3 b4 : List ℕ)
    → (s : Steps v places count frame all used last b0 b1 t1 b2 t2 b3 t3 b4) → same_tables last all ≡ true
    → graph_from v places count all b0 ≡ Ok (made v places count frame all used last b0 b1 t1 b2 t2 b3 t3 b4 s, b4)
unfolding done
graph_read v places count frame all used last b0 b1 t1 b2 t2 b3 t3 b4 s e =
    at_nodes v places count frame all used b0 b1 t1 b2 t2 b3 s.roots s.texts s.rails
    ∙ bind_is (whole_nodes_at v places all s.roots.items) (λ nodes. done (graph_with s.roots.items s.texts.items s.rails.items nodes)) b3
    s.nodes.known.items b4
    (such_that_is (nodes_at v places all s.roots.items) (λ nodes. same_tables (used_in_all s.roots.items nodes) all) Order b3 s.nodes.known.items b4
    (nodes_are v places count frame all used last b0 b1 t1 b2 t2 b3 t3 b4 s)
    (test_is v places count frame all used last b0 b1 t1 b2 t2 b3 t3 b4 true s e))

pub roots_take : (v : FrameVersion) (places count : ℕ) (all used : Tables) (from rest : List ℕ) → places < 2 ^ 16 → Few v all → IsBytes from
    → (w : AreRoots v places count all used from rest) → Takes from (flat_map (item_bytes v) w.items) rest × (length w.items ≡ count)
roots_take v places count all used from rest few ok b w = let t =
    (many_reads uses (item_reads v places all few ok) count none).takes from w.items rest b w.reads in (t.0, t.1.0)

pub roots_end : (v : FrameVersion) (places count : ℕ) (frame : List ℕ) (all used : Tables) (from rest : List ℕ) → places < 2 ^ 16 → Few v all
    → IsBytes from → EndsWith frame from → AreRoots v places count all used from rest → EndsWith frame rest
roots_end v places count frame all used from rest few ok b e w =
    still_ends frame from (flat_map (item_bytes v) w.items) rest e (roots_take v places count all used from rest few ok b w).0.parts

pub graph_given : (v : FrameVersion) (places count : ℕ) (frame : List ℕ) (all used last : Tables) (b0 b1 t1 b2 t2 b3 t3 b4 : List ℕ) → places < 2 ^ 16
    → Few v all → IsBytes b0 → EndsWith frame b0
    → Steps v places count frame all used last b0 b1 t1 b2 t2 b3 t3 b4 → same_tables last all ≡ true
    → IsGraph v frame (length frame - length b0) count t1 t2 t3 b4 (graph_from v places count all b0)
graph_given v places count frame all used last b0 b1 t1 b2 t2 b3 t3 b4 few ok b e s h =
    let took = roots_take v places count all used b0 b1 few ok b s.roots in
    record {
      graph = made v places count frame all used last b0 b1 t1 b2 t2 b3 t3 b4 s;
      reads = graph_read v places count frame all used last b0 b1 t1 b2 t2 b3 t3 b4 s h;
      has = record {
        count_is = took.1;
        roots_at = place_is frame b0 (flat_map (item_bytes v) s.roots.items) b1 e took.0.parts;
        texts_at = s.texts.places;
        rails_at = s.rails.places;
        nodes_at = s.nodes.known.places;
      };
    }
