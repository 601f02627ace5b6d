-- The graph of a frame is read again, and what is read of it is spelled so.
use Rattle.std.proofs.Common.{◌≡◌, ℕ, ◌^◌, ◌<◌, ◌≤◌, true, ◌&&◌, eqb, ltb, leb, List, ◌∷◌, ◌++◌, length, refl, subst, arith, eqb-true, eq-eqb, ltb-true, lt-ltb, leb-true, le-leb, flat_map}
use Rattle.std.specs.List.{AllByRecursion}
use Rattle.std.specs.Int.{w16, w32, to_be_bytes}
use Rattle.std.specs.Str.{is_utf8}
use Rattle.std.proofs.lemmas.Str.{IsUtf8-from_is_utf8, is_utf8-from_IsUtf8}
use Rattle.std.proofs.lemmas.Bool.{and_from, and_parts}
use Rattle.x10_model.specs.Modules.{FitsText}
use Rattle.x10_model.specs.declared.version.FrameVersion.{FrameVersion}
use Rattle.x10_model.specs.declared.version.FrameVersion.TheVariants.{Narrow, Wide}
use Rattle.x10_model.specs.Frames.{width_of, most_of, Item, Node, Graph, Tables, tables, tables_of, none, uses, used_after, Turn, turn, next_turn, used_in_all, FitsItems, FitsNode, FitsRail, FitsGraph, item_bytes, blob_bytes, node_bytes, graph_bytes}
use Rattle.x10_model.specs.Readers.{FitsEach}
use Rattle.x10_model.specs.ReadingFrames.{Short, Order, Text, length_at, text_at, rail_at, node_at, same_tables, count_at, graph_at}
use Rattle.x10_model.proofs.ReaderLaws.{Reads, then_reads, last_reads, check_reads, such_that_reads, fits_as}
use Rattle.x10_model.proofs.PartLaws.{byte_reads, number_reads, part_reads, part_reads_any, many_reads, each_reads, wide16, wide32}
use Rattle.x10_model.proofs.ItemLaws.{Few, item_reads}

length_reads : Reads length_at (to_be_bytes w32) (λ n. n < 2 ^ 16)
unfolding length_at
length_reads = fits_as (such_that_reads (λ n. leb n 65535) Order (number_reads w32 (2 ^ 32) wide32 Short))
    (λ n h. omega (arith, leb-true n 65535 h.1))
    (λ n h. (omega arith, le-leb n 65535 (omega arith)))

pub text_reads : Reads text_at blob_bytes FitsText
unfolding text_at blob_bytes
text_reads =
    then_reads (λ text. length text) (λ text. text) length_reads (λ text g. g.length) (λ n lt.
    fits_as (such_that_reads is_utf8 Text (part_reads_any n Short))
    (λ text h. (h.0, record { length = omega (arith, h.0, lt); utf8 = IsUtf8-from_is_utf8 text h.1 }))
    (λ text h. (h.0, is_utf8-from_IsUtf8 text h.1.utf8)))

pub rail_reads : Reads rail_at blob_bytes FitsRail
unfolding rail_at blob_bytes
rail_reads =
    then_reads (λ rail. length rail) (λ rail. rail) length_reads (λ rail g. g.length) (λ n lt.
    fits_as (part_reads n Short)
    (λ rail h. (h.0, record { length = omega (arith, h.0, lt); bytes = h.1 }))
    (λ rail h. (h.0, h.1.bytes)))

-- ---- nodes

abbrev node_of : ℕ → List Item → Node
node_of class fields = record { class = class; fields = fields }

same_node : (class : ℕ) (n : Node) → n.class ≡ class → node_of class n.fields ≡ n
same_node class n e = rw (← e) refl

pub node_reads : (v : FrameVersion) (places : ℕ) (all : Tables) → places < 2 ^ 16 → Few v all → (t : Turn)
    → Reads (node_at v places all t) (node_bytes v) (FitsNode places all t)
unfolding node_at node_bytes
node_reads v places all few ok t =
    then_reads (λ n. n.class) (λ n. length n.fields ∷ flat_map (item_bytes v) n.fields) (number_reads w16 (2 ^ 16) wide16 Short) (λ n g. g.class)
    (λ class hc.
    check_reads (ltb t.number t.used.nodes) Order (λ n g. lt-ltb t.number t.used.nodes g.1.used) (λ used.
    then_reads (λ n. length n.fields) (λ n. flat_map (item_bytes v) n.fields) (such_that_reads (λ k. leb k 16) Order (byte_reads Short))
    (λ n g. (omega (arith, g.1.count), le-leb (length n.fields) 16 g.1.count)) (λ count hn.
    last_reads (node_of class) (λ n. n.fields) (many_reads uses (item_reads v places all few ok) count t.used)
    (λ n g. ((g.0, g.1.1.fields), same_node class n g.1.0))
    (λ fields h. (
      refl,
      (
        h.0,
        (
          refl,
          record {
            class = hc;
            used = ltb-true t.number t.used.nodes used;
            count = omega (arith, leb-true count 16 hn.1, h.0);
            fields = h.1;
          },
        ),
      ),
    )))))

-- ---- graphs

of_parts : (a b : Tables) → a.texts ≡ b.texts → a.rails ≡ b.rails → a.nodes ≡ b.nodes → a ≡ b
of_parts a b t r n = rw (← t, ← r, ← n) refl

same_tables_of : (a b : Tables) → same_tables a b ≡ true → a ≡ b
same_tables_of a b h =
    let one = and_parts (eqb a.texts b.texts) (eqb a.rails b.rails && eqb a.nodes b.nodes) h in
    let two = and_parts (eqb a.rails b.rails) (eqb a.nodes b.nodes) one.1 in
    of_parts a b (eqb-true a.texts b.texts one.0) (eqb-true a.rails b.rails two.0) (eqb-true a.nodes b.nodes two.1)

of_same_tables : (a b : Tables) → a ≡ b → same_tables a b ≡ true
of_same_tables a b e = rw e (and_from (eqb b.texts b.texts) (eqb b.rails b.rails && eqb b.nodes b.nodes) (eq-eqb b.texts b.texts refl)
    (and_from (eqb b.rails b.rails) (eqb b.nodes b.nodes) (eq-eqb b.rails b.rails refl) (eq-eqb b.nodes b.nodes refl)))

graph_of : List Item → List (List ℕ) → List (List ℕ) → List Node → Graph
graph_of roots texts rails nodes = record { roots = roots; texts = texts; rails = rails; nodes = nodes }

same_graph : (roots : List Item) (texts rails : List (List ℕ)) (g : Graph) → g.roots ≡ roots → g.texts ≡ texts → g.rails ≡ rails
    → graph_of roots texts rails g.nodes ≡ g
unfolding graph_of
same_graph roots texts rails g r t l = rw (← r, ← t, ← l) refl

abbrev from_nodes : FrameVersion → Graph → List ℕ
from_nodes v g = flat_map (node_bytes v) g.nodes

abbrev from_rails : FrameVersion → Graph → List ℕ
from_rails v g = flat_map blob_bytes g.rails ++ from_nodes v g

abbrev from_texts : FrameVersion → Graph → List ℕ
from_texts v g = flat_map blob_bytes g.texts ++ from_rails v g

abbrev from_roots : FrameVersion → Graph → List ℕ
from_roots v g = flat_map (item_bytes v) g.roots ++ from_texts v g

abbrev from_node_count : FrameVersion → Graph → List ℕ
from_node_count v g = to_be_bytes (width_of v) (length g.nodes) ++ from_roots v g

abbrev from_rail_count : FrameVersion → Graph → List ℕ
from_rail_count v g = to_be_bytes (width_of v) (length g.rails) ++ from_node_count v g

abbrev from_text_count : FrameVersion → Graph → List ℕ
from_text_count v g = to_be_bytes (width_of v) (length g.texts) ++ from_rail_count v g

few_of : (v : FrameVersion) (t r n : ℕ) → t ≤ most_of v → r ≤ most_of v → n ≤ most_of v → Few v (tables t r n)
few_of v t r n ht hr hn = record { texts = ht; rails = hr; nodes = hn }

-- what is known of a graph once its counts are
record Counted (places most : ℕ) (all : Tables) (g : Graph) : Type 0 where
  roots : FitsItems places all none g.roots
  nodes : FitsEach (FitsNode places all) next_turn (turn 0 (used_after none g.roots)) g.nodes
  used : used_in_all g.roots g.nodes ≡ all

counted : (v : FrameVersion) (places most t r n : ℕ) (g : Graph) → length g.texts ≡ t → length g.rails ≡ r → length g.nodes ≡ n
    → FitsGraph v places most g → Counted places most (tables t r n) g
counted v places most t r n g ht hr hn fits = subst (λ (all : Tables). Counted places most all g) (rw (ht, hr, hn) refl) whole where
  whole : Counted places most (tables_of g) g
  whole = record { roots = fits.roots; nodes = fits.nodes.1; used = fits.used }

fits_graph : (v : FrameVersion) (places most k t r n : ℕ) (g : Graph) → k ≤ most → length g.roots ≡ k → length g.texts ≡ t → length g.rails ≡ r
    → length g.nodes ≡ n → Few v (tables t r n)
    → AllByRecursion FitsText g.texts → AllByRecursion FitsRail g.rails → Counted places most (tables t r n) g → FitsGraph v places most g
fits_graph v places most k t r n g le hk ht hr hn few texts rails c =
    let d : Counted places most (tables_of g) g = subst (λ (all : Tables). Counted places most all g) (rw (ht, hr, hn) refl) c in
    record {
      count = omega (arith, hk, le);
      roots = d.roots;
      texts = (omega (arith, few.texts, ht), texts);
      rails = (omega (arith, few.rails, hr), rails);
      nodes = (omega (arith, few.nodes, hn), d.nodes);
      used = d.used;
    }

on_roots : (places : ℕ) (all : Tables) (roots : List Item) (g : Graph) → g.roots ≡ roots
    → FitsEach (FitsNode places all) next_turn (turn 0 (used_after none g.roots)) g.nodes
    → FitsEach (FitsNode places all) next_turn (turn 0 (used_after none roots)) g.nodes
on_roots places all roots g e h = subst (λ (rs : List Item). FitsEach (FitsNode places all) next_turn (turn 0 (used_after none rs)) g.nodes) e h

pub count_reads : (v : FrameVersion) → Reads (count_at v) (to_be_bytes (width_of v)) (λ n. n ≤ most_of v)
unfolding count_at
count_reads Narrow = fits_as (number_reads w16 (2 ^ 16) wide16 Short) (λ n h. omega (arith, h)) (λ n h. omega (arith, h))
count_reads Wide = fits_as (such_that_reads (λ n. leb n 1048576) Order (number_reads w32 (2 ^ 32) wide32 Short))
    (λ n h. leb-true n 1048576 h.1)
    (λ n h. (omega (arith, h), le-leb n 1048576 h))

pub graph_reads : (v : FrameVersion) (places most : ℕ) → places < 2 ^ 16 → most < 2 ^ 16
    → Reads (graph_at v places most) (graph_bytes v) (FitsGraph v places most)
unfolding graph_at graph_bytes graph_of
graph_reads v places most few small =
    then_reads (λ g. length g.roots) (from_text_count v) (such_that_reads (λ k. leb k most) Order (number_reads w16 (2 ^ 16) wide16 Short))
    (λ g h. (omega (arith, h.count), le-leb (length g.roots) most h.count)) (λ k hk.
    then_reads (λ g. length g.texts) (from_rail_count v) (count_reads v) (λ g h. h.1.texts.0) (λ t ht.
    then_reads (λ g. length g.rails) (from_node_count v) (count_reads v) (λ g h. h.1.1.rails.0) (λ r hr.
    then_reads (λ g. length g.nodes) (from_roots v) (count_reads v) (λ g h. h.1.1.1.nodes.0) (λ n hn.
    let ok : Few v (tables t r n) = few_of v t r n ht hr hn in
    then_reads (λ g. g.roots) (from_texts v) (many_reads uses (item_reads v places (tables t r n) few ok) k none)
    (λ g h. (h.1.1.1.0, (counted v places most t r n g h.1.1.0 h.1.0 h.0 h.1.1.1.1).roots)) (λ roots hroots.
    then_reads (λ g. g.texts) (from_rails v) (each_reads (λ s _. s) (λ _. text_reads) t 0) (λ g h. (h.1.1.1.0, h.1.1.1.1.1.texts.1)) (λ texts htexts.
    then_reads (λ g. g.rails) (from_nodes v) (each_reads (λ s _. s) (λ _. rail_reads) r 0) (λ g h. (h.1.1.1.0, h.1.1.1.1.1.1.rails.1))
    (λ rails hrails.
    last_reads (graph_of roots texts rails) (λ g. g.nodes)
    (such_that_reads (λ nodes. same_tables (used_in_all roots nodes) (tables t r n)) Order
    (many_reads next_turn (node_reads v places (tables t r n) few ok) n (turn 0 (used_after none roots))))
    (λ g h. let c = counted v places most t r n g h.1.1.1.1.1.0 h.1.1.1.1.0 h.1.1.1.0 h.1.1.1.1.1.1.1 in (
      (
        (h.1.1.1.0, on_roots places (tables t r n) roots g h.1.1.0 c.nodes),
        of_same_tables (used_in_all roots g.nodes) (tables t r n) (rw (← h.1.1.0) c.used),
      ),
      same_graph roots texts rails g h.1.1.0 h.1.0 h.0,
    ))
    (λ nodes h. let c : Counted places most (tables t r n) (graph_of roots texts rails nodes) = record {
      roots = hroots.1;
      nodes = h.0.1;
      used = same_tables_of (used_in_all roots nodes) (tables t r n) h.1;
    } in (
      refl,
      (
        refl,
        (
          refl,
          (
            refl,
            (
              h.0.0,
              (
                hrails.0,
                (
                  htexts.0,
                  (
                    hroots.0,
                    fits_graph v places most k t r n (graph_of roots texts rails nodes)
                        (leb-true k most hk.1) hroots.0 htexts.0 hrails.0 h.0.0 ok htexts.1 hrails.1 c,
                  ),
                ),
              ),
            ),
          ),
        ),
      ),
    )))))))))
