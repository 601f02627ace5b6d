-- What the parts of a view are, by the frame that it shows.
use Rattle.std.proofs.Common.{◌≡◌, ℕ, zero, suc, ◌+◌, ◌*◌, ◌^◌, ◌<◌, ◌≤◌, List, [], ◌∷◌, ◌++◌, length, drop, Some, refl, sym, ap, subst, ◌∙◌, arith, flat_map, slice_get, length-append}
use Rattle.std.specs.Prelude.{slice_range, slice_index}
use Rattle.std.specs.List.{AllByRecursion}
use Rattle.std.specs.Int.{w16, w32, to_be_bytes, from_be_bytes}
use Rattle.std.proofs.lemmas.List.Concat.{flat_map-cons}
use Rattle.x10_model.specs.declared.version.FrameVersion.{FrameVersion}
use Rattle.x10_model.specs.Frames.{Item, Node, Graph, Frame, Spawn, Shift, Back, Report, Tables, tables_of, Turn, turn, next_turn, none, used_after, FitsNode, FitsGraph, FitsFrame, item_bytes, blob_bytes, node_bytes, counts_bytes, spelling}
use Rattle.x10_model.specs.Readers.{FitsEach}
use Rattle.x10_model.proofs.ItemLaws.{Few}
use Rattle.x10_model.proofs.ImageParts.{length-items}
use Rattle.x10_model.specs.Offsets.{StandsAt}
use Rattle.x10_model.proofs.Offsets.{later, narrow, place_small, byte_is, range_is}
use Rattle.x10_model.proofs.Lists.{all_at}
use Rattle.x10_bytes.proofs.Parts.{number2_is, number4_is}
use Rattle.x10_frame.specs.declared.head.Head.{Head}
use Rattle.x10_frame.specs.declared.head.What.{What}
use Rattle.x10_frame.specs.declared.head.What.TheVariants as what
use Rattle.x10_frame.specs.Heads.{head_of, graph_of, sent_of, received_of, no_graph}
use Rattle.x10_frame.specs.Items.{items_in, HasItems}
use Rattle.x10_frame.specs.Bodies.{HasBody}
use Rattle.x10_frame.specs.Views.{frame_in, IsView}
use Rattle.x10_model.proofs.Offsets.{item_at as item_among}
use Rattle.x10_frame.proofs.ReadAgain.{again, items_in_is}

-- the view's facts about the frame that it shows
pub record Shows (v : FrameVersion) (bytes : List ℕ) (places : ℕ) (head : Head) (start count : ℕ) (texts rails nodes : List ℕ)
    (f : Frame) : Type 0 where
  pub few : places < 2 ^ 16
  pub fits : FitsFrame v places f
  pub spelled : bytes ≡ spelling v f
  pub head_is : head_of f ≡ head
  pub has : HasBody v bytes start count texts rails nodes f

pub shows : (v : FrameVersion) (bytes : List ℕ) (places : ℕ) (head : Head) (start count : ℕ) (texts rails nodes : List ℕ) (f : Frame)
    → IsView v bytes places head start count texts rails nodes → frame_in places bytes ≡ f → Shows v bytes places head start count texts rails nodes f
shows v bytes places head start count texts rails nodes f shown e =
    subst (Shows v bytes places head start count texts rails nodes) e
    (record { few = shown.few; fits = shown.fits; spelled = shown.spelled; head_is = shown.head_is; has = shown.has })

-- ---- what fits

more_roots : (v : FrameVersion) (places : ℕ) (g : Graph) → FitsGraph v places 1 g → FitsGraph v places 16 g
more_roots v places g h = record { count = omega (arith, h.count); roots = h.roots; texts = h.texts; rails = h.rails; nodes = h.nodes; used = h.used }

nothing_fits : (v : FrameVersion) (places : ℕ) → FitsGraph v places 16 no_graph
nothing_fits v places = record {
  count = omega arith;
  roots = tt;
  texts = (omega arith, tt);
  rails = (omega arith, tt);
  nodes = (omega arith, tt);
  used = refl;
}

pub graph_fits : (v : FrameVersion) (places : ℕ) (f : Frame) → FitsFrame v places f → FitsGraph v places 16 (graph_of f)
graph_fits v places (Spawn from to home number function graph) h = h.body.graph
graph_fits v places (Shift from to waiting home number function graph) h = h.body.1.graph
graph_fits v places (Back from to waiting graph) h = more_roots v places graph h.body.1
graph_fits v places (Report from to number sent received) h = nothing_fits v places

pub few_of : (v : FrameVersion) (places : ℕ) (g : Graph) → FitsGraph v places 16 g → Few v (tables_of g)
few_of v places g h = record { texts = h.texts.0; rails = h.rails.0; nodes = h.nodes.0 }

pub record Counts (places : ℕ) (f : Frame) : Type 0 where
  pub sent : AllByRecursion (λ n. n < 2 ^ 32) (sent_of f)
  pub received : AllByRecursion (λ n. n < 2 ^ 32) (received_of f)
  pub each : (q : ℕ) → q < length (received_of f) → length (sent_of f) ≡ places

pub counts_fit : (v : FrameVersion) (places : ℕ) (f : Frame) → FitsFrame v places f → Counts places f
counts_fit v places (Report from to number sent received) h = record { sent = h.body.1.1; received = h.body.2.1; each = λ q lt. h.body.1.0 }
counts_fit v places (Spawn from to home number function graph) h = record { sent = tt; received = tt; each = λ q lt. absurd (omega (arith, lt)) }
counts_fit v places (Shift from to waiting home number function graph) h =
    record { sent = tt; received = tt; each = λ q lt. absurd (omega (arith, lt)) }
counts_fit v places (Back from to waiting graph) h = record { sent = tt; received = tt; each = λ q lt. absurd (omega (arith, lt)) }

-- how many counts such a frame has
abbrev pub counts_for : ℕ → What → ℕ
counts_for places (what.Report number) = places
counts_for places w = 0

abbrev pub counts_with : ℕ → Head → ℕ
counts_with places h = counts_for places h.what

pub counts_are : (v : FrameVersion) (places : ℕ) (f : Frame) → FitsFrame v places f
    → (length (sent_of f) ≡ counts_with places (head_of f)) × (length (received_of f) ≡ counts_with places (head_of f))
counts_are v places (Report from to number sent received) h = (h.body.1.0, h.body.2.0)
counts_are v places (Spawn from to home number function graph) h = (refl, refl)
counts_are v places (Shift from to waiting home number function graph) h = (refl, refl)
counts_are v places (Back from to waiting graph) h = (refl, refl)

pub counts_of : (v : FrameVersion) (places : ℕ) (f : Frame) (h : Head) → FitsFrame v places f → head_of f ≡ h
    → (counts_with places h ≡ length (sent_of f)) × (counts_with places h ≡ length (received_of f))
counts_of v places f h fits e =
    let c = counts_are v places f fits in
    (ap (counts_with places) (sym e) ∙ sym c.0, ap (counts_with places) (sym e) ∙ sym c.1)

-- the node that has its turn
turn_of : (places : ℕ) (all : Tables) (t : Turn) (ns : List Node) (i : ℕ) (n : Node) → FitsEach (FitsNode places all) next_turn t ns
    → slice_get ns i ≡ Some n → (u : Turn) × FitsNode places all u n
turn_of places all t [] i n h e = absurd cc
turn_of places all t (m ∷ ns) zero n h e = let is : m ≡ n = cc in subst (λ (k : Node). (u : Turn) × FitsNode places all u k) is (t, h.0)
turn_of places all t (m ∷ ns) (suc i) n h e = turn_of places all (next_turn t m) ns i n h.1 e

pub node_fits : (v : FrameVersion) (places : ℕ) (g : Graph) (i : ℕ) (n : Node) → FitsGraph v places 16 g → slice_get g.nodes i ≡ Some n
    → (u : Turn) × FitsNode places (tables_of g) u n
node_fits v places g i n h e = turn_of places (tables_of g) (turn 0 (used_after none g.roots)) g.nodes i n h.nodes.1 e

-- ---- counts

pub record IsCountAt (bytes : List ℕ) (at n : ℕ) : Type 0 where
  pub room : at + 4 ≤ length bytes
  pub value : from_be_bytes w32 (slice_range bytes at (at + 4)) ≡ n

count_at : (bytes : List ℕ) (start at q : ℕ) (ns : List ℕ) → StandsAt bytes start (counts_bytes ns) → AllByRecursion (λ n. n < 2 ^ 32) ns
    → q < length ns → at ≡ start + 4 * q → (n : ℕ) × (slice_get ns q ≡ Some n) × IsCountAt bytes at n
count_at bytes start at q ns s small lt e =
    let found = item_among (to_be_bytes w32) 4 (λ n. refl) bytes start ns q at e s lt in (
      found.0,
      found.1,
      record {
        room = place_small bytes at (to_be_bytes w32 found.0) (omega arith) found.2;
        value = number4_is bytes at found.0 (all_at (λ n. n < 2 ^ 32) ns q found.0 small found.1) found.2;
      },
    )

pub sent_at : (v : FrameVersion) (bytes : List ℕ) (start at q places : ℕ) (f : Frame)
    → StandsAt bytes start (counts_bytes (sent_of f) ++ counts_bytes (received_of f)) → FitsFrame v places f → q < length (sent_of f)
    → at ≡ start + 4 * q → (n : ℕ) × (slice_get (sent_of f) q ≡ Some n) × IsCountAt bytes at n
sent_at v bytes start at q places f s h lt e = count_at bytes start at q (sent_of f)
    (narrow bytes start (counts_bytes (sent_of f)) (counts_bytes (received_of f)) s) (counts_fit v places f h).sent lt e

pub received_at : (v : FrameVersion) (bytes : List ℕ) (start at q places : ℕ) (f : Frame)
    → StandsAt bytes start (counts_bytes (sent_of f) ++ counts_bytes (received_of f)) → FitsFrame v places f → q < length (received_of f)
    → at ≡ start + 4 * (places + q) → (n : ℕ) × (slice_get (received_of f) q ≡ Some n) × IsCountAt bytes at n
received_at v bytes start at q places f s h lt e =
    let c = counts_fit v places f h in
    let len : 4 * places ≡ length (counts_bytes (sent_of f)) = omega (arith, length-items (to_be_bytes w32) 4 (λ n. refl) (sent_of f), c.each q lt) in
    let there = later bytes start (4 * places) (start + 4 * places) (counts_bytes (sent_of f)) (counts_bytes (received_of f)) len refl s in
    count_at bytes (start + 4 * places) at q (received_of f) there c.received lt (omega (arith, e))

-- ---- roots

pub record HasRoots (v : FrameVersion) (places count : ℕ) (bytes : List ℕ) (roots : List Item) : Type 0 where
  pub there : HasItems v places count bytes
  pub are : items_in v places count bytes ≡ roots

pub roots_at : (v : FrameVersion) (bytes : List ℕ) (start places count : ℕ) (g : Graph) → places < 2 ^ 16 → FitsGraph v places 16 g
    → length g.roots ≡ count → StandsAt bytes start (flat_map (item_bytes v) g.roots) → HasRoots v places count (drop start bytes) g.roots
roots_at v bytes start places count g few h len s =
    let e = again v places (tables_of g) none g.roots count (drop start bytes) s.rest few (few_of v places g h) h.roots len s.is in
    record { there = record { items = g.roots; rest = s.rest; reads = e }; are = items_in_is v places count (drop start bytes) g.roots s.rest e }

some_length : {A : Type 0} (spell : A → List ℕ) → ((x : A) → 0 < length (spell x)) → (xs : List A) → 0 < length xs → 0 < length (flat_map spell xs)
some_length spell each [] h = absurd (omega (arith, h))
some_length spell each (x ∷ xs) h = rw flat_map-cons (omega (arith, length-append (spell x) (flat_map spell xs), each x))

item_some : (v : FrameVersion) (x : Item) → 0 < length (item_bytes v x)
unfolding item_bytes
item_some v x = omega arith

pub start_small : (v : FrameVersion) (bytes : List ℕ) (start : ℕ) (xs : List Item) → 0 < length xs → StandsAt bytes start (flat_map (item_bytes v) xs)
    → start ≤ length bytes
start_small v bytes start xs some s = omega (
  arith,
  place_small bytes start (flat_map (item_bytes v) xs)
      (some_length (item_bytes v) (item_some v) xs some) s,
)

-- ---- texts and rails

pub record IsBlobAt (bytes : List ℕ) (at : ℕ) (blob : List ℕ) : Type 0 where
  pub count_room : at + 4 ≤ length bytes
  pub count : from_be_bytes w32 (slice_range bytes at (at + 4)) ≡ length blob
  pub room : at + 4 + length blob ≤ length bytes
  pub range : slice_range bytes (at + 4) (at + 4 + length blob) ≡ blob

pub blob_at : (bytes : List ℕ) (at : ℕ) (blob : List ℕ) → length blob < 2 ^ 16 → StandsAt bytes at (blob_bytes blob) → IsBlobAt bytes at blob
unfolding blob_bytes
blob_at bytes at blob fits s =
    let front = narrow bytes at (to_be_bytes w32 (length blob)) blob s in
    let back = later bytes at 4 (at + 4) (to_be_bytes w32 (length blob)) blob refl refl s in
    let small : at + (4 + length blob) ≤ length bytes = omega (arith, place_small bytes at (to_be_bytes w32 (length blob) ++ blob) (omega arith) s) in
    record {
      count_room = omega (arith, small);
      count = number4_is bytes at (length blob) (omega (arith, fits)) front;
      room = omega (arith, small);
      range = range_is bytes (at + 4) (at + 4 + length blob) blob refl back;
    }

-- ---- nodes

pub record IsNodeAt (v : FrameVersion) (bytes : List ℕ) (at places : ℕ) (n : Node) : Type 0 where
  pub room : at + 3 ≤ length bytes
  pub class : from_be_bytes w16 (slice_range bytes at (at + 2)) ≡ n.class
  pub there : HasItems v places (slice_index bytes (at + 2)) (drop (at + 3) bytes)
  pub fields : items_in v places (slice_index bytes (at + 2)) (drop (at + 3) bytes) ≡ n.fields

pub node_at : (v : FrameVersion) (bytes : List ℕ) (at places : ℕ) (all : Tables) (u : Turn) (n : Node) → places < 2 ^ 16 → Few v all
    → FitsNode places all u n → StandsAt bytes at (node_bytes v n) → IsNodeAt v bytes at places n
unfolding node_bytes
node_at v bytes at places all u n small few fits s =
    let front = narrow bytes at (to_be_bytes w16 n.class) (length n.fields ∷ flat_map (item_bytes v) n.fields) s in
    let room = place_small bytes at (to_be_bytes w16 n.class ++ (length n.fields ∷ flat_map (item_bytes v) n.fields)) (omega arith) s in
    let back = later bytes at 3 (at + 3) (to_be_bytes w16 n.class ++ (length n.fields ∷ [])) (flat_map (item_bytes v) n.fields) refl refl s in
    let count : length n.fields ≡ slice_index bytes (at + 2) =
    sym (byte_is bytes at 2 (to_be_bytes w16 n.class ++ (length n.fields ∷ flat_map (item_bytes v) n.fields)) (omega arith) s) in
    let e = again v places all u.used n.fields (slice_index bytes (at + 2)) (drop (at + 3) bytes) back.rest small few fits.fields count back.is in
    record {
      room = omega (arith, room);
      class = number2_is bytes at n.class fits.class front;
      there = record { items = n.fields; rest = back.rest; reads = e };
      fields = items_in_is v places (slice_index bytes (at + 2)) (drop (at + 3) bytes) n.fields back.rest e;
    }
