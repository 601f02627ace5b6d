-- The values of a frame are read again, and what is read of them is spelled so.
use Rattle.std.proofs.Common.{◌≡◌, ℕ, ℤ, zero, suc, ◌^◌, ◌<◌, ◌≤◌, ◌&&◌, ltb, leb, [], ◌++◌, refl, arith, ltb-true, lt-ltb, leb-true, le-leb}
use Rattle.std.specs.Prelude.{FitsSigned}
use Rattle.std.specs.Int.{w16, w32, w64, to_be_bytes}
use Rattle.std.proofs.lemmas.Bool.{and_from, and_parts}
use Rattle.x10_model.specs.declared.version.FrameVersion.{FrameVersion}
use Rattle.x10_model.specs.declared.version.FrameVersion.TheVariants.{Narrow, Wide}
use Rattle.x10_model.specs.Frames.{width_of, most_of, Item, IntItem, PlaceItem, TextItem, RailItem, ObjectItem, NullItem, RefItem, Tables, FitsIndex, FitsItem, tag_of_item, untagged, item_bytes}
use Rattle.x10_model.specs.ReadingFrames.{Short, Tag, Place, Order, place_at, index_at, untagged_at, item_at}
use Rattle.x10_model.proofs.ReaderLaws.{Reads, then_reads, last_reads, made_reads, done_reads, such_that_reads, fits_as, spelled_where}
use Rattle.x10_model.proofs.PartLaws.{IsWide, byte_reads, number_reads, int_reads, wide16, wide32}

pub place_reads : (places : ℕ) → places < 2 ^ 16 → Reads (place_at places) (to_be_bytes w16) (λ p. p < places)
unfolding place_at
place_reads places few = fits_as (such_that_reads (λ p. ltb p places) Place (number_reads w16 (2 ^ 16) wide16 Short))
    (λ p h. ltb-true p places h.1)
    (λ p h. (omega arith, lt-ltb p places h))

-- what the numbers of texts, rails and nodes are below
abbrev pub limit_of : FrameVersion → ℕ
limit_of Narrow = 2 ^ 16
limit_of Wide = 2 ^ 32

pub wide_of : (v : FrameVersion) → IsWide (width_of v) (limit_of v)
wide_of Narrow = wide16
wide_of Wide = wide32

pub most_below : (v : FrameVersion) → most_of v < limit_of v
most_below Narrow = omega arith
most_below Wide = omega arith

pub index_reads : (v : FrameVersion) (used table : ℕ) → table ≤ most_of v
    → Reads (index_at v used table) (to_be_bytes (width_of v)) (FitsIndex used table)
unfolding index_at
index_reads v used table few = fits_as (such_that_reads (λ i. leb i used && ltb i table) Order
    (number_reads (width_of v) (limit_of v) (wide_of v) Short))
    (λ i h. let b = and_parts (leb i used) (ltb i table) h.1 in record { order = leb-true i used b.0; below = ltb-true i table b.1 })
    (λ i h. (omega (arith, h.below, few, most_below v), and_from (leb i used) (ltb i table) (le-leb i used h.order) (lt-ltb i table h.below)))

-- tables of a frame: not more than its version permits
pub record Few (v : FrameVersion) (all : Tables) : Type 0 where
  pub texts : all.texts ≤ most_of v
  pub rails : all.rails ≤ most_of v
  pub nodes : all.nodes ≤ most_of v

-- an item of a tag that fits
abbrev Tagged : ℕ → Tables → Tables → ℕ → Item → Type 0
Tagged places all used tag y = (tag_of_item y ≡ tag) × FitsItem places all used y

int_item : (places : ℕ) (all used : Tables) (y : Item) → Tagged places all used 1 y → (z : ℤ) × (IntItem z ≡ y) × FitsSigned w64 z
int_item places all used (IntItem z) h = (z, refl, h.1)
int_item places all used _ h = absurd (omega (arith, h.0))

place_item : (places : ℕ) (all used : Tables) (y : Item) → Tagged places all used 2 y → (p : ℕ) × (PlaceItem p ≡ y) × (p < places)
place_item places all used (PlaceItem p) h = (p, refl, h.1)
place_item places all used _ h = absurd (omega (arith, h.0))

text_item : (places : ℕ) (all used : Tables) (y : Item) → Tagged places all used 3 y → (i : ℕ) × (TextItem i ≡ y) × FitsIndex used.texts all.texts i
text_item places all used (TextItem i) h = (i, refl, h.1)
text_item places all used _ h = absurd (omega (arith, h.0))

rail_item : (places : ℕ) (all used : Tables) (y : Item) → Tagged places all used 4 y → (i : ℕ) × (RailItem i ≡ y) × FitsIndex used.rails all.rails i
rail_item places all used (RailItem i) h = (i, refl, h.1)
rail_item places all used _ h = absurd (omega (arith, h.0))

object_item : (places : ℕ) (all used : Tables) (y : Item) → Tagged places all used 5 y
    → (i : ℕ) × (ObjectItem i ≡ y) × FitsIndex used.nodes all.nodes i
object_item places all used (ObjectItem i) h = (i, refl, h.1)
object_item places all used _ h = absurd (omega (arith, h.0))

null_item : (places : ℕ) (all used : Tables) (y : Item) → Tagged places all used 6 y → NullItem ≡ y
null_item places all used NullItem h = refl
null_item places all used _ h = absurd (omega (arith, h.0))

null_is_empty : (v : FrameVersion) (y : Item) → tag_of_item y ≡ 6 → [] ≡ untagged v y
null_is_empty v NullItem h = refl
null_is_empty v _ h = absurd (omega (arith, h))

-- the parts of a reference, and 0 of other items
abbrev home_of : Item → ℕ
home_of (RefItem home id class) = home
home_of _ = 0

abbrev id_of : Item → ℕ
id_of (RefItem home id class) = id
id_of _ = 0

abbrev class_of : Item → ℕ
class_of (RefItem home id class) = class
class_of _ = 0

is_ref : (places : ℕ) (all used : Tables) (y : Item) → Tagged places all used 7 y → (home_of y < places) × (id_of y < 2 ^ 32) × (class_of y < 2 ^ 16)
is_ref places all used (RefItem home id class) h = h.1
is_ref places all used _ h = absurd (omega (arith, h.0))

same_ref : (home id class : ℕ) (y : Item) → tag_of_item y ≡ 7 → home_of y ≡ home → id_of y ≡ id → class_of y ≡ class → RefItem home id class ≡ y
same_ref home id class (RefItem a b c) t h i k = rw (← h, ← i, ← k) refl
same_ref home id class _ t h i k = absurd (omega (arith, t))

ref_bytes : (v : FrameVersion) (y : Item) → tag_of_item y ≡ 7
    → to_be_bytes w16 (home_of y) ++ (to_be_bytes w32 (id_of y) ++ to_be_bytes w16 (class_of y)) ≡ untagged v y
ref_bytes v (RefItem home id class) t = refl
ref_bytes v _ t = absurd (omega (arith, t))

ref_reads : (v : FrameVersion) (places : ℕ) (all used : Tables) → places < 2 ^ 16
    → Reads (untagged_at v places all used 7) (untagged v) (Tagged places all used 7)
unfolding untagged_at
ref_reads v places all used few = spelled_where
    (then_reads home_of (λ y. to_be_bytes w32 (id_of y) ++ to_be_bytes w16 (class_of y)) (place_reads places few)
    (λ y g. (is_ref places all used y g).0) (λ home hh.
    then_reads id_of (λ y. to_be_bytes w16 (class_of y)) (number_reads w32 (2 ^ 32) wide32 Short) (λ y g. (is_ref places all used y g.1).1) (λ id hi.
    last_reads (λ class. RefItem home id class) class_of (number_reads w16 (2 ^ 16) wide16 Short)
    (λ y g. ((is_ref places all used y g.1.1).2, same_ref home id (class_of y) y g.1.1.0 g.1.0 g.0 refl))
    (λ class hc. (refl, (refl, (refl, (refl, (hh, hi, hc)))))))))
    (λ y h. ref_bytes v y h.0)

untagged_reads : (v : FrameVersion) (places : ℕ) (all used : Tables) → places < 2 ^ 16 → Few v all → (tag : ℕ) → 1 ≤ tag → tag ≤ 7
    → Reads (untagged_at v places all used tag) (untagged v) (Tagged places all used tag)
unfolding untagged_at
untagged_reads v places all used few ok zero low high = absurd (omega (arith, low))
untagged_reads v places all used few ok (suc zero) low high =
    made_reads IntItem (int_reads Short) (λ z h. (refl, h)) (int_item places all used) (λ z. refl)
untagged_reads v places all used few ok (suc (suc zero)) low high =
    made_reads PlaceItem (place_reads places few) (λ p h. (refl, h)) (place_item places all used) (λ p. refl)
untagged_reads v places all used few ok (suc (suc (suc zero))) low high =
    made_reads TextItem (index_reads v used.texts all.texts ok.texts) (λ i h. (refl, h)) (text_item places all used) (λ i. refl)
untagged_reads v places all used few ok (suc (suc (suc (suc zero)))) low high =
    made_reads RailItem (index_reads v used.rails all.rails ok.rails) (λ i h. (refl, h)) (rail_item places all used) (λ i. refl)
untagged_reads v places all used few ok (suc (suc (suc (suc (suc zero))))) low high =
    made_reads ObjectItem (index_reads v used.nodes all.nodes ok.nodes) (λ i h. (refl, h)) (object_item places all used) (λ i. refl)
untagged_reads v places all used few ok (suc (suc (suc (suc (suc (suc zero)))))) low high =
    spelled_where (done_reads NullItem (refl, tt) (null_item places all used)) (λ y h. null_is_empty v y h.0)
untagged_reads v places all used few ok (suc (suc (suc (suc (suc (suc (suc zero))))))) low high = ref_reads v places all used few
untagged_reads v places all used few ok (suc (suc (suc (suc (suc (suc (suc (suc tag)))))))) low high = absurd (omega (arith, high))

tag_small : (y : Item) → (1 ≤ tag_of_item y) × (tag_of_item y ≤ 7)
tag_small (IntItem z) = (omega arith, omega arith)
tag_small _ = (omega arith, omega arith)

pub item_reads : (v : FrameVersion) (places : ℕ) (all : Tables) → places < 2 ^ 16 → Few v all → (used : Tables)
    → Reads (item_at v places all used) (item_bytes v) (FitsItem places all used)
unfolding item_at item_bytes
item_reads v places all few ok used =
    then_reads tag_of_item (untagged v) (such_that_reads (λ n. leb 1 n && leb n 7) Tag (byte_reads Short))
    (λ y g. let s = tag_small y in (
      omega (arith, s),
      and_from (leb 1 (tag_of_item y)) (leb (tag_of_item y) 7) (le-leb 1 (tag_of_item y) s.0)
          (le-leb (tag_of_item y) 7 s.1),
    ))
    (λ tag h. let b = and_parts (leb 1 tag) (leb tag 7) h.1 in untagged_reads v places all used few ok tag (leb-true 1 tag b.0) (leb-true tag 7 b.1))
