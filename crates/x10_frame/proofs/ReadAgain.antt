-- Values that are read once more.
use Rattle.std.proofs.Common.{◌≡◌, ℕ, zero, suc, ◌+◌, ◌-◌, ◌^◌, ◌<◌, List, [], ◌∷◌, ◌++◌, length, Some, Result, Ok, refl, sym, ap, ◌∙◌, arith, flat_map, slice_get}
use Rattle.std.specs.Prelude.{IsOk}
use Rattle.std.specs.List.{AllByRecursion}
use Rattle.x10_model.specs.declared.version.FrameVersion.{FrameVersion}
use Rattle.x10_model.specs.Frames.{Item, IntItem, PlaceItem, TextItem, RailItem, ObjectItem, NullItem, RefItem, Tables, uses, FitsItem, FitsItems, item_bytes}
use Rattle.x10_model.specs.Readers.{bind, done, many, times}
use Rattle.x10_model.specs.ReadingFrames.{FrameFault, item_at}
use Rattle.x10_model.proofs.ReaderLaws.{bind_ok, same}
use Rattle.x10_model.proofs.PartLaws.{each_reads}
use Rattle.x10_model.proofs.ItemLaws.{Few, item_reads}
use Rattle.x10_frame.specs.Items.{full, items_in, HasItems}

pub items_in_is : (v : FrameVersion) (places n : ℕ) (bytes : List ℕ) (xs : List Item) (rest : List ℕ)
    → times n (item_at v places (full v) (full v)) bytes ≡ Ok (xs, rest) → items_in v places n bytes ≡ xs
unfolding items_in
items_in_is v places n bytes xs rest e = rw e refl

-- with k values left, these are what is left of all
pub record Left (v : FrameVersion) (places k i : ℕ) (bytes : List ℕ) (all : List Item) : Type 0 where
  pub items : List Item
  pub rest : List ℕ
  pub reads : times k (item_at v places (full v) (full v)) bytes ≡ Ok (items, rest)
  pub is : (j : ℕ) → slice_get items j ≡ slice_get all (i + j)

-- the first value, and the others
record First (v : FrameVersion) (places k : ℕ) (bytes : List ℕ) (items : List Item) (rest : List ℕ) : Type 0 where
  item : Item
  others : List Item
  middle : List ℕ
  reads : item_at v places (full v) (full v) bytes ≡ Ok (item, middle)
  then : times k (item_at v places (full v) (full v)) middle ≡ Ok (others, rest)
  is : item ∷ others ≡ items

first_of : (v : FrameVersion) (places k : ℕ) (bytes : List ℕ) (items : List Item) (rest : List ℕ)
    → times (suc k) (item_at v places (full v) (full v)) bytes ≡ Ok (items, rest) → First v places k bytes items rest
unfolding many done
first_of v places k bytes items rest e =
    let one = bind_ok (item_at v places (full v) (full v)) (λ first.
    bind (many (λ (_ : ℕ). item_at v places (full v) (full v)) (λ s _. s) k 0) (λ others. done (first ∷ others))) bytes items rest e in
    let two = bind_ok (many (λ (_ : ℕ). item_at v places (full v) (full v)) (λ s _. s) k 0)
    (λ others. done (one.value ∷ others)) one.middle items rest one.second in
    let is = same {E = FrameFault} (one.value ∷ two.value) items two.middle rest two.second in
    record {
      item = one.value;
      others = two.value;
      middle = one.middle;
      reads = one.first;
      then = two.first ∙ ap (λ (t : List ℕ). Ok (two.value, t)) is.1;
      is = is.0;
    }

items_length : (v : FrameVersion) (places n : ℕ) (bytes : List ℕ) (xs : List Item) (rest : List ℕ)
    → times n (item_at v places (full v) (full v)) bytes ≡ Ok (xs, rest) → length xs ≡ n
unfolding many done
items_length v places zero bytes xs rest e = ap length (sym (same {E = FrameFault} [] xs bytes rest e).0)
items_length v places (suc n) bytes xs rest e =
    let f = first_of v places n bytes xs rest e in
    ap length (sym f.is) ∙ ap suc (items_length v places n f.middle f.others rest f.then)

pub items_in_length : (v : FrameVersion) (places n : ℕ) (bytes : List ℕ) → HasItems v places n bytes → length (items_in v places n bytes) ≡ n
items_in_length v places n bytes h = ap length (items_in_is v places n bytes h.items h.rest h.reads)
    ∙ items_length v places n bytes h.items h.rest h.reads

pub left_start : (v : FrameVersion) (places n : ℕ) (bytes : List ℕ) → (h : HasItems v places n bytes)
    → Left v places (n - 0) 0 bytes (items_in v places n bytes)
left_start v places n bytes h =
    let k : n - 0 ≡ n = omega arith in
    rw (k, items_in_is v places n bytes h.items h.rest h.reads)
    (record {
      items = h.items;
      rest = h.rest;
      reads = h.reads;
      is = λ j. (let z : j ≡ 0 + j = omega arith in ap (λ (t : ℕ). slice_get h.items t) z);
    })

taken : (x y : Item) (r s : List ℕ) (read : Result (Item × List ℕ) FrameFault) → read ≡ Ok (x, r) → read ≡ Ok (y, s) → (x ≡ y) × (r ≡ s)
taken x y r s read a b = same {E = FrameFault} x y r s (sym a ∙ b)

-- the first of n values that are left, and those after it
pub some_there : (v : FrameVersion) (places n : ℕ) (bytes : List ℕ) → HasItems v places n bytes → 0 < n
    → IsOk (item_at v places (full v) (full v) bytes)
some_there v places n bytes h lt =
    let k : n ≡ suc (n - 1) = omega (arith, lt) in
    let f = first_of v places (n - 1) bytes h.items h.rest (rw k at h.reads) in
    rw f.reads refl

pub record Stepped (v : FrameVersion) (places n : ℕ) (all : List Item) (x : Item) (rest : List ℕ) : Type 0 where
  pub there : HasItems v places (n - 1) rest
  pub are : all ≡ x ∷ items_in v places (n - 1) rest

pub stepped : (v : FrameVersion) (places n : ℕ) (bytes : List ℕ) (x : Item) (rest : List ℕ) → HasItems v places n bytes → 0 < n
    → item_at v places (full v) (full v) bytes ≡ Ok (x, rest) → Stepped v places n (items_in v places n bytes) x rest
stepped v places n bytes x rest h lt e =
    let k : n ≡ suc (n - 1) = omega (arith, lt) in
    let f = first_of v places (n - 1) bytes h.items h.rest (rw k at h.reads) in
    let is = taken f.item x f.middle rest (item_at v places (full v) (full v) bytes) f.reads e in
    let then : times (n - 1) (item_at v places (full v) (full v)) rest ≡ Ok (f.others, h.rest) =
    ap (times (n - 1) (item_at v places (full v) (full v))) (sym is.1) ∙ f.then in
    record {
      there = record { items = f.others; rest = h.rest; reads = then };
      are = items_in_is v places n bytes h.items h.rest h.reads ∙ sym f.is ∙ ap (λ (y : Item). y ∷ f.others) is.0
          ∙ ap (λ (ys : List Item). x ∷ ys) (sym (items_in_is v places (n - 1) rest f.others h.rest then));
    }

pub is_there : (v : FrameVersion) (places n i : ℕ) (bytes : List ℕ) (all : List Item) → i < n → Left v places (n - i) i bytes all
    → IsOk (item_at v places (full v) (full v) bytes)
is_there v places n i bytes all lt l =
    let k : n - i ≡ suc (n - (i + 1)) = omega arith in
    let f = first_of v places (n - (i + 1)) bytes l.items l.rest (rw k at l.reads) in
    rw f.reads refl

pub left_next : (v : FrameVersion) (places n i : ℕ) (bytes : List ℕ) (all : List Item) (x : Item) (rest : List ℕ) → i < n
    → Left v places (n - i) i bytes all → item_at v places (full v) (full v) bytes ≡ Ok (x, rest) → Left v places (n - (i + 1)) (i + 1) rest all
left_next v places n i bytes all x rest lt l e =
    let k : n - i ≡ suc (n - (i + 1)) = omega arith in
    let f = first_of v places (n - (i + 1)) bytes l.items l.rest (rw k at l.reads) in
    let is = taken f.item x f.middle rest (item_at v places (full v) (full v) bytes) f.reads e in
    record {
      items = f.others;
      rest = l.rest;
      reads = ap (times (n - (i + 1)) (item_at v places (full v) (full v))) (sym is.1) ∙ f.then;
      is = λ j.
          let m : i + suc j ≡ (i + 1) + j = omega arith in
          ap (λ (xs : List Item). slice_get xs (suc j)) f.is ∙ l.is (suc j) ∙ ap (λ (t : ℕ). slice_get all t) m;
    }

pub nth_is : (v : FrameVersion) (places n i : ℕ) (bytes : List ℕ) (all : List Item) (x : Item) (rest : List ℕ) → i < n
    → Left v places (n - i) i bytes all → item_at v places (full v) (full v) bytes ≡ Ok (x, rest) → slice_get all i ≡ Some x
nth_is v places n i bytes all x rest lt l e =
    let k : n - i ≡ suc (n - (i + 1)) = omega arith in
    let f = first_of v places (n - (i + 1)) bytes l.items l.rest (rw k at l.reads) in
    let is = taken f.item x f.middle rest (item_at v places (full v) (full v) bytes) f.reads e in
    let m : i ≡ i + 0 = omega arith in
    ap (λ (t : ℕ). slice_get all t) m ∙ sym (l.is 0) ∙ ap (λ (xs : List Item). slice_get xs 0) (sym f.is) ∙ ap (λ (y : Item). Some y) is.0

-- ---- what fits is there once more

few_full : (v : FrameVersion) → Few v (full v)
few_full v = record { texts = omega arith; rails = omega arith; nodes = omega arith }

widen : (v : FrameVersion) (places : ℕ) (all used : Tables) (x : Item) → Few v all → FitsItem places all used x → FitsItem places (full v) (full v) x
widen v places all used (IntItem z) few h = h
widen v places all used (PlaceItem p) few h = h
widen v places all used (TextItem i) few h = record { order = omega (arith, h.below, few.texts); below = omega (arith, h.below, few.texts) }
widen v places all used (RailItem i) few h = record { order = omega (arith, h.below, few.rails); below = omega (arith, h.below, few.rails) }
widen v places all used (ObjectItem i) few h = record { order = omega (arith, h.below, few.nodes); below = omega (arith, h.below, few.nodes) }
widen v places all used NullItem few h = tt
widen v places all used (RefItem home id class) few h = h

all_fit : (v : FrameVersion) (places : ℕ) (all used : Tables) (xs : List Item) → Few v all → FitsItems places all used xs
    → AllByRecursion (FitsItem places (full v) (full v)) xs
all_fit v places all used [] few h = tt
all_fit v places all used (x ∷ xs) few h = (widen v places all used x few h.0, all_fit v places all (uses used x) xs few h.1)

pub again : (v : FrameVersion) (places : ℕ) (all used : Tables) (xs : List Item) (n : ℕ) (bytes rest : List ℕ) → places < 2 ^ 16 → Few v all
    → FitsItems places all used xs → length xs ≡ n → bytes ≡ flat_map (item_bytes v) xs ++ rest
    → times n (item_at v places (full v) (full v)) bytes ≡ Ok (xs, rest)
again v places all used xs n bytes rest small few h len is =
    rw is ((each_reads (λ s _. s) (λ (_ : ℕ). item_reads v places (full v) small (few_full v) (full v)) n 0).again xs rest
    (len, all_fit v places all used xs few h))
