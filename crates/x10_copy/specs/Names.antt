-- Which texts, rails and objects of a heap a frame takes along, and what each word is in it.
use Rattle.std.specs.Prelude.{◌≡◌, ◌⊎◌, ℕ, zero, suc, ◌+◌, ◌-◌, ◌^◌, ◌<◌, ◌≤◌, ◌==◌, nat_lt}
use Rattle.std.specs.Prelude.{List, [], ◌∷◌, ◌++◌, length, Some, slice_get, if◌then◌else◌}
use Rattle.std.specs.Int.{w64, cast_signed}
use Rattle.x10_kinds.specs.declared.kind.Kind.{Kind}
use Rattle.x10_kinds.specs.declared.kind.Kind.TheVariants as kind
use Rattle.x10_heap.specs.Heaps.{HeapState, ObjectState}
use Rattle.x10_heap.specs.References.{home_of, id_of}
use Rattle.x10_model.specs.Frames.{Item, IntItem, PlaceItem, TextItem, RailItem, ObjectItem, NullItem, RefItem, Tables, tables}

-- the numbers in the heap: that of the frame's text 0, of its text 1, and so on
pub record Names : Type 0 where
  pub texts : List ℕ
  pub rails : List ℕ
  pub objects : List ℕ

abbrev pub no_names : Names
no_names = record { texts = []; rails = []; objects = [] }

-- where x stands first, or the length where it doesn't
abbrev pub number : List ℕ → ℕ → ℕ
number [] x = 0
number (y ∷ ys) x = if y == x then 0 else suc (number ys x)

-- the list with x, which is put last where it isn't there yet
abbrev pub with_new : List ℕ → ℕ → List ℕ
with_new xs x = if nat_lt (number xs x) (length xs) then xs else xs ++ x ∷ []

abbrev pub tables_in : Names → Tables
tables_in n = tables (length n.texts) (length n.rails) (length n.objects)

-- ---- words

-- what a word of a kind is in the frame
abbrev pub item_of : Names → Kind → ℕ → Item
item_of n kind.Int w = IntItem (cast_signed w64 w)
item_of n kind.Place w = PlaceItem w
item_of n kind.Text w = TextItem (number n.texts w)
item_of n kind.Rail w = RailItem (number n.rails w)
item_of n (kind.Obj c) w = ObjectItem (number n.objects (w - 1))
item_of n (kind.Opt c) zero = NullItem
item_of n (kind.Opt c) (suc w) = ObjectItem (number n.objects w)
item_of n (kind.GRef c) w = RefItem (home_of w) (id_of w) c

abbrev pub items_of : Names → List Kind → List ℕ → List Item
items_of n (k ∷ ks) (w ∷ ws) = item_of n k w ∷ items_of n ks ws
items_of n _ _ = []

-- the names once a word was met
abbrev pub noted : Names → Kind → ℕ → Names
noted n kind.Text w = record n { texts = with_new n.texts w }
noted n kind.Rail w = record n { rails = with_new n.rails w }
noted n (kind.Obj c) w = record n { objects = with_new n.objects (w - 1) }
noted n (kind.Opt c) zero = n
noted n (kind.Opt c) (suc w) = record n { objects = with_new n.objects w }
noted n _ w = n

-- the same of words one after another
abbrev pub noted_all : Names → List Kind → List ℕ → Names
noted_all n (k ∷ ks) (w ∷ ws) = noted_all (noted n k w) ks ws
noted_all n _ _ = n

-- the word leads to a part that has a name
abbrev pub IsFound : Names → Kind → ℕ → Type 0
IsFound n kind.Text w = number n.texts w < length n.texts
IsFound n kind.Rail w = number n.rails w < length n.rails
IsFound n (kind.Obj c) w = number n.objects (w - 1) < length n.objects
IsFound n (kind.Opt c) zero = Unit {0}
IsFound n (kind.Opt c) (suc w) = number n.objects w < length n.objects
IsFound n _ w = Unit {0}

-- ---- words that stand for something

-- the numbers in a word are as long as a frame has them
abbrev pub IsWord : Kind → ℕ → Type 0
IsWord kind.Int w = Unit {0}
IsWord kind.Place w = w < 2 ^ 16
IsWord kind.Text w = w < 2 ^ 32
IsWord kind.Rail w = w < 2 ^ 32
IsWord (kind.Obj c) w = (1 ≤ w) × (w ≤ 2 ^ 32)
IsWord (kind.Opt c) w = w ≤ 2 ^ 32
IsWord (kind.GRef c) w = id_of w < 2 ^ 32

-- one word for each kind, and each is so
abbrev pub AreWords : List Kind → List ℕ → Type 0
AreWords [] [] = Unit {0}
AreWords (k ∷ ks) (w ∷ ws) = IsWord k w × AreWords ks ws
AreWords _ _ = ⊥

-- each word leads to a part that has a name
abbrev pub AreFound : Names → List Kind → List ℕ → Type 0
AreFound n (k ∷ ks) (w ∷ ws) = IsFound n k w × AreFound n ks ws
AreFound n _ _ = Unit {0}

-- a number of 32 bits of one of so many parts
pub record IsPart (count number : ℕ) : Type 0 where
  pub below : number < count
  pub small : number < 2 ^ 32

-- one more than the number of an object of the class
pub record IsObject (heap : HeapState) (class word : ℕ) : Type 0 where
  pub number : ℕ
  pub word_is : word ≡ number + 1
  pub small : number < 2 ^ 32
  pub object : ObjectState
  pub is_there : slice_get heap.objects number ≡ Some object
  pub class_is : object.class ≡ class

-- the word stands for a value of the kind in a heap, where there are so many places
abbrev pub IsSound : ℕ → HeapState → Kind → ℕ → Type 0
IsSound places heap kind.Int w = Unit {0}
IsSound places heap kind.Place w = w < places
IsSound places heap kind.Text w = IsPart (length heap.texts) w
IsSound places heap kind.Rail w = IsPart (length heap.rails) w
IsSound places heap (kind.Obj c) w = IsObject heap c w
IsSound places heap (kind.Opt c) w = (w ≡ 0) ⊎ IsObject heap c w
IsSound places heap (kind.GRef c) w = (home_of w < places) × (id_of w < 2 ^ 32) × (c < 2 ^ 16)

-- one word for each kind, and each is sound
abbrev pub AreSound : ℕ → HeapState → List Kind → List ℕ → Type 0
AreSound places heap [] [] = Unit {0}
AreSound places heap (k ∷ ks) (w ∷ ws) = IsSound places heap k w × AreSound places heap ks ws
AreSound places heap _ _ = ⊥
