-- Two tests of the same values, one value after another.
use Rattle.std.proofs.Common.{◌≡◌, ℕ, zero, suc, ◌+◌, ◌<◌, ◌≤◌, ◌&&◌, Bool, true, false, List, [], ◌∷◌, length, drop, Some, None, slice_get, refl, sym, ap, subst, ◌∙◌, add-one, arith, length-drop}
use Rattle.std.proofs.lemmas.List.{drop_all}
use Rattle.x10_heap.specs.Heaps.{HeapState}
use Rattle.x10_model.specs.declared.slot.Slot.{Slot}
use Rattle.x10_model.specs.Modules.{Module}
use Rattle.x10_model.specs.Frames.{Graph}
use Rattle.x10_copy.specs.Captured.{kinds_of}
use Rattle.x10_copy.specs.Fitting.{pairs_pass, each_passes, found, all_fit, nodes_fit, are_exported, nodes_exported}
use Rattle.x10_copy.specs.Arrived.{IsFound}
use Rattle.x10_copy.proofs.Tests.{pairs_next, pairs_fail, pairs_end, each_next, each_fail, each_end, each_step}
use Rattle.x10_copy.proofs.Additions.{drop_step}
use Rattle.x10_copy.proofs.TestLemmas.{kinds_told, told_kinds, exports_tell, told_exports}

-- ---- values that are met one after another

pub met_at : {Y : Type 0} (ys : List Y) (j : ℕ) (y : Y) (new : List Y) → drop j ys ≡ y ∷ new → slice_get ys j ≡ Some y
met_at [] zero y new e = absurd cc
met_at [] (suc j) y new e = absurd cc
met_at (a ∷ ys) zero y new e = let h : a ≡ y = cc in ap (λ (t : _). Some t) h
met_at (a ∷ ys) (suc j) y new e = met_at ys j y new e

pub left_after : {Y : Type 0} (ys : List Y) (j : ℕ) (y : Y) (new : List Y) → drop j ys ≡ y ∷ new → new ≡ drop (j + 1) ys
left_after ys j y new e =
    let both : y ∷ new ≡ y ∷ drop (j + 1) ys = sym e ∙ drop_step ys j y (met_at ys j y new e) in
    cc

pub some_left : {Y : Type 0} (ys left : List Y) (j : ℕ) → left ≡ drop j ys → j < length ys → 0 < length left
some_left ys left j e lt = rw e (omega (arith, length-drop j ys, lt))

-- ---- tests

and_assoc : (a b c : Bool) → (a && (b && c)) ≡ ((a && b) && c)
and_assoc true b c = refl
and_assoc false b c = refl

and_true : (a : Bool) → (a && true) ≡ a
and_true true = refl
and_true false = refl

-- the rest is still to be asked
asked : {Y : Type 0} (e : Y → Bool) (ys : List Y) (j : ℕ) (y : Y) (before named next : Bool)
    → each_passes e ys ≡ (before && each_passes e (drop j ys)) → slice_get ys j ≡ Some y → e y ≡ named → next ≡ (before && named)
    → each_passes e ys ≡ (next && each_passes e (drop (j + 1) ys))
asked e ys j y before named next h at is n =
    subst (λ (m : ℕ). each_passes e ys ≡ (next && each_passes e (drop m ys))) (sym (add-one j))
    (h ∙ ap (λ (b : Bool). before && b) (each_step e ys j y at)
    ∙ ap (λ (b : Bool). before && (b && each_passes e (drop (suc j) ys))) is
    ∙ and_assoc before named (each_passes e (drop (suc j) ys))
    ∙ ap (λ (b : Bool). b && each_passes e (drop (suc j) ys)) (sym n))

all_asked : {Y : Type 0} (e : Y → Bool) (ys : List Y) (j : ℕ) (before : Bool) → each_passes e ys ≡ (before && each_passes e (drop j ys))
    → length ys ≤ j → each_passes e ys ≡ before
all_asked e ys j before h le = h ∙ ap (λ (l : List _). before && each_passes e l) (drop_all j ys le) ∙ and_true before

-- with the values from j on left, those before passed the first test
pub record Looked {X Y : Type 0} (f : X → Y → Bool) (e : Y → Bool) (xs : List X) (ys : List Y) (j : ℕ) (exported : Bool)
    (left : List Y) : Type 0 where
  pub left_are : left ≡ drop j ys
  pub fit : pairs_pass f xs ys ≡ pairs_pass f (drop j xs) (drop j ys)
  pub named : each_passes e ys ≡ (exported && each_passes e (drop j ys))

pub looked_start : {X Y : Type 0} (f : X → Y → Bool) (e : Y → Bool) (xs : List X) (ys left : List Y) → left ≡ ys → Looked f e xs ys 0 true left
looked_start f e xs ys left is = record { left_are = is; fit = refl; named = refl }

pub looked_fail : {X Y : Type 0} (f : X → Y → Bool) (e : Y → Bool) (xs : List X) (ys : List Y) (j : ℕ) (exported : Bool) (left new : List Y) (x : X)
    (y : Y)
    → Looked f e xs ys j exported left → slice_get xs j ≡ Some x → left ≡ y ∷ new → f x y ≡ false
    → None ≡ found (pairs_pass f xs ys) (each_passes e ys)
looked_fail f e xs ys j exported left new x y l at is t =
    ap (λ (b : Bool). found b (each_passes e ys)) (pairs_fail f (pairs_pass f xs ys) xs ys j x y l.fit at (met_at ys j y new (sym l.left_are ∙ is)) t)

pub looked_next : {X Y : Type 0} (f : X → Y → Bool) (e : Y → Bool) (xs : List X) (ys : List Y) (j : ℕ) (exported named next : Bool)
    (left new : List Y) (x : X) (y : Y)
    → Looked f e xs ys j exported left → slice_get xs j ≡ Some x → left ≡ y ∷ new → f x y ≡ true → e y ≡ named → next ≡ (exported && named)
    → Looked f e xs ys (j + 1) next new
looked_next f e xs ys j exported named next left new x y l at is t n b =
    let here = met_at ys j y new (sym l.left_are ∙ is) in
    record {
      left_are = left_after ys j y new (sym l.left_are ∙ is);
      fit = pairs_next f (pairs_pass f xs ys) xs ys j x y l.fit at here t;
      named = asked e ys j y exported named next l.named here n b;
    }

pub looked_end : {X Y : Type 0} (f : X → Y → Bool) (e : Y → Bool) (xs : List X) (ys : List Y) (j : ℕ) (exported : Bool) (left : List Y)
    → Looked f e xs ys j exported left → length xs ≤ j → length ys ≤ j → Some exported ≡ found (pairs_pass f xs ys) (each_passes e ys)
looked_end f e xs ys j exported left l lx ly =
    ap (λ (b : Bool). Some b) (sym (all_asked e ys j exported l.named ly))
    ∙ ap (λ (b : Bool). found b (each_passes e ys)) (pairs_end f (pairs_pass f xs ys) xs ys j l.fit lx ly)

pub uneven : {X Y : Type 0} (f : X → Y → Bool) (e : Y → Bool) (xs : List X) (ys : List Y) → false ≡ pairs_pass f xs ys
    → None ≡ found (pairs_pass f xs ys) (each_passes e ys)
uneven f e xs ys h = ap (λ (b : Bool). found b (each_passes e ys)) h

-- the same of two tests of each
pub record LookedEach {Y : Type 0} (f e : Y → Bool) (ys : List Y) (j : ℕ) (exported : Bool) : Type 0 where
  pub fit : each_passes f ys ≡ each_passes f (drop j ys)
  pub named : each_passes e ys ≡ (exported && each_passes e (drop j ys))

found_some : (a b named : Bool) → Some named ≡ found a b → (a ≡ true) × (b ≡ named)
found_some true b named e = let h : named ≡ b = cc in (refl, sym h)
found_some false b named e = absurd cc

found_none : (a b : Bool) → None ≡ found a b → a ≡ false
found_none true b e = absurd cc
found_none false b e = refl

pub each_looked_start : {Y : Type 0} (f e : Y → Bool) (ys : List Y) → LookedEach f e ys 0 true
each_looked_start f e ys = record { fit = refl; named = refl }

pub each_looked_fail : {Y : Type 0} (f e : Y → Bool) (ys : List Y) (j : ℕ) (exported : Bool) (y : Y) → LookedEach f e ys j exported
    → slice_get ys j ≡ Some y → None ≡ found (f y) (e y)
    → None ≡ found (each_passes f ys) (each_passes e ys)
each_looked_fail f e ys j exported y l at t = ap (λ (b : Bool). found b (each_passes e ys))
    (each_fail f (each_passes f ys) ys j y l.fit at (found_none (f y) (e y) t))

pub each_looked_next : {Y : Type 0} (f e : Y → Bool) (ys : List Y) (j : ℕ) (exported named next : Bool) (y : Y) → LookedEach f e ys j exported
    → slice_get ys j ≡ Some y → Some named ≡ found (f y) (e y)
    → next ≡ (exported && named) → LookedEach f e ys (j + 1) next
each_looked_next f e ys j exported named next y l at t b =
    let is = found_some (f y) (e y) named t in
    record {
      fit = each_next f (each_passes f ys) ys j y l.fit at is.0;
      named = asked e ys j y exported named next l.named at is.1 b;
    }

pub each_looked_end : {Y : Type 0} (f e : Y → Bool) (ys : List Y) (j : ℕ) (exported : Bool) → LookedEach f e ys j exported → length ys ≤ j
    → Some exported ≡ found (each_passes f ys) (each_passes e ys)
each_looked_end f e ys j exported l le =
    ap (λ (b : Bool). Some b) (sym (all_asked e ys j exported l.named le))
    ∙ ap (λ (b : Bool). found b (each_passes e ys)) (each_end f (each_passes f ys) ys j l.fit le)

-- ---- what the tests of a graph tell

pub no_roots : (m : Module) (here : ℕ) (h : HeapState) (slots : List Slot) (g : Graph) → all_fit g (kinds_of slots) g.roots ≡ false
    → IsFound m here h slots g None
no_roots m here h slots g misfit = λ fit. let t = (told_kinds m g slots fit).0 in let e : false ≡ true = sym misfit ∙ t in absurd cc

pub no_nodes : (m : Module) (here : ℕ) (h : HeapState) (slots : List Slot) (g : Graph)
    → None ≡ found (nodes_fit m.classes g g.nodes) (nodes_exported here h.exports g.nodes) → IsFound m here h slots g None
no_nodes m here h slots g none = λ fit.
    let t = (told_kinds m g slots fit).1 in
    let e : false ≡ true = sym (found_none (nodes_fit m.classes g g.nodes) (nodes_exported here h.exports g.nodes) none) ∙ t in
    absurd cc

pub not_named : (m : Module) (here : ℕ) (h : HeapState) (slots : List Slot) (g : Graph) → all_fit g (kinds_of slots) g.roots ≡ true
    → Some false ≡ found (nodes_fit m.classes g g.nodes) (nodes_exported here h.exports g.nodes) → IsFound m here h slots g (Some false)
not_named m here h slots g fit some =
    let is = found_some (nodes_fit m.classes g g.nodes) (nodes_exported here h.exports g.nodes) false some in
    (kinds_told m g slots fit is.0, (λ t. absurd cc, λ n. sym is.1 ∙ (told_exports here h.exports g n).1))

pub all_named : (m : Module) (here : ℕ) (h : HeapState) (slots : List Slot) (g : Graph) (named : Bool) → all_fit g (kinds_of slots) g.roots ≡ true
    → Some true ≡ found (nodes_fit m.classes g g.nodes) (nodes_exported here h.exports g.nodes)
    → named ≡ are_exported here h.exports g.roots → IsFound m here h slots g (Some named)
all_named m here h slots g named fit some e =
    let is = found_some (nodes_fit m.classes g g.nodes) (nodes_exported here h.exports g.nodes) true some in
    (kinds_told m g slots fit is.0, (λ t. exports_tell here h.exports g (sym e ∙ t) is.1, λ n. e ∙ (told_exports here h.exports g n).0))
