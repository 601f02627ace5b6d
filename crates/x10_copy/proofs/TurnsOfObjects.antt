-- One object has its turn after another.
use Rattle.std.proofs.Common.{◌≡◌, ℕ, zero, suc, ◌+◌, ◌-◌, ◌<◌, ◌≤◌, ◌^◌, List, [], ◌∷◌, ◌++◌, length, get_or, take, Some, slice_get, refl, sym, ap, subst, ◌∙◌, inl, inr, arith, length-append, add-one}
use Rattle.std.proofs.lemmas.List.{get_or_append_left, take-append-le, take_more, map_push}
use Rattle.std.proofs.lemmas.Option.{slice_get-get_or, slice_get_within, get_or_from_slice_get}
use Rattle.x10_model.specs.declared.limits.TheConstants.{MOST_WIDE}
use Rattle.x10_kinds.specs.declared.kind.Kind.{Kind}
use Rattle.x10_kinds.specs.declared.kind.Kind.TheVariants as kind
use Rattle.x10_kinds.specs.declared.stop.Stop.{Stop}
use Rattle.x10_heap.specs.Heaps.{HeapState}
use Rattle.x10_model.specs.Maps.{AreDistinct}
use Rattle.x10_model.specs.Frames.{Node, Tables, none, Turn, turn, next_turn, used_after, FitsNode}
use Rattle.x10_copy.specs.Names.{Names, no_names, tables_in, items_of, noted_all, IsPart, IsWord, AreWords, IsSound, AreSound}
use Rattle.x10_copy.specs.Graphs.{EachPart, kinds_at, no_object, object_at, node_of, nodes_of, noted_object, IsWordy, AreOnce, IsSoundAt}
use Rattle.x10_copy.specs.Captured.{IsMet, root, field, MeetsText, MeetsRail, MeetsObject, AreMany, IsOver, Refuses}
use Rattle.x10_copy.specs.Walks.{start_of, Walked}
use Rattle.x10_copy.proofs.NotedWords.{Extends, all_extend}
use Rattle.x10_copy.proofs.MoreNames.{items_grow, all_found_grows, all_fit_grows, all_noted, nodes_found_grow, nodes_grow, each_fits_grows, each_push, after_push, found_push}
use Rattle.x10_copy.proofs.Parts.{once_none, once_all, Leading, AllLeading, each_none, each_all}

-- ---- what words lead to

leading_there : (places : ℕ) (heap : HeapState) (k : Kind) (w : ℕ) → IsSound places heap k w
    → Leading (IsPart (length heap.texts)) (IsPart (length heap.rails)) (IsPart (length heap.objects)) k w
leading_there places heap kind.Int w s = tt
leading_there places heap kind.Place w s = tt
leading_there places heap kind.Text w s = s
leading_there places heap kind.Rail w s = s
leading_there places heap (kind.Obj c) w s =
    let e : w - 1 ≡ s.number = omega (arith, s.word_is) in
    rw e (record { below = slice_get_within heap.objects s.number s.object s.is_there; small = s.small })
leading_there places heap (kind.Opt c) zero s = tt
leading_there places heap (kind.Opt c) (suc w) (inl s) = absurd (omega (arith, s))
leading_there places heap (kind.Opt c) (suc w) (inr s) =
    let e : w ≡ s.number = omega (arith, s.word_is) in
    rw e (record { below = slice_get_within heap.objects s.number s.object s.is_there; small = s.small })
leading_there places heap (kind.GRef c) w s = tt

pub all_there : (places : ℕ) (heap : HeapState) (ks : List Kind) (ws : List ℕ) → AreSound places heap ks ws
    → AllLeading (IsPart (length heap.texts)) (IsPart (length heap.rails)) (IsPart (length heap.objects)) ks ws
all_there places heap [] [] s = tt
all_there places heap [] (w ∷ ws) s = absurd s
all_there places heap (k ∷ ks) [] s = absurd s
all_there places heap (k ∷ ks) (w ∷ ws) s = (leading_there places heap k w s.0, all_there places heap ks ws s.1)

pub word_of : (places : ℕ) (heap : HeapState) (k : Kind) (w : ℕ) → places ≤ 2 ^ 16 → IsSound places heap k w → IsWord k w
word_of places heap kind.Int w few s = tt
word_of places heap kind.Place w few s = omega (arith, s, few)
word_of places heap kind.Text w few s = s.small
word_of places heap kind.Rail w few s = s.small
word_of places heap (kind.Obj c) w few s = (omega (arith, s.word_is), omega (arith, s.word_is, s.small))
word_of places heap (kind.Opt c) w few (inl s) = omega (arith, s)
word_of places heap (kind.Opt c) w few (inr s) = omega (arith, s.word_is, s.small)
word_of places heap (kind.GRef c) w few s = s.1

pub words_of : (places : ℕ) (heap : HeapState) (ks : List Kind) (ws : List ℕ) → places ≤ 2 ^ 16 → AreSound places heap ks ws → AreWords ks ws
words_of places heap [] [] few s = tt
words_of places heap [] (w ∷ ws) few s = absurd s
words_of places heap (k ∷ ks) [] few s = absurd s
words_of places heap (k ∷ ks) (w ∷ ws) few s = (word_of places heap k w few s.0, words_of places heap ks ws few s.1)

pub wordy : (classes : List (List Kind)) (places : ℕ) (heap : HeapState) (p : ℕ) → places ≤ 2 ^ 16 → p < length heap.objects
    → IsSoundAt classes places heap p
    → IsWordy classes heap p
wordy classes places heap p few lt s = record
    { there = lt; class = s.class; words = words_of places heap (kinds_at classes (object_at heap p).class) (object_at heap p).fields few s.words }

module _ (classes : List (List Kind)) (heap : HeapState) (kinds : List Kind) (words : List ℕ) where
  leading_met : (places : ℕ) (k : Kind) (w : ℕ) → IsSound places heap k w → IsMet classes heap kinds words k w
      → Leading (MeetsText classes heap kinds words) (MeetsRail classes heap kinds words) (MeetsObject classes heap kinds words) k w
  leading_met places kind.Int w s h = tt
  leading_met places kind.Place w s h = tt
  leading_met places kind.Text w s h = h
  leading_met places kind.Rail w s h = h
  leading_met places (kind.Obj c) w s h =
      let e : w ≡ w - 1 + 1 = omega (arith, s.word_is) in
      (kind.Obj c, tt, subst (λ (v : ℕ). IsMet classes heap kinds words (kind.Obj c) v) e h)
  leading_met places (kind.Opt c) zero s h = tt
  leading_met places (kind.Opt c) (suc w) s h =
      let e : suc w ≡ w + 1 = omega arith in
      (kind.Opt c, tt, subst (λ (v : ℕ). IsMet classes heap kinds words (kind.Opt c) v) e h)
  leading_met places (kind.GRef c) w s h = tt

  pub all_met : (places : ℕ) (ks : List Kind) (ws : List ℕ) → AreSound places heap ks ws
      → ((i w : ℕ) (k : Kind) → slice_get ks i ≡ Some k → slice_get ws i ≡ Some w → IsMet classes heap kinds words k w)
      → AllLeading (MeetsText classes heap kinds words) (MeetsRail classes heap kinds words) (MeetsObject classes heap kinds words) ks ws
  all_met places [] [] s h = tt
  all_met places [] (w ∷ ws) s h = absurd s
  all_met places (k ∷ ks) [] s h = absurd s
  all_met places (k ∷ ks) (w ∷ ws) s h = (leading_met places k w s.0 (h 0 w k refl refl), all_met places ks ws s.1 (λ i v j e f. h (suc i) v j e f))

  abbrev Met : Names → Type 0
  Met n = EachPart (MeetsText classes heap kinds words) (MeetsRail classes heap kinds words) (MeetsObject classes heap kinds words) n

  many : (P : ℕ → Type 0) (xs : List ℕ) → AreDistinct xs → MOST_WIDE < length xs → ((i : ℕ) → i < length xs → P (get_or xs i 0)) → AreMany P
  many P xs d lt h = record {
    parts = xs;
    distinct = d;
    many = lt;
    met = λ p is. subst P (get_or_from_slice_get xs is.0 p 0 is.1)
        (h is.0 (slice_get_within xs is.0 p is.1));
  }

  pub refuses : (n : Names) (why : Stop) → AreOnce n → Met n → IsOver n why → Refuses classes heap kinds words why
  refuses n why once met (inl h) = inl h
  refuses n why once met (inr (inl h)) = inr (inl (h.0, many (MeetsObject classes heap kinds words) n.objects once.objects h.1 met.objects))
  refuses n why once met (inr (inr (inl h))) = inr (inr (inl (h.0, many (MeetsText classes heap kinds words) n.texts once.texts h.1 met.texts)))
  refuses n why once met (inr (inr (inr h))) = inr (inr (inr (h.0, many (MeetsRail classes heap kinds words) n.rails once.rails h.1 met.rails)))

  -- ---- the roots

  pub start_met : (places : ℕ) → AreSound places heap kinds words → Met (noted_all no_names kinds words)
  start_met places s = each_all (MeetsText classes heap kinds words) (MeetsRail classes heap kinds words)
      (MeetsObject classes heap kinds words) no_names
      kinds words
      (each_none (MeetsText classes heap kinds words) (MeetsRail classes heap kinds words) (MeetsObject classes heap kinds words))
      (all_met places kinds words s (λ i w k e f. root i w k e f))

  pub start_over : (places : ℕ) (why : Stop) → AreSound places heap kinds words → IsOver (noted_all no_names kinds words) why
      → Refuses classes heap kinds words why
  start_over places why s over = refuses (noted_all no_names kinds words) why (once_all no_names kinds words once_none) (start_met places s) over

  pub start : (places : ℕ) → AreSound places heap kinds words → ((j : ℕ) → get_or words j 0 < 2 ^ 64)
      → Walked classes places heap kinds words 0 (noted_all no_names kinds words)
  start places s small =
      let a = all_noted places heap no_names kinds words s small in
      record {
        once = once_all no_names kinds words once_none;
        met = start_met places s;
        there = each_all (IsPart (length heap.texts)) (IsPart (length heap.rails)) (IsPart (length heap.objects)) no_names kinds words
            (each_none (IsPart (length heap.texts)) (IsPart (length heap.rails)) (IsPart (length heap.objects)))
            (all_there places heap kinds words s);
        found = a.found;
        roots = a.fits;
        done = tt;
        nodes = tt;
        turn_is = ap (λ (t : Tables). turn 0 t) a.used;
      }

  -- ---- an object's turn

  -- the words of object k are met
  fields_met : (places k : ℕ) (n : Names) → Met n → k < length n.objects → get_or n.objects k 0 < length heap.objects
      → IsSoundAt classes places heap (get_or n.objects k 0)
      → AllLeading (MeetsText classes heap kinds words) (MeetsRail classes heap kinds words) (MeetsObject classes heap kinds words)
      (kinds_at classes (object_at heap (get_or n.objects k 0)).class) (object_at heap (get_or n.objects k 0)).fields
  fields_met places k n met lt there s =
      let p = get_or n.objects k 0 in
      let o = object_at heap p in
      let m = met.objects k lt in
      all_met places (kinds_at classes o.class) o.fields s.words (λ i w j e f.
      field p i w m.0 j o (kinds_at classes o.class) m.1 m.2 (slice_get-get_or heap.objects p no_object there)
      (slice_get-get_or classes o.class [] s.class) e
      f)

  pub next_met : (places k : ℕ) (n : Names) → Met n → k < length n.objects → get_or n.objects k 0 < length heap.objects
      → IsSoundAt classes places heap (get_or n.objects k 0)
      → Met (noted_object classes heap n (get_or n.objects k 0))
  next_met places k n met lt there s =
      let o = object_at heap (get_or n.objects k 0) in
      each_all (MeetsText classes heap kinds words) (MeetsRail classes heap kinds words) (MeetsObject classes heap kinds words) n
      (kinds_at classes o.class)
      o.fields met (fields_met places k n met lt there s)

  pub next_over : (places k : ℕ) (n : Names) (why : Stop) → Walked classes places heap kinds words k n → k < length n.objects
      → IsSoundAt classes places heap (get_or n.objects k 0)
      → IsOver (noted_object classes heap n (get_or n.objects k 0)) why → Refuses classes heap kinds words why
  next_over places k n why h lt s over =
      let o = object_at heap (get_or n.objects k 0) in
      refuses (noted_object classes heap n (get_or n.objects k 0)) why (once_all n (kinds_at classes o.class) o.fields h.once)
      (next_met places k n h.met lt (h.there.objects k lt).below s) over

  items_few : (n : Names) (ks : List Kind) (ws : List ℕ) → length (items_of n ks ws) ≤ length ks
  items_few n [] [] = omega arith
  items_few n [] (w ∷ ws) = omega arith
  items_few n (k ∷ ks) [] = omega arith
  items_few n (k ∷ ks) (w ∷ ws) = omega (arith, items_few n ks ws)

  one_more : (k : ℕ) (n m : Names) → Extends n m → k < length n.objects → take (k + 1) m.objects ≡ take k n.objects ++ get_or n.objects k 0 ∷ []
  one_more k n m e lt =
      take_more m.objects k 0 (omega (arith, ap length e.objects_are, length-append n.objects e.objects, lt))
      ∙ rw e.objects_are (rw (take-append-le k n.objects e.objects (omega arith), get_or_append_left n.objects e.objects 0 k lt) refl)

  pub next : (places k : ℕ) (n : Names) → Walked classes places heap kinds words k n → k < length n.objects
      → IsSoundAt classes places heap (get_or n.objects k 0)
      → ((j : ℕ) → get_or (object_at heap (get_or n.objects k 0)).fields j 0 < 2 ^ 64)
      → Walked classes places heap kinds words (k + 1) (noted_object classes heap n (get_or n.objects k 0))
  next places k n h lt s small =
      let p = get_or n.objects k 0 in
      let o = object_at heap p in
      let ks = kinds_at classes o.class in
      let m = noted_object classes heap n p in
      let e = all_extend n ks o.fields in
      let a = all_noted places heap n ks o.fields s.words small in
      let xs = nodes_of classes heap n (take k n.objects) in
      let x = node_of classes m o in
      let es : start_of m kinds words ≡ start_of n kinds words =
      ap (λ (is : List _). turn 0 (used_after none is)) (items_grow n m kinds words e h.found) in
      let et : take (k + 1) m.objects ≡ take k n.objects ++ p ∷ [] = one_more k n m e lt in
      let en : nodes_of classes heap m (take (k + 1) m.objects) ≡ xs ++ x ∷ [] =
      ap (λ (ps : List ℕ). nodes_of classes heap m ps) et ∙ map_push (λ (q : ℕ). node_of classes m (object_at heap q)) (take k n.objects) p
      ∙ ap (λ (ys : List Node). ys ++ x ∷ []) (nodes_grow classes heap n m (take k n.objects) e h.done) in
      let fit : FitsNode places (tables_in m) (turn k (tables_in n)) x = record
      { class = s.small; used = lt; count = omega (arith, items_few m ks o.fields, s.count); fields = a.fits } in
      record {
        once = once_all n ks o.fields h.once;
        met = next_met places k n h.met lt (h.there.objects k lt).below s;
        there = each_all (IsPart (length heap.texts)) (IsPart (length heap.rails)) (IsPart (length heap.objects)) n ks o.fields h.there
            (all_there places heap ks o.fields s.words);
        found = all_found_grows n m kinds words e h.found;
        roots = rw (items_grow n m kinds words e h.found) (all_fit_grows places n m none (items_of n kinds words) e h.roots);
        done = rw et (found_push classes heap m (take k n.objects) p (nodes_found_grow classes heap n m (take k n.objects) e h.done) a.found);
        nodes = rw (es, en) (each_push (FitsNode places (tables_in m)) next_turn (start_of n kinds words) xs x
            (each_fits_grows places n m (start_of n kinds words) xs e h.nodes)
            (subst (λ (t : Turn). FitsNode places (tables_in m) t x) (sym h.turn_is) fit));
        turn_is = rw (es, en) (after_push next_turn (start_of n kinds words) xs x ∙ ap (λ (t : Turn). next_turn t x) h.turn_is ∙ ap
            (λ (t : Tables). turn (suc k) t) a.used ∙ ap (λ (j : ℕ). turn j (tables_in m)) (sym (add-one k)));
      }

-- there are still enough objects
pub next_long : (classes : List (List Kind)) (heap : HeapState) (k : ℕ) (n : Names) → k < length n.objects
    → k + 1 ≤ length (noted_object classes heap n (get_or n.objects k 0)).objects
next_long classes heap k n lt =
    let o = object_at heap (get_or n.objects k 0) in
    let e = all_extend n (kinds_at classes o.class) o.fields in
    omega (arith, ap length e.objects_are, length-append n.objects e.objects, lt)
