-- Objects that lie one after another: one more, one of them, a field that is written, and the first so many.
use Rattle.std.proofs.Common.{◌≡◌, ℕ, zero, suc, ◌+◌, ◌-◌, ◌<◌, ◌≤◌, List, [], ◌∷◌, ◌++◌, length, get_or, set, take, drop, Result, Ok, Err, Some, slice_get, refl, sym, ap, subst, ◌∙◌, arith, length-append, length-drop}
use Rattle.std.specs.Prelude.{slice_index, OnOk, OnErr}
use Rattle.std.proofs.lemmas.Option.{same_Some, slice_get_read}
use Rattle.std.proofs.lemmas.List.{nil_from_length, length-take-le, get_or-take, get_or-drop, take_all, take-take, take-append-le, take-set-le, drop-drop, drop-append-le, drop-set-lt, drop-set-add, drop-take}
use Rattle.x10_heap.specs.Heaps.{ObjectState}
use Rattle.x10_heap.specs.Laid.{objects_from, AreLaid, start_of}

-- an object
abbrev pub object : ℕ → List ℕ → ObjectState
object class fields = record { class = class; fields = fields }

ascend : (s : ℕ) (cs es : List ℕ) (last : ℕ) → AreLaid s cs es last → s ≤ last
ascend s [] [] last h = omega (arith, h)
ascend s (c ∷ cs) (e ∷ es) last h = omega (arith, h.0, ascend e cs es last h.1)
ascend s [] (e ∷ es) last h = absurd h
ascend s (c ∷ cs) [] last h = absurd h

-- as many objects, ends and classes
pub many : (s : ℕ) (cs es ws : List ℕ) (last : ℕ) → AreLaid s cs es last → (length (objects_from s cs es ws) ≡ length cs) × (length es ≡ length cs)
many s [] [] ws last h = (refl, refl)
many s (c ∷ cs) (e ∷ es) ws last h = let m = many e cs es (drop (e - s) ws) last h.1 in (ap suc m.0, ap suc m.1)
many s [] (e ∷ es) ws last h = absurd h
many s (c ∷ cs) [] ws last h = absurd h

-- ---- one more

pub record IsPushed (s : ℕ) (cs es ws : List ℕ) (c : ℕ) (fs : List ℕ) (more : ℕ) : Type 0 where
  pub are : objects_from s (cs ++ c ∷ []) (es ++ more ∷ []) (ws ++ fs) ≡ objects_from s cs es ws ++ object c fs ∷ []
  pub laid : AreLaid s (cs ++ c ∷ []) (es ++ more ∷ []) more

pub pushed : (s : ℕ) (cs es ws : List ℕ) (c : ℕ) (fs : List ℕ) (last more : ℕ) → AreLaid s cs es last → s + length ws ≡ last → more ≡ last + length fs
    → IsPushed s cs es ws c fs more
pushed s [] [] ws c fs last more h w m =
    let none : ws ≡ [] = nil_from_length ws (omega (arith, h, w)) in
    let all : take (more - s) fs ≡ fs = take_all (more - s) fs (omega (arith, h, w, m)) in
    record { are = rw (none, all) refl; laid = (omega (arith, h, m), refl) }
pushed s (b ∷ cs) (e ∷ es) ws c fs last more h w m =
    let room : e - s ≤ length ws = omega (arith, w, ascend e cs es last h.1) in
    let p = pushed e cs es (drop (e - s) ws) c fs last more h.1 (omega (arith, w, h.0, room, length-drop (e - s) ws)) m in
    record { are = rw (take-append-le (e - s) ws fs room, drop-append-le (e - s) ws fs room, p.are) refl; laid = (h.0, p.laid) }
pushed s [] (e ∷ es) ws c fs last more h w m = absurd h
pushed s (b ∷ cs) [] ws c fs last more h w m = absurd h

-- ---- one of them

pub record IsAt (s : ℕ) (cs es ws : List ℕ) (last k : ℕ) : Type 0 where
  pub above : s ≤ start_of s k es
  pub ordered : start_of s k es ≤ slice_index es k
  pub within : slice_index es k ≤ last
  pub is : slice_get (objects_from s cs es ws) k ≡ Some (object (slice_index cs k)
      (take (slice_index es k - start_of s k es) (drop (start_of s k es - s) ws)))

pub at : (s : ℕ) (cs es ws : List ℕ) (last k : ℕ) → AreLaid s cs es last → k < length cs → IsAt s cs es ws last k
at s [] es ws last k h lt = absurd (omega (arith, lt))
at s (c ∷ cs) [] ws last k h lt = absurd h
at s (c ∷ cs) (e ∷ es) ws last zero h lt =
    let here : s - s ≡ 0 = omega arith in
    record { above = omega arith; ordered = h.0; within = ascend e cs es last h.1; is = rw here refl }
at s (c ∷ cs) (e ∷ es) ws last (suc k) h lt =
    let a = at e cs es (drop (e - s) ws) last k h.1 (omega (arith, lt)) in
    let p = start_of e k es in
    let there : drop (p - e) (drop (e - s) ws) ≡ drop (p - s) ws = drop-drop (p - e) (e - s) ws ∙ ap (λ n. drop n ws) (omega (arith, a.above, h.0)) in
    record {
      above = omega (arith, a.above, h.0);
      ordered = a.ordered;
      within = a.within;
      is = subst (λ (fs : List ℕ). slice_get (objects_from e cs es (drop (e - s) ws)) k
          ≡ Some (object (slice_index cs k) (take (slice_index es k - p) fs))) there a.is;
    }

-- where the next one starts is where this one ends
pub start_after : (s : ℕ) (es : List ℕ) (k : ℕ) → k < length es → start_of s (suc k) es ≡ slice_index es k
start_after s [] k lt = absurd (omega (arith, lt))
start_after s (e ∷ es) zero lt = refl
start_after s (e ∷ es) (suc k) lt = start_after e es k (omega (arith, lt))

-- ---- a field that is written

take_set : (n : ℕ) (xs : List ℕ) (i x : ℕ) → i < n → take n (set xs i x) ≡ set (take n xs) i x
take_set zero xs i x lt = absurd (omega (arith, lt))
take_set (suc n) [] i x lt = refl
take_set (suc n) (y ∷ xs) zero x lt = refl
take_set (suc n) (y ∷ xs) (suc i) x lt = ap (λ (l : List ℕ). y ∷ l) (take_set n xs i x (omega (arith, lt)))

pub written : (s : ℕ) (cs es ws : List ℕ) (last k j w : ℕ) → AreLaid s cs es last → k < length cs → start_of s k es + j < slice_index es k
    → objects_from s cs es (set ws (start_of s k es - s + j) w)
    ≡ set (objects_from s cs es ws) k (object (slice_index cs k)
    (set (take (slice_index es k - start_of s k es) (drop (start_of s k es - s) ws)) j w))
written s [] es ws last k j w h lt within = absurd (omega (arith, lt))
written s (c ∷ cs) [] ws last k j w h lt within = absurd h
written s (c ∷ cs) (e ∷ es) ws last zero j w h lt within =
    let here : s - s ≡ 0 = omega arith in
    let at_j : s - s + j ≡ j = omega arith in
    rw (at_j, here, take_set (e - s) ws j w (omega (arith, within)), drop-set-lt (e - s) ws j w (omega (arith, within))) refl
written s (c ∷ cs) (e ∷ es) ws last (suc k) j w h lt within =
    let a = at e cs es (drop (e - s) ws) last k h.1 (omega (arith, lt)) in
    let p = start_of e k es in
    let at_j : p - s + j ≡ e - s + (p - e + j) = omega (arith, a.above, h.0) in
    let there : drop (p - e) (drop (e - s) ws) ≡ drop (p - s) ws = drop-drop (p - e) (e - s) ws ∙ ap (λ n. drop n ws) (omega (arith, a.above, h.0)) in
    let later = written e cs es (drop (e - s) ws) last k j w h.1 (omega (arith, lt)) within in
    rw (at_j, take-set-le (e - s) ws (e - s + (p - e + j)) w (omega arith), drop-set-add (e - s) ws (p - e + j) w, later, there) refl

-- ---- the first so many

above : (s : ℕ) (cs es : List ℕ) (last n : ℕ) → AreLaid s cs es last → n ≤ length cs → s ≤ start_of s n es
above s cs es last zero h le = omega arith
above s [] [] last (suc n) h le = absurd (omega (arith, le))
above s (c ∷ cs) (e ∷ es) last (suc n) h le = omega (arith, h.0, above e cs es last n h.1 (omega (arith, le)))
above s [] (e ∷ es) last (suc n) h le = absurd h
above s (c ∷ cs) [] last (suc n) h le = absurd h

pub record IsCut (s : ℕ) (cs es ws : List ℕ) (n : ℕ) : Type 0 where
  pub are : objects_from s (take n cs) (take n es) (take (start_of s n es - s) ws) ≡ take n (objects_from s cs es ws)
  pub laid : AreLaid s (take n cs) (take n es) (start_of s n es)

pub cut : (s : ℕ) (cs es ws : List ℕ) (last n : ℕ) → AreLaid s cs es last → n ≤ length cs → IsCut s cs es ws n
cut s cs es ws last zero h le = record { are = refl; laid = refl }
cut s [] es ws last (suc n) h le = absurd (omega (arith, le))
cut s (c ∷ cs) [] ws last (suc n) h le = absurd h
cut s (c ∷ cs) (e ∷ es) ws last (suc n) h le =
    let p = start_of e n es in
    let up = above e cs es last n h.1 (omega (arith, le)) in
    let behind : p - s ≡ e - s + (p - e) = omega (arith, up, h.0) in
    let rest = cut e cs es (drop (e - s) ws) last n h.1 (omega (arith, le)) in
    record {
      are = rw (behind, take-take (e - s) (e - s + (p - e)) ws (omega arith), drop-take (e - s) (p - e) ws, rest.are) refl;
      laid = (h.0, rest.laid);
    }

-- ---- what the calls rest on, by the lists that clauses see

pub record IsThere (cs es ws : List ℕ) (os : List ObjectState) (k : ℕ) : Type 0 where
  pub class_there : k < length cs
  pub end_there : k < length es
  pub ordered : start_of 0 k es ≤ slice_index es k
  pub within : slice_index es k ≤ length ws
  pub is : slice_get os k ≡ Some (object (slice_index cs k) (take (slice_index es k - start_of 0 k es) (drop (start_of 0 k es) ws)))

pub there : (cs es ws : List ℕ) (os : List ObjectState) (k : ℕ) → AreLaid 0 cs es (length ws) → objects_from 0 cs es ws ≡ os → k < length os
    → IsThere cs es ws os k
there cs es ws os k h e lt =
    let m = many 0 cs es ws (length ws) h in
    let in_classes : k < length cs = omega (arith, lt, m.0, ap length e) in
    let a = at 0 cs es ws (length ws) k h in_classes in
    let here : start_of 0 k es - 0 ≡ start_of 0 k es = omega arith in
    record {
      class_there = in_classes;
      end_there = omega (arith, in_classes, m.1);
      ordered = a.ordered;
      within = a.within;
      is = rw (← e) (subst (λ (n : ℕ). slice_get (objects_from 0 cs es ws) k
          ≡ Some (object (slice_index cs k) (take (slice_index es k - start_of 0 k es) (drop n ws)))) here a.is);
    }

-- the one that is there is this one
pub this_one : (cs es ws : List ℕ) (os : List ObjectState) (k : ℕ) (o : ObjectState) → IsThere cs es ws os k → slice_get os k ≡ Some o
    → object (slice_index cs k) (take (slice_index es k - start_of 0 k es) (drop (start_of 0 k es) ws)) ≡ o
this_one cs es ws os k o t e = same_Some _ o (sym t.is ∙ e)

pub record HasWord (es ws : List ℕ) (o : ObjectState) (k j : ℕ) : Type 0 where
  pub before_end : start_of 0 k es + j < slice_index es k
  pub word_there : start_of 0 k es + j < length ws
  pub is : (w : ℕ) → w ≡ get_or ws (start_of 0 k es + j) w → slice_get o.fields j ≡ Some w

pub word_of : (cs es ws : List ℕ) (os : List ObjectState) (k j : ℕ) (o : ObjectState) → IsThere cs es ws os k → slice_get os k ≡ Some o
    → j < length o.fields → HasWord es ws o k j
word_of cs es ws os k j o t e lt =
    let s = start_of 0 k es in
    let n = slice_index es k - s in
    let fields : take n (drop s ws) ≡ o.fields = ap (λ (x : ObjectState). x.fields) (this_one cs es ws os k o t e) in
    let many_are : length o.fields ≡ n = sym (ap length fields)
    ∙ length-take-le n (drop s ws) (omega (arith, length-drop s ws, t.within, t.ordered)) in
    let before : s + j < slice_index es k = omega (arith, lt, many_are, t.ordered) in
    record {
      before_end = before;
      word_there = omega (arith, before, t.within);
      is = λ w is. slice_get_read o.fields (length o.fields) j w refl lt
          (is ∙ sym (get_or-drop s ws j w) ∙ sym (get_or-take n (drop s ws) j w (omega (arith, lt, many_are)))
          ∙ ap (λ (l : List ℕ). get_or l j w) fields);
    }

pub put_there : (cs es ws : List ℕ) (os : List ObjectState) (k j w : ℕ) (o : ObjectState) → AreLaid 0 cs es (length ws) → objects_from 0 cs es ws ≡ os
    → IsThere cs es ws os k → slice_get os k ≡ Some o → j < length o.fields
    → objects_from 0 cs es (set ws (start_of 0 k es + j) w) ≡ set os k (object o.class (set o.fields j w))
put_there cs es ws os k j w o h e t at_k lt =
    let this = this_one cs es ws os k o t at_k in
    let here : start_of 0 k es - 0 ≡ start_of 0 k es = omega arith in
    let n = slice_index es k - start_of 0 k es in
    let changed = written 0 cs es ws (length ws) k j w h t.class_there (word_of cs es ws os k j o t at_k lt).before_end in
    let from_start = subst (λ (a : ℕ). objects_from 0 cs es (set ws (a + j) w)
    ≡ set (objects_from 0 cs es ws) k (object (slice_index cs k) (set (take n (drop a ws)) j w))) here changed in
    from_start ∙ ap (λ (x : ObjectState). set (objects_from 0 cs es ws) k (object x.class (set x.fields j w))) this
    ∙ ap (λ (l : List ObjectState). set l k (object o.class (set o.fields j w))) e

pub record IsAppended {E : Type 0} (r : Result Unit E) (cs es ws : List ℕ) (c : ℕ) (fs : List ℕ) (os : List ObjectState) : Type 0 where
  pub laid : AreLaid 0 cs es (length ws)
  pub are : OnOk r (objects_from 0 cs es ws ≡ os ++ object c fs ∷ [])

pub appended : {E : Type 0} (r : Result Unit E) (cs es ws ds fs ws' gs : List ℕ) (c : ℕ) (os : List ObjectState) → AreLaid 0 cs es (length ws)
    → objects_from 0 cs es ws ≡ os
    → OnOk r (ds ≡ cs ++ c ∷ []) → OnOk r (fs ≡ es ++ (length ws + length gs) ∷ []) → OnOk r (ws' ≡ ws ++ gs)
    → OnErr r ((ds ≡ cs) × (fs ≡ es) × (ws' ≡ ws)) → IsAppended r ds fs ws' c gs os
appended (Ok x) cs es ws ds fs ws' gs c os h e classes ends words err =
    let p = pushed 0 cs es ws c gs (length ws) (length ws + length gs) h (omega arith) refl in
    let long : length (ws ++ gs) ≡ length ws + length gs = length-append ws gs in
    record {
      laid = rw (classes, ends, words, long) p.laid;
      are = rw (classes, ends, words)
          (p.are ∙ ap (λ (l : List ObjectState). l ++ object c gs ∷ []) e);
    }
appended (Err x) cs es ws ds fs ws' gs c os h e classes ends words err = record { laid = rw (err.0, err.1, err.2) h; are = tt }

pub record IsShort (cs es ws : List ℕ) (os : List ObjectState) (n : ℕ) : Type 0 where
  pub laid : AreLaid 0 (take n cs) (take n es) (length (take (start_of 0 n es) ws))
  pub are : objects_from 0 (take n cs) (take n es) (take (start_of 0 n es) ws) ≡ take n os

pub shortened : (cs es ws : List ℕ) (os : List ObjectState) (n : ℕ) → AreLaid 0 cs es (length ws) → objects_from 0 cs es ws ≡ os → n < length cs
    → IsShort cs es ws os n
shortened cs es ws os n h e lt =
    let a = at 0 cs es ws (length ws) n h lt in
    let s = start_of 0 n es in
    let here : s - 0 ≡ s = omega arith in
    let k = cut 0 cs es ws (length ws) n h (omega (arith, lt)) in
    let long : length (take s ws) ≡ s = length-take-le s ws (omega (arith, a.ordered, a.within)) in
    record {
      laid = rw long k.laid;
      are = subst (λ (i : ℕ). objects_from 0 (take n cs) (take n es) (take i ws) ≡ take n (objects_from 0 cs es ws)) here k.are
          ∙ ap (λ (l : List ObjectState). take n l) e;
    }
