-- Texts that lie one after another: one more, one of them, two joined, and the first so many.
use Rattle.std.proofs.Common.{◌≡◌, ℕ, zero, suc, ◌+◌, ◌-◌, ◌<◌, ◌≤◌, ◌^◌, List, [], ◌∷◌, ◌++◌, length, take, drop, Result, Ok, Err, Some, slice_get, refl, sym, ap, ap₂, subst, ◌∙◌, arith, length-append, length-drop}
use Rattle.std.specs.Prelude.{slice_index, slice_range, OnOk, OnErr}
use Rattle.std.proofs.lemmas.Str.{IsUtf8-append}
use Rattle.std.proofs.Math.Nat.{min-le_right}
use Rattle.std.proofs.lemmas.Option.{same_Some}
use Rattle.std.proofs.lemmas.List.{nil_from_length, length-take, length-take-le, take_all, take-take, take-append-le, drop-drop, drop-append-le, drop-take}
use Rattle.x10_model.specs.Modules.{FitsText}
use Rattle.x10_heap.specs.Laid.{start_of}
use Rattle.x10_heap.specs.LaidTexts.{texts_from, AreTexts}

pub joined_fits : (t u : List ℕ) → length t + length u < 2 ^ 16 → FitsText t → FitsText u → FitsText (t ++ u)
joined_fits t u few first second = record {
  length = (let e : length (t ++ u) ≡ length t + length u = length-append t u in omega (arith, e, few));
  utf8 = IsUtf8-append t u first.utf8 second.utf8;
}

-- as many texts as ends
pub many : (s : ℕ) (es bs : List ℕ) → length (texts_from s es bs) ≡ length es
many s [] bs = refl
many s (e ∷ es) bs = ap suc (many e es (drop (e - s) bs))

-- ---- one more

pub record IsPushed (s : ℕ) (es bs t : List ℕ) (more : ℕ) : Type 0 where
  pub are : texts_from s (es ++ more ∷ []) (bs ++ t) ≡ texts_from s es bs ++ t ∷ []
  pub laid : AreTexts s (es ++ more ∷ []) (bs ++ t)

pub pushed : (s : ℕ) (es bs t : List ℕ) (more : ℕ) → AreTexts s es bs → FitsText t → more ≡ s + length bs + length t → IsPushed s es bs t more
pushed s [] bs t more h fits m =
    let none : bs ≡ [] = nil_from_length bs h in
    let all : take (more - s) t ≡ t = take_all (more - s) t (omega (arith, h, m)) in
    let rest : length (drop (more - s) t) ≡ 0 = omega (arith, length-drop (more - s) t, h, m) in
    record { are = rw (none, all) refl; laid = rw none (omega (arith, m), omega (arith, h, m), rw all fits, rest) }
pushed s (e ∷ es) bs t more h fits m =
    let n = e - s in
    let p = pushed e es (drop n bs) t more h.3 fits (omega (arith, m, h.0, h.1, length-drop n bs)) in
    let longer : n ≤ length (bs ++ t) = omega (arith, h.1, length-append bs t) in
    record {
      are = rw (take-append-le n bs t h.1, drop-append-le n bs t h.1, p.are) refl;
      laid = (h.0, longer, rw (take-append-le n bs t h.1) h.2, rw (drop-append-le n bs t h.1) p.laid);
    }

-- ---- one of them

pub record IsAt (s : ℕ) (es bs : List ℕ) (k : ℕ) : Type 0 where
  pub above : s ≤ start_of s k es
  pub ordered : start_of s k es ≤ slice_index es k
  pub within : slice_index es k ≤ s + length bs
  pub fits : FitsText (take (slice_index es k - start_of s k es) (drop (start_of s k es - s) bs))
  pub is : slice_get (texts_from s es bs) k ≡ Some (take (slice_index es k - start_of s k es) (drop (start_of s k es - s) bs))

pub at : (s : ℕ) (es bs : List ℕ) (k : ℕ) → AreTexts s es bs → k < length es → IsAt s es bs k
at s [] bs k h lt = absurd (omega (arith, lt))
at s (e ∷ es) bs zero h lt =
    let here : s - s ≡ 0 = omega arith in
    record { above = omega arith; ordered = h.0; within = omega (arith, h.0, h.1); fits = rw here h.2; is = rw here refl }
at s (e ∷ es) bs (suc k) h lt =
    let a = at e es (drop (e - s) bs) k h.3 (omega (arith, lt)) in
    let p = start_of e k es in
    let there : drop (p - e) (drop (e - s) bs) ≡ drop (p - s) bs = drop-drop (p - e) (e - s) bs ∙ ap (λ n. drop n bs) (omega (arith, a.above, h.0)) in
    record {
      above = omega (arith, a.above, h.0);
      ordered = a.ordered;
      within = omega (arith, a.within, h.0, h.1, length-drop (e - s) bs);
      fits = subst (λ (t : List ℕ). FitsText (take (slice_index es k - p) t)) there a.fits;
      is = subst (λ (t : List ℕ). slice_get (texts_from e es (drop (e - s) bs)) k ≡ Some (take (slice_index es k - p) t)) there a.is;
    }

-- ---- the first so many

above : (s : ℕ) (es bs : List ℕ) (n : ℕ) → AreTexts s es bs → n ≤ length es → s ≤ start_of s n es
above s es bs zero h le = omega arith
above s [] bs (suc n) h le = absurd (omega (arith, le))
above s (e ∷ es) bs (suc n) h le = omega (arith, h.0, above e es (drop (e - s) bs) n h.3 (omega (arith, le)))

pub record IsCut (s : ℕ) (es bs : List ℕ) (n : ℕ) : Type 0 where
  pub are : texts_from s (take n es) (take (start_of s n es - s) bs) ≡ take n (texts_from s es bs)
  pub laid : AreTexts s (take n es) (take (start_of s n es - s) bs)

pub cut : (s : ℕ) (es bs : List ℕ) (n : ℕ) → AreTexts s es bs → n ≤ length es → IsCut s es bs n
cut s es bs zero h le = let none : s - s ≡ 0 = omega arith in record { are = refl; laid = rw none refl }
cut s [] bs (suc n) h le = absurd (omega (arith, le))
cut s (e ∷ es) bs (suc n) h le =
    let p = start_of e n es in
    let up = above e es (drop (e - s) bs) n h.3 (omega (arith, le)) in
    let behind : p - s ≡ e - s + (p - e) = omega (arith, up, h.0) in
    let front : take (e - s) (take (e - s + (p - e)) bs) ≡ take (e - s) bs = take-take (e - s) (e - s + (p - e)) bs (omega arith) in
    let back : drop (e - s) (take (e - s + (p - e)) bs) ≡ take (p - e) (drop (e - s) bs) = drop-take (e - s) (p - e) bs in
    let rest = cut e es (drop (e - s) bs) n h.3 (omega (arith, le)) in
    let whole = take (e - s + (p - e)) bs in
    let room : e - s ≤ length whole = omega (
      arith,
      ap length front,
      length-take-le (e - s) bs h.1,
      length-take (e - s) whole,
      min-le_right (e - s) (length whole),
    ) in
    record {
      are = rw (behind, front, back, rest.are) refl;
      laid = rw behind (h.0, room, rw front h.2, rw back rest.laid);
    }

-- ---- what the calls rest on, by the lists that clauses see

pub record IsThere (es bs : List ℕ) (ts : List (List ℕ)) (k : ℕ) : Type 0 where
  pub end_there : k < length es
  pub ordered : start_of 0 k es ≤ slice_index es k
  pub within : slice_index es k ≤ length bs
  pub fits : FitsText (slice_range bs (start_of 0 k es) (slice_index es k))
  pub is : slice_get ts k ≡ Some (slice_range bs (start_of 0 k es) (slice_index es k))

pub there : (es bs : List ℕ) (ts : List (List ℕ)) (k : ℕ) → AreTexts 0 es bs → texts_from 0 es bs ≡ ts → k < length ts → IsThere es bs ts k
there es bs ts k h e lt =
    let in_ends : k < length es = omega (arith, lt, many 0 es bs, ap length e) in
    let a = at 0 es bs k h in_ends in
    let here : start_of 0 k es - 0 ≡ start_of 0 k es = omega arith in
    record {
      end_there = in_ends;
      ordered = a.ordered;
      within = omega (arith, a.within);
      fits = subst (λ (n : ℕ). FitsText (take (slice_index es k - start_of 0 k es) (drop n bs))) here a.fits;
      is = rw (← e) (subst (λ (n : ℕ). slice_get (texts_from 0 es bs) k
          ≡ Some (take (slice_index es k - start_of 0 k es) (drop n bs))) here a.is);
    }

pub record IsAppended {E : Type 0} (r : Result Unit E) (es bs t : List ℕ) (ts : List (List ℕ)) : Type 0 where
  pub laid : AreTexts 0 es bs
  pub are : OnOk r (texts_from 0 es bs ≡ ts ++ t ∷ [])

pub appended : {E : Type 0} (r : Result Unit E) (es bs fs ds t : List ℕ) (ts : List (List ℕ)) → AreTexts 0 es bs → texts_from 0 es bs ≡ ts
    → FitsText t → OnOk r (fs ≡ es ++ length ds ∷ []) → OnOk r (ds ≡ bs ++ t) → OnErr r ((fs ≡ es) × (ds ≡ bs)) → IsAppended r fs ds t ts
appended (Ok x) es bs fs ds t ts h e fits ends bytes err =
    let p = pushed 0 es bs t (length (bs ++ t)) h fits (omega (arith, length-append bs t)) in
    record {
      laid = rw (ends, bytes) p.laid;
      are = rw (ends, bytes) (p.are ∙ ap (λ (l : List (List ℕ)). l ++ t ∷ []) e);
    }
appended (Err x) es bs fs ds t ts h e fits ends bytes err = record { laid = rw (err.0, err.1) h; are = tt }

pub record IsShort (es bs : List ℕ) (ts : List (List ℕ)) (n : ℕ) : Type 0 where
  pub laid : AreTexts 0 (take n es) (take (start_of 0 n es) bs)
  pub are : texts_from 0 (take n es) (take (start_of 0 n es) bs) ≡ take n ts

pub shortened : (es bs : List ℕ) (ts : List (List ℕ)) (n : ℕ) → AreTexts 0 es bs → texts_from 0 es bs ≡ ts → n ≤ length es → IsShort es bs ts n
shortened es bs ts n h e le =
    let here : start_of 0 n es - 0 ≡ start_of 0 n es = omega arith in
    let k = cut 0 es bs n h le in
    record {
      laid = subst (λ (i : ℕ). AreTexts 0 (take n es) (take i bs)) here k.laid;
      are = subst (λ (i : ℕ). texts_from 0 (take n es) (take i bs) ≡ take n (texts_from 0 es bs)) here k.are
          ∙ ap (λ (l : List (List ℕ)). take n l) e;
    }

-- two that are there, joined
pub record IsPair (es bs : List ℕ) (ts : List (List ℕ)) (j k : ℕ) (t u : List ℕ) : Type 0 where
  pub few : slice_index es j - start_of 0 j es + (slice_index es k - start_of 0 k es) < 2 ^ 16
  pub fits : FitsText (t ++ u)
  pub is : (v w : List ℕ) → slice_get ts j ≡ Some v → slice_get ts k ≡ Some w → t ++ u ≡ v ++ w

length_range : (bs : List ℕ) (a b : ℕ) → a ≤ b → b ≤ length bs → length (slice_range bs a b) ≡ b - a
length_range bs a b le within = length-take-le (b - a) (drop a bs) (omega (arith, length-drop a bs, le, within))

pub pair : (es bs : List ℕ) (ts : List (List ℕ)) (j k : ℕ) → IsThere es bs ts j → IsThere es bs ts k
    → ((v w : List ℕ) → slice_get ts j ≡ Some v → slice_get ts k ≡ Some w → length v + length w < 2 ^ 16)
    → IsPair es bs ts j k (slice_range bs (start_of 0 j es) (slice_index es j)) (slice_range bs (start_of 0 k es) (slice_index es k))
pair es bs ts j k first second few =
    let t = slice_range bs (start_of 0 j es) (slice_index es j) in
    let u = slice_range bs (start_of 0 k es) (slice_index es k) in
    let short = few t u first.is second.is in
    record {
      few = omega (
        arith,
        short,
        length_range bs (start_of 0 j es) (slice_index es j) first.ordered first.within,
        length_range bs (start_of 0 k es) (slice_index es k) second.ordered second.within,
      );
      fits = joined_fits t u short first.fits second.fits;
      is = λ v w a b. ap₂ (λ (x y : List ℕ). x ++ y) (same_Some t v (sym first.is ∙ a)) (same_Some u w (sym second.is ∙ b));
    }

-- the text that was added is that of the two that are there
pub named : {E : Type 0} (r : Result Unit E) (now ts : List (List ℕ)) (t : List ℕ) (j k : ℕ) → OnOk r (now ≡ ts ++ t ∷ [])
    → ((v w : List ℕ) → slice_get ts j ≡ Some v → slice_get ts k ≡ Some w → t ≡ v ++ w)
    → OnOk r ((v w : List ℕ) → slice_get ts j ≡ Some v → slice_get ts k ≡ Some w → now ≡ ts ++ (v ++ w) ∷ [])
named (Ok x) now ts t j k are is = λ v w a b. are ∙ ap (λ (l : List ℕ). ts ++ l ∷ []) (is v w a b)
named (Err x) now ts t j k are is = tt
