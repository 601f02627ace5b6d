-- Meeting words one after another: names are only added.
use Rattle.std.proofs.Common.{◌≡◌, ℕ, zero, suc, ◌+◌, ◌-◌, ◌<◌, ◌≤◌, List, [], ◌∷◌, ◌++◌, length, get_or, drop, Some, slice_get, refl, sym, ap, subst, ◌∙◌, inl, inr, arith, length-append, append_assoc, append-nil, add-one}
use Rattle.x10_kinds.specs.declared.kind.Kind.{Kind}
use Rattle.x10_kinds.specs.declared.kind.Kind.TheVariants as kind
use Rattle.x10_kinds.specs.declared.stop.Stop.{Stop}
use Rattle.std.proofs.lemmas.List.{drop_all, length-map}
use Rattle.x10_model.specs.declared.limits.TheConstants.{MOST_WIDE}
use Rattle.x10_model.specs.declared.slot.Slot.{Slot}
use Rattle.x10_copy.specs.Names.{Names, with_new, noted, noted_all, IsWord, AreWords}
use Rattle.x10_copy.specs.Captured.{IsOver, kinds_of}
use Rattle.x10_copy.proofs.Position.{added}

-- ---- loops over words

step : (n : Names) (ks : List Kind) (ws : List ℕ) (i : ℕ) (k : Kind) (w : ℕ) → slice_get ks i ≡ Some k → slice_get ws i ≡ Some w
    → noted_all n (drop i ks) (drop i ws) ≡ noted_all (noted n k w) (drop (suc i) ks) (drop (suc i) ws)
step n [] ws i k w e f = absurd cc
step n (j ∷ ks) [] i k w e f = absurd cc
step n (j ∷ ks) (v ∷ ws) zero k w e f =
    let ek : j ≡ k = cc in
    let ew : v ≡ w = cc in
    rw (ek, ew) refl
step n (j ∷ ks) (v ∷ ws) (suc i) k w e f = step n ks ws i k w e f

pub noted_step : (n : Names) (ks : List Kind) (ws : List ℕ) (i : ℕ) (k : Kind) (w : ℕ) → slice_get ks i ≡ Some k → slice_get ws i ≡ Some w
    → noted_all n (drop i ks) (drop i ws) ≡ noted_all (noted n k w) (drop (i + 1) ks) (drop (i + 1) ws)
noted_step n ks ws i k w e f = subst (λ (m : ℕ). noted_all n (drop i ks) (drop i ws) ≡ noted_all (noted n k w) (drop m ks) (drop m ws))
    (sym (add-one i))
    (step n ks ws i k w e f)

pub noted_kept : (start n m : Names) (ks : List Kind) (ws : List ℕ) (i : ℕ) (k : Kind) (w : ℕ)
    → noted_all start ks ws ≡ noted_all n (drop i ks) (drop i ws)
    → slice_get ks i ≡ Some k → slice_get ws i ≡ Some w → m ≡ noted n k w → noted_all start ks ws ≡ noted_all m (drop (i + 1) ks) (drop (i + 1) ws)
noted_kept start n m ks ws i k w so e f is = so ∙ noted_step n ks ws i k w e f
    ∙ ap (λ (o : Names). noted_all o (drop (i + 1) ks) (drop (i + 1) ws)) (sym is)

pub word_at : (ks : List Kind) (ws : List ℕ) (i : ℕ) (k : Kind) (w : ℕ) → AreWords ks ws → slice_get ks i ≡ Some k → slice_get ws i ≡ Some w
    → IsWord k w
word_at [] ws i k w h e f = absurd cc
word_at (j ∷ ks) [] i k w h e f = absurd h
word_at (j ∷ ks) (v ∷ ws) zero k w h e f =
    let ek : j ≡ k = cc in
    let ew : v ≡ w = cc in
    rw (← ek, ← ew) h.0
word_at (j ∷ ks) (v ∷ ws) (suc i) k w h e f = word_at ks ws i k w h.1 e f

pub same_count : (ks : List Kind) (ws : List ℕ) → AreWords ks ws → length ks ≡ length ws
same_count [] [] h = refl
same_count (k ∷ ks) (w ∷ ws) h = ap suc (same_count ks ws h.1)
same_count [] (w ∷ ws) h = absurd h
same_count (k ∷ ks) [] h = absurd h

no_words : (n : Names) (ks : List Kind) → noted_all n ks [] ≡ n
no_words n [] = refl
no_words n (k ∷ ks) = refl

pub noted_end : (n : Names) (ks : List Kind) (ws : List ℕ) (i : ℕ) → length ws ≤ i → noted_all n (drop i ks) (drop i ws) ≡ n
noted_end n ks ws i le = rw (drop_all i ws le) (no_words n (drop i ks))

-- the kind of a slot
pub kind_at : (slots : List Slot) (i : ℕ) (d : Slot) → i < length slots → slice_get (kinds_of slots) i ≡ Some (get_or slots i d).kind
kind_at [] i d lt = absurd (omega (arith, lt))
kind_at (s ∷ slots) zero d lt = refl
kind_at (s ∷ slots) (suc i) d lt = kind_at slots i d (omega (arith, lt))

pub slot_there : (slots : List Slot) (ws : List ℕ) (i : ℕ) → AreWords (kinds_of slots) ws → i < length ws → i < length slots
slot_there slots ws i h lt = omega (arith, same_count (kinds_of slots) ws h, length-map slots (λ (s : Slot). s.kind), lt)

-- ---- more names

pub record Extends (n m : Names) : Type 0 where
  pub texts : List ℕ
  pub rails : List ℕ
  pub objects : List ℕ
  pub texts_are : m.texts ≡ n.texts ++ texts
  pub rails_are : m.rails ≡ n.rails ++ rails
  pub objects_are : m.objects ≡ n.objects ++ objects

pub extends_same : (n : Names) → Extends n n
extends_same n = record {
  texts = [];
  rails = [];
  objects = [];
  texts_are = sym (append-nil n.texts);
  rails_are = sym (append-nil n.rails);
  objects_are = sym
      (append-nil n.objects);
}

further : (a b c x y : List ℕ) → b ≡ a ++ x → c ≡ b ++ y → c ≡ a ++ (x ++ y)
further a b c x y e f = f ∙ ap (λ (l : List ℕ). l ++ y) e ∙ append_assoc a x y

pub extends_on : (n m o : Names) → Extends n m → Extends m o → Extends n o
extends_on n m o e f = record {
  texts = e.texts ++ f.texts;
  rails = e.rails ++ f.rails;
  objects = e.objects ++ f.objects;
  texts_are = further n.texts m.texts o.texts e.texts f.texts e.texts_are f.texts_are;
  rails_are = further n.rails m.rails o.rails e.rails f.rails e.rails_are f.rails_are;
  objects_are = further n.objects m.objects o.objects e.objects f.objects e.objects_are f.objects_are;
}

text_more : (n : Names) (w : ℕ) → Extends n (record n { texts = with_new n.texts w })
text_more n w = let a = added n.texts w in record
    { texts = a.more; rails = []; objects = []; texts_are = a.is; rails_are = sym (append-nil n.rails); objects_are = sym (append-nil n.objects) }

rail_more : (n : Names) (w : ℕ) → Extends n (record n { rails = with_new n.rails w })
rail_more n w = let a = added n.rails w in record
    { texts = []; rails = a.more; objects = []; texts_are = sym (append-nil n.texts); rails_are = a.is; objects_are = sym (append-nil n.objects) }

object_more : (n : Names) (w : ℕ) → Extends n (record n { objects = with_new n.objects w })
object_more n w = let a = added n.objects w in record
    { texts = []; rails = []; objects = a.more; texts_are = sym (append-nil n.texts); rails_are = sym (append-nil n.rails); objects_are = a.is }

pub noted_extends : (n : Names) (k : Kind) (w : ℕ) → Extends n (noted n k w)
noted_extends n kind.Int w = extends_same n
noted_extends n kind.Place w = extends_same n
noted_extends n kind.Text w = text_more n w
noted_extends n kind.Rail w = rail_more n w
noted_extends n (kind.Obj c) w = object_more n (w - 1)
noted_extends n (kind.Opt c) zero = extends_same n
noted_extends n (kind.Opt c) (suc w) = object_more n w
noted_extends n (kind.GRef c) w = extends_same n

pub all_extend : (n : Names) (ks : List Kind) (ws : List ℕ) → Extends n (noted_all n ks ws)
all_extend n [] [] = extends_same n
all_extend n [] (w ∷ ws) = extends_same n
all_extend n (k ∷ ks) [] = extends_same n
all_extend n (k ∷ ks) (w ∷ ws) = extends_on n (noted n k w) (noted_all (noted n k w) ks ws) (noted_extends n k w) (all_extend (noted n k w) ks ws)

more_long : (xs ys more : List ℕ) → ys ≡ xs ++ more → MOST_WIDE < length xs → MOST_WIDE < length ys
more_long xs ys more e lt = omega (arith, ap length e, length-append xs more)

pub over_more : (n m : Names) (why : Stop) → Extends n m → IsOver n why → IsOver m why
over_more n m why e (inl h) = inl h
over_more n m why e (inr (inl h)) = inr (inl (h.0, more_long n.objects m.objects e.objects e.objects_are h.1))
over_more n m why e (inr (inr (inl h))) = inr (inr (inl (h.0, more_long n.texts m.texts e.texts e.texts_are h.1)))
over_more n m why e (inr (inr (inr h))) = inr (inr (inr (h.0, more_long n.rails m.rails e.rails e.rails_are h.1)))

-- there were too many at a word, and so after all
pub over_all : (start n : Names) (ks : List Kind) (ws : List ℕ) (i : ℕ) (k : Kind) (w : ℕ) (why : Stop)
    → noted_all start ks ws ≡ noted_all n (drop i ks) (drop i ws)
    → slice_get ks i ≡ Some k → slice_get ws i ≡ Some w → IsOver (noted n k w) why → IsOver (noted_all start ks ws) why
over_all start n ks ws i k w why so e f h =
    subst (λ (m : Names). IsOver m why) (sym (so ∙ noted_step n ks ws i k w e f))
    (over_more (noted n k w) _ why (all_extend (noted n k w) (drop (i + 1) ks) (drop (i + 1) ws)) h)
