-- What holds of each part that has a name, and that it has one name alone.
use Rattle.std.proofs.Common.{◌≡◌, ℕ, zero, suc, ◌+◌, ◌-◌, ◌<◌, ◌≤◌, List, [], ◌∷◌, ◌++◌, length, get_or, Some, sym, ap, ◌∙◌, inl, inr, arith}
use Rattle.std.proofs.lemmas.Bool.{cases_lt}
use Rattle.std.proofs.lemmas.List.{get_or_append_left, get_or_push, length_push}
use Rattle.std.proofs.lemmas.Option.{slice_get-get_or, slice_get_within, get_or_from_slice_get}
use Rattle.x10_kinds.specs.declared.kind.Kind.{Kind}
use Rattle.x10_kinds.specs.declared.kind.Kind.TheVariants as kind
use Rattle.x10_model.specs.Maps.{AreDistinct}
use Rattle.x10_copy.specs.Names.{Names, no_names, number, with_new, noted, noted_all}
use Rattle.x10_copy.specs.Graphs.{EachPart, AreOnce}
use Rattle.x10_copy.proofs.Position.{there_already, not_there, number_at}

each_new : (P : ℕ → Type 0) (xs : List ℕ) (x : ℕ) → ((i : ℕ) → i < length xs → P (get_or xs i 0)) → P x → (i : ℕ) → i < length (with_new xs x)
    → P (get_or (with_new xs x) i 0)
each_new P xs x h p = elim (cases_lt (number xs x) (length xs)) [
  | inl lt ↦ rw (there_already xs x lt) h
  | inr le ↦ rw (not_there xs x le) (λ i lt. elim (cases_lt i (length xs)) [
    | inl old ↦ rw (get_or_append_left xs (x ∷ []) 0 i old) (h i old)
    | inr ge ↦ rw (get_or_push xs x 0 i (omega (arith, length_push xs x, lt, ge))) p
  ])
]

-- two places of the longer list
two_places : (xs : List ℕ) (x i j : ℕ) → AreDistinct xs → length xs ≤ number xs x → i < length xs + 1 → j < length xs + 1
    → get_or (xs ++ x ∷ []) i 0 ≡ get_or (xs ++ x ∷ []) j 0 → i ≡ j
two_places xs x i j d new li lj e = elim (cases_lt i (length xs)) [
  | inl a ↦ elim (cases_lt j (length xs)) [
    | inl b ↦ d i j (get_or xs i 0) (slice_get-get_or xs i 0 a)
        (slice_get-get_or xs j 0 b ∙ ap Some (sym (get_or_append_left xs (x ∷ []) 0 j b) ∙ sym e ∙ get_or_append_left xs (x ∷ []) 0 i a))
    | inr b ↦ absurd (omega (
      arith,
      number_at xs i x a (sym (get_or_append_left xs (x ∷ []) 0 i a) ∙ e ∙ get_or_push xs x 0 j (omega (arith, lj, b))),
      new,
    ))
  ]
  | inr a ↦ elim (cases_lt j (length xs)) [
    | inl b ↦ absurd (omega (
      arith,
      number_at xs j x b (sym (get_or_append_left xs (x ∷ []) 0 j b) ∙ sym e ∙ get_or_push xs x 0 i (omega (arith, li, a))),
      new,
    ))
    | inr b ↦ omega (arith, a, b, li, lj)
  ]
]

distinct_push : (xs : List ℕ) (x : ℕ) → AreDistinct xs → length xs ≤ number xs x → AreDistinct (xs ++ x ∷ [])
distinct_push xs x d new i j v f g =
    two_places xs x i j d new (omega (arith, slice_get_within (xs ++ x ∷ []) i v f, length_push xs x))
    (omega (arith, slice_get_within (xs ++ x ∷ []) j v g, length_push xs x))
    (get_or_from_slice_get (xs ++ x ∷ []) i v 0 f ∙ sym (get_or_from_slice_get (xs ++ x ∷ []) j v 0 g))

distinct_new : (xs : List ℕ) (x : ℕ) → AreDistinct xs → AreDistinct (with_new xs x)
distinct_new xs x d = elim (cases_lt (number xs x) (length xs)) [
  | inl lt ↦ rw (there_already xs x lt) d
  | inr le ↦ rw (not_there xs x le) (distinct_push xs x d le)
]

pub once_none : AreOnce no_names
once_none = record { texts = λ i j x e f. absurd cc; rails = λ i j x e f. absurd cc; objects = λ i j x e f. absurd cc }

once_noted : (n : Names) (k : Kind) (w : ℕ) → AreOnce n → AreOnce (noted n k w)
once_noted n kind.Int w h = h
once_noted n kind.Place w h = h
once_noted n kind.Text w h = record { texts = distinct_new n.texts w h.texts; rails = h.rails; objects = h.objects }
once_noted n kind.Rail w h = record { texts = h.texts; rails = distinct_new n.rails w h.rails; objects = h.objects }
once_noted n (kind.Obj c) w h = record { texts = h.texts; rails = h.rails; objects = distinct_new n.objects (w - 1) h.objects }
once_noted n (kind.Opt c) zero h = h
once_noted n (kind.Opt c) (suc w) h = record { texts = h.texts; rails = h.rails; objects = distinct_new n.objects w h.objects }
once_noted n (kind.GRef c) w h = h

pub once_all : (n : Names) (ks : List Kind) (ws : List ℕ) → AreOnce n → AreOnce (noted_all n ks ws)
once_all n [] [] h = h
once_all n [] (w ∷ ws) h = h
once_all n (k ∷ ks) [] h = h
once_all n (k ∷ ks) (w ∷ ws) h = once_all (noted n k w) ks ws (once_noted n k w h)

-- ---- what holds of each part

-- of the part that a word leads to
abbrev pub Leading : (T R O : ℕ → Type 0) → Kind → ℕ → Type 0
Leading T R O kind.Text w = T w
Leading T R O kind.Rail w = R w
Leading T R O (kind.Obj c) w = O (w - 1)
Leading T R O (kind.Opt c) zero = Unit {0}
Leading T R O (kind.Opt c) (suc w) = O w
Leading T R O _ w = Unit {0}

abbrev pub AllLeading : (T R O : ℕ → Type 0) → List Kind → List ℕ → Type 0
AllLeading T R O (k ∷ ks) (w ∷ ws) = Leading T R O k w × AllLeading T R O ks ws
AllLeading T R O _ _ = Unit {0}

pub each_none : (T R O : ℕ → Type 0) → EachPart T R O no_names
each_none T R O = record {
  texts = λ i lt. absurd (omega (arith, lt));
  rails = λ i lt. absurd (omega (arith, lt));
  objects = λ i lt. absurd
      (omega (arith, lt));
}

each_noted : (T R O : ℕ → Type 0) (n : Names) (k : Kind) (w : ℕ) → EachPart T R O n → Leading T R O k w → EachPart T R O (noted n k w)
each_noted T R O n kind.Int w h l = h
each_noted T R O n kind.Place w h l = h
each_noted T R O n kind.Text w h l = record { texts = each_new T n.texts w h.texts l; rails = h.rails; objects = h.objects }
each_noted T R O n kind.Rail w h l = record { texts = h.texts; rails = each_new R n.rails w h.rails l; objects = h.objects }
each_noted T R O n (kind.Obj c) w h l = record { texts = h.texts; rails = h.rails; objects = each_new O n.objects (w - 1) h.objects l }
each_noted T R O n (kind.Opt c) zero h l = h
each_noted T R O n (kind.Opt c) (suc w) h l = record { texts = h.texts; rails = h.rails; objects = each_new O n.objects w h.objects l }
each_noted T R O n (kind.GRef c) w h l = h

pub each_all : (T R O : ℕ → Type 0) (n : Names) (ks : List Kind) (ws : List ℕ) → EachPart T R O n → AllLeading T R O ks ws
    → EachPart T R O (noted_all n ks ws)
each_all T R O n [] [] h l = h
each_all T R O n [] (w ∷ ws) h l = h
each_all T R O n (k ∷ ks) [] h l = h
each_all T R O n (k ∷ ks) (w ∷ ws) h l = each_all T R O (noted n k w) ks ws (each_noted T R O n k w h l.0) l.1
