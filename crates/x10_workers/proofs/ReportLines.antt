-- The lines of a log, place by place.
use Rattle.std.proofs.Common.{◌≡◌, ◌≢◌, ℕ, ◌+◌, ◌<◌, ◌≤◌, nat_eq, zero, suc, Bool, true, false, List, [], ◌∷◌, ◌++◌, length, map, Some, Vec, Global, refl, sym, ap, subst, ◌∙◌, arith}
use Rattle.std.specs.Prelude.{Result, Ok, Err, IfOk, slice_get, slice_set, take, replicate, if◌then◌else◌}
use Rattle.std.proofs.lemmas.Bool.Decides.{nat_tests}
use Rattle.std.proofs.lemmas.List.{append-nil, length-set}
use Rattle.std.proofs.lemmas.List.Concat.{flat_map-append}
use Rattle.std.proofs.lemmas.Option.{same_Some}
use Rattle.x10_model.specs.Places.{Line}
use Rattle.x10_model.proofs.Lists.{set_here, set_off}
use Rattle.x10_place.specs.declared.line.Line as place_line
use Rattle.x10_place.specs.StandsFor.{line_as}
use Rattle.x10_hall.specs.declared.turn.Turn.{Turn}
use Rattle.x10_world.specs.Endings.{lines_in}
use Rattle.x10_workers.specs.Reports.{lines_in_turn, lines_of, AreLinesBy, AddsTurn}

abbrev none : List Line
none = []

-- nothing was printed where there is no turn
pub lines_none : (count : ℕ) (outputs : List (List Line)) → outputs ≡ replicate count [] → AreLinesBy count [] outputs
lines_none count outputs are = record {
  count_is = ap length are ∙ replicate_count count;
  each = λ place below. ap (λ ls. slice_get ls place) are ∙ replicate_at count place below;
}
  where
    replicate_count : (n : ℕ) → length (replicate n none) ≡ n
    replicate_count zero = refl
    replicate_count (suc n) = ap suc (replicate_count n)

    replicate_at : (n i : ℕ) → i < n → slice_get (replicate n none) i ≡ Some []
    replicate_at zero i below = absurd (omega (arith, below))
    replicate_at (suc n) zero below = refl
    replicate_at (suc n) (suc i) below = replicate_at n i (omega (arith, below))

-- the lines of one turn more stand behind those before
pub lines_more : (count : ℕ) (log : List Turn) (n : ℕ) (t : Turn) (old new : List (List Line)) → take (n + 1) log ≡ take n log ++ t ∷ []
    → AreLinesBy count (take n log) old → AddsTurn t old new → AreLinesBy count (take (n + 1) log) new
lines_more count log n t old new more before adds = record {
  count_is = adds.count ∙ before.count_is;
  each = λ place below. adds.each place (lines_of place (take n log)) (before.each place below)
      ∙ ap Some (ap (λ ls. lines_of place (take n log) ++ ls) (sym (append-nil (lines_in_turn place t)))
      ∙ sym (flat_map-append (lines_in_turn place) (take n log) (t ∷ [])) ∙ ap (lines_of place) (sym more));
}

-- a turn's lines were pushed to the list of its place
pub adds_here : (lists : List (Vec place_line.Line Global)) (row changed : Vec place_line.Line Global) (t : Turn) → slice_get lists t.place ≡ Some row
    → map line_as changed.items ≡ map line_as row.items ++ map line_as t.lines.items
    → AddsTurn t (lines_in lists) (lines_in (slice_set lists t.place changed))
adds_here lists row changed t there pushed = record {
  count = ap length (lines_set lists t.place changed) ∙ length-set (lines_in lists) t.place (map line_as changed.items);
  each = λ place lines is. go place lines is (nat_eq t.place place) refl;
}
  where
    lines_set : (xs : List (Vec place_line.Line Global)) (i : ℕ) (x : Vec place_line.Line Global)
        → lines_in (slice_set xs i x) ≡ slice_set (lines_in xs) i (map line_as x.items)
    lines_set [] i x = refl
    lines_set (y ∷ xs) zero x = refl
    lines_set (y ∷ xs) (suc i) x = ap (λ ls. map line_as y.items ∷ ls) (lines_set xs i x)

    at_lines : (xs : List (Vec place_line.Line Global)) (i : ℕ) (x : Vec place_line.Line Global) → slice_get xs i ≡ Some x
        → slice_get (lines_in xs) i ≡ Some (map line_as x.items)
    at_lines [] i x e = absurd cc
    at_lines (y ∷ xs) zero x e = ap (λ (z : Vec place_line.Line Global). Some (map line_as z.items)) (same_Some y x e)
    at_lines (y ∷ xs) (suc i) x e = at_lines xs i x e

    below : {A : Type 0} (xs : List A) (i : ℕ) (x : A) → slice_get xs i ≡ Some x → i < length xs
    below [] i x e = absurd cc
    below (y ∷ xs) zero x e = omega arith
    below (y ∷ xs) (suc i) x e = let h = below xs i x e in omega (arith, h)

    go : (place : ℕ) (lines : List Line) → slice_get (lines_in lists) place ≡ Some lines → (b : Bool) → nat_eq t.place place ≡ b
        → slice_get (lines_in (slice_set lists t.place changed)) place ≡ Some (lines ++ (if b then map line_as t.lines.items else []))
    go place lines is true e =
        let same : t.place ≡ place = grind (arith, nat_tests) in
        let was : lines ≡ map line_as row.items = same_Some lines (map line_as row.items)
        (sym is ∙ ap (λ k. slice_get (lines_in lists) k) (sym same) ∙ at_lines lists t.place row there) in
        ap (λ ls. slice_get ls place) (lines_set lists t.place changed)
        ∙ ap (λ k. slice_get (slice_set (lines_in lists) t.place (map line_as changed.items)) k) (sym same)
        ∙ set_here (lines_in lists) t.place (map line_as changed.items)
        (below (lines_in lists) t.place (map line_as row.items) (at_lines lists t.place row there))
        ∙ ap Some (pushed ∙ ap (λ ls. ls ++ map line_as t.lines.items) (sym was))
    go place lines is false e =
        let off : place ≢ t.place = grind (arith, nat_tests) in
        ap (λ ls. slice_get ls place) (lines_set lists t.place changed) ∙ set_off (lines_in lists) t.place place (map line_as changed.items) off ∙ is
        ∙ ap Some (sym (append-nil lines))

-- a turn of no place of these adds nothing
pub adds_nowhere : (lists : List (Vec place_line.Line Global)) (t : Turn) → length lists ≤ t.place → AddsTurn t (lines_in lists) (lines_in lists)
adds_nowhere lists t past = record { count = refl; each = λ place lines is. go place lines is (nat_eq t.place place) refl }
  where
    below : {A : Type 0} (xs : List A) (i : ℕ) (x : A) → slice_get xs i ≡ Some x → i < length xs
    below [] i x e = absurd cc
    below (y ∷ xs) zero x e = omega arith
    below (y ∷ xs) (suc i) x e = let h = below xs i x e in omega (arith, h)

    count : (xs : List (Vec place_line.Line Global)) → length (lines_in xs) ≡ length xs
    count [] = refl
    count (x ∷ xs) = ap suc (count xs)

    go : (place : ℕ) (lines : List Line) → slice_get (lines_in lists) place ≡ Some lines → (b : Bool) → nat_eq t.place place ≡ b
        → slice_get (lines_in lists) place ≡ Some (lines ++ (if b then map line_as t.lines.items else []))
    go place lines is true e =
        let same : t.place ≡ place = grind (arith, nat_tests) in
        let h = below (lines_in lists) place lines is in
        absurd (omega (arith, past, same, h, count lists))
    go place lines is false e = is ∙ ap Some (sym (append-nil lines))

-- the same where the list's number is known to be the turn's place
pub adds_at : (lists : List (Vec place_line.Line Global)) (i : ℕ) (row changed : Vec place_line.Line Global) (t : Turn) → i ≡ t.place
    → slice_get lists i ≡ Some row → map line_as changed.items ≡ map line_as row.items ++ map line_as t.lines.items
    → AddsTurn t (lines_in lists) (lines_in (slice_set lists i changed))
adds_at lists i row changed t is there pushed = subst (λ k. AddsTurn t (lines_in lists) (lines_in (slice_set lists k changed))) (sym is)
    (adds_here lists row changed t (ap (λ k. slice_get lists k) (sym is) ∙ there) pushed)

-- what follows from an answer that is no error
pub ok_map : {T E : Type 0} (r : Result T E) (P Q : Type 0) → (P → Q) → IfOk r (λ x. P) → IfOk r (λ x. Q)
ok_map (Ok x) P Q f p = f p
ok_map (Err e) P Q f p = p
