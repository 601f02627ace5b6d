-- How the rows of a hall stand for its log.
use Rattle.std.proofs.Common.{◌≡◌, ℕ, zero, suc, ◌+◌, ◌<◌, ◌^◌, List, [], ◌∷◌, Option, Some, None, map, length, drop, get_or, set, replicate, refl, sym, ◌∙◌, ap, subst, arith, inl, inr, All}
use Rattle.std.specs.Prelude.{slice_get, IfSome, IfNone, MatchOption}
use Rattle.std.proofs.lemmas.Bool.{cases_eq}
use Rattle.std.proofs.lemmas.List.{length-drop, length-map, length-set, drop-drop, set-get_or, get_or-map, get_or-set_same, get_or-set_other, map-set}
use Rattle.std.proofs.lemmas.List.Elements.{All-head, All-tail}
use Rattle.std.proofs.lemmas.Option.{slice_get_past, slice_get-get_or}
use Rattle.x10_hall.specs.declared.state.HallState.{HallState}
use Rattle.x10_hall.specs.declared.state.HallState.TheVariants.{Open}
use Rattle.x10_hall.specs.declared.turn.Taken.{Taken}
use Rattle.x10_hall.specs.declared.turn.Turn.{Turn}
use Rattle.x10_hall.specs.Halls.{Numbered, HallValue, told, frames_of, row_of, at_cursor, next_frame, empty_hall, moved_on}
use Rattle.x10_hall.specs.Rows.{RowState, empty_row, row_at, IsRestOf, AreRowsOf}
use Rattle.x10_hall.proofs.FrameNumbers.{row_from-length}

-- what callers see of a log, rows and a state
abbrev pub hall_of : List Turn → List RowState → HallState → HallValue
hall_of log rows state = record { places = length rows; log = log; cursors = map (λ row. row.taken) rows; state = state }

-- in rows that nothing was posted to, each cursor is 0
pub none_taken : (rows : List RowState) → All (λ row. row ≡ empty_row) rows → map (λ row. row.taken) rows ≡ replicate (length rows) 0
none_taken [] h = refl
none_taken (r ∷ rs) h =
    let here = ap (λ (row : RowState). row.taken) (All-head (λ (row : RowState). row ≡ empty_row) r rs h) in
    let rest = none_taken rs (All-tail (λ (row : RowState). row ≡ empty_row) r rs h) in
    cc

pub fresh : (log : List Turn) (rows : List RowState) (n : ℕ) → log ≡ [] → length rows ≡ n → All (λ row. row ≡ empty_row) rows
    → hall_of log rows Open ≡ empty_hall n
fresh log rows n e l h =
    let taken = none_taken rows h in
    cc

-- the count of the frames that were taken from a row is a number of 64 bits, also with one more
pub counts : (log : List Turn) (posted : ℕ) (rows : List RowState) (p : ℕ) → AreRowsOf log posted rows → p < length rows
    → 0 < length (row_at rows p).left → (row_at rows p).taken + 1 < 2 ^ 64
counts log posted rows p a h l =
    let e = a.each p h in
    let few = row_from-length p 0 (frames_of log) in
    let rest = ap length e.rest ∙ length-drop (row_at rows p).taken (row_of p log) in
    omega (arith, e.within, few, rest, a.counted, a.few)

-- one row is replaced
pub rows_set : (log : List Turn) (posted : ℕ) (rows : List RowState) (p : ℕ) (new : RowState) → AreRowsOf log posted rows → p < length rows
    → IsRestOf (row_of p log) new → AreRowsOf log posted (set rows p new)
rows_set log posted rows p new a h e = record {
  counted = a.counted;
  few = a.few;
  each = λ q l. elim (cases_eq q p) [
    | inl s ↦ subst (λ m. IsRestOf (row_of m log) (get_or (set rows p new) m empty_row)) (sym s)
        (subst (IsRestOf (row_of p log)) (sym (get_or-set_same rows p new empty_row h)) e)
    | inr n ↦ subst (IsRestOf (row_of q log)) (sym (get_or-set_other rows p q new empty_row n)) (a.each q (omega (arith, length-set rows p new)))
  ];
}

-- the first frame that is left is the one at the cursor
first_left : (row : List Numbered) (taken : ℕ) (x : Numbered) (rest : List Numbered) → drop taken row ≡ x ∷ rest → slice_get row taken ≡ Some x
first_left [] zero x rest e = cc
first_left [] (suc taken) x rest e = cc
first_left (y ∷ row) zero x rest e = cc
first_left (y ∷ row) (suc taken) x rest e = first_left row taken x rest e

-- a row whose first frame is taken
rest_after : (row : List Numbered) (old new : RowState) (x : Numbered) → IsRestOf row old → old.left ≡ x ∷ new.left → new.taken ≡ old.taken + 1
    → IsRestOf row new
rest_after row old new x e l t = record {
  within = omega (arith, e.within, ap length l, ap length e.rest, length-drop old.taken row);
  rest = sym (ap (λ k. drop k row) t ∙ sym (drop-drop 1 old.taken row) ∙ ap (drop 1) (sym e.rest ∙ l));
}

-- a row that may have lost its first frame
pub rest_taken : (row : List Numbered) (old new : RowState) (frame : Option Taken) → IsRestOf row old → IfNone frame ((old.left ≡ []) × (new ≡ old)) →
    IfSome frame (λ x. (old.left ≡ told x ∷ new.left) × (new.taken ≡ old.taken + 1)) → IsRestOf row new
rest_taken row old new None e n s = subst (IsRestOf row) (sym n.1) e
rest_taken row old new (Some x) e n s = rest_after row old new (told x) e s.0 s.1

module _ (log : List Turn) (rows : List RowState) (state : HallState) (p : ℕ) (h : p < length rows) where
  cursor_is : slice_get (map (λ row. row.taken) rows) p ≡ Some (row_at rows p).taken
  cursor_is =
      slice_get-get_or (map (λ (row : RowState). row.taken) rows) p 0 (omega (arith, length-map rows (λ (row : RowState). row.taken)))
      ∙ ap Some (get_or-map (λ (row : RowState). row.taken) rows p empty_row 0 h)

  -- the next frame of a place stands at the cursor of its row
  next_is : next_frame (hall_of log rows state) p ≡ slice_get (row_of p log) (row_at rows p).taken
  next_is = ap (at_cursor (row_of p log)) cursor_is

  -- what taking a frame tells, and what it changes
  pub take_tells : (new : RowState) (frame : Option Taken) → IsRestOf (row_of p log) (row_at rows p)
      → IfNone frame (((row_at rows p).left ≡ []) × (new ≡ row_at rows p)) →
      IfSome frame (λ x. ((row_at rows p).left ≡ told x ∷ new.left) × (new.taken ≡ (row_at rows p).taken + 1)) →
      MatchOption frame ((next_frame (hall_of log rows state) p ≡ None) × (hall_of log (set rows p new) state ≡ hall_of log rows state))
      (λ x. (next_frame (hall_of log rows state) p ≡ Some (told x)) × (hall_of log (set rows p new) state ≡ moved_on (hall_of log rows state) p))
  take_tells new None e n s = (
    next_is ∙ slice_get_past (row_of p log) (row_at rows p).taken
        (omega (arith, ap length (sym e.rest ∙ n.0), length-drop (row_at rows p).taken (row_of p log))),
    ap (λ (rs : List RowState). hall_of log rs state) (ap (set rows p) n.1 ∙ set-get_or rows p empty_row),
  )
  take_tells new (Some x) e n s = (
    next_is ∙ first_left (row_of p log) (row_at rows p).taken (told x) new.left (sym e.rest ∙ s.0),
    let size = length-set rows p new in
        let cursors = map-set (λ (row : RowState). row.taken) rows p new in
        let old = get_or-map (λ (row : RowState). row.taken) rows p empty_row 0 h in
        let taken = s.1 in
        cc,
  )
