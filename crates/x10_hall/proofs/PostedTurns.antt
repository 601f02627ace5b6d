-- A turn is posted.
use Rattle.std.proofs.Common.{◌≡◌, ℕ, zero, suc, ◌+◌, ◌<◌, ◌^◌, List, [], ◌∷◌, ◌++◌, map, length, drop, refl, sym, ◌∙◌, ap, ap₂, arith}
use Rattle.std.proofs.lemmas.List.{length-append, drop-append-le}
use Rattle.x10_hall.specs.declared.state.HallState.{HallState}
use Rattle.x10_hall.specs.declared.turn.Posted.{Posted}
use Rattle.x10_hall.specs.declared.turn.Turn.{Turn}
use Rattle.x10_hall.specs.Halls.{Numbered, frame_of, row_of, row_from, with_turn}
use Rattle.x10_hall.specs.Rows.{RowState, row_at, IsRestOf, AreRowsOf}
use Rattle.x10_hall.proofs.FrameNumbers.{posted_in-turn, row_of-turn}
use Rattle.x10_hall.proofs.RowLogs.{hall_of}

-- rows from which as many frames were taken have the same cursors
same_cursors : (old new : List RowState) → length new ≡ length old → ((p : ℕ) → (row_at new p).taken ≡ (row_at old p).taken)
    → map (λ row. row.taken) new ≡ map (λ row. row.taken) old
same_cursors [] [] l t = refl
same_cursors [] (n ∷ ns) l t = absurd (omega arith)
same_cursors (o ∷ os) [] l t = absurd (omega arith)
same_cursors (o ∷ os) (n ∷ ns) l t = ap₂ (λ (x : ℕ) (xs : List ℕ). x ∷ xs) (t zero) (same_cursors os ns (omega arith) (λ p. t (suc p)))

-- the hall is the same
pub same_hall : (log : List Turn) (old new : List RowState) (state : HallState) → length new ≡ length old
    → ((p : ℕ) → (row_at new p).taken ≡ (row_at old p).taken) → hall_of log new state ≡ hall_of log old state
same_hall log old new state l t = ap₂ (λ (n : ℕ) (cs : List ℕ). record { places = n; log = log; cursors = cs; state = state }) l
    (same_cursors old new l t)

-- the frames of a turn are put into the rows
pub record IsDelivered (turn : Turn) (posted : ℕ) (old new : List RowState) : Type 0 where
  pub count : length new ≡ length old
  pub left : (p : ℕ) → p < length old → (row_at new p).left ≡ (row_at old p).left ++ row_from p posted (map frame_of turn.frames.items)
  pub taken : (p : ℕ) → (row_at new p).taken ≡ (row_at old p).taken

pub delivered : (turn : Turn) (posted : ℕ) (old mid new : List RowState) (copies : List Posted) → length mid ≡ length old →
    ((p : ℕ) → (row_at mid p).left ≡ (row_at old p).left) → ((p : ℕ) → (row_at mid p).taken ≡ (row_at old p).taken) → length new ≡ length mid →
    ((p : ℕ) → p < length mid → (row_at new p).left ≡ (row_at mid p).left ++ row_from p posted (map frame_of copies))
    → ((p : ℕ) → (row_at new p).taken ≡ (row_at mid p).taken) →
    map frame_of copies ≡ map frame_of turn.frames.items → IsDelivered turn posted old new
delivered turn posted old mid new copies c l t d f u e = record {
  count = d ∙ c;
  left = λ p h. f p (omega arith) ∙ ap₂ (λ (xs ys : List Numbered). xs ++ ys) (l p) (ap (row_from p posted) e);
  taken = λ p. u p ∙ t p;
}

rest_more : (row more : List Numbered) (old new : RowState) → IsRestOf row old → new.left ≡ old.left ++ more → new.taken ≡ old.taken
    → IsRestOf (row ++ more) new
rest_more row more old new e l t = record {
  within = omega (arith, e.within, length-append row more);
  rest = l ∙ ap (λ xs. xs ++ more) e.rest ∙ sym (drop-append-le old.taken row more e.within) ∙ ap (λ n. drop n (row ++ more)) (sym t);
}

-- they are then the rows of the log with the turn
pub rows_posted : (log : List Turn) (posted : ℕ) (old new : List RowState) (turn : Turn) (count : ℕ) → AreRowsOf log posted old
    → IsDelivered turn posted old new →
    count ≡ length turn.frames.items → posted + count < 2 ^ 64 → AreRowsOf (log ++ turn ∷ []) (posted + count) new
rows_posted log posted old new turn count a d e f = record {
  counted = omega (arith, posted_in-turn log turn, a.counted);
  few = f;
  each = λ p h. rw (row_of-turn p log turn, ← a.counted) (rest_more (row_of p log) (row_from p posted (map frame_of turn.frames.items)) (row_at old p)
      (row_at new p)
      (a.each p (omega (arith, d.count))) (d.left p (omega (arith, d.count))) (d.taken p));
}

pub hall_posted : (log : List Turn) (posted : ℕ) (old new : List RowState) (state : HallState) (turn : Turn) → IsDelivered turn posted old new →
    hall_of (log ++ turn ∷ []) new state ≡ with_turn (hall_of log old state) turn
hall_posted log posted old new state turn d = same_hall (log ++ turn ∷ []) old new state d.count d.taken
