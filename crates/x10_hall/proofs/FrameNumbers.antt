-- The numbers that the frames of a row have.
use Rattle.std.proofs.Common.{◌≡◌, ℕ, suc, ◌+◌, ◌≤◌, ◌==◌, List, [], ◌∷◌, ◌++◌, map, length, sym, ◌∙◌, ap, arith, add-zero, zero-add, append_assoc}
use Rattle.std.proofs.lemmas.Bool.{cond_both}
use Rattle.std.proofs.lemmas.Grind.{flat_map-append}
use Rattle.std.proofs.lemmas.List.{length-append, length-map, append-nil}
use Rattle.x10_hall.specs.declared.turn.Turn.{Turn}
use Rattle.x10_hall.specs.Halls.{PostedFrame, Numbered, frame_of, frames_of, posted_in, if_to, row_from, row_of}

-- a place has no more frames in its row than there are
pub if_to-length : (p n : ℕ) (f : PostedFrame) → length (if_to p n f) ≤ 1
if_to-length p n f = cond_both (f.to == p) ((record { number = n; bytes = f.bytes }) ∷ []) [] (λ (ns : List Numbered). length ns ≤ 1)
    (λ _. omega arith) (λ _. omega arith)

pub row_from-length : (p n : ℕ) (fs : List PostedFrame) → length (row_from p n fs) ≤ length fs
row_from-length p n [] = omega arith
row_from-length p n (f ∷ fs) = omega (arith, length-append (if_to p n f) (row_from p (n + 1) fs), if_to-length p n f, row_from-length p (n + 1) fs)

pub row_from-append : (p n : ℕ) (fs gs : List PostedFrame) → row_from p n (fs ++ gs) ≡ row_from p n fs ++ row_from p (n + length fs) gs
row_from-append p n [] gs = ap (λ m. row_from p m gs) (sym (add-zero n))
row_from-append p n (f ∷ fs) gs =
    let next : n + 1 + length fs ≡ n + suc (length fs) = omega arith in
    ap (λ ns. if_to p n f ++ ns) (row_from-append p (n + 1) fs gs ∙ ap (λ m. row_from p (n + 1) fs ++ row_from p m gs) next)
    ∙ sym (append_assoc (if_to p n f) (row_from p (n + 1) fs) (row_from p (n + suc (length fs)) gs))

-- the frames of a log with one turn more
pub frames_of-turn : (log : List Turn) (turn : Turn) → frames_of (log ++ turn ∷ []) ≡ frames_of log ++ map frame_of turn.frames.items
frames_of-turn log turn =
    flat_map-append (λ (t : Turn). map frame_of t.frames.items) log (turn ∷ [])
    ∙ ap (λ fs. frames_of log ++ fs) (append-nil (map frame_of turn.frames.items))

pub posted_in-turn : (log : List Turn) (turn : Turn) → posted_in (log ++ turn ∷ []) ≡ posted_in log + length turn.frames.items
posted_in-turn log turn =
    ap length (frames_of-turn log turn) ∙ length-append (frames_of log) (map frame_of turn.frames.items)
    ∙ ap (λ n. posted_in log + n) (length-map turn.frames.items frame_of)

pub row_of-turn : (p : ℕ) (log : List Turn) (turn : Turn) → row_of p (log ++ turn ∷ [])
    ≡ row_of p log ++ row_from p (posted_in log) (map frame_of turn.frames.items)
row_of-turn p log turn =
    ap (row_from p 0) (frames_of-turn log turn) ∙ row_from-append p 0 (frames_of log) (map frame_of turn.frames.items)
    ∙ ap (λ m. row_of p log ++ row_from p m (map frame_of turn.frames.items)) (zero-add (posted_in log))
