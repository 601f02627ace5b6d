-- The invariant of termination detection holds at the beginning and is kept by each event.
use Rattle.std.proofs.Common.{◌≡◌, ℕ, List, [], ◌∷◌, inl, inr, refl, sym, ◌∙◌}
use Rattle.x10_model.specs.Totals.{Entry, zeros, is_last}
use Rattle.x10_finish.specs.Detection.{Counting, Event, PutsOut, Begins, Ends, Arrives, TakesIn, start, after, IsAble, AreAble, after_all, IsEarlierOf, in_flight, is_kept, is_nothing, IsCounted}
use Rattle.x10_finish.proofs.Entries.{below_same}
use Rattle.x10_finish.proofs.WorkCounted.{puts_out, begins}
use Rattle.x10_finish.proofs.ArrivalCounted.{arrives, takes_in}
use Rattle.x10_finish.proofs.EndCounted.{ends_by}

-- ---- all events

first_told : (p : ℕ) (e : Entry) → IsEarlierOf start.told start.kept p e → e ≡ zeros
first_told p e (in_flight n t h at) = absurd cc
first_told p e is_kept = refl
first_told p e is_nothing = refl

pub counted_at_start : (places home : ℕ) → IsCounted places home start
counted_at_start places home = record {
  conserved = λ p q lp lq. refl;
  earlier = λ p e h. below_same e zeros (first_told p e h);
  in_line = λ p e f h k. inl (below_same e f (first_told p e h ∙ sym (first_told p f k)));
  cuts = λ cut is. inl (λ p e h. record { live = refl; same = first_told p e (is.earlier p e h) });
  last = λ p. inr (inl refl);
}

pub counted_after : (places home : ℕ) (s : Counting) (e : Event) → IsCounted places home s → IsAble places home s e
    → IsCounted places home (after home s e)
counted_after places home s (PutsOut p q) i (lp, lq, work) = puts_out places home s p q i work
counted_after places home s (Begins p) i work = begins places home s p i work
counted_after places home s (Ends p n) i (lives, unused) = ends_by places home s p n i lives unused (is_last home p (s.totals p)) refl
counted_after places home s (Arrives p q) i (lp, lq, flies) = arrives places home s p q i lp lq flies
counted_after places home s (TakesIn n) i (t, there) = takes_in places home s n t there i

pub counted_after_all : (places home : ℕ) (s : Counting) (es : List Event) → IsCounted places home s → AreAble places home s es
    → IsCounted places home (after_all home s es)
counted_after_all places home s [] i able = i
counted_after_all places home s (e ∷ es) i (able, rest) = counted_after_all places home (after home s e) es
    (counted_after places home s e i able) rest
