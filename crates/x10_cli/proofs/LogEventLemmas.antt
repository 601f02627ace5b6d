-- What is left of the events of a log.
use Rattle.std.proofs.Common.{◌≡◌, ℕ, zero, suc, ◌+◌, ◌<◌, ◌≤◌, List, [], ◌∷◌, ◌++◌, length, map, get_or, Option, Some, None, false, refl, sym, ap, ◌∙◌, add-one, arith}
use Rattle.std.specs.Prelude.{MatchOption, drop, is_some, slice_get}
use Rattle.std.proofs.lemmas.List.{drop_all, drop_more}
use Rattle.std.proofs.lemmas.Option.{slice_get_past}
use Rattle.x10_model.specs.declared.event.Event.{Event}
use Rattle.x10_model.specs.declared.event.Event.TheVariants.{Step, Deliver}
use Rattle.x10_hall.specs.declared.turn.Turn.{Turn}
use Rattle.x10_workers.specs.Plays.{events_in}
use Rattle.x10_cli.specs.Shown.{left_at, left_of_turn, left_of_turns}

-- where there is no event, nothing is left
pub nothing_of : {X : Type 0} (o : Option X) (A : Type 0) (B : X → Type 0) → MatchOption o A B → is_some o ≡ false → A
nothing_of None A B a e = a
nothing_of (Some x) A B b e = absurd cc

-- ---- a turn

pub left_frame : (t : Turn) (n m : ℕ) → n < length t.taken.items
    → left_of_turn t n m ≡ Deliver (get_or t.taken.items n 0) ∷ left_of_turn t (n + 1) m
left_frame t n m lt = ap (λ ns. map Deliver ns ++ map (Step t.place) (drop m t.keys)) (drop_more t.taken.items n 0 lt)

no_frames : (t : Turn) (n m : ℕ) → length t.taken.items ≤ n → left_of_turn t n m ≡ map (Step t.place) (drop m t.keys)
no_frames t n m over = ap (λ ns. map Deliver ns ++ map (Step t.place) (drop m t.keys)) (drop_all n t.taken.items over)

pub left_step : (t : Turn) (n m : ℕ) → length t.taken.items ≤ n → m < length t.keys
    → left_of_turn t n m ≡ Step t.place (get_or t.keys m 0) ∷ left_of_turn t n (m + 1)
left_step t n m over lt =
    no_frames t n m over ∙ ap (λ ks. map (Step t.place) ks) (drop_more t.keys m 0 lt)
    ∙ ap (λ es. Step t.place (get_or t.keys m 0) ∷ es) (sym (no_frames t n (m + 1) over))

pub left_nothing : (t : Turn) (n m : ℕ) → length t.taken.items ≤ n → length t.keys ≤ m → left_of_turn t n m ≡ []
left_nothing t n m over end = no_frames t n m over ∙ ap (λ ks. map (Step t.place) ks) (drop_all m t.keys end)

-- ---- the turns from one on

from_there : (turns : List Turn) (k : ℕ) → events_in (drop k turns) ≡ left_at (slice_get turns k) 0 0 ++ events_in (drop (suc k) turns)
from_there [] zero = refl
from_there [] (suc k) = refl
from_there (t ∷ ts) zero = refl
from_there (t ∷ ts) (suc k) = from_there ts k

pub left_from : (turns : List Turn) (k : ℕ) → events_in (drop k turns) ≡ left_of_turns turns k 0 0
left_from turns k =
    from_there turns k ∙ ap (λ n. left_at (slice_get turns k) 0 0 ++ events_in (drop n turns)) (sym (add-one k))

pub left_more : (turns : List Turn) (i n m n' m' : ℕ) (t : Turn) (event : Event) → slice_get turns i ≡ Some t
    → left_of_turn t n m ≡ event ∷ left_of_turn t n' m' → left_of_turns turns i n m ≡ event ∷ left_of_turns turns i n' m'
left_more turns i n m n' m' t event is more =
    ap (λ o. left_at o n m ++ events_in (drop (i + 1) turns)) is ∙ ap (λ es. es ++ events_in (drop (i + 1) turns)) more
    ∙ ap (λ o. event ∷ (left_at o n' m' ++ events_in (drop (i + 1) turns))) (sym is)

-- where nothing is left of a turn, the next one comes
pub left_next : (turns : List Turn) (i n m : ℕ) (t : Turn) → slice_get turns i ≡ Some t → left_of_turn t n m ≡ []
    → left_of_turns turns i n m ≡ left_of_turns turns (i + 1) 0 0
left_next turns i n m t is none =
    ap (λ o. left_at o n m ++ events_in (drop (i + 1) turns)) is ∙ ap (λ es. es ++ events_in (drop (i + 1) turns)) none ∙ left_from turns (i + 1)

pub left_end : (turns : List Turn) (i n m : ℕ) → length turns ≤ i → left_of_turns turns i n m ≡ []
left_end turns i n m over =
    ap (λ o. left_at o n m ++ events_in (drop (i + 1) turns)) (slice_get_past turns i over)
    ∙ ap (λ ts. events_in ts) (drop_all (i + 1) turns (omega (arith, over)))
