-- Turns are posted up to one that is refused.
use Rattle.std.proofs.Common.{◌≡◌, ℕ, zero, suc, ◌+◌, ◌-◌, ◌<◌, ◌≤◌, List, [], ◌∷◌, ◌++◌, Some, None, length, replicate, refl, sym, ap, subst, ◌∙◌, arith}
use Rattle.std.specs.Prelude.{◌⊎◌, slice_get}
use Rattle.std.proofs.lemmas.List.{append-nil, append_assoc, length-append, length-replicate, replicate-append-replicate}
use Rattle.x10_kinds.specs.declared.stop.Stop.TheVariants as stop
use Rattle.x10_hall.specs.declared.port.PostFault.{PostFault}
use Rattle.x10_hall.specs.declared.port.PostFault.TheVariants as fault
use Rattle.x10_hall.specs.declared.turn.Turn.{Turn}
use Rattle.x10_hall.specs.Halls.{HallValue, with_turn}
use Rattle.x10_hall.specs.Repetitions.{IsLast}
use Rattle.x10_hall.specs.Mails.{refusal, with_turns, PostsUpTo}

pub posts_up_to : (most same : ℕ) (first old new : HallValue) (turns posted : List Turn) (turn : Turn) (behind left : List Turn) (why : PostFault)
    → same ≡ most → old ≡ with_turns first posted → turns ≡ posted ++ left → left ≡ turn ∷ behind → new ≡ old
    → (refusal same old turn ≡ Some why) ⊎ ((refusal same old turn ≡ None) × (why ≡ fault.Stop stop.Memory)) → PostsUpTo most first turns new why
posts_up_to most same first old new turns posted turn behind left why m h t l n refused = record {
  posted = posted;
  turn = turn;
  behind = behind;
  turns_are = t ∙ ap (λ ts. posted ++ ts) l;
  after_is = n ∙ h;
  refused = subst (λ k. (refusal k new turn ≡ Some why) ⊎ ((refusal k new turn ≡ None) × (why ≡ fault.Stop stop.Memory))) m
      (subst (λ x. (refusal same x turn ≡ Some why) ⊎ ((refusal same x turn ≡ None) × (why ≡ fault.Stop stop.Memory))) (sym n) refused);
}

-- ---- a turn, so often

many_at : (t : Turn) (count i : ℕ) → i < count → slice_get (replicate count t) i ≡ Some t
many_at t zero i lt = absurd (omega (arith, lt))
many_at t (suc count) zero lt = refl
many_at t (suc count) (suc i) lt = many_at t count i (omega (arith, lt))

behind_at : (log ts : List Turn) (i n : ℕ) → n ≡ length log + i → slice_get (log ++ ts) n ≡ slice_get ts i
behind_at [] ts i n e = ap (λ k. slice_get ts k) (omega (arith, e))
behind_at (u ∷ log) ts i zero e = absurd (omega (arith, e))
behind_at (u ∷ log) ts i (suc n) e = behind_at log ts i n (omega (arith, e))

-- it is then the last one
pub last_many : (log now : List Turn) (t : Turn) (count : ℕ) → now ≡ log ++ replicate count t → 0 < count → IsLast now t
last_many log now t count e some = subst (λ ts. IsLast ts t) (sym e)
    (let long = length-append log (replicate count t) in
    let many = length-replicate count t in
    behind_at log (replicate count t) (count - 1) (length (log ++ replicate count t) - 1) (omega (arith, long, many, some))
    ∙ many_at t count (count - 1) (omega (arith, some)))

-- once more
pub one_more : (first mid new : HallValue) (t : Turn) (count : ℕ) → mid ≡ with_turns first (replicate count t) → new ≡ with_turn mid t
    → new ≡ with_turns first (replicate (count + 1) t)
one_more first mid new t count m n = n ∙ ap (λ h. with_turn h t) m
    ∙ ap (λ ts. record { places = first.places; log = ts; cursors = first.cursors; state = first.state })
    (append_assoc first.log (replicate count t) (t ∷ []) ∙ ap (λ ts. first.log ++ ts) (replicate-append-replicate count 1 t))

-- what is left of them
rest_many : (t : Turn) (count times : ℕ) → count < times → replicate times t ≡ replicate count t ++ t ∷ replicate (times - count - 1) t
rest_many t zero zero lt = absurd (omega (arith, lt))
rest_many t zero (suc times) lt = ap (λ n. t ∷ replicate n t) (omega arith)
rest_many t (suc count) zero lt = absurd (omega (arith, lt))
rest_many t (suc count) (suc times) lt = ap (λ ts. t ∷ ts) (rest_many t count times (omega (arith, lt))
    ∙ ap (λ n. replicate count t ++ t ∷ replicate n t) (omega arith))

-- one of them is refused
pub stint_refused : (most same : ℕ) (first old new : HallValue) (t : Turn) (count times : ℕ) (why : PostFault) → same ≡ most
    → old ≡ with_turns first (replicate count t) → count < times → new ≡ old
    → (refusal same old t ≡ Some why) ⊎ ((refusal same old t ≡ None) × (why ≡ fault.Stop stop.Memory))
    → PostsUpTo most first (replicate times t) new why
stint_refused most same first old new t count times why m h lt n refused = posts_up_to most same first old new (replicate times t) (replicate count t)
    t (replicate (times - count - 1) t) (t ∷ replicate (times - count - 1) t) why m h (rest_many t count times lt) refl n refused

-- ---- several turns, each so often

pub stints_more : (first mid new : HallValue) (posted more : List Turn) → mid ≡ with_turns first posted → new ≡ with_turns mid more
    → new ≡ with_turns first (posted ++ more)
stints_more first mid new posted more m n = n ∙ ap (λ h. with_turns h more) m
    ∙ ap (λ ts. record { places = first.places; log = ts; cursors = first.cursors; state = first.state }) (append_assoc first.log posted more)

pub stints_refused : (most same : ℕ) (first mid new : HallValue) (all posted more rest : List Turn) (why : PostFault) → same ≡ most
    → mid ≡ with_turns first posted → all ≡ posted ++ (more ++ rest) → PostsUpTo same mid more new why → PostsUpTo most first all new why
stints_refused most same first mid new all posted more rest why m h e up = record {
  posted = posted ++ up.posted;
  turn = up.turn;
  behind = up.behind ++ rest;
  turns_are = e ∙ ap (λ ts. posted ++ (ts ++ rest)) up.turns_are
      ∙ ap (λ ts. posted ++ ts) (append_assoc up.posted (up.turn ∷ up.behind) rest)
      ∙ sym (append_assoc posted up.posted (up.turn ∷ (up.behind ++ rest)));
  after_is = stints_more first mid new posted up.posted h up.after_is;
  refused = subst (λ k. (refusal k new up.turn ≡ Some why) ⊎ ((refusal k new up.turn ≡ None) × (why ≡ fault.Stop stop.Memory))) m up.refused;
}

-- none is posted yet
pub none_yet : (h : HallValue) (t : Turn) → h ≡ with_turns h (replicate 0 t)
none_yet h t = ap (λ ts. record { places = h.places; log = ts; cursors = h.cursors; state = h.state }) (sym (append-nil h.log))

pub some_there : (log now : List Turn) (t : Turn) (count : ℕ) → now ≡ log ++ replicate count t → 1 ≤ count → 0 < length now
some_there log now t count e some = omega (arith, ap length e, length-append log (replicate count t), length-replicate count t, some)
