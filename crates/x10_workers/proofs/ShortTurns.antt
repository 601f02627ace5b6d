-- Turns of a log that is found in the trails of its places are as short as those of the trails.
use Rattle.std.proofs.Common.{◌≡◌, ℕ, zero, suc, ◌≤◌, List, [], ◌∷◌, Some, length, sym, ap, subst, ◌∙◌, inl, inr}
use Rattle.std.specs.Prelude.{slice_get}
use Rattle.std.proofs.lemmas.List.{length-map}
use Rattle.std.proofs.lemmas.Option.{same_Some, slice_get_within}
use Rattle.x10_model.proofs.Lists.{last_or_before}
use Rattle.x10_place.specs.StandsFor.{PlaceState}
use Rattle.x10_hall.specs.declared.limits.TheConstants.{MOST_TAKEN, MOST_STEPS}
use Rattle.x10_hall.specs.declared.turn.Turn.{Turn}
use Rattle.x10_workers.specs.declared.trail.OwnTurn.{OwnTurn}
use Rattle.x10_workers.specs.declared.trail.Trail.{Trail}
use Rattle.x10_workers.specs.Trails.{IsShort, IsTrail, TrailLeads}
use Rattle.x10_workers.specs.Weaves.{Woven, IsTurnOf, IsWithin, AreWithin, Weaves, WeavesAll, weaves_none, weaves_more}

turn_short : (p q : PlaceState) (ts : List OwnTurn) (i : ℕ) (own : OwnTurn) → TrailLeads p ts q → slice_get ts i ≡ Some own
    → IsShort (length own.taken.items) (length own.keys)
turn_short p q [] i own led is = absurd cc
turn_short p q (t ∷ ts) zero own led is = subst (λ (o : OwnTurn). IsShort (length o.taken.items) (length o.keys)) (same_Some t own is) led.1.short
turn_short p q (t ∷ ts) (suc i) own led is = turn_short led.0 q ts i own led.2 is

told_short : (own : OwnTurn) (t : Turn) → IsTurnOf own t → IsShort (length own.taken.items) (length own.keys)
    → IsShort (length t.taken.items) (length t.keys)
told_short own t same short = record {
  few_taken = subst (λ n. n ≤ MOST_TAKEN) (sym (length-map own.taken.items (λ f. f.number)) ∙ ap length same.taken) short.few_taken;
  few_keys = subst (λ ks. length ks ≤ MOST_STEPS) same.keys short.few_keys;
}

weaves_within : (trails : List Trail) (x : Woven) (t : Turn) (y : Woven)
    → ((id : ℕ) (u : Trail) → slice_get trails id ≡ Some u → IsTrail u) → Weaves trails x t y → IsWithin (length trails) t
weaves_within trails x t y are w =
    let trail = are t.place w.next.trail w.next.trail_is in record {
      place = slice_get_within trails t.place w.next.trail w.next.trail_is;
      short = told_short w.own t w.same (turn_short trail.first trail.ends.last w.next.trail.turns w.cursor w.own trail.ends.leads w.next.own_is);
    }

pub woven_within : (trails : List Trail) (x : Woven) (log : List Turn) (y : Woven)
    → ((id : ℕ) (u : Trail) → slice_get trails id ≡ Some u → IsTrail u) → WeavesAll trails x log y → AreWithin (length trails) log
woven_within trails x _ y are weaves_none = λ at t is. absurd cc
woven_within trails x _ y are (weaves_more turns u v z before one) = λ at t is. elim (last_or_before turns u t at is) [
  | inl early ↦ woven_within trails x turns v are before at t early
  | inr last ↦ subst (λ w. IsWithin (length trails) w) last.1 (weaves_within trails v u y are one)
]
