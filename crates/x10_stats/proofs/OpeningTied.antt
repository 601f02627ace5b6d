-- At the opening the tally and the machine's book are tied.
use Rattle.std.proofs.Common.{◌≡◌, ℕ, zero, suc, ◌<◌, Bool, [], length, replicate, None, Some, refl, sym, ap, subst, ◌∙◌, inl, inr, arith, if◌then◌else◌, ◌==◌}
use Rattle.std.specs.Prelude.{nat_lt, slice_get}
use Rattle.std.proofs.lemmas.Bool.{lt-ltb}
use Rattle.std.proofs.lemmas.List.{length-replicate}
use Rattle.std.proofs.lemmas.Option.{same_Some}
use Rattle.x10_model.specs.Places as machine
use Rattle.x10_model.specs.Places.{Stay, root}
use Rattle.x10_model.specs.Moves.{new_stay}
use Rattle.x10_model.specs.Worlds.{World, Book, empty_place, first_place, opening}
use Rattle.x10_finish.specs.Chains.{Name}
use Rattle.x10_finish.specs.Nesting.{opened_in, stays_in, stays_of}
use Rattle.x10_finish.proofs.HowMany.{none_many}
use Rattle.x10_verify.specs.Certified.{Certified}
use Rattle.x10_place.specs.Stays.{StayState}
use Rattle.x10_world.specs.Opening.{IsOpenedWorld}
use Rattle.x10_world.specs.StandsForWorld.{WorldState, setting_of_world}
use Rattle.x10_stats.specs.Entries.{Entry, IsSpawnFlying, IsToldOf, first_entries}
use Rattle.x10_stats.specs.Tallies.{TallyState, as_pair, begun_by, begun_from, empty_tally, next_one, none_begun, stay_at, tally_at_first, with_rooms}
use Rattle.x10_stats.specs.declared.tally.Begun.{Begun}
use Rattle.x10_stats.proofs.EventsTied.{AreTied}
use Rattle.x10_stats.proofs.Slots.{slot_has_room}
use Rattle.x10_stats.proofs.StaysSeen.{IsSameStay, seen_as}
use Rattle.x10_stats.proofs.Tied.{HasAt, IsTied, grows_set, next_after, tied_rooms}
use Rattle.x10_stats.proofs.TiedEntries.{tied_begun}
use Rattle.x10_stats.proofs.TiedMoves.{begun_more, once_more}

each_same : {A : Type 0} (n i : ℕ) (x y : A) → slice_get (replicate n x) i ≡ Some y → x ≡ y
each_same zero i x y e = absurd cc
each_same (suc n) zero x y e = same_Some x y e
each_same (suc n) (suc i) x y e = each_same n i x y e

-- a place 0 that has opened something is there
some_place : (n : ℕ) (p : machine.Place) → 0 < opened_in (if nat_lt 0 n then Some p else None) → 0 < n
some_place zero p lt = absurd (omega (arith, lt))
some_place (suc n) p lt = omega arith

module _ (c : Certified) (count : ℕ) (kept : Bool) (x : WorldState) (o : IsOpenedWorld c count x) where
  abbrev first : World
  first = opening (setting_of_world x) 0

  abbrev empty : TallyState
  empty = empty_tally c kept x

  abbrev at : TallyState
  at = with_rooms empty 0 0

  -- no activity yet
  abbrev before : Book
  before = record first.book { begun = 0 }

  none_told : (f : ℕ) (g : Begun) → slice_get empty.functions f ≡ Some g → IsToldOf before [] f g
  none_told f g is =
      subst (IsToldOf before [] f) (each_same (length c.program.functions) f none_begun g is) (refl, refl)

  tied_empty : IsTied 0 (length x.places) first.net.posts before [] empty
  tied_empty = record {
    rows = length-replicate (length x.places) [];
    firsts = λ a p k rest lt is. absurd (omega (arith, lt));
    few = λ n e is. absurd cc;
    short = omega arith;
    awaited = λ number message flies. absurd cc;
    entered = record {
      begun = λ n e is. absurd cc;
      once = λ n m e f is too same. absurd cc;
      flying = 0;
      spawns = none_many (IsSpawnFlying first.net.posts) (λ k f. (let e = f.1 in cc));
      number = omega arith;
    };
    tally = record { next = refl; functions = none_told; all = λ k n e is. absurd cc };
  }

  there : 0 < length x.places
  there = some_place (length x.places) (if 0 == 0 then first_place (setting_of_world x) 0 else empty_place 0) o.stands.watched.sound.nested.root_opened

  abbrev main : Stay
  main = new_stay x.program.entry [] root None

  main_there : stays_of first.net 0 0 ≡ Some main
  main_there = ap (λ b. stays_in (if b then Some (first_place (setting_of_world x) 0) else None) 0) (lt-ltb 0 (length x.places) there)

  found : (a : StayState) × (stay_at x 0 0 ≡ Some a) × IsSameStay a main 0
  found = seen_as x first o.stands 0 0 main main_there

  told_is : tally_at_first c kept x ≡ begun_from at 0 0 x.program.entry None
  told_is = ap (begun_by at 0 0) found.1 ∙ (λ i. begun_from at 0 0 (sym found.2.function_is i) (as_pair (sym found.2.back_is i)))

  room : HasAt at 0 0
  room = slot_has_room empty.rows 0 0 (let some = there in let rows = tied_empty.rows in omega (arith, some, rows)) (omega arith)

  abbrev entry : Entry
  entry = record { activity = 0; place = 0 }

  tied_first : IsTied 0 (length x.places) first.net.posts first.book first_entries (begun_from at 0 0 x.program.entry None)
  tied_first = tied_begun 0 (length x.places) first.net.posts first.net.posts before first.book [] at 0 0 0 x.program.entry
      (tied_rooms 0 (length x.places) first.net.posts before [] empty 0 0 tied_empty) (λ n e is. absurd cc) refl refl
      (λ h. (let e = h.2 in cc)) refl (λ b lt apart. absurd (omega (arith, lt, apart))) (λ b rest lt is. omega (arith, lt)) room
      (next_after empty 0 0 (omega arith)) (omega arith) (omega arith) (λ number message flies. absurd cc)
      (record {
        begun = begun_more [] entry 0 1 (omega arith) (omega arith) (λ n e is. absurd cc);
        once = λ n m e f is too same. once_more [] entry n m e f (λ h. (let z = h.2 in cc)) (λ i j y z at also eq. absurd cc) is too same;
        flying = 0;
        spawns = none_many (IsSpawnFlying first.net.posts) (λ k f. (let e = f.1 in cc));
        number = omega arith;
      })

  rooms_first : (p k : ℕ) (s : Stay) → stays_of first.net p k ≡ Some s → HasAt (begun_from at 0 0 x.program.entry None) p k
  rooms_first p k s is = elim (o.stands.watched.sound.linked.known p k s is).1 [
    | inl same ↦ subst (λ (z : Name). HasAt (begun_from at 0 0 x.program.entry None) z.0 z.1) same
        (grows_set at 0 0 (next_one at 0 x.program.entry) room 0 0 room)
    | inr none ↦ absurd none
  ]

  pub tied_opening : AreTied 0 x first first_entries (tally_at_first c kept x)
  tied_opening = subst (AreTied 0 x first first_entries) (sym told_is) (record { tied = tied_first; rooms = rooms_first })
