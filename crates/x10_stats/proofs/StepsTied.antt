-- A tally and the machine's book stay tied in each step that is made.
use Rattle.std.proofs.Common.{◌≡◌, ◌≢◌, ℕ, ◌+◌, ◌<◌, ◌^◌, List, [], ◌++◌, length, Option, None, Some, refl, sym, ap, subst, ◌∙◌, inl, inr, arith, append-nil}
use Rattle.std.proofs.lemmas.Bool.{cases_eq}
use Rattle.std.proofs.lemmas.Option.{slice_get_within}
use Rattle.x10_model.specs.Maps.{with_entry}
use Rattle.x10_model.specs.declared.finish.Finish.{Finish}
use Rattle.x10_model.specs.Places.{Origin, Stay, Message, Effect, Waits, Works, Begins, Spawns, Shifts, Opens, Closes, Ends}
use Rattle.x10_model.specs.Worlds.{Post, World, Net, Book, Ideal, Steps, IsSpawn, sent, posts_after, book_after, counted}
use Rattle.x10_model.proofs.Lists.{none_some}
use Rattle.x10_model.proofs.Maps.{at_key, off_key}
use Rattle.x10_model.proofs.NotWrong.{situation}
use Rattle.x10_model.proofs.Operations.{way_of}
use Rattle.x10_finish.specs.Nesting.{stays_in, stays_of}
use Rattle.x10_finish.specs.Stays.{Changes, IsWayBack, MovesStay, Rewrites}
use Rattle.x10_finish.proofs.Sound.{there_in}
use Rattle.x10_place.specs.Stays.{StayState}
use Rattle.x10_world.specs.StandsForWorld.{WorldState, StandsForWorld, setting_of_world}
use Rattle.x10_stats.specs.Entries.{Entry, entries_by}
use Rattle.x10_stats.specs.Tallies.{IsSeen, TallyState, as_pair, back_of, begun_by, begun_from, gone_back, left_by, stay_at, stepped, taken_over, vacant_at, with_rooms}
use Rattle.x10_stats.proofs.MoveFacts.{begun_function, still_free}
use Rattle.x10_stats.proofs.Slots.{slot_has_room}
use Rattle.x10_stats.proofs.StaysSeen.{IsSameStay, none_as, seen_as, unseen_as}
use Rattle.x10_stats.proofs.StepsSeen.{its_change, new_place, place_of}
use Rattle.x10_stats.proofs.Tied.{Grows, HasAt, IsTied, grows_rooms, next_after, tied_rooms}
use Rattle.x10_stats.proofs.TiedMoves as moves

-- there is room for each stay of the machine
abbrev pub HaveRoom : Net → TallyState → Type 0
HaveRoom net t = (p k : ℕ) (s : Stay) → stays_of net p k ≡ Some s → HasAt t p k

module _ (made : ℕ) (x y : WorldState) (u v : World) (entries : List Entry) (t : TallyState) (here key : ℕ)
    (tied : IsTied made (length x.places) u.net.posts u.book entries t) (rooms : HaveRoom u.net t) (stand : StandsForWorld x u)
    (then : StandsForWorld y v) (seen : IsSeen x here) (little : made + 2 < 2 ^ 64) (s : Steps Ideal (setting_of_world x) u here key v) where
  abbrev vacant : ℕ
  vacant = vacant_at x here

  abbrev at : TallyState
  at = with_rooms t here vacant

  abbrev on : TallyState
  on = stepped at here key

  -- what is counted after the step
  abbrev told : TallyState
  told = left_by (begun_by on here vacant (stay_at y here vacant)) here key (back_of (stay_at x here key)) (stay_at y here key)

  tied_at : IsTied made (length x.places) u.net.posts u.book entries at
  tied_at = tied_rooms made (length x.places) u.net.posts u.book entries t here vacant tied

  rooms_at : HaveRoom u.net at
  rooms_at p k z is = grows_rooms t here vacant p k (rooms p k z is)

  change : MovesStay here s.old key s.new s.effect
  change = its_change x y u v here key stand then seen s

  there : stays_of u.net here key ≡ Some change.stay
  there = there_in u.net here key s.old s.new s.effect s.place_is change

  free : s.old.stays vacant ≡ None
  free = sym (ap (λ o. stays_in o vacant) s.place_is) ∙ none_as x u stand here vacant seen.vacant

  at_new : (k : ℕ) → stays_of v.net here k ≡ s.new.stays k
  at_new k = ap (λ o. stays_in o k) (new_place x y u v here key stand then seen s)

  unseen : (k : ℕ) → s.new.stays k ≡ None → stay_at y here k ≡ None
  unseen k none = unseen_as y v then here k (at_new k ∙ none)

  found : (k : ℕ) (z : Stay) → s.new.stays k ≡ Some z → (a : StayState) × (stay_at y here k ≡ Some a) × IsSameStay a z k
  found k z is = seen_as y v then here k z (at_new k ∙ is)

  result : (o p : Option StayState) (back : Option (ℕ × ℕ)) → stay_at y here vacant ≡ o → stay_at y here key ≡ p → back_of (stay_at x here key) ≡ back
      → told ≡ left_by (begun_by on here vacant o) here key back p
  result o p back first last is = λ i. left_by (begun_by on here vacant (first i)) here key (is i) (last i)

  abbrev After : Effect → Type 0
  After e = IsTied (made + 1) (length x.places) (posts_after u.net.posts s.number (sent e)) (book_after u.book (u.book.belongs here key) here e s.number)
      (entries ++ entries_by u.book here e) told × Grows at told

  -- ---- the stay goes on, and none begins

  goes_on : (z : Stay) (opened : ℕ) → Rewrites s.old key (Some z) opened s.new → told ≡ on
  goes_on z opened r =
      let a = found key z (ap (λ (f : ℕ → Option Stay). f key) r.stays ∙ at_key s.old.stays key (Some z)) in
      result None (Some a.0) (back_of (stay_at x here key)) (unseen vacant
      (still_free s.old s.new key vacant change.stay (Some z) change.is_there free r.stays)) a.1 refl

  grows_on : Grows at on
  grows_on p k room = moves.grows_on made (length x.places) u.net u.book entries at here key s.number tied_at stand.watched.sound change.stay there
      change.is_ready rooms_at s.unused little p k room

  -- no entry is added
  no_more : (posts : ℕ → Post) (book : Book) (z : TallyState) → IsTied (made + 1) (length x.places) posts book entries z → Grows at z → told ≡ z
      → IsTied (made + 1) (length x.places) posts book (entries ++ []) told × Grows at told
  no_more posts book z h grows same = (
    subst (IsTied (made + 1) (length x.places) posts book (entries ++ [])) (sym same)
        (subst (λ es. IsTied (made + 1) (length x.places) posts book es z) (sym (append-nil entries)) h),
    subst (Grows at) (sym same) grows,
  )

  plain : (posts : ℕ → Post) (book : Book) → IsTied (made + 1) (length x.places) posts book entries on → told ≡ on
      → IsTied (made + 1) (length x.places) posts book (entries ++ []) told × Grows at told
  plain posts book h same = no_more posts book on h grows_on same

  works : IsTied (made + 1) (length x.places) u.net.posts (counted u.book (u.book.belongs here key)) entries on
  works = moves.tied_on made (length x.places) u.net u.book entries at here key s.number tied_at stand.watched.sound change.stay there change.is_ready
      rooms_at s.unused little

  spawned : (message : Message) (function : ℕ) (under : Finish) → Changes here s.old key change.stay s.new (Spawns message function under)
      → After (Spawns message function under)
  spawned message function under c =
      let h = moves.tied_spawned made (length x.places) u.net u.book entries at here key s.number tied_at stand.watched.sound change.stay there
      change.is_ready rooms_at s.unused little function c.1 under c.2 in
      subst (λ m. After (Spawns m function under)) (sym c.5)
      (plain _ _ h (goes_on c.0 s.old.opened c.6))

  shifted : (message : Message) (under : Finish) → Changes here s.old key change.stay s.new (Shifts message under) → After (Shifts message under)
  shifted message under c =
      plain _ _ (moves.tied_sent made (length x.places) u.net u.book entries at here key s.number tied_at stand.watched.sound change.stay there
      change.is_ready rooms_at s.unused little message (λ spawn. elim (subst IsSpawn c.6 spawn) [ ])) (goes_on c.0 s.old.opened c.7)

  -- ---- an activity begins here

  module _ (pinned : (other : ℕ) (z : Stay) → s.old.stays other ≡ None → s.new.stays other ≡ Some z → other ≡ vacant) where
    here_below : here < length t.rows
    here_below =
        let p = place_of x u here s.old stand s.place_is in
        let lt = slice_get_within x.places here p.0 p.1 in
        let rows = tied.rows in
        omega (arith, lt, rows)

    room_there : vacant < 2 ^ 32 → HasAt at here vacant
    room_there few = slot_has_room t.rows here vacant here_below (omega (arith, few))

    begins_here : (other function : ℕ) (under : Finish) → s.effect ≡ Begins other function under
        → Changes here s.old key change.stay s.new (Begins other function under) → After (Begins other function under)
    begins_here other function under e c =
        let new : s.new.stays other ≡ Some c.1 = ap (λ (f : ℕ → Option Stay). f other) c.6
        ∙ at_key (with_entry s.old.stays key (Some c.0)) other (Some c.1) in
        let is : other ≡ vacant = pinned other c.1 c.5 new in
        let a = found other c.1 new in
        let apart : key ≢ other = λ same. none_some (s.old.stays other) change.stay c.5 (ap s.old.stays (sym same) ∙ change.is_there) in
        let b = found key c.0 (ap (λ (f : ℕ → Option Stay). f key) c.6
        ∙ off_key (with_entry s.old.stays key (Some c.0)) other key (Some c.1) apart ∙ at_key s.old.stays key (Some c.0)) in
        let function_is : a.0.top.function ≡ function = sym a.2.function_is ∙ begun_function (situation s.moves) s.moves.instr.op s.new s.effect other
        function under c.1 (way_of s.moves.instr.op (situation s.moves) s.new s.effect s.moves.does) e new in
        let back_is : as_pair a.0.back ≡ None = ap as_pair (sym a.2.back_is ∙ c.3.back_is) in
        let told_is : told ≡ begun_from on here other function None =
        result (Some a.0) (Some b.0) (back_of (stay_at x here key)) (ap (stay_at y here) (sym is) ∙ a.1) b.1 refl
        ∙ (λ i. begun_from on here (sym is i) (function_is i) (back_is i)) in
        let few : vacant < 2 ^ 32 = subst (λ k. k < 2 ^ 32) is a.2.few in
        let room : HasAt at here other = subst (HasAt at here) (sym is) (room_there few) in
        let unused : stays_of u.net here other ≡ None = ap (λ o. stays_in o other) s.place_is ∙ c.5 in
        let next = next_after t here vacant (let count = tied.tally.next in let short = tied.short in omega (arith, count, short, little)) in (
          subst (IsTied (made + 1) (length x.places) u.net.posts (book_after u.book (u.book.belongs here key) here (Begins other function under) s.number)
              (entries ++ entries_by u.book here (Begins other function under))) (sym told_is)
              (moves.tied_begins made (length x.places) u.net u.book entries at here key s.number tied_at stand.watched.sound change.stay there
              change.is_ready rooms_at s.unused little other function under unused room next),
          subst (Grows at) (sym told_is) (λ p k has. moves.grows_begins made (length x.places) u.net u.book entries at here key s.number tied_at
              stand.watched.sound change.stay there change.is_ready rooms_at s.unused little other function under unused room next p k (grows_on p k has)),
        )

    -- ---- the stay ends

    ended : (under : Finish) (back : Option Message) (o : Option Origin) → change.stay.back ≡ o → IsWayBack here o back → told ≡ gone_back on here key (as_pair o)
        → After (Ends under back)
    ended under back None is way same =
        subst (λ m. After (Ends under m)) (sym way)
        (plain _ _ (moves.tied_ended made (length x.places) u.net u.book entries at here key s.number tied_at stand.watched.sound change.stay there
        change.is_ready rooms_at s.unused little is) same)
    ended under back (Some o) is way same =
        let h = moves.tied_back made (length x.places) u.net u.book entries at here key s.number tied_at stand.watched.sound change.stay there
        change.is_ready rooms_at s.unused little o is way.0 in
        subst (λ m. After (Ends under m)) (sym way.1)
        (no_more _ _ (taken_over on o.place o.key here key) h (λ p k has. moves.grows_back made (length x.places) u.net u.book entries at here key
        s.number tied_at stand.watched.sound change.stay there change.is_ready rooms_at s.unused little o is way.0 p k (grows_on p k has)) same)

    ends_here : (under : Finish) (back : Option Message) → Changes here s.old key change.stay s.new (Ends under back) → After (Ends under back)
    ends_here under back c =
        let mine = seen_as x u stand here key change.stay there in
        let gone = unseen key (ap (λ (f : ℕ → Option Stay). f key) c.3.stays ∙ at_key s.old.stays key None) in
        ended under back change.stay.back refl c.2
        (result None None (as_pair change.stay.back) (unseen vacant
        (still_free s.old s.new key vacant change.stay None change.is_there free c.3.stays)) gone
        (ap back_of mine.1 ∙ ap as_pair (sym mine.2.back_is)))

    -- ---- any of them

    module _ (goes : (number : ℕ) → s.effect ≡ Waits number → ⊥) where
      by_effect : (e : Effect) → s.effect ≡ e → Changes here s.old key change.stay s.new e → After e
      by_effect (Waits number) e c = absurd (goes number e)
      by_effect Works e c = plain _ _ works (goes_on c.0 s.old.opened c.2)
      by_effect (Begins other function under) e c = begins_here other function under e c
      by_effect (Spawns message function under) e c = spawned message function under c
      by_effect (Shifts message under) e c = shifted message under c
      by_effect (Opens number inside) e c = plain _ _ works (goes_on c.0 (s.old.opened + 1) c.4)
      by_effect (Closes number) e c = plain _ _ works (goes_on c.0 s.old.opened c.4)
      by_effect (Ends under back) e c = ends_here under back c

      after : After s.effect
      after = by_effect s.effect refl change.changes

      pub tied_step : IsTied (made + 1) (length x.places) v.net.posts v.book (entries ++ entries_by u.book here s.effect) told
      tied_step =
          subst (λ f. IsTied (made + 1) (length x.places) f v.book (entries ++ entries_by u.book here s.effect) told) (sym (ap (λ (n : Net). n.posts) s.net_is))
          (subst (λ b. IsTied (made + 1) (length x.places) (posts_after u.net.posts s.number (sent s.effect)) b (entries ++ entries_by u.book here s.effect) told)
          (sym s.book_is) after.0)

      here_room : (k : ℕ) (z : Stay) (o : Option Stay) → s.old.stays k ≡ o → s.new.stays k ≡ Some z → HasAt told here k
      here_room k z None is there-is =
          let at-vacant = pinned k z is there-is in
          let a = found k z there-is in
          subst (HasAt told here) (sym at-vacant) (after.1 here vacant (room_there (subst (λ i. i < 2 ^ 32) at-vacant a.2.few)))
      here_room k z (Some old) is there-is = after.1 here k (rooms_at here k old (ap (λ o. stays_in o k) s.place_is ∙ is))

      pub rooms_step : HaveRoom v.net told
      rooms_step p k z is = elim (cases_eq p here) [
        | inl same ↦ subst (λ i. HasAt told i k) (sym same)
            (here_room k z (s.old.stays k) refl (sym (at_new k) ∙ ap (λ i. stays_of v.net i k) (sym same) ∙ is))
        | inr apart ↦ after.1 p k (rooms_at p k z (sym (ap (λ o. stays_in o k) (off_key u.net.places here p (Some s.new) apart))
            ∙ sym (ap (λ (n : Net). stays_of n p k) s.net_is) ∙ is))
      ]
