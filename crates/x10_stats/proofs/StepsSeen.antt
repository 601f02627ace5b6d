-- A step that was made is a move of the machine's world that is no wait, and what it begins has the key that was the next one; a
-- step that was idle is a wait.
use Rattle.std.proofs.Common.{◌≡◌, ℕ, ◌+◌, true, false, length, Option, None, Some, refl, sym, ap, subst, ◌∙◌, inl, inr, arith}
use Rattle.std.specs.Prelude.{slice_get}
use Rattle.slab.specs.Slab.{get}
use Rattle.x10_code.specs.declared.instr.Instr.{Instr}
use Rattle.x10_model.specs.Places as machine
use Rattle.x10_model.specs.Places.{Stay, Waits}
use Rattle.x10_model.specs.Moves.{Moves}
use Rattle.x10_model.specs.Ranges.{instr_at}
use Rattle.x10_model.specs.Worlds.{World, Net, Ideal, Steps}
use Rattle.x10_model.proofs.Lists.{none_some, same_some}
use Rattle.x10_model.proofs.Maps.{at_key}
use Rattle.x10_model.proofs.NotWrong.{situation}
use Rattle.x10_model.proofs.Operations.{way_of}
use Rattle.x10_finish.specs.Stays.{Changes, MovesStay}
use Rattle.x10_finish.proofs.Stays.{stays_change}
use Rattle.x10_place.specs.Stays.{StayState}
use Rattle.x10_place.specs.declared.place.Stepped.TheVariants as stepped
use Rattle.x10_place.specs.declared.sent.Sent.{Sent}
use Rattle.x10_place.specs.StandsFor as place
use Rattle.x10_place.specs.StandsFor.{PlaceState, Far, StandsFor, Leads, IsIdleAt, nobody, away, kept_out, waits, inside_at, is_inside}
use Rattle.x10_world.specs.Happenings.{HasMoved, WasIdle}
use Rattle.x10_world.specs.StandsForWorld.{BelongsTo, WorldState, StandsForWorld, far_in, setting_of_world}
use Rattle.x10_world.proofs.Lists.{set_here}
use Rattle.x10_stats.specs.Tallies.{IsSeen, vacant_at, vacant_in}
use Rattle.x10_stats.proofs.MoveFacts.{fine_goes, instr_there, only_begins, same_instr, waits_at_fine}

-- a stay of a place that stands for a machine's is at the same instruction
pc_of : (far : Far) (q : PlaceState) (m : machine.Place) (key : ℕ) (s : Stay) (a : StayState) → StandsFor far q m → m.stays key ≡ Some s
    → get q.stays key ≡ Some a → s.top.pc ≡ a.top.pc
pc_of far q m key s a stands there is =
    let t = stands.some key a is in
    ap (λ (x : Stay). x.top.pc) (same_some (m.stays key) s t.0 there t.1) ∙ t.2.top.pc_is

kept_by : (q : PlaceState) (key : ℕ) (far : Far) (m : machine.Place) (s : Stay) (o : Option StayState) → get q.stays key ≡ o → StandsFor far q m
    → m.stays key ≡ Some s → (a : StayState) × (get q.stays key ≡ Some a)
kept_by q key far m s None is stands there = absurd (none_some (m.stays key) s (stands.none key is) there)
kept_by q key far m s (Some a) is stands there = (a, is)

-- each stay of the machine's place is one of the place
pub kept_of : (far : Far) (q : PlaceState) (m : machine.Place) (key : ℕ) (s : Stay) → StandsFor far q m → m.stays key ≡ Some s
    → (a : StayState) × (get q.stays key ≡ Some a)
kept_of far q m key s stands there = kept_by q key far m s (get q.stays key) refl stands there

place_by : (x : WorldState) (u : World) (here : ℕ) (old : machine.Place) (o : Option PlaceState) → slice_get x.places here ≡ o → StandsForWorld x u
    → u.net.places here ≡ Some old → (p : PlaceState) × (slice_get x.places here ≡ Some p)
place_by x u here old None is stand there = absurd (none_some (u.net.places here) old (stand.none here is) there)
place_by x u here old (Some p) is stand there = (p, is)

-- each place of the machine's world is one of the world
pub place_of : (x : WorldState) (u : World) (here : ℕ) (old : machine.Place) → StandsForWorld x u → u.net.places here ≡ Some old
    → (p : PlaceState) × (slice_get x.places here ≡ Some p)
place_of x u here old stand there = place_by x u here old (slice_get x.places here) refl stand there

-- and stands for it
pub stands_at : (x : WorldState) (u : World) (here : ℕ) (p : PlaceState) (m : machine.Place) → StandsForWorld x u → slice_get x.places here ≡ Some p
    → u.net.places here ≡ Some m → StandsFor (far_in u) p m
stands_at x u here p m stand is there =
    let old = stand.some here p is in
    subst (StandsFor (far_in u) p) (same_some (u.net.places here) old.0 m old.1 there) old.2

module _ (x y : WorldState) (u v : World) (here key : ℕ) (stand : StandsForWorld x u) (then : StandsForWorld y v) (seen : IsSeen x here)
    (s : Steps Ideal (setting_of_world x) u here key v) where
  pub new_place : v.net.places here ≡ Some s.new
  new_place = ap (λ (n : Net). n.places here) s.net_is ∙ at_key u.net.places here (Some s.new)

  pub its_change : MovesStay here s.old key s.new s.effect
  its_change = stays_change (setting_of_world x) here key s.old s.new s.effect s.moves

  stay_is : its_change.stay ≡ s.moves.stay
  stay_is = same_some (s.old.stays key) its_change.stay s.moves.stay its_change.is_there s.moves.is_there

  -- at a FINE that isn't left the stay is where it was
  fine_apart : (far : Far) (p : PlaceState) (new : machine.Place) (t : Stay) → StandsFor (far_in u) p s.old → StandsFor far p new
      → new.stays key ≡ Some t → t.top.pc ≡ s.moves.stay.top.pc + 1 → ⊥
  fine_apart far p new t before after there pc =
      let a = kept_of far p new key t after there in
      let old = pc_of (far_in u) p s.old key s.moves.stay a.0 before s.moves.is_there a.1 in
      let on = pc_of far p new key t a.0 after there a.1 in
      omega (arith, old, on, pc)

  -- ---- a step that was made

  module _ (out : Sent) (d : HasMoved x.places x.flights here key out y.places y.flights) where
    belongs : BelongsTo x.program x.bounds (length x.places) here d.place
    belongs = seen.belongs d.place d.is_there

    led : Leads (far_in u) d.place s.old key (stepped.Moved out) d.next
    led = d.leads (far_in u) s.old (stands_at x u here d.place s.old stand d.is_there s.place_is)

    its : Moves (setting_of_world x) here s.old key led.new led.effect
    its = subst (λ g. Moves (record { program = g; places = length x.places }) here s.old key led.new led.effect) belongs.program_is
        (subst (λ n. Moves (record { program = d.place.program; places = n }) here s.old key led.new led.effect) belongs.places_are
        (subst (λ i. Moves (place.setting_of d.place) i s.old key led.new led.effect) belongs.id_is led.moves))

    next_there : slice_get y.places here ≡ Some d.next
    next_there = ap (λ ps. slice_get ps here) d.places_are ∙ set_here x.places here d.next d.place d.is_there

    next_stands : StandsFor (far_in v) d.next s.new
    next_stands = stands_at y v here d.next s.new then next_there new_place

    pub pinned : (other : ℕ) (t : Stay) → s.old.stays other ≡ None → s.new.stays other ≡ Some t → other ≡ vacant_at x here
    pinned other t free there =
        let a = kept_of (far_in v) d.next s.new other t next_stands there in
        let its_new = led.stands.some other a.0 a.1 in
        let change = stays_change (setting_of_world x) here key s.old led.new led.effect its in
        let begins = only_begins here key other s.old led.new change.stay its_new.0 led.effect change.changes change.is_there free its_new.1 in
        led.vacant other begins.0 begins.1 begins.2 ∙ sym (ap vacant_in d.is_there)

    pub goes : (number : ℕ) → s.effect ≡ Waits number → ⊥
    goes number wait =
        let fine = waits_at_fine (situation s.moves) s.moves.instr.op s.new s.effect number
        (way_of s.moves.instr.op (situation s.moves) s.new s.effect s.moves.does) wait in
        let same = same_instr (setting_of_world x) here key s.old s.new led.new s.effect led.effect s.moves its in
        let still : s.new ≡ s.old = subst (λ e. Changes here s.old key its_change.stay s.new e) wait its_change.changes in
        elim (fine_goes (setting_of_world x) here key s.old led.new led.effect its (ap (λ (i : Instr). i.op) (sym same.1) ∙ fine)) [
          | inl on ↦ led.answers.0 on.0 on.1
          | inr left ↦
              let a = kept_of (far_in u) d.next led.new key left.0 led.stands left.1 in
              let before = pc_of (far_in v) d.next s.old key s.moves.stay a.0 (subst (StandsFor (far_in v) d.next) still next_stands)
              s.moves.is_there a.1 in
              let after = pc_of (far_in u) d.next led.new key left.0 a.0 led.stands left.1 a.1 in
              let pc = left.2 in
              let stay_same = ap (λ (t : Stay). t.top.pc) same.0 in
              omega (arith, before, after, pc, stay_same)
        ]

  -- ---- a step that was idle

  module _ (d : WasIdle x.places x.flights here key y.places y.flights) where
    outsider : (p : PlaceState) (other : ℕ) (o : Option StayState) → get p.stays other ≡ o → slice_get x.places here ≡ Some p
        → inside_at p.stays other ≡ true → other ≡ key
    outsider p other None none is inside = absurd (let f : false ≡ true = sym (ap is_inside none) ∙ inside in cc)
    outsider p other (Some a) there is inside =
        let t = (stands_at x u here p s.old stand is s.place_is).some other a there in
        s.moves.is_free other t.0 t.1 (t.2.inside ∙ sym (ap is_inside there) ∙ inside)

    idle_waits : (p : PlaceState) → slice_get x.places here ≡ Some p → IsIdleAt p key → (number : ℕ) × (s.effect ≡ Waits number)
    idle_waits p is (nobody none) =
        absurd (none_some (s.old.stays key) s.moves.stay ((stands_at x u here p s.old stand is s.place_is).none key none) s.moves.is_there)
    idle_waits p is (away a there is_away) =
        let t = (stands_at x u here p s.old stand is s.place_is).some key a there in
        let same = same_some (s.old.stays key) t.0 s.moves.stay t.1 s.moves.is_there in
        absurd (let f : true ≡ false = sym is_away ∙ sym t.2.away ∙ ap (λ (z : Stay). z.away) same ∙ s.moves.is_ready in cc)
    idle_waits p is (kept_out other inside apart) =
        absurd (apart (outsider p other (get p.stays other) refl is inside))
    idle_waits p is (waits a number outer there outside operation finishes closed) =
        let stands = stands_at x u here p s.old stand is s.place_is in
        let t = stands.some key a there in
        let same = same_some (s.old.stays key) t.0 s.moves.stay t.1 s.moves.is_there in
        let function_is = sym t.2.top.function_is ∙ ap (λ (z : Stay). z.top.function) same in
        let pc_is = sym t.2.top.pc_is ∙ ap (λ (z : Stay). z.top.pc) same in
        let instr_is = same_some (instr_at x.program s.moves.stay.top.function s.moves.stay.top.pc) s.moves.instr operation.0
        (instr_there (setting_of_world x) here key s.old s.new s.effect s.moves)
        (sym (λ i. instr_at ((seen.belongs p is).program_is i) (function_is i) (pc_is i)) ∙ operation.1) in
        elim (fine_goes (setting_of_world x) here key s.old s.new s.effect s.moves (ap (λ (i : Instr). i.op) instr_is ∙ operation.2)) [
          | inl on ↦ (on.0, on.1)
          | inr left ↦ absurd (fine_apart (far_in v) p s.new left.0 stands
              (stands_at y v here p s.new then (ap (λ ps. slice_get ps here) d.places_are ∙ is) new_place) left.1 left.2)
        ]

    pub waits_only : (number : ℕ) × (s.effect ≡ Waits number)
    waits_only =
        let p = place_of x u here s.old stand s.place_is in
        idle_waits p.0 p.1 (d.idle p.0 p.1)
