-- What is counted in a world, of all finishes that haven't closed, and how it changes with each event.
use Rattle.std.specs.Prelude.{◌≡◌, ℕ, ◌<◌, ◌≤◌, ◌⊎◌, Bool, false, Option, Some, None, if◌then◌else◌}
use Rattle.x10_model.specs.Maps.{with_entry}
use Rattle.x10_model.specs.Places as machine
use Rattle.x10_model.specs.declared.finish.Finish.{Finish}
use Rattle.x10_model.specs.Places.{Setting, root, Stay, Message, Effect, Closes}
use Rattle.x10_model.specs.Moves.{Moves}
use Rattle.x10_model.specs.Totals.{Totals, Cut, nothing, zeros, Did, Took, totals_after, first_totals, is_reported, IsDoneAt}
use Rattle.x10_model.specs.Worlds.{same_finish, Unused, Flying, Net, World, sent, net_after, book_after, HasEnded, IsOver, Ideal, Steps, Delivers, opening}
use Rattle.x10_finish.specs.Detection.{Told, told_of, taken, Counting, IsCounted}
use Rattle.x10_finish.specs.Nesting.{stays_of, opened_of, IsHeld}
use Rattle.x10_finish.specs.Closing.{IsSound, IsRooted, IsAtItsEnd}
use Rattle.x10_finish.specs.Telling.{HowMany, Tells, IsInRange, GoesTo}

-- a finish that hasn't closed: the root, one that is open, or one that was not opened yet
abbrev pub IsCurrent : Net → Finish → Type 0
IsCurrent net f = IsHeld (stays_of net) f ⊎ (opened_of net f.home ≤ f.number)

-- ---- what is counted in a world

-- each place's totals of each finish, what the home of each finish keeps of reports, and the reports in flight by number
pub record WorldCounts : Type 0 where
  pub totals : ℕ → Finish → Totals
  pub kept : Finish → Cut
  pub told : Finish → ℕ → Option Told

-- the counts of one finish, with so many messages in flight from each place to each
abbrev pub counting_of : WorldCounts → Finish → (ℕ → ℕ → ℕ) → Counting
counting_of c f flying = record {
  totals = λ p. c.totals p f;
  flying = flying;
  told = c.told f;
  kept = c.kept f;
}

-- the counts of a finish tell of the net, and are such as events under the finish lead to
pub record IsFollowed (places : ℕ) (net : Net) (c : WorldCounts) (f : Finish) : Type 0 where
  pub flying : ℕ → ℕ → ℕ
  pub tells : Tells (stays_of net) net.posts f (counting_of c f flying)
  pub counted : IsCounted places f.home (counting_of c f flying)

-- nothing is counted of the finish, kept or in flight
pub record IsUncounted (c : WorldCounts) (f : Finish) : Type 0 where
  pub totals : (p : ℕ) → c.totals p f ≡ nothing
  pub kept : c.kept f ≡ (λ p. zeros)
  pub told : (number : ℕ) → c.told f number ≡ None

-- what holds of each world and its counts: each finish that hasn't closed is followed, and of one that was not opened yet
-- nothing is counted
pub record IsWatched (places : ℕ) (w : World) (c : WorldCounts) : Type 0 where
  pub sound : IsSound w.net w.book
  pub rooted : IsRooted (stays_of w.net) (opened_of w.net) w.net.enclosing
  pub range : IsInRange places (stays_of w.net) w.net.posts
  pub each : (f : Finish) → IsCurrent w.net f → IsFollowed places w.net c f
  pub fresh : (f : Finish) → opened_of w.net f.home ≤ f.number → IsUncounted c f

-- ---- at the opening

-- main's stay is counted and nothing else
pub record AreFirst (c : WorldCounts) : Type 0 where
  pub totals : (p : ℕ) (f : Finish) → c.totals p f ≡ first_totals p f
  pub kept : (f : Finish) → c.kept f ≡ (λ p. zeros)
  pub told : (f : Finish) (number : ℕ) → c.told f number ≡ None

abbrev pub OpeningIsWatched : Type 0
OpeningIsWatched = (setting : Setting) (key : ℕ) (c : WorldCounts) → 0 < setting.places → AreFirst c
    → IsWatched setting.places (opening setting key) c

-- ---- a move

-- the effect closes the finish
abbrev pub closes : ℕ → Effect → Finish → Bool
closes here (Closes number) f = same_finish f (record { home = here; number = number })
closes here _ f = false

-- what a move at a place changes of the counts of a finish; a report that it sends has a number
pub record IsMoved (here : ℕ) (effect : Effect) (report : ℕ) (old new : WorldCounts)
    (f : Finish) : Type 0 where
  pub here_is : new.totals here f ≡ totals_after f (old.totals here f) (Did effect)
  pub others : (p : ℕ) → (p ≡ here → ⊥) → new.totals p f ≡ old.totals p f
  pub kept : new.kept f ≡ old.kept f
  pub told : new.told f
      ≡ (if is_reported here f (old.totals here f) (Did effect) then with_entry (old.told f) report
      (Some (told_of here (old.totals here f))) else old.told f)

-- of each finish that it doesn't close
abbrev pub CountsMove : ℕ → Effect → ℕ → WorldCounts → WorldCounts → Type 0
CountsMove here effect report old new = (f : Finish) → closes here effect f ≡ false
    → IsMoved here effect report old new f

-- a finish closes only where its home may let it end
abbrev pub ClosesDone : ℕ → ℕ → WorldCounts → Effect → Type 0
ClosesDone places here c (Closes number) = let f : Finish =
    record { home = here; number = number } in IsDoneAt places here (c.totals here f) (c.kept f)
ClosesDone places here c _ = Unit {0}

-- the world after a move
abbrev pub world_after : World → ℕ → ℕ → machine.Place → Effect → ℕ → World
world_after w here key new effect number = record {
  net = net_after w.net here new effect number;
  book = book_after w.book (w.book.belongs here key) here effect number;
}

-- such a move is a step by the ideal rule
abbrev pub MovesAreWatched : Type 0
MovesAreWatched = (setting : Setting) (w : World) (c d : WorldCounts) (here key number report : ℕ)
    (old new : machine.Place) (effect : Effect)
    → IsWatched setting.places w c → w.net.places here ≡ Some old
    → Moves setting here old key new effect
    → w.net.posts number ≡ Unused → here < setting.places → GoesTo setting.places (sent effect)
    → ((f : Finish) → c.told f report ≡ None)
    → CountsMove here effect report c d → ClosesDone setting.places here c effect
    → Steps Ideal setting w here key (world_after w here key new effect number)
    × IsWatched setting.places (world_after w here key new effect number) d

-- ---- a delivery

-- what a message that a place takes in changes of the counts of a finish
pub record IsDelivered (here : ℕ) (message : Message) (old new : WorldCounts)
    (f : Finish) : Type 0 where
  pub here_is : new.totals here f ≡ totals_after f (old.totals here f) (Took message)
  pub others : (p : ℕ) → (p ≡ here → ⊥) → new.totals p f ≡ old.totals p f
  pub kept : new.kept f ≡ old.kept f
  pub told : new.told f ≡ old.told f

abbrev pub CountsDelivery : ℕ → Message → WorldCounts → WorldCounts → Type 0
CountsDelivery here message old new = (f : Finish) → IsDelivered here message old new f

abbrev pub DeliveriesAreWatched : Type 0
DeliveriesAreWatched = (setting : Setting) (w v : World) (c d : WorldCounts) (number : ℕ)
    (delivery : Delivers setting w number v)
    → IsWatched setting.places w c → delivery.here < setting.places
    → CountsDelivery delivery.here delivery.message c d
    → IsWatched setting.places v d

-- ---- a report

-- the counts of a finish stay
pub record IsSame (old new : WorldCounts) (f : Finish) : Type 0 where
  pub totals : (p : ℕ) → new.totals p f ≡ old.totals p f
  pub kept : new.kept f ≡ old.kept f
  pub told : new.told f ≡ old.told f

-- the home of the finish takes in the report with a number
pub record IsTakenIn (number : ℕ) (old new : WorldCounts) (f : Finish) : Type 0 where
  pub totals : (p : ℕ) → new.totals p f ≡ old.totals p f
  pub kept : new.kept f ≡ taken (old.kept f) (old.told f number)
  pub told : new.told f ≡ with_entry (old.told f) number None

-- a report of a finish comes home; where the finish has closed, its counts don't matter any more
pub record CountsReport (net : Net) (f : Finish) (number : ℕ) (old new : WorldCounts) : Type 0 where
  pub this : IsHeld (stays_of net) f → IsTakenIn number old new f
  pub others : (g : Finish) → same_finish g f ≡ false → IsSame old new g

abbrev pub ReportsAreWatched : Type 0
ReportsAreWatched = (places : ℕ) (w : World) (c d : WorldCounts) (f : Finish) (number : ℕ)
    (t : Told) → IsWatched places w c → c.told f number ≡ Some t
    → CountsReport w.net f number c d → IsWatched places w d

-- ---- what the counts say of such a world

-- where the home of the root may let it end, no activity lives
abbrev pub DoneIsOver : Type 0
DoneIsOver = (places : ℕ) (w : World) (c : WorldCounts) → IsWatched places w c → 0 < places
    → IsDoneAt places 0 (c.totals 0 root) (c.kept root) → IsOver w

-- no message flies
abbrev pub NothingFlies : Net → Type 0
NothingFlies net = (number : ℕ) (message : Message) → net.posts number ≡ Flying message → ⊥

-- and where no activity lives, and no message and no report of the root flies, the home may let the root end
abbrev pub OverIsDone : Type 0
OverIsDone = (places : ℕ) (w : World) (c : WorldCounts) → IsWatched places w c → IsOver w
    → NothingFlies w.net → ((number : ℕ) → c.told root number ≡ None)
    → 0 < places → IsDoneAt places 0 (c.totals 0 root) (c.kept root)

-- where the owner works at the end of its finish, all that the finish governs has ended, and no message and no report of it
-- flies, its home may let it end
abbrev pub EndedIsDone : Type 0
EndedIsDone = (places : ℕ) (w : World) (c : WorldCounts) (f : Finish) → IsWatched places w c
    → IsAtItsEnd w f → f.home < places → NothingFlies w.net
    → ((number : ℕ) → c.told f number ≡ None) → HasEnded w f
    → IsDoneAt places f.home (c.totals f.home f) (c.kept f)

-- what a stay inherited is the root or open, and counts as live at its place
abbrev pub StaysAreCounted : Type 0
StaysAreCounted = (places : ℕ) (w : World) (c : WorldCounts) (here key : ℕ) (stay : Stay)
    → IsWatched places w c → stays_of w.net here key ≡ Some stay
    → IsHeld (stays_of w.net) stay.inherited × (0 < (c.totals here stay.inherited).live)

-- ---- one place by itself

-- the stay with a key inherited the finish
abbrev pub InheritsAt : (ℕ → Option Stay) → Finish → ℕ → Type 0
InheritsAt stays f key = (s : Stay) × (stays key ≡ Some s) × (s.inherited ≡ f)

-- as many live under each finish as stays inherited it
pub record IsTallied (stays : ℕ → Option Stay) (totals : Finish → Totals) : Type 0 where
  pub live : (f : Finish) → HowMany (InheritsAt stays f) (totals f).live
