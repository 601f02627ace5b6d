-- When finishes close: a run in which they close only where they are quiet is one in which they close only where all that
-- they govern has ended.
use Rattle.std.specs.Prelude.{◌≡◌, ◌↔◌, ℕ, ◌<◌, false, List, ◌∷◌, Option, Some}
use Rattle.x10_model.specs.declared.event.Event.{Event}
use Rattle.x10_model.specs.Places as places
use Rattle.x10_model.specs.declared.finish.Finish.{Finish}
use Rattle.x10_model.specs.Places.{Setting, root, Stay, Message}
use Rattle.x10_model.specs.Worlds.{World, Net, Book, Flying, IsQuiet, HasEnded, IsWithin, IsOver, Quiet, Ideal, Happens, Run, WithinBounds, opening}
use Rattle.x10_finish.specs.Nesting.{Stays, stays_of, opened_of, IsHeld, IsNested}
use Rattle.x10_finish.specs.Chains.{Name, IsAmong, AreLinked, AreCarried}

abbrev pub chains_of : Book → ℕ → List Name
chains_of book a = (book.activities a).stays

abbrev pub unders_of : Book → ℕ → Finish
unders_of book a = (book.activities a).under

-- what holds of each world of such a run
pub record IsSound (net : Net) (book : Book) : Type 0 where
  pub nested : IsNested (stays_of net) (opened_of net) net.enclosing net.posts
  pub linked : AreLinked (stays_of net) book.begun (chains_of book) (unders_of book) book.belongs
  pub carried : AreCarried (stays_of net) book.begun (chains_of book)
      (unders_of book) book.carries net.posts

-- closing where it is quiet is closing where all has ended
abbrev pub QuietIsIdeal : Type 0
QuietIsIdeal = (setting : Setting) (key : ℕ) (bounds : List ℕ) (events : List Event) (w : World)
    → 0 < setting.places
    → Run Quiet setting (WithinBounds bounds) (opening setting key) events w
    → Run Ideal setting (WithinBounds bounds) (opening setting key) events w

-- the owner of a finish works at its end
pub record IsAtItsEnd (w : World) (f : Finish) : Type 0 where
  pub key : ℕ
  pub place : places.Place
  pub stay : Stay
  pub rest : List ℕ
  pub place_is : w.net.places f.home ≡ Some place
  pub stay_is : place.stays key ≡ Some stay
  pub is_ready : stay.away ≡ false
  pub innermost_is : stay.finishes ≡ f.number ∷ rest

-- and where all that a finish governs has ended, its owner is there and no message flies, it is quiet
abbrev pub EndedIsQuiet : Type 0
EndedIsQuiet = (setting : Setting) (key : ℕ) (bounds : List ℕ) (events : List Event) (w : World)
    (f : Finish) → 0 < setting.places
    → Run Quiet setting (WithinBounds bounds) (opening setting key) events w
    → IsAtItsEnd w f → ((number : ℕ) (message : Message) → w.net.posts number ≡ Flying message → ⊥)
    → HasEnded w f → IsQuiet w.net f

-- what encloses was opened, and each finish that is held stands within the root
pub record IsRooted (stays : Stays) (opened : ℕ → ℕ)
    (enclosing : Finish → Option Finish) : Type 0 where
  pub only : (f g : Finish) → enclosing f ≡ Some g → f.number < opened f.home
  pub within : (f : Finish) → IsHeld stays f → IsWithin enclosing root f

-- where the root is quiet, no activity lives
abbrev pub RootIsOver : Type 0
RootIsOver = (setting : Setting) (key : ℕ) (bounds : List ℕ) (events : List Event) (w : World)
    → 0 < setting.places
    → Run Quiet setting (WithinBounds bounds) (opening setting key) events w → IsQuiet w.net root
    → IsOver w

-- ---- from any world of which that holds

abbrev pub OpeningIsSound : Type 0
OpeningIsSound = (setting : Setting) (key : ℕ) → 0 < setting.places
    → IsSound (opening setting key).net (opening setting key).book

-- what happens by the quiet rule happens by the ideal rule too, and leads to a world of which that holds
abbrev pub QuietEventIsIdeal : Type 0
QuietEventIsIdeal = (setting : Setting) (w v : World) (event : Event) → IsSound w.net w.book
    → Happens Quiet setting w event v
    → Happens Ideal setting w event v × IsSound v.net v.book

-- the book lists a stay of an activity exactly where the stay is there and belongs to the activity
abbrev pub StaysAreListed : Type 0
StaysAreListed = (net : Net) (book : Book) (a p k : ℕ) → IsSound net book → a < book.begun
    → IsAmong (p, k) (chains_of book a) ↔ (((s : Stay) × (stays_of net p k ≡ Some s))
    × (book.belongs p k ≡ a))

-- where no activity lives and no message flies, every finish is quiet, the root among them
abbrev pub OverIsQuiet : Type 0
OverIsQuiet = (w : World) (f : Finish) → IsSound w.net w.book → IsOver w
    → ((number : ℕ) (message : Message) → w.net.posts number ≡ Flying message → ⊥) → IsQuiet w.net f
