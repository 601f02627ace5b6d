-- Finishes inside finishes, on the machine's net: what holds of every world of a run in which finishes close only where
-- they are quiet.
use Rattle.std.specs.Prelude.{◌≡◌, ℕ, zero, suc, ◌<◌, ◌⊎◌, List, [], ◌∷◌, Option, Some, None}
use Rattle.x10_model.specs.Places as places
use Rattle.x10_model.specs.declared.finish.Finish.{Finish}
use Rattle.x10_model.specs.Places.{root, Stay, Message, innermost_of}
use Rattle.x10_model.specs.Worlds.{Post, Flying, Net, IsUnder}

-- ---- stays by place and key

abbrev pub stays_in : Option places.Place → ℕ → Option Stay
stays_in None key = None
stays_in (Some place) key = place.stays key

abbrev pub opened_in : Option places.Place → ℕ
opened_in None = 0
opened_in (Some place) = place.opened

abbrev pub Stays : Type 0
Stays = ℕ → ℕ → Option Stay

abbrev pub stays_of : Net → Stays
stays_of net p = stays_in (net.places p)

abbrev pub opened_of : Net → ℕ → ℕ
opened_of net p = opened_in (net.places p)

-- ---- the finishes that a stay has opened, the innermost first

abbrev pub nth : List ℕ → ℕ → Option ℕ
nth [] i = None
nth (n ∷ ns) zero = Some n
nth (n ∷ ns) (suc i) = nth ns i

-- those outside of the i-th
abbrev pub outside : List ℕ → ℕ → List ℕ
outside [] i = []
outside (n ∷ ns) zero = ns
outside (n ∷ ns) (suc i) = outside ns i

-- a stay at its home has opened the finish, and not closed it
abbrev pub IsOpen : Stays → Finish → Type 0
IsOpen stays f = (key i : ℕ) × (s : Stay) × (stays f.home key ≡ Some s)
    × (nth s.finishes i ≡ Some f.number)

abbrev pub IsHeld : Stays → Finish → Type 0
IsHeld stays f = (f ≡ root) ⊎ IsOpen stays f

-- a stay inherited the finish, or a message flies that will begin one under it
pub data IsUsed (stays : Stays) (posts : ℕ → Post) (f : Finish) : Type 0 where
  by_stay : (p key : ℕ) (s : Stay) → stays p key ≡ Some s → s.inherited ≡ f → IsUsed stays posts f
  by_post : (number : ℕ) (message : Message) → posts number ≡ Flying message → IsUnder f message
      → IsUsed stays posts f

-- what is open was numbered by its place, is open in one stay at one position, and is enclosed by the next one outside it or by
-- what the stay inherited; nothing encloses the root; and what is inherited or carried is the root or open
pub record IsNested (stays : Stays) (opened : ℕ → ℕ) (enclosing : Finish → Option Finish)
    (posts : ℕ → Post) : Type 0 where
  pub numbered : (p k i n : ℕ) (s : Stay) → stays p k ≡ Some s → nth s.finishes i ≡ Some n
      → n < opened p
  pub apart : (p k l i j n : ℕ) (s t : Stay) → stays p k ≡ Some s → stays p l ≡ Some t
      → nth s.finishes i ≡ Some n → nth t.finishes j ≡ Some n
      → (k ≡ l) × (i ≡ j)
  pub enclosed : (p k i n : ℕ) (s : Stay) → stays p k ≡ Some s → nth s.finishes i ≡ Some n
      → enclosing (record { home = p; number = n })
      ≡ Some (innermost_of p s.inherited (outside s.finishes i))
  pub root_outer : enclosing root ≡ None
  pub root_opened : 0 < opened 0
  pub inherited : (p k : ℕ) (s : Stay) → stays p k ≡ Some s → IsHeld stays s.inherited
  pub carried : (number : ℕ) (message : Message) (f : Finish) → posts number ≡ Flying message
      → IsUnder f message → IsHeld stays f
