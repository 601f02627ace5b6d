-- Which stays an activity has, and which messages carry it: what holds of every world of a run.
use Rattle.std.specs.Prelude.{◌≡◌, ℕ, ◌<◌, ◌⊎◌, true, List, [], ◌∷◌, Some, None}
use Rattle.x10_model.specs.declared.finish.Finish.{Finish}
use Rattle.x10_model.specs.Places.{Stay, Message, Spawn, Shift, Back, innermost}
use Rattle.x10_model.specs.Worlds.{Post, Flying}
use Rattle.x10_finish.specs.Nesting.{Stays}

-- a stay by its place and key
abbrev pub Name : Type 0
Name = ℕ × ℕ

abbrev pub IsAmong : Name → List Name → Type 0
IsAmong q [] = ⊥
IsAmong q (x ∷ xs) = (x ≡ q) ⊎ IsAmong q xs

-- what a stay was begun by: the activity itself, which inherited its finish, or the stay that waits for it, away
abbrev pub IsBegunBy : Stays → Finish → Stay → List Name → Type 0
IsBegunBy stays under s [] = (s.back ≡ None) × (s.inherited ≡ under)
IsBegunBy stays under s (b ∷ rest) = (t : Stay) × (stays b.0 b.1 ≡ Some t) × (t.away ≡ true)
    × (s.back ≡ Some (record { place = b.0; key = b.1 }))
    × (s.inherited ≡ innermost b.0 t)

-- the stays of an activity, the one that works before those that wait for it
abbrev pub IsChain : Stays → Finish → List Name → Type 0
IsChain stays under [] = Unit {0}
IsChain stays under (a ∷ rest) = (s : Stay) × (stays a.0 a.1 ≡ Some s)
    × IsBegunBy stays under s rest × (IsAmong a rest → ⊥) × IsChain stays under rest

-- the activities so far have their stays in chains, and each stay is one of exactly one activity
pub record AreLinked (stays : Stays) (begun : ℕ) (chains : ℕ → List Name) (unders : ℕ → Finish)
    (belongs : ℕ → ℕ → ℕ) : Type 0 where
  pub chained : (a : ℕ) → a < begun → IsChain stays (unders a) (chains a)
  pub owner : (a p k : ℕ) → a < begun → IsAmong (p, k) (chains a) → belongs p k ≡ a
  pub known : (p k : ℕ) (s : Stay) → stays p k ≡ Some s
      → (belongs p k < begun) × IsAmong (p, k) (chains (belongs p k))

-- the first stay of the chain waits, with such an innermost finish
abbrev pub Waits : Stays → List Name → ℕ → ℕ → (Stay → Type 0) → Type 0
Waits stays chain p k P = (rest : List Name) × (s : Stay) × (chain ≡ (p, k) ∷ rest)
    × (stays p k ≡ Some s) × (s.away ≡ true) × P s

-- what a message that carries an activity says of it
abbrev pub Carries : Stays → List Name → Finish → Message → Type 0
Carries stays chain under (Spawn from to f function graph) = (chain ≡ []) × (under ≡ f)
Carries stays chain under (Shift from to waiting f function graph) =
    Waits stays chain from waiting (λ s. f ≡ innermost from s)
Carries stays chain under (Back from to waiting graph) =
    Waits stays chain to waiting (λ s. Unit {0})

-- each message in flight carries an activity, and each is carried by one at most
pub record AreCarried (stays : Stays) (begun : ℕ) (chains : ℕ → List Name) (unders : ℕ → Finish)
    (carries : ℕ → ℕ) (posts : ℕ → Post) : Type 0 where
  pub begun_one : (m : ℕ) (message : Message) → posts m ≡ Flying message → carries m < begun
  pub says : (m : ℕ) (message : Message) → posts m ≡ Flying message
      → Carries stays (chains (carries m)) (unders (carries m)) message
  pub single : (m n : ℕ) (message other : Message) → posts m ≡ Flying message
      → posts n ≡ Flying other → carries m ≡ carries n → m ≡ n
