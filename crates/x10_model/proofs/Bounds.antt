-- What it says that a module has bounds.
use Rattle.std.proofs.Common.{◌≡◌, ℕ, List, [], ◌∷◌, ◌++◌, Option, Some, None, Result, Ok, Err, refl}
use Rattle.x10_model.specs.Structure.{BoundFault, BoundCause, unless, with_bound}

-- nothing is wrong there
pub unless_ok : {A : Type 0} (o : Option ℕ) (cause : BoundCause) (f : ℕ) (r : Result A BoundFault) (x : A) → unless o cause f r ≡ Ok x
    → (o ≡ None) × (r ≡ Ok x)
unless_ok None cause f r x e = (refl, e)
unless_ok (Some pc) cause f r x e = absurd cc

-- a function has a bound, and so have those behind it
pub with_ok : (earlier : List ℕ) (r : Result ℕ BoundFault) (others : List ℕ → Result (List ℕ) BoundFault) (bounds : List ℕ)
    → with_bound earlier r others ≡ Ok bounds → (bound : ℕ) × (r ≡ Ok bound) × (others (earlier ++ bound ∷ []) ≡ Ok bounds)
with_ok earlier (Ok bound) others bounds e = (bound, refl, e)
with_ok earlier (Err fault) others bounds e = absurd cc
