-- When two finishes are the same one.
use Rattle.std.proofs.Common.{◌≡◌, ℕ, ◌==◌, ◌&&◌, Bool, true, false, refl, ◌∙◌, ap, sym, arith, eq-eqb}
use Rattle.std.proofs.lemmas.Bool.{eqb-true}
use Rattle.x10_model.specs.declared.finish.Finish.{Finish}
use Rattle.x10_model.specs.Worlds.{same_finish}

equal_numbers : (x y : ℕ) → (x == y) ≡ (y == x)
equal_numbers x y = grind arith

pub same_either : (f g : Finish) → same_finish f g ≡ same_finish g f
same_either f g = rw (equal_numbers f.home g.home, equal_numbers f.number g.number) refl

both : (a b : Bool) → (a && b) ≡ true → (a ≡ true) × (b ≡ true)
both true b e = (refl, e)
both false b e = absurd cc

pub same_is : (f g : Finish) → same_finish f g ≡ true → f ≡ g
same_is f g e =
    let parts = both (f.home == g.home) (f.number == g.number) e in
    let p : f.home ≡ g.home = eqb-true f.home g.home parts.0 in
    let q : f.number ≡ g.number = eqb-true f.number g.number parts.1 in
    λ i. record { home = p i; number = q i }

pub same_self : (f g : Finish) → f ≡ g → same_finish f g ≡ true
same_self f g e = ap (same_finish f) (sym e) ∙ rw (eq-eqb f.home f.home refl, eq-eqb f.number f.number refl) refl
