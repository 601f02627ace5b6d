-- Maps of numbers with one entry more.
use Rattle.std.proofs.Common.{◌≡◌, ℕ, refl, ap, ◌∙◌}
use Rattle.std.proofs.lemmas.Bool.{eq-eqb, ne_eqb}
use Rattle.x10_model.specs.Maps.{with_entry}

pub at_key : {V : Type 0} (map : ℕ → V) (key : ℕ) (value : V) → with_entry map key value key ≡ value
at_key map key value = rw (eq-eqb key key refl) refl

pub at_equal_key : {V : Type 0} (map : ℕ → V) (key other : ℕ) (value : V) → other ≡ key → with_entry map key value other ≡ value
at_equal_key map key other value same = ap (with_entry map key value) same ∙ at_key map key value

pub off_key : {V : Type 0} (map : ℕ → V) (key other : ℕ) (value : V) → (other ≡ key → ⊥) → with_entry map key value other ≡ map other
off_key map key other value apart = rw (ne_eqb other key apart) refl
