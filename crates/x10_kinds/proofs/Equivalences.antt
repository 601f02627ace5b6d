-- Joins, meets and writes of equivalences are equivalences, and a join is the least one.
use Rattle.std.proofs.Common.{◌≡◌, ℕ, true, false, ◌&&◌, ◌||◌, ◌⊎◌, inl, inr, Some, None, not, sym, if◌then◌else◌, subst, refl, ◌∙◌}
use Rattle.std.proofs.lemmas.Bool.{eq-eqb, eqb-true, or_cases, or_left, or_right, and_parts, and_from}
use Rattle.x10_kinds.specs.declared.homes.Homes.{Homes}
use Rattle.x10_kinds.specs.declared.homes.Term.{Term}
use Rattle.x10_kinds.specs.declared.homes.Term.TheVariants.{Reg}
use Rattle.x10_kinds.specs.Equations.{Equations, IsTerm, IsEquivalence, Includes, alone, equations, joined, met, written, same_term, read_as}
use Rattle.x10_kinds.proofs.Terms.{same_term-is, same_term-same}

-- what labels say is an equivalence
pub equations_is : (h : Homes) → IsEquivalence (equations h)
unfolding equations
equations_is h = record {
  reflexive = λ v _. eq-eqb _ _ refl;
  symmetric = λ v w _ _ e. eq-eqb _ _ (sym (eqb-true _ _ e));
  transitive = λ u v w _ _ _ a b. eq-eqb _ _ (eqb-true _ _ a ∙ eqb-true _ _ b);
}

-- every equivalence has the equations of a term with itself
pub alone_within : (r : Equations) → IsEquivalence r → Includes r alone
alone_within r is v w v_term w_term e = subst (λ x. r v x ≡ true) (same_term-is v w e) (is.reflexive v v_term)

-- the three ways in which two terms are joined
abbrev pub Ways : Equations → Term → Term → Term → Term → Type 0
Ways r t u v w = (r v w ≡ true) ⊎ (((r v t ≡ true) × (r u w ≡ true)) ⊎ ((r v u ≡ true) × (r t w ≡ true)))

pub ways : (r : Equations) (t u v w : Term) → joined r t u v w ≡ true → Ways r t u v w
ways r t u v w e =
    elim (or_cases (r v w || (r v t && r u w)) (r v u && r t w) e) [
      | inl first ↦ elim (or_cases (r v w) (r v t && r u w) first) [
        | inl direct ↦ inl direct
        | inr forth ↦ inr (inl (and_parts (r v t) (r u w) forth))
      ]
      | inr back ↦ inr (inr (and_parts (r v u) (r t w) back))
    ]

pub from_ways : (r : Equations) (t u v w : Term) → Ways r t u v w → joined r t u v w ≡ true
from_ways r t u v w (inl direct) = or_left _ _ (or_left _ _ direct)
from_ways r t u v w (inr (inl forth)) = or_left _ _ (or_right (r v w) _ (and_from _ _ forth.0 forth.1))
from_ways r t u v w (inr (inr back)) = or_right (r v w || (r v t && r u w)) _ (and_from _ _ back.0 back.1)

swapped_ways : (r : Equations) (t u v w : Term) → IsTerm t → IsTerm u → IsTerm v → IsTerm w → IsEquivalence r → Ways r t u v w → Ways r t u w v
swapped_ways r t u v w t_term u_term v_term w_term is (inl direct) = inl (is.symmetric v w v_term w_term direct)
swapped_ways r t u v w t_term u_term v_term w_term is (inr (inl forth)) =
    inr (inr (is.symmetric u w u_term w_term forth.1, is.symmetric v t v_term t_term forth.0))
swapped_ways r t u v w t_term u_term v_term w_term is (inr (inr back)) =
    inr (inl (is.symmetric t w t_term w_term back.1, is.symmetric v u v_term u_term back.0))

joined_ways : (r : Equations) (t u x y z : Term) → IsTerm t → IsTerm u → IsTerm x → IsTerm y → IsTerm z → IsEquivalence r
    → Ways r t u x y → Ways r t u y z → Ways r t u x z
joined_ways r t u x y z t_term u_term x_term y_term z_term is (inl a) (inl b) = inl (is.transitive x y z x_term y_term z_term a b)
joined_ways r t u x y z t_term u_term x_term y_term z_term is (inl a) (inr (inl b)) =
    inr (inl (is.transitive x y t x_term y_term t_term a b.0, b.1))
joined_ways r t u x y z t_term u_term x_term y_term z_term is (inl a) (inr (inr b)) =
    inr (inr (is.transitive x y u x_term y_term u_term a b.0, b.1))
joined_ways r t u x y z t_term u_term x_term y_term z_term is (inr (inl a)) (inl b) =
    inr (inl (a.0, is.transitive u y z u_term y_term z_term a.1 b))
joined_ways r t u x y z t_term u_term x_term y_term z_term is (inr (inl a)) (inr (inl b)) = inr (inl (a.0, b.1))
joined_ways r t u x y z t_term u_term x_term y_term z_term is (inr (inl a)) (inr (inr b)) =
    inl (is.transitive x t z x_term t_term z_term a.0 b.1)
joined_ways r t u x y z t_term u_term x_term y_term z_term is (inr (inr a)) (inl b) =
    inr (inr (a.0, is.transitive t y z t_term y_term z_term a.1 b))
joined_ways r t u x y z t_term u_term x_term y_term z_term is (inr (inr a)) (inr (inl b)) =
    inl (is.transitive x u z x_term u_term z_term a.0 b.1)
joined_ways r t u x y z t_term u_term x_term y_term z_term is (inr (inr a)) (inr (inr b)) = inr (inr (a.0, b.1))

-- the join of an equivalence is an equivalence
pub joined_is : (r : Equations) (t u : Term) → IsTerm t → IsTerm u → IsEquivalence r → IsEquivalence (joined r t u)
joined_is r t u t_term u_term is = record {
  reflexive = λ v v_term. from_ways r t u v v (inl (is.reflexive v v_term));
  symmetric = λ v w v_term w_term e. from_ways r t u w v (swapped_ways r t u v w t_term u_term v_term w_term is (ways r t u v w e));
  transitive = λ x y z x_term y_term z_term a b. from_ways r t u x z
      (joined_ways r t u x y z t_term u_term x_term y_term z_term is (ways r t u x y a) (ways r t u y z b));
}

within_ways : (r s : Equations) (t u v w : Term) → IsTerm t → IsTerm u → IsTerm v → IsTerm w → IsEquivalence s → Includes s r → s t u ≡ true
    → Ways r t u v w → s v w ≡ true
within_ways r s t u v w t_term u_term v_term w_term is more equal (inl a) = more v w v_term w_term a
within_ways r s t u v w t_term u_term v_term w_term is more equal (inr (inl a)) =
    is.transitive v t w v_term t_term w_term (more v t v_term t_term a.0)
    (is.transitive t u w t_term u_term w_term equal (more u w u_term w_term a.1))
within_ways r s t u v w t_term u_term v_term w_term is more equal (inr (inr a)) =
    is.transitive v u w v_term u_term w_term (more v u v_term u_term a.0)
    (is.transitive u t w u_term t_term w_term (is.symmetric t u t_term u_term equal) (more t w t_term w_term a.1))

-- a join is within each equivalence that holds what was known and the new equation
pub joined_within : (r s : Equations) (t u : Term) → IsTerm t → IsTerm u → IsEquivalence s → Includes s r → s t u ≡ true → Includes s (joined r t u)
joined_within r s t u t_term u_term is more equal v w v_term w_term e =
    within_ways r s t u v w t_term u_term v_term w_term is more equal (ways r t u v w e)

-- a join keeps what was known
pub joined_keeps : (r : Equations) (t u : Term) → Includes (joined r t u) r
joined_keeps r t u v w v_term w_term e = from_ways r t u v w (inl e)

-- a join makes the two terms equal
pub joined_equates : (r : Equations) (t u : Term) → IsTerm t → IsTerm u → IsEquivalence r → joined r t u t u ≡ true
joined_equates r t u t_term u_term is = from_ways r t u t u (inr (inl (is.reflexive t t_term, is.reflexive u u_term)))

-- what holds in both of two equivalences holds in each, and what holds in each holds in both
pub met_below : (r s : Equations) → Includes r (met r s) × Includes s (met r s)
met_below r s = (λ v w _ _ e. (and_parts (r v w) (s v w) e).0, λ v w _ _ e. (and_parts (r v w) (s v w) e).1)

pub met_greatest : (r s q : Equations) → Includes r q → Includes s q → Includes (met r s) q
met_greatest r s q left right v w v_term w_term e = and_from _ _ (left v w v_term w_term e) (right v w v_term w_term e)

-- what two equivalences have in common is an equivalence
pub met_is : (r s : Equations) → IsEquivalence r → IsEquivalence s → IsEquivalence (met r s)
met_is r s one two = record {
  reflexive = λ v v_term. and_from _ _ (one.reflexive v v_term) (two.reflexive v v_term);
  symmetric = λ v w v_term w_term e.
      let parts = and_parts (r v w) (s v w) e in
      and_from _ _ (one.symmetric v w v_term w_term parts.0) (two.symmetric v w v_term w_term parts.1);
  transitive = λ u v w u_term v_term w_term a b.
      let left = and_parts (r u v) (s u v) a in
      let right = and_parts (r v w) (s v w) b in
      and_from _ _ (one.transitive u v w u_term v_term w_term left.0 right.0) (two.transitive u v w u_term v_term w_term left.1 right.1);
}

-- what a term stands for is a term
pub read_as-IsTerm : (reg : ℕ) (t v : Term) → IsTerm t → IsTerm v → IsTerm (read_as reg t v)
read_as-IsTerm reg t v t_term v_term =
    elim (same_term v (Reg reg)) as (λ b. IsTerm (if b then t else v)) [ true ↦ t_term | false ↦ v_term ]

-- a register that stands for a term leaves an equivalence
pub written-Some_is : (r : Equations) (reg : ℕ) (t : Term) → IsTerm t → IsEquivalence r → IsEquivalence (written r reg (Some t))
written-Some_is r reg t t_term is =
    let as_term : (v : Term) → IsTerm v → IsTerm (read_as reg t v) = λ v v_term. read_as-IsTerm reg t v t_term v_term in
    record {
      reflexive = λ v v_term. is.reflexive _ (as_term v v_term);
      symmetric = λ v w v_term w_term e. is.symmetric _ _ (as_term v v_term) (as_term w w_term) e;
      transitive = λ u v w u_term v_term w_term a b. is.transitive _ _ _ (as_term u u_term) (as_term v v_term) (as_term w w_term) a b;
    }

-- the two ways in which terms are equal once a register is alone
abbrev pub AloneWays : Equations → ℕ → Term → Term → Type 0
AloneWays r reg v w =
    (same_term v w ≡ true) ⊎ ((not (same_term v (Reg reg)) ≡ true) × (not (same_term w (Reg reg)) ≡ true) × (r v w ≡ true))

pub alone_ways : (r : Equations) (reg : ℕ) (v w : Term) → written r reg None v w ≡ true → AloneWays r reg v w
alone_ways r reg v w e =
    elim (or_cases (same_term v w) _ e) [
      | inl same ↦ inl same
      | inr known ↦
          let parts = and_parts (not (same_term v (Reg reg)) && not (same_term w (Reg reg))) (r v w) known in
          let others = and_parts (not (same_term v (Reg reg))) (not (same_term w (Reg reg))) parts.0 in
          inr (others.0, others.1, parts.1)
    ]

pub from_alone_ways : (r : Equations) (reg : ℕ) (v w : Term) → AloneWays r reg v w → written r reg None v w ≡ true
from_alone_ways r reg v w (inl same) = or_left _ _ same
from_alone_ways r reg v w (inr known) = or_right (same_term v w) _ (and_from _ _ (and_from _ _ known.0 known.1) known.2)

swapped_alone_ways : (r : Equations) (reg : ℕ) (v w : Term) → IsTerm v → IsTerm w → IsEquivalence r → AloneWays r reg v w → AloneWays r reg w v
swapped_alone_ways r reg v w v_term w_term is (inl same) =
    inl (subst (λ x. same_term x v ≡ true) (same_term-is v w same) (same_term-same v))
swapped_alone_ways r reg v w v_term w_term is (inr known) = inr (known.1, known.0, is.symmetric v w v_term w_term known.2)

joined_alone_ways : (r : Equations) (reg : ℕ) (u v w : Term) → IsTerm u → IsTerm v → IsTerm w → IsEquivalence r
    → AloneWays r reg u v → AloneWays r reg v w → AloneWays r reg u w
joined_alone_ways r reg u v w u_term v_term w_term is (inl a) b = subst (λ x. AloneWays r reg x w) (sym (same_term-is u v a)) b
joined_alone_ways r reg u v w u_term v_term w_term is (inr a) (inl b) =
    let left : AloneWays r reg u v = inr a in subst (λ x. AloneWays r reg u x) (same_term-is v w b) left
joined_alone_ways r reg u v w u_term v_term w_term is (inr a) (inr b) = inr (a.0, b.1, is.transitive u v w u_term v_term w_term a.2 b.2)

-- a register that is alone leaves an equivalence
pub written-None_is : (r : Equations) (reg : ℕ) → IsEquivalence r → IsEquivalence (written r reg None)
written-None_is r reg is = record {
  reflexive = λ v v_term. from_alone_ways r reg v v (inl (same_term-same v));
  symmetric = λ v w v_term w_term e. from_alone_ways r reg w v (swapped_alone_ways r reg v w v_term w_term is (alone_ways r reg v w e));
  transitive = λ u v w u_term v_term w_term a b. from_alone_ways r reg u w
      (joined_alone_ways r reg u v w u_term v_term w_term is (alone_ways r reg u v a) (alone_ways r reg v w b));
}

more_ways : (r s : Equations) (t u v w : Term) → IsTerm t → IsTerm u → IsTerm v → IsTerm w → Includes r s → Ways s t u v w → Ways r t u v w
more_ways r s t u v w t_term u_term v_term w_term more (inl a) = inl (more v w v_term w_term a)
more_ways r s t u v w t_term u_term v_term w_term more (inr (inl a)) = inr (inl (more v t v_term t_term a.0, more u w u_term w_term a.1))
more_ways r s t u v w t_term u_term v_term w_term more (inr (inr a)) = inr (inr (more v u v_term u_term a.0, more t w t_term w_term a.1))

-- a join of more has more
pub joined-more : (r s : Equations) (t u : Term) → IsTerm t → IsTerm u → Includes r s → Includes (joined r t u) (joined s t u)
joined-more r s t u t_term u_term more v w v_term w_term e =
    from_ways r t u v w (more_ways r s t u v w t_term u_term v_term w_term more (ways s t u v w e))

-- a write in more leaves more
pub written-Some-more : (r s : Equations) (reg : ℕ) (t : Term) → IsTerm t → Includes r s → Includes (written r reg (Some t)) (written s reg (Some t))
written-Some-more r s reg t t_term more v w v_term w_term e =
    more _ _ (read_as-IsTerm reg t v t_term v_term) (read_as-IsTerm reg t w t_term w_term) e

more_alone_ways : (r s : Equations) (reg : ℕ) (v w : Term) → IsTerm v → IsTerm w → Includes r s → AloneWays s reg v w → AloneWays r reg v w
more_alone_ways r s reg v w v_term w_term more (inl same) = inl same
more_alone_ways r s reg v w v_term w_term more (inr known) = inr (known.0, known.1, more v w v_term w_term known.2)

pub written-None-more : (r s : Equations) (reg : ℕ) → Includes r s → Includes (written r reg None) (written s reg None)
written-None-more r s reg more v w v_term w_term e =
    from_alone_ways r reg v w (more_alone_ways r s reg v w v_term w_term more (alone_ways s reg v w e))
