-- Finishes stay nested where a stay opens one more.
use Rattle.std.proofs.Common.{◌≡◌, ℕ, zero, suc, ◌+◌, ◌<◌, ◌≤◌, Bool, true, false, if◌then◌else◌, ◌∷◌, Option, Some, ◌⊎◌, inl, inr, refl, sym, ◌∙◌, ap, subst, arith}
use Rattle.std.proofs.lemmas.Bool.{eq-eqb}
use Rattle.std.proofs.lemmas.Option.{same_Some}
use Rattle.x10_model.specs.Maps.{with_entry, with_pair}
use Rattle.x10_model.specs.declared.finish.Finish.{Finish}
use Rattle.x10_model.specs.Places.{root, Stay, innermost_of, innermost}
use Rattle.x10_model.specs.Worlds.{same_finish, Post, with_enclosing}
use Rattle.x10_model.proofs.Maps.{at_key}
use Rattle.x10_finish.specs.Nesting.{Stays, nth, outside, IsOpen, IsHeld, IsNested}
use Rattle.x10_model.proofs.SameFinishes.{same_is}
use Rattle.x10_finish.proofs.Entries.{at_entry, at_pair}
use Rattle.x10_finish.proofs.NestedFinishes.{pair_same, pair_other, open_on, held_on, add_none, add_one, moved_at}

-- ---- a finish is opened

-- a finish of a stay afterwards was there before, or is the new one
abbrev WasThere : Stays → (ℕ → ℕ → ℕ) → ℕ → ℕ → ℕ → ℕ → Stay → Type 0
WasThere stays d p k i m u = (s : Stay) × (j : ℕ) × (stays p k ≡ Some s) × (nth s.finishes j ≡ Some m) × (u.inherited ≡ s.inherited)
    × (outside u.finishes i ≡ outside s.finishes j) × (i ≡ d p k + j)

abbrev IsFirst : ℕ → ℕ → ℕ → Stay → ℕ → ℕ → ℕ → ℕ → Stay → Type 0
IsFirst here key number s p k i m u = (p ≡ here) × (k ≡ key) × (i ≡ 0) × (m ≡ number) × (u.inherited ≡ s.inherited)
    × (outside u.finishes i ≡ s.finishes)

pushed : (stays : Stays) (here key number p k m : ℕ) (s u : Stay) (i : ℕ) → stays p k ≡ Some s → p ≡ here → k ≡ key → u.finishes ≡ number ∷ s.finishes
    → u.inherited ≡ s.inherited → nth u.finishes i ≡ Some m
    → WasThere stays (with_pair (λ p k. 0) here key 1) p k i m u ⊎ IsFirst here key number s p k i m u
pushed stays here key number p k m s u zero e ep ek stack same h =
    inr (ep, ek, refl, same_Some m number (sym h ∙ ap (λ xs. nth xs 0) stack), same, ap (λ xs. outside xs 0) stack)
pushed stays here key number p k m s u (suc i) e ep ek stack same h =
    inl (
      s,
      i,
      e,
      sym (ap (λ xs. nth xs (suc i)) stack) ∙ h,
      same,
      ap (λ xs. outside xs (suc i)) stack,
      add_one i ∙ ap (λ x. x + i) (sym (ap (λ x. with_pair (λ p k. 0) here key 1 x k) ep ∙ ap (with_pair (λ p k. 0) here key 1 here) ek
          ∙ pair_same (λ p k. 0) here key 1)),
    )

other_if : {X : Type 0} (t : Bool) (x y : X) → (t ≡ true → ⊥) → (if t then x else y) ≡ y
other_if true x y h = absurd (h refl)
other_if false x y h = refl

pub grown : (opened : ℕ → ℕ) (here p : ℕ) → opened p ≤ with_entry opened here (opened here + 1) p
grown opened here p = at_entry (λ v. opened p ≤ v) opened here p (opened here + 1) (λ same. (let e = ap opened same in omega arith))
    (λ apart. omega arith)

-- what was numbered before is not the new one
not_new : (opened : ℕ → ℕ) (here number p m : ℕ) → p ≡ here → m ≡ number → number ≡ opened here → m < opened p → ⊥
not_new opened here number p m ep em count lt = (let e = ap opened ep in omega arith)

pub encloses_new : (enclosing : Finish → Option Finish) (here number : ℕ) (inside f : Finish) → f.home ≡ here → f.number ≡ number
    → with_enclosing enclosing (record { home = here; number = number }) inside f ≡ Some inside
encloses_new enclosing here number inside f eh en = (let p = eq-eqb f.home here eh in let q = eq-eqb f.number number en in rw (p, q) refl)

pub encloses_other : (enclosing : Finish → Option Finish) (here number : ℕ) (inside f : Finish) → (f ≡ record { home = here; number = number } → ⊥)
    → with_enclosing enclosing (record { home = here; number = number }) inside f ≡ enclosing f
encloses_other enclosing here number inside f apart = other_if (same_finish f (record { home = here; number = number })) (Some inside) (enclosing f)
    (λ e. apart (same_is f (record { home = here; number = number }) e))

pub opened_stays : (stays : Stays) (opened : ℕ → ℕ) (enclosing : Finish → Option Finish) (posts : ℕ → Post) (here key number : ℕ) (s t : Stay)
    → IsNested stays opened enclosing posts → stays here key ≡ Some s → number ≡ opened here → t.finishes ≡ number ∷ s.finishes
    → t.inherited ≡ s.inherited → IsNested (with_pair stays here key (Some t)) (with_entry opened here (opened here + 1))
    (with_enclosing enclosing (record { home = here; number = number }) (innermost here s)) posts
opened_stays stays opened enclosing posts here key number s t n e count stack same =
    let d : ℕ → ℕ → ℕ = with_pair (λ p k. 0) here key 1 in
    let cases : (p k i m : ℕ) (u : Stay) → with_pair stays here key (Some t) p k ≡ Some u → nth u.finishes i ≡ Some m
    → WasThere stays d p k i m u ⊎ IsFirst here key number s p k i m u =
    λ p k i m u h at. at_pair (λ o. o ≡ Some u → WasThere stays d p k i m u ⊎ IsFirst here key number s p k i m u) stays here key p k (Some t)
    (λ ep ek is. (let t_is = same_Some t u is in pushed stays here key number p k m s u i (moved_at stays here key p k s e ep ek) ep ek
    (ap (λ (x : Stay). x.finishes) (sym t_is) ∙ stack) (ap (λ (x : Stay). x.inherited) (sym t_is) ∙ same) at))
    (λ other is. inl (u, i, is, at, refl, refl, add_none i ∙ ap (λ x. x + i) (sym (pair_other (λ p k. 0) here key p k 1 other)))) h in
    let on : (f : Finish) → IsOpen stays f → IsOpen (with_pair stays here key (Some t)) f =
    λ f o. open_on stays here key (Some t) f (λ i s' e' eh h. (
      key,
      suc i,
      t,
      ap (λ x. with_pair stays here key (Some t) x key) eh ∙ pair_same stays here key (Some t),
      ap (λ xs. nth xs (suc i)) stack ∙ ap (λ xs. nth xs i) (ap (λ (x : Stay). x.finishes) (same_Some s s' (sym e ∙ e'))) ∙ h,
    )) o in
    record {
      numbered = λ p k i m u h at. elim (cases p k i m u h at) [
        | inl w ↦ (let lt = n.numbered p k w.1 m w.0 w.2 w.3 in let le = grown opened here p in omega (arith, lt, le))
        | inr f ↦ (let here_now = ap (with_entry opened here (opened here + 1)) f.0 ∙ at_key opened here (opened here + 1) in let is = f.3 ∙ count in
            omega (arith, here_now, is))
      ];
      apart = λ p k l i j m u v h g at bt. elim (cases p k i m u h at) [
        | inl w ↦ elim (cases p l j m v g bt) [
          | inl x ↦ (let both = n.apart p k l w.1 x.1 m w.0 x.0 w.2 x.2 w.3 x.3 in
              let depth : d p k ≡ d p l = ap (d p) both.0 in
              let sum = both.1 in
              let left = w.6 in
              let right = x.6 in
              (both.0, omega (arith, depth, sum, left, right)))
          | inr f ↦ absurd (not_new opened here number p m f.0 f.3 count (n.numbered p k w.1 m w.0 w.2 w.3))
        ]
        | inr f ↦ elim (cases p l j m v g bt) [
          | inl x ↦ absurd (not_new opened here number p m f.0 f.3 count (n.numbered p l x.1 m x.0 x.2 x.3))
          | inr f2 ↦ (f.1 ∙ sym f2.1, f.2 ∙ sym f2.2)
        ]
      ];
      enclosed = λ p k i m u h at. elim (cases p k i m u h at) [
        | inl w ↦ encloses_other enclosing here number (innermost here s) (record { home = p; number = m })
            (λ is. not_new opened here number p m (ap (λ (x : Finish). x.home) is) (ap (λ (x : Finish). x.number) is) count
            (n.numbered p k w.1 m w.0 w.2 w.3))
            ∙ n.enclosed p k w.1 m w.0 w.2 w.3 ∙ ap (λ f. Some (innermost_of p f (outside w.0.finishes w.1))) (sym w.4)
            ∙ ap (λ xs. Some (innermost_of p u.inherited xs)) (sym w.5)
        | inr f ↦ encloses_new enclosing here number (innermost here s) (record { home = p; number = m }) f.0 f.3
            ∙ ap (λ x. Some (innermost_of here x s.finishes)) (sym f.4) ∙ ap (λ xs. Some (innermost_of here u.inherited xs)) (sym f.5)
            ∙ ap (λ x. Some (innermost_of x u.inherited (outside u.finishes i))) (sym f.0)
      ];
      root_outer = encloses_other enclosing here number (innermost here s) root
          (λ is. not_new opened here number 0 0 (ap (λ (x : Finish). x.home) is) (ap (λ (x : Finish). x.number) is) count n.root_opened)
          ∙ n.root_outer;
      root_opened = (let le = grown opened here 0 in let lt = n.root_opened in omega (arith, le, lt));
      inherited = λ p k u h. held_on stays (with_pair stays here key (Some t)) u.inherited (on u.inherited)
          (at_pair (λ o. o ≡ Some u → IsHeld stays u.inherited) stays here key p k (Some t)
          (λ ep ek is. subst (IsHeld stays) (sym same ∙ ap (λ (x : Stay). x.inherited) (same_Some t u is)) (n.inherited here key s e))
          (λ other is. n.inherited p k u is) h);
      carried = λ m message f flies under. held_on stays (with_pair stays here key (Some t)) f (on f) (n.carried m message f flies under);
    }
