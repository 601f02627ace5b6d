-- The worked run over three places: at the end of the inner finish all that it governs has ended.
use Rattle.std.proofs.Common.{◌≡◌, ℕ, zero, suc, List, ◌∷◌, Some, refl, ap, subst, inl, inr, arith}
use Rattle.std.proofs.lemmas.Bool.{cases_eq, eq-eqb, ne_eqb}
use Rattle.x10_model.specs.Maps.{with_entry}
use Rattle.x10_model.specs.declared.finish.Finish.{Finish}
use Rattle.x10_model.specs.Places.{root, Message}
use Rattle.x10_model.specs.Worlds.{Post, Unused, Flying, Taken, IsWithin, itself, enclosed, stays, flies, HasEnded}
use Rattle.x10_model.proofs.RelayMoves.{inner, goes_there, begins_other, comes_back}
use Rattle.x10_model.proofs.RelayWorlds.{w13}

taken_lands : (posts : ℕ → Post) (k n : ℕ) (m : Message) → ((n ≡ k → ⊥) → posts n ≡ Flying m → ⊥) → with_entry posts k Taken n ≡ Flying m → ⊥
taken_lands posts k n m h = elim (cases_eq n k) [
  | inl same ↦ (let t = eq-eqb n k same in rw t (λ e. absurd cc))
  | inr other ↦ (let t = ne_eqb n k other in rw t (h other))
]

off : (posts : ℕ → Post) (k n : ℕ) (p q : Post) → (n ≡ k → ⊥) → with_entry posts k p n ≡ q → posts n ≡ q
off posts k n p q other = (let t = ne_eqb n k other in rw t (λ e. e))

-- ---- no message flies

abbrev posts0 : ℕ → Post
posts0 = λ k. Unused

abbrev posts1 : ℕ → Post
posts1 = with_entry posts0 0 (Flying goes_there)

abbrev posts2 : ℕ → Post
posts2 = with_entry posts1 0 Taken

abbrev posts3 : ℕ → Post
posts3 = with_entry posts2 1 (Flying begins_other)

abbrev posts4 : ℕ → Post
posts4 = with_entry posts3 2 (Flying comes_back)

abbrev posts5 : ℕ → Post
posts5 = with_entry posts4 2 Taken

abbrev posts6 : ℕ → Post
posts6 = with_entry posts5 1 Taken

unused_lands : (m : Message) → Unused ≡ Flying m → ⊥
unused_lands m e = absurd cc

none_flies : (n : ℕ) (m : Message) → posts6 n ≡ Flying m → ⊥
none_flies n m = taken_lands posts5 1 n m (λ one. taken_lands posts4 2 n m (λ two e2.
    let e1 : posts2 n ≡ Flying m = off posts2 1 n (Flying begins_other) (Flying m) one (off posts3 2 n (Flying comes_back) (Flying m) two e2) in
    taken_lands posts1 0 n m (λ none e0. unused_lands m (off posts0 0 n (Flying goes_there) (Flying m) none e0)) e1))

-- ---- no activity of the finish has a stay

-- main was started under the root, which stands in no finish
apart : (n m : ℕ) → n ≡ 1 → m ≡ 0 → n ≡ m → ⊥
apart n m one none e = omega arith

root_outside : IsWithin w13.net.enclosing inner root → ⊥
root_outside h = outside root refl h
  where
    outside : (f : Finish) → f ≡ root → IsWithin w13.net.enclosing inner f → ⊥
    outside f e itself = apart 1 0 refl refl (ap (λ (g : Finish). g.number) e)
    outside f e (enclosed g h is more) = (let none : w13.net.enclosing root ≡ Some h = subst (λ (k : Finish). w13.net.enclosing k ≡ Some h) e is in
        absurd cc)

no_stays : (a : ℕ) → a ≡ 1 → (stay : ℕ × ℕ) (rest : List (ℕ × ℕ)) → (w13.book.activities a).stays ≡ stay ∷ rest → ⊥
no_stays a e stay rest f = (let g : (w13.book.activities 1).stays ≡ stay ∷ rest = subst (λ k. (w13.book.activities k).stays ≡ stay ∷ rest) e f in
    absurd cc)

pub inner_ended : HasEnded w13 inner
inner_ended zero governs lives = root_outside governs
inner_ended (suc zero) governs (stays stay rest lt e) = no_stays 1 refl stay rest e
inner_ended (suc (suc a)) governs (stays stay rest lt e) = absurd (omega (arith, lt))
inner_ended (suc a) governs (flies number message lt flying spawn carries) = none_flies number message flying
