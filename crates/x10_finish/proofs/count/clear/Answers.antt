use Rattle.std.proofs.Common.{◌≡◌, ℕ, zero, suc, List, [], ◌++◌, take, replicate, slice_index, refl, ◌∙◌, ap}
use Rattle.std.proofs.Math.Path.{fun_ext}
use Rattle.x10_finish.proofs.count.clear.Goals as goal

zero_at : (n p : ℕ) → slice_index (replicate n 0) p ≡ 0
zero_at zero p = refl
zero_at (suc n) zero = refl
zero_at (suc n) (suc p) = zero_at n p

longer_at : (n m p : ℕ) → slice_index (take n [] ++ replicate m 0) p ≡ 0
longer_at zero m p = zero_at m p
longer_at (suc n) m p = zero_at m p

-- what is made longer from nothing holds zeros alone
zeros : (n m : ℕ) (old new : List ℕ) → old ≡ [] → new ≡ take n old ++ replicate m 0 → slice_index new ≡ (λ p. 0)
zeros n m old new none e =
    fun_ext (λ p. ap (λ xs. slice_index xs p) (e ∙ ap (λ xs. take n xs ++ replicate m 0) none) ∙ longer_at n m p)

pub returns-clause-nothing : goal.returns-clause-nothing
returns-clause-nothing c =
    let sent = zeros c.from-places.result _ c.clear.new.self.items c.resize.new.self.items c.clear.ensures.items c.in_ok-resize.ensures.items in
    let received = zeros c.from-places.result _ c.clear-2.new.self.items c.resize-2.new.self.items c.clear-2.ensures.items
    c.in_ok-resize-2.ensures.items in
    λ i. record { live = 0; sent = sent i; received = received i }
