-- Callers: each stands at a call of the function of the next one.
use Rattle.std.proofs.Common.{◌≡◌, ℕ, List, [], ◌∷◌, ◌++◌, Box, refl, sym, ap, ◌∙◌, subst}
use Rattle.std.proofs.lemmas.List.{map-append}
use Rattle.x10_model.specs.Modules.{Module}
use Rattle.x10_place.specs.declared.call_frame.CallFrame.{CallFrame}
use Rattle.x10_place.specs.Stays.{StayState, frames_of, IsCalling, AreCalling, IsPlaced, next_function}

last_next : (fs : List CallFrame) (f : CallFrame) (top : ℕ) → next_function (fs ++ f ∷ []) top ≡ next_function fs f.function
last_next [] f top = refl
last_next (g ∷ gs) f top = refl

-- the last caller, and those before it
pub chain_last : (program : Module) (fs : List CallFrame) (f : CallFrame) (top : ℕ) → AreCalling program (fs ++ f ∷ []) top
    → IsCalling program f top × AreCalling program fs f.function
chain_last program [] f top h = (h.0, tt)
chain_last program (g ∷ gs) f top h =
    let rest = chain_last program gs f top h.1 in
    (rest.0, (subst (λ n. IsCalling program g n) (last_next gs f top) h.0, rest.1))

-- one caller more
pub chain_more : (program : Module) (fs : List CallFrame) (f : CallFrame) (top : ℕ) → AreCalling program fs f.function → IsCalling program f top
    → AreCalling program (fs ++ f ∷ []) top
chain_more program [] f top h calling = (calling, tt)
chain_more program (g ∷ gs) f top h calling = (
  subst (λ n. IsCalling program g n) (sym (last_next gs f top)) h.0,
  chain_more program gs f top h.1 calling,
)

-- the last caller of a stay
pub caller_is : (program : Module) (a : StayState) (fs : List CallFrame) (f : CallFrame) → IsPlaced program a → a.callers ≡ fs ++ f ∷ []
    → IsCalling program f a.top.function × AreCalling program fs f.function
caller_is program a fs f placed e = chain_last program fs f a.top.function (subst (λ gs. AreCalling program gs a.top.function) e placed.callers)

-- the call frames in boxes, where one box more stands last
pub frames_with : {Z : Type 0} (all boxes : List (Box CallFrame Z)) (b : Box CallFrame Z) → all ≡ boxes ++ b ∷ []
    → frames_of all ≡ frames_of boxes ++ b.value ∷ []
frames_with all boxes b e = ap frames_of e ∙ map-append (λ b. b.value) boxes (b ∷ [])
