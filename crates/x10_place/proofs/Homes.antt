-- Place equations that are true of a call frame: what keeps them true, and that they are true at the entry of a function.
use Rattle.std.proofs.Common.{◌≡◌, ℕ, suc, ◌+◌, ◌<◌, ◌≤◌, Bool, true, false, not, ◌==◌, if◌then◌else◌, List, [], ◌∷◌, length, Option, Some, None, refl, sym, ap, ◌∙◌, arith, inl, inr}
use Rattle.std.specs.Prelude.{slice_get}
use Rattle.x10_kinds.specs.declared.homes.Term.{Term}
use Rattle.x10_kinds.specs.declared.homes.Term.TheVariants as term
use Rattle.x10_kinds.specs.Equations.{Equations, IsTerm, alone, joined, written, same_term, read_as}
use Rattle.x10_kinds.proofs.Terms.{same_term-is}
use Rattle.x10_kinds.proofs.Equivalences.{Ways, ways, AloneWays, alone_ways, read_as-IsTerm}
use Rattle.x10_model.specs.Maps.{with_entry}
use Rattle.x10_model.specs.Modules.{Function}
use Rattle.x10_model.specs.declared.slot.Slot.{Slot}
use Rattle.x10_model.specs.Values.{Value, Ref, Cells, IsOfKind}
use Rattle.x10_model.specs.Signatures.{HasHome, FitsSlotAt, FitSlots}
use Rattle.x10_model.specs.Results.{place_of}
use Rattle.x10_model.specs.Assignments.{State, IsBelow, homes_here, entry_state, like_if}
use Rattle.x10_place.specs.Homes.{place_in, place_at, AreHomes, IsLike}

-- ---- what is known changes

-- a state that knows less
pub homes_weaken : (here : ℕ) (s t : State) (registers : ℕ → Option Value) → IsBelow s t → AreHomes here s.homes registers
    → AreHomes here t.homes registers
homes_weaken here s t registers below homes v w v_term w_term e = homes v w v_term w_term (below.homes v w v_term w_term e)

-- a term stands for one place
pub homes_alone : (here : ℕ) (registers : ℕ → Option Value) → AreHomes here alone registers
homes_alone here registers v w v_term w_term e = ap (place_at here registers) (same_term-is v w e)

joined_place : (here : ℕ) (e : Equations) (registers : ℕ → Option Value) (t u v w : Term) → IsTerm t → IsTerm u → IsTerm v → IsTerm w
    → AreHomes here e registers → place_at here registers t ≡ place_at here registers u → Ways e t u v w
    → place_at here registers v ≡ place_at here registers w
joined_place here e registers t u v w t_term u_term v_term w_term homes same (inl direct) = homes v w v_term w_term direct
joined_place here e registers t u v w t_term u_term v_term w_term homes same (inr (inl forth)) =
    homes v t v_term t_term forth.0 ∙ same ∙ homes u w u_term w_term forth.1
joined_place here e registers t u v w t_term u_term v_term w_term homes same (inr (inr back)) =
    homes v u v_term u_term back.0 ∙ sym same ∙ homes t w t_term w_term back.1

-- an equation more, of two terms that stand for the same place
pub homes_joined : (here : ℕ) (e : Equations) (registers : ℕ → Option Value) (t u : Term) → AreHomes here e registers → IsTerm t → IsTerm u
    → place_at here registers t ≡ place_at here registers u → AreHomes here (joined e t u) registers
homes_joined here e registers t u homes t_term u_term same v w v_term w_term known =
    joined_place here e registers t u v w t_term u_term v_term w_term homes same (ways e t u v w known)

-- ---- writing a register

-- after the write, a term stands for the place for which what it is read as stood before
read_chosen : (here : ℕ) (registers : ℕ → Option Value) (t u : Term) (x : Value) (o : Option Value) (b : Bool)
    → place_at here registers t ≡ place_of x
    → place_in o ≡ place_at here registers u → place_in (if b then Some x else o) ≡ place_at here registers (if b then t else u)
read_chosen here registers t u x o true like same = sym like
read_chosen here registers t u x o false like same = same

read_place : (here : ℕ) (registers : ℕ → Option Value) (a : ℕ) (t : Term) (x : Value) (v : Term) → place_at here registers t ≡ place_of x
    → place_at here (with_entry registers a (Some x)) v ≡ place_at here registers (read_as a t v)
read_place here registers a t x term.Here like = refl
read_place here registers a t x (term.Place p) like = refl
read_place here registers a t x (term.Reg r) like = read_chosen here registers t (term.Reg r) x (registers r) (r == a) like refl

-- a term that is not the register stands for the same place as before
other_chosen : (x : Value) (o : Option Value) (b : Bool) → not b ≡ true → place_in (if b then Some x else o) ≡ place_in o
other_chosen x o true other = absurd cc
other_chosen x o false other = refl

other_place : (here : ℕ) (registers : ℕ → Option Value) (a : ℕ) (x : Value) (v : Term) → not (same_term v (term.Reg a)) ≡ true
    → place_at here (with_entry registers a (Some x)) v ≡ place_at here registers v
other_place here registers a x term.Here other = refl
other_place here registers a x (term.Place p) other = refl
other_place here registers a x (term.Reg r) other = other_chosen x (registers r) (r == a) other

alone_place : (here : ℕ) (e : Equations) (registers : ℕ → Option Value) (a : ℕ) (x : Value) (v w : Term) → IsTerm v → IsTerm w
    → AreHomes here e registers
    → AloneWays e a v w → place_at here (with_entry registers a (Some x)) v ≡ place_at here (with_entry registers a (Some x)) w
alone_place here e registers a x v w v_term w_term homes (inl same) = ap (place_at here (with_entry registers a (Some x))) (same_term-is v w same)
alone_place here e registers a x v w v_term w_term homes (inr known) =
    other_place here registers a x v known.0 ∙ homes v w v_term w_term known.2 ∙ sym (other_place here registers a x w known.1)

-- a value is written to a register, like a term or like none that is known
pub homes_written : (here : ℕ) (e : Equations) (registers : ℕ → Option Value) (a : ℕ) (like : Option Term) (x : Value) → AreHomes here e registers
    → IsLike here registers like x → AreHomes here (written e a like) (with_entry registers a (Some x))
homes_written here e registers a None x homes is_like v w v_term w_term known =
    alone_place here e registers a x v w v_term w_term homes (alone_ways e a v w known)
homes_written here e registers a (Some t) x homes is_like v w v_term w_term known =
    read_place here registers a t x v is_like.1
    ∙ homes (read_as a t v) (read_as a t w) (read_as-IsTerm a t v is_like.0 v_term) (read_as-IsTerm a t w is_like.0 w_term) known
    ∙ sym (read_place here registers a t x w is_like.1)

-- ---- values that are like a term

-- a value with a home stands for that place
home_place : (at : ℕ) (v : Value) → HasHome at v → place_of v ≡ Some at
home_place at (Ref home id class) home_is = ap Some home_is
home_place at _ home_is = absurd home_is

-- a value that fits a slot at a term's place is like the term, where the slot asks for a home
pub slot_like : (cells : Cells) (here at : ℕ) (registers : ℕ → Option Value) (t : Term) (v : Value) (slot : Slot) → IsTerm t
    → place_at here registers t ≡ Some at
    → FitsSlotAt (IsOfKind cells) at v slot → IsLike here registers (like_if slot.home_here t) v
slot_like cells here at registers t v slot t_term t_place fits = chosen slot.home_here fits.home
  where
    chosen : (b : Bool) → (b ≡ true → HasHome at v) → IsLike here registers (like_if b t) v
    chosen true home = (t_term, t_place ∙ sym (home_place at v (home refl)))
    chosen false home = tt

-- the result of a function, in a caller at the same place
pub result_like : (cells : Cells) (here : ℕ) (registers : ℕ → Option Value) (v : Value) (slot : Slot) → FitsSlotAt (IsOfKind cells) here v slot
    → IsLike here registers (like_if slot.home_here term.Here) v
result_like cells here registers v slot fits = slot_like cells here here registers term.Here v slot tt refl fits

-- the value of a register is like the register, whether or not it stands for a place
pub move_like : (here : ℕ) (registers : ℕ → Option Value) (b : ℕ) (v : Value) (placed : Bool) → b < 64 → registers b ≡ Some v
    → IsLike here registers (like_if placed (term.Reg b)) v
move_like here registers b v true within held = (within, ap place_in held)
move_like here registers b v false within held = tt

-- ---- the entry of a function

-- a parameter in front, which asks for its home or does not
homes_front : (here : ℕ) (rest : Equations) (registers : ℕ → Option Value) (r : ℕ) (flag : Bool) → r < 64 → AreHomes here rest registers
    → (flag ≡ true → place_in (registers r) ≡ Some here) → AreHomes here (if flag then joined rest (term.Reg r) term.Here else rest) registers
homes_front here rest registers r true within homes home = homes_joined here rest registers (term.Reg r) term.Here homes within tt (home refl)
homes_front here rest registers r false within homes home = homes

-- the registers from r on hold the arguments
homes_from : (cells : Cells) (here : ℕ) (registers : ℕ → Option Value) (values : List Value) (slots : List Slot) (r : ℕ) → r + length slots ≤ 64
    → FitSlots (IsOfKind cells) here values slots → ((i : ℕ) → registers (r + i) ≡ slice_get values i) → AreHomes here (homes_here r slots) registers
homes_from cells here registers [] [] r few fit held = homes_alone here registers
homes_from cells here registers [] (slot ∷ slots) r few fit held = absurd fit
homes_from cells here registers (v ∷ values) [] r few fit held = absurd fit
homes_from cells here registers (v ∷ values) (slot ∷ slots) r few fit held =
    homes_front here (homes_here (r + 1) slots) registers r slot.home_here (omega arith)
    (homes_from cells here registers values slots (r + 1) (omega arith) fit.1 next)
    (λ flag. ap place_in first ∙ home_place here v (fit.0.home flag))
  where
    first : registers r ≡ Some v
    first = let same : r ≡ r + 0 = omega arith in ap registers same ∙ held 0

    next : (i : ℕ) → registers (r + 1 + i) ≡ slice_get values i
    next i = let same : r + 1 + i ≡ r + suc i = omega arith in ap registers same ∙ held (suc i)

-- the equations at the entry of a function are true of its arguments
pub homes_entry : (cells : Cells) (here : ℕ) (f : Function) (arguments : List Value) → length f.parameters ≤ 64
    → FitSlots (IsOfKind cells) here arguments f.parameters
    → AreHomes here (entry_state f).homes (slice_get arguments)
homes_entry cells here f arguments few fit =
    homes_from cells here (slice_get arguments) arguments f.parameters 0 (omega arith) fit
    (λ i. let same : 0 + i ≡ i = omega arith in ap (slice_get arguments) same)
