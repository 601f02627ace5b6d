-- A module's functions and a function's instructions, one after another.
use Rattle.std.proofs.Common.{◌≡◌, ℕ, zero, suc, ◌+◌, ◌<◌, ◌≤◌, List, [], ◌∷◌, ◌++◌, length, take, drop, Option, Some, None, Result, Ok, Err, refl, sym, ap, subst, ◌∙◌}
use Rattle.std.specs.Prelude.{slice_get}
use Rattle.std.proofs.lemmas.List.{take_more, drop_more}
use Rattle.std.proofs.lemmas.Option.{get_or_from_slice_get, slice_get_within}
use Rattle.x10_code.specs.declared.instr.Instr.{Instr}
use Rattle.x10_model.specs.Modules.{Module, Function}
use Rattle.x10_model.specs.Ranges.{function_at, instr_in, instr_at}
use Rattle.x10_model.specs.Structure.{BoundCause, Nesting, checked_bound, with_bound, bounds_from, bounds_of, nesting_fault, unless}
use Rattle.x10_model.specs.Structure as structure
use Rattle.x10_model.proofs.Decided.{get_below}
use Rattle.x10_image.specs.Parts.{code_in, code_at}
use Rattle.x10_bounds.specs.declared.fault.BoundFault.{BoundFault}
use Rattle.x10_bounds.proofs.FirstFailure.{drop-end}
use Rattle.x10_bounds.specs.Faults.{IsFaultOrMemory, named}

in_code : (o : Option Function) (pc : ℕ) (i : Instr) → instr_in o pc ≡ Some i → slice_get (code_in o) pc ≡ Some i
in_code None pc i e = absurd cc
in_code (Some f) pc i e = e

-- one instruction more
pub take-at : (m : Module) (f pc : ℕ) (i : Instr) → instr_at m f pc ≡ Some i → take (pc + 1) (code_at m f) ≡ take pc (code_at m f) ++ i ∷ []
take-at m f pc i e =
    let at : slice_get (code_at m f) pc ≡ Some i = in_code (function_at m f) pc i e in
    let lt : pc < length (code_at m f) = slice_get_within (code_at m f) pc i at in
    take_more (code_at m f) pc i lt ∙ ap (λ (j : Instr). take pc (code_at m f) ++ j ∷ []) (get_or_from_slice_get (code_at m f) pc i i at)

drop-function : (m : Module) (f : ℕ) (g : Function) → function_at m f ≡ Some g → drop f m.functions ≡ g ∷ drop (f + 1) m.functions
drop-function m f g e =
    let lt : f < length m.functions = slice_get_within m.functions f g e in
    drop_more m.functions f g lt ∙ ap (λ (h : Function). h ∷ drop (f + 1) m.functions) (get_or_from_slice_get m.functions f g g e)

-- what the bounds are, by that of the next function
next : (m : Module) (f : ℕ) (g : Function) (earlier : List ℕ) (read : Result ℕ structure.BoundFault) (whole : Result (List ℕ) structure.BoundFault)
    → length earlier ≡ f → function_at m f ≡ Some g → checked_bound f earlier g ≡ read → whole ≡ bounds_from earlier (drop f m.functions)
    → whole ≡ with_bound earlier read (λ bounds. bounds_from bounds (drop (f + 1) m.functions))
next m f g earlier read whole count at is so_far =
    so_far ∙ ap (bounds_from earlier) (drop-function m f g at)
    ∙ ap (λ (n : ℕ). with_bound earlier (checked_bound n earlier g) (λ bounds. bounds_from bounds (drop (f + 1) m.functions))) count
    ∙ ap (λ (r : Result ℕ structure.BoundFault). with_bound earlier r (λ bounds. bounds_from bounds (drop (f + 1) m.functions))) is

-- one bound more
pub bounds_more : (m : Module) (f : ℕ) (g : Function) (earlier : List ℕ) (bound : ℕ) (whole : Result (List ℕ) structure.BoundFault)
    → length earlier ≡ f → function_at m f ≡ Some g → checked_bound f earlier g ≡ Ok bound → whole ≡ bounds_from earlier (drop f m.functions)
    → whole ≡ bounds_from (earlier ++ bound ∷ []) (drop (f + 1) m.functions)
bounds_more m f g earlier bound whole count at is so_far = next m f g earlier (Ok bound) whole count at is so_far

by_cause : (m : Module) (f : ℕ) (g : Function) (earlier : List ℕ) (cause : Option BoundCause) (fault : BoundFault)
    (whole : Result (List ℕ) structure.BoundFault) → length earlier ≡ f → function_at m f ≡ Some g
    → IsFaultOrMemory cause fault (checked_bound f earlier g) → whole ≡ bounds_from earlier (drop f m.functions) → IsFaultOrMemory cause fault whole
by_cause m f g earlier None fault whole count at is so_far = is
by_cause m f g earlier (Some cause) fault whole count at is so_far =
    next m f g earlier (Err (record { cause = cause; function = fault.function; pc = fault.pc })) whole count at is so_far

-- a function's fault is the module's
pub bounds_end : (m : Module) (f : ℕ) (g : Function) (earlier : List ℕ) (fault : BoundFault) (whole : Result (List ℕ) structure.BoundFault)
    → length earlier ≡ f → function_at m f ≡ Some g → IsFaultOrMemory (named fault.cause) fault (checked_bound f earlier g)
    → whole ≡ bounds_from earlier (drop f m.functions) → IsFaultOrMemory (named fault.cause) fault whole
bounds_end m f g earlier fault whole count at is so_far = by_cause m f g earlier (named fault.cause) fault whole count at is so_far

-- all functions have a bound
pub bounds_done : (m : Module) (f : ℕ) (earlier : List ℕ) (whole : Result (List ℕ) structure.BoundFault) → length m.functions ≤ f
    → whole ≡ bounds_from earlier (drop f m.functions) → whole ≡ Ok earlier
bounds_done m f earlier whole le so_far = so_far ∙ ap (bounds_from earlier) (drop-end m.functions f le)

-- ---- where a module has bounds, its functions nest

unless_fault : {A : Type 0} (o : Option ℕ) (cause : BoundCause) (function : ℕ) (r : Result A structure.BoundFault) (x : A)
    → unless o cause function r ≡ Ok x → o ≡ None
unless_fault None cause function r x e = refl
unless_fault (Some pc) cause function r x e = absurd cc

one_nests : (function : ℕ) (earlier : List ℕ) (g : Function) (bound : ℕ) → checked_bound function earlier g ≡ Ok bound → nesting_fault g.code ≡ None
one_nests function earlier g bound e = unless_fault (nesting_fault g.code) Nesting function _ bound e

is_bounded : (earlier : List ℕ) (r : Result ℕ structure.BoundFault) (others : List ℕ → Result (List ℕ) structure.BoundFault) (bounds : List ℕ)
    → with_bound earlier r others ≡ Ok bounds → (bound : ℕ) × (r ≡ Ok bound) × (others (earlier ++ bound ∷ []) ≡ Ok bounds)
is_bounded earlier (Ok bound) others bounds e = (bound, refl, e)
is_bounded earlier (Err fault) others bounds e = absurd cc

all_nest : (earlier : List ℕ) (fs : List Function) (bounds : List ℕ) → bounds_from earlier fs ≡ Ok bounds → (k : ℕ) (g : Function)
    → slice_get fs k ≡ Some g → nesting_fault g.code ≡ None
all_nest earlier [] bounds e k g at = absurd cc
all_nest earlier (h ∷ fs) bounds e zero g at =
    let is = is_bounded earlier (checked_bound (length earlier) earlier h) (λ found. bounds_from found fs) bounds e in
    let same : h ≡ g = cc in
    subst (λ (j : Function). nesting_fault j.code ≡ None) same (one_nests (length earlier) earlier h is.0 is.1)
all_nest earlier (h ∷ fs) bounds e (suc k) g at =
    let is = is_bounded earlier (checked_bound (length earlier) earlier h) (λ found. bounds_from found fs) bounds e in
    all_nest (earlier ++ is.0 ∷ []) fs bounds is.2 k g at

-- each function of a module that has bounds nests
pub each_nests : (m : Module) (bounds : List ℕ) → bounds_of m ≡ Ok bounds → (f : ℕ) → f < length m.functions → nesting_fault (code_at m f) ≡ None
each_nests m bounds e f lt =
    let at = get_below m.functions f lt in
    subst (λ (o : Option Function). nesting_fault (code_in o) ≡ None) (sym at.1) (all_nest [] m.functions bounds e f at.0 at.1)

-- an instruction is one of its function's code
pub in_function : (m : Module) (f pc : ℕ) (i : Instr) → instr_at m f pc ≡ Some i → slice_get (code_at m f) pc ≡ Some i
in_function m f pc i e = in_code (function_at m f) pc i e
