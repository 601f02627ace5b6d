-- Faults that are handed on.
use Rattle.std.proofs.Common.{◌≡◌, ℕ, List, Result, Ok, Err, ap}
use Rattle.std.specs.Prelude.{is_ok, IsErrAnd, MatchResult}
use Rattle.std.proofs.lemmas.Bool.{false≢true}
use Rattle.x10_log.specs.declared.fault.LogCause.{LogCause}
use Rattle.x10_log.specs.declared.fault.LogFault.{LogFault}
use Rattle.x10_log.specs.declared.fault.LogCause.TheVariants.{Memory}
use Rattle.x10_log.specs.Reading.{Shows, ShowsBoth, ShowsLog}

-- what is read is no fault
pub no_fault : {X E : Type 0} (e : E) (x : X) → Err e ≡ Ok x → ⊥
no_fault e x h = false≢true (ap is_ok h)

-- what is read is the value
pub value_is : {X : Type 0} (x y d : X) → ◌≡◌ {A = Result X LogCause} (Ok x) (Ok y) → x ≡ y
value_is x y d h = ap (λ r. value r d) h
  where
    value : {X : Type 0} → Result X LogCause → X → X
    value (Ok x) d = x
    value (Err e) d = d

-- a refusal of memory that is handed on
pub handed_on : {X Y : Type 0} (view : X → Y) (r : Result X LogCause) (G : LogCause → Type 0) (y : Y) → IsErrAnd r G
    → ((c : LogCause) → G c → c ≡ Memory) → Shows view r y
handed_on view (Ok x) G y h memory = absurd h
handed_on view (Err e) G y h memory = memory e h

pub both_handed_on : {A B Y : Type 0} (view : A → Y) (tail : B → List ℕ) (r : Result (A × B) LogCause) (G : LogCause → Type 0) (y : Y) (rest : List ℕ)
    → IsErrAnd r G → ((c : LogCause) → G c → c ≡ Memory) → ShowsBoth view tail r y rest
both_handed_on view tail (Ok x) G y rest h memory = absurd h
both_handed_on view tail (Err e) G y rest h memory = memory e h

pub done_handed_on : {X : Type 0} (r : Result X LogCause) (G : LogCause → Type 0) (P : X → Type 0) → IsErrAnd r G → ((c : LogCause) → G c
    → c ≡ Memory)
    → MatchResult r P (λ c. c ≡ Memory)
done_handed_on (Ok x) G P h memory = absurd h
done_handed_on (Err e) G P h memory = memory e h

-- the same of a fault with its line
pub fault_handed_on : {X : Type 0} (r : Result X LogFault) (G : LogFault → Type 0) (P : X → Type 0) → IsErrAnd r G → ((f : LogFault) → G f
    → f.cause ≡ Memory)
    → MatchResult r P (λ f. f.cause ≡ Memory)
fault_handed_on (Ok x) G P h memory = absurd h
fault_handed_on (Err e) G P h memory = memory e h

pub log_handed_on : {X Y : Type 0} (view : X → Y) (r : Result X LogFault) (G : LogFault → Type 0) (y : Y) → IsErrAnd r G
    → ((f : LogFault) → G f → f.cause ≡ Memory) → ShowsLog view r y
log_handed_on view (Ok x) G y h memory = absurd h
log_handed_on view (Err e) G y h memory = memory e h
