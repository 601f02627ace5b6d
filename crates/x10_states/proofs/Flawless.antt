-- A module that was verified has no function with a fault: what is known of each is its least assignment.
use Rattle.std.proofs.Common.{◌≡◌, ℕ, ◌+◌, List, [], ◌∷◌, ◌++◌, length, Option, Some, None, Result, Ok, Err, IfOk, slice_get, inl, inr, refl, sym, ap, subst, ◌∙◌, length-append}
use Rattle.x10_model.proofs.Lists.{last_or_before}
use Rattle.x10_model.specs.Modules.{Module, Function}
use Rattle.x10_model.specs.Ranges.{function_at}
use Rattle.x10_model.specs.Verified.{IsVerified}
use Rattle.x10_verify.specs.declared.fault.VerifyCause.{VerifyCause}
use Rattle.x10_verify.specs.declared.fault.VerifyCause.TheVariants as cause
use Rattle.x10_verify.specs.declared.fault.VerifyFault.{VerifyFault}
use Rattle.x10_verify.specs.declared.states.Entry.{Entry}
use Rattle.x10_verify.specs.Flows.{FlowFacts, FlawsBy, Judges, states_of}
use Rattle.x10_verify.specs.Least.{IsLeast}
use Rattle.x10_verify.specs.States.{stated}

no_flaw : (m : Module) (bounds : List ℕ) (f pc : ℕ) (function : Function) (why : VerifyCause) (table : List Entry) → IsVerified m bounds
    → function_at m f ≡ Some function → FlawsBy why m function pc table → ⊥
no_flaw m bounds f pc function cause.Index table v here o = o.out (v.in_range f pc function o.instr here o.is_instr)
no_flaw m bounds f pc function cause.Unset table v here s = s.without (v.assignments f function here)
no_flaw m bounds f pc function cause.Kind table v here s = s.without (v.assignments f function here)
no_flaw m bounds f pc function cause.Home table v here s = s.without (v.assignments f function here)
no_flaw m bounds f pc function cause.Result table v here s = s.without (v.assignments f function here)
no_flaw m bounds f pc function (cause.Structure b) table v here s = s
no_flaw m bounds f pc function cause.Memory table v here s = s

judged : (m : Module) (bounds : List ℕ) (f : ℕ) (function : Function) (fault : Option VerifyFault) (table : List Entry) → IsVerified m bounds
    → function_at m f ≡ Some function → Judges fault m f function table → IsLeast m function (stated table)
judged m bounds f function None table v here j = j.1
judged m bounds f function (Some fault) table v here j = absurd (no_flaw m bounds f fault.pc function fault.cause table v here j.1)

least : {E : Type 0} (r : Result FlowFacts E) (m : Module) (bounds : List ℕ) (f : ℕ) → IsVerified m bounds
    → IfOk r (λ flow. (function : Function) → function_at m f ≡ Some function → Judges flow.fault m f function flow.table)
    → IfOk r (λ flow. (function : Function) → function_at m f ≡ Some function → IsLeast m function (states_of flow))
least (Ok flow) m bounds f v h = λ function here. judged m bounds f function flow.fault flow.table v here (h function here)
least (Err e) m bounds f v h = h

-- what was found of a function in the module's image is its least assignment
pub least_of : {E : Type 0} (r : Result FlowFacts E) (m image : Module) (bounds : List ℕ) (f : ℕ) → image ≡ m → IsVerified m bounds
    → IfOk r (λ flow. (function : Function) → function_at image f ≡ Some function → Judges flow.fault image f function flow.table)
    → IfOk r (λ flow. (function : Function) → function_at m f ≡ Some function → IsLeast m function (states_of flow))
least_of r m image bounds f e v h =
    subst (λ (k : Module). IfOk r (λ flow. (function : Function) → function_at k f ≡ Some function → IsLeast k function (states_of flow))) e
    (least r image bounds f (subst (λ (k : Module). IsVerified k bounds) (sym e) v) h)

-- the least assignments of the first so many functions
pub record AreLeastTo (m : Module) (n : ℕ) (flows : List FlowFacts) : Type 0 where
  pub length_is : length flows ≡ n
  pub least : (f : ℕ) (function : Function) (flow : FlowFacts) → function_at m f ≡ Some function → slice_get flows f ≡ Some flow
      → IsLeast m function (states_of flow)

pub none_yet : (m : Module) → AreLeastTo m 0 []
none_yet m = record { length_is = refl; least = λ f function flow here there. absurd cc }

pub one_more : (m : Module) (n : ℕ) (flows : List FlowFacts) (flow : FlowFacts) → AreLeastTo m n flows
    → ((function : Function) → function_at m n ≡ Some function → IsLeast m function (states_of flow)) → AreLeastTo m (n + 1) (flows ++ flow ∷ [])
one_more m n flows flow a h = record {
  length_is = length-append flows (flow ∷ []) ∙ ap (λ (k : ℕ). k + 1) a.length_is;
  least = λ f function found here there. elim (last_or_before flows flow found f there) [
    | inl before ↦ a.least f function found here before
    | inr last ↦ subst (λ (g : FlowFacts). IsLeast m function (states_of g)) last.1
        (h function (sym (ap (function_at m) (last.0 ∙ a.length_is)) ∙ here))
  ];
}
