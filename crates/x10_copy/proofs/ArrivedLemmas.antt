-- What arrived is what the machine takes in, whatever is known of other places.
use Rattle.std.proofs.Common.{◌≡◌, ℕ, List, map, subst, eq-eqb, inl, inr, arith}
use Rattle.std.specs.Prelude.{IsTrue}
use Rattle.std.proofs.lemmas.Bool.{cases_eq, ne_eqb}
use Rattle.x10_heap.specs.Heaps.{HeapState, IsWithinLimits}
use Rattle.x10_heap.specs.Words.{Context, export_as, is_named}
use Rattle.x10_model.specs.declared.slot.Slot.{Slot}
use Rattle.x10_model.specs.Modules.{Module}
use Rattle.x10_model.specs.Values.{Value, Int, Place, Text, Rail, Object, Null, Ref}
use Rattle.x10_model.specs.Copies.{Snapshot}
use Rattle.x10_model.specs.Deliveries.{IsExported, NamesExports}
use Rattle.x10_model.specs.Marshalling.{snapshot_of}
use Rattle.x10_model.specs.Frames.{Frame}
use Rattle.x10_model.specs.declared.version.FrameVersion.TheVariants.{Wide}
use Rattle.x10_frame.specs.Heads.{graph_of}
use Rattle.x10_frame.proofs.Shows.{graph_fits}
use Rattle.x10_copy.specs.Captured.{kinds_of, FitTheirKinds}
use Rattle.x10_copy.specs.References.{OfReference, AreNamed, AreNamedElsewhere}
use Rattle.x10_copy.specs.Arrived.{FitKinds, IsArrived}
use Rattle.x10_copy.specs.Taken.{IsTakenIn}
use Rattle.x10_copy.proofs.TestLemmas.{named_tells}
use Rattle.x10_copy.proofs.TakenIn.{takes_in}

-- a reference is named at home by an export, and elsewhere by what is known
value_named : (x : Context) (v : Value) → IsExported x.here (map export_as x.heap.exports) v
    → OfReference (λ home id class. (home ≡ x.here → ⊥) → IsTrue (x.far home id class)) v
    → OfReference (λ home id class. IsTrue (is_named x home id class)) v
value_named x (Int z) at far = tt
value_named x (Place p) at far = tt
value_named x (Text t) at far = tt
value_named x (Rail r) at far = tt
value_named x (Object r) at far = tt
value_named x Null at far = tt
value_named x (Ref home id class) at far = elim (cases_eq home x.here) [
  | inl e ↦ rw (eq-eqb home x.here e) ((named_tells x.heap.exports id class).1 (at e))
  | inr n ↦ rw (ne_eqb home x.here n) (far n)
]

anywhere : (x : Context) → ((home id class : ℕ) → IsTrue (x.far home id class)) → (v : Value)
    → OfReference (λ home id class. (home ≡ x.here → ⊥) → IsTrue (x.far home id class)) v
anywhere x any (Int z) = tt
anywhere x any (Place p) = tt
anywhere x any (Text t) = tt
anywhere x any (Rail r) = tt
anywhere x any (Object r) = tt
anywhere x any Null = tt
anywhere x any (Ref home id class) = λ n. any home id class

all_named : (x : Context) (s : Snapshot) → NamesExports x.here (map export_as x.heap.exports) s → AreNamedElsewhere x s → AreNamed x s
all_named x s at far = record {
  roots = λ v is. value_named x v (at.roots v is) (far.roots v is);
  fields = λ k node v e is. value_named x v (at.fields k node v e is) (far.fields k node v e is);
}

-- where any reference is taken as one
pub named_anywhere : (x : Context) (s : Snapshot) → ((home id class : ℕ) → IsTrue (x.far home id class)) → AreNamedElsewhere x s
named_anywhere x s any = record { roots = λ v is. anywhere x any v; fields = λ k node v e is. anywhere x any v }

of_classes : (m : Module) (x : Context) (slots : List Slot) (s : Snapshot) → x.classes ≡ m.classes → FitKinds m slots s
    → FitTheirKinds x.classes (kinds_of slots) s
of_classes m x slots s e h = record { roots = h.roots; nodes = λ k node there. rw e (h.classes k node there) }

pub taken : (m : Module) (here home : ℕ) (heap : HeapState) (slots : List Slot) (f : Frame) (roots : List ℕ) (new : HeapState)
    → IsArrived m here home heap slots (graph_of f) roots new → IsWithinLimits new.objects new.rails new.texts new.exports
    → IsTakenIn m here heap slots f roots new
taken m here home heap slots f roots new h few x cells classes_are here_is heap_is places fits elsewhere holds =
    let g = graph_of f in
    let k : IsArrived m x.here home x.heap slots g roots new = rw (here_is, heap_is) h in
    let within = subst (λ (h : HeapState). IsWithinLimits h.objects h.rails h.texts h.exports) k.heap_is few in
    let kinds = of_classes m x slots (snapshot_of g) classes_are k.fits.kinds in
    let named = all_named x (snapshot_of g) k.fits.exports elsewhere in
    rw (k.roots_are, k.heap_is)
    (takes_in x g cells holds (kinds_of slots) 16 places (graph_fits Wide x.places f fits) kinds named (omega (arith, within.objects_few))
    (omega (arith, within.texts_few))
    (omega (arith, within.rails_few)))
