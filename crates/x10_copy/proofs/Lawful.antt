-- Captures and arrivals keep their laws.
use Rattle.std.proofs.Common.{◌≡◌, ◌↔◌, ◌⊎◌, ℕ, ◌^◌, ◌<◌, Bool, true, false, List, [], ◌∷◌, length, map, Option, Some, None, slice_get, refl, sym, ap, subst, ◌∙◌, inl, inr}
use Rattle.std.specs.Prelude.{IsTrue, option_map}
use Rattle.std.specs.List.{AllByRecursion}
use Rattle.std.proofs.lemmas.Option.{slice_get-map}
use Rattle.x10_kinds.specs.declared.kind.Kind.{Kind}
use Rattle.x10_heap.specs.declared.export.Export.{Export}
use Rattle.x10_heap.specs.Heaps.{HeapState}
use Rattle.x10_heap.specs.Words.{Context, export_as, is_named}
use Rattle.x10_model.specs.declared.slot.Slot.{Slot}
use Rattle.x10_model.specs.Modules.{NamesClassBelow, FitsClass, FitsSlot}
use Rattle.x10_model.specs.Values.{Value, Int, Place, Text, Rail, Object, Null, Ref}
use Rattle.x10_model.specs.Signatures.{HasHome, FitSlots, AreOfKinds}
use Rattle.x10_model.specs.Copies.{Names, named, IsOfKindIn}
use Rattle.x10_model.specs.Deliveries.{IsExported, FitsPlace}
use Rattle.x10_model.specs.Marshalling.{snapshot_of}
use Rattle.x10_model.specs.Places as places
use Rattle.x10_model.specs.Places.{Setting}
use Rattle.x10_model.specs.Frames.{Graph}
use Rattle.x10_copy.specs.declared.refusal.Refusal.TheVariants as refusal
use Rattle.x10_copy.specs.Captured.{kinds_of}
use Rattle.x10_copy.specs.References.{OfReference}
use Rattle.x10_copy.specs.Arrived.{HaveHomes, FitKinds}
use Rattle.x10_copy.specs.Laws.{StandingIsSound, KnowsExports, CapturesFit, FittingIsTaken, ArrivalsFit, FaultsAreMisfits, FittingStays}
use Rattle.x10_copy.specs.Fitting.{all_fit}
use Rattle.x10_copy.proofs.TestLemmas.{named_tells, roots_tell}
use Rattle.x10_copy.proofs.SoundHeaps.{words_sound, heap_sound}

-- ---- what stands is sound

kinds_fit : (classes : ℕ) (slots : List Slot) → AllByRecursion (FitsSlot classes) slots → AllByRecursion (NamesClassBelow classes) (kinds_of slots)
kinds_fit classes [] h = tt
kinds_fit classes (s ∷ slots) h = (h.0.class, kinds_fit classes slots h.1)

pub standing_is_sound : StandingIsSound
standing_is_sound m x cells slots words values fits e below holds stand =
    let few : length x.classes < 2 ^ 16 = rw e fits.classes in
    let classes : AllByRecursion (FitsClass (length x.classes)) x.classes = rw e fits.fields in
    let kinds : AllByRecursion (NamesClassBelow (length x.classes)) (kinds_of slots) = rw e (kinds_fit (length m.classes) slots below) in
    (words_sound x cells (kinds_of slots) words values few kinds holds stand, rw (← e) (heap_sound x cells few classes holds))

-- ---- what was captured fits

home_of : (at : ℕ) (n : Names) (v : Value) → HasHome at (named n v) → HasHome at v
home_of at n (Int z) h = h
home_of at n (Place p) h = h
home_of at n (Text t) h = h
home_of at n (Rail r) h = h
home_of at n (Object r) h = h
home_of at n Null h = h
home_of at n (Ref home id class) h = h

homes_of : (at : ℕ) (n : Names) (vs : List Value) (slots : List Slot) → HaveHomes at (map (named n) vs) slots → HaveHomes at vs slots
homes_of at n [] [] h = tt
homes_of at n [] (s ∷ slots) h = absurd h
homes_of at n (v ∷ vs) [] h = absurd h
homes_of at n (v ∷ vs) (s ∷ slots) h = (λ here. home_of at n v (h.0 here), homes_of at n vs slots h.1)

exported : (x : Context) (here : ℕ) (heap : HeapState) (v : Value) → KnowsExports x here heap
    → OfReference (λ home id class. IsTrue (is_named x home id class)) v → IsExported here (map export_as heap.exports) v
exported x here heap (Int z) knows h = tt
exported x here heap (Place p) knows h = tt
exported x here heap (Text t) knows h = tt
exported x here heap (Rail r) knows h = tt
exported x here heap (Object r) knows h = tt
exported x here heap Null knows h = tt
exported x here heap (Ref home id class) knows h = λ e.
    (named_tells heap.exports id class).0 (knows id class (subst (λ (p : ℕ). IsTrue (is_named x p id class)) e h))

pub captures_fit : CapturesFit
captures_fit m x cells slots values head bytes captured here home heap e homes knows = record {
  kinds = record { roots = captured.of_kinds.roots; classes = λ k node there. rw (← e) (captured.of_kinds.nodes k node there) };
  homes = homes_of home captured.captures.0 _ slots (subst (λ (vs : List Value). HaveHomes home vs slots) captured.captures.1.roots homes);
  exports = record {
    roots = λ v is. exported x here heap v knows (captured.named.roots v is);
    fields = λ k node v there is. exported x here heap v knows (captured.named.fields k node v there is);
  };
}

pub fitting_is_taken : FittingIsTaken
fitting_is_taken m here home heap slots g refusal.Memory fits h = tt
fitting_is_taken m here home heap slots g (refusal.Limit limit) fits h = h.1
fitting_is_taken m here home heap slots g refusal.Kind fits h = h fits.kinds
fitting_is_taken m here home heap slots g refusal.Home fits h = h.1 fits.homes
fitting_is_taken m here home heap slots g refusal.Ref fits h = h.2 fits.exports
fitting_is_taken m here home heap slots g _ fits h = absurd h

-- ---- slots

slots_told : (R : Value → Kind → Type 0) (at : ℕ) (vs : List Value) (slots : List Slot)
    → FitSlots R at vs slots ↔ (AreOfKinds R vs (kinds_of slots) × HaveHomes at vs slots)
slots_told R at [] [] = (λ h. (tt, tt), λ h. tt)
slots_told R at [] (s ∷ slots) = (λ h. absurd h, λ h. absurd h.0)
slots_told R at (v ∷ vs) [] = (λ h. absurd h, λ h. absurd h.0)
slots_told R at (v ∷ vs) (s ∷ slots) =
    let rest = slots_told R at vs slots in (
      λ h. let r = rest.0 h.1 in ((h.0.kind, r.0), (h.0.home, r.1)),
      λ h. (record { kind = h.0.0; home = h.1.0 }, rest.1 (h.0.1, h.1.1)),
    )

pub arrivals_fit : ArrivalsFit
arrivals_fit setting place here home heap slots s e =
    let told = slots_told (IsOfKindIn s) home s.roots slots in (
      λ h. (record { classes = h.kinds.classes; exports = rw e h.exports }, told.1 (h.kinds.roots, h.homes)),
      λ h. record {
        kinds = record { roots = (told.0 h.1).0; classes = h.0.classes };
        homes = (told.0 h.1).1;
        exports = rw (← e) h.0.exports;
      },
    )

-- which of the two it is can be told
kinds_misfit : (setting : Setting) (place : places.Place) (here home : ℕ) (slots : List Slot) (g : Graph) (b : Bool)
    → all_fit g (kinds_of slots) g.roots ≡ b
    → (FitKinds setting.program slots (snapshot_of g) → ⊥)
    → (FitsPlace setting here place (snapshot_of g) → ⊥) ⊎ (FitSlots (IsOfKindIn (snapshot_of g)) home (snapshot_of g).roots slots → ⊥)
kinds_misfit setting place here home slots g true e h =
    inl (λ fits. h (record { roots = (roots_tell g (kinds_of slots)).0 e; classes = fits.classes }))
kinds_misfit setting place here home slots g false e h =
    inr (λ fits.
    let kinds = (slots_told (IsOfKindIn (snapshot_of g)) home (snapshot_of g).roots slots).0 fits in
    let told = (roots_tell g (kinds_of slots)).1 kinds.0 in
    absurd cc)

pub faults_are_misfits : FaultsAreMisfits
faults_are_misfits setting place here home heap slots g refusal.Kind e h =
    kinds_misfit setting place here home slots g (all_fit g (kinds_of slots) g.roots) refl h
faults_are_misfits setting place here home heap slots g refusal.Home e h =
    inr (λ fits. h.1 ((slots_told (IsOfKindIn (snapshot_of g)) home (snapshot_of g).roots slots).0 fits).1)
faults_are_misfits setting place here home heap slots g refusal.Ref e h = inl (λ fits. h.2 (rw (← e) fits.exports))
faults_are_misfits setting place here home heap slots g _ e h = absurd h

-- ---- what fits goes on to fit

export_stays : (old new : List Export) (id : ℕ) (r : places.Export) (o : Option Export) → slice_get old id ≡ o
    → ((id : ℕ) (export : Export) → slice_get old id ≡ Some export → slice_get new id ≡ Some export)
    → slice_get (map export_as old) id ≡ Some r → slice_get (map export_as new) id ≡ Some r
export_stays old new id r None e keeps h =
    let f : slice_get (map export_as old) id ≡ None = slice_get-map export_as old id ∙ ap (λ (o : Option Export). option_map export_as o) e in
    absurd cc
export_stays old new id r (Some x) e keeps h =
    let f : slice_get (map export_as old) id ≡ Some (export_as x) =
    slice_get-map export_as old id ∙ ap (λ (o : Option Export). option_map export_as o) e in
    slice_get-map export_as new id ∙ ap (λ (o : Option Export). option_map export_as o) (keeps id x e) ∙ sym f ∙ h

still_exported : (here : ℕ) (old new : List Export) (v : Value)
    → ((id : ℕ) (export : Export) → slice_get old id ≡ Some export → slice_get new id ≡ Some export)
    → IsExported here (map export_as old) v → IsExported here (map export_as new) v
still_exported here old new (Int z) keeps h = tt
still_exported here old new (Place p) keeps h = tt
still_exported here old new (Text t) keeps h = tt
still_exported here old new (Rail r) keeps h = tt
still_exported here old new (Object r) keeps h = tt
still_exported here old new Null keeps h = tt
still_exported here old new (Ref home id class) keeps h = λ e. let is = h e in (is.0, export_stays old new id _ (slice_get old id) refl keeps is.1)

pub fitting_stays : FittingStays
fitting_stays m here home old new slots s keeps h = record {
  kinds = h.kinds;
  homes = h.homes;
  exports = record {
    roots = λ v is. still_exported here old.exports new.exports v keeps (h.exports.roots v is);
    fields = λ k node v there is. still_exported here old.exports new.exports v keeps (h.exports.fields k node v there is);
  };
}
