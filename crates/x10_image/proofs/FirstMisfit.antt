-- Parts that are read one after the other, and the first that is refused.
use Rattle.std.proofs.Common.{◌≡◌, ℕ, ℤ, List, [], ◌∷◌, length, Option, Some, None, Result, Ok, Err, refl, ◌∙◌}
use Rattle.x10_kinds.specs.declared.kind.Kind.{Kind}
use Rattle.x10_model.specs.Modules.{Module, Function}
use Rattle.x10_model.specs.Images.{Header}
use Rattle.x10_model.specs.Readers.{int, times, numbered, all_of, done}
use Rattle.x10_model.specs.ReadingImages.{ImageFault, Short, Trailing, header_at, class_at, text_at, function_at, parts_at, module_at}
use Rattle.x10_model.proofs.ReaderLaws.{bind_is}
use Rattle.x10_bytes.proofs.Loops.{lenient, early}
use Rattle.x10_image.specs.Faults.{IsFault, IsFaultOrMemory}
use Rattle.x10_image.specs.Misfits.{HasWholeParts}
use Rattle.x10_image.proofs.Whole.{IsHeader, module_of, from_texts, from_ints, from_classes, from_header, at_header, header_fault, fault_of_parts}

-- what was read before a part
abbrev pub AreClasses : Header → List ℕ → List ℕ → Type 0
AreClasses h from rest = (cs : List (List Kind)) × (times h.classes (class_at h.classes) from ≡ Ok (cs, rest))

abbrev pub AreInts : Header → List ℕ → List ℕ → Type 0
AreInts h from rest = (is : List ℤ) × (times h.ints (int Short) from ≡ Ok (is, rest))

abbrev pub AreTexts : Header → List ℕ → List ℕ → Type 0
AreTexts h from rest = (ts : List (List ℕ)) × (times h.texts text_at from ≡ Ok (ts, rest))

abbrev pub AreFunctions : Header → List ℕ → List ℕ → Type 0
AreFunctions h from rest = (fs : List Function) × (numbered h.functions (function_at h.version h.classes) from ≡ Ok (fs, rest))

-- a fault that isn't lack of memory
strict : (f : Option ImageFault) (bytes : List ℕ) (part : Result Module ImageFault) → (f ≡ None → ⊥) → IsFaultOrMemory f part → IsFault f part
strict None bytes part some h = some refl
strict (Some f) bytes part some h = h

some_fault : {Y : Type 0} (f : Option ImageFault) (read : Result Y ImageFault) → IsFault f read → f ≡ None → ⊥
some_fault None read h e = h
some_fault (Some f) read h e = cc

at_classes : (h : Header) (r1 r2 : List ℕ) → (cs : AreClasses h r1 r2) → from_header h r1 ≡ from_classes h cs.0 r2
at_classes h r1 r2 cs = bind_is (times h.classes (class_at h.classes)) (from_classes h) r1 cs.0 r2 cs.1

at_ints : (h : Header) (cs : List (List Kind)) (r2 r3 : List ℕ) → (is : AreInts h r2 r3) → from_classes h cs r2 ≡ from_ints h cs is.0 r3
at_ints h cs r2 r3 is = bind_is (times h.ints (int Short)) (from_ints h cs) r2 is.0 r3 is.1

at_texts : (h : Header) (cs : List (List Kind)) (is : List ℤ) (r3 r4 : List ℕ) → (ts : AreTexts h r3 r4)
    → from_ints h cs is r3 ≡ from_texts h cs is ts.0 r4
at_texts h cs is r3 r4 ts = bind_is (times h.texts text_at) (from_texts h cs is) r3 ts.0 r4 ts.1

at_functions : (h : Header) (cs : List (List Kind)) (is : List ℤ) (ts : List (List ℕ)) (r4 r5 : List ℕ) → (fs : AreFunctions h r4 r5)
    → from_texts h cs is ts r4 ≡ Ok (module_of h cs is ts fs.0, r5)
unfolding done
at_functions h cs is ts r4 r5 fs = bind_is (numbered h.functions (function_at h.version h.classes))
    (λ functions. done (module_of h cs is ts functions)) r4 fs.0 r5 fs.1

pub header_misfit : (bytes : List ℕ) (f : Option ImageFault) → IsFault f (header_at bytes) → IsFault f (module_at bytes)
header_misfit bytes f e = strict f bytes (module_at bytes) (some_fault f (header_at bytes) e) (header_fault bytes f e)

pub classes_misfit : (bytes : List ℕ) (h : Header) (r1 : List ℕ) (f : Option ImageFault) → IsHeader bytes h r1
    → IsFault f (times h.classes (class_at h.classes) r1) → IsFault f (module_at bytes)
classes_misfit bytes h r1 f head e =
    strict f bytes (module_at bytes) (some_fault f (times h.classes (class_at h.classes) r1) e)
    (fault_of_parts bytes f (rw (at_header bytes h r1 head) (early (times h.classes (class_at h.classes)) (from_classes h) r1 f
    (lenient f (times h.classes (class_at h.classes) r1) e))))

pub ints_misfit : (bytes : List ℕ) (h : Header) (r1 r2 : List ℕ) (f : Option ImageFault) → IsHeader bytes h r1 → AreClasses h r1 r2
    → IsFault f (times h.ints (int Short) r2) → IsFault f (module_at bytes)
ints_misfit bytes h r1 r2 f head cs e =
    strict f bytes (module_at bytes) (some_fault f (times h.ints (int Short) r2) e)
    (fault_of_parts bytes f (rw (at_header bytes h r1 head ∙ at_classes h r1 r2 cs)
    (early (times h.ints (int Short)) (from_ints h cs.0) r2 f (lenient f (times h.ints (int Short) r2) e))))

pub texts_misfit : (bytes : List ℕ) (h : Header) (r1 r2 r3 : List ℕ) (f : Option ImageFault) → IsHeader bytes h r1 → AreClasses h r1 r2
    → AreInts h r2 r3 → IsFault f (times h.texts text_at r3) → IsFault f (module_at bytes)
texts_misfit bytes h r1 r2 r3 f head cs is e =
    strict f bytes (module_at bytes) (some_fault f (times h.texts text_at r3) e)
    (fault_of_parts bytes f (rw (at_header bytes h r1 head ∙ at_classes h r1 r2 cs ∙ at_ints h cs.0 r2 r3 is)
    (early (times h.texts text_at) (from_texts h cs.0 is.0) r3 f (lenient f (times h.texts text_at r3) e))))

pub functions_misfit : (bytes : List ℕ) (h : Header) (r1 r2 r3 r4 : List ℕ) (f : Option ImageFault) → IsHeader bytes h r1 → AreClasses h r1 r2
    → AreInts h r2 r3 → AreTexts h r3 r4 → IsFault f (numbered h.functions (function_at h.version h.classes) r4) → IsFault f (module_at bytes)
functions_misfit bytes h r1 r2 r3 r4 f head cs is ts e =
    strict f bytes (module_at bytes) (some_fault f (numbered h.functions (function_at h.version h.classes) r4) e)
    (fault_of_parts bytes f (rw (at_header bytes h r1 head ∙ at_classes h r1 r2 cs ∙ at_ints h cs.0 r2 r3 is ∙ at_texts h cs.0 is.0 r3 r4 ts)
    (early (numbered h.functions (function_at h.version h.classes)) (λ functions. done (module_of h cs.0 is.0 ts.0 functions)) r4 f
    (lenient f (numbered h.functions (function_at h.version h.classes) r4) e))))

parts_are : (bytes : List ℕ) (h : Header) (r1 r2 r3 r4 r5 : List ℕ) → IsHeader bytes h r1 → (cs : AreClasses h r1 r2) → (is : AreInts h r2 r3)
    → (ts : AreTexts h r3 r4) → (fs : AreFunctions h r4 r5) → parts_at bytes ≡ Ok (module_of h cs.0 is.0 ts.0 fs.0, r5)
parts_are bytes h r1 r2 r3 r4 r5 head cs is ts fs = at_header bytes h r1 head ∙ at_classes h r1 r2 cs ∙ at_ints h cs.0 r2 r3 is
    ∙ at_texts h cs.0 is.0 r3 r4 ts ∙ at_functions h cs.0 is.0 ts.0 r4 r5 fs

-- nothing is left
pub parts_whole : (bytes : List ℕ) (h : Header) (r1 r2 r3 r4 r5 : List ℕ) → IsHeader bytes h r1 → AreClasses h r1 r2 → AreInts h r2 r3
    → AreTexts h r3 r4 → AreFunctions h r4 r5 → length r5 ≡ 0 → HasWholeParts bytes
unfolding all_of
parts_whole bytes h r1 r2 r3 r4 [] head cs is ts fs e = (module_of h cs.0 is.0 ts.0 fs.0, rw (parts_are bytes h r1 r2 r3 r4 [] head cs is ts fs) refl)
parts_whole bytes h r1 r2 r3 r4 (b ∷ bs) head cs is ts fs e = absurd cc

-- something is
pub parts_trailing : (bytes : List ℕ) (h : Header) (r1 r2 r3 r4 r5 : List ℕ) → IsHeader bytes h r1 → AreClasses h r1 r2 → AreInts h r2 r3
    → AreTexts h r3 r4 → AreFunctions h r4 r5 → (length r5 ≡ 0 → ⊥) → module_at bytes ≡ Err Trailing
unfolding module_at all_of
parts_trailing bytes h r1 r2 r3 r4 [] head cs is ts fs ne = absurd (ne refl)
parts_trailing bytes h r1 r2 r3 r4 (b ∷ bs) head cs is ts fs ne = rw (parts_are bytes h r1 r2 r3 r4 (b ∷ bs) head cs is ts fs) refl
