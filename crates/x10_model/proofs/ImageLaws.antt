-- An image is read again, and what is read is spelled so.
use Rattle.std.proofs.Common.{◌≡◌, ℕ, ℤ, zero, suc, ◌^◌, ◌<◌, ◌≤◌, Bool, true, false, eqb, List, ◌++◌, length, Option, Some, None, IfSome, Result, Ok, Err, refl, sym, ap, subst, ◌∙◌, arith, eqb-true, eq-eqb, flat_map, slice_get, is_none}
use Rattle.std.specs.Prelude.{FitsSigned}
use Rattle.std.specs.List.{AllByRecursion}
use Rattle.std.specs.Int.{w16, w32, w64, to_be_bytes}
use Rattle.std.proofs.lemmas.Option.{slice_get_within}
use Rattle.std.proofs.lemmas.Bool.{and_from, and_parts}
use Rattle.x10_kinds.specs.declared.kind.Kind.{Kind as ValueKind}
use Rattle.x10_model.specs.Modules.{Function, Module, FitsClass, FitsText, FitsFunction, FitsImage, IsEntry}
use Rattle.x10_model.specs.declared.slot.Slot.{Slot}
use Rattle.x10_model.specs.declared.version.ImageVersion.{ImageVersion}
use Rattle.x10_model.specs.declared.version.ImageVersion.TheVariants.{One, Two}
use Rattle.x10_model.specs.Images.{magic, number_of, Header, class_bytes, text_bytes, function_bytes, header_of, header_bytes, int_bytes, spelling}
use Rattle.x10_model.specs.Readers.{number, IsBytes, all_of}
use Rattle.x10_model.specs.ReadingImages.{ImageFault, Short, Magic, Version, Count, Reserved, is_within, version_of, version_at, header_at, parts_at, is_entry, entered, module_at, Trailing}
use Rattle.x10_model.proofs.ReaderLaws.{Reads, then_reads, last_reads, need_reads, done_reads, given_reads, such_that_reads, expect_reads, spelled_as}
use Rattle.x10_model.proofs.PartLaws.{all_again, all_takes, int_reads, number_reads, each_reads, wide16, wide32}
use Rattle.x10_model.proofs.ImageParts.{within_of, of_within}
use Rattle.x10_model.proofs.ImageParts.{class_reads, text_reads}
use Rattle.x10_model.proofs.FunctionLaws.{function_reads}

pub record FitsHeader (h : Header) : Type 0 where
  least_places : (1 ≤ h.least_places) × (h.least_places ≤ 64)
  classes : h.classes < 2 ^ 16
  ints : h.ints < 2 ^ 16
  texts : h.texts < 2 ^ 16
  functions : (1 ≤ h.functions) × (h.functions ≤ 256)
  entry : h.entry < 2 ^ 16

-- what follows each field
abbrev after_functions : Header → List ℕ
after_functions h = to_be_bytes w16 h.entry ++ to_be_bytes w16 0

abbrev after_texts : Header → List ℕ
after_texts h = to_be_bytes w16 h.functions ++ after_functions h

abbrev after_ints : Header → List ℕ
after_ints h = to_be_bytes w16 h.texts ++ after_texts h

abbrev after_classes : Header → List ℕ
after_classes h = to_be_bytes w16 h.ints ++ after_ints h

abbrev after_least : Header → List ℕ
after_least h = to_be_bytes w16 h.classes ++ after_classes h

abbrev after_version : Header → List ℕ
after_version h = to_be_bytes w16 h.least_places ++ after_least h

header : ImageVersion → ℕ → ℕ → ℕ → ℕ → ℕ → ℕ → Header
header v l c i t f e = record { version = v; least_places = l; classes = c; ints = i; texts = t; functions = f; entry = e }

same_header : (v : ImageVersion) (l c i t f e : ℕ) (h : Header) → h.version ≡ v → h.least_places ≡ l → h.classes ≡ c → h.ints ≡ i → h.texts ≡ t
    → h.functions ≡ f → h.entry ≡ e → header v l c i t f e ≡ h
unfolding header
same_header v l c i t f e h hv hl hc hi ht hf he = rw (← hv, ← hl, ← hc, ← hi, ← ht, ← hf, ← he) refl

wide : Reads (number w16 Short) (to_be_bytes w16) (λ n. n < 2 ^ 16)
wide = number_reads w16 (2 ^ 16) wide16 Short

abbrev AnyVersion : ImageVersion → Type 0
AnyVersion v = Unit {0}

version_again : (v : ImageVersion) → (number_of v < 2 ^ 16) × (version_of (number_of v) ≡ Some v)
version_again One = (omega arith, refl)
version_again Two = (omega arith, refl)

version_takes : (n : ℕ) (v : ImageVersion) → version_of n ≡ Some v → number_of v ≡ n
version_takes zero v e = absurd cc
version_takes (suc zero) One e = refl
version_takes (suc zero) Two e = absurd cc
version_takes (suc (suc zero)) One e = absurd cc
version_takes (suc (suc zero)) Two e = refl
version_takes (suc (suc (suc n))) v e = absurd cc

version_reads : Reads version_at (λ v. to_be_bytes w16 (number_of v)) AnyVersion
unfolding version_at
version_reads = given_reads version_of (λ n. Version) number_of wide (λ v g. version_again v) (λ n v small e. (version_takes n v e, tt))

pub header_reads : Reads header_at header_bytes FitsHeader
unfolding header_at header_bytes header
header_reads =
    need_reads 20 Short (λ h g. omega arith)
    (expect_reads magic Magic (number_reads w32 (2 ^ 32) wide32 Short) (omega arith)
    (then_reads (λ h. h.version) after_version version_reads (λ h g. tt) (λ v hv.
    then_reads (λ h. h.least_places) after_least (such_that_reads (is_within 1 64) Count wide)
    (λ h g. (omega (arith, g.1.least_places), within_of 1 64 h.least_places g.1.least_places.0 g.1.least_places.1)) (λ l hl.
    then_reads (λ h. h.classes) after_classes wide (λ h g. g.1.1.classes) (λ c hc.
    then_reads (λ h. h.ints) after_ints wide (λ h g. g.1.1.1.ints) (λ i hi.
    then_reads (λ h. h.texts) after_texts wide (λ h g. g.1.1.1.1.texts) (λ t ht.
    then_reads (λ h. h.functions) after_functions (such_that_reads (is_within 1 256) Count wide)
    (λ h g. (omega (arith, g.1.1.1.1.1.functions), within_of 1 256 h.functions g.1.1.1.1.1.functions.0 g.1.1.1.1.1.functions.1)) (λ f hf.
    then_reads (λ h. h.entry) (λ h. to_be_bytes w16 0) wide (λ h g. g.1.1.1.1.1.1.entry) (λ e he.
    spelled_as (expect_reads 0 Reserved wide (omega arith)
    (done_reads (header v l c i t f e) (
      refl,
      (
        refl,
        (
          refl,
          (
            refl,
            (
              refl,
              (
                refl,
                (
                  refl,
                  record {
                    least_places = of_within 1 64 l hl.1;
                    classes = hc;
                    ints = hi;
                    texts = ht;
                    functions = of_within 1 256 f hf.1;
                    entry = he;
                  },
                ),
              ),
            ),
          ),
        ),
      ),
    )
    (λ h g. same_header v l c i t f e h g.1.1.1.1.1.1.0 g.1.1.1.1.1.0 g.1.1.1.1.0 g.1.1.1.0 g.1.1.0 g.1.0 g.0)))
    (λ h. refl))))))))))

-- ---- the whole

-- what has a spelling, but for the rule for the entry
pub record FitsParts (m : Module) : Type 0 where
  pub least_places : (1 ≤ m.least_places) × (m.least_places ≤ 64)
  pub classes : length m.classes < 2 ^ 16
  pub fields : AllByRecursion (FitsClass (length m.classes)) m.classes
  pub ints : (length m.ints < 2 ^ 16) × AllByRecursion (FitsSigned w64) m.ints
  pub texts : (length m.texts < 2 ^ 16) × AllByRecursion FitsText m.texts
  pub functions : (1 ≤ length m.functions) × (length m.functions ≤ 256) × AllByRecursion (FitsFunction m.version (length m.classes)) m.functions
  pub entry : m.entry < 2 ^ 16

module_of : Header → List (List ValueKind) → List ℤ → List (List ℕ) → List Function → Module
module_of h classes ints texts functions = record {
  version = h.version;
  least_places = h.least_places;
  classes = classes;
  ints = ints;
  texts = texts;
  functions = functions;
  entry = h.entry;
}

same_module : (h : Header) (classes : List (List ValueKind)) (ints : List ℤ) (texts : List (List ℕ)) (m : Module) → header_of m ≡ h
    → m.classes ≡ classes → m.ints ≡ ints → m.texts ≡ texts → module_of h classes ints texts m.functions ≡ m
unfolding module_of
same_module h classes ints texts m e c i t = rw (← e, ← c, ← i, ← t) refl

made_header : (h : Header) (classes : List (List ValueKind)) (ints : List ℤ) (texts : List (List ℕ)) (functions : List Function)
    → length classes ≡ h.classes → length ints ≡ h.ints → length texts ≡ h.texts → length functions ≡ h.functions
    → header_of (module_of h classes ints texts functions) ≡ h
unfolding module_of
made_header h classes ints texts functions c i t f = rw (c, i, t, f) refl

fits_parts : (h : Header) (classes : List (List ValueKind)) (ints : List ℤ) (texts : List (List ℕ)) (functions : List Function) → FitsHeader h
    → (length classes ≡ h.classes) × AllByRecursion (FitsClass h.classes) classes
    → (length ints ≡ h.ints) × AllByRecursion (FitsSigned w64) ints
    → (length texts ≡ h.texts) × AllByRecursion FitsText texts
    → (length functions ≡ h.functions) × AllByRecursion (FitsFunction h.version h.classes) functions
    → FitsParts (module_of h classes ints texts functions)
unfolding module_of
fits_parts h classes ints texts functions fits c i t f = record {
  least_places = fits.least_places;
  classes = omega (arith, c.0, fits.classes);
  fields = rw c.0 c.1;
  ints = (omega (arith, i.0, fits.ints), i.1);
  texts = (omega (arith, t.0, fits.texts), t.1);
  functions = (omega (arith, f.0, fits.functions), omega (arith, f.0, fits.functions), rw c.0 f.1);
  entry = fits.entry;
}

fits_header : (m : Module) → FitsParts m → FitsHeader (header_of m)
fits_header m g = record {
  least_places = g.least_places;
  classes = g.classes;
  ints = g.ints.0;
  texts = g.texts.0;
  functions = (g.functions.0, g.functions.1);
  entry = g.entry;
}

abbrev from_functions : Module → List ℕ
from_functions m = flat_map function_bytes m.functions

abbrev from_texts : Module → List ℕ
from_texts m = flat_map text_bytes m.texts ++ from_functions m

abbrev from_ints : Module → List ℕ
from_ints m = flat_map int_bytes m.ints ++ from_texts m

abbrev from_classes : Module → List ℕ
from_classes m = flat_map class_bytes m.classes ++ from_ints m

pub parts_reads : Reads parts_at spelling FitsParts
unfolding parts_at spelling module_of
parts_reads =
    then_reads header_of from_classes header_reads fits_header (λ h fh.
    then_reads (λ m. m.classes) from_ints (each_reads (λ s _. s) (λ _. class_reads h.classes fh.classes) h.classes 0)
    (λ m g. rw (← g.0) (refl, g.1.fields)) (λ classes c.
    then_reads (λ m. m.ints) from_texts (each_reads (λ s _. s) (λ _. int_reads Short) h.ints 0) (λ m g. rw (← g.1.0) (refl, g.1.1.ints.1)) (λ ints i.
    then_reads (λ m. m.texts) from_functions (each_reads (λ s _. s) (λ _. text_reads) h.texts 0) (λ m g. rw (← g.1.1.0) (refl, g.1.1.1.texts.1))
    (λ texts t.
    last_reads (module_of h classes ints texts) (λ m. m.functions)
    (each_reads (λ s _. suc s) (λ f. function_reads h.version h.classes fh.classes f) h.functions 0)
    (λ m g. (rw (← g.1.1.1.0) (refl, g.1.1.1.1.functions.2), same_module h classes ints texts m g.1.1.1.0 g.1.1.0 g.1.0 g.0))
    (λ functions f. (
      refl,
      (
        refl,
        (
          refl,
          (
            refl,
            (
              made_header h classes ints texts functions c.0 i.0 t.0 f.0,
              fits_parts h classes ints texts functions fh c i t f,
            ),
          ),
        ),
      ),
    ))))))

abbrev read_module : Module → Result Module ImageFault
read_module m = Ok m

ok_same : (m n : Module) → read_module m ≡ read_module n → m ≡ n
ok_same m n e = cc

pub no_result : (o : Option Slot) → IfSome o (λ s. ⊥) → is_none o ≡ true
no_result None h = refl
no_result (Some s) h = absurd h

pub of_no_result : (o : Option Slot) → is_none o ≡ true → IfSome o (λ s. ⊥)
of_no_result None h = tt
of_no_result (Some s) h = absurd cc

is_entry_of : (f : Function) → IsEntry f → is_entry (Some f) ≡ true
is_entry_of f fits = and_from (eqb (length f.parameters) 0) (is_none f.result) (eq-eqb (length f.parameters) 0 (omega (arith, fits.parameters)))
    (no_result f.result fits.result)

entry_is : (o : Option Function) → is_entry o ≡ true → (f : Function) × (o ≡ Some f) × IsEntry f
entry_is None h = absurd cc
entry_is (Some f) h =
    let b = and_parts (eqb (length f.parameters) 0) (is_none f.result) h in
    (f, refl, record { parameters = omega (arith, eqb-true (length f.parameters) 0 b.0); result = of_no_result f.result b.1 })

fits_all_parts : (m : Module) → FitsImage m → FitsParts m
fits_all_parts m g = record {
  least_places = g.least_places;
  classes = g.classes;
  fields = g.fields;
  ints = g.ints;
  texts = g.texts;
  functions = g.functions;
  entry = omega (arith, slice_get_within m.functions m.entry g.entry.0 g.entry.1, g.functions.1);
}

fits_image : (m : Module) → FitsParts m → (f : Function) × (slice_get m.functions m.entry ≡ Some f) × IsEntry f → FitsImage m
fits_image m g e = record {
  least_places = g.least_places;
  classes = g.classes;
  fields = g.fields;
  ints = g.ints;
  texts = g.texts;
  functions = g.functions;
  entry = e;
}

-- what is spelled is read again
pub module_again : (m : Module) → FitsImage m → module_at (spelling m) ≡ Ok m
unfolding module_at
module_again m g =
    ap entered (all_again parts_reads Trailing m (fits_all_parts m g))
    ∙ rw (g.entry.1, is_entry_of g.entry.0 g.entry.2) refl

entered_module : (b : Bool) (n m : Module) → is_entry (slice_get n.functions n.entry) ≡ b → entered (Ok n) ≡ Ok m
    → (read_module n ≡ Ok m) × (is_entry (slice_get m.functions m.entry) ≡ true)
entered_module true n m is e =
    let h : read_module n ≡ Ok m = rw is at e in
    (h, subst (λ (k : Module). is_entry (slice_get k.functions k.entry) ≡ true) (ok_same n m h) is)
entered_module false n m is e = absurd (let h = rw is at e in cc)

entered_ok : (o : Result Module ImageFault) (m : Module) → entered o ≡ Ok m → (o ≡ Ok m) × (is_entry (slice_get m.functions m.entry) ≡ true)
entered_ok (Ok n) m e = entered_module (is_entry (slice_get n.functions n.entry)) n m refl e
entered_ok (Err f) m e = absurd cc

-- what is read is spelled so
pub module_takes : (bytes : List ℕ) (m : Module) → IsBytes bytes → module_at bytes ≡ Ok m → FitsImage m × (bytes ≡ spelling m)
unfolding module_at
module_takes bytes m b e =
    let h = entered_ok (all_of parts_at Trailing bytes) m e in
    let t = all_takes parts_reads Trailing bytes m b h.0 in
    (fits_image m t.0 (entry_is (slice_get m.functions m.entry) h.1), t.1)

-- no two modules share a spelling
pub one_module : (m n : Module) → FitsImage m → FitsImage n → spelling m ≡ spelling n → m ≡ n
one_module m n fm fn e = ok_same m n (sym (module_again m fm) ∙ ap module_at e ∙ module_again n fn)
