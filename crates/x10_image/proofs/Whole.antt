-- Reading a whole image: what each step gives, and what they make together.
use Rattle.std.proofs.Common.{◌≡◌, ◌≢◌, ℕ, ℤ, zero, suc, ◌-◌, true, false, List, [], ◌∷◌, ◌++◌, length, Option, Some, None, Result, Ok, Err, IfOk, refl, sym, ap, subst, ◌∙◌, arith, flat_map, slice_get}
use Rattle.x10_kinds.specs.declared.kind.Kind.{Kind}
use Rattle.x10_model.specs.Modules.{Module, Function, FitsImage}
use Rattle.x10_model.specs.Images.{Header, header_of, header_bytes, class_bytes, int_bytes, text_bytes, function_bytes, spelling}
use Rattle.x10_model.specs.Readers.{Reader, IsBytes, bind, done, int, many, times, numbered, all_of, ended}
use Rattle.x10_model.specs.ReadingImages.{ImageFault, Short, Trailing, Entry, header_at, class_at, text_at, function_at, parts_at, is_entry, entered, module_at}
use Rattle.x10_model.proofs.ReaderLaws.{same, bind_is, bind_ok}
use Rattle.x10_model.proofs.PartLaws.{int_reads, each_reads}
use Rattle.x10_model.proofs.ImageLaws.{header_reads, module_takes, module_again}
use Rattle.x10_model.specs.Offsets.{StandsAt, EndsWith, AreAt}
use Rattle.x10_model.proofs.Offsets.{place_is, still_ends, ends_bytes}
use Rattle.x10_image.specs.declared.header.Header.{Header as KeptHeader}
use Rattle.x10_image.specs.declared.fault.ImageFault.{ImageFault as RustFault}
use Rattle.x10_image.specs.Faults.{IsFault, IsFaultOrMemory, Gives}
use Rattle.x10_image.specs.Headers.{seen}
use Rattle.x10_bytes.specs.Tables.{IsTable}
use Rattle.x10_image.specs.Views.{module_in, IsView}
use Rattle.x10_bytes.proofs.Loops.{lenient, early}

-- ---- the reader, step by step

abbrev pub module_of : Header → List (List Kind) → List ℤ → List (List ℕ) → List Function → Module
module_of h classes ints texts functions = record {
  version = h.version;
  least_places = h.least_places;
  classes = classes;
  ints = ints;
  texts = texts;
  functions = functions;
  entry = h.entry;
}

abbrev pub from_texts : Header → List (List Kind) → List ℤ → List (List ℕ) → Reader ImageFault Module
from_texts h classes ints texts = bind (numbered h.functions (function_at h.version h.classes))
    (λ functions. done (module_of h classes ints texts functions))

abbrev pub from_ints : Header → List (List Kind) → List ℤ → Reader ImageFault Module
from_ints h classes ints = bind (times h.texts text_at) (from_texts h classes ints)

abbrev pub from_classes : Header → List (List Kind) → Reader ImageFault Module
from_classes h classes = bind (times h.ints (int Short)) (from_ints h classes)

abbrev pub from_header : Header → Reader ImageFault Module
from_header h = bind (times h.classes (class_at h.classes)) (from_classes h)

parts_is : (bytes : List ℕ) → parts_at bytes ≡ bind header_at from_header bytes
unfolding parts_at
parts_is bytes = refl

-- ---- what the steps give

abbrev pub IsHeader : List ℕ → Header → List ℕ → Type 0
IsHeader bytes h rest = header_at bytes ≡ Ok (h, rest)

abbrev pub AreClasses : List ℕ → Header → List ℕ → List ℕ → List ℕ → Type 0
AreClasses bytes h table from rest = IsTable class_bytes bytes table rest (times h.classes (class_at h.classes) from)

abbrev pub AreInts : Header → List ℕ → List ℕ → Type 0
AreInts h from rest = (ints : List ℤ) × (times h.ints (int Short) from ≡ Ok (ints, rest))

abbrev pub AreTexts : List ℕ → Header → List ℕ → List ℕ → List ℕ → Type 0
AreTexts bytes h table from rest = IsTable text_bytes bytes table rest (times h.texts text_at from)

abbrev pub AreFunctions : List ℕ → Header → List ℕ → List ℕ → List ℕ → Type 0
AreFunctions bytes h table from rest = IsTable function_bytes bytes table rest (numbered h.functions (function_at h.version h.classes) from)

pub header_ends : (bytes : List ℕ) (h : Header) (rest : List ℕ) → IsBytes bytes → IsHeader bytes h rest → EndsWith bytes rest
header_ends bytes h rest b e = record { before = header_bytes h; is = (header_reads.takes bytes h rest b e).0.parts }

pub ints_take : (h : Header) (from : List ℕ) (ints : List ℤ) (rest : List ℕ) → IsBytes from → times h.ints (int Short) from ≡ Ok (ints, rest)
    → (from ≡ flat_map int_bytes ints ++ rest) × (length ints ≡ h.ints)
ints_take h from ints rest b e = let t = (each_reads (λ s _. s) (λ (_ : ℕ). int_reads Short) h.ints 0).takes from ints rest b e in (t.0.parts, t.1.0)

pub ints_end : (bytes : List ℕ) (h : Header) (from rest : List ℕ) → IsBytes bytes → EndsWith bytes from → AreInts h from rest → EndsWith bytes rest
ints_end bytes h from rest b e i = still_ends bytes from (flat_map int_bytes i.0) rest e (ints_take h from i.0 rest (ends_bytes bytes from b e) i.1).0

-- ---- faults

parts_fault : (bytes : List ℕ) (f : ImageFault) → parts_at bytes ≡ Err f → module_at bytes ≡ Err f
unfolding module_at all_of
parts_fault bytes f e = rw e refl

pub fault_of_parts : (bytes : List ℕ) (f : Option ImageFault) → IsFaultOrMemory f (parts_at bytes) → IsFaultOrMemory f (module_at bytes)
fault_of_parts bytes None h = tt
fault_of_parts bytes (Some f) h = parts_fault bytes f h

pub at_header : (bytes : List ℕ) (h : Header) (rest : List ℕ) → IsHeader bytes h rest → parts_at bytes ≡ from_header h rest
at_header bytes h rest e = parts_is bytes ∙ bind_is header_at from_header bytes h rest e

pub at_classes : (bytes : List ℕ) (h : Header) (table from rest : List ℕ) → (t : AreClasses bytes h table from rest)
    → from_header h from ≡ from_classes h t.items rest
at_classes bytes h table from rest t = bind_is (times h.classes (class_at h.classes)) (from_classes h) from t.items rest t.reads

pub at_ints : (h : Header) (classes : List (List Kind)) (from rest : List ℕ) → (i : AreInts h from rest)
    → from_classes h classes from ≡ from_ints h classes i.0 rest
at_ints h classes from rest i = bind_is (times h.ints (int Short)) (from_ints h classes) from i.0 rest i.1

pub at_texts : (bytes : List ℕ) (h : Header) (classes : List (List Kind)) (ints : List ℤ) (table from rest : List ℕ)
    → (t : AreTexts bytes h table from rest) → from_ints h classes ints from ≡ from_texts h classes ints t.items rest
at_texts bytes h classes ints table from rest t = bind_is (times h.texts text_at) (from_texts h classes ints) from t.items rest t.reads

pub at_functions : (bytes : List ℕ) (h : Header) (classes : List (List Kind)) (ints : List ℤ) (texts : List (List ℕ)) (table from rest : List ℕ)
    → (t : AreFunctions bytes h table from rest) → from_texts h classes ints texts from ≡ Ok (module_of h classes ints texts t.items, rest)
unfolding done
at_functions bytes h classes ints texts table from rest t = bind_is (numbered h.functions (function_at h.version h.classes))
    (λ functions. done (module_of h classes ints texts functions)) from t.items rest t.reads

pub header_fault : (bytes : List ℕ) (f : Option ImageFault) → IsFault f (header_at bytes) → IsFaultOrMemory f (module_at bytes)
header_fault bytes f e = fault_of_parts bytes f (rw parts_is (early header_at from_header bytes f (lenient f (header_at bytes) e)))

pub classes_fault : (bytes : List ℕ) (h : Header) (r1 : List ℕ) (f : Option ImageFault) → IsHeader bytes h r1
    → IsFaultOrMemory f (times h.classes (class_at h.classes) r1) → IsFaultOrMemory f (module_at bytes)
classes_fault bytes h r1 f head e = fault_of_parts bytes f (rw (at_header bytes h r1 head)
    (early (times h.classes (class_at h.classes)) (from_classes h) r1 f e))

pub ints_fault : (bytes : List ℕ) (h : Header) (r1 ct r2 : List ℕ) (f : Option ImageFault) → IsHeader bytes h r1 → AreClasses bytes h ct r1 r2
    → IsFault f (times h.ints (int Short) r2) → IsFaultOrMemory f (module_at bytes)
ints_fault bytes h r1 ct r2 f head cs e = fault_of_parts bytes f
    (rw (at_header bytes h r1 head ∙ at_classes bytes h ct r1 r2 cs)
    (early (times h.ints (int Short)) (from_ints h cs.items) r2 f (lenient f (times h.ints (int Short) r2) e)))

pub texts_fault : (bytes : List ℕ) (h : Header) (r1 ct r2 r3 : List ℕ) (f : Option ImageFault) → IsHeader bytes h r1 → AreClasses bytes h ct r1 r2
    → AreInts h r2 r3 → IsFaultOrMemory f (times h.texts text_at r3) → IsFaultOrMemory f (module_at bytes)
texts_fault bytes h r1 ct r2 r3 f head cs is e = fault_of_parts bytes f
    (rw (at_header bytes h r1 head ∙ at_classes bytes h ct r1 r2 cs ∙ at_ints h cs.items r2 r3 is)
    (early (times h.texts text_at) (from_texts h cs.items is.0) r3 f e))

pub functions_fault : (bytes : List ℕ) (h : Header) (r1 ct r2 r3 tt r4 : List ℕ) (f : Option ImageFault) → IsHeader bytes h r1
    → AreClasses bytes h ct r1 r2 → AreInts h r2 r3 → AreTexts bytes h tt r3 r4
    → IsFaultOrMemory f (numbered h.functions (function_at h.version h.classes) r4) → IsFaultOrMemory f (module_at bytes)
functions_fault bytes h r1 ct r2 r3 ts_table r4 f head cs is ts e =
    fault_of_parts bytes f (rw (at_header bytes h r1 head ∙ at_classes bytes h ct r1 r2 cs ∙ at_ints h cs.items r2 r3 is
    ∙ at_texts bytes h cs.items is.0 ts_table r3 r4 ts)
    (early (numbered h.functions (function_at h.version h.classes)) (λ functions. done (module_of h cs.items is.0 ts.items functions)) r4 f e))

-- ---- all of the steps

pub record Steps (bytes : List ℕ) (h : KeptHeader) (r1 ct r2 r3 tt r4 ft r5 : List ℕ) : Type 0 where
  pub small : IsBytes bytes
  pub header : IsHeader bytes (seen h) r1
  pub classes : AreClasses bytes (seen h) ct r1 r2
  pub ints : AreInts (seen h) r2 r3
  pub texts : AreTexts bytes (seen h) tt r3 r4
  pub functions : AreFunctions bytes (seen h) ft r4 r5

abbrev pub made : (bytes : List ℕ) (h : KeptHeader) (r1 ct r2 r3 tt r4 ft r5 : List ℕ) → Steps bytes h r1 ct r2 r3 tt r4 ft r5 → Module
made bytes h r1 ct r2 r3 tt r4 ft r5 s = module_of (seen h) s.classes.items s.ints.0 s.texts.items s.functions.items

parts_are : (bytes : List ℕ) (h : KeptHeader) (r1 ct r2 r3 tt r4 ft r5 : List ℕ) → (s : Steps bytes h r1 ct r2 r3 tt r4 ft r5)
    → parts_at bytes ≡ Ok (made bytes h r1 ct r2 r3 tt r4 ft r5 s, r5)
parts_are bytes h r1 ct r2 r3 ts_table r4 ft r5 s =
    at_header bytes (seen h) r1 s.header
    ∙ at_classes bytes (seen h) ct r1 r2 s.classes
    ∙ at_ints (seen h) s.classes.items r2 r3 s.ints
    ∙ at_texts bytes (seen h) s.classes.items s.ints.0 ts_table r3 r4 s.texts
    ∙ at_functions bytes (seen h) s.classes.items s.ints.0 s.texts.items ft r4 r5 s.functions

more_left : (m : Module) (rest : List ℕ) → length rest ≢ 0 → entered (ended Trailing (Ok (m, rest))) ≡ Err Trailing
more_left m [] h = absurd (h refl)
more_left m (b ∷ rest) h = refl

none_left : (m : Module) (rest : List ℕ) → length rest ≡ 0 → entered (ended Trailing (Ok (m, rest))) ≡ entered (Ok m)
none_left m [] h = refl
none_left m (b ∷ rest) h = absurd (omega arith)

pub trailing : (bytes : List ℕ) (h : KeptHeader) (r1 ct r2 r3 tt r4 ft r5 : List ℕ) → (s : Steps bytes h r1 ct r2 r3 tt r4 ft r5) → length r5 ≢ 0
    → module_at bytes ≡ Err Trailing
unfolding module_at all_of
trailing bytes h r1 ct r2 r3 ts_table r4 ft r5 s more = rw (parts_are bytes h r1 ct r2 r3 ts_table r4 ft r5 s) (more_left _ r5 more)

entered_by : (bytes : List ℕ) (h : KeptHeader) (r1 ct r2 r3 tt r4 ft r5 : List ℕ) → (s : Steps bytes h r1 ct r2 r3 tt r4 ft r5) → length r5 ≡ 0
    → module_at bytes ≡ entered (Ok (made bytes h r1 ct r2 r3 tt r4 ft r5 s))
unfolding module_at all_of
entered_by bytes h r1 ct r2 r3 ts_table r4 ft r5 s end = rw (parts_are bytes h r1 ct r2 r3 ts_table r4 ft r5 s) (none_left _ r5 end)

pub no_entry : (bytes : List ℕ) (h : KeptHeader) (r1 ct r2 r3 tt r4 ft r5 : List ℕ) → (s : Steps bytes h r1 ct r2 r3 tt r4 ft r5) → length r5 ≡ 0
    → is_entry (slice_get s.functions.items h.entry) ≡ false → module_at bytes ≡ Err Entry
no_entry bytes h r1 ct r2 r3 ts_table r4 ft r5 s end e = entered_by bytes h r1 ct r2 r3 ts_table r4 ft r5 s end ∙ rw e refl

pub read_is : (bytes : List ℕ) (h : KeptHeader) (r1 ct r2 r3 tt r4 ft r5 : List ℕ) → (s : Steps bytes h r1 ct r2 r3 tt r4 ft r5) → length r5 ≡ 0
    → is_entry (slice_get s.functions.items h.entry) ≡ true → module_at bytes ≡ Ok (made bytes h r1 ct r2 r3 tt r4 ft r5 s)
read_is bytes h r1 ct r2 r3 ts_table r4 ft r5 s end e = entered_by bytes h r1 ct r2 r3 ts_table r4 ft r5 s end ∙ rw e refl

-- ---- the view

abbrev pub read_module : Module → Result Module ImageFault
read_module m = Ok m

pub module_in_is : (bytes : List ℕ) (m : Module) → module_at bytes ≡ Ok m → module_in bytes ≡ m
unfolding module_in
module_in_is bytes m e = rw e refl

lengths : (h : Header) (classes : List (List Kind)) (ints : List ℤ) (texts : List (List ℕ)) (functions : List Function) → length classes ≡ h.classes
    → length ints ≡ h.ints → length texts ≡ h.texts → length functions ≡ h.functions → header_of (module_of h classes ints texts functions) ≡ h
lengths h classes ints texts functions c i t f = rw (c, i, t, f) refl

many_length : {S A : Type 0} (item : S → Reader ImageFault A) (after : S → A → S) (n : ℕ) (s : S) (bytes : List ℕ) (xs : List A) (rest : List ℕ)
    → many item after n s bytes ≡ Ok (xs, rest) → length xs ≡ n
unfolding many done
many_length item after zero s bytes xs rest e = ap length (sym (same {E = ImageFault} [] xs bytes rest e).0)
many_length item after (suc n) s bytes xs rest e =
    let one = bind_ok (item s) (λ first. bind (many item after n (after s first)) (λ others. done (first ∷ others))) bytes xs rest e in
    let two = bind_ok (many item after n (after s one.value)) (λ others. done (one.value ∷ others)) one.middle xs rest one.second in
    let is = same {E = ImageFault} (one.value ∷ two.value) xs two.middle rest two.second in
    ap length (sym is.0) ∙ ap suc (many_length item after n (after s one.value) one.middle two.value two.middle two.first)

header_is : (bytes : List ℕ) (h : KeptHeader) (r1 ct r2 r3 tt r4 ft r5 : List ℕ) → (s : Steps bytes h r1 ct r2 r3 tt r4 ft r5)
    → header_of (made bytes h r1 ct r2 r3 tt r4 ft r5 s) ≡ seen h
header_is bytes h r1 ct r2 r3 ts_table r4 ft r5 s =
    lengths (seen h) s.classes.items s.ints.0 s.texts.items s.functions.items
    (many_length _ _ h.classes 0 r1 s.classes.items r2 s.classes.reads) (many_length _ _ h.ints 0 r2 s.ints.0 r3 s.ints.1)
    (many_length _ _ h.texts 0 r3 s.texts.items r4 s.texts.reads) (many_length _ _ h.functions 0 r4 s.functions.items r5 s.functions.reads)

pub is_view : (bytes : List ℕ) (h : KeptHeader) (r1 ct r2 r3 tt r4 ft r5 : List ℕ) → (s : Steps bytes h r1 ct r2 r3 tt r4 ft r5)
    → module_at bytes ≡ Ok (made bytes h r1 ct r2 r3 tt r4 ft r5 s) → IsView bytes h (length bytes - length r2) ct tt ft
is_view bytes h r1 ct r2 r3 ts_table r4 ft r5 s e =
    let m : Module = made bytes h r1 ct r2 r3 ts_table r4 ft r5 s in
    let is : module_in bytes ≡ m = module_in_is bytes m e in
    let law = module_takes bytes m s.small e in
    let b2 = ends_bytes bytes r2 s.small s.classes.ends in
    record {
      fits = subst FitsImage (sym is) law.0;
      spelled = law.1 ∙ ap spelling (sym is);
      header_is = ap header_of is ∙ header_is bytes h r1 ct r2 r3 ts_table r4 ft r5 s;
      ints_at = subst (λ (n : Module). StandsAt bytes (length bytes - length r2) (flat_map int_bytes n.ints)) (sym is)
          (place_is bytes r2 (flat_map int_bytes s.ints.0) r3 s.classes.ends (ints_take (seen h) r2 s.ints.0 r3 b2 s.ints.1).0);
      classes_at = subst (λ (n : Module). AreAt class_bytes bytes ct n.classes) (sym is) s.classes.places;
      texts_at = subst (λ (n : Module). AreAt text_bytes bytes ts_table n.texts) (sym is) s.texts.places;
      functions_at = subst (λ (n : Module). AreAt function_bytes bytes ft n.functions) (sym is) s.functions.places;
    }

pub is_in : (bytes : List ℕ) (m : Module) → module_at bytes ≡ Ok m → module_at bytes ≡ Ok (module_in bytes)
is_in bytes m e = e ∙ ap (λ (n : Module). read_module n) (sym (module_in_is bytes m e))

-- ---- the clauses of reading

pub found : (bytes : List ℕ) (r : Result Module RustFault) → IsBytes bytes → Gives (λ v. v) r (module_at bytes)
    → IfOk r (λ m. FitsImage m × (bytes ≡ spelling m))
found bytes (Ok m) b e = module_takes bytes m b e
found bytes (Err f) b e = tt

pub only : (bytes : List ℕ) (r : Result Module RustFault) (m : Module) → Gives (λ v. v) r (module_at bytes) → FitsImage m → bytes ≡ spelling m
    → Gives (λ v. v) r (read_module m)
only bytes r m e fits is = subst (λ (o : Result Module ImageFault). Gives (λ v. v) r o) (ap module_at is ∙ module_again m fits) e
