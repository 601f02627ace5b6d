-- What the tests of a module say, and the bytes that are written.
use Rattle.std.proofs.Common.{◌≡◌, ℕ, zero, suc, ◌^◌, ◌≤◌, Bool, true, false, not, ◌&&◌, ◌||◌, eqb, ltb, leb, is_none, eqb-true, eq-eqb, List, [], ◌∷◌, ◌++◌, length, map, Option, Some, None, IfSome, FitsSigned, refl, sym, ap, subst, ◌∙◌, append_assoc, arith, flat_map, slice_get, ltb-true, lt-ltb, leb-true, le-leb}
use Rattle.std.proofs.lemmas.List.{length-map}
use Rattle.std.specs.Prelude.{Vec, IsUtf8}
use Rattle.std.specs.Global.{Global}
use Rattle.std.specs.Option.{option_map}
use Rattle.std.specs.List.{AllByRecursion, list_all}
use Rattle.std.specs.Int.{w64}
use Rattle.std.specs.Str.{is_utf8}
use Rattle.std.specs.String.{string_bytes}
use Rattle.std.proofs.lemmas.Option.{slice_get-map}
use Rattle.std.proofs.lemmas.Str.{IsUtf8-from_is_utf8, is_utf8-from_IsUtf8}
use Rattle.std.proofs.lemmas.Bool.{and_from, and_parts}
use Rattle.x10_kinds.specs.declared.kind.Kind.{Kind}
use Rattle.x10_kinds.specs.declared.kind.Kind.TheVariants as kind
use Rattle.x10_code.specs.declared.instr.Instr.{Instr}
use Rattle.x10_code.specs.Spelling.{IsInstr, fits_form}
use Rattle.x10_model.specs.Modules as model
use Rattle.x10_model.specs.Modules.{NamesClassBelow, takes_flag, FitsSlot, FitsClass, FitsText, is_known, IsInstrOf, FitsFunction, FitsImage, IsEntry}
use Rattle.x10_model.specs.Ranges.{instr_at, instr_in}
use Rattle.x10_model.specs.ReadingImages.{is_within, is_entry}
use Rattle.x10_model.specs.declared.slot.Slot.{Slot}
use Rattle.x10_model.specs.declared.version.ImageVersion.{ImageVersion}
use Rattle.x10_model.specs.Images.{Header, header_of, header_bytes, class_bytes, int_bytes, text_bytes, function_bytes, spelling}
use Rattle.x10_model.proofs.ImageParts.{within_of, of_within}
use Rattle.x10_image.specs.declared.module.Module.{Module}
use Rattle.x10_image.specs.declared.module.Function.{Function}
use Rattle.x10_image.specs.declared.fault.ImageFault.{ImageFault}
use Rattle.x10_image.specs.declared.fault.ImageFault.TheVariants as fault
use Rattle.x10_image.specs.Written.{function_shown, shown, names_below, slot_fits, result_fits, is_spelled, instr_fits, text_fits, signature_fits, counts_of_function, tables_fit, items_fit, kinds_of_function, kinds_fit, entry_fits, Hinders, NothingHinders}
use Rattle.x10_model.proofs.Lists.{all_at}
use Rattle.x10_model.proofs.ImageLaws.{no_result, of_no_result}

-- ---- lists of tests

pub list_all_true : {A : Type 0} (p : A → Bool) (xs : List A) (i : ℕ) (x : A) → list_all p xs ≡ true → slice_get xs i ≡ Some x → p x ≡ true
list_all_true p [] i x h e = absurd cc
list_all_true p (y ∷ xs) zero x h e = let is : y ≡ x = cc in ap p (sym is) ∙ (and_parts (p y) (list_all p xs) h).0
list_all_true p (y ∷ xs) (suc i) x h e = list_all_true p xs i x (and_parts (p y) (list_all p xs) h).1 e

all_from : {A : Type 0} (p : A → Bool) (P : A → Type 0) → ((x : A) → p x ≡ true → P x) → (xs : List A) → list_all p xs ≡ true → AllByRecursion P xs
all_from p P each [] h = tt
all_from p P each (x ∷ xs) h = let b = and_parts (p x) (list_all p xs) h in (each x b.0, all_from p P each xs b.1)

all_to : {A : Type 0} (p : A → Bool) (P : A → Type 0) → ((x : A) → P x → p x ≡ true) → (xs : List A) → AllByRecursion P xs → list_all p xs ≡ true
all_to p P each [] h = refl
all_to p P each (x ∷ xs) h = and_from (p x) (list_all p xs) (each x h.0) (all_to p P each xs h.1)

all_map : {A B : Type 0} (f : A → B) (P : B → Type 0) → (xs : List A) → AllByRecursion (λ x. P (f x)) xs → AllByRecursion P (map f xs)
all_map f P [] h = tt
all_map f P (x ∷ xs) h = (h.0, all_map f P xs h.1)

all_unmap : {A B : Type 0} (f : A → B) (P : B → Type 0) → (xs : List A) → AllByRecursion P (map f xs) → AllByRecursion (λ x. P (f x)) xs
all_unmap f P [] h = tt
all_unmap f P (x ∷ xs) h = (h.0, all_unmap f P xs h.1)

all_both : {A : Type 0} (P Q R : A → Type 0) → ((x : A) → P x → Q x → R x) → (xs : List A) → AllByRecursion P xs → AllByRecursion Q xs
    → AllByRecursion R xs
all_both P Q R each [] h k = tt
all_both P Q R each (x ∷ xs) h k = (each x h.0 k.0, all_both P Q R each xs h.1 k.1)

-- ---- kinds

names_from : (classes : ℕ) (k : Kind) → names_below classes k ≡ true → NamesClassBelow classes k
names_from classes kind.Int h = tt
names_from classes kind.Place h = tt
names_from classes kind.Text h = tt
names_from classes kind.Rail h = tt
names_from classes (kind.Obj c) h = ltb-true c classes h
names_from classes (kind.Opt c) h = ltb-true c classes h
names_from classes (kind.GRef c) h = ltb-true c classes h

names_to : (classes : ℕ) (k : Kind) → NamesClassBelow classes k → names_below classes k ≡ true
names_to classes kind.Int h = refl
names_to classes kind.Place h = refl
names_to classes kind.Text h = refl
names_to classes kind.Rail h = refl
names_to classes (kind.Obj c) h = lt-ltb c classes h
names_to classes (kind.Opt c) h = lt-ltb c classes h
names_to classes (kind.GRef c) h = lt-ltb c classes h

flag_from : (here takes : Bool) → (not here || takes) ≡ true → here ≡ true → takes ≡ true
flag_from true takes h k = h
flag_from false takes h k = absurd cc

flag_to : (here takes : Bool) → (here ≡ true → takes ≡ true) → (not here || takes) ≡ true
flag_to true takes h = h refl
flag_to false takes h = refl

slot_from : (classes : ℕ) (s : Slot) → slot_fits classes s ≡ true → FitsSlot classes s
slot_from classes s h =
    let b = and_parts (names_below classes s.kind) (not s.home_here || takes_flag s.kind) h in
    record { class = names_from classes s.kind b.0; flag = flag_from s.home_here (takes_flag s.kind) b.1 }

slot_to : (classes : ℕ) (s : Slot) → FitsSlot classes s → slot_fits classes s ≡ true
slot_to classes s h = and_from (names_below classes s.kind) (not s.home_here || takes_flag s.kind) (names_to classes s.kind h.class)
    (flag_to s.home_here (takes_flag s.kind) h.flag)

result_from : (classes : ℕ) (r : Option Slot) → result_fits classes r ≡ true → IfSome r (FitsSlot classes)
result_from classes None h = tt
result_from classes (Some s) h = slot_from classes s h

result_to : (classes : ℕ) (r : Option Slot) → IfSome r (FitsSlot classes) → result_fits classes r ≡ true
result_to classes None h = refl
result_to classes (Some s) h = slot_to classes s h

-- ---- instructions

spelled_from : (i : Instr) → is_spelled i ≡ true → IsInstr i
spelled_from i h =
    let b4 = and_parts _ (fits_form i) h in
    let b3 = and_parts _ (ltb i.x (2 ^ 32)) b4.0 in
    let b2 = and_parts _ (ltb i.c 256) b3.0 in
    let b1 = and_parts (ltb i.a 256) (ltb i.b 256) b2.0 in
    record { a = ltb-true i.a 256 b1.0; b = ltb-true i.b 256 b1.1; c = ltb-true i.c 256 b2.1; x = ltb-true i.x (2 ^ 32) b3.1; form = b4.1 }

spelled_to : (i : Instr) → IsInstr i → is_spelled i ≡ true
spelled_to i h = and_from _ (fits_form i) (and_from _ (ltb i.x (2 ^ 32))
    (and_from _ (ltb i.c 256) (and_from (ltb i.a 256) (ltb i.b 256) (lt-ltb i.a 256 h.a) (lt-ltb i.b 256 h.b)) (lt-ltb i.c 256 h.c))
    (lt-ltb i.x (2 ^ 32) h.x)) h.form

instr_from : (version : ImageVersion) (i : Instr) → instr_fits version i ≡ true → IsInstrOf version i
instr_from version i h = let b = and_parts (is_spelled i) (is_known version i.op) h in record { spelled = spelled_from i b.0; known = b.1 }

instr_to : (version : ImageVersion) (i : Instr) → IsInstrOf version i → instr_fits version i ≡ true
instr_to version i h = and_from (is_spelled i) (is_known version i.op) (spelled_to i h.spelled) h.known

-- what an image may have is of its form
form_of_each : (version : ImageVersion) (is : List Instr) → list_all (instr_fits version) is ≡ true → list_all fits_form is ≡ true
form_of_each version [] h = refl
form_of_each version (i ∷ is) h =
    let b = and_parts (instr_fits version i) (list_all (instr_fits version) is) h in
    and_from (fits_form i) (list_all fits_form is) (instr_from version i b.0).spelled.form (form_of_each version is b.1)

pub form_of_all : (version : ImageVersion) (fs : List Function) → list_all (λ f. list_all (instr_fits version) f.code.items) fs ≡ true
    → list_all (λ f. list_all fits_form f.code.items) fs ≡ true
form_of_all version [] h = refl
form_of_all version (f ∷ fs) h =
    let b = and_parts (list_all (instr_fits version) f.code.items) (list_all (λ g. list_all (instr_fits version) g.code.items) fs) h in
    and_from (list_all fits_form f.code.items) (list_all (λ g. list_all fits_form g.code.items) fs) (form_of_each version f.code.items b.0)
    (form_of_all version fs b.1)

-- ---- texts

text_from : (t : List ℕ) → text_fits t ≡ true → FitsText t
text_from t h = let b = and_parts (leb (length t) 65535) (is_utf8 t) h in
    record { length = omega (arith, leb-true (length t) 65535 b.0); utf8 = IsUtf8-from_is_utf8 t b.1 }

text_to : (t : List ℕ) → FitsText t → text_fits t ≡ true
text_to t h = and_from (leb (length t) 65535) (is_utf8 t) (le-leb (length t) 65535 (let less = h.length in omega (arith, less)))
    (is_utf8-from_IsUtf8 t h.utf8)

-- ---- functions

pub record Counts (f : model.Function) : Type 0 where
  pub parameters : length f.parameters ≤ 16
  pub registers : (1 ≤ f.registers) × (f.registers ≤ 64)
  pub room : length f.parameters ≤ f.registers
  pub loops : f.loops ≤ 8
  pub code : (1 ≤ length f.code) × (length f.code ≤ 4096)

pub counts_from : (f : model.Function) → counts_of_function f ≡ true → Counts f
counts_from f h =
    let b4 = and_parts (signature_fits f) (is_within 1 4096 (length f.code)) h in
    let b3 = and_parts _ (leb (length f.parameters) 16) b4.0 in
    let b2 = and_parts _ (leb f.loops 8) b3.0 in
    let b1 = and_parts (is_within 1 64 f.registers) (leb (length f.parameters) f.registers) b2.0 in
    record {
      parameters = leb-true (length f.parameters) 16 b3.1;
      registers = of_within 1 64 f.registers b1.0;
      room = leb-true (length f.parameters) f.registers b1.1;
      loops = leb-true f.loops 8 b2.1;
      code = of_within 1 4096 (length f.code) b4.1;
    }

counts_to : (version : ImageVersion) (classes : ℕ) (f : model.Function) → FitsFunction version classes f → counts_of_function f ≡ true
counts_to version classes f h =
    and_from (signature_fits f) (is_within 1 4096 (length f.code))
    (and_from _ (leb (length f.parameters) 16)
    (and_from _ (leb f.loops 8)
    (and_from (is_within 1 64 f.registers) (leb (length f.parameters) f.registers) (within_of 1 64 f.registers h.registers.0 h.registers.1)
    (le-leb (length f.parameters) f.registers h.room))
    (le-leb f.loops 8 h.loops))
    (le-leb (length f.parameters) 16 h.parameters))
    (within_of 1 4096 (length f.code) h.length.0 h.length.1)

kinds_to : (version : ImageVersion) (classes : ℕ) (f : model.Function) → FitsFunction version classes f → kinds_of_function classes f ≡ true
kinds_to version classes f h = and_from (list_all (slot_fits classes) f.parameters) (result_fits classes f.result)
    (all_to (slot_fits classes) (FitsSlot classes) (slot_to classes) f.parameters h.slots) (result_to classes f.result h.result)

function_from : (version : ImageVersion) (classes : ℕ) (f : model.Function) → counts_of_function f ≡ true → kinds_of_function classes f ≡ true
    → list_all (instr_fits version) f.code ≡ true → FitsFunction version classes f
function_from version classes f h k i =
    let c = counts_from f h in
    let b = and_parts (list_all (slot_fits classes) f.parameters) (result_fits classes f.result) k in
    record {
      parameters = c.parameters;
      registers = c.registers;
      room = c.room;
      loops = c.loops;
      slots = all_from (slot_fits classes) (FitsSlot classes) (slot_from classes) f.parameters b.0;
      result = result_from classes f.result b.1;
      length = c.code;
      code = all_from (instr_fits version) (IsInstrOf version) (instr_from version) f.code i;
    }

functions_from : (version : ImageVersion) (classes : ℕ) (fs : List Function) → list_all (λ f. counts_of_function (function_shown f)) fs ≡ true
    → list_all (λ f. kinds_of_function classes (function_shown f)) fs ≡ true → list_all (λ f. list_all (instr_fits version) f.code.items) fs ≡ true
    → AllByRecursion (FitsFunction version classes) (map function_shown fs)
functions_from version classes [] h k i = tt
functions_from version classes (f ∷ fs) h k i =
    let a = and_parts (counts_of_function (function_shown f)) (list_all (λ g. counts_of_function (function_shown g)) fs) h in
    let b = and_parts (kinds_of_function classes (function_shown f)) (list_all (λ g. kinds_of_function classes (function_shown g)) fs) k in
    let c = and_parts (list_all (instr_fits version) f.code.items) (list_all (λ g. list_all (instr_fits version) g.code.items) fs) i in
    (function_from version classes (function_shown f) a.0 b.0 c.0, functions_from version classes fs a.1 b.1 c.1)

-- ---- the entry

entry_from : (o : Option model.Function) → is_entry o ≡ true → (f : model.Function) × (o ≡ Some f) × IsEntry f
entry_from None h = absurd cc
entry_from (Some f) h =
    let b = and_parts (eqb (length f.parameters) 0) (is_none f.result) h in
    (f, refl, record { parameters = omega (arith, eqb-true (length f.parameters) 0 b.0); result = of_no_result f.result b.1 })

entry_to : (o : Option model.Function) (f : model.Function) → o ≡ Some f → IsEntry f → is_entry o ≡ true
entry_to o f e h = ap is_entry e ∙ and_from (eqb (length f.parameters) 0) (is_none f.result)
    (eq-eqb (length f.parameters) 0 (omega (arith, h.parameters))) (no_result f.result h.result)

-- ---- the whole

fields_from : (classes : ℕ) (cs : List (Vec Kind Global)) → list_all (λ c. leb (length c.items) 16) cs ≡ true
    → list_all (λ c. list_all (names_below classes) c.items) cs ≡ true → AllByRecursion (FitsClass classes) (map (λ c. c.items) cs)
fields_from classes [] h k = tt
fields_from classes (c ∷ cs) h k =
    let a = and_parts (leb (length c.items) 16) (list_all (λ d. leb (length d.items) 16) cs) h in
    let b = and_parts (list_all (names_below classes) c.items) (list_all (λ d. list_all (names_below classes) d.items) cs) k in (
      record {
        count = leb-true (length c.items) 16 a.0;
        kinds = all_from (names_below classes) (NamesClassBelow classes)
            (names_from classes) c.items b.0;
      },
      fields_from classes cs a.1 b.1,
    )

pub passes_fits : (m : Module) → NothingHinders m → AllByRecursion (FitsSigned w64) m.ints.items → FitsImage (shown m)
passes_fits m p ints =
    let t4 = and_parts _ (is_within 1 256 (length m.functions.items)) p.tables in
    let t3 = and_parts _ (leb (length m.texts.items) 65535) t4.0 in
    let t2 = and_parts _ (leb (length m.ints.items) 65535) t3.0 in
    let t1 = and_parts (is_within 1 64 m.least_places) (leb (length m.classes.items) 65535) t2.0 in
    let i2 = and_parts _ (list_all (λ f. counts_of_function (function_shown f)) m.functions.items) p.items in
    let i1 = and_parts (list_all (λ c. leb (length c.items) 16) m.classes.items) (list_all (λ t. text_fits (string_bytes t)) m.texts.items) i2.0 in
    let k = and_parts (list_all (λ c. list_all (names_below (length m.classes.items)) c.items) m.classes.items)
    (list_all (λ f. kinds_of_function (length m.classes.items) (function_shown f)) m.functions.items) p.kinds in
    let classes_long : length (map (λ c. c.items) m.classes.items) ≡ length m.classes.items = length-map m.classes.items (λ c. c.items) in
    let texts_long : length (map string_bytes m.texts.items) ≡ length m.texts.items = length-map m.texts.items string_bytes in
    let functions_long : length (map function_shown m.functions.items) ≡ length m.functions.items = length-map m.functions.items function_shown in
    let range = of_within 1 256 (length m.functions.items) t4.1 in
    record {
      least_places = of_within 1 64 m.least_places t1.0;
      classes = omega (arith, classes_long, leb-true (length m.classes.items) 65535 t1.1);
      fields = rw classes_long (fields_from (length m.classes.items) m.classes.items i1.0 k.0);
      ints = (omega (arith, leb-true (length m.ints.items) 65535 t2.1), ints);
      texts = (
        omega (arith, texts_long, leb-true (length m.texts.items) 65535 t3.1),
        all_map string_bytes FitsText m.texts.items (all_from (λ t. text_fits (string_bytes t)) (λ t. FitsText (string_bytes t))
            (λ t. text_from (string_bytes t)) m.texts.items i1.1),
      );
      functions = (
        omega (arith, functions_long, range),
        omega (arith, functions_long, range),
        rw classes_long (functions_from m.version (length m.classes.items) m.functions.items i2.1 k.1 p.code),
      );
      entry = entry_from (slice_get (map function_shown m.functions.items) m.entry) p.entry_is;
    }

not_both : (b : Bool) → b ≡ true → b ≡ false → ⊥
not_both true h k = absurd cc
not_both false h k = absurd cc

tables_to : (m : Module) → FitsImage (shown m) → tables_fit m ≡ true
tables_to m h =
    let classes_long : length (map (λ c. c.items) m.classes.items) ≡ length m.classes.items = length-map m.classes.items (λ c. c.items) in
    let texts_long : length (map string_bytes m.texts.items) ≡ length m.texts.items = length-map m.texts.items string_bytes in
    let functions_long : length (map function_shown m.functions.items) ≡ length m.functions.items = length-map m.functions.items function_shown in
    and_from _ (is_within 1 256 (length m.functions.items)) (and_from _ (leb (length m.texts.items) 65535)
    (and_from _ (leb (length m.ints.items) 65535) (and_from (is_within 1 64 m.least_places) (leb (length m.classes.items) 65535)
    (within_of 1 64 m.least_places h.least_places.0 h.least_places.1)
    (le-leb (length m.classes.items) 65535 (omega (arith, classes_long, h.classes))))
    (le-leb (length m.ints.items) 65535 (let less = h.ints.0 in omega (arith, less))))
    (le-leb (length m.texts.items) 65535 (omega (arith, texts_long, h.texts.0))))
    (within_of 1 256 (length m.functions.items) (omega (arith, functions_long, h.functions.0)) (omega (arith, functions_long, h.functions.1)))

items_to : (m : Module) → FitsImage (shown m) → items_fit m ≡ true
items_to m h =
    let classes = length (shown m).classes in
    and_from _ (list_all (λ f. counts_of_function (function_shown f)) m.functions.items)
    (and_from (list_all (λ c. leb (length c.items) 16) m.classes.items) (list_all (λ t. text_fits (string_bytes t)) m.texts.items)
    (all_to (λ c. leb (length c.items) 16) (λ c. FitsClass classes c.items) (λ c g. le-leb (length c.items) 16 g.count) m.classes.items
    (all_unmap (λ c. c.items) (FitsClass classes) m.classes.items h.fields))
    (all_to (λ t. text_fits (string_bytes t)) (λ t. FitsText (string_bytes t)) (λ t. text_to (string_bytes t)) m.texts.items
    (all_unmap string_bytes FitsText m.texts.items h.texts.1)))
    (all_to (λ f. counts_of_function (function_shown f)) (λ f. FitsFunction m.version classes (function_shown f))
    (λ f. counts_to m.version classes (function_shown f)) m.functions.items
    (all_unmap function_shown (FitsFunction m.version classes) m.functions.items h.functions.2))

kinds_fit_to : (m : Module) → FitsImage (shown m) → kinds_fit m ≡ true
kinds_fit_to m h =
    let n = length m.classes.items in
    let long : length (map (λ c. c.items) m.classes.items) ≡ n = length-map m.classes.items (λ c. c.items) in
    let fields : AllByRecursion (FitsClass n) (map (λ c. c.items) m.classes.items) =
    subst (λ (k : ℕ). AllByRecursion (FitsClass k) (map (λ c. c.items) m.classes.items)) long h.fields in
    let functions : AllByRecursion (FitsFunction m.version n) (map function_shown m.functions.items) =
    subst (λ (k : ℕ). AllByRecursion (FitsFunction m.version k) (map function_shown m.functions.items)) long h.functions.2 in
    and_from (list_all (λ c. list_all (names_below n) c.items) m.classes.items)
    (list_all (λ f. kinds_of_function n (function_shown f)) m.functions.items)
    (all_to (λ c. list_all (names_below n) c.items) (λ c. FitsClass n c.items)
    (λ c g. all_to (names_below n) (NamesClassBelow n) (names_to n) c.items g.kinds) m.classes.items
    (all_unmap (λ c. c.items) (FitsClass n) m.classes.items fields))
    (all_to (λ f. kinds_of_function n (function_shown f)) (λ f. FitsFunction m.version n (function_shown f))
    (λ f. kinds_to m.version n (function_shown f)) m.functions.items
    (all_unmap function_shown (FitsFunction m.version n) m.functions.items functions))

instr_there : (m : Module) (f pc : ℕ) (o : Option model.Function) (i : Instr) → FitsImage (shown m) → slice_get (shown m).functions f ≡ o
    → instr_in o pc ≡ Some i → IsInstrOf m.version i
instr_there m f pc None i h e is = absurd cc
instr_there m f pc (Some g) i h e is = all_at (IsInstrOf m.version) g.code pc i
    (all_at (FitsFunction m.version (length (shown m).classes)) (shown m).functions f g h.functions.2 e).code is

-- where something hinders it, no bytes spell it
pub hindered : (m : Module) (e : ImageFault) → Hinders e m → FitsImage (shown m) → ⊥
hindered m fault.Count h fits = not_both (tables_fit m && items_fit m) (and_from (tables_fit m) (items_fit m) (tables_to m fits) (items_to m fits)) h
hindered m fault.Kind h fits = not_both (kinds_fit m) (kinds_fit_to m fits) h
hindered m (fault.Code f pc) h fits = not_both (instr_fits m.version h.0)
    (instr_to m.version h.0 (instr_there m f pc (slice_get (shown m).functions f) h.0 fits refl h.1)) h.2
hindered m fault.Entry h fits = not_both (entry_fits m) (entry_to
    (slice_get (map function_shown m.functions.items) m.entry) fits.entry.0 fits.entry.1 fits.entry.2) h
hindered m _ h fits = h

-- ---- the bytes

flat_map-map : {A B : Type 0} (f : B → List ℕ) (g : A → B) (xs : List A) → flat_map (λ x. f (g x)) xs ≡ flat_map f (map g xs)
flat_map-map f g [] = refl
flat_map-map f g (x ∷ xs) = ap (λ (t : List ℕ). f (g x) ++ t) (flat_map-map f g xs)

regrouped : (h a b c d : List ℕ) → ((((([] ++ h) ++ a) ++ b) ++ c) ++ d) ≡ h ++ (a ++ (b ++ (c ++ d)))
regrouped h a b c d = simp append_assoc

pub written_is : (m : Module) (h : Header) (out : List ℕ) → h ≡ header_of (shown m)
    → out ≡ ((((([] ++ header_bytes h) ++ flat_map (λ c. class_bytes c.items) m.classes.items) ++ flat_map int_bytes m.ints.items)
    ++ flat_map (λ t. text_bytes (string_bytes t)) m.texts.items) ++ flat_map (λ f. function_bytes (function_shown f)) m.functions.items)
    → out ≡ spelling (shown m)
unfolding spelling
written_is m h out eh e =
    e ∙ rw (
      eh,
      flat_map-map class_bytes (λ c. c.items) m.classes.items,
      flat_map-map text_bytes string_bytes m.texts.items,
      flat_map-map function_bytes function_shown m.functions.items,
    )
    (regrouped (header_bytes (header_of (shown m))) (flat_map class_bytes (map (λ c. c.items) m.classes.items)) (flat_map int_bytes m.ints.items)
    (flat_map text_bytes (map string_bytes m.texts.items)) (flat_map function_bytes (map function_shown m.functions.items)))

pub header_is : (m : Module) (h : Header) → h ≡ record {
  version = m.version;
  least_places = m.least_places;
  classes = length m.classes.items;
  ints = length m.ints.items;
  texts = length m.texts.items;
  functions = length m.functions.items;
  entry = m.entry;
} → h ≡ header_of (shown m)
header_is m h e = e ∙ rw (
  length-map m.classes.items (λ c. c.items),
  length-map m.texts.items string_bytes,
  length-map m.functions.items function_shown,
) refl

-- ---- an instruction that no image has

pub code_few : (m : Module) (i : ℕ) (f : Function) → items_fit m ≡ true → slice_get m.functions.items i ≡ Some f → length f.code.items ≤ 4096
code_few m i f h e =
    let b = and_parts _ (list_all (λ g. counts_of_function (function_shown g)) m.functions.items) h in
    (counts_from (function_shown f) (list_all_true (λ g. counts_of_function (function_shown g)) m.functions.items i f b.1 e)).code.1

pub shown_instr : (m : Module) (i pc : ℕ) (f : Function) (j : Instr) → slice_get m.functions.items i ≡ Some f → slice_get f.code.items pc ≡ Some j
    → instr_at (shown m) i pc ≡ Some j
shown_instr m i pc f j e is = ap (λ (o : Option model.Function). instr_in o pc)
    (slice_get-map function_shown m.functions.items i ∙ ap (option_map function_shown) e) ∙ is

-- of what is text, the length alone counts
pub text_fits_by : (text : List ℕ) (b : Bool) → IsUtf8 text → b ≡ (b && is_utf8 text)
text_fits_by text true utf8 = sym (is_utf8-from_IsUtf8 text utf8)
text_fits_by text false utf8 = refl
