-- Where a module's parts stand in its spelling, by how the spelling is put together.
use Rattle.std.proofs.Common.{◌≡◌, ℕ, ℤ, zero, suc, ◌+◌, ◌*◌, ◌<◌, ◌≤◌, List, [], ◌∷◌, ◌++◌, length, Option, Some, None, refl, sym, ap, subst, append_assoc, append-nil, arith, take, flat_map, slice_get}
use Rattle.std.specs.Int.{w16, w32, to_be_bytes}
use Rattle.x10_kinds.specs.declared.kind.Kind.{Kind}
use Rattle.x10_code.specs.declared.instr.Instr.{Instr}
use Rattle.x10_code.specs.Spelling.{spelling as instruction}
use Rattle.x10_code.proofs.Instructions.{length-spelling}
use Rattle.x10_model.specs.Modules.{Module, Function}
use Rattle.x10_model.specs.Ranges.{function_at, instr_in, instr_at}
use Rattle.x10_model.specs.declared.version.ImageVersion.{ImageVersion}
use Rattle.x10_model.specs.Images.{number_of, slot_bytes, result_bytes, class_bytes, int_bytes, text_bytes, function_bytes, magic, header_of, header_bytes, spelling}
use Rattle.x10_model.proofs.ImageParts.{length-items}
use Rattle.x10_model.specs.Offsets.{StandsAt}
use Rattle.x10_model.proofs.Offsets.{later, narrow}
use Rattle.x10_image.specs.Parts.{Signature, signature_of, signature_bytes, classes_from, ints_from, texts_from, functions_from, place_of_class, place_of_int, place_of_text, place_of_signature, place_of_count, place_of_code, place_of_instr, code_in, code_at}
use Rattle.x10_bytes.specs.Tables.{IsPart}
use Rattle.x10_bytes.proofs.Parts.{part_at, part_behind, item_here, before_it}
use Rattle.x10_image.proofs.Functions.{function_parts}

-- ---- the tables

record HasTables (m : Module) : Type 0 where
  classes : StandsAt (spelling m) (classes_from m) (flat_map class_bytes m.classes)
  ints : StandsAt (spelling m) (ints_from m) (flat_map int_bytes m.ints)
  texts : StandsAt (spelling m) (texts_from m) (flat_map text_bytes m.texts)
  functions : StandsAt (spelling m) (functions_from m) (flat_map function_bytes m.functions)

tables : (m : Module) → HasTables m
unfolding spelling
tables m =
    let functions = flat_map function_bytes m.functions in
    let texts = flat_map text_bytes m.texts in
    let ints = flat_map int_bytes m.ints in
    let classes = flat_map class_bytes m.classes in
    let header = header_bytes (header_of m) in
    let all : StandsAt (spelling m) 0 (header ++ (classes ++ (ints ++ (texts ++ functions)))) =
    record { rest = []; is = sym (append-nil (spelling m)) } in
    let from_classes = later (spelling m) 0 (length header) (classes_from m) header (classes ++ (ints ++ (texts ++ functions))) refl
    (omega arith) all in
    let from_ints = later (spelling m) (classes_from m) (length classes) (ints_from m) classes
    (ints ++ (texts ++ functions)) refl refl from_classes in
    let from_texts = later (spelling m) (ints_from m) (length ints) (texts_from m) ints (texts ++ functions) refl refl from_ints in
    record {
      classes = narrow (spelling m) (classes_from m) classes (ints ++ (texts ++ functions)) from_classes;
      ints = narrow (spelling m) (ints_from m) ints (texts ++ functions) from_ints;
      texts = narrow (spelling m) (texts_from m) texts functions from_texts;
      functions = later (spelling m) (texts_from m) (length texts) (functions_from m) texts functions refl refl from_texts;
    }

-- ---- the header

record HasHeader (m : Module) : Type 0 where
  version : StandsAt (spelling m) 4 (to_be_bytes w16 (number_of m.version))
  least : StandsAt (spelling m) 6 (to_be_bytes w16 m.least_places)
  classes : StandsAt (spelling m) 8 (to_be_bytes w16 (length m.classes))
  ints : StandsAt (spelling m) 10 (to_be_bytes w16 (length m.ints))
  texts : StandsAt (spelling m) 12 (to_be_bytes w16 (length m.texts))
  functions : StandsAt (spelling m) 14 (to_be_bytes w16 (length m.functions))
  entry : StandsAt (spelling m) 16 (to_be_bytes w16 m.entry)

header : (m : Module) → HasHeader m
unfolding spelling header_bytes
header m =
    let s = spelling m in
    let tables = flat_map class_bytes m.classes ++ (flat_map int_bytes m.ints
    ++ (flat_map text_bytes m.texts ++ flat_map function_bytes m.functions)) in
    let from_entry = to_be_bytes w16 m.entry ++ to_be_bytes w16 0 in
    let from_functions = to_be_bytes w16 (length m.functions) ++ from_entry in
    let from_texts = to_be_bytes w16 (length m.texts) ++ from_functions in
    let from_ints = to_be_bytes w16 (length m.ints) ++ from_texts in
    let from_classes = to_be_bytes w16 (length m.classes) ++ from_ints in
    let from_least = to_be_bytes w16 m.least_places ++ from_classes in
    let from_version = to_be_bytes w16 (number_of m.version) ++ from_least in
    let all : StandsAt s 0 (header_bytes (header_of m) ++ tables) = record { rest = []; is = sym (append-nil s) } in
    let version = later s 0 4 4 (to_be_bytes w32 magic) from_version refl refl (narrow s 0 (header_bytes (header_of m)) tables all) in
    let least = later s 4 2 6 (to_be_bytes w16 (number_of m.version)) from_least refl refl version in
    let classes = later s 6 2 8 (to_be_bytes w16 m.least_places) from_classes refl refl least in
    let ints = later s 8 2 10 (to_be_bytes w16 (length m.classes)) from_ints refl refl classes in
    let texts = later s 10 2 12 (to_be_bytes w16 (length m.ints)) from_texts refl refl ints in
    let functions = later s 12 2 14 (to_be_bytes w16 (length m.texts)) from_functions refl refl texts in
    let entry = later s 14 2 16 (to_be_bytes w16 (length m.functions)) from_entry refl refl functions in
    record {
      version = narrow s 4 (to_be_bytes w16 (number_of m.version)) from_least version;
      least = narrow s 6 (to_be_bytes w16 m.least_places) from_classes least;
      classes = narrow s 8 (to_be_bytes w16 (length m.classes)) from_ints classes;
      ints = narrow s 10 (to_be_bytes w16 (length m.ints)) from_texts ints;
      texts = narrow s 12 (to_be_bytes w16 (length m.texts)) from_functions texts;
      functions = narrow s 14 (to_be_bytes w16 (length m.functions)) from_entry functions;
      entry = narrow s 16 (to_be_bytes w16 m.entry) (to_be_bytes w16 0) entry;
    }

-- a number of the header
number_part : (m : Module) (at n result : ℕ) → StandsAt (spelling m) at (to_be_bytes w16 n) → result ≡ n
    → IsPart (spelling m) at (to_be_bytes w16 result)
number_part m at n result s e = subst (λ k. IsPart (spelling m) at (to_be_bytes w16 k)) (sym e)
    (part_at (spelling m) at (to_be_bytes w16 n) (omega arith) s)

pub version_part : (m : Module) (v : ImageVersion) → v ≡ m.version → IsPart (spelling m) 4 (to_be_bytes w16 (number_of v))
version_part m v e = number_part m 4 (number_of m.version) (number_of v) (header m).version (ap number_of e)

pub least_part : (m : Module) (n : ℕ) → n ≡ m.least_places → IsPart (spelling m) 6 (to_be_bytes w16 n)
least_part m n e = number_part m 6 m.least_places n (header m).least e

pub classes_part : (m : Module) (n : ℕ) → n ≡ length m.classes → IsPart (spelling m) 8 (to_be_bytes w16 n)
classes_part m n e = number_part m 8 (length m.classes) n (header m).classes e

pub ints_part : (m : Module) (n : ℕ) → n ≡ length m.ints → IsPart (spelling m) 10 (to_be_bytes w16 n)
ints_part m n e = number_part m 10 (length m.ints) n (header m).ints e

pub texts_part : (m : Module) (n : ℕ) → n ≡ length m.texts → IsPart (spelling m) 12 (to_be_bytes w16 n)
texts_part m n e = number_part m 12 (length m.texts) n (header m).texts e

pub functions_part : (m : Module) (n : ℕ) → n ≡ length m.functions → IsPart (spelling m) 14 (to_be_bytes w16 n)
functions_part m n e = number_part m 14 (length m.functions) n (header m).functions e

pub entry_part : (m : Module) (n : ℕ) → n ≡ m.entry → IsPart (spelling m) 16 (to_be_bytes w16 n)
entry_part m n e = number_part m 16 m.entry n (header m).entry e

-- ---- what the accessors hand out

pub class_part : (m : Module) (c : ℕ) (fields : List Kind) → slice_get m.classes c ≡ Some fields
    → IsPart (spelling m) (place_of_class m c) (class_bytes fields)
unfolding class_bytes
class_part m c fields e = part_at (spelling m) (place_of_class m c) (class_bytes fields) (omega arith)
    (item_here class_bytes (spelling m) (classes_from m) m.classes c fields (tables m).classes e)

pub int_part : (m : Module) (i : ℕ) (z : ℤ) → slice_get m.ints i ≡ Some z → IsPart (spelling m) (place_of_int m i) (int_bytes z)
int_part m i z e =
    let at : ints_from m + length (flat_map int_bytes (take i m.ints)) ≡ place_of_int m i =
    ap (λ n. ints_from m + n) (before_it int_bytes 8 (λ x. refl) m.ints i z e) in
    part_at (spelling m) (place_of_int m i) (int_bytes z) (omega arith)
    (subst (λ (n : ℕ). StandsAt (spelling m) n (int_bytes z)) at (item_here int_bytes (spelling m) (ints_from m) m.ints i z (tables m).ints e))

pub text_part : (m : Module) (i : ℕ) (text : List ℕ) → slice_get m.texts i ≡ Some text → IsPart (spelling m) (place_of_text m i) text
unfolding text_bytes
text_part m i text e = part_behind (spelling m) _ 2 (to_be_bytes w16 (length text)) text refl (omega arith)
    (item_here text_bytes (spelling m) (texts_from m) m.texts i text (tables m).texts e)

function_here : (m : Module) (f : ℕ) (g : Function) → function_at m f ≡ Some g → StandsAt (spelling m) (place_of_signature m f) (function_bytes g)
function_here m f g e = item_here function_bytes (spelling m) (functions_from m) m.functions f g (tables m).functions e

-- a function begins with its signature
signature_first : (g : Function) → function_bytes g ≡ signature_bytes (signature_of g)
    ++ (to_be_bytes w16 (length g.code) ++ (to_be_bytes w16 0 ++ flat_map instruction g.code))
unfolding function_bytes signature_bytes
signature_first g =
    let head = length g.parameters ∷ g.registers ∷ g.loops ∷ 0 ∷ [] in
    let code = to_be_bytes w16 (length g.code) ++ (to_be_bytes w16 0 ++ flat_map instruction g.code) in
    ap (λ t. head ++ t) (sym (append_assoc (flat_map slot_bytes g.parameters) (result_bytes g.result) code))

pub signature_part : (m : Module) (f : ℕ) (g : Function) (s : Signature) → function_at m f ≡ Some g → s ≡ signature_of g
    → IsPart (spelling m) (place_of_signature m f) (signature_bytes s)
unfolding signature_bytes
signature_part m f g s e is =
    let here = subst (λ t. StandsAt (spelling m) (place_of_signature m f) t) (signature_first g) (function_here m f g e) in
    let first = narrow (spelling m) (place_of_signature m f) (signature_bytes (signature_of g)) _ here in
    rw is (part_at (spelling m) (place_of_signature m f) (signature_bytes (signature_of g)) (omega arith) first)

instr_here : (m : Module) (f pc : ℕ) (g : Function) (i : Instr) → function_at m f ≡ Some g → slice_get g.code pc ≡ Some i
    → StandsAt (spelling m) (place_of_instr m f pc) (instruction i)
instr_here m f pc g i e got =
    let at : place_of_signature m f + 12 + 4 * length g.parameters + length (flat_map instruction (take pc g.code)) ≡ place_of_instr m f pc =
    rw (e, before_it instruction 8 length-spelling g.code pc i got) refl in
    subst (λ (n : ℕ). StandsAt (spelling m) n (instruction i)) at
    (item_here instruction (spelling m) (place_of_signature m f + 12 + 4 * length g.parameters) g.code pc i
    (function_parts (spelling m) (place_of_signature m f) g (function_here m f g e)).code got)

instr_found : (m : Module) (f pc : ℕ) (i : Instr) (o : Option Function) → function_at m f ≡ o → instr_in o pc ≡ Some i
    → StandsAt (spelling m) (place_of_instr m f pc) (instruction i)
instr_found m f pc i None e got = absurd cc
instr_found m f pc i (Some g) e got = instr_here m f pc g i e got

pub instr_part : (m : Module) (f pc : ℕ) (i : Instr) → instr_at m f pc ≡ Some i → IsPart (spelling m) (place_of_instr m f pc) (instruction i)
instr_part m f pc i got = part_at (spelling m) (place_of_instr m f pc) (instruction i) (omega (arith, length-spelling i))
    (instr_found m f pc i (function_at m f) refl got)

pub code_part : (m : Module) (f : ℕ) (g : Function) → function_at m f ≡ Some g → 1 ≤ length g.code
    → IsPart (spelling m) (place_of_code m f) (flat_map instruction (code_at m f))
code_part m f g e some =
    let long : length (flat_map instruction g.code) ≡ 8 * length g.code = length-items instruction 8 length-spelling g.code in
    let here = (function_parts (spelling m) (place_of_signature m f) g (function_here m f g e)).code in
    rw e (part_at (spelling m) (place_of_signature m f + 12 + 4 * length g.parameters) (flat_map instruction g.code) (omega (arith, long, some)) here)

count_found : (m : Module) (f n : ℕ) (o : Option Function) → function_at m f ≡ o → f < length m.functions → n ≡ length (code_in o)
    → IsPart (spelling m) (place_of_count m f) (to_be_bytes w16 n)
count_found m f n None e lt is = absurd (missing m.functions f lt e)
  where
    missing : (xs : List Function) (i : ℕ) → i < length xs → slice_get xs i ≡ None → ⊥
    missing [] i lt e = omega (arith, lt)
    missing (x ∷ xs) zero lt e = cc
    missing (x ∷ xs) (suc i) lt e = missing xs i (omega (arith, lt)) e
count_found m f n (Some g) e lt is =
    let here = (function_parts (spelling m) (place_of_signature m f) g (function_here m f g e)).count in
    let at : place_of_signature m f + 8 + 4 * length g.parameters ≡ place_of_count m f = rw e refl in
    rw is (part_at (spelling m) (place_of_count m f) (to_be_bytes w16 (length g.code)) (omega arith)
    (subst (λ (k : ℕ). StandsAt (spelling m) k (to_be_bytes w16 (length g.code))) at here))

pub count_part : (m : Module) (f n : ℕ) → f < length m.functions → n ≡ length (code_at m f)
    → IsPart (spelling m) (place_of_count m f) (to_be_bytes w16 n)
count_part m f n lt is = count_found m f n (function_at m f) refl lt is
