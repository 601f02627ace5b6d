-- What the parts of a function are, by where it stands.
use Rattle.std.proofs.Common.{◌≡◌, ℕ, ◌+◌, ◌*◌, ◌^◌, ◌<◌, ◌≤◌, cond, eqb, List, [], ◌∷◌, length, get_or, Option, Some, None, IfSome, Result, Ok, refl, sym, ap, ◌∙◌, arith, flat_map}
use Rattle.std.specs.Prelude.{slice_range, slice_index}
use Rattle.std.specs.Int.{w16, to_be_bytes, from_be_bytes}
use Rattle.x10_code.specs.declared.instr.Instr.{Instr}
use Rattle.x10_code.specs.declared.instr.CodeFault.{CodeFault}
use Rattle.x10_code.specs.Spelling.{spelling as instruction, decoded}
use Rattle.x10_code.proofs.Instructions.{length-spelling, decoded_again}
use Rattle.x10_model.specs.Modules.{Module, Function, FitsSlot, IsInstrOf, FitsFunction, FitsImage}
use Rattle.x10_model.specs.Ranges.{function_at, instr_in, instr_at}
use Rattle.x10_model.specs.declared.slot.Slot.{Slot}
use Rattle.x10_model.specs.Images.{kind_bytes, slot_bytes, result_bytes, function_bytes}
use Rattle.x10_model.proofs.ImageParts.{length-items}
use Rattle.x10_model.proofs.KindLaws.{length-slot_bytes}
use Rattle.x10_image.specs.declared.header.Header.{Header as KeptHeader}
use Rattle.x10_image.specs.Parts.{Signature, signature_of, FitsSignature, slots_in, slot_at, code_in, code_at, parameters_in}
use Rattle.std.proofs.lemmas.List.{append-nil}
use Rattle.x10_image.proofs.Functions.{function_parts, function_small, tag_is}
use Rattle.x10_image.proofs.Decoded.{slots_again, slot_again}
use Rattle.x10_image.proofs.Accessors.{Shows}
use Rattle.x10_bytes.proofs.Parts.{item_in, number2_is}
use Rattle.x10_model.proofs.Lists.{all_at}
use Rattle.x10_model.specs.Offsets.{StandsAt}
use Rattle.x10_model.proofs.Offsets.{byte_is, first_is, range_is, item_at}

-- the function that stands at a place
pub record IsHere (bytes : List ℕ) (at : ℕ) (m : Module) (f : ℕ) : Type 0 where
  pub function : Function
  pub is : function_at m f ≡ Some function
  pub fits : FitsFunction m.version (length m.classes) function
  pub few : length m.classes < 2 ^ 16
  pub here : StandsAt bytes at (function_bytes function)

pub function_here : (bytes : List ℕ) (header : KeptHeader) (ints : ℕ) (classes texts functions : List ℕ) (m : Module) (f at : ℕ)
    → Shows bytes header ints classes texts functions m → f < length m.functions → at ≡ get_or functions f at → IsHere bytes at m f
function_here bytes header ints classes texts functions m f at s lt e =
    let found = item_in function_bytes bytes functions m.functions f at s.functions_at lt e in
    record {
      function = found.0;
      is = found.1;
      fits = all_at (FitsFunction m.version (length m.classes)) m.functions f found.0 s.fits.functions.2
          found.1;
      few = s.fits.classes;
      here = found.2;
    }

pub parameters_are : (bytes : List ℕ) (at : ℕ) (m : Module) (f : ℕ) → (h : IsHere bytes at m f) → slice_index bytes at ≡ length h.function.parameters
parameters_are bytes at m f h = first_is bytes at (length h.function.parameters) _ (function_parts bytes at h.function h.here).head

pub parameters_of : (bytes : List ℕ) (at : ℕ) (m : Module) (f : ℕ) → (h : IsHere bytes at m f)
    → length (parameters_in (function_at m f)) ≡ length h.function.parameters
parameters_of bytes at m f h = rw h.is refl

pub room_is : (bytes : List ℕ) (at : ℕ) (m : Module) (f : ℕ) → (h : IsHere bytes at m f)
    → at + 12 + 4 * slice_index bytes at + 8 * length h.function.code ≤ length bytes
room_is bytes at m f h = omega (arith, parameters_are bytes at m f h, function_small bytes at h.function h.here)

pub code_is : (bytes : List ℕ) (at : ℕ) (m : Module) (f : ℕ) → (h : IsHere bytes at m f) → code_at m f ≡ h.function.code
code_is bytes at m f h = rw h.is refl

pub count_is : (bytes : List ℕ) (at : ℕ) (m : Module) (f : ℕ) → (h : IsHere bytes at m f)
    → from_be_bytes w16 (slice_range bytes (at + 8 + 4 * slice_index bytes at) (at + 8 + 4 * slice_index bytes at + 2)) ≡ length h.function.code
count_is bytes at m f h =
    let here : StandsAt bytes (at + 8 + 4 * slice_index bytes at) (to_be_bytes w16 (length h.function.code)) =
    rw (parameters_are bytes at m f h) (function_parts bytes at h.function h.here).count in
    number2_is bytes (at + 8 + 4 * slice_index bytes at) (length h.function.code) (omega (arith, h.fits.length)) here

code_here : (bytes : List ℕ) (at : ℕ) (m : Module) (f : ℕ) → (h : IsHere bytes at m f)
    → StandsAt bytes (at + 12 + 4 * slice_index bytes at) (flat_map instruction h.function.code)
code_here bytes at m f h = rw (parameters_are bytes at m f h) (function_parts bytes at h.function h.here).code

pub code_range : (bytes : List ℕ) (at : ℕ) (m : Module) (f start end : ℕ) → (h : IsHere bytes at m f) → start ≡ at + 12 + 4 * slice_index bytes at
    → end ≡ start + 8 * length h.function.code → slice_range bytes start end ≡ flat_map instruction (code_at m f)
code_range bytes at m f start end h es ee =
    let here : StandsAt bytes start (flat_map instruction h.function.code) = rw es (code_here bytes at m f h) in
    range_is bytes start end (flat_map instruction h.function.code)
    (omega (arith, ee, length-items instruction 8 length-spelling h.function.code)) here
    ∙ ap (flat_map instruction) (sym (code_is bytes at m f h))

pub code_long : (bytes : List ℕ) (at : ℕ) (m : Module) (f : ℕ) → (h : IsHere bytes at m f)
    → length (flat_map instruction (code_at m f)) ≡ 8 * length h.function.code
code_long bytes at m f h = ap (λ (c : List Instr). length (flat_map instruction c)) (code_is bytes at m f h)
    ∙ length-items instruction 8 length-spelling h.function.code

-- ---- instructions

pub record IsInstrAt (bytes : List ℕ) (start : ℕ) (m : Module) (f pc : ℕ) : Type 0 where
  pub instr : Instr
  pub is : instr_at m f pc ≡ Some instr
  pub fits : IsInstrOf m.version instr
  pub decodes : decoded (slice_range bytes start (start + 8)) ≡ Ok instr

pub instr_here : (bytes : List ℕ) (at : ℕ) (m : Module) (f pc start : ℕ) → (h : IsHere bytes at m f) → pc < length (code_at m f)
    → start ≡ at + 12 + 4 * slice_index bytes at + 8 * pc → IsInstrAt bytes start m f pc
instr_here bytes at m f pc start h lt e =
    let short : pc < length h.function.code = omega (arith, lt, ap length (code_is bytes at m f h)) in
    let found = item_at instruction 8 length-spelling bytes (at + 12 + 4 * slice_index bytes at) h.function.code pc start e
    (code_here bytes at m f h) short in
    let fits = all_at (IsInstrOf m.version) h.function.code pc found.0 h.fits.code found.1 in
    record {
      instr = found.0;
      is = ap (λ (o : Option Function). instr_in o pc) h.is ∙ found.1;
      fits = fits;
      decodes = ap decoded (range_is bytes start (start + 8) (instruction found.0) (omega (arith, length-spelling found.0)) found.2)
          ∙ decoded_again found.0 fits.spelled;
    }

-- bytes that are a part stand for it from their beginning on
whole : (bytes part : List ℕ) → bytes ≡ part → StandsAt bytes 0 part
whole bytes part e = record { rest = []; is = e ∙ sym (append-nil part) }

-- an instruction in the bytes of a function's code alone
alone_in : (m : Module) (f pc start : ℕ) (bytes : List ℕ) (function : Function) → function_at m f ≡ Some function
    → FitsFunction m.version (length m.classes) function → bytes ≡ flat_map instruction function.code → start ≡ 8 * pc → pc < length function.code
    → IsInstrAt bytes start m f pc
alone_in m f pc start bytes function there fits is at lt =
    let found = item_at instruction 8 length-spelling bytes 0 function.code pc start (omega (arith, at))
    (whole bytes (flat_map instruction function.code) is) lt in
    let is_instr = all_at (IsInstrOf m.version) function.code pc found.0 fits.code found.1 in
    record {
      instr = found.0;
      is = ap (λ (o : Option Function). instr_in o pc) there ∙ found.1;
      fits = is_instr;
      decodes = ap decoded (range_is bytes start (start + 8) (instruction found.0) (omega (arith, length-spelling found.0)) found.2)
          ∙ decoded_again found.0 is_instr.spelled;
    }

pub instr_alone : (m : Module) (f pc start : ℕ) (bytes : List ℕ) → FitsImage m → f < length m.functions → bytes ≡ flat_map instruction (code_at m f)
    → start ≡ 8 * pc → pc < length (code_at m f) → IsInstrAt bytes start m f pc
instr_alone m f pc start bytes fits lt is at short = go (function_at m f) refl is short
  where
    go : (o : Option Function) → function_at m f ≡ o → bytes ≡ flat_map instruction (code_in o) → pc < length (code_in o)
        → IsInstrAt bytes start m f pc
    go None e b less = absurd (omega (arith, less))
    go (Some function) e b less = alone_in m f pc start bytes function e
        (all_at (FitsFunction m.version (length m.classes)) m.functions f function fits.functions.2 e) b at less

-- such bytes have room for it
pub alone_room : (m : Module) (f pc : ℕ) (bytes : List ℕ) → bytes ≡ flat_map instruction (code_at m f) → pc < length (code_at m f)
    → 8 * pc + 8 ≤ length bytes
alone_room m f pc bytes is lt = omega (arith, ap length is ∙ length-items instruction 8 length-spelling (code_at m f), lt)

abbrev answer : Instr → Result Instr CodeFault
answer i = Ok i

pub instr_same : (i j : Instr) (bytes : List ℕ) → decoded bytes ≡ Ok i → decoded bytes ≡ Ok j → i ≡ j
instr_same i j bytes d e = let h : answer i ≡ answer j = sym d ∙ e in cc

-- ---- signatures

result_here : (bytes : List ℕ) (e : ℕ) (classes : ℕ) (r : Option Slot) → classes < 2 ^ 16 → IfSome r (FitsSlot classes)
    → StandsAt bytes e (result_bytes r) → cond (eqb (slice_index bytes e) 0) None (Some (slot_at bytes e)) ≡ r
unfolding result_bytes slot_bytes kind_bytes
result_here bytes e classes None few fits s = rw (first_is bytes e 0 (0 ∷ 0 ∷ 0 ∷ []) s) refl
result_here bytes e classes (Some s) few fits h =
    let b0 = first_is bytes e _ _ h in
    let b1 = byte_is bytes e 1 (slot_bytes s) (omega arith) h in
    let b2 = byte_is bytes e 2 (slot_bytes s) (omega arith) h in
    let b3 = byte_is bytes e 3 (slot_bytes s) (omega arith) h in
    rw (b0, b1, b2, b3, tag_is s.kind) (ap (λ (x : Slot). Some x) (slot_again classes s few fits))

abbrev pub signature : List Slot → ℕ → ℕ → Option Slot → Signature
signature parameters registers loops result = record { parameters = parameters; registers = registers; loops = loops; result = result }

same_signature : (p : List Slot) (r l : ℕ) (o : Option Slot) (f : Function) → p ≡ f.parameters → r ≡ f.registers → l ≡ f.loops → o ≡ f.result
    → signature p r l o ≡ signature_of f
same_signature p r l o f ep er el eo = rw (ep, er, el, eo) refl

pub signature_here : (bytes : List ℕ) (at : ℕ) (m : Module) (f : ℕ) → (h : IsHere bytes at m f)
    → signature (slots_in (slice_range bytes (at + 4) (at + 4 + 4 * slice_index bytes at))) (slice_index bytes (at + 1)) (slice_index bytes (at + 2))
    (cond (eqb (slice_index bytes (at + 4 + 4 * slice_index bytes at)) 0) None (Some (slot_at bytes (at + 4 + 4 * slice_index bytes at))))
    ≡ signature_of h.function
signature_here bytes at m f h =
    let g = h.function in
    let p = function_parts bytes at g h.here in
    let n = parameters_are bytes at m f h in
    let long : at + 4 + 4 * slice_index bytes at ≡ at + 4 + length (flat_map slot_bytes g.parameters) =
    omega (arith, n, length-items slot_bytes 4 length-slot_bytes g.parameters) in
    let here : StandsAt bytes (at + 4 + 4 * slice_index bytes at) (result_bytes g.result) = rw n p.result in
    same_signature _ _ _ _ g
    (ap slots_in (range_is bytes (at + 4) (at + 4 + 4 * slice_index bytes at) (flat_map slot_bytes g.parameters) long p.slots)
    ∙ slots_again (length m.classes) g.parameters h.few h.fits.slots)
    (byte_is bytes at 1 _ (omega arith) p.head)
    (byte_is bytes at 2 _ (omega arith) p.head)
    (result_here bytes (at + 4 + 4 * slice_index bytes at) (length m.classes) g.result h.few h.fits.result here)

pub signature_fits : (bytes : List ℕ) (at : ℕ) (m : Module) (f : ℕ) (s : Signature) → (h : IsHere bytes at m f) → s ≡ signature_of h.function
    → FitsSignature (length m.classes) s
signature_fits bytes at m f s h e = rw e (record {
  parameters_fit = h.fits.parameters;
  registers_fit = h.fits.registers;
  room = h.fits.room;
  loops_fit = h.fits.loops;
  slots = h.fits.slots;
  result_fits = h.fits.result;
})
