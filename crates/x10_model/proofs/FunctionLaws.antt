-- A function of an image is read again, and what is read of it is spelled so.
use Rattle.std.proofs.Common.{◌≡◌, ℕ, suc, ◌+◌, ◌*◌, ◌^◌, ◌<◌, ◌≤◌, true, ◌&&◌, leb, List, [], ◌∷◌, ◌++◌, length, Option, IfSome, refl, arith, leb-true, le-leb, flat_map, length-append}
use Rattle.std.specs.List.{AllByRecursion}
use Rattle.std.specs.Int.{w16, to_be_bytes}
use Rattle.std.proofs.lemmas.Bool.{and_from, and_parts}
use Rattle.x10_code.specs.declared.instr.Instr.{Instr}
use Rattle.x10_code.specs.Spelling.{spelling as instruction}
use Rattle.x10_code.proofs.Instructions.{length-spelling}
use Rattle.x10_model.specs.declared.version.ImageVersion.{ImageVersion}
use Rattle.x10_model.specs.Modules.{Function, FitsSlot, IsInstrOf, FitsFunction}
use Rattle.x10_model.specs.declared.slot.Slot.{Slot}
use Rattle.x10_model.specs.Images.{slot_bytes, result_bytes, function_bytes}
use Rattle.x10_model.specs.ReadingImages.{Short, Count, Reserved, is_within, function_at}
use Rattle.x10_model.proofs.ReaderLaws.{Reads, then_reads, last_reads, need_reads, such_that_reads, expect_reads}
use Rattle.x10_model.proofs.PartLaws.{byte_reads, number_reads, each_reads, wide16}
use Rattle.x10_model.proofs.ImageParts.{within_of, of_within, length-items, instruction_reads}
use Rattle.x10_model.proofs.KindLaws.{slot_reads, result_reads, length-slot_bytes, length-result_bytes}

-- what follows each field
abbrev from_zero : Function → List ℕ
from_zero f = to_be_bytes w16 0 ++ flat_map instruction f.code

abbrev from_count : Function → List ℕ
from_count f = to_be_bytes w16 (length f.code) ++ from_zero f

abbrev from_result : Function → List ℕ
from_result f = result_bytes f.result ++ from_count f

abbrev from_slots : Function → List ℕ
from_slots f = flat_map slot_bytes f.parameters ++ from_result f

abbrev from_reserved : Function → List ℕ
from_reserved f = (0 ∷ []) ++ from_slots f

abbrev from_loops : Function → List ℕ
from_loops f = (f.loops ∷ []) ++ from_reserved f

abbrev from_registers : Function → List ℕ
from_registers f = (f.registers ∷ []) ++ from_loops f

fn : List Slot → ℕ → ℕ → Option Slot → List Instr → Function
fn parameters registers loops result code = record { parameters = parameters; registers = registers; loops = loops; result = result; code = code }

same_function : (parameters : List Slot) (registers loops : ℕ) (result : Option Slot) (f : Function) → f.parameters ≡ parameters
    → f.registers ≡ registers → f.loops ≡ loops → f.result ≡ result → fn parameters registers loops result f.code ≡ f
unfolding fn
same_function parameters registers loops result f p r l o = rw (← p, ← r, ← l, ← o) refl

enough_slots : (f : Function) (n : ℕ) → length f.parameters ≡ n → 4 * (n + 1) ≤ length (from_slots f)
enough_slots f n e = omega (
  arith,
  e,
  length-items slot_bytes 4 length-slot_bytes f.parameters,
  length-append (flat_map slot_bytes f.parameters) (from_result f),
  length-append (result_bytes f.result) (from_count f),
  length-result_bytes f.result,
)

enough_code : (f : Function) (n : ℕ) → length f.code ≡ n → 8 * n ≤ length (flat_map instruction f.code)
enough_code f n e = omega (arith, e, length-items instruction 8 length-spelling f.code)

fits_code : (version : ImageVersion) (classes : ℕ) → (n registers loops : ℕ) (parameters : List Slot) (result : Option Slot) (count : ℕ)
    (code : List Instr)
    → is_within 0 16 n ≡ true → (is_within 1 64 registers && leb n registers) ≡ true → is_within 0 8 loops ≡ true
    → (length parameters ≡ n) × AllByRecursion (FitsSlot classes) parameters → IfSome result (FitsSlot classes)
    → is_within 1 4096 count ≡ true → (length code ≡ count) × AllByRecursion (IsInstrOf version) code
    → FitsFunction version classes (fn parameters registers loops result code)
unfolding fn
fits_code version classes n registers loops parameters result count code hn hr hl hp ho hc hi =
    let two = and_parts (is_within 1 64 registers) (leb n registers) hr in
    let bound = of_within 1 64 registers two.0 in
    let room = leb-true n registers two.1 in
    let most = of_within 0 16 n hn in
    let turns = of_within 0 8 loops hl in
    let long = of_within 1 4096 count hc in
    record {
      parameters = omega (arith, most, hp.0);
      registers = bound;
      room = omega (arith, room, hp.0);
      loops = turns.1;
      slots = hp.1;
      result = ho;
      length = omega (arith, long, hi.0);
      code = hi.1;
    }

pub function_reads : (version : ImageVersion) (classes : ℕ) → classes < 2 ^ 16 → (function : ℕ)
    → Reads (function_at version classes function) function_bytes (FitsFunction version classes)
unfolding function_at function_bytes fn
function_reads version classes few function =
    need_reads 4 Short (λ f g. omega arith)
    (then_reads (λ f. length f.parameters) from_registers (such_that_reads (is_within 0 16) Count (byte_reads Short))
    (λ f g. (omega (arith, g.parameters), within_of 0 16 (length f.parameters) (omega arith) g.parameters)) (λ n hn.
    then_reads (λ f. f.registers) from_loops (such_that_reads (λ r. is_within 1 64 r && leb n r) Count (byte_reads Short))
    (λ f g. (
      omega (arith, g.1.registers),
      and_from (is_within 1 64 f.registers) (leb n f.registers)
          (within_of 1 64 f.registers g.1.registers.0 g.1.registers.1) (le-leb n f.registers (omega (arith, g.0, g.1.room))),
    )) (λ registers hr.
    then_reads (λ f. f.loops) from_reserved (such_that_reads (is_within 0 8) Count (byte_reads Short))
    (λ f g. (omega (arith, g.1.1.loops), within_of 0 8 f.loops (omega arith) g.1.1.loops)) (λ loops hl.
    expect_reads 0 Reserved (byte_reads Short) (omega arith)
    (need_reads (4 * (n + 1)) Short (λ f g. enough_slots f n g.1.1.0)
    (then_reads (λ f. f.parameters) from_result (each_reads (λ s _. s) (λ _. slot_reads classes few) n 0) (λ f g. (g.1.1.0, g.1.1.1.slots))
    (λ parameters hp.
    then_reads (λ f. f.result) from_count (result_reads classes few) (λ f g. g.1.1.1.1.result) (λ result ho.
    need_reads 4 Short (λ f g. omega arith)
    (then_reads (λ f. length f.code) from_zero (such_that_reads (is_within 1 4096) Count (number_reads w16 (2 ^ 16) wide16 Short))
    (λ f g. (omega (arith, g.1.1.1.1.1.length), within_of 1 4096 (length f.code) g.1.1.1.1.1.length.0 g.1.1.1.1.1.length.1)) (λ count hc.
    expect_reads 0 Reserved (number_reads w16 (2 ^ 16) wide16 Short) (omega arith)
    (need_reads (8 * count) Short (λ f g. enough_code f count g.0)
    (last_reads (fn parameters registers loops result) (λ f. f.code) (each_reads (λ s _. suc s) (λ pc. instruction_reads version function pc) count 0)
    (λ f g. ((g.0, g.1.1.1.1.1.1.code), same_function parameters registers loops result f g.1.1.0 g.1.1.1.1.0 g.1.1.1.0 g.1.0))
    (λ code hi. (
      refl,
      (
        hi.0,
        (
          refl,
          (
            refl,
            (
              refl,
              (
                refl,
                (
                  hp.0,
                  fits_code version classes n registers loops parameters result count code hn.1 hr.1 hl.1 hp ho hc.1 hi,
                ),
              ),
            ),
          ),
        ),
      ),
    ))))))))))))))
