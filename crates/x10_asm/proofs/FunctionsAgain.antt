-- The lines of a function, and the entry's, are read again.
use Rattle.std.proofs.Common.{◌≡◌, ℕ, suc, ◌<◌, ◌^◌, true, List, [], ◌∷◌, ◌++◌, length, map, Some, Ok, refl, ap, ◌∙◌, arith}
use Rattle.std.specs.Prelude.{◌==◌, is_none, codes, decimal, slice_get}
use Rattle.std.specs.List.{AllByRecursion}
use Rattle.std.proofs.lemmas.Bool.{lt-ltb, le-leb, eq-eqb, and_from}
use Rattle.x10_code.specs.declared.instr.Instr.{Instr}
use Rattle.x10_code.specs.Table.{name_of}
use Rattle.x10_model.specs.declared.version.ImageVersion.{ImageVersion}
use Rattle.x10_model.specs.Modules.{Function, Module, FitsSlot, IsInstrOf, FitsFunction, IsEntry}
use Rattle.x10_model.specs.ReadingImages.{is_entry}
use Rattle.x10_asm.specs.declared.stage.Stage.{Stage}
use Rattle.x10_asm.specs.declared.stage.Stage.TheVariants as stage
use Rattle.x10_asm.specs.declared.statement.Statement.TheVariants as statement
use Rattle.x10_asm.specs.LabelLines.{labels_from}
use Rattle.x10_asm.specs.Kinds.{slot_of}
use Rattle.x10_asm.specs.Listing.{slot_word, result_word, operand_words}
use Rattle.x10_asm.specs.Reading.{takes_func, function_with, signature_fits, signature_of, kinds_are_known, func_of, end_of, entry_of, with_func, with_instruction, with_end, with_entry}
use Rattle.x10_asm.proofs.SpelledLines.{IsWord, plain_words}
use Rattle.x10_asm.proofs.SpelledWords.{number_again, decimal_word, slot_again, result_again, each_again, known_again, all_words, slot_is_word, result_is_word}
use Rattle.x10_asm.proofs.SpelledInstructions.{said_name, name_is_word, instruction_again, operands_are_words}
use Rattle.x10_asm.proofs.LinesTakenIn.{known_line}
use Rattle.x10_asm.proofs.ReadingAgain.{Turns, labelled}
use Rattle.x10_asm.proofs.LinesAgain.{outside, inside, body_of, gives, func_word, end_word, entry_word, says_func, says_end, says_entry}
use Rattle.x10_model.proofs.ImageLaws.{no_result}

-- ---- the beginning of a function

abbrev pub func_words : Function → List (List ℕ)
func_words f = decimal f.registers ∷ decimal f.loops ∷ result_word f.result ∷ map slot_word f.parameters

abbrev pub begun : Function → Function
begun f = function_with f.registers f.loops f.result f.parameters

signature_again : (version : ImageVersion) (classes : ℕ) (f : Function) → classes < 2 ^ 16 → FitsFunction version classes f
    → signature_of classes (func_words f) ≡ Ok (begun f)
signature_again version classes f few h =
    rw (
      number_again 255 f.registers (omega (arith, h.registers.1)) (omega (arith, h.registers.1)),
      number_again 255 f.loops (omega (arith, h.loops)) (omega (arith, h.loops)),
      result_again classes f.result few h.result,
      each_again (slot_of classes) slot_word (FitsSlot classes) (λ s g. slot_again classes s few g) f.parameters h.slots,
    ) refl

fits_again : (version : ImageVersion) (classes : ℕ) (f : Function) → FitsFunction version classes f → signature_fits (begun f) ≡ true
fits_again version classes f h =
    rw (
      le-leb 1 f.registers h.registers.0,
      le-leb f.registers 64 h.registers.1,
      le-leb (length f.parameters) f.registers h.room,
      le-leb f.loops 8 h.loops,
      le-leb (length f.parameters) 16 h.parameters,
    ) refl

known_words : (version : ImageVersion) (classes : ℕ) (f : Function) → classes < 2 ^ 16 → FitsFunction version classes f
    → kinds_are_known classes (func_words f) ≡ true
known_words version classes f few h =
    rw (
      result_again classes f.result few h.result,
      known_again (slot_of classes) slot_word (FitsSlot classes)
          (λ s g. slot_again classes s few g) f.parameters h.slots,
    ) refl

func_again : (version : ImageVersion) (s : Stage) (classes before : ℕ) (f : Function) → takes_func s ≡ true → classes < 2 ^ 16
    → FitsFunction version classes f → before < 256 → func_of s classes before (func_words f) ≡ Ok (begun f)
unfolding func_of
func_again version s classes before f t few h lt = rw (
  known_words version classes f few h,
  signature_again version classes f few h,
  t,
  fits_again version classes f h,
  lt-ltb before 256 lt,
) refl

pub func_are_words : (version : ImageVersion) (classes : ℕ) (f : Function) → classes < 2 ^ 16 → FitsFunction version classes f
    → AllByRecursion IsWord (func_words f)
func_are_words version classes f few h = (
  decimal_word f.registers (omega (arith, h.registers.1)),
  (
    decimal_word f.loops (omega (arith, h.loops)),
    (
      result_is_word classes f.result few h.result,
      all_words slot_word (FitsSlot classes)
          (λ s g. slot_is_word classes s few g) f.parameters h.slots,
    ),
  ),
)

pub func_turns : (classes : ℕ) (s : Stage) (m : Module) (f : Function) → takes_func s ≡ true → classes < 2 ^ 16 → FitsFunction m.version classes f
    → length m.functions < 256
    → Turns classes (body_of (codes "func") (func_words f)) (outside s m) (inside m (begun f))
func_turns classes s m f t few h lt =
    let hs = func_are_words m.version classes f few h in
    record {
      plain = plain_words (codes "func") (func_words f) func_word hs;
      turns = λ line labels others. (
        labels_from (suc line) 0 others,
        gives classes (labelled (outside s m) labels) line others (func_words f) (codes "func") statement.Func func_word hs says_func
            ∙ ap (with_func (labelled (outside s m) labels) (labels_from (suc line) 0 others))
            (func_again m.version s classes (length m.functions) f t few h lt),
      );
    }

-- ---- instructions

pub instruction_turns : (classes : ℕ) (m : Module) (f : Function) (i : Instr) → IsInstrOf m.version i → length f.code < 4096
    → Turns classes (body_of (name_of i.op) (operand_words i)) (inside m f) (inside m (record f { code = f.code ++ i ∷ [] }))
instruction_turns classes m f i b lt =
    let hs = operands_are_words i b.spelled in
    record {
      plain = plain_words (name_of i.op) (operand_words i) (name_is_word i.op) hs;
      turns = λ line labels others. (
        labels,
        gives classes (labelled (inside m f) labels) line others (operand_words i) (name_of i.op)
            (statement.Instruction i.op) (name_is_word i.op) hs (said_name i.op)
            ∙ known_line (labelled (inside m f) labels) i.op (operand_words i) b.known
            ∙ ap (with_instruction (labelled (inside m f) labels)) (instruction_again labels (length f.code) i b.spelled lt),
      );
    }

-- ---- the end of a function

end_again : (count : ℕ) → 0 < count → end_of stage.Inside count [] ≡ Ok tt
unfolding end_of
end_again count lt = rw (lt-ltb 0 count lt) refl

pub end_turns : (classes : ℕ) (m : Module) (f : Function) → 0 < length f.code
    → Turns classes (body_of (codes "end") []) (inside m f) (outside stage.Functions (record m { functions = m.functions ++ f ∷ [] }))
end_turns classes m f lt = record {
  plain = refl;
  turns = λ line labels others. (
    [],
    gives classes (labelled (inside m f) labels) line others [] (codes "end") statement.End end_word tt says_end
        ∙ ap (with_end (labelled (inside m f) labels)) (end_again (length f.code) lt),
  );
}

-- ---- the entry

entry_fits : (functions : List Function) (n : ℕ) (f : Function) → slice_get functions n ≡ Some f → IsEntry f → is_entry (slice_get functions n) ≡ true
entry_fits functions n f e h = ap is_entry e ∙ and_from (length f.parameters == 0) (is_none f.result)
    (eq-eqb (length f.parameters) 0 (omega (arith, h.parameters))) (no_result f.result h.result)

entry_again : (s : Stage) (functions : List Function) (n : ℕ) (f : Function) → takes_func s ≡ true → n < 2 ^ 16 → 0 < length functions
    → slice_get functions n ≡ Some f → IsEntry f → entry_of s functions (decimal n ∷ []) ≡ Ok n
unfolding entry_of
entry_again s functions n f t small some e h = rw (
  number_again 65535 n (omega arith) (omega arith),
  t,
  lt-ltb 0 (length functions) some,
  entry_fits functions n f e h,
) refl

pub entry_turns : (classes : ℕ) (s : Stage) (m : Module) (n : ℕ) (f : Function) → takes_func s ≡ true → n < 2 ^ 16 → 0 < length m.functions
    → slice_get m.functions n ≡ Some f → IsEntry f
    → Turns classes (body_of (codes "entry") (decimal n ∷ [])) (outside s m) (outside stage.Finished (record m { entry = n }))
entry_turns classes s m n f t small some e h =
    let hs : AllByRecursion IsWord (decimal n ∷ []) = (decimal_word n (omega arith), tt) in
    record {
      plain = plain_words (codes "entry") (decimal n ∷ []) entry_word hs;
      turns = λ line labels others. (
        labels,
        gives classes (labelled (outside s m) labels) line others (decimal n ∷ [])
            (codes "entry") statement.Entry entry_word hs says_entry
            ∙ ap (with_entry (labelled (outside s m) labels)) (entry_again s m.functions n f t small some e h),
      );
    }
