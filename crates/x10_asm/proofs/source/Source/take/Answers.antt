use Rattle.std.proofs.Common.{◌∙◌, ◌+◌, length, ℕ, List, Result, sym, subst, add-one}
use Rattle.x10_asm.specs.declared.fault.AsmCause.{AsmCause}
use Rattle.x10_asm.specs.declared.statement.Statement.TheVariants as statement
use Rattle.x10_asm.specs.Lines.{lines, words}
use Rattle.x10_asm.specs.LabelLines.{labels_from}
use Rattle.x10_asm.specs.Statements.{other_words}
use Rattle.x10_asm.specs.Reading as reading
use Rattle.x10_asm.specs.Reading.{with_version, with_places, with_class, with_int, with_text, with_func, with_end, with_entry, with_nothing, version_of, places_of, class_of, int_line_of, text_of, func_of, end_of, entry_of, label_at, instruction_line_of}
use Rattle.x10_asm.specs.Sources.{Takes}
use Rattle.x10_asm.proofs.Names.{line_label_ends}
use Rattle.x10_asm.proofs.LinesTakenIn.{line_gives}
use Rattle.x10_asm.proofs.source.Source.take.Goals as goal

pub take_label-requires : goal.take_label-requires
take_label-requires c = rw c.line_of-line.ensures.first (line_label_ends (words c.args.text.now)
    (sym c.line_of-line.ensures.statement ∙ c.in-Label.is))

pub returns-in-Silent : goal.returns-in-Silent
returns-in-Silent c = λ s f. (
  s,
  line_gives c.args.classes s c.args.number c.args.text.now
      (lines c.args.rest.now) c.line_of-line.result.statement c.line_of-line.ensures.statement statement.Silent c.in-Silent.is,
  f,
)

pub returns-in-Unknown : goal.returns-in-Unknown
returns-in-Unknown c = λ s f _. line_gives c.args.classes s c.args.number c.args.text.now
    (lines c.args.rest.now) c.line_of-line.result.statement c.line_of-line.ensures.statement statement.Unknown c.in-Unknown.is

pub returns-in-Version : goal.returns-in-Version
returns-in-Version c = λ s f.
    subst (λ (r : Result reading.Source AsmCause). Takes c.take_version.new.self c.take_version.result r)
    (sym (line_gives c.args.classes s c.args.number c.args.text.now
    (lines c.args.rest.now) c.line_of-line.result.statement c.line_of-line.ensures.statement statement.Version c.in-Version.is))
    (subst (λ (ws : List (List ℕ)). Takes c.take_version.new.self c.take_version.result (with_version s (version_of s.stage s.so_far.version ws)))
    c.line_of-line.ensures.rest (c.take_version.ensures s f))

pub returns-in-Places : goal.returns-in-Places
returns-in-Places c = λ s f.
    subst (λ (r : Result reading.Source AsmCause). Takes c.take_places.new.self c.take_places.result r)
    (sym (line_gives c.args.classes s c.args.number c.args.text.now
    (lines c.args.rest.now) c.line_of-line.result.statement c.line_of-line.ensures.statement statement.Places c.in-Places.is))
    (subst (λ (ws : List (List ℕ)). Takes c.take_places.new.self c.take_places.result (with_places s (places_of s.stage ws)))
    c.line_of-line.ensures.rest (c.take_places.ensures s f))

pub returns-in-Class : goal.returns-in-Class
returns-in-Class c = λ s f.
    subst (λ (r : Result reading.Source AsmCause). Takes c.take_class.new.self c.take_class.result r)
    (sym (line_gives c.args.classes s c.args.number c.args.text.now
    (lines c.args.rest.now) c.line_of-line.result.statement c.line_of-line.ensures.statement statement.Class c.in-Class.is))
    (subst (λ (ws : List (List ℕ)). Takes c.take_class.new.self c.take_class.result
    (with_class s (class_of s.stage c.args.classes (length s.so_far.classes) ws))) c.line_of-line.ensures.rest (c.take_class.ensures s f))

pub returns-in-Int : goal.returns-in-Int
returns-in-Int c = λ s f.
    subst (λ (r : Result reading.Source AsmCause). Takes c.take_int.new.self c.take_int.result r)
    (sym (line_gives c.args.classes s c.args.number c.args.text.now
    (lines c.args.rest.now) c.line_of-line.result.statement c.line_of-line.ensures.statement statement.Int c.in-Int.is))
    (subst (λ (ws : List (List ℕ)). Takes c.take_int.new.self c.take_int.result (with_int s (int_line_of s.stage (length s.so_far.ints) ws)))
    c.line_of-line.ensures.rest (c.take_int.ensures s f))

pub returns-in-Text : goal.returns-in-Text
returns-in-Text c = λ s f.
    subst (λ (r : Result reading.Source AsmCause). Takes c.take_text.new.self c.take_text.result r)
    (sym (line_gives c.args.classes s c.args.number c.args.text.now
    (lines c.args.rest.now) c.line_of-line.result.statement c.line_of-line.ensures.statement statement.Text c.in-Text.is))
    (subst (λ (t : List ℕ). Takes c.take_text.new.self c.take_text.result (with_text s (text_of s.stage (length s.so_far.texts) t)))
    c.line_of-line.ensures.after (c.take_text.ensures s f))

pub returns-in-Func : goal.returns-in-Func
returns-in-Func c = λ s f.
    subst (λ (r : Result reading.Source AsmCause). Takes c.take_func.new.self c.take_func.result r)
    (sym (line_gives c.args.classes s c.args.number c.args.text.now
    (lines c.args.rest.now) c.line_of-line.result.statement c.line_of-line.ensures.statement statement.Func c.in-Func.is))
    (subst (λ (n : ℕ). Takes c.take_func.new.self c.take_func.result
    (with_func s (labels_from n 0 (lines c.args.rest.now)) (func_of s.stage c.args.classes (length s.so_far.functions)
    (other_words (words c.args.text.now))))) (add-one c.args.number)
    (subst (λ (ws : List (List ℕ)). Takes c.take_func.new.self c.take_func.result
    (with_func s (labels_from (c.args.number + 1) 0 (lines c.args.rest.now)) (func_of s.stage c.args.classes (length s.so_far.functions) ws)))
    c.line_of-line.ensures.rest (c.take_func.ensures s f)))

pub returns-in-End : goal.returns-in-End
returns-in-End c = λ s f.
    subst (λ (r : Result reading.Source AsmCause). Takes c.take_end.new.self c.take_end.result r)
    (sym (line_gives c.args.classes s c.args.number c.args.text.now
    (lines c.args.rest.now) c.line_of-line.result.statement c.line_of-line.ensures.statement statement.End c.in-End.is))
    (subst (λ (ws : List (List ℕ)). Takes c.take_end.new.self c.take_end.result (with_end s (end_of s.stage (length s.function.code) ws)))
    c.line_of-line.ensures.rest (c.take_end.ensures s f))

pub returns-in-Entry : goal.returns-in-Entry
returns-in-Entry c = λ s f.
    subst (λ (r : Result reading.Source AsmCause). Takes c.take_entry.new.self c.take_entry.result r)
    (sym (line_gives c.args.classes s c.args.number c.args.text.now
    (lines c.args.rest.now) c.line_of-line.result.statement c.line_of-line.ensures.statement statement.Entry c.in-Entry.is))
    (subst (λ (ws : List (List ℕ)). Takes c.take_entry.new.self c.take_entry.result (with_entry s (entry_of s.stage s.so_far.functions ws)))
    c.line_of-line.ensures.rest (c.take_entry.ensures s f))

pub returns-in-Label : goal.returns-in-Label
returns-in-Label c = λ s f.
    subst (λ (r : Result reading.Source AsmCause). Takes c.args.self.now c.take_label.result r)
    (sym (line_gives c.args.classes s c.args.number c.args.text.now
    (lines c.args.rest.now) c.line_of-line.result.statement c.line_of-line.ensures.statement statement.Label c.in-Label.is))
    (subst (λ (w : List ℕ). Takes c.args.self.now c.take_label.result
    (with_nothing s (label_at s.stage s.labels c.args.number w (other_words (words c.args.text.now))))) c.line_of-line.ensures.first
    (subst (λ (ws : List (List ℕ)). Takes c.args.self.now c.take_label.result
    (with_nothing s (label_at s.stage s.labels c.args.number c.line_of-line.result.first.now ws))) c.line_of-line.ensures.rest
    (c.take_label.ensures s f)))

pub returns-in-Instruction : goal.returns-in-Instruction
returns-in-Instruction c = λ s f.
    subst (λ (r : Result reading.Source AsmCause). Takes c.take_instruction.new.self c.take_instruction.result r)
    (sym (line_gives c.args.classes s c.args.number c.args.text.now
    (lines c.args.rest.now) c.line_of-line.result.statement c.line_of-line.ensures.statement
    (statement.Instruction c.in-Instruction.op) c.in-Instruction.is))
    (subst (λ (ws : List (List ℕ)). Takes c.take_instruction.new.self c.take_instruction.result (instruction_line_of s c.in-Instruction.op ws))
    c.line_of-line.ensures.rest (c.take_instruction.ensures s f))
