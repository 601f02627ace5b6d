-- The first line of a text that says something tells the version of the module that the text spells.
use Rattle.std.proofs.Common.{◌≡◌, ℕ, ℤ, suc, Bool, true, false, ◌&&◌, List, [], ◌∷◌, ◌++◌, length, Result, Ok, refl, sym, ap, subst, ◌∙◌}
use Rattle.std.specs.Prelude.{if◌then◌else◌}
use Rattle.std.proofs.lemmas.Bool.{and_from}
use Rattle.x10_kinds.specs.declared.kind.Kind.{Kind}
use Rattle.x10_code.specs.declared.instr.Instr.{Instr}
use Rattle.x10_code.specs.declared.op.Op.{Op}
use Rattle.x10_code.specs.Table.{form_of}
use Rattle.x10_model.specs.declared.version.ImageVersion.{ImageVersion}
use Rattle.x10_model.specs.declared.version.ImageVersion.TheVariants.{One, Two}
use Rattle.x10_model.specs.Modules.{Function, Module, is_known}
use Rattle.x10_asm.specs.declared.fault.AsmCause.{AsmCause}
use Rattle.x10_asm.specs.declared.fault.AsmCause.TheVariants as cause
use Rattle.x10_asm.specs.declared.stage.Stage.{Stage}
use Rattle.x10_asm.specs.declared.stage.Stage.TheVariants as stage
use Rattle.x10_asm.specs.declared.statement.Statement.{Statement}
use Rattle.x10_asm.specs.declared.statement.Statement.TheVariants as statement
use Rattle.x10_asm.specs.Lines.{lines, words, after_word}
use Rattle.x10_asm.specs.Checks.{no_more}
use Rattle.x10_asm.specs.Labels.{Label}
use Rattle.x10_asm.specs.LabelLines.{labels_from}
use Rattle.x10_asm.specs.Operands.{operand_at, last_at, instruction_of}
use Rattle.x10_asm.specs.Statements.{statement_in, first_word, other_words}
use Rattle.x10_asm.specs.Reading.{is_one, is_start, takes_class, is_inside, is_finished, version_of, places_of, class_of, int_line_of, text_of, func_of, end_of, entry_of, label_at, Source, no_function, after_statement, after_line, read_from, classes_in, version_by, version_in, nothing_read, module_of}
use Rattle.x10_asm.specs.LawsOfTexts.{VersionIsTold}
use Rattle.x10_asm.proofs.InRanges.{bound, then_bound, checked, same_ok}
use Rattle.x10_asm.proofs.TextLines.{step, stop, version_step}
use Rattle.x10_asm.proofs.FittingLines.{inside_begun, begun, version_starts, class_fits}
use Rattle.x10_asm.proofs.FittingSources.{with_ok, known_by, went_on, ended_is}

-- the version that a text will have: what is told from here on, where nothing but comments was read, or else what it has
abbrev chosen : Bool → ImageVersion → ImageVersion → ImageVersion
chosen start v told = if start && is_one v then told else v

chosen_begun : (start : Bool) (v told : ImageVersion) → start ≡ false → chosen start v told ≡ v
chosen_begun false v told e = refl
chosen_begun true v told e = absurd cc

chosen_one : (start : Bool) (v : ImageVersion) → chosen start v One ≡ v
chosen_one false v = refl
chosen_one true One = refl
chosen_one true Two = refl

chosen_two : (start : Bool) (told : ImageVersion) → chosen start Two told ≡ Two
chosen_two false told = refl
chosen_two true told = refl

chosen_told : (start : Bool) (v told : ImageVersion) → (start && is_one v) ≡ true → chosen start v told ≡ told
chosen_told start v told e = ap (λ (b : Bool). if b then told else v) e

abbrev due : Source → ImageVersion → ImageVersion
due s told = chosen (is_start s.stage) s.so_far.version told

-- a line after which no version may come, which leaves that of the text
kept : (s t : Source) (told : ImageVersion) → is_start t.stage ≡ false → t.so_far.version ≡ s.so_far.version → due t told ≡ due s One
kept s t told past same = chosen_begun (is_start t.stage) t.so_far.version told past ∙ same ∙ sym (chosen_one (is_start s.stage) s.so_far.version)

moved : (u t : Source) (told now : ImageVersion) → (let r : Result Source AsmCause = Ok u in r) ≡ Ok t → due u told ≡ now → due t told ≡ now
moved u t told now e h = subst (λ (x : Source). due x told ≡ now) (same_ok u t e) h

-- ---- lines that leave the stage

class_begun : (s : Stage) → takes_class s ≡ true → is_start s ≡ false
class_begun stage.Classes e = refl
class_begun _ e = absurd cc

label_inside : (s : Stage) (labels : List Label) (line : ℕ) (word : List ℕ) (ws : List (List ℕ)) (u : Unit {0})
    → label_at s labels line word ws ≡ Ok u → is_inside s ≡ true
unfolding label_at
label_inside s labels line word ws u e = (checked (is_inside s) cause.Order _ u (then_bound (no_more ws) _ u e)).0

instruction_inside : (labels : List Label) (inside : Bool) (count : ℕ) (o : Op) (ws : List (List ℕ)) (i : Instr)
    → instruction_of labels inside count o ws ≡ Ok i → inside ≡ true
unfolding instruction_of
instruction_inside labels inside count o ws i e =
    let a = bound (operand_at (form_of o).a 255 ws) _ i e in
    let b = bound (operand_at (form_of o).b 255 a.0.1) _ i a.2 in
    let c = bound (operand_at (form_of o).c 255 b.0.1) _ i b.2 in
    let x = bound (last_at (form_of o).x c.0.1) _ i c.2 in
    (checked inside cause.Order _ i (then_bound (no_more x.0.others) _ i x.2)).0

-- ---- a line

told_by : (classes : ℕ) (s : Source) (line : ℕ) (text : List ℕ) (ws others : List (List ℕ)) (st : Statement) (t : Source) (told : ImageVersion)
    → after_statement classes s line text ws others st ≡ Ok t → due t told ≡ due s (version_by st told)
told_by classes s line text ws others statement.Silent t told e = moved s t told _ e refl
told_by classes s line text ws others statement.Version t told e =
    let r = version_of s.stage s.so_far.version (other_words ws) in
    let make : Unit {0} → Source = λ u. record s { so_far = record s.so_far { version = Two } } in
    let f = with_ok make r _ t (λ c x. rw x refl) (λ n x. rw x refl) e in
    let b = version_starts s.stage s.so_far.version (other_words ws) f.0 f.1 in
    moved (make f.0) t told _ f.2 (chosen_two (is_start s.stage) told
    ∙ sym (chosen_told (is_start s.stage) s.so_far.version Two (and_from (is_start s.stage) (is_one s.so_far.version) b.0 b.1)))
told_by classes s line text ws others statement.Places t told e =
    let make : ℕ → Source = λ n. record s { stage = stage.Classes; so_far = record s.so_far { least_places = n } } in
    let f = with_ok make (places_of s.stage (other_words ws)) _ t (λ c x. rw x refl) (λ n x. rw x refl) e in
    moved (make f.0) t told _ f.2 (kept s (make f.0) told refl refl)
told_by classes s line text ws others statement.Class t told e =
    let make : List Kind → Source = λ fields. record s { so_far = record s.so_far { classes = s.so_far.classes ++ fields ∷ [] } } in
    let f = with_ok make (class_of s.stage classes (length s.so_far.classes) (other_words ws)) _ t (λ c x. rw x refl) (λ n x. rw x refl) e in
    let taken = class_fits s.stage classes (length s.so_far.classes) (other_words ws) f.0 f.1 in
    moved (make f.0) t told _ f.2 (kept s (make f.0) told (class_begun s.stage taken.stage_is) refl)
told_by classes s line text ws others statement.Int t told e =
    let make : ℤ → Source = λ z. record s { stage = stage.Ints; so_far = record s.so_far { ints = s.so_far.ints ++ z ∷ [] } } in
    let f = with_ok make (int_line_of s.stage (length s.so_far.ints) (other_words ws)) _ t (λ c x. rw x refl) (λ n x. rw x refl) e in
    moved (make f.0) t told _ f.2 (kept s (make f.0) told refl refl)
told_by classes s line text ws others statement.Text t told e =
    let make : List ℕ → Source = λ x. record s { stage = stage.Texts; so_far = record s.so_far { texts = s.so_far.texts ++ x ∷ [] } } in
    let f = with_ok make (text_of s.stage (length s.so_far.texts) (after_word text)) _ t (λ c x. rw x refl) (λ n x. rw x refl) e in
    moved (make f.0) t told _ f.2 (kept s (make f.0) told refl refl)
told_by classes s line text ws others statement.Func t told e =
    let labels = labels_from (suc line) 0 others in
    let make : Function → Source = λ g. record s { stage = stage.Inside; function = g; labels = labels } in
    let f = with_ok make (func_of s.stage classes (length s.so_far.functions) (other_words ws)) _ t (λ c x. rw x refl) (λ n x. rw x refl) e in
    moved (make f.0) t told _ f.2 (kept s (make f.0) told refl refl)
told_by classes s line text ws others statement.End t told e =
    let make : Unit {0} → Source = λ u. record s {
      stage = stage.Functions;
      so_far = record s.so_far { functions = s.so_far.functions ++ s.function ∷ [] };
      function = no_function;
      labels = [];
    } in
    let f = with_ok make (end_of s.stage (length s.function.code) (other_words ws)) _ t (λ c x. rw x refl) (λ n x. rw x refl) e in
    moved (make f.0) t told _ f.2 (kept s (make f.0) told refl refl)
told_by classes s line text ws others statement.Entry t told e =
    let make : ℕ → Source = λ n. record s { stage = stage.Finished; so_far = record s.so_far { entry = n } } in
    let f = with_ok make (entry_of s.stage s.so_far.functions (other_words ws)) _ t (λ c x. rw x refl) (λ n x. rw x refl) e in
    moved (make f.0) t told _ f.2 (kept s (make f.0) told refl refl)
told_by classes s line text ws others statement.Label t told e =
    let f = with_ok (λ u. s) (label_at s.stage s.labels line (first_word ws) (other_words ws)) _ t (λ c x. rw x refl) (λ n x. rw x refl) e in
    moved s t told _ f.2 (kept s s told (inside_begun s.stage (label_inside s.stage s.labels line (first_word ws) (other_words ws) f.0 f.1)) refl)
told_by classes s line text ws others (statement.Instruction o) t told e =
    let k = known_by (is_known s.so_far.version o) _ t e in
    let r = instruction_of s.labels (is_inside s.stage) (length s.function.code) o (other_words ws) in
    let make : Instr → Source = λ i. record s { function = record s.function { code = s.function.code ++ i ∷ [] } } in
    let f = with_ok make r _ t (λ c x. rw x refl) (λ n x. rw x refl) k.1 in
    let inside = instruction_inside s.labels (is_inside s.stage) (length s.function.code) o (other_words ws) f.0 f.1 in
    moved (make f.0) t told _ f.2 (kept s (make f.0) told (inside_begun s.stage inside) refl)
told_by classes s line text ws others statement.Unknown t told e = absurd cc

line_told : (classes : ℕ) (s : Source) (line : ℕ) (text : List ℕ) (others : List (List ℕ)) (t : Source) (told : ImageVersion)
    → after_line classes s line text others ≡ Ok t → due t told ≡ due s (version_by (statement_in (words text)) told)
unfolding after_line
line_told classes s line text others t told e = told_by classes s line text (words text) others (statement_in (words text)) t told e

-- ---- the text

read_told : (classes : ℕ) (s : Source) (line : ℕ) (texts : List (List ℕ)) (m : Module) → read_from classes s line texts ≡ Ok m
    → m.version ≡ due s (version_in texts)
read_told classes s line [] m e =
    let is = ended_is s line (is_finished s.stage) m refl (sym (stop classes s line) ∙ e) in
    ap (λ (n : Module). n.version) (sym is.1) ∙ sym (chosen_begun (is_start s.stage) s.so_far.version (version_in []) (begun s.stage is.0))
read_told classes s line (text ∷ others) m e =
    let on = went_on (after_line classes s line text others) line _ m (sym (step classes s line text others) ∙ e) in
    read_told classes on.0 (suc line) others m on.2 ∙ line_told classes s line text others on.0 (version_in others) on.1
    ∙ ap (due s) (sym (version_step text others))

pub version_is_told : VersionIsTold
unfolding module_of
version_is_told text m e = read_told (classes_in (lines text)) nothing_read 1 (lines text) m e
