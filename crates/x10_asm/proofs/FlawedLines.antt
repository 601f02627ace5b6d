-- What a line's words say decides its fault, whatever the other lines say.
use Rattle.std.proofs.Common.{◌≡◌, ℕ, Bool, true, false, List, length, Err, refl, sym, ap, subst, ◌∙◌}
use Rattle.x10_code.specs.declared.op.Op.{Op}
use Rattle.x10_model.specs.declared.version.ImageVersion.{ImageVersion}
use Rattle.x10_model.specs.Modules.{Function, is_known}
use Rattle.x10_asm.specs.declared.fault.AsmCause.{AsmCause}
use Rattle.x10_asm.specs.declared.fault.AsmCause.TheVariants as cause
use Rattle.x10_asm.specs.declared.stage.Stage.{Stage}
use Rattle.x10_asm.specs.declared.statement.Statement.{Statement}
use Rattle.x10_asm.specs.declared.statement.Statement.TheVariants as statement
use Rattle.x10_asm.specs.Lines.{words, after_word}
use Rattle.x10_asm.specs.Checks.{one_number, no_more}
use Rattle.x10_asm.specs.Labels.{Label}
use Rattle.x10_asm.specs.Operands.{instruction_of}
use Rattle.x10_asm.specs.Statements.{statement_in, first_word, other_words}
use Rattle.x10_asm.specs.Reading.{with_version, with_places, with_class, with_int, with_text, with_func, with_instruction, with_end, with_entry, with_nothing, instruction_line_of, one_version, version_of, places_of, class_of, one_int, int_line_of, text_of, func_of, end_of, entry_of, label_at}
use Rattle.x10_asm.specs.Reading as reading
use Rattle.x10_asm.specs.Flaws.{MayRead, IsFaultOf}
use Rattle.x10_asm.proofs.LinesTakenIn.{line_gives, known_line, unknown_line}

version_fault : (s : Stage) (v : ImageVersion) (ws : List (List ℕ)) (c : AsmCause) → one_version ws ≡ Err c → version_of s v ws ≡ Err c
unfolding version_of
version_fault s v ws c f = rw f refl

places_fault : (s : Stage) (ws : List (List ℕ)) (c : AsmCause) → one_number 65535 ws ≡ Err c → places_of s ws ≡ Err c
unfolding places_of
places_fault s ws c f = rw f refl

int_fault : (s : Stage) (before : ℕ) (ws : List (List ℕ)) (c : AsmCause) → one_int ws ≡ Err c → int_line_of s before ws ≡ Err c
unfolding int_line_of
int_fault s before ws c f = rw f refl

end_fault : (s : Stage) (count : ℕ) (ws : List (List ℕ)) (c : AsmCause) → no_more ws ≡ Err c → end_of s count ws ≡ Err c
unfolding end_of
end_fault s count ws c f = rw f refl

entry_fault : (s : Stage) (functions : List Function) (ws : List (List ℕ)) (c : AsmCause) → one_number 65535 ws ≡ Err c
    → entry_of s functions ws ≡ Err c
unfolding entry_of
entry_fault s functions ws c f = rw f refl

label_fault : (s : Stage) (all : List Label) (number : ℕ) (word : List ℕ) (ws : List (List ℕ)) (c : AsmCause) → no_more ws ≡ Err c
    → label_at s all number word ws ≡ Err c
unfolding label_at
label_fault s all number word ws c f = rw f refl

pub flawed_version : (version : ImageVersion) (classes : ℕ) (text : List ℕ) (ws : List (List ℕ)) (c : AsmCause) (here : Statement)
    → here ≡ statement_in (words text) → ws ≡ other_words (words text) → here ≡ statement.Version → one_version ws ≡ Err c
    → IsFaultOf version classes text c
flawed_version version classes text ws c here e r w f = λ s n others _. let h : version_of s.stage s.so_far.version (other_words (words text))
    ≡ Err c = rw (← r) (version_fault s.stage s.so_far.version ws c f) in line_gives classes s n text others here e statement.Version w
    ∙ ap (with_version s) h

pub flawed_places : (version : ImageVersion) (classes : ℕ) (text : List ℕ) (ws : List (List ℕ)) (c : AsmCause) (here : Statement)
    → here ≡ statement_in (words text) → ws ≡ other_words (words text) → here ≡ statement.Places → one_number 65535 ws ≡ Err c
    → IsFaultOf version classes text c
flawed_places version classes text ws c here e r w f = λ s n others _. let h : places_of s.stage (other_words (words text)) ≡ Err c =
    rw (← r) (places_fault s.stage ws c f) in line_gives classes s n text others here e statement.Places w ∙ ap (with_places s) h

pub flawed_class : (version : ImageVersion) (classes : ℕ) (text : List ℕ) (ws : List (List ℕ)) (c : AsmCause) (here : Statement)
    → here ≡ statement_in (words text) → ws ≡ other_words (words text) → here ≡ statement.Class
    → ((s : Stage) → (before : ℕ) → class_of s classes before ws ≡ Err c) → IsFaultOf version classes text c
flawed_class version classes text ws c here e r w f = λ s n others _.
    let h : class_of s.stage classes (length s.so_far.classes) (other_words (words text)) ≡ Err c = rw (← r) (f s.stage (length s.so_far.classes)) in
    line_gives classes s n text others here e statement.Class w ∙ ap (with_class s) h

pub flawed_int : (version : ImageVersion) (classes : ℕ) (text : List ℕ) (ws : List (List ℕ)) (c : AsmCause) (here : Statement)
    → here ≡ statement_in (words text) → ws ≡ other_words (words text) → here ≡ statement.Int → one_int ws ≡ Err c → IsFaultOf version classes text c
flawed_int version classes text ws c here e r w f = λ s n others _. let h : int_line_of s.stage (length s.so_far.ints) (other_words (words text))
    ≡ Err c = rw (← r) (int_fault s.stage (length s.so_far.ints) ws c f) in line_gives classes s n text others here e statement.Int w
    ∙ ap (with_int s) h

pub flawed_text : (version : ImageVersion) (classes : ℕ) (text rest : List ℕ) (c : AsmCause) (here : Statement) → here ≡ statement_in (words text)
    → rest ≡ after_word text → here ≡ statement.Text → ((s : Stage) → (before : ℕ) → text_of s before rest ≡ Err c) → IsFaultOf version classes text c
flawed_text version classes text rest c here e r w f = λ s n others _. let h : text_of s.stage (length s.so_far.texts) (after_word text) ≡ Err c =
    rw (← r) (f s.stage (length s.so_far.texts)) in line_gives classes s n text others here e statement.Text w ∙ ap (with_text s) h

pub flawed_func : (version : ImageVersion) (classes : ℕ) (text : List ℕ) (ws : List (List ℕ)) (c : AsmCause) (here : Statement)
    → here ≡ statement_in (words text) → ws ≡ other_words (words text) → here ≡ statement.Func
    → ((s : Stage) → (before : ℕ) → func_of s classes before ws ≡ Err c) → IsFaultOf version classes text c
flawed_func version classes text ws c here e r w f = λ s n others _.
    let h : func_of s.stage classes (length s.so_far.functions) (other_words (words text)) ≡ Err c =
    rw (← r) (f s.stage (length s.so_far.functions)) in line_gives classes s n text others here e statement.Func w ∙ ap (with_func s _) h

pub flawed_end : (version : ImageVersion) (classes : ℕ) (text : List ℕ) (ws : List (List ℕ)) (c : AsmCause) (here : Statement)
    → here ≡ statement_in (words text) → ws ≡ other_words (words text) → here ≡ statement.End → no_more ws ≡ Err c → IsFaultOf version classes text c
flawed_end version classes text ws c here e r w f = λ s n others _. let h : end_of s.stage (length s.function.code) (other_words (words text))
    ≡ Err c = rw (← r) (end_fault s.stage (length s.function.code) ws c f) in line_gives classes s n text others here e statement.End w
    ∙ ap (with_end s) h

pub flawed_entry : (version : ImageVersion) (classes : ℕ) (text : List ℕ) (ws : List (List ℕ)) (c : AsmCause) (here : Statement)
    → here ≡ statement_in (words text) → ws ≡ other_words (words text) → here ≡ statement.Entry → one_number 65535 ws ≡ Err c
    → IsFaultOf version classes text c
flawed_entry version classes text ws c here e r w f = λ s n others _. let h : entry_of s.stage s.so_far.functions (other_words (words text)) ≡ Err c =
    rw (← r) (entry_fault s.stage s.so_far.functions ws c f) in line_gives classes s n text others here e statement.Entry w ∙ ap (with_entry s) h

pub flawed_label : (version : ImageVersion) (classes : ℕ) (text : List ℕ) (ws : List (List ℕ)) (c : AsmCause) (here : Statement)
    → here ≡ statement_in (words text) → ws ≡ other_words (words text) → here ≡ statement.Label → no_more ws ≡ Err c
    → IsFaultOf version classes text c
flawed_label version classes text ws c here e r w f = λ s n others _.
    let h : label_at s.stage s.labels n (first_word (words text)) (other_words (words text)) ≡ Err c =
    rw (← r) (label_fault s.stage s.labels n (first_word (words text)) ws c f) in line_gives classes s n text others here e statement.Label w
    ∙ ap (with_nothing s) h

pub flawed_instruction : (version : ImageVersion) (classes : ℕ) (text : List ℕ) (ws : List (List ℕ)) (c : AsmCause) (op : Op) (here : Statement)
    → here ≡ statement_in (words text) → ws ≡ other_words (words text) → here ≡ statement.Instruction op
    → ((s : reading.Source) → s.so_far.version ≡ version → instruction_line_of s op ws ≡ Err c) → IsFaultOf version classes text c
flawed_instruction version classes text ws c op here e r w f = λ s n others may. let h : instruction_line_of s op (other_words (words text)) ≡ Err c =
    rw (← r) (f s (subst (MayRead version s) (sym e ∙ w) may)) in line_gives classes s n text others here e (statement.Instruction op) w ∙ h

-- an operation that the version doesn't know
pub unknown_flawed : (version : ImageVersion) (ws : List (List ℕ)) (op : Op) (s : reading.Source) → s.so_far.version ≡ version
    → is_known version op ≡ false → instruction_line_of s op ws ≡ Err cause.Word
unknown_flawed version ws op s same unknown = unknown_line s op ws (ap (λ (v : ImageVersion). is_known v op) same ∙ unknown)

-- operands that aren't those of one that it knows
pub operands_flawed : (version : ImageVersion) (ws : List (List ℕ)) (c : AsmCause) (op : Op) (s : reading.Source) → s.so_far.version ≡ version
    → is_known version op ≡ true → ((all : List Label) → (inside : Bool) → (count : ℕ) → instruction_of all inside count op ws ≡ Err c)
    → instruction_line_of s op ws ≡ Err c
operands_flawed version ws c op s same known f = known_line s op ws (ap (λ (v : ImageVersion). is_known v op) same ∙ known)
    ∙ ap (with_instruction s) (f s.labels (reading.is_inside s.stage) (length s.function.code))

pub flawed_unknown : (version : ImageVersion) (classes : ℕ) (text : List ℕ) (c : AsmCause) (here : Statement) → here ≡ statement_in (words text)
    → here ≡ statement.Unknown → c ≡ cause.Word → IsFaultOf version classes text c
flawed_unknown version classes text c here e w f = λ s n others _. line_gives classes s n text others here e statement.Unknown w ∙ rw f refl
