-- A whole listing is read again.
use Rattle.std.proofs.Common.{◌≡◌, ℕ, ℤ, suc, ◌+◌, ◌≤◌, ◌<◌, ◌^◌, Bool, true, false, not, List, [], ◌∷◌, ◌++◌, length, map, Some, Ok, refl, sym, ap, subst, ◌∙◌, append_assoc, append-nil, arith, length-append}
use Rattle.std.specs.Prelude.{filter, codes, decimal, FitsSigned, slice_get}
use Rattle.std.specs.Int.{w64}
use Rattle.std.specs.Fmt.{signed_decimal}
use Rattle.std.specs.List.{flat_map, AllByRecursion}
use Rattle.x10_kinds.specs.declared.kind.Kind.{Kind}
use Rattle.x10_code.specs.declared.instr.Instr.{Instr}
use Rattle.x10_code.specs.Table.{name_of}
use Rattle.x10_model.specs.declared.version.ImageVersion.{ImageVersion}
use Rattle.x10_model.specs.declared.version.ImageVersion.TheVariants.{One, Two}
use Rattle.x10_model.specs.Modules.{Function, Module, FitsClass, FitsText, IsInstrOf, FitsFunction, FitsImage, IsEntry}
use Rattle.x10_asm.specs.declared.stage.Stage.{Stage}
use Rattle.x10_asm.specs.declared.stage.Stage.TheVariants as stage
use Rattle.x10_asm.specs.declared.statement.Statement.{Statement}
use Rattle.x10_asm.specs.declared.statement.Statement.TheVariants as statement
use Rattle.x10_asm.specs.Lines.{lines, words}
use Rattle.x10_asm.specs.Listing.{spaced, line, kind_word, quoted, operand_words, version_lines, places_line, class_line, int_line, text_line, func_line, instruction_line, end_line, function_lines, entry_line, listing}
use Rattle.x10_asm.specs.Statements.{statement_in}
use Rattle.x10_asm.specs.Comments.{is_silent, says_something, said}
use Rattle.x10_asm.specs.Reading.{Source, is_class, takes_int, takes_text, takes_func, nothing_read, read_from, classes_in, module_of}
use Rattle.x10_asm.proofs.SpelledWords.{decimal_word, int_word, all_words, kind_is_word}
use Rattle.x10_asm.proofs.SpelledInstructions.{said_name, name_is_word, operands_are_words}
use Rattle.std.proofs.lemmas.Option.{slice_get_within}
use Rattle.x10_asm.proofs.LinesAndWords.{no_lines}
use Rattle.x10_asm.proofs.TextLines.{no_classes, stop}
use Rattle.x10_asm.proofs.ReadingAgain.{Turns, Leads, labelled, nothing_leads, then_leads, class_leads, line_leads, said_classes, all_said, reached}
use Rattle.x10_asm.proofs.LinesAgain.{outside, inside, body_of, statement_first, version_word, places_word, class_word, int_first, func_word, end_word, entry_word, says_version, says_places, says_class, says_int, says_text_line, says_func, says_end, says_entry, version_turns, places_turns, class_turns, int_turns, text_turns}
use Rattle.x10_asm.proofs.FunctionsAgain.{begun, func_words, func_are_words, func_turns, instruction_turns, end_turns, entry_turns}

-- the same, by equal ends
leads_to : (classes : ℕ) (p : List ℕ) (s t u : Source) (j k : ℕ) → Leads classes p s t j → t ≡ u → j ≡ k → Leads classes p s u k
leads_to classes p s t u j k h e f = subst (λ (n : ℕ). Leads classes p s u n) f (subst (λ (v : Source). Leads classes p s v j) e h)

-- a line that is no class
one_line : (classes : ℕ) (first : List ℕ) (others : List (List ℕ)) (s t : Source) → Turns classes (body_of first others) s t → (here : Statement)
    → statement_in (words (body_of first others)) ≡ here → is_class here ≡ false → is_silent here ≡ false → Leads classes (line first others) s t 0
one_line classes first others s t h here e other says = subst (λ (p : List ℕ). Leads classes p s t 0)
    (append_assoc first (flat_map spaced others) (10 ∷ [])) (line_leads classes (body_of first others) s t h (ap is_class e ∙ other)
    (ap (λ (x : Statement). not (is_silent x)) e ∙ ap not says))

-- ---- classes

class_line_leads : (classes : ℕ) (m : Module) (fields : List Kind) → classes < 2 ^ 16 → FitsClass classes fields → length m.classes < 65535
    → Leads classes (class_line fields) (outside stage.Classes m) (outside stage.Classes (record m { classes = m.classes ++ fields ∷ [] })) 1
unfolding class_line
class_line_leads classes m fields few f lt =
    let hs = all_words kind_word _ (λ k g. kind_is_word classes k few g) fields f.kinds in
    subst (λ (p : List ℕ). Leads classes p (outside stage.Classes m) (outside stage.Classes (record m { classes = m.classes ++ fields ∷ [] })) 1)
    (append_assoc (codes "class") (flat_map spaced (map kind_word fields)) (10 ∷ []))
    (class_leads classes (body_of (codes "class") (map kind_word fields)) (outside stage.Classes m)
    (outside stage.Classes (record m { classes = m.classes ++ fields ∷ [] })) (class_turns classes m fields few f.kinds f.count lt)
    (ap is_class (statement_first (codes "class") (map kind_word fields) statement.Class class_word hs says_class)))

classes_lead : (classes : ℕ) (m : Module) (cs : List (List Kind)) → classes < 2 ^ 16 → AllByRecursion (FitsClass classes) cs
    → length m.classes + length cs < 2 ^ 16
    → Leads classes (flat_map class_line cs) (outside stage.Classes m) (outside stage.Classes (record m { classes = m.classes ++ cs })) (length cs)
classes_lead classes m [] few h lt = leads_to classes [] _ _ _ 0 0 (nothing_leads classes (outside stage.Classes m))
    (ap (λ (xs : List (List Kind)). outside stage.Classes (record m { classes = xs })) (sym (append-nil m.classes))) refl
classes_lead classes m (c ∷ cs) few h lt =
    let more : Module = record m { classes = m.classes ++ c ∷ [] } in
    leads_to classes (class_line c ++ flat_map class_line cs) _ _ _ (1 + length cs) (suc (length cs))
    (then_leads classes (class_line c) (flat_map class_line cs) (outside stage.Classes m) (outside stage.Classes more)
    (outside stage.Classes (record more { classes = more.classes ++ cs })) 1 (length cs)
    (class_line_leads classes m c few h.0 (omega arith)) (classes_lead classes more cs few h.1 (omega (arith, length-append m.classes (c ∷ [])))))
    (ap (λ (xs : List (List Kind)). outside stage.Classes (record m { classes = xs })) (append_assoc m.classes (c ∷ []) cs)) (omega arith)

-- ---- lines after which a stage stands that takes what follows

record LeadsOn (classes : ℕ) (p : List ℕ) (s : Stage) (m n : Module) (takes : Stage → Bool) : Type 0 where
  after : Stage
  taken : takes after ≡ true
  leads : Leads classes p (outside s m) (outside after n) 0

on_to : (classes : ℕ) (p : List ℕ) (s : Stage) (m n o : Module) (takes : Stage → Bool) → LeadsOn classes p s m n takes → n ≡ o
    → LeadsOn classes p s m o takes
on_to classes p s m n o takes h e = subst (λ (k : Module). LeadsOn classes p s m k takes) e h

nothing_on : (classes : ℕ) (s : Stage) (m : Module) (takes : Stage → Bool) → takes s ≡ true → LeadsOn classes [] s m m takes
nothing_on classes s m takes t = record { after = s; taken = t; leads = nothing_leads classes (outside s m) }

then_on : (classes : ℕ) (p q : List ℕ) (s r : Stage) (m n o : Module) (takes : Stage → Bool) → Leads classes p (outside s m) (outside r n) 0
    → LeadsOn classes q r n o takes → LeadsOn classes (p ++ q) s m o takes
then_on classes p q s r m n o takes a b = record {
  after = b.after;
  taken = b.taken;
  leads = leads_to classes (p ++ q) _ _ _ (0 + 0) 0 (then_leads classes p q (outside s m) (outside r n) (outside b.after o) 0 0 a b.leads) refl
      (omega arith);
}

text_after_int : (s : Stage) → takes_int s ≡ true → takes_text s ≡ true
text_after_int stage.Classes t = refl
text_after_int stage.Ints t = refl
text_after_int stage.Start t = t
text_after_int stage.Texts t = refl
text_after_int stage.Functions t = t
text_after_int stage.Inside t = t
text_after_int stage.Finished t = t

func_after_text : (s : Stage) → takes_text s ≡ true → takes_func s ≡ true
func_after_text stage.Classes t = refl
func_after_text stage.Ints t = refl
func_after_text stage.Texts t = refl
func_after_text stage.Start t = t
func_after_text stage.Functions t = refl
func_after_text stage.Inside t = t
func_after_text stage.Finished t = t

-- ---- constants

int_line_leads : (classes : ℕ) (s : Stage) (m : Module) (z : ℤ) → takes_int s ≡ true → FitsSigned w64 z → length m.ints < 65535
    → Leads classes (int_line z) (outside s m) (outside stage.Ints (record m { ints = m.ints ++ z ∷ [] })) 0
unfolding int_line
int_line_leads classes s m z t f lt = one_line classes (codes "int") (signed_decimal z ∷ []) (outside s m) _ (int_turns classes s m z t f lt) _
    (statement_first (codes "int") (signed_decimal z ∷ []) statement.Int int_first (int_word z f, tt) says_int) refl refl

ints_lead : (classes : ℕ) (s : Stage) (m : Module) (zs : List ℤ) → takes_int s ≡ true → AllByRecursion (FitsSigned w64) zs
    → length m.ints + length zs < 2 ^ 16 → LeadsOn classes (flat_map int_line zs) s m (record m { ints = m.ints ++ zs }) takes_text
ints_lead classes s m [] t h lt = on_to classes [] s m m _ takes_text (nothing_on classes s m takes_text (text_after_int s t))
    (ap (λ (xs : List ℤ). record m { ints = xs }) (sym (append-nil m.ints)))
ints_lead classes s m (z ∷ zs) t h lt =
    let more : Module = record m { ints = m.ints ++ z ∷ [] } in
    on_to classes (int_line z ++ flat_map int_line zs) s m (record more { ints = more.ints ++ zs }) _ takes_text
    (then_on classes (int_line z) (flat_map int_line zs) s stage.Ints m more (record more { ints = more.ints ++ zs }) takes_text
    (int_line_leads classes s m z t h.0 (omega arith)) (ints_lead classes stage.Ints more zs refl h.1
    (omega (arith, length-append m.ints (z ∷ [])))))
    (ap (λ (xs : List ℤ). record m { ints = xs }) (append_assoc m.ints (z ∷ []) zs))

text_line_leads : (classes : ℕ) (s : Stage) (m : Module) (text : List ℕ) → takes_text s ≡ true → FitsText text → length m.texts < 65535
    → Leads classes (text_line text) (outside s m) (outside stage.Texts (record m { texts = m.texts ++ text ∷ [] })) 0
unfolding text_line
text_line_leads classes s m text t f lt = one_line classes (codes "text") (quoted text ∷ []) (outside s m) _ (text_turns classes s m text t f lt) _
    (says_text_line text) refl refl

texts_lead : (classes : ℕ) (s : Stage) (m : Module) (ts : List (List ℕ)) → takes_text s ≡ true → AllByRecursion FitsText ts
    → length m.texts + length ts < 2 ^ 16 → LeadsOn classes (flat_map text_line ts) s m (record m { texts = m.texts ++ ts }) takes_func
texts_lead classes s m [] t h lt = on_to classes [] s m m _ takes_func (nothing_on classes s m takes_func (func_after_text s t))
    (ap (λ (xs : List (List ℕ)). record m { texts = xs }) (sym (append-nil m.texts)))
texts_lead classes s m (x ∷ xs) t h lt =
    let more : Module = record m { texts = m.texts ++ x ∷ [] } in
    on_to classes (text_line x ++ flat_map text_line xs) s m (record more { texts = more.texts ++ xs }) _ takes_func
    (then_on classes (text_line x) (flat_map text_line xs) s stage.Texts m more (record more { texts = more.texts ++ xs }) takes_func
    (text_line_leads classes s m x t h.0 (omega arith)) (texts_lead classes stage.Texts more xs refl h.1
    (omega (arith, length-append m.texts (x ∷ [])))))
    (ap (λ (ys : List (List ℕ)). record m { texts = ys }) (append_assoc m.texts (x ∷ []) xs))

-- ---- functions

instruction_line_leads : (classes : ℕ) (m : Module) (f : Function) (i : Instr) → IsInstrOf m.version i → length f.code < 4096
    → Leads classes (instruction_line i) (inside m f) (inside m (record f { code = f.code ++ i ∷ [] })) 0
unfolding instruction_line
instruction_line_leads classes m f i b lt = one_line classes (name_of i.op) (operand_words i) (inside m f) _ (instruction_turns classes m f i b lt) _
    (statement_first (name_of i.op) (operand_words i) (statement.Instruction i.op) (name_is_word i.op) (operands_are_words i b.spelled)
    (said_name i.op)) refl refl

code_leads : (classes : ℕ) (m : Module) (f : Function) (is : List Instr) → AllByRecursion (IsInstrOf m.version) is → length f.code + length is ≤ 4096
    → Leads classes (flat_map instruction_line is) (inside m f) (inside m (record f { code = f.code ++ is })) 0
code_leads classes m f [] h le = leads_to classes [] _ _ _ 0 0 (nothing_leads classes (inside m f))
    (ap (λ (xs : List Instr). inside m (record f { code = xs })) (sym (append-nil f.code))) refl
code_leads classes m f (i ∷ is) h le =
    let more : Function = record f { code = f.code ++ i ∷ [] } in
    leads_to classes (instruction_line i ++ flat_map instruction_line is) _ _ _ (0 + 0) 0
    (then_leads classes (instruction_line i) (flat_map instruction_line is) (inside m f) (inside m more)
    (inside m (record more { code = more.code ++ is })) 0 0
    (instruction_line_leads classes m f i h.0 (omega arith)) (code_leads classes m more is h.1 (omega (arith, length-append f.code (i ∷ [])))))
    (ap (λ (xs : List Instr). inside m (record f { code = xs })) (append_assoc f.code (i ∷ []) is)) (omega arith)

func_line_leads : (classes : ℕ) (s : Stage) (m : Module) (f : Function) → takes_func s ≡ true → classes < 2 ^ 16 → FitsFunction m.version classes f
    → length m.functions < 256 → Leads classes (func_line f.registers f.loops f.result f.parameters) (outside s m) (inside m (begun f)) 0
unfolding func_line
func_line_leads classes s m f t few h lt = one_line classes (codes "func") (func_words f) (outside s m) _ (func_turns classes s m f t few h lt) _
    (statement_first (codes "func") (func_words f) statement.Func func_word (func_are_words m.version classes f few h) says_func) refl refl

end_line_leads : (classes : ℕ) (m : Module) (f : Function) → 0 < length f.code
    → Leads classes end_line (inside m f) (outside stage.Functions (record m { functions = m.functions ++ f ∷ [] })) 0
unfolding end_line
end_line_leads classes m f lt = one_line classes (codes "end") [] (inside m f) _ (end_turns classes m f lt) _
    (statement_first (codes "end") [] statement.End end_word tt says_end) refl refl

function_leads : (classes : ℕ) (s : Stage) (m : Module) (f : Function) → takes_func s ≡ true → classes < 2 ^ 16 → FitsFunction m.version classes f
    → length m.functions < 256 → Leads classes (function_lines f) (outside s m)
    (outside stage.Functions (record m { functions = m.functions ++ f ∷ [] })) 0
unfolding function_lines
function_leads classes s m f t few h lt =
    leads_to classes _ _ _ _ (0 + (0 + 0)) 0
    (then_leads classes (func_line f.registers f.loops f.result f.parameters) (flat_map instruction_line f.code ++ end_line) (outside s m)
    (inside m (begun f)) _ 0 (0 + 0)
    (func_line_leads classes s m f t few h lt)
    (then_leads classes (flat_map instruction_line f.code) end_line (inside m (begun f)) (inside m f) _ 0 0
    (code_leads classes m (begun f) f.code h.code (omega (arith, h.length.1)))
    (end_line_leads classes m f (omega (arith, h.length.0)))))
    refl (omega arith)

functions_lead : (classes : ℕ) (s : Stage) (m : Module) (fs : List Function) → takes_func s ≡ true → classes < 2 ^ 16
    → AllByRecursion (FitsFunction m.version classes) fs → length m.functions + length fs ≤ 256
    → LeadsOn classes (flat_map function_lines fs) s m (record m { functions = m.functions ++ fs }) takes_func
functions_lead classes s m [] t few h le = on_to classes [] s m m _ takes_func (nothing_on classes s m takes_func t)
    (ap (λ (xs : List Function). record m { functions = xs }) (sym (append-nil m.functions)))
functions_lead classes s m (f ∷ fs) t few h le =
    let more : Module = record m { functions = m.functions ++ f ∷ [] } in
    on_to classes (function_lines f ++ flat_map function_lines fs) s m (record more { functions = more.functions ++ fs }) _ takes_func
    (then_on classes (function_lines f) (flat_map function_lines fs) s stage.Functions m more
    (record more { functions = more.functions ++ fs }) takes_func (function_leads classes s m f t few h.0 (omega arith))
    (functions_lead classes stage.Functions more fs refl few h.1 (omega (arith, length-append m.functions (f ∷ [])))))
    (ap (λ (xs : List Function). record m { functions = xs }) (append_assoc m.functions (f ∷ []) fs))

-- ---- the whole

abbrev pub HasEntry : List Function → ℕ → Type 0
HasEntry functions n = (f : Function) × (slice_get functions n ≡ Some f) × IsEntry f

abbrev nothing_in : ImageVersion → Module
nothing_in v = record { version = v; least_places = 0; classes = []; ints = []; texts = []; functions = []; entry = 0 }

version_leads : (classes : ℕ) (v : ImageVersion) → Leads classes (version_lines v) nothing_read (outside stage.Start (nothing_in v)) 0
unfolding version_lines
version_leads classes One = nothing_leads classes nothing_read
version_leads classes Two = one_line classes (codes "version") (decimal 2 ∷ []) nothing_read _ (version_turns classes (nothing_in One) refl) _
    (statement_first (codes "version") (decimal 2 ∷ []) statement.Version version_word (decimal_word 2 (omega arith), tt) says_version) refl refl

places_line_leads : (classes n : ℕ) (m : Module) → 1 ≤ n → n ≤ 64
    → Leads classes (places_line n) (outside stage.Start m) (outside stage.Classes (record m { least_places = n })) 0
unfolding places_line
places_line_leads classes n m low high = one_line classes (codes "places") (decimal n ∷ []) (outside stage.Start m) _
    (places_turns classes n m low high) _ (statement_first (codes "places") (decimal n ∷ []) statement.Places places_word
    (decimal_word n (omega arith), tt) says_places) refl refl

pub entry_line_leads : (classes : ℕ) (s : Stage) (m : Module) (n : ℕ) → takes_func s ≡ true → n < 2 ^ 16 → 0 < length m.functions
    → HasEntry m.functions n → Leads classes (entry_line n) (outside s m) (outside stage.Finished (record m { entry = n })) 0
unfolding entry_line
entry_line_leads classes s m n t small some e = one_line classes (codes "entry") (decimal n ∷ []) (outside s m) _
    (entry_turns classes s m n e.0 t small some e.1 e.2) _ (statement_first (codes "entry") (decimal n ∷ []) statement.Entry entry_word
    (decimal_word n (omega arith), tt) says_entry) refl refl

-- a listing that leads from nothing to the module reads as that module
read_whole : (m : Module) (text : List ℕ) (count : ℕ) → count ≡ length m.classes
    → Leads (length m.classes) text nothing_read (outside stage.Finished m) count → module_of text ≡ Ok m
unfolding module_of
read_whole m text count e h =
    let whole : lines (text ++ []) ≡ lines text = ap lines (append-nil text) in
    let turn = h.reads 1 [] [] in
    let counted : classes_in (lines text) ≡ length m.classes =
    ap classes_in (sym whole) ∙ h.counts [] ∙ ap (λ (n : ℕ). count + n) (ap classes_in no_lines ∙ no_classes) ∙ omega (arith, e) in
    ap (λ (n : ℕ). read_from n nothing_read 1 (lines text)) counted
    ∙ ap (read_from (length m.classes) nothing_read 1) (sym whole)
    ∙ turn.is
    ∙ ap (read_from (length m.classes) (labelled (outside stage.Finished m) turn.kept) turn.next) no_lines
    ∙ stop (length m.classes) (labelled (outside stage.Finished m) turn.kept) turn.next

entry_small : (functions : List Function) (n : ℕ) → HasEntry functions n → length functions ≤ 256 → n < 2 ^ 16
entry_small functions n e le = omega (arith, slice_get_within functions n e.0 e.1)

-- the listing leads from nothing to the module, over the lines of all its classes
listing_leads : (m : Module) → FitsImage m → Leads (length m.classes) (listing m) nothing_read (outside stage.Finished m) (length m.classes)
unfolding listing
listing_leads m f =
    let classes : ℕ = length m.classes in
    let empty : Module = record {
      version = m.version;
      least_places = m.least_places;
      classes = [];
      ints = [];
      texts = [];
      functions = [];
      entry = 0;
    } in
    let first : Module = nothing_in m.version in
    let with_classes : Module = record empty { classes = m.classes } in
    let with_ints : Module = record with_classes { ints = m.ints } in
    let with_texts : Module = record with_ints { texts = m.texts } in
    let with_functions : Module = record with_texts { functions = m.functions } in
    let ints = ints_lead classes stage.Classes with_classes m.ints refl f.ints.1 (omega (arith, f.ints.0)) in
    let texts = texts_lead classes ints.after with_ints m.texts ints.taken f.texts.1 (omega (arith, f.texts.0)) in
    let functions = functions_lead classes texts.after with_texts m.functions texts.taken f.classes f.functions.2 (omega (arith, f.functions.1)) in
    let entry = entry_line_leads classes functions.after with_functions m.entry functions.taken
    (entry_small m.functions m.entry f.entry f.functions.1) (omega (arith, f.functions.0)) f.entry in
    leads_to classes _ _ _ _ (0 + (0 + (classes + (0 + (0 + (0 + 0)))))) classes
    (then_leads classes (version_lines m.version) _ nothing_read (outside stage.Start first) (outside stage.Finished m) 0
    (0 + (classes + (0 + (0 + (0 + 0))))) (version_leads classes m.version)
    (then_leads classes (places_line m.least_places) _ (outside stage.Start first) (outside stage.Classes empty) (outside stage.Finished m) 0
    (classes + (0 + (0 + (0 + 0)))) (places_line_leads classes m.least_places first f.least_places.0 f.least_places.1)
    (then_leads classes (flat_map class_line m.classes) _ (outside stage.Classes empty) (outside stage.Classes with_classes)
    (outside stage.Finished m) classes (0 + (0 + (0 + 0))) (classes_lead classes empty m.classes f.classes f.fields (omega (arith, f.classes)))
    (then_leads classes (flat_map int_line m.ints) _ (outside stage.Classes with_classes) (outside ints.after with_ints) (outside stage.Finished m) 0
    (0 + (0 + 0)) ints.leads
    (then_leads classes (flat_map text_line m.texts) _ (outside ints.after with_ints) (outside texts.after with_texts) (outside stage.Finished m) 0
    (0 + 0) texts.leads
    (then_leads classes (flat_map function_lines m.functions) (entry_line m.entry) (outside texts.after with_texts)
    (outside functions.after with_functions) (outside stage.Finished m) 0 0 functions.leads entry))))))
    refl (omega arith)

pub read_again : (m : Module) → FitsImage m → module_of (listing m) ≡ Ok m
read_again m f = read_whole m (listing m) (length m.classes) refl (listing_leads m f)

-- a text that says what the listing says
commented_by : (m : Module) (text plain : List ℕ) → Leads (length m.classes) plain nothing_read (outside stage.Finished m) (length m.classes)
    → said text ≡ said plain → module_of text ≡ Ok m
unfolding module_of
commented_by m text plain h e =
    let whole : lines (plain ++ []) ≡ lines plain = ap lines (append-nil plain) in
    let bodies : lines plain ≡ h.bodies = sym whole ∙ h.are [] ∙ ap (λ (x : List (List ℕ)). h.bodies ++ x) no_lines ∙ append-nil h.bodies in
    let are : said text ≡ h.bodies = e ∙ ap (filter says_something) bodies
    ∙ all_said (length m.classes) h.bodies nothing_read (outside stage.Finished m) h.goes in
    let turn = reached (length m.classes) (lines text) h.bodies nothing_read (outside stage.Finished m) h.goes are 1 [] in
    let counted : classes_in (lines text) ≡ length m.classes =
    said_classes (lines text) ∙ ap classes_in e ∙ sym (said_classes (lines plain)) ∙ ap classes_in (sym whole) ∙ h.counts []
    ∙ ap (λ (n : ℕ). length m.classes + n) (ap classes_in no_lines ∙ no_classes) ∙ omega arith in
    ap (λ (n : ℕ). read_from n nothing_read 1 (lines text)) counted
    ∙ turn.is
    ∙ stop (length m.classes) (labelled (outside stage.Finished m) turn.kept) turn.next

pub read_commented : (m : Module) (text : List ℕ) → FitsImage m → said text ≡ said (listing m) → module_of text ≡ Ok m
read_commented m text f e = commented_by m text (listing m) (listing_leads m f) e
