-- Lines taken in: what the program keeps goes on standing for what the definition keeps.
use Rattle.std.proofs.Common.{◌≡◌, ℕ, ℤ, List, [], ◌∷◌, ◌++◌, length, map, Result, Ok, Err, sym, ap, subst, ◌∙◌, Bool, true, false}
use Rattle.std.specs.Prelude.{if◌then◌else◌}
use Rattle.x10_kinds.specs.declared.kind.Kind.{Kind}
use Rattle.x10_code.specs.declared.instr.Instr.{Instr}
use Rattle.x10_model.specs.declared.version.ImageVersion.TheVariants.{Two}
use Rattle.x10_model.specs.Modules.{Function, Module, is_known}
use Rattle.x10_image.specs.Written.{shown, function_shown}
use Rattle.x10_asm.specs.declared.fault.AsmCause.{AsmCause}
use Rattle.x10_asm.specs.declared.fault.AsmCause.TheVariants as cause
use Rattle.x10_asm.specs.declared.source.Source.{Source}
use Rattle.x10_asm.specs.declared.stage.Stage.{Stage}
use Rattle.x10_asm.specs.declared.stage.Stage.TheVariants as stage
use Rattle.x10_asm.specs.Labels.{Label}
use Rattle.x10_asm.specs.Tables.{IsTable}
use Rattle.x10_asm.specs.Reading as reading
use Rattle.x10_asm.specs.Reading.{with_version, with_places, with_class, with_int, with_text, with_func, with_instruction, with_end, with_entry, instruction_line_of, no_function, version_of, places_of, class_of, int_line_of, text_of, func_of, end_of, entry_of, is_inside, after_line, after_statement}
use Rattle.x10_asm.specs.Operands.{instruction_of}
use Rattle.x10_code.specs.declared.op.Op.{Op}
use Rattle.std.specs.String.{string_bytes}
use Rattle.std.proofs.lemmas.List.{length-map, map-append}
use Rattle.x10_asm.specs.declared.statement.Statement.{Statement}
use Rattle.x10_asm.specs.Lines.{words}
use Rattle.x10_asm.specs.Statements.{statement_in}
use Rattle.x10_asm.specs.Sources.{StandsFor}

-- what the definition keeps, with labels of its own
abbrev pub kept_of : Source → List Label → reading.Source
kept_of kept labels = record { stage = kept.stage; so_far = shown kept.so_far; function = function_shown kept.function; labels = labels }

pub as_kept : (P : reading.Source → Type 0) (kept : Source) (s : reading.Source) → StandsFor kept s → P (kept_of kept s.labels) → P s
as_kept P kept s f p =
    subst (λ (t : Stage). P (record { stage = t; so_far = s.so_far; function = s.function; labels = s.labels })) f.stage_is
    (subst (λ (t : Module). P (record { stage = kept.stage; so_far = t; function = s.function; labels = s.labels })) f.module_is
    (subst (λ (t : Function). P (record { stage = kept.stage; so_far = shown kept.so_far; function = t; labels = s.labels })) f.function_is p))

-- a line was taken in
abbrev pub IsTaken : Source → Result reading.Source AsmCause → Type 0
IsTaken new read = (s : reading.Source) × (read ≡ Ok s) × StandsFor new s

pub took_version : (kept new : Source) (s : reading.Source) (ws : List (List ℕ)) (u : Unit {0}) → StandsFor kept s
    → Ok u ≡ version_of kept.stage kept.so_far.version ws
    → new.stage ≡ kept.stage → shown new.so_far ≡ record (shown kept.so_far) { version = Two }
    → function_shown new.function ≡ function_shown kept.function → ((ls : List Label) → IsTable kept.labels ls → IsTable new.labels ls)
    → IsTaken new (with_version s (version_of s.stage s.so_far.version ws))
took_version kept new s ws u f r es em ef t =
    as_kept (λ (k : reading.Source). IsTaken new (with_version k (version_of k.stage k.so_far.version ws))) kept s f (
      _,
      ap (with_version (kept_of kept s.labels)) (sym r),
      record {
        stage_is = es;
        module_is = em;
        function_is = ef;
        table_is = t s.labels f.table_is;
      },
    )

pub took_places : (kept new : Source) (s : reading.Source) (ws : List (List ℕ)) (n : ℕ) → StandsFor kept s → Ok n ≡ places_of kept.stage ws
    → new.stage ≡ stage.Classes → shown new.so_far ≡ record (shown kept.so_far) { least_places = n }
    → function_shown new.function ≡ function_shown kept.function → ((ls : List Label) → IsTable kept.labels ls → IsTable new.labels ls)
    → IsTaken new (with_places s (places_of s.stage ws))
took_places kept new s ws n f r es em ef t =
    as_kept (λ (k : reading.Source). IsTaken new (with_places k (places_of k.stage ws))) kept s f (
      _,
      ap (with_places (kept_of kept s.labels)) (sym r),
      record {
        stage_is = es;
        module_is = em;
        function_is = ef;
        table_is = t s.labels f.table_is;
      },
    )

pub took_class : (kept new : Source) (s : reading.Source) (ws : List (List ℕ)) (classes before : ℕ) (fields : List Kind) → StandsFor kept s
    → before ≡ length kept.so_far.classes.items → class_of kept.stage classes before ws ≡ Ok fields
    → new.stage ≡ kept.stage → shown new.so_far ≡ record (shown kept.so_far) { classes = map (λ c. c.items) kept.so_far.classes.items ++ fields ∷ [] }
    → function_shown new.function ≡ function_shown kept.function → ((ls : List Label) → IsTable kept.labels ls → IsTable new.labels ls)
    → IsTaken new (with_class s (class_of s.stage classes (length s.so_far.classes) ws))
took_class kept new s ws classes before fields f be r es em ef t =
    as_kept (λ (k : reading.Source). IsTaken new (with_class k (class_of k.stage classes (length k.so_far.classes) ws))) kept s f (
      _,
      ap (λ (n : ℕ). with_class (kept_of kept s.labels) (class_of kept.stage classes n ws))
          (length-map kept.so_far.classes.items (λ c. c.items) ∙ sym be) ∙ ap (with_class (kept_of kept s.labels)) r,
      record { stage_is = es; module_is = em; function_is = ef; table_is = t s.labels f.table_is },
    )

pub took_int : (kept new : Source) (s : reading.Source) (ws : List (List ℕ)) (before : ℕ) (z : ℤ) → StandsFor kept s
    → before ≡ length kept.so_far.ints.items → Ok z ≡ int_line_of kept.stage before ws
    → new.stage ≡ stage.Ints → shown new.so_far ≡ record (shown kept.so_far) { ints = kept.so_far.ints.items ++ z ∷ [] }
    → function_shown new.function ≡ function_shown kept.function → ((ls : List Label) → IsTable kept.labels ls → IsTable new.labels ls)
    → IsTaken new (with_int s (int_line_of s.stage (length s.so_far.ints) ws))
took_int kept new s ws before z f be r es em ef t =
    as_kept (λ (k : reading.Source). IsTaken new (with_int k (int_line_of k.stage (length k.so_far.ints) ws))) kept s f (
      _,
      ap (λ (n : ℕ). with_int (kept_of kept s.labels) (int_line_of kept.stage n ws)) (sym be) ∙ ap (with_int (kept_of kept s.labels)) (sym r),
      record { stage_is = es; module_is = em; function_is = ef; table_is = t s.labels f.table_is },
    )

pub took_text : (kept new : Source) (s : reading.Source) (rest : List ℕ) (before : ℕ) (text : List ℕ) → StandsFor kept s
    → before ≡ length kept.so_far.texts.items → text_of kept.stage before rest ≡ Ok text
    → new.stage ≡ stage.Texts → shown new.so_far ≡ record (shown kept.so_far) { texts = map string_bytes kept.so_far.texts.items ++ text ∷ [] }
    → function_shown new.function ≡ function_shown kept.function → ((ls : List Label) → IsTable kept.labels ls → IsTable new.labels ls)
    → IsTaken new (with_text s (text_of s.stage (length s.so_far.texts) rest))
took_text kept new s rest before text f be r es em ef t =
    as_kept (λ (k : reading.Source). IsTaken new (with_text k (text_of k.stage (length k.so_far.texts) rest))) kept s f (
      _,
      ap (λ (n : ℕ). with_text (kept_of kept s.labels) (text_of kept.stage n rest)) (length-map kept.so_far.texts.items string_bytes ∙ sym be)
          ∙ ap (with_text (kept_of kept s.labels)) r,
      record { stage_is = es; module_is = em; function_is = ef; table_is = t s.labels f.table_is },
    )

pub took_func : (kept new : Source) (s : reading.Source) (ws : List (List ℕ)) (classes before : ℕ) (g : Function) (labels : List Label)
    → StandsFor kept s → before ≡ length kept.so_far.functions.items → func_of kept.stage classes before ws ≡ Ok g
    → new.stage ≡ stage.Inside → shown new.so_far ≡ shown kept.so_far → function_shown new.function ≡ g → IsTable new.labels labels
    → IsTaken new (with_func s labels (func_of s.stage classes (length s.so_far.functions) ws))
took_func kept new s ws classes before g labels f be r es em ef t =
    as_kept (λ (k : reading.Source). IsTaken new (with_func k labels (func_of k.stage classes (length k.so_far.functions) ws))) kept s f (
      _,
      ap (λ (n : ℕ). with_func (kept_of kept s.labels) labels (func_of kept.stage classes n ws))
          (length-map kept.so_far.functions.items function_shown ∙ sym be) ∙ ap (with_func (kept_of kept s.labels) labels) r,
      record { stage_is = es; module_is = em; function_is = ef; table_is = t },
    )

-- a line whose operation is known, and one whose operation isn't
pub known_line : (s : reading.Source) (op : Op) (ws : List (List ℕ)) → is_known s.so_far.version op ≡ true
    → instruction_line_of s op ws ≡ with_instruction s (instruction_of s.labels (is_inside s.stage) (length s.function.code) op ws)
known_line s op ws known = ap (λ (b : Bool). if b then with_instruction s
    (instruction_of s.labels (is_inside s.stage) (length s.function.code) op ws) else Err cause.Word) known

pub unknown_line : (s : reading.Source) (op : Op) (ws : List (List ℕ)) → is_known s.so_far.version op ≡ false
    → instruction_line_of s op ws ≡ Err cause.Word
unknown_line s op ws unknown = ap (λ (b : Bool). if b then with_instruction s
    (instruction_of s.labels (is_inside s.stage) (length s.function.code) op ws) else Err cause.Word) unknown

-- the program asks what the definition asks
pub asked_alike : (kept : Source) (s : reading.Source) (op : Op) (b : Bool) → StandsFor kept s → is_known kept.so_far.version op ≡ b
    → is_known s.so_far.version op ≡ b
asked_alike kept s op b f e = as_kept (λ (k : reading.Source). is_known k.so_far.version op ≡ b) kept s f e

pub took_instruction : (kept new : Source) (s : reading.Source) (ws : List (List ℕ)) (op : Op) (inside : Bool) (before : ℕ) (i : Instr)
    → StandsFor kept s → before ≡ length kept.function.code.items → inside ≡ is_inside kept.stage
    → is_known kept.so_far.version op ≡ true → ((ls : List Label) → IsTable kept.labels ls → Ok i ≡ instruction_of ls inside before op ws)
    → new.stage ≡ kept.stage → shown new.so_far ≡ shown kept.so_far
    → function_shown new.function ≡ record (function_shown kept.function) { code = kept.function.code.items ++ i ∷ [] }
    → ((ls : List Label) → IsTable kept.labels ls → IsTable new.labels ls)
    → IsTaken new (instruction_line_of s op ws)
took_instruction kept new s ws op inside before i f be bi known r es em ef t =
    as_kept (λ (k : reading.Source). IsTaken new (instruction_line_of k op ws)) kept s f (
      _,
      known_line (kept_of kept s.labels) op ws known ∙ ap (λ (n : ℕ).
          with_instruction (kept_of kept s.labels) (instruction_of s.labels (is_inside kept.stage) n op ws)) (sym be)
          ∙ ap (λ (b : Bool). with_instruction (kept_of kept s.labels) (instruction_of s.labels b before op ws)) (sym bi)
          ∙ ap (with_instruction (kept_of kept s.labels)) (sym (r s.labels f.table_is)),
      record { stage_is = es; module_is = em; function_is = ef; table_is = t s.labels f.table_is },
    )

pub took_end : (kept new : Source) (s : reading.Source) (ws : List (List ℕ)) (before : ℕ) (u : Unit {0}) → StandsFor kept s
    → before ≡ length kept.function.code.items → Ok u ≡ end_of kept.stage before ws
    → new.stage ≡ stage.Functions → shown new.so_far ≡ record (shown kept.so_far)
    { functions = map function_shown kept.so_far.functions.items ++ function_shown kept.function ∷ [] }
    → function_shown new.function ≡ no_function → IsTable new.labels []
    → IsTaken new (with_end s (end_of s.stage (length s.function.code) ws))
took_end kept new s ws before u f be r es em ef t =
    as_kept (λ (k : reading.Source). IsTaken new (with_end k (end_of k.stage (length k.function.code) ws))) kept s f (
      _,
      ap (λ (n : ℕ). with_end (kept_of kept s.labels) (end_of kept.stage n ws)) (sym be) ∙ ap (with_end (kept_of kept s.labels)) (sym r),
      record { stage_is = es; module_is = em; function_is = ef; table_is = t },
    )

pub took_entry : (kept new : Source) (s : reading.Source) (ws : List (List ℕ)) (n : ℕ) → StandsFor kept s
    → Ok n ≡ entry_of kept.stage (map function_shown kept.so_far.functions.items) ws
    → new.stage ≡ stage.Finished → shown new.so_far ≡ record (shown kept.so_far) { entry = n }
    → function_shown new.function ≡ function_shown kept.function → ((ls : List Label) → IsTable kept.labels ls → IsTable new.labels ls)
    → IsTaken new (with_entry s (entry_of s.stage s.so_far.functions ws))
took_entry kept new s ws n f r es em ef t =
    as_kept (λ (k : reading.Source). IsTaken new (with_entry k (entry_of k.stage k.so_far.functions ws))) kept s f
    (_, ap (with_entry (kept_of kept s.labels)) (sym r), record { stage_is = es; module_is = em; function_is = ef; table_is = t s.labels f.table_is })

-- a list with one more item, shown item by item
pub map-push : {A B : Type 0} (g : A → B) (new old : List A) (x : A) → new ≡ old ++ x ∷ [] → map g new ≡ map g old ++ g x ∷ []
map-push g new old x e = ap (map g) e ∙ map-append g old (x ∷ [])

-- ---- what a line says decides

pub line_gives : (classes : ℕ) (s : reading.Source) (line : ℕ) (text : List ℕ) (others : List (List ℕ)) (said_here : Statement)
    → said_here ≡ statement_in (words text) → (wanted : Statement) → said_here ≡ wanted
    → after_line classes s line text others ≡ after_statement classes s line text (words text) others wanted
unfolding after_line
line_gives classes s line text others here e wanted w = ap (after_statement classes s line text (words text) others) (sym e ∙ w)
