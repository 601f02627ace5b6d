-- A module that a text spells is in the ranges of an image.
use Rattle.std.proofs.Common.{◌≡◌, ℕ, ℤ, suc, ◌+◌, ◌<◌, ◌≤◌, ◌^◌, Bool, true, false, is_none, eqb, eqb-true, List, [], ◌∷◌, ◌++◌, length, Option, Some, None, IfSome, Result, Ok, Err, FitsSigned, refl, sym, ap, subst, ◌∙◌, arith, slice_get}
use Rattle.std.specs.Prelude.{if◌then◌else◌}
use Rattle.std.specs.List.{AllByRecursion}
use Rattle.std.specs.Int.{w64}
use Rattle.std.proofs.lemmas.Bool.{and_parts}
use Rattle.x10_kinds.specs.declared.kind.Kind.{Kind}
use Rattle.x10_code.specs.declared.instr.Instr.{Instr}
use Rattle.x10_model.specs.declared.slot.Slot.{Slot}
use Rattle.x10_code.specs.declared.op.Op.{Op}
use Rattle.x10_model.specs.declared.version.ImageVersion.{ImageVersion}
use Rattle.x10_model.specs.declared.version.ImageVersion.TheVariants.{Two}
use Rattle.x10_model.specs.Modules.{Function, Module, FitsClass, FitsText, is_known, IsInstrOf, FitsFunction, FitsImage, IsEntry}
use Rattle.x10_model.specs.ReadingImages.{is_entry}
use Rattle.x10_asm.specs.declared.fault.AsmCause.{AsmCause}
use Rattle.x10_asm.specs.declared.fault.AsmCause.TheVariants as cause
use Rattle.x10_asm.specs.declared.fault.AsmFault.{AsmFault}
use Rattle.x10_asm.specs.declared.stage.Stage.TheVariants as stage
use Rattle.x10_asm.specs.declared.statement.Statement.{Statement}
use Rattle.x10_asm.specs.declared.statement.Statement.TheVariants as statement
use Rattle.x10_asm.specs.Lines.{lines, words, after_word}
use Rattle.x10_asm.specs.Labels.{Label}
use Rattle.x10_asm.specs.LabelLines.{labels_from}
use Rattle.x10_asm.specs.Statements.{statement_in, first_word, other_words}
use Rattle.x10_asm.specs.Reading.{is_start, is_inside, is_finished, version_of, places_of, class_of, int_line_of, text_of, func_of, end_of, entry_of, label_at, Source, no_function, after_statement, after_line, ended, go_on, read_from, is_class, classes_in, nothing_read, module_of}
use Rattle.x10_asm.specs.LawsOfTexts.{SpelledFits}
use Rattle.x10_asm.proofs.InRanges.{same_ok, all_end, IsLow, labels_low, FitsNext, instruction_fits}
use Rattle.x10_asm.proofs.TextLines.{no_classes, class_counted, other_passed, step, stop}
use Rattle.x10_asm.proofs.FittingLines.{IsOpen, not_true, int_begun, text_begun, func_begun, inside_begun, begun, one_more, small_places, not_both, version_starts, TakesClass, class_fits, TakesInt, int_taken, TakesText, text_taken, TakesFunction, func_taken, TakesEnd, end_taken, TakesEntry, entry_taken}

-- the lists that were read so far are in the ranges
pub record FitsLists (version : ImageVersion) (classes : ℕ) (cs : List (List Kind)) (ints : List ℤ) (texts : List (List ℕ))
    (functions : List Function) : Type 0 where
  of_classes : (length cs < 2 ^ 16) × AllByRecursion (FitsClass classes) cs
  of_ints : (length ints < 2 ^ 16) × AllByRecursion (FitsSigned w64) ints
  of_texts : (length texts < 2 ^ 16) × AllByRecursion FitsText texts
  of_functions : (length functions ≤ 256) × AllByRecursion (FitsFunction version classes) functions

-- what was read so far is in the ranges
pub record IsFitting (classes : ℕ) (s : Source) : Type 0 where
  least : is_start s.stage ≡ false → (1 ≤ s.so_far.least_places) × (s.so_far.least_places ≤ 64)
  lists : FitsLists s.so_far.version classes s.so_far.classes s.so_far.ints s.so_far.texts s.so_far.functions
  inside : is_inside s.stage ≡ true → IsOpen s.so_far.version classes s.function × (length s.so_far.functions < 256)
  none : is_start s.stage ≡ true → s.so_far.functions ≡ []
  labels : AllByRecursion IsLow s.labels
  entry : is_finished s.stage ≡ true → (1 ≤ length s.so_far.functions) × (is_entry (slice_get s.so_far.functions s.so_far.entry) ≡ true)

-- ---- after a statement

-- what is kept is in the ranges, and so many classes were read
record Follows (classes count : ℕ) (t : Source) : Type 0 where
  fitting : IsFitting classes t
  counted : length t.so_far.classes ≡ count

-- one case for each statement: what was read by it, and the state that it leads to
after_version : (classes : ℕ) (s : Source) → IsFitting classes s → is_start s.stage ≡ true
    → Follows classes (length s.so_far.classes) (record s { so_far = record s.so_far { version = Two } })
after_version classes s h start = record {
  fitting = record {
    least = h.least;
    lists = record {
      of_classes = h.lists.of_classes;
      of_ints = h.lists.of_ints;
      of_texts = h.lists.of_texts;
      of_functions = (h.lists.of_functions.0, rw (h.none start) tt);
    };
    inside = λ e. absurd (not_both (is_start s.stage) start (inside_begun s.stage e));
    none = h.none;
    labels = h.labels;
    entry = h.entry;
  };
  counted = refl;
}

after_places : (classes : ℕ) (s : Source) (n : ℕ) → IsFitting classes s → (1 ≤ n) × (n ≤ 64)
    → Follows classes (length s.so_far.classes) (record s { stage = stage.Classes; so_far = record s.so_far { least_places = n } })
after_places classes s n h fits = record {
  fitting = record {
    least = λ e. fits;
    lists = h.lists;
    inside = λ e. not_true e;
    none = λ e. not_true e;
    labels = h.labels;
    entry = λ e. not_true e;
  };
  counted = refl;
}

after_class : (classes : ℕ) (s : Source) (fields : List Kind) → IsFitting classes s → TakesClass s.stage classes (length s.so_far.classes) fields
    → Follows classes (suc (length s.so_far.classes)) (record s { so_far = record s.so_far { classes = s.so_far.classes ++ fields ∷ [] } })
after_class classes s fields h t = record {
  fitting = record {
    least = h.least;
    lists = record {
      of_classes = (
        omega (arith, one_more s.so_far.classes fields, t.room),
        all_end (FitsClass classes) s.so_far.classes fields h.lists.of_classes.1 t.fits,
      );
      of_ints = h.lists.of_ints;
      of_texts = h.lists.of_texts;
      of_functions = h.lists.of_functions;
    };
    inside = h.inside;
    none = h.none;
    labels = h.labels;
    entry = h.entry;
  };
  counted = one_more s.so_far.classes fields;
}

after_int : (classes : ℕ) (s : Source) (z : ℤ) → IsFitting classes s → TakesInt s.stage (length s.so_far.ints) z
    → Follows classes (length s.so_far.classes) (record s { stage = stage.Ints; so_far = record s.so_far { ints = s.so_far.ints ++ z ∷ [] } })
after_int classes s z h t = record {
  fitting = record {
    least = λ e. h.least (int_begun s.stage t.stage_is);
    lists = record {
      of_classes = h.lists.of_classes;
      of_ints = (omega (arith, one_more s.so_far.ints z, t.room), all_end (FitsSigned w64) s.so_far.ints z h.lists.of_ints.1 t.fits);
      of_texts = h.lists.of_texts;
      of_functions = h.lists.of_functions;
    };
    inside = λ e. not_true e;
    none = λ e. not_true e;
    labels = h.labels;
    entry = λ e. not_true e;
  };
  counted = refl;
}

after_text : (classes : ℕ) (s : Source) (text : List ℕ) → IsFitting classes s → TakesText s.stage (length s.so_far.texts) text
    → Follows classes (length s.so_far.classes) (record s { stage = stage.Texts; so_far = record s.so_far { texts = s.so_far.texts ++ text ∷ [] } })
after_text classes s text h t = record {
  fitting = record {
    least = λ e. h.least (text_begun s.stage t.stage_is);
    lists = record {
      of_classes = h.lists.of_classes;
      of_ints = h.lists.of_ints;
      of_texts = (omega (arith, one_more s.so_far.texts text, t.room), all_end FitsText s.so_far.texts text h.lists.of_texts.1 t.fits);
      of_functions = h.lists.of_functions;
    };
    inside = λ e. not_true e;
    none = λ e. not_true e;
    labels = h.labels;
    entry = λ e. not_true e;
  };
  counted = refl;
}

after_func : (classes : ℕ) (s : Source) (labels : List Label) (f : Function) → IsFitting classes s → AllByRecursion IsLow labels
    → TakesFunction s.so_far.version s.stage classes (length s.so_far.functions) f
    → Follows classes (length s.so_far.classes) (record s { stage = stage.Inside; function = f; labels = labels })
after_func classes s labels f h low t = record {
  fitting = record {
    least = λ e. h.least (func_begun s.stage t.stage_is);
    lists = h.lists;
    inside = λ e. (t.fits, t.room);
    none = λ e. not_true e;
    labels = low;
    entry = λ e. not_true e;
  };
  counted = refl;
}

after_instruction : (classes : ℕ) (s : Source) (o : Op) (i : Instr) → IsFitting classes s → FitsNext (is_inside s.stage) (length s.function.code) o i
    → is_known s.so_far.version o ≡ true
    → Follows classes (length s.so_far.classes) (record s { function = record s.function { code = s.function.code ++ i ∷ [] } })
after_instruction classes s o i h t known =
    let f = (h.inside t.inside).0 in
    record {
      fitting = record {
        least = h.least;
        lists = h.lists;
        inside = λ e. (
          record {
            parameters = f.parameters;
            registers = f.registers;
            room = f.room;
            loops = f.loops;
            slots = f.slots;
            result = f.result;
            few = omega (arith, one_more s.function.code i, t.room);
            code = all_end (IsInstrOf s.so_far.version) s.function.code i f.code
                (record { spelled = t.fits; known = ap (is_known s.so_far.version) t.op ∙ known });
          },
          (h.inside e).1,
        );
        none = h.none;
        labels = h.labels;
        entry = h.entry;
      };
      counted = refl;
    }

after_end : (classes : ℕ) (s : Source) → IsFitting classes s → TakesEnd s.stage (length s.function.code)
    → Follows classes (length s.so_far.classes) (record s {
      stage = stage.Functions;
      so_far = record s.so_far { functions = s.so_far.functions ++ s.function ∷ [] };
      function = no_function;
      labels = [];
    })
after_end classes s h t =
    let inside = h.inside t.stage_is in
    let f = inside.0 in
    record {
      fitting = record {
        least = λ e. h.least (inside_begun s.stage t.stage_is);
        lists = record {
          of_classes = h.lists.of_classes;
          of_ints = h.lists.of_ints;
          of_texts = h.lists.of_texts;
          of_functions = (
            omega (arith, one_more s.so_far.functions s.function, inside.1),
            all_end (FitsFunction s.so_far.version classes) s.so_far.functions s.function h.lists.of_functions.1 (record {
              parameters = f.parameters;
              registers = f.registers;
              room = f.room;
              loops = f.loops;
              slots = f.slots;
              result = f.result;
              length = (omega (arith, t.some), f.few);
              code = f.code;
            }),
          );
        };
        inside = λ e. not_true e;
        none = λ e. not_true e;
        labels = tt;
        entry = λ e. not_true e;
      };
      counted = refl;
    }

after_entry : (classes : ℕ) (s : Source) (n : ℕ) → IsFitting classes s → TakesEntry s.stage s.so_far.functions n
    → Follows classes (length s.so_far.classes) (record s { stage = stage.Finished; so_far = record s.so_far { entry = n } })
after_entry classes s n h t = record {
  fitting = record {
    least = λ e. h.least (func_begun s.stage t.stage_is);
    lists = h.lists;
    inside = λ e. not_true e;
    none = λ e. not_true e;
    labels = h.labels;
    entry = λ e. (omega (arith, t.some), t.entry);
  };
  counted = refl;
}

-- the classes that were read once a statement was taken in
abbrev count_after : Statement → Source → ℕ
count_after st s = if is_class st then suc (length s.so_far.classes) else length s.so_far.classes

at_state : (classes n : ℕ) (s t : Source) → (let r : Result Source AsmCause = Ok s in r) ≡ Ok t → Follows classes n s → Follows classes n t
at_state classes n s t e h = subst (Follows classes n) (same_ok s t e) h

-- what is taken in only where a test holds
pub known_by : (b : Bool) (r : Result Source AsmCause) (t : Source) → (if b then r else Err cause.Word) ≡ Ok t → (b ≡ true) × (r ≡ Ok t)
known_by true r t e = (refl, e)
known_by false r t e = absurd cc

-- what a state that was reached follows from: the value that was read
pub with_ok : {A : Type 0} (make : A → Source) (r : Result A AsmCause) (q : Result Source AsmCause) (t : Source)
    → ((c : AsmCause) → r ≡ Err c → q ≡ Err c) → ((x : A) → r ≡ Ok x → q ≡ Ok (make x)) → q ≡ Ok t
    → (x : A) × (r ≡ Ok x) × ((let w : Result Source AsmCause = Ok (make x) in w) ≡ Ok t)
with_ok make (Ok x) q t h k e = (x, refl, sym (k x refl) ∙ e)
with_ok make (Err c) q t h k e = let f : q ≡ Err c = h c refl in absurd cc

follows : (classes : ℕ) (s : Source) (line : ℕ) (text : List ℕ) (ws others : List (List ℕ)) (st : Statement) (t : Source) → statement_in ws ≡ st
    → IsFitting classes s → after_statement classes s line text ws others st ≡ Ok t → Follows classes (count_after st s) t
follows classes s line text ws others statement.Silent t is h e = at_state classes _ s t e (record { fitting = h; counted = refl })
follows classes s line text ws others statement.Version t is h e =
    let r = version_of s.stage s.so_far.version (other_words ws) in
    let f = with_ok (λ u. record s { so_far = record s.so_far { version = Two } }) r _ t (λ c x. rw x refl) (λ n x. rw x refl) e in
    at_state classes _ _ t f.2 (after_version classes s h (version_starts s.stage s.so_far.version (other_words ws) f.0 f.1).0)
follows classes s line text ws others statement.Places t is h e =
    let r = places_of s.stage (other_words ws) in
    let f = with_ok (λ n. record s { stage = stage.Classes; so_far = record s.so_far { least_places = n } }) r _ t (λ c x. rw x refl)
    (λ n x. rw x refl) e in
    at_state classes _ _ t f.2 (after_places classes s f.0 h (small_places s.stage (other_words ws) f.0 f.1))
follows classes s line text ws others statement.Class t is h e =
    let r = class_of s.stage classes (length s.so_far.classes) (other_words ws) in
    let f = with_ok (λ fields. record s { so_far = record s.so_far { classes = s.so_far.classes ++ fields ∷ [] } }) r _ t (λ c x. rw x refl)
    (λ n x. rw x refl) e in
    at_state classes _ _ t f.2 (after_class classes s f.0 h (class_fits s.stage classes (length s.so_far.classes) (other_words ws) f.0 f.1))
follows classes s line text ws others statement.Int t is h e =
    let r = int_line_of s.stage (length s.so_far.ints) (other_words ws) in
    let f = with_ok (λ z. record s { stage = stage.Ints; so_far = record s.so_far { ints = s.so_far.ints ++ z ∷ [] } }) r _ t (λ c x. rw x refl)
    (λ n x. rw x refl) e in
    at_state classes _ _ t f.2 (after_int classes s f.0 h (int_taken s.stage (length s.so_far.ints) (other_words ws) f.0 f.1))
follows classes s line text ws others statement.Text t is h e =
    let r = text_of s.stage (length s.so_far.texts) (after_word text) in
    let f = with_ok (λ x. record s { stage = stage.Texts; so_far = record s.so_far { texts = s.so_far.texts ++ x ∷ [] } }) r _ t (λ c x. rw x refl)
    (λ n x. rw x refl) e in
    at_state classes _ _ t f.2 (after_text classes s f.0 h (text_taken s.stage (length s.so_far.texts) (after_word text) f.0 f.1))
follows classes s line text ws others statement.Func t is h e =
    let r = func_of s.stage classes (length s.so_far.functions) (other_words ws) in
    let labels = labels_from (suc line) 0 others in
    let f = with_ok (λ g. record s { stage = stage.Inside; function = g; labels = labels }) r _ t (λ c x. rw x refl) (λ n x. rw x refl) e in
    at_state classes _ _ t f.2 (after_func classes s labels f.0 h (labels_low others (suc line) 0 (omega arith))
    (func_taken s.so_far.version s.stage classes (length s.so_far.functions) (other_words ws) f.0 f.1))
follows classes s line text ws others statement.End t is h e =
    let r = end_of s.stage (length s.function.code) (other_words ws) in
    let f = with_ok (λ u. record s {
      stage = stage.Functions;
      so_far = record s.so_far { functions = s.so_far.functions ++ s.function ∷ [] };
      function = no_function;
      labels = [];
    }) r _ t (λ c x. rw x refl) (λ n x. rw x refl) e in
    at_state classes _ _ t f.2 (after_end classes s h (end_taken s.stage (length s.function.code) (other_words ws) f.0 f.1))
follows classes s line text ws others statement.Entry t is h e =
    let r = entry_of s.stage s.so_far.functions (other_words ws) in
    let f = with_ok (λ n. record s { stage = stage.Finished; so_far = record s.so_far { entry = n } }) r _ t (λ c x. rw x refl)
    (λ n x. rw x refl) e in
    at_state classes _ _ t f.2 (after_entry classes s f.0 h (entry_taken s.stage s.so_far.functions (other_words ws) f.0 f.1))
follows classes s line text ws others statement.Label t is h e =
    let r = label_at s.stage s.labels line (first_word ws) (other_words ws) in
    let f = with_ok (λ u. s) r _ t (λ c x. rw x refl) (λ n x. rw x refl) e in
    at_state classes _ s t f.2 (record { fitting = h; counted = refl })
follows classes s line text ws others (statement.Instruction o) t is h e =
    let g = instruction_fits s.labels (is_inside s.stage) (length s.function.code) o (other_words ws) h.labels in
    let k = known_by (is_known s.so_far.version o) _ t e in
    let f = with_ok (λ i. record s { function = record s.function { code = s.function.code ++ i ∷ [] } }) _ _ t (λ c x. rw x refl)
    (λ n x. rw x refl) k.1 in
    at_state classes _ _ t f.2 (after_instruction classes s o f.0 h (g f.0 f.1) k.0)
follows classes s line text ws others statement.Unknown t is h e = absurd cc

line_follows : (classes : ℕ) (s : Source) (line : ℕ) (text : List ℕ) (others : List (List ℕ)) (t : Source) → IsFitting classes s
    → after_line classes s line text others ≡ Ok t → Follows classes (count_after (statement_in (words text)) s) t
unfolding after_line
line_follows classes s line text others t h e = follows classes s line text (words text) others (statement_in (words text)) t refl h e

-- ---- the text

pub went_on : (r : Result Source AsmCause) (line : ℕ) (next : Source → Result Module AsmFault) (m : Module) → go_on r line next ≡ Ok m
    → (t : Source) × (r ≡ Ok t) × (next t ≡ Ok m)
went_on (Ok t) line next m e = (t, refl, e)
went_on (Err c) line next m e = absurd cc

pub ended_is : (s : Source) (line : ℕ) (b : Bool) (m : Module) → is_finished s.stage ≡ b → ended s line ≡ Ok m
    → (is_finished s.stage ≡ true) × (s.so_far ≡ m)
ended_is s line true m f e = (f, (let g : (let r : Result Module AsmFault = Ok s.so_far in r) ≡ Ok m = (rw f at e) in cc))
ended_is s line false m f e = absurd (let g : (let r : Result Module AsmFault = Err (record { line = line; cause = cause.Order }) in r)
    ≡ Ok m = (rw f at e) in cc)

none_of : (r : Option Slot) → is_none r ≡ true → IfSome r (λ s. ⊥)
none_of None h = tt
none_of (Some s) h = absurd cc

entry_is : (o : Option Function) → is_entry o ≡ true → (f : Function) × (o ≡ Some f) × IsEntry f
entry_is None h = absurd cc
entry_is (Some f) h =
    let b = and_parts (eqb (length f.parameters) 0) (is_none f.result) h in
    (f, refl, record { parameters = omega (arith, eqb-true (length f.parameters) 0 b.0); result = none_of f.result b.1 })

whole : (classes : ℕ) (s : Source) → IsFitting classes s → is_finished s.stage ≡ true → length s.so_far.classes ≡ classes → FitsImage s.so_far
whole classes s h f all = record {
  least_places = h.least (begun s.stage f);
  classes = h.lists.of_classes.0;
  fields = rw all h.lists.of_classes.1;
  ints = h.lists.of_ints;
  texts = h.lists.of_texts;
  functions = ((h.entry f).0, h.lists.of_functions.0, rw all h.lists.of_functions.1);
  entry = entry_is (slice_get s.so_far.functions s.so_far.entry) (h.entry f).1;
}

counts_on : (before after rest left classes : ℕ) (b : Bool) → before + left ≡ classes → (b ≡ true → left ≡ suc rest) → (b ≡ false → left ≡ rest)
    → after ≡ (if b then suc before else before) → after + rest ≡ classes
counts_on before after rest left classes true all one same is = omega (arith, one refl)
counts_on before after rest left classes false all one same is = omega (arith, same refl)

read_fits : (classes : ℕ) (s : Source) (line : ℕ) (texts : List (List ℕ)) (m : Module) → IsFitting classes s
    → length s.so_far.classes + classes_in texts ≡ classes → read_from classes s line texts ≡ Ok m → FitsImage m
read_fits classes s line [] m h all e =
    let is = ended_is s line (is_finished s.stage) m refl (sym (stop classes s line) ∙ e) in
    subst FitsImage is.1 (whole classes s h is.0 (omega (arith, all, no_classes)))
read_fits classes s line (text ∷ others) m h all e =
    let on = went_on (after_line classes s line text others) line _ m (sym (step classes s line text others) ∙ e) in
    let f = line_follows classes s line text others on.0 h on.1 in
    read_fits classes on.0 (suc line) others m f.fitting
    (counts_on (length s.so_far.classes) (length on.0.so_far.classes) (classes_in others) (classes_in (text ∷ others)) classes
    (is_class (statement_in (words text))) all (class_counted text others) (other_passed text others) f.counted) on.2

nothing_fits : (classes : ℕ) → IsFitting classes nothing_read
nothing_fits classes = record {
  least = λ e. absurd cc;
  lists = record {
    of_classes = (omega arith, tt);
    of_ints = (omega arith, tt);
    of_texts = (omega arith, tt);
    of_functions = (omega arith, tt);
  };
  inside = λ e. not_true e;
  none = λ e. refl;
  labels = tt;
  entry = λ e. not_true e;
}

pub spelled_fits : SpelledFits
unfolding module_of
spelled_fits text m e = read_fits (classes_in (lines text)) nothing_read 1 (lines text) m (nothing_fits (classes_in (lines text))) (omega arith) e
