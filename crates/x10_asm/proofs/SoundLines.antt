-- A line whose words may be there is refused, if it is, only for what other lines say.
use Rattle.std.proofs.Common.{◌≡◌, ℕ, ℤ, Bool, true, false, List, [], ◌∷◌, length, Option, Some, None, Result, Ok, Err, refl, sym, ap, subst, ◌∙◌}
use Rattle.std.specs.Prelude.{IfOk, ◌&&◌, ◌==◌, nat_le, nat_lt, if◌then◌else◌}
use Rattle.std.specs.Str.{is_utf8}
use Rattle.x10_code.specs.declared.op.Op.{Op}
use Rattle.x10_code.specs.Table.{form_of}
use Rattle.x10_kinds.specs.declared.kind.Kind.{Kind}
use Rattle.x10_model.specs.declared.version.ImageVersion.{ImageVersion}
use Rattle.x10_model.specs.declared.version.ImageVersion.TheVariants.{One}
use Rattle.x10_model.specs.Modules.{Function, is_known}
use Rattle.x10_model.specs.declared.slot.Slot.{Slot}
use Rattle.x10_model.specs.declared.limits.TheConstants.{MOST_BYTES, MOST_ENTRIES, MOST_FIELDS, MOST_FUNCTIONS, MOST_INSTRUCTIONS, MOST_PLACES}
use Rattle.x10_model.specs.ReadingImages.{is_within}
use Rattle.x10_asm.specs.declared.fault.AsmCause.{AsmCause}
use Rattle.x10_asm.specs.declared.fault.AsmCause.TheVariants as cause
use Rattle.x10_asm.specs.declared.stage.Stage.{Stage}
use Rattle.x10_asm.specs.declared.stage.Stage.TheVariants as stage
use Rattle.x10_asm.specs.declared.statement.Statement.{Statement}
use Rattle.x10_asm.specs.declared.statement.Statement.TheVariants as statement
use Rattle.x10_asm.specs.Lines.{words, after_word, is_word_end, stripped, int_of}
use Rattle.x10_asm.specs.Checks.{◌>>=◌, ◌>>◌, check, given, number_at, one_number, no_more}
use Rattle.x10_asm.specs.Kinds.{are_known, each, field_of, slot_of, result_of}
use Rattle.x10_asm.specs.Labels.{Label}
use Rattle.x10_asm.specs.Literals.{literal, unquoted, closed, fitting, scan}
use Rattle.x10_asm.specs.Operands.{Last, operand_at, last_at, instruction_of, resolved}
use Rattle.x10_asm.specs.Statements.{statement_in, first_word, other_words}
use Rattle.x10_asm.specs.Reading.{Source, nothing_read, after_line, after_statement, with_version, with_places, with_class, with_int, with_text, with_func, with_instruction, with_end, with_entry, with_nothing, one_version, version_of, places_of, class_of, one_int, int_line_of, is_count, text_of, kinds_are_known, signature_of, signature_fits, function_with, func_of, end_of, entry_of, label_at}
use Rattle.x10_asm.specs.Flaws.{MayRead, HasNoFault, HasOperands}
use Rattle.x10_asm.proofs.LinesTakenIn.{line_gives, known_line}

-- two facts of one answer
pub if_ok_both : {X Y : Type 0} (r : Result X Y) (P Q R : X → Type 0) → ((x : X) → P x → Q x → R x) → IfOk r P → IfOk r Q → IfOk r R
if_ok_both (Ok x) P Q R f p q = f x p q
if_ok_both (Err y) P Q R f p q = tt

-- nothing was read, and these lines are in order now
abbrev at : ImageVersion → Stage → Source
at version s = record nothing_read { stage = s; so_far = record nothing_read.so_far { version = version } }

-- in one place the line is out of order, in another it isn't
sound : (version : ImageVersion) (classes : ℕ) (text : List ℕ) (s t : Source) → MayRead version s (statement_in (words text))
    → MayRead version t (statement_in (words text))
    → after_line classes s 0 text [] ≡ Err cause.Order → (after_line classes t 0 text [] ≡ Err cause.Order → ⊥) → HasNoFault version classes text
sound version classes text s t p q a b = λ c f. b (f t 0 [] q ∙ sym (f s 0 [] p) ∙ a)

sound_by : (version : ImageVersion) (classes : ℕ) (text : List ℕ) (here wanted : Statement) (s t : Source) → here ≡ statement_in (words text)
    → here ≡ wanted → MayRead version s wanted → MayRead version t wanted
    → after_statement classes s 0 text (words text) [] wanted ≡ Err cause.Order
    → (after_statement classes t 0 text (words text) [] wanted ≡ Err cause.Order → ⊥) → HasNoFault version classes text
sound_by version classes text here wanted s t e w p q a b =
    let is : wanted ≡ statement_in (words text) = sym w ∙ e in
    sound version classes text s t (subst (MayRead version s) is p) (subst (MayRead version t) is q)
    (line_gives classes s 0 text [] here e wanted w ∙ a) (λ x. b (sym (line_gives classes t 0 text [] here e wanted w) ∙ x))

-- ---- a line that says nothing

pub sound_silent : (version : ImageVersion) (classes : ℕ) (text : List ℕ) (here : Statement) → here ≡ statement_in (words text)
    → here ≡ statement.Silent → HasNoFault version classes text
sound_silent version classes text here e w = λ c f. let h = sym (line_gives classes (at version stage.Start) 0 text [] here e statement.Silent w)
    ∙ f (at version stage.Start) 0 [] (subst (MayRead version (at version stage.Start)) (sym w ∙ e) tt) in cc

-- ---- the version

version_order : (ws : List (List ℕ)) → one_version ws ≡ Ok tt → version_of stage.Finished One ws ≡ Err cause.Order
unfolding version_of
version_order ws f = rw f refl

version_other : (s : Source) (ws : List (List ℕ)) → one_version ws ≡ Ok tt → with_version s (version_of stage.Start One ws) ≡ Err cause.Order → ⊥
unfolding version_of
version_other s ws f = rw f (λ e. cc)

pub sound_version : (version : ImageVersion) (classes : ℕ) (text : List ℕ) (ws : List (List ℕ)) (here : Statement) → here ≡ statement_in (words text)
    → ws ≡ other_words (words text) → here ≡ statement.Version → one_version ws ≡ Ok tt → HasNoFault version classes text
sound_version version classes text ws here e r w f =
    let g = subst (λ (x : List (List ℕ)). one_version x ≡ Ok tt) r f in
    sound_by version classes text here statement.Version (at One stage.Finished) (at One stage.Start) e w tt tt
    (ap (with_version (at One stage.Finished)) (version_order (other_words (words text)) g))
    (version_other (at One stage.Start) (other_words (words text)) g)

-- ---- places

places_order : (ws : List (List ℕ)) (n : ℕ) → one_number 65535 ws ≡ Ok n → places_of stage.Finished ws ≡ Err cause.Order
unfolding places_of
places_order ws n f = rw f refl

places_other : (s : Source) (ws : List (List ℕ)) (n : ℕ) → one_number 65535 ws ≡ Ok n → with_places s (places_of stage.Start ws) ≡ Err cause.Order → ⊥
unfolding places_of
places_other s ws n f = rw f (elim (is_within 1 MOST_PLACES n) as
    (λ b. with_places s (check b cause.Limit >> Ok n) ≡ Err cause.Order → ⊥) [ true ↦ λ e. cc | false ↦ λ e. cc ])

pub sound_places : (version : ImageVersion) (classes : ℕ) (text : List ℕ) (ws : List (List ℕ)) (n : ℕ) (here : Statement)
    → here ≡ statement_in (words text) → ws ≡ other_words (words text) → here ≡ statement.Places → one_number 65535 ws ≡ Ok n
    → HasNoFault version classes text
sound_places version classes text ws n here e r w f =
    let g = subst (λ (x : List (List ℕ)). one_number 65535 x ≡ Ok n) r f in
    sound_by version classes text here statement.Places (at version stage.Finished) (at version stage.Start) e w refl refl
    (ap (with_places (at version stage.Finished)) (places_order (other_words (words text)) n g))
    (places_other (at version stage.Start) (other_words (words text)) n g)

-- ---- classes

class_order : (classes before : ℕ) (ws : List (List ℕ)) (fields : List Kind) → are_known (field_of classes) ws ≡ true
    → each (field_of classes) ws ≡ Ok fields → class_of stage.Finished classes before ws ≡ Err cause.Order
unfolding class_of
class_order classes before ws fields k f = rw (k, f) refl

class_other : (s : Source) (classes before : ℕ) (ws : List (List ℕ)) (fields : List Kind) → are_known (field_of classes) ws ≡ true
    → each (field_of classes) ws ≡ Ok fields → with_class s (class_of stage.Classes classes before ws) ≡ Err cause.Order → ⊥
unfolding class_of
class_other s classes before ws fields k f = rw (k, f) (elim (nat_le (length fields) MOST_FIELDS && nat_lt before MOST_ENTRIES) as
    (λ b. with_class s (check b cause.Limit >> Ok fields) ≡ Err cause.Order → ⊥) [ true ↦ λ e. cc | false ↦ λ e. cc ])

pub sound_class : (version : ImageVersion) (classes : ℕ) (text : List ℕ) (ws : List (List ℕ)) (fields : List Kind) (here : Statement)
    → here ≡ statement_in (words text) → ws ≡ other_words (words text) → here ≡ statement.Class → are_known (field_of classes) ws ≡ true
    → each (field_of classes) ws ≡ Ok fields → HasNoFault version classes text
sound_class version classes text ws fields here e r w k f =
    let known = subst (λ (x : List (List ℕ)). are_known (field_of classes) x ≡ true) r k in
    let g = subst (λ (x : List (List ℕ)). each (field_of classes) x ≡ Ok fields) r f in
    sound_by version classes text here statement.Class (at version stage.Finished) (at version stage.Classes) e w refl refl
    (ap (with_class (at version stage.Finished)) (class_order classes 0 (other_words (words text)) fields known g))
    (class_other (at version stage.Classes) classes 0 (other_words (words text)) fields known g)

-- ---- constant numbers

int_order : (ws : List (List ℕ)) (z : ℤ) → one_int ws ≡ Ok z → int_line_of stage.Finished 0 ws ≡ Err cause.Order
unfolding int_line_of
int_order ws z f = rw f refl

int_other : (s : Source) (ws : List (List ℕ)) (z : ℤ) → one_int ws ≡ Ok z → with_int s (int_line_of stage.Classes 0 ws) ≡ Err cause.Order → ⊥
unfolding int_line_of
int_other s ws z f = rw f (λ e. cc)

pub sound_int : (version : ImageVersion) (classes : ℕ) (text : List ℕ) (ws : List (List ℕ)) (z : ℤ) (here : Statement)
    → here ≡ statement_in (words text) → ws ≡ other_words (words text) → here ≡ statement.Int → one_int ws ≡ Ok z → HasNoFault version classes text
sound_int version classes text ws z here e r w f =
    let g = subst (λ (x : List (List ℕ)). one_int x ≡ Ok z) r f in
    sound_by version classes text here statement.Int (at version stage.Finished) (at version stage.Classes) e w refl refl
    (ap (with_int (at version stage.Finished)) (int_order (other_words (words text)) z g))
    (int_other (at version stage.Classes) (other_words (words text)) z g)

-- ---- what was read

pub int_is : (ws others : List (List ℕ)) (word : List ℕ) (z : ℤ) → ws ≡ word ∷ others → int_of word ≡ Some z → no_more others ≡ Ok tt
    → one_int ws ≡ Ok z
int_is ws others word z e i n = rw (e, i, n) refl

pub signature_is : (classes : ℕ) (ws : List (List ℕ)) (registers loops : ℕ × List (List ℕ)) (word : List ℕ) (others : List (List ℕ))
    (result : Option Slot) (slots : List Slot)
    → number_at 255 ws ≡ Ok registers → number_at 255 registers.1 ≡ Ok loops → loops.1 ≡ word ∷ others → result_of classes word ≡ Ok result
    → each (slot_of classes) others ≡ Ok slots
    → signature_of classes ws ≡ Ok (function_with registers.0 loops.0 result slots)
signature_is classes ws registers loops word others result slots a b e r s = rw (a, b, e, r, s) refl

pub operands_are : (op : Op) (ws : List (List ℕ)) (a b c : ℕ × List (List ℕ)) (x : Last) → operand_at (form_of op).a 255 ws ≡ Ok a
    → operand_at (form_of op).b 255 a.1 ≡ Ok b → operand_at (form_of op).c 255 b.1 ≡ Ok c → last_at (form_of op).x c.1 ≡ Ok x
    → no_more x.others ≡ Ok tt → HasOperands op ws
operands_are op ws a b c x ea eb ec ex n = record { a = a; b = b; c = c; x = x; is_a = ea; is_b = eb; is_c = ec; is_x = ex; all = n }

-- ---- texts

pub is_one_more : (ws : List (List ℕ)) (c : AsmCause) → no_more ws ≡ Err c → c ≡ cause.Count
is_one_more [] c e = cc
is_one_more (w ∷ ws) c e = cc

fitting_count : (text : List ℕ) (b : Bool) → is_count (if b then Ok text else Err cause.Text) ≡ false
fitting_count text true = refl
fitting_count text false = refl

fitting_order : (text : List ℕ) (b : Bool) → (if b then Ok text else Err cause.Text) ≡ Err cause.Order → ⊥
fitting_order text true e = cc
fitting_order text false e = cc

pub quotes_open : (quoted : List ℕ) → scan false quoted ≡ None → is_count (unquoted (Some quoted)) ≡ false
quotes_open quoted e = rw e refl

pub quotes_joined : (quoted text rest : List ℕ) → scan false quoted ≡ Some (text, rest) → is_word_end rest ≡ false
    → is_count (unquoted (Some quoted)) ≡ false
quotes_joined quoted text rest e j = rw (e, j) refl

pub quotes_closed : (quoted text rest : List ℕ) → scan false quoted ≡ Some (text, rest) → is_word_end rest ≡ true → no_more (words rest) ≡ Ok tt
    → is_count (unquoted (Some quoted)) ≡ false
quotes_closed quoted text rest e j n = rw (e, j, n) (fitting_count text (nat_le (length text) MOST_BYTES && is_utf8 text))

pub quotes_more : (quoted text rest : List ℕ) (c : AsmCause) → scan false quoted ≡ Some (text, rest) → is_word_end rest ≡ true
    → no_more (words rest) ≡ Err c → unquoted (Some quoted) ≡ Err cause.Count
quotes_more quoted text rest c e j n =
    let m : no_more (words rest) ≡ Err cause.Count = n ∙ ap (λ (x : AsmCause). Err x) (is_one_more (words rest) c n) in
    rw (e, j, m) refl

closed_order : (text : List ℕ) (b : Bool) (ws : List (List ℕ)) → (if b then no_more ws >> fitting text else Err cause.Text) ≡ Err cause.Order → ⊥
closed_order text false ws e = cc
closed_order text true [] e = fitting_order text (nat_le (length text) MOST_BYTES && is_utf8 text) e
closed_order text true (w ∷ ws) e = cc

scanned_order : (read : Option (List ℕ × List ℕ)) → (given read cause.Text >>= (λ p. closed p.0 p.1)) ≡ Err cause.Order → ⊥
scanned_order None e = cc
scanned_order (Some p) e = closed_order p.0 (is_word_end p.1) (words p.1) e

unquoted_order : (quoted : Option (List ℕ)) → unquoted quoted ≡ Err cause.Order → ⊥
unquoted_order None e = cc
unquoted_order (Some quoted) e = scanned_order (scan false quoted) e

literal_order : (rest : List ℕ) → literal rest ≡ Err cause.Order → ⊥
unfolding literal
literal_order rest = elim (length rest == 0) as (λ b. (if b then Err cause.Count else unquoted (stripped (34 ∷ []) rest)) ≡ Err cause.Order → ⊥)
    [ true ↦ λ e. cc | false ↦ unquoted_order (stripped (34 ∷ []) rest) ]

text_order : (before : ℕ) (rest : List ℕ) → is_count (literal rest) ≡ false → text_of stage.Finished before rest ≡ Err cause.Order
unfolding text_of
text_order before rest k = rw k refl

read_other : (s : Source) (read : Result (List ℕ) AsmCause) → (read ≡ Err cause.Order → ⊥)
    → with_text s (read >>= (λ text. check (nat_lt 0 MOST_ENTRIES) cause.Limit >> Ok text)) ≡ Err cause.Order → ⊥
read_other s (Ok text) other e = cc
read_other s (Err c) other e = let same : c ≡ cause.Order = cc in other (ap (λ (x : AsmCause). Err x) same)

text_other : (s : Source) (rest : List ℕ) → is_count (literal rest) ≡ false → with_text s (text_of stage.Classes 0 rest) ≡ Err cause.Order → ⊥
unfolding text_of
text_other s rest k = rw k (read_other s (literal rest) (literal_order rest))

pub sound_text : (version : ImageVersion) (classes : ℕ) (text rest : List ℕ) (here : Statement) → here ≡ statement_in (words text)
    → rest ≡ after_word text → here ≡ statement.Text → is_count (literal rest) ≡ false → HasNoFault version classes text
sound_text version classes text rest here e r w k =
    let g = subst (λ (x : List ℕ). is_count (literal x) ≡ false) r k in
    sound_by version classes text here statement.Text (at version stage.Finished) (at version stage.Classes) e w refl refl
    (ap (with_text (at version stage.Finished)) (text_order 0 (after_word text) g)) (text_other (at version stage.Classes) (after_word text) g)

-- ---- functions

func_order : (classes before : ℕ) (ws : List (List ℕ)) (f : Function) → kinds_are_known classes ws ≡ true → signature_of classes ws ≡ Ok f
    → func_of stage.Finished classes before ws ≡ Err cause.Order
unfolding func_of
func_order classes before ws f k h = rw (k, h) refl

func_other : (s : Source) (labels : List Label) (classes before : ℕ) (ws : List (List ℕ)) (f : Function) → kinds_are_known classes ws ≡ true
    → signature_of classes ws ≡ Ok f → with_func s labels (func_of stage.Classes classes before ws) ≡ Err cause.Order → ⊥
unfolding func_of
func_other s labels classes before ws f k h = rw (k, h) (elim (signature_fits f && nat_lt before MOST_FUNCTIONS) as
    (λ b. with_func s labels (check b cause.Limit >> Ok f) ≡ Err cause.Order → ⊥) [ true ↦ λ e. cc | false ↦ λ e. cc ])

pub sound_func : (version : ImageVersion) (classes : ℕ) (text : List ℕ) (ws : List (List ℕ)) (f : Function) (here : Statement)
    → here ≡ statement_in (words text) → ws ≡ other_words (words text) → here ≡ statement.Func → kinds_are_known classes ws ≡ true
    → signature_of classes ws ≡ Ok f → HasNoFault version classes text
sound_func version classes text ws f here e r w k h =
    let known = subst (λ (x : List (List ℕ)). kinds_are_known classes x ≡ true) r k in
    let g = subst (λ (x : List (List ℕ)). signature_of classes x ≡ Ok f) r h in
    sound_by version classes text here statement.Func (at version stage.Finished) (at version stage.Classes) e w refl refl
    (ap (with_func (at version stage.Finished) _) (func_order classes 0 (other_words (words text)) f known g))
    (func_other (at version stage.Classes) _ classes 0 (other_words (words text)) f known g)

end_order : (ws : List (List ℕ)) → no_more ws ≡ Ok tt → end_of stage.Finished 0 ws ≡ Err cause.Order
unfolding end_of
end_order ws f = rw f refl

end_other : (s : Source) (ws : List (List ℕ)) → no_more ws ≡ Ok tt → with_end s (end_of stage.Inside 0 ws) ≡ Err cause.Order → ⊥
unfolding end_of
end_other s ws f = rw f (λ e. cc)

pub sound_end : (version : ImageVersion) (classes : ℕ) (text : List ℕ) (ws : List (List ℕ)) (here : Statement) → here ≡ statement_in (words text)
    → ws ≡ other_words (words text) → here ≡ statement.End → no_more ws ≡ Ok tt → HasNoFault version classes text
sound_end version classes text ws here e r w f =
    let g = subst (λ (x : List (List ℕ)). no_more x ≡ Ok tt) r f in
    sound_by version classes text here statement.End (at version stage.Finished) (at version stage.Inside) e w refl refl
    (ap (with_end (at version stage.Finished)) (end_order (other_words (words text)) g))
    (end_other (at version stage.Inside) (other_words (words text)) g)

entry_order : (ws : List (List ℕ)) (n : ℕ) → one_number 65535 ws ≡ Ok n → entry_of stage.Finished [] ws ≡ Err cause.Order
unfolding entry_of
entry_order ws n f = rw f refl

entry_other : (s : Source) (ws : List (List ℕ)) (n : ℕ) → one_number 65535 ws ≡ Ok n → with_entry s (entry_of stage.Functions [] ws) ≡ Err cause.Order
    → ⊥
unfolding entry_of
entry_other s ws n f = rw f (λ e. cc)

pub sound_entry : (version : ImageVersion) (classes : ℕ) (text : List ℕ) (ws : List (List ℕ)) (n : ℕ) (here : Statement)
    → here ≡ statement_in (words text) → ws ≡ other_words (words text) → here ≡ statement.Entry → one_number 65535 ws ≡ Ok n
    → HasNoFault version classes text
sound_entry version classes text ws n here e r w f =
    let g = subst (λ (x : List (List ℕ)). one_number 65535 x ≡ Ok n) r f in
    sound_by version classes text here statement.Entry (at version stage.Finished) (at version stage.Functions) e w refl refl
    (ap (with_entry (at version stage.Finished)) (entry_order (other_words (words text)) n g))
    (entry_other (at version stage.Functions) (other_words (words text)) n g)

label_order : (word : List ℕ) (ws : List (List ℕ)) → no_more ws ≡ Ok tt → label_at stage.Finished [] 0 word ws ≡ Err cause.Order
unfolding label_at
label_order word ws f = rw f refl

label_other : (s : Source) (word : List ℕ) (ws : List (List ℕ)) → no_more ws ≡ Ok tt
    → with_nothing s (label_at stage.Inside [] 0 word ws) ≡ Err cause.Order → ⊥
unfolding label_at
label_other s word ws f = rw f (λ e. cc)

pub sound_label : (version : ImageVersion) (classes : ℕ) (text : List ℕ) (ws : List (List ℕ)) (here : Statement) → here ≡ statement_in (words text)
    → ws ≡ other_words (words text) → here ≡ statement.Label → no_more ws ≡ Ok tt → HasNoFault version classes text
sound_label version classes text ws here e r w f =
    let g = subst (λ (x : List (List ℕ)). no_more x ≡ Ok tt) r f in
    sound_by version classes text here statement.Label (at version stage.Finished) (at version stage.Inside) e w refl refl
    (ap (with_nothing (at version stage.Finished)) (label_order (first_word (words text)) (other_words (words text)) g))
    (label_other (at version stage.Inside) (first_word (words text)) (other_words (words text)) g)

-- ---- instructions

instruction_order : (op : Op) (ws : List (List ℕ)) → HasOperands op ws → instruction_of [] false 0 op ws ≡ Err cause.Order
unfolding instruction_of
instruction_order op ws h = rw (h.is_a, h.is_b, h.is_c, h.is_x, h.all) refl

instruction_other : (s : Source) (op : Op) (ws : List (List ℕ)) → HasOperands op ws
    → with_instruction s (instruction_of [] true 0 op ws) ≡ Err cause.Order → ⊥
unfolding instruction_of
instruction_other s op ws h =
    rw (h.is_a, h.is_b, h.is_c, h.is_x, h.all)
    (elim h.x.name as (λ (name : Option (List ℕ)). with_instruction s
    (resolved [] name h.x.number >>= (λ target. check (nat_lt 0 MOST_INSTRUCTIONS) cause.Limit >> Ok
    (record { op = op; a = h.a.0; b = h.b.0; c = h.c.0; x = target }))) ≡ Err cause.Order → ⊥) [ None ↦ λ e. cc | Some name ↦ λ e. cc ])

pub sound_instruction : (version : ImageVersion) (classes : ℕ) (text : List ℕ) (ws : List (List ℕ)) (op : Op) (here : Statement)
    → here ≡ statement_in (words text) → ws ≡ other_words (words text) → here ≡ statement.Instruction op → is_known version op ≡ true
    → HasOperands op ws → HasNoFault version classes text
sound_instruction version classes text ws op here e r w known f =
    let g = subst (λ (x : List (List ℕ)). HasOperands op x) r f in
    let others = other_words (words text) in
    sound_by version classes text here (statement.Instruction op) (at version stage.Finished) (at version stage.Inside) e w refl refl
    (known_line (at version stage.Finished) op others known ∙ ap (with_instruction (at version stage.Finished)) (instruction_order op others g))
    (λ x. instruction_other (at version stage.Inside) op others g (sym (known_line (at version stage.Inside) op others known) ∙ x))
