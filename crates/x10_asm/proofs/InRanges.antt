-- The words of a line that is taken in spell what is in the ranges of an image.
use Rattle.std.proofs.Common.{◌≡◌, ℕ, ℤ, zero, suc, pos, ◌<◌, ◌≤◌, ◌^◌, ◌-◌, Bool, true, false, ◌&&◌, List, [], ◌∷◌, ◌++◌, length, drop, Option, Some, None, IfSome, Result, Ok, Err, FitsSigned, refl, subst, arith, leb-true, ltb-true}
use Rattle.std.specs.Prelude.{if◌then◌else◌, codes, find, nat_le, nat_lt, not}
use Rattle.std.specs.List.{AllByRecursion}
use Rattle.std.specs.Int.{w64}
use Rattle.std.specs.Str.{is_utf8, all_ascii_digits, bytes_eq}
use Rattle.std.specs.Str.Parse.{digits_value}
use Rattle.std.proofs.lemmas.Str.{IsUtf8-from_is_utf8}
use Rattle.std.proofs.lemmas.Bool.{and_parts, and_from}
use Rattle.x10_kinds.specs.declared.kind.Kind.{Kind}
use Rattle.x10_kinds.specs.declared.kind.Kind.TheVariants as kind
use Rattle.x10_code.specs.declared.op.Op.{Op}
use Rattle.x10_code.specs.declared.instr.Instr.{Instr}
use Rattle.x10_code.specs.declared.operands.Operand.{Operand}
use Rattle.x10_code.specs.declared.operands.Operand.TheVariants as operand
use Rattle.x10_code.specs.Table.{form_of}
use Rattle.x10_code.specs.Spelling.{IsInstr, fits_operand}
use Rattle.x10_model.specs.declared.slot.Slot.{Slot}
use Rattle.x10_model.specs.Modules.{NamesClassBelow, FitsSlot, FitsText}
use Rattle.x10_asm.specs.declared.fault.AsmCause.{AsmCause}
use Rattle.x10_asm.specs.declared.fault.AsmCause.TheVariants as cause
use Rattle.x10_asm.specs.declared.statement.Statement.{Statement}
use Rattle.x10_asm.specs.declared.statement.Statement.TheVariants as statement
use Rattle.x10_asm.specs.Lines.{words, begins, stripped, number_of, negative, plus, minus, int_of}
use Rattle.x10_asm.specs.Checks.{◌>>=◌, ◌>>◌, check, given, no_more, number_at}
use Rattle.x10_asm.specs.Kinds.{class_of, slot_with, prefixed, classed, plain, reference_of, slot_of, is_here, field_of, some_slot, result_of, each}
use Rattle.x10_asm.specs.Literals.{scan, fitting, closed, unquoted, literal}
use Rattle.x10_asm.specs.Labels.{Label, is_name, label_name, label_of}
use Rattle.x10_asm.specs.LabelLines.{index_after, ends_labels, defined, labels_from}
use Rattle.x10_asm.specs.Operands.{operand_at, Last, numbered, named_or_number, target_at, last_at, index_of, resolved, instruction_of}
use Rattle.x10_asm.specs.Statements.{statement_in, first_word}

-- ---- steps in a row

pub same_ok : {A : Type 0} (x y : A) → (let r : Result A AsmCause = Ok x in r) ≡ Ok y → x ≡ y
same_ok x y e = cc

pub bound : {A B : Type 0} (r : Result A AsmCause) (next : A → Result B AsmCause) (y : B) → (r >>= next) ≡ Ok y
    → (x : A) × (r ≡ Ok x) × (next x ≡ Ok y)
bound (Ok x) next y e = (x, refl, e)
bound (Err c) next y e = absurd cc

pub then_bound : {A B : Type 0} (r : Result A AsmCause) (next : Result B AsmCause) (y : B) → (r >> next) ≡ Ok y → next ≡ Ok y
then_bound (Ok x) next y e = e
then_bound (Err c) next y e = absurd cc

pub checked : {B : Type 0} (b : Bool) (c : AsmCause) (next : Result B AsmCause) (y : B) → (check b c >> next) ≡ Ok y → (b ≡ true) × (next ≡ Ok y)
checked true c next y e = (refl, e)
checked false c next y e = absurd cc

pub given_is : {A : Type 0} (o : Option A) (c : AsmCause) (x : A) → given o c ≡ Ok x → o ≡ Some x
given_is (Some y) c x e = cc
given_is None c x e = absurd cc

-- every value that is given is so
abbrev pub Gives : {A : Type 0} → (A → Type 0) → Result A AsmCause → Type 0
Gives P r = (x : _) → r ≡ Ok x → P x

ok_gives : {A : Type 0} (P : A → Type 0) (x : A) → P x → Gives P (Ok x)
ok_gives P x p = λ y e. subst P (same_ok x y e) p

err_gives : {A : Type 0} (P : A → Type 0) (c : AsmCause) → Gives P (Err c)
err_gives P c = λ y e. absurd cc

if_gives : {A : Type 0} (P : A → Type 0) (b : Bool) (r q : Result A AsmCause) → (b ≡ true → Gives P r) → Gives P q → Gives P (if b then r else q)
if_gives P true r q h k = h refl
if_gives P false r q h k = k

bind_gives : {A B : Type 0} (P : B → Type 0) (r : Result A AsmCause) (next : A → Result B AsmCause) → ((x : A) → r ≡ Ok x → Gives P (next x))
    → Gives P (r >>= next)
bind_gives P (Ok x) next h = h x refl
bind_gives P (Err c) next h = err_gives P c

then_gives : {A B : Type 0} (P : B → Type 0) (r : Result A AsmCause) (next : Result B AsmCause) → Gives P next → Gives P (r >> next)
then_gives P (Ok x) next h = h
then_gives P (Err c) next h = err_gives P c

check_gives : {B : Type 0} (P : B → Type 0) (b : Bool) (c : AsmCause) (next : Result B AsmCause) → (b ≡ true → Gives P next)
    → Gives P (check b c >> next)
check_gives P true c next h = h refl
check_gives P false c next h = err_gives P c

pub all_end : {A : Type 0} (P : A → Type 0) (xs : List A) (x : A) → AllByRecursion P xs → P x → AllByRecursion P (xs ++ x ∷ [])
all_end P [] x h p = (p, tt)
all_end P (y ∷ ys) x h p = (h.0, all_end P ys x h.1 p)

all_join : {A : Type 0} (P : A → Type 0) (xs ys : List A) → AllByRecursion P xs → AllByRecursion P ys → AllByRecursion P (xs ++ ys)
all_join P [] ys h k = k
all_join P (x ∷ xs) ys h k = (h.0, all_join P xs ys h.1 k)

-- ---- numbers

if_some : {A : Type 0} (b : Bool) (v x : A) → (if b then Some v else None) ≡ Some x → (b ≡ true) × (v ≡ x)
if_some true v x e = (refl, cc)
if_some false v x e = absurd cc

number_small : (most n : ℕ) (word : List ℕ) → number_of most word ≡ Some n → n ≤ most
number_small most n word e =
    let h = if_some (nat_lt 0 (length word) && all_ascii_digits word && nat_le (digits_value 10 word) most) (digits_value 10 word) n e in
    let b = and_parts (nat_lt 0 (length word) && all_ascii_digits word) (nat_le (digits_value 10 word) most) h.0 in
    subst (λ k. k ≤ most) h.1 (leb-true (digits_value 10 word) most b.1)

pub number_at_small : (most : ℕ) (ws : List (List ℕ)) → Gives (λ p. p.0 ≤ most) (number_at most ws)
number_at_small most [] = err_gives _ cause.Count
number_at_small most (word ∷ others) = bind_gives _ (given (number_of most word) cause.Number) (λ n. Ok (n, others))
    (λ n e. ok_gives _ (n, others) (number_small most n word (given_is (number_of most word) cause.Number n e)))

negative_fits : (n : ℕ) → n ≤ 2 ^ 63 → FitsSigned w64 (negative n)
negative_fits zero h = record { sfits = omega arith }
negative_fits (suc n) h = record { sfits = omega (arith, h) }

positive_fits : (n : ℕ) → n ≤ 2 ^ 63 - 1 → FitsSigned w64 (pos n)
positive_fits n h = record { sfits = omega (arith, h) }

minus_fits : (o : Option ℕ) (z : ℤ) → ((n : ℕ) → o ≡ Some n → n ≤ 2 ^ 63) → minus o ≡ Some z → FitsSigned w64 z
minus_fits None z h e = absurd cc
minus_fits (Some n) z h e = let is : negative n ≡ z = cc in subst (FitsSigned w64) is (negative_fits n (h n refl))

plus_fits : (o : Option ℕ) (z : ℤ) → ((n : ℕ) → o ≡ Some n → n ≤ 2 ^ 63 - 1) → plus o ≡ Some z → FitsSigned w64 z
plus_fits None z h e = absurd cc
plus_fits (Some n) z h e = let is : pos n ≡ z = cc in subst (FitsSigned w64) is (positive_fits n (h n refl))

signed_fits : (b : Bool) (m p : Option ℕ) (z : ℤ) → ((n : ℕ) → m ≡ Some n → n ≤ 2 ^ 63) → ((n : ℕ) → p ≡ Some n → n ≤ 2 ^ 63 - 1)
    → (if b then minus m else plus p) ≡ Some z → FitsSigned w64 z
signed_fits true m p z h k e = minus_fits m z h e
signed_fits false m p z h k e = plus_fits p z k e

pub int_fits : (word : List ℕ) (z : ℤ) → int_of word ≡ Some z → FitsSigned w64 z
int_fits word z e = signed_fits (begins 45 word) (number_of (2 ^ 63) (drop 1 word)) (number_of (2 ^ 63 - 1) word) z
    (λ n f. number_small (2 ^ 63) n (drop 1 word) f) (λ n f. number_small (2 ^ 63 - 1) n word f) e

-- ---- kinds

class_below : (classes : ℕ) (word : List ℕ) → Gives (λ c. c < classes) (class_of classes word)
class_below classes word =
    bind_gives _ (given (number_of 65535 word) cause.Number) (λ c. check (nat_lt c classes) cause.Number >> Ok c)
    (λ c e. check_gives _ (nat_lt c classes) cause.Number (Ok c) (λ t. ok_gives (λ k. k < classes) c (ltb-true c classes t)))

with_class : (classes : ℕ) (make : ℕ → Kind) (here : Bool) (r : Result ℕ AsmCause) → Gives (λ c. c < classes) r
    → ((c : ℕ) → c < classes → FitsSlot classes (record { kind = make c; home_here = here })) → Gives (FitsSlot classes) (slot_with make here r)
with_class classes make here (Ok c) h k = ok_gives (FitsSlot classes) (record { kind = make c; home_here = here }) (k c (h c refl))
with_class classes make here (Err c) h k = err_gives (FitsSlot classes) c

classed_fits : (classes : ℕ) (make : ℕ → Kind) (here : Bool) (word : List ℕ)
    → ((c : ℕ) → c < classes → FitsSlot classes (record { kind = make c; home_here = here }))
    → Gives (FitsSlot classes) (classed classes make here word)
classed_fits classes make here word k = with_class classes make here (class_of classes word) (class_below classes word) k

prefixed_fits : (classes : ℕ) (o : Option (List ℕ)) (read : List ℕ → Result Slot AsmCause) (other : Result Slot AsmCause)
    → ((w : List ℕ) → Gives (FitsSlot classes) (read w)) → Gives (FitsSlot classes) other → Gives (FitsSlot classes) (prefixed o read other)
prefixed_fits classes (Some w) read other h k = h w
prefixed_fits classes None read other h k = k

no_flag : {A : Type 0} → false ≡ true → A
no_flag e = absurd cc

plain_fits : (classes : ℕ) (k : Kind) → NamesClassBelow classes k → FitsSlot classes (record { kind = k; home_here = false })
plain_fits classes k h = record { class = h; flag = λ e. no_flag e }

abbrev Read : Type 0
Read = Result Slot AsmCause

reference_fits : (classes : ℕ) (word : List ℕ) → Gives (FitsSlot classes) (reference_of classes word)
reference_fits classes word =
    let none : Read = Err cause.Word in
    let here : Read = prefixed (stripped (codes "here:") word) (classed classes kind.GRef true) none in
    let gref : Read = prefixed (stripped (codes "gref:") word) (classed classes kind.GRef false) here in
    let opt : Read = prefixed (stripped (codes "opt:") word) (classed classes kind.Opt false) gref in
    prefixed_fits classes (stripped (codes "obj:") word) (classed classes kind.Obj false) opt
    (λ w. classed_fits classes kind.Obj false w (λ c lt. plain_fits classes (kind.Obj c) lt)) (
    prefixed_fits classes (stripped (codes "opt:") word) (classed classes kind.Opt false) gref
    (λ w. classed_fits classes kind.Opt false w (λ c lt. plain_fits classes (kind.Opt c) lt)) (
    prefixed_fits classes (stripped (codes "gref:") word) (classed classes kind.GRef false) here
    (λ w. classed_fits classes kind.GRef false w (λ c lt. plain_fits classes (kind.GRef c) lt)) (
    prefixed_fits classes (stripped (codes "here:") word) (classed classes kind.GRef true) none
    (λ w. classed_fits classes kind.GRef true w (λ c lt. record { class = lt; flag = λ e. refl }))
    (err_gives (FitsSlot classes) cause.Word))))

pub slot_fits : (classes : ℕ) (word : List ℕ) → Gives (FitsSlot classes) (slot_of classes word)
unfolding slot_of
slot_fits classes word =
    let P = FitsSlot classes in
    let one : Kind → Read = λ k. Ok (plain k) in
    let rail : Read = if bytes_eq word (codes "rail") then one kind.Rail else reference_of classes word in
    let text : Read = if bytes_eq word (codes "text") then one kind.Text else rail in
    let place : Read = if bytes_eq word (codes "place") then one kind.Place else text in
    if_gives P (bytes_eq word (codes "int")) (one kind.Int) place (λ t. ok_gives P (plain kind.Int) (plain_fits classes kind.Int tt)) (
    if_gives P (bytes_eq word (codes "place")) (one kind.Place) text (λ t. ok_gives P (plain kind.Place) (plain_fits classes kind.Place tt)) (
    if_gives P (bytes_eq word (codes "text")) (one kind.Text) rail (λ t. ok_gives P (plain kind.Text) (plain_fits classes kind.Text tt)) (
    if_gives P (bytes_eq word (codes "rail")) (one kind.Rail) (reference_of classes word)
    (λ t. ok_gives P (plain kind.Rail) (plain_fits classes kind.Rail tt)) (
    reference_fits classes word))))

pub field_fits : (classes : ℕ) (word : List ℕ) → Gives (NamesClassBelow classes) (field_of classes word)
unfolding field_of
field_fits classes word =
    check_gives _ (not (is_here word)) cause.Word (slot_of classes word >>= (λ s. Ok s.kind))
    (λ t. bind_gives _ (slot_of classes word) (λ s. Ok s.kind) (λ s e. ok_gives (NamesClassBelow classes) s.kind (slot_fits classes word s e).class))

some_fits : (classes : ℕ) (r : Result Slot AsmCause) → Gives (FitsSlot classes) r → Gives (λ o. IfSome o (FitsSlot classes)) (some_slot r)
some_fits classes (Ok s) h = ok_gives (λ o. IfSome o (FitsSlot classes)) (Some s) (h s refl)
some_fits classes (Err c) h = err_gives _ c

pub result_fits : (classes : ℕ) (word : List ℕ) → Gives (λ o. IfSome o (FitsSlot classes)) (result_of classes word)
unfolding result_of
result_fits classes word = if_gives (λ o. IfSome o (FitsSlot classes)) _ _ _ (λ t. ok_gives (λ o. IfSome o (FitsSlot classes)) None tt)
    (some_fits classes (slot_of classes word) (slot_fits classes word))

pub each_fits : {A : Type 0} (P : A → Type 0) (read : List ℕ → Result A AsmCause) → ((w : List ℕ) → Gives P (read w)) → (ws : List (List ℕ))
    → Gives (AllByRecursion P) (each read ws)
each_fits P read h [] = ok_gives (AllByRecursion P) [] tt
each_fits P read h (word ∷ others) =
    bind_gives _ (read word) (λ first. each read others >>= (λ rest. Ok (first ∷ rest)))
    (λ first e. bind_gives _ (each read others) (λ rest. Ok (first ∷ rest))
    (λ rest f. ok_gives (AllByRecursion P) (first ∷ rest) (h word first e, each_fits P read h others rest f)))

-- ---- texts

fitting_fits : (text : List ℕ) → Gives FitsText (fitting text)
fitting_fits text =
    if_gives FitsText (nat_le (length text) 65535 && is_utf8 text) (Ok text) (Err cause.Text)
    (λ t. ok_gives FitsText text (let b = and_parts (nat_le (length text) 65535) (is_utf8 text) t in
    record { length = omega (arith, leb-true (length text) 65535 b.0); utf8 = IsUtf8-from_is_utf8 text b.1 }))
    (err_gives FitsText cause.Text)

closed_fits : (text rest : List ℕ) → Gives FitsText (closed text rest)
closed_fits text rest = if_gives FitsText _ (no_more (words rest) >> fitting text) (Err cause.Text)
    (λ t. then_gives FitsText (no_more (words rest)) (fitting text) (fitting_fits text)) (err_gives FitsText cause.Text)

unquoted_fits : (o : Option (List ℕ)) → Gives FitsText (unquoted o)
unquoted_fits None = err_gives FitsText cause.Text
unquoted_fits (Some quoted) = bind_gives FitsText (given (scan false quoted) cause.Text) (λ p. closed p.0 p.1) (λ p e. closed_fits p.0 p.1)

pub text_fits : (rest : List ℕ) → Gives FitsText (literal rest)
unfolding literal
text_fits rest = if_gives FitsText _ _ _ (λ t. err_gives FitsText cause.Count) (unquoted_fits (stripped (34 ∷ []) rest))

-- ---- labels

-- the index of a label, at most behind the last instruction that a function may have
abbrev pub IsLow : Label → Type 0
IsLow l = l.index ≤ 4096

found_by : (P : Label → Type 0) (b : Bool) (m : Label) (rest : Option Label) (l : Label) → P m → (rest ≡ Some l → P l)
    → (if b then Some m else rest) ≡ Some l → P l
found_by P true m rest l h k e = let is : m ≡ l = cc in subst P is h
found_by P false m rest l h k e = k e

found_in : (P : Label → Type 0) (test : Label → Bool) (ls : List Label) (l : Label) → AllByRecursion P ls → find test ls ≡ Some l → P l
found_in P test [] l h e = absurd cc
found_in P test (m ∷ ms) l h e = found_by P (test m) m (find test ms) l h.0 (found_in P test ms l h.1) e

pub label_low : (labels : List Label) (name : List ℕ) (l : Label) → AllByRecursion IsLow labels → label_of labels name ≡ Some l → IsLow l
label_low labels name l h e = found_in IsLow (λ m. bytes_eq m.name name) labels l h e

index_low : (st : Statement) (index : ℕ) → index ≤ 4096 → index_after st index ≤ 4096
index_low (statement.Instruction o) index h = omega arith
index_low _ index h = h

if_all : (P : Label → Type 0) (b : Bool) (xs ys : List Label) → AllByRecursion P xs → AllByRecursion P ys → AllByRecursion P (if b then xs else ys)
if_all P true xs ys h k = h
if_all P false xs ys h k = k

defined_low : (st : Statement) (word : List ℕ) (line index : ℕ) → index ≤ 4096 → AllByRecursion IsLow (defined st word line index)
defined_low statement.Label word line index h = if_all IsLow (is_name (label_name word)) _ [] (h, tt) tt
defined_low _ word line index h = tt

pub labels_low : (texts : List (List ℕ)) (line index : ℕ) → index ≤ 4096 → AllByRecursion IsLow (labels_from line index texts)
unfolding labels_from
labels_low [] line index h = tt
labels_low (text ∷ others) line index h =
    if_all IsLow (ends_labels (statement_in (words text))) [] _ tt
    (all_join IsLow (defined (statement_in (words text)) (first_word (words text)) line index) _
    (defined_low (statement_in (words text)) (first_word (words text)) line index h)
    (labels_low others (suc line) (index_after (statement_in (words text)) index) (index_low (statement_in (words text)) index h)))

-- ---- instructions

-- an operand that was read is 0 where its operation asks for none, and small
pub record FitsOperand (o : Operand) (most n : ℕ) : Type 0 where
  form : fits_operand o n ≡ true
  small : n ≤ most

operand_fits : (o : Operand) (most : ℕ) (ws : List (List ℕ)) → Gives (λ p. FitsOperand o most p.0) (operand_at o most ws)
operand_fits operand.Unused most ws = ok_gives (λ p. FitsOperand operand.Unused most p.0) (0, ws) (record { form = refl; small = omega arith })
operand_fits operand.Register most ws = λ p e. record { form = refl; small = number_at_small most ws p e }
operand_fits _ most ws = λ p e. record { form = refl; small = number_at_small most ws p e }

-- what the last operand stands for is so
abbrev LastFits : List Label → Operand → Last → Type 0
LastFits labels o l = (n : ℕ) → resolved labels l.name l.number ≡ Ok n → FitsOperand o 4294967295 n

numbered_fits : (labels : List Label) (o : Operand) (r : Result (ℕ × List (List ℕ)) AsmCause) → Gives (λ p. FitsOperand o 4294967295 p.0) r
    → Gives (LastFits labels o) (numbered r)
numbered_fits labels o (Ok p) h = ok_gives (LastFits labels o) _ (λ n e. subst (FitsOperand o 4294967295) (same_ok p.0 n e) (h p refl))
numbered_fits labels o (Err c) h = err_gives (LastFits labels o) c

index_fits : (o : Option Label) (n : ℕ) → ((l : Label) → o ≡ Some l → IsLow l) → index_of o ≡ Ok n → n ≤ 4096
index_fits None n h e = absurd cc
index_fits (Some l) n h e = subst (λ k. k ≤ 4096) (same_ok l.index n e) (h l refl)

named_fits : (labels : List Label) (o : Option (List ℕ)) (word : List ℕ) (others : List (List ℕ)) → AllByRecursion IsLow labels
    → Gives (LastFits labels operand.Target) (named_or_number o word others)
named_fits labels (Some name) word others low = ok_gives (LastFits labels operand.Target) _
    (λ n e. record { form = refl; small = omega (arith, index_fits (label_of labels name) n (λ l f. label_low labels name l low f) e) })
named_fits labels None word others low = numbered_fits labels operand.Target (number_at 4294967295 (word ∷ others))
    (λ p e. record { form = refl; small = number_at_small 4294967295 (word ∷ others) p e })

target_fits : (labels : List Label) (ws : List (List ℕ)) → AllByRecursion IsLow labels → Gives (LastFits labels operand.Target) (target_at ws)
target_fits labels [] low = err_gives _ cause.Count
target_fits labels (word ∷ others) low = named_fits labels (stripped (64 ∷ []) word) word others low

last_fits : (labels : List Label) (o : Operand) (ws : List (List ℕ)) → AllByRecursion IsLow labels → Gives (LastFits labels o) (last_at o ws)
last_fits labels operand.Target ws low = target_fits labels ws low
last_fits labels operand.Unused ws low = numbered_fits labels operand.Unused (operand_at operand.Unused 4294967295 ws)
    (operand_fits operand.Unused 4294967295 ws)
last_fits labels o ws low = numbered_fits labels o (operand_at o 4294967295 ws) (operand_fits o 4294967295 ws)

-- an instruction that is taken in is one of an image, inside a function with room for it
pub record FitsNext (is_inside : Bool) (count : ℕ) (o : Op) (i : Instr) : Type 0 where
  pub op : i.op ≡ o
  pub inside : is_inside ≡ true
  pub room : count < 4096
  pub fits : IsInstr i

instr_of : (o : Op) (a b c x : ℕ) → FitsOperand (form_of o).a 255 a → FitsOperand (form_of o).b 255 b → FitsOperand (form_of o).c 255 c
    → FitsOperand (form_of o).x 4294967295 x
    → IsInstr (record { op = o; a = a; b = b; c = c; x = x })
instr_of o a b c x fa fb fc fx = record {
  a = omega (arith, fa.small);
  b = omega (arith, fb.small);
  c = omega (arith, fc.small);
  x = omega (arith, fx.small);
  form = and_from _ (fits_operand (form_of o).x x) (and_from _ (fits_operand (form_of o).c c)
      (and_from (fits_operand (form_of o).a a) (fits_operand (form_of o).b b) fa.form fb.form) fc.form) fx.form;
}

pub instruction_fits : (labels : List Label) (is_inside : Bool) (count : ℕ) (o : Op) (ws : List (List ℕ)) → AllByRecursion IsLow labels
    → Gives (FitsNext is_inside count o) (instruction_of labels is_inside count o ws)
unfolding instruction_of
instruction_fits labels is_inside count o ws low =
    let P = FitsNext is_inside count o in
    bind_gives P _ _ (λ a ea.
    bind_gives P _ _ (λ b eb.
    bind_gives P _ _ (λ c ec.
    bind_gives P _ _ (λ x ex.
    then_gives P _ _ (
    check_gives P is_inside cause.Order _ (λ inside.
    bind_gives P _ _ (λ target et.
    check_gives P (nat_lt count 4096) cause.Limit _ (λ room.
    ok_gives P _ (record {
      op = refl;
      inside = inside;
      room = ltb-true count 4096 room;
      fits = instr_of o a.0 b.0 c.0 target (operand_fits _ 255 ws a ea) (operand_fits _ 255 a.1 b eb) (operand_fits _ 255 b.1 c ec)
          (last_fits labels _ c.1 low x ex target et);
    })))))))))
