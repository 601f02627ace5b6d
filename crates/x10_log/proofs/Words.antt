-- The words of a turn, read one by one.
use Rattle.std.proofs.Common.{◌≡◌, ◌≢◌, ℕ, ℤ, ◌<◌, ◌⊎◌, ◌^◌, inl, inr, List, [], ◌∷◌, ◌++◌, length, replicate, get_or, Vec, Global, refl, sym, ap, subst, ◌∙◌, append_assoc, append-nil, arith, length-append}
use Rattle.std.specs.Prelude.{decimal, FitsSigned}
use Rattle.std.specs.Int.{w64}
use Rattle.std.specs.Fmt.{signed_decimal}
use Rattle.std.specs.List.{AllByRecursion, flat_map}
use Rattle.std.proofs.lemmas.Bool.{cases_eq, eq-eqb, ne_eqb}
use Rattle.std.proofs.lemmas.Fmt.{decimal_nonempty}
use Rattle.hex.specs.Hex.{encode_lower}
use Rattle.x10_model.specs.Places.{Number, Words}
use Rattle.std.specs.Arc.{arc_value}
use Rattle.std.specs.declared.sync.Arc.{Arc}
use Rattle.x10_hall.specs.Halls.{PostedFrame, frame_of}
use Rattle.x10_hall.specs.declared.turn.Posted.{Posted}
use Rattle.std.specs.Str.{IsUtf8}
use Rattle.x10_asm.specs.Listing.{escape}
use Rattle.x10_log.specs.declared.fault.LogCause.{LogCause}
use Rattle.x10_log.specs.declared.fault.LogCause.TheVariants.{Memory}
use Rattle.x10_log.specs.Logs.{TurnValue, times}
use Rattle.x10_log.specs.Limits.{FitsFrame}
use Rattle.x10_log.specs.Reading.{Lacks, IsEnd, Said, Taken, Steps, Sent, Printed, said_word, said_text, FitsSaid, IsPlain, with_said, with_all, AreFew, IsKept}
use Rattle.x10_log.proofs.Cuts.{tails, begins_not, lacks_cons, lacks_append, same_cut, not_lacking}
use Rattle.x10_log.proofs.Digits.{decimal_lacks, signed_lacks, hex_lacks}

-- ---- runs

-- a run's word that has a star
pub run_parts : (key count : ℕ) (first second word : List ℕ) → key < 2 ^ 64 → word ≡ decimal key ++ times count
    → Lacks 42 first → word ≡ first ++ 42 ∷ second → (first ≡ decimal key) × (second ≡ decimal count)
run_parts key count first second word small e h f = elim (cases_eq count 1) [
  | inl one ↦ absurd (not_lacking 42 first second
      (rw (sym f ∙ e ∙ ap (λ (l : List ℕ). decimal key ++ l) (once one) ∙ append-nil (decimal key)) (decimal_lacks 42 key (inl (omega arith)) small)))
  | inr more ↦ same_cut 42 first (decimal key) second (decimal count) h (decimal_lacks 42 key (inl (omega arith)) small)
      (sym f ∙ e ∙ ap (λ (l : List ℕ). decimal key ++ l) (often more))
]
  where
    once : count ≡ 1 → times count ≡ []
    once e = rw (eq-eqb count 1 e) refl

    often : count ≢ 1 → times count ≡ 42 ∷ decimal count
    often e = rw (ne_eqb count 1 e) refl

-- one that has none
pub run_alone : (key count : ℕ) (word : List ℕ) → word ≡ decimal key ++ times count → Lacks 42 word → (word ≡ decimal key) × (1 ≡ count)
run_alone key count word e h = elim (cases_eq count 1) [
  | inl one ↦ (e ∙ ap (λ (l : List ℕ). decimal key ++ l) (once one) ∙ append-nil (decimal key), sym one)
  | inr more ↦ absurd (not_lacking 42 (decimal key) (decimal count) (rw (e ∙ ap (λ (l : List ℕ). decimal key ++ l) (often more)) at h))
]
  where
    once : count ≡ 1 → times count ≡ []
    once e = rw (eq-eqb count 1 e) refl

    often : count ≢ 1 → times count ≡ 42 ∷ decimal count
    often e = rw (ne_eqb count 1 e) refl

-- ---- frames

pub frame_parts : (f : PostedFrame) (first second word : List ℕ) → FitsFrame f → word ≡ decimal f.to ++ 58 ∷ encode_lower f.bytes
    → Lacks 58 first → word ≡ first ++ 58 ∷ second → (first ≡ decimal f.to) × (second ≡ encode_lower f.bytes)
frame_parts f first second word fits e h is =
    same_cut 58 first (decimal f.to) second (encode_lower f.bytes) h (decimal_lacks 58 f.to (inr (omega arith)) (omega (arith, fits.to))) (sym is ∙ e)

pub frame_has_colon : (f : PostedFrame) (word : List ℕ) → word ≡ decimal f.to ++ 58 ∷ encode_lower f.bytes → Lacks 58 word → ⊥
frame_has_colon f word e h = not_lacking 58 (decimal f.to) (encode_lower f.bytes) (rw e at h)

sent_to : (f : Posted) (to : ℕ) (bytes : List ℕ) → f.to ≡ to → (arc_value f.bytes).items ≡ bytes → frame_of f ≡ record { to = to; bytes = bytes }
sent_to f to bytes e h = rw (sym e, sym h) refl

pub sent_is : (f : PostedFrame) (to : ℕ) (shared : Arc (Vec ℕ Global) Global) (bytes : Vec ℕ Global) → to ≡ f.to → arc_value shared ≡ bytes
    → bytes.items ≡ f.bytes → Sent (frame_of (record { to = to; bytes = shared })) ≡ Sent f
sent_is f to shared bytes e h k = ap Sent (sent_to (record { to = to; bytes = shared }) f.to f.bytes e (ap (λ v. v.items) h ∙ k))

-- ---- what a word says, by its first byte

first_byte : (a b : ℕ) (xs ys : List ℕ) → a ∷ xs ≡ b ∷ ys → a ≡ b
first_byte a b xs ys e = ap (λ (l : List ℕ). get_or l 0 0) e

other_bytes : (a b : ℕ) (xs ys : List ℕ) → a ∷ xs ≡ b ∷ ys → xs ≡ ys
other_bytes a b xs ys e = ap tails e

-- a key's word doesn't begin with a byte that no number has
no_key : (c key : ℕ) (ds more : List ℕ) → (c < 48) ⊎ (57 < c) → key < 2 ^ 64 → c ∷ ds ≡ decimal key ++ more → ⊥
no_key c key ds more out small e = begins_not c (decimal key) ds more (decimal_lacks c key out small) (decimal_nonempty key small) e

pub record IsTaken (s : Said) (digits : List ℕ) : Type 0 where
  pub number : ℕ
  pub fits : number < 2 ^ 64
  pub word : digits ≡ decimal number
  pub is : s ≡ Taken number

pub is_taken : (s : Said) (ds : List ℕ) → FitsSaid s → IsPlain s → 60 ∷ ds ≡ said_word s → IsTaken s ds
is_taken (Taken n) ds fits plain e = record { number = n; fits = fits; word = other_bytes 60 60 ds (decimal n) e; is = refl }
is_taken (Steps key count) ds fits plain e = absurd (no_key 60 key ds (times count) (inr (omega arith)) fits.0 e)
is_taken (Sent f) ds fits plain e = absurd (omega (arith, first_byte 60 62 ds (decimal f.to ++ 58 ∷ encode_lower f.bytes) e))
is_taken (Printed (Number z)) ds fits plain e = absurd (omega (arith, first_byte 60 61 ds (signed_decimal z) e))
is_taken (Printed (Words t)) ds fits plain e = absurd plain

pub record IsSent (s : Said) (text : List ℕ) : Type 0 where
  pub frame : PostedFrame
  pub fits : FitsFrame frame
  pub word : text ≡ decimal frame.to ++ 58 ∷ encode_lower frame.bytes
  pub is : s ≡ Sent frame

pub is_sent : (s : Said) (ds : List ℕ) → FitsSaid s → IsPlain s → 62 ∷ ds ≡ said_word s → IsSent s ds
is_sent (Taken n) ds fits plain e = absurd (omega (arith, first_byte 62 60 ds (decimal n) e))
is_sent (Steps key count) ds fits plain e = absurd (no_key 62 key ds (times count) (inr (omega arith)) fits.0 e)
is_sent (Sent f) ds fits plain e =
    record { frame = f; fits = fits; word = other_bytes 62 62 ds (decimal f.to ++ 58 ∷ encode_lower f.bytes) e; is = refl }
is_sent (Printed (Number z)) ds fits plain e = absurd (omega (arith, first_byte 62 61 ds (signed_decimal z) e))
is_sent (Printed (Words t)) ds fits plain e = absurd plain

pub record IsPrinted (s : Said) (text : List ℕ) : Type 0 where
  pub number : ℤ
  pub fits : FitsSigned w64 number
  pub word : text ≡ signed_decimal number
  pub is : s ≡ Printed (Number number)

pub is_printed : (s : Said) (ds : List ℕ) → FitsSaid s → IsPlain s → 61 ∷ ds ≡ said_word s → IsPrinted s ds
is_printed (Taken n) ds fits plain e = absurd (omega (arith, first_byte 61 60 ds (decimal n) e))
is_printed (Steps key count) ds fits plain e = absurd (no_key 61 key ds (times count) (inr (omega arith)) fits.0 e)
is_printed (Sent f) ds fits plain e = absurd (omega (arith, first_byte 61 62 ds (decimal f.to ++ 58 ∷ encode_lower f.bytes) e))
is_printed (Printed (Number z)) ds fits plain e = record { number = z; fits = fits; word = other_bytes 61 61 ds (signed_decimal z) e; is = refl }
is_printed (Printed (Words t)) ds fits plain e = absurd plain

pub record IsSteps (s : Said) (text : List ℕ) : Type 0 where
  pub key : ℕ
  pub count : ℕ
  pub small : key < 2 ^ 64
  pub few : count < 2 ^ 64
  pub word : text ≡ decimal key ++ times count
  pub is : s ≡ Steps key count

-- a word that is none of the others
pub is_steps : (s : Said) (text : List ℕ) → FitsSaid s → IsPlain s → text ≡ said_word s → ((r : List ℕ) → text ≡ 60 ∷ r → ⊥)
    → ((r : List ℕ) → text ≡ 62 ∷ r → ⊥) → ((r : List ℕ) → text ≡ 61 ∷ r → ⊥) → IsSteps s text
is_steps (Taken n) text fits plain e taken sent printed = absurd (taken (decimal n) e)
is_steps (Steps k n) text fits plain e taken sent printed = record { key = k; count = n; small = fits.0; few = fits.1; word = e; is = refl }
is_steps (Sent f) text fits plain e taken sent printed = absurd (sent (decimal f.to ++ 58 ∷ encode_lower f.bytes) e)
is_steps (Printed (Number z)) text fits plain e taken sent printed = absurd (printed (signed_decimal z) e)
is_steps (Printed (Words t)) text fits plain e taken sent printed = absurd plain

pub record IsText (s : Said) (quoted rest : List ℕ) : Type 0 where
  pub text : List ℕ
  pub utf8 : IsUtf8 text
  pub word : quoted ≡ flat_map escape text ++ 34 ∷ rest
  pub is : s ≡ Printed (Words text)

pub is_text : (s : Said) (ds rest : List ℕ) → FitsSaid s → 34 ∷ ds ≡ said_word s ++ rest → IsText s ds rest
is_text (Taken n) ds rest fits e = absurd (omega (arith, first_byte 34 60 ds (decimal n ++ rest) e))
is_text (Steps key count) ds rest fits e =
    absurd (no_key 34 key ds (times count ++ rest) (inl (omega arith)) fits.0 (e ∙ append_assoc (decimal key) (times count) rest))
is_text (Sent f) ds rest fits e = absurd (omega (arith, first_byte 34 62 ds ((decimal f.to ++ 58 ∷ encode_lower f.bytes) ++ rest) e))
is_text (Printed (Number z)) ds rest fits e = absurd (omega (arith, first_byte 34 61 ds (signed_decimal z ++ rest) e))
is_text (Printed (Words t)) ds rest fits e = record {
  text = t;
  utf8 = fits;
  word = other_bytes 34 34 ds ((flat_map escape t ++ 34 ∷ []) ++ rest) e ∙ append_assoc (flat_map escape t) (34 ∷ []) rest;
  is = refl;
}

-- what begins with no quote is no text
pub plain_from : (s : Said) (rest text : List ℕ) → text ≡ said_word s ++ rest → ((r : List ℕ) → text ≡ 34 ∷ r → ⊥) → IsPlain s
plain_from (Taken n) rest text e none = tt
plain_from (Steps key count) rest text e none = tt
plain_from (Sent f) rest text e none = tt
plain_from (Printed (Number z)) rest text e none = tt
plain_from (Printed (Words t)) rest text e none = none ((flat_map escape t ++ 34 ∷ []) ++ rest) e

pub times_lack : (c count : ℕ) → (c < 42) → count < 2 ^ 64 → Lacks c (times count)
times_lack c count lt few = elim (cases_eq count 1) [
  | inl one ↦ rw (eq-eqb count 1 one) refl
  | inr more ↦ rw (ne_eqb count 1 more) (lacks_cons c 42 (decimal count) (λ e. omega (arith, e)) (decimal_lacks c count (inl (omega arith)) few))
]

-- a word that is no text has no space in it
pub word_lacks : (s : Said) → FitsSaid s → IsPlain s → Lacks 32 (said_word s)
word_lacks (Taken n) fits plain = lacks_cons 32 60 (decimal n) (λ e. omega (arith, e)) (decimal_lacks 32 n (inl (omega arith)) fits)
word_lacks (Steps key count) fits plain =
    lacks_append 32 (decimal key) (times count) (decimal_lacks 32 key (inl (omega arith)) fits.0) (times_lack 32 count (omega arith) fits.1)
word_lacks (Sent f) fits plain = lacks_cons 32 62 (decimal f.to ++ 58 ∷ encode_lower f.bytes) (λ e. omega (arith, e))
    (lacks_append 32 (decimal f.to) (58 ∷ encode_lower f.bytes) (decimal_lacks 32 f.to (inl (omega arith)) (omega (arith, fits.to)))
    (lacks_cons 32 58 (encode_lower f.bytes) (λ e. omega (arith, e)) (hex_lacks 32 f.bytes (λ e. omega (arith, e)) refl)))
word_lacks (Printed (Number z)) fits plain = lacks_cons 32 61 (signed_decimal z) (λ e. omega (arith, e)) (signed_lacks 32 z (inl (omega arith)) fits)
word_lacks (Printed (Words t)) fits plain = absurd plain

-- ---- one word after another

-- no more where there are no more later
few_before : (t : TurnValue) (s : Said) → AreFew (with_said t s) → AreFew t
few_before t (Taken n) f = record { taken = omega (arith, f.taken, length-append t.taken (n ∷ [])); keys = f.keys }
few_before t (Steps key count) f = record { taken = f.taken; keys = omega (arith, f.keys, length-append t.keys (replicate count key)) }
few_before t (Sent frame) f = record { taken = f.taken; keys = f.keys }
few_before t (Printed line) f = record { taken = f.taken; keys = f.keys }

pub few_so_far : (t : TurnValue) (ss : List Said) → AreFew (with_all t ss) → AreFew t
few_so_far t [] f = f
few_so_far t (s ∷ ss) f = few_before t s (few_so_far (with_said t s) ss f)

pub words_end : (ss : List Said) → IsEnd (flat_map said_text ss)
words_end [] = refl
words_end (s ∷ ss) = refl

-- the first of some words, and what follows it
pub record HasFirst (ss : List Said) (here : List ℕ) : Type 0 where
  pub first : Said
  pub others : List Said
  pub is : ss ≡ first ∷ others
  pub word : here ≡ said_word first ++ flat_map said_text others
  pub fits : FitsSaid first
  pub rest_fits : AllByRecursion FitsSaid others

first_word : (ss : List Said) (here : List ℕ) → AllByRecursion FitsSaid ss → 32 ∷ here ≡ flat_map said_text ss → HasFirst ss here
first_word [] here fits e = absurd (omega (arith, ap length e))
first_word (s ∷ ss) here fits e = record {
  first = s;
  others = ss;
  is = refl;
  word = other_bytes 32 32 here (said_word s ++ flat_map said_text ss) e;
  fits = fits.0;
  rest_fits = fits.1;
}

-- what is left of a line leads to what all of it leads to
pub record IsLeading (old now : TurnValue) (text rest : List ℕ) : Type 0 where
  pub kept : IsKept old now
  pub leads : (ss : List Said) → AllByRecursion FitsSaid ss → text ≡ flat_map said_text ss → AreFew (with_all old ss)
      → (rs : List Said) × AllByRecursion FitsSaid rs × (rest ≡ flat_map said_text rs) × (with_all now rs ≡ with_all old ss)

pub leading_all : (old : TurnValue) (text : List ℕ) → IsLeading old old text text
leading_all old text = record {
  kept = record { place = refl; few = λ h. h };
  leads = λ ss fits e few. (ss, fits, e, refl);
}

-- the first word of what is left is read as this one
abbrev pub ReadsFirst : List ℕ → Said → List ℕ → Type 0
ReadsFirst here s' tail = (s : Said) (rest : List ℕ) → FitsSaid s → IsEnd rest → here ≡ said_word s ++ rest → (s' ≡ s) × (tail ≡ rest)

pub leading_on : (old now new : TurnValue) (text here tail : List ℕ) (s : Said) → IsLeading old now text (32 ∷ here) → ReadsFirst here s tail
    → new ≡ with_said now s → IsKept now new → IsLeading old new text tail
leading_on old now new text here tail s i read e kept = record {
  kept = record { place = kept.place ∙ i.kept.place; few = λ h. kept.few (i.kept.few h) };
  leads = λ ss fits is few.
      let l = i.leads ss fits is few in
      let w = first_word l.0 here l.1 l.2 in
      let r = read w.first (flat_map said_text w.others) w.fits (words_end w.others) w.word in (
        w.others,
        w.rest_fits,
        r.1,
        ap (λ t. with_all t w.others) (e ∙ ap (with_said now) r.0) ∙ ap (with_all now) (sym w.is) ∙ l.3,
      );
}

pub word_fault : (old now : TurnValue) (text here : List ℕ) (ss : List Said) (cause : LogCause) → IsLeading old now text (32 ∷ here)
    → ((s : Said) (rest : List ℕ) → FitsSaid s → IsEnd rest → here ≡ said_word s ++ rest → cause ≡ Memory)
    → AllByRecursion FitsSaid ss → text ≡ flat_map said_text ss → AreFew (with_all old ss) → cause ≡ Memory
word_fault old now text here ss cause i read fits is few =
    let l = i.leads ss fits is few in
    let w = first_word l.0 here l.1 l.2 in
    read w.first (flat_map said_text w.others) w.fits (words_end w.others) w.word

pub count_fault : (old now : TurnValue) (text here tail : List ℕ) (s : Said) (ss : List Said) (cause : LogCause) → IsLeading old now text (32 ∷ here)
    → ReadsFirst here s tail → (AreFew (with_said now s) → cause ≡ Memory)
    → AllByRecursion FitsSaid ss → text ≡ flat_map said_text ss → AreFew (with_all old ss) → cause ≡ Memory
count_fault old now text here tail s ss cause i read memory fits is few =
    let l = i.leads ss fits is few in
    let w = first_word l.0 here l.1 l.2 in
    let r = read w.first (flat_map said_text w.others) w.fits (words_end w.others) w.word in
    memory (few_so_far (with_said now s) w.others
    (subst AreFew (sym l.3 ∙ ap (with_all now) w.is ∙ ap (λ x. with_all (with_said now x) w.others) (sym r.0)) few))

pub leading_end : (old now : TurnValue) (text : List ℕ) (ss : List Said) → IsLeading old now text []
    → AllByRecursion FitsSaid ss → text ≡ flat_map said_text ss → AreFew (with_all old ss) → now ≡ with_all old ss
leading_end old now text ss i fits is few =
    let l = i.leads ss fits is few in
    sym (no_words l.0 now l.2) ∙ l.3
  where
    no_words : (rs : List Said) (t : TurnValue) → [] ≡ flat_map said_text rs → with_all t rs ≡ t
    no_words [] t e = refl
    no_words (s ∷ rs) t e = absurd (omega (arith, ap length e))
