-- The lines of a log.
use Rattle.std.proofs.Common.{◌≡◌, ℕ, ◌≤◌, ◌<◌, ◌^◌, inl, inr, List, [], ◌∷◌, ◌++◌, length, refl, sym, ap, subst, ◌∙◌, append_assoc, append-nil, arith, length-append}
use Rattle.std.specs.Prelude.{decimal, codes}
use Rattle.std.specs.Fmt.{signed_decimal}
use Rattle.std.specs.List.{AllByRecursion, flat_map}
use Rattle.std.proofs.lemmas.Bool.{cases_eq, eq-eqb, ne_eqb}
use Rattle.std.proofs.lemmas.Grind.{flat_map-append}
use Rattle.std.proofs.lemmas.List.{append_cancel_left}
use Rattle.hex.specs.Hex.{encode_lower}
use Rattle.x10_model.specs.Places.{Number, Words}
use Rattle.x10_asm.specs.Listing.{escape}
use Rattle.x10_log.specs.declared.fault.LogCause.{LogCause}
use Rattle.x10_log.specs.declared.fault.LogCause.TheVariants.{Memory}
use Rattle.x10_log.specs.Logs.{TurnValue, LogValue, turn_line, ended_line, head_lines, spelled}
use Rattle.x10_log.specs.Limits.{FitsTurn, IsWithin}
use Rattle.x10_log.specs.Reading.{Lacks, Said, Taken, Steps, Sent, Printed, said_word, said_text, FitsSaid}
use Rattle.x10_log.proofs.Cuts.{lacks_cons, lacks_append, same_cut, not_lacking}
use Rattle.x10_log.proofs.Digits.{decimal_lacks, signed_lacks, hex_lacks}
use Rattle.x10_log.proofs.Words.{times_lack}
use Rattle.x10_log.proofs.TurnWords.{saids, saids_fit, line_is_words}

-- ---- a line has no line feed in it

escape_lacks : (c : ℕ) → Lacks 10 (escape c)
escape_lacks c = elim (cases_eq c 34) [
  | inl e ↦ rw (eq-eqb c 34 e) refl
  | inr q ↦ elim (cases_eq c 92) [
    | inl e ↦ rw (ne_eqb c 34 q, eq-eqb c 92 e) refl
    | inr b ↦ elim (cases_eq c 10) [
      | inl e ↦ rw (ne_eqb c 34 q, ne_eqb c 92 b, eq-eqb c 10 e) refl
      | inr f ↦ rw (ne_eqb c 34 q, ne_eqb c 92 b, ne_eqb c 10 f) (lacks_cons 10 c [] f refl)
    ]
  ]
]

escapes_lack : (t : List ℕ) → Lacks 10 (flat_map escape t)
escapes_lack [] = refl
escapes_lack (c ∷ cs) = lacks_append 10 (escape c) (flat_map escape cs) (escape_lacks c) (escapes_lack cs)

word_lacks_feed : (s : Said) → FitsSaid s → Lacks 10 (said_word s)
word_lacks_feed (Taken n) fits = lacks_cons 10 60 (decimal n) (λ e. omega (arith, e)) (decimal_lacks 10 n (inl (omega arith)) fits)
word_lacks_feed (Steps key count) fits = lacks_append 10 (decimal key) _ (decimal_lacks 10 key (inl (omega arith)) fits.0)
    (times_lack 10 count (omega arith) fits.1)
word_lacks_feed (Sent f) fits = lacks_cons 10 62 (decimal f.to ++ 58 ∷ encode_lower f.bytes) (λ e. omega (arith, e))
    (lacks_append 10 (decimal f.to) (58 ∷ encode_lower f.bytes) (decimal_lacks 10 f.to (inl (omega arith)) (omega (arith, fits.to)))
    (lacks_cons 10 58 (encode_lower f.bytes) (λ e. omega (arith, e)) (hex_lacks 10 f.bytes (λ e. omega (arith, e)) refl)))
word_lacks_feed (Printed (Number z)) fits = lacks_cons 10 61 (signed_decimal z) (λ e. omega (arith, e)) (signed_lacks 10 z (inl (omega arith)) fits)
word_lacks_feed (Printed (Words t)) fits = lacks_cons 10 34 (flat_map escape t ++ 34 ∷ []) (λ e. omega (arith, e))
    (lacks_append 10 (flat_map escape t) (34 ∷ []) (escapes_lack t) refl)

words_lack_feed : (ss : List Said) → AllByRecursion FitsSaid ss → Lacks 10 (flat_map said_text ss)
words_lack_feed [] h = refl
words_lack_feed (s ∷ ss) h = lacks_cons 10 32 (said_word s ++ flat_map said_text ss) (λ e. omega (arith, e))
    (lacks_append 10 (said_word s) (flat_map said_text ss) (word_lacks_feed s h.0) (words_lack_feed ss h.1))

pub line_lacks_feed : (places : ℕ) (t : TurnValue) → places < 2 ^ 16 → IsWithin places t → FitsTurn t → Lacks 10 (turn_line t)
line_lacks_feed places t few w f = rw (line_is_words t)
    (lacks_append 10 (decimal t.place) (flat_map said_text (saids t)) (decimal_lacks 10 t.place (inl (omega arith)) (omega (arith, w.place)))
    (words_lack_feed (saids t) (saids_fit places t w f)))

-- ---- line after line

-- the text is the lines of what was read and what is left, and what is left leads to what all of it leads to
pub record AreRead (places : ℕ) (text rest : List ℕ) (turns : List TurnValue) : Type 0 where
  pub is : text ≡ flat_map ended_line turns ++ rest
  pub within : AllByRecursion (IsWithin places) turns
  pub leads : (ts : List TurnValue) → AllByRecursion (IsWithin places) ts → AllByRecursion FitsTurn ts → text ≡ flat_map ended_line ts
      → (us : List TurnValue) × AllByRecursion (IsWithin places) us × AllByRecursion FitsTurn us × (rest ≡ flat_map ended_line us) ×
      (turns ++ us ≡ ts)

pub none_read : (places : ℕ) (text : List ℕ) → AreRead places text text []
none_read places text = record { is = refl; within = tt; leads = λ ts w f e. (ts, w, f, e, refl) }

pub all_and_one : {X : Type 0} (P : X → Type 0) (xs : List X) (x : X) → AllByRecursion P xs → P x → AllByRecursion P (xs ++ x ∷ [])
all_and_one P [] x h p = (p, tt)
all_and_one P (y ∷ ys) x h p = (h.0, all_and_one P ys x h.1 p)

-- the first line of some turns
pub record HasLine (places : ℕ) (us : List TurnValue) (line after : List ℕ) : Type 0 where
  pub first : TurnValue
  pub others : List TurnValue
  pub is : us ≡ first ∷ others
  pub line_is : line ≡ turn_line first
  pub after_is : after ≡ flat_map ended_line others
  pub within : IsWithin places first
  pub fits : FitsTurn first
  pub rest_within : AllByRecursion (IsWithin places) others
  pub rest_fits : AllByRecursion FitsTurn others

pub first_line : (places : ℕ) (us : List TurnValue) (rest line after : List ℕ) → places < 2 ^ 16 → AllByRecursion (IsWithin places) us
    → AllByRecursion FitsTurn us → rest ≡ flat_map ended_line us → Lacks 10 line → rest ≡ line ++ 10 ∷ after → HasLine places us line after
first_line places [] rest line after few w f e lacks is =
    absurd (omega (arith, ap length (sym e ∙ is), length-append line (10 ∷ after)))
first_line places (u ∷ us) rest line after few w f e lacks is =
    let same = same_cut 10 line (turn_line u) after (flat_map ended_line us) lacks (line_lacks_feed places u few w.0 f.0)
    (sym is ∙ e ∙ append_assoc (turn_line u) (10 ∷ []) (flat_map ended_line us)) in
    record {
      first = u;
      others = us;
      is = refl;
      line_is = same.0;
      after_is = same.1;
      within = w.0;
      fits = f.0;
      rest_within = w.1;
      rest_fits = f.1;
    }

pub one_read : (places : ℕ) (text rest line after : List ℕ) (turns new : List TurnValue) → places < 2 ^ 16 → AreRead places text rest turns
    → Lacks 10 line → rest ≡ line ++ 10 ∷ after
    → (t : TurnValue) × (line ≡ turn_line t) × IsWithin places t × (new ≡ turns ++ t ∷ [])
    → ((t : TurnValue) → IsWithin places t → FitsTurn t → line ≡ turn_line t → new ≡ turns ++ t ∷ [])
    → AreRead places text after new
one_read places text rest line after turns new few a lacks cut only found = record {
  is = a.is ∙ ap (λ (l : List ℕ). flat_map ended_line turns ++ l) (cut ∙ ap (λ (l : List ℕ). l ++ 10 ∷ after) only.1
      ∙ sym (append_assoc (turn_line only.0) (10 ∷ []) after))
      ∙ sym (append_assoc (flat_map ended_line turns) (ended_line only.0) after)
      ∙ ap (λ (l : List ℕ). l ++ after) (ap (λ (l : List ℕ). flat_map ended_line turns ++ l) (sym (append-nil (ended_line only.0)))
      ∙ sym (flat_map-append ended_line turns (only.0 ∷ [])) ∙ ap (flat_map ended_line) (sym only.3));
  within = subst (AllByRecursion (IsWithin places)) (sym only.3) (all_and_one (IsWithin places) turns only.0 a.within only.2);
  leads = λ ts w f e.
      let l = a.leads ts w f e in
      let h = first_line places l.0 rest line after few l.1 l.2 l.3 lacks cut in (
        h.others,
        h.rest_within,
        h.rest_fits,
        h.after_is,
        ap (λ x. x ++ h.others) (found h.first h.within h.fits h.line_is) ∙ append_assoc turns (h.first ∷ []) h.others
            ∙ ap (λ x. turns ++ x) (sym h.is) ∙ l.4,
      );
}

pub line_fault : (places : ℕ) (text rest line after : List ℕ) (turns ts : List TurnValue) (cause : LogCause) → places < 2 ^ 16
    → AreRead places text rest turns
    → Lacks 10 line → rest ≡ line ++ 10 ∷ after
    → ((t : TurnValue) → IsWithin places t → FitsTurn t → line ≡ turn_line t → cause ≡ Memory)
    → AllByRecursion (IsWithin places) ts → AllByRecursion FitsTurn ts → text ≡ flat_map ended_line ts → cause ≡ Memory
line_fault places text rest line after turns ts cause few a lacks cut found w f e =
    let l = a.leads ts w f e in
    let h = first_line places l.0 rest line after few l.1 l.2 l.3 lacks cut in
    found h.first h.within h.fits h.line_is

-- what has no line feed is no lines
no_lines : (us : List TurnValue) (rest : List ℕ) → rest ≡ flat_map ended_line us → Lacks 10 rest → us ≡ []
no_lines [] rest e lacks = refl
no_lines (u ∷ us) rest e lacks = absurd (not_lacking 10 (turn_line u) (flat_map ended_line us)
    (rw (e ∙ append_assoc (turn_line u) (10 ∷ []) (flat_map ended_line us)) at lacks))

pub end_read : (places : ℕ) (text rest : List ℕ) (turns ts : List TurnValue) → AreRead places text rest turns → Lacks 10 rest
    → AllByRecursion (IsWithin places) ts → AllByRecursion FitsTurn ts → text ≡ flat_map ended_line ts → (turns ≡ ts) × (rest ≡ [])
end_read places text rest turns ts a lacks w f e =
    let l = a.leads ts w f e in
    let none = no_lines l.0 rest l.3 lacks in
    (sym (append-nil turns) ∙ ap (λ x. turns ++ x) (sym none) ∙ l.4, l.3 ∙ ap (flat_map ended_line) none)

pub all_read : (places : ℕ) (text rest : List ℕ) (turns : List TurnValue) → AreRead places text rest turns → length rest ≡ 0
    → text ≡ flat_map ended_line turns
all_read places text [] turns a e = a.is ∙ append-nil (flat_map ended_line turns)
all_read places text (c ∷ cs) turns a e = absurd (omega arith)

-- ---- the first three lines

abbrev pub image_words : List ℕ → List ℕ
image_words bytes = codes "image " ++ encode_lower bytes

abbrev pub places_words : ℕ → List ℕ
places_words n = codes "places " ++ decimal n

-- what follows the first line
abbrev pub second_on : List ℕ → ℕ → List ℕ → List ℕ
second_on bytes n rest = image_words bytes ++ 10 ∷ (places_words n ++ 10 ∷ rest)

pub head_split : (bytes : List ℕ) (n : ℕ) (rest : List ℕ) → head_lines bytes n ++ rest ≡ codes "x10 log 1\n" ++ second_on bytes n rest
head_split bytes n rest = ap (λ (l : List ℕ). codes "x10 log 1\nimage " ++ l)
    (append_assoc (encode_lower bytes) (codes "\nplaces " ++ (decimal n ++ 10 ∷ [])) rest
    ∙ ap (λ (l : List ℕ). encode_lower bytes ++ (codes "\nplaces " ++ l)) (append_assoc (decimal n) (10 ∷ []) rest))

pub head_join : (bytes : List ℕ) (n : ℕ) (text one second two third rest : List ℕ) → text ≡ codes "x10 log 1\n" ++ one → one ≡ second ++ 10 ∷ two
    → second ≡ image_words bytes → two ≡ third ++ 10 ∷ rest → third ≡ places_words n → text ≡ head_lines bytes n ++ rest
head_join bytes n text one second two third rest a b c d e = a ∙ ap (λ (l : List ℕ). codes "x10 log 1\n" ++ l)
    (b ∙ ap (λ (l : List ℕ). l ++ 10 ∷ two) c ∙ ap (λ (l : List ℕ). image_words bytes ++ 10 ∷ l) (d ∙ ap (λ (l : List ℕ). l ++ 10 ∷ rest) e))
    ∙ sym (head_split bytes n rest)

pub image_lacks : (bytes : List ℕ) → Lacks 10 (image_words bytes)
image_lacks bytes = lacks_append 10 (codes "image ") (encode_lower bytes) refl (hex_lacks 10 bytes (λ e. omega (arith, e)) refl)

pub places_lack : (n : ℕ) → n ≤ 64 → Lacks 10 (places_words n)
places_lack n few = lacks_append 10 (codes "places ") (decimal n) refl (decimal_lacks 10 n (inl (omega arith)) (omega arith))

-- after the same front comes the same
pub after_first_line : (one : List ℕ) (bytes : List ℕ) (n : ℕ) (rest text : List ℕ) → text ≡ codes "x10 log 1\n" ++ one
    → text ≡ head_lines bytes n ++ rest
    → one ≡ second_on bytes n rest
after_first_line one bytes n rest text a e = append_cancel_left (codes "x10 log 1\n") one (second_on bytes n rest) (sym a ∙ e
    ∙ head_split bytes n rest)

-- ---- the whole

pub spelled_is : (l : LogValue) → spelled l ≡ head_lines l.digest l.places ++ flat_map ended_line l.turns
unfolding spelled
spelled_is l = refl

pub log_is : (l : LogValue) (digest : List ℕ) (places : ℕ) (turns : List TurnValue) → digest ≡ l.digest → places ≡ l.places → turns ≡ l.turns
    → record { digest = digest; places = places; turns = turns } ≡ l
log_is l digest places turns d p t = rw (d, p, t) refl
