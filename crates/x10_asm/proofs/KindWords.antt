-- Words of kinds, one after the other.
use Rattle.std.proofs.Common.{◌≡◌, ℕ, List, ◌++◌, length, take, drop, Option, Some, None, Result, Ok, Err, refl, sym, ap, ◌∙◌, MatchOption, inl, inr, Bor}
use Rattle.std.specs.Option.{option_copied}
use Rattle.std.specs.Str.{bytes_eq}
use Rattle.std.specs.Str.Pattern.{FindsTextPrefix, StripsPrefix}
use Rattle.std.proofs.lemmas.Slice.Eq.{bytes_eq-Decides}
use Rattle.std.proofs.lemmas.List.{take-append-drop, take_at}
use Rattle.std.proofs.lemmas.Bool.{cases_Bool}
use Rattle.x10_asm.specs.declared.fault.AsmCause.{AsmCause}
use Rattle.x10_asm.specs.Lines.{stripped}
use Rattle.x10_asm.specs.Kinds.{each}

pub stripped_is : (prefix word : List ℕ) (r : Option (Bor (List ℕ)))
    → MatchOption r (FindsTextPrefix prefix word None) (λ x. StripsPrefix (FindsTextPrefix prefix) word x.now)
    → option_copied r ≡ stripped prefix word
stripped_is prefix word None h = elim (cases_Bool (bytes_eq (take (length prefix) word) prefix)) [
  | inl e ↦ absurd (h (drop (length prefix) word) (sym (take-append-drop (length prefix) word)
      ∙ ap (λ (t : List ℕ). t ++ drop (length prefix) word) ((bytes_eq-Decides (take (length prefix) word) prefix).0 e)))
  | inr e ↦ rw e refl
]
stripped_is prefix word (Some x) h =
    let front : take (length prefix) word ≡ prefix = ap (take (length prefix)) h.1.1 ∙ take_at prefix (drop h.0 word) (length prefix) refl in
    rw ((bytes_eq-Decides (take (length prefix) word) prefix).1 front) (ap (λ (t : List ℕ). Some t) (h.2 ∙ ap (λ (n : ℕ). drop n word) h.1.0))

-- what was read before, and what is still read
abbrev pub with_front : {A : Type 0} → List A → Result (List A) AsmCause → Result (List A) AsmCause
with_front front (Ok xs) = Ok (front ++ xs)
with_front front (Err fault) = Err fault

-- with these read, what reading all gives is known
pub record AreRead {A : Type 0} (read : List ℕ → Result A AsmCause) (front : List A) (ws all : List (List ℕ)) : Type 0 where
  pub is : with_front front (each read ws) ≡ each read all
