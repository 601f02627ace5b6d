-- A text told line by line.
use Rattle.std.proofs.Common.{◌≡◌, ℕ, ◌+◌, List, [], ◌∷◌, ◌++◌, Some, take, drop, arith, sym, ap, subst, ◌∙◌, append_assoc}
use Rattle.std.proofs.lemmas.List.{take-append-drop}
use Rattle.std.proofs.lemmas.Str.{IsUtf8-drop}
use Rattle.std.proofs.lemmas.Str.Pattern.{drop_at_char}
use Rattle.std.specs.Char.{len_utf8}
use Rattle.std.specs.Str.{IsUtf8}
use Rattle.std.specs.Str.Pattern.{FindsChar}
use Rattle.x10_asm.specs.Comments.{Tells}
use Rattle.x10_asm.proofs.Commented.{after_silence, line_told}

-- a line, after comments
pub after_note : (a b c line : List ℕ) → Tells a b [] → c ≡ b ++ (line ++ 10 ∷ []) → Tells a c (line ++ 10 ∷ [])
after_note a b c line note e = after_silence a b c (line ++ 10 ∷ []) note (line_told b c line [] e)

-- where a line feed parts a text
pub rest_utf8 : (rest after : List ℕ) (i j : ℕ) → IsUtf8 rest → FindsChar 10 rest (Some (i, j)) → after ≡ drop j rest → IsUtf8 after
rest_utf8 rest after i j u (none, found) e =
    subst IsUtf8 (sym (e ∙ ap (λ k. drop k rest) found.ends)) (IsUtf8-drop rest (i + len_utf8 10) u found.after)

pub parted : (rest line after : List ℕ) (i j : ℕ) → FindsChar 10 rest (Some (i, j)) → line ≡ take i rest → after ≡ drop j rest
    → rest ≡ line ++ 10 ∷ after
parted rest line after i j (none, found) l a =
    let e : drop i rest ≡ 10 ∷ drop j rest = drop_at_char 10 rest i j found (omega arith) in
    sym (ap (λ (x : List ℕ). x ++ 10 ∷ after) l ∙ ap (λ (x : List ℕ). take i rest ++ 10 ∷ x) a
    ∙ ap (λ (x : List ℕ). take i rest ++ x) (sym e) ∙ take-append-drop i rest)

-- a line more of a text that is told so far
pub line_more : (plain done rest line after : List ℕ) → plain ≡ done ++ rest → rest ≡ line ++ 10 ∷ after
    → plain ≡ (done ++ (line ++ 10 ∷ [])) ++ after
line_more plain done rest line after p r = p ∙ ap (λ (x : List ℕ). done ++ x) r ∙ sym (append_assoc done (line ++ 10 ∷ []) after
    ∙ ap (λ (x : List ℕ). done ++ x) (append_assoc line (10 ∷ []) after))
