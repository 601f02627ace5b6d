-- Keys written run by run.
use Rattle.std.proofs.Common.{◌≡◌, ◌≢◌, ℕ, ◌+◌, ◌≤◌, ◌<◌, List, [], ◌∷◌, ◌++◌, length, drop, get_or, refl, sym, ap, ◌∙◌, append_assoc, append-nil, arith}
use Rattle.std.specs.List.{flat_map}
use Rattle.std.proofs.lemmas.List.{drop_more, drop_all}
use Rattle.std.proofs.lemmas.Bool.{eq-eqb, ne_eqb}
use Rattle.x10_log.specs.Logs.{Run, run_word, runs, runs_from}

abbrev pub run_words : List Run → List ℕ
run_words rs = flat_map run_word rs

-- what is written, and the run that is counted with the keys behind it, are the whole
pub record AreCounted (whole out : List ℕ) (key count : ℕ) (keys : List ℕ) (at : ℕ) : Type 0 where
  pub is : out ++ run_words (runs_from key count (drop at keys)) ≡ whole
  pub few : count ≤ at

pub some_keys : (keys : List ℕ) → (length keys ≡ 0 → ⊥) → 0 < length keys
some_keys [] h = absurd (h refl)
some_keys (k ∷ ks) h = omega arith

pub one_counted : (out : List ℕ) (key : ℕ) (keys : List ℕ) → 0 < length keys → key ≡ get_or keys 0 0
    → AreCounted (out ++ run_words (runs keys)) out key 1 keys 1
one_counted out key [] some e = absurd (omega arith)
one_counted out key (k ∷ ks) some e = record {
  is = ap (λ (j : ℕ). out ++ run_words (runs_from j 1 ks)) e;
  few = omega arith;
}

pub same_run : (key count k : ℕ) (ks : List ℕ) → k ≡ key → runs_from key count (k ∷ ks) ≡ runs_from key (count + 1) ks
same_run key count k ks e = rw (eq-eqb k key e) refl

pub next_run : (key count k : ℕ) (ks : List ℕ) → k ≢ key → runs_from key count (k ∷ ks) ≡ (record { key = key; count = count }) ∷ runs_from k 1 ks
next_run key count k ks e = rw (ne_eqb k key e) refl

pub same_counted : (whole out : List ℕ) (key count : ℕ) (keys : List ℕ) (at : ℕ) → AreCounted whole out key count keys at → at < length keys
    → get_or keys at 0 ≡ key → AreCounted whole out key (count + 1) keys (at + 1)
same_counted whole out key count keys at a lt e = record {
  is = ap (λ (rs : List Run). out ++ run_words rs) (sym (same_run key count (get_or keys at 0) (drop (at + 1) keys) e))
      ∙ ap (λ (ks : List ℕ). out ++ run_words (runs_from key count ks)) (sym (drop_more keys at 0 lt)) ∙ a.is;
  few = omega (arith, a.few);
}

pub next_counted : (whole out new : List ℕ) (key count : ℕ) (keys : List ℕ) (at k : ℕ) → AreCounted whole out key count keys at → at < length keys
    → k ≡ get_or keys at 0 → k ≢ key → 0 < at → new ≡ out ++ run_word (record { key = key; count = count })
    → AreCounted whole new k 1 keys (at + 1)
next_counted whole out new key count keys at k a lt here e pos n =
    let rest = run_words (runs_from k 1 (drop (at + 1) keys)) in
    record {
      is = ap (λ (t : List ℕ). t ++ rest) n
          ∙ append_assoc out (run_word (record { key = key; count = count })) rest
          ∙ ap (λ (rs : List Run). out ++ run_words rs) (sym (next_run key count k (drop (at + 1) keys) e))
          ∙ ap (λ (j : ℕ). out ++ run_words (runs_from key count (j ∷ drop (at + 1) keys))) here
          ∙ ap (λ (ks : List ℕ). out ++ run_words (runs_from key count ks)) (sym (drop_more keys at 0 lt)) ∙ a.is;
      few = omega arith;
    }

pub last_counted : (whole out new : List ℕ) (key count : ℕ) (keys : List ℕ) (at : ℕ) → AreCounted whole out key count keys at → length keys ≤ at
    → new ≡ out ++ run_word (record { key = key; count = count }) → new ≡ whole
last_counted whole out new key count keys at a le n =
    n ∙ ap (λ (t : List ℕ). out ++ t) (sym (append-nil (run_word (record { key = key; count = count }))))
    ∙ ap (λ (ks : List ℕ). out ++ run_words (runs_from key count ks)) (sym (drop_all at keys le)) ∙ a.is
