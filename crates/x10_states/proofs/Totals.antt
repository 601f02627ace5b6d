-- What a place has counted, as lists tell it.
use Rattle.std.proofs.Common.{◌≡◌, ℕ, List, ◌++◌, Result, Ok, Err, OnOk, slice_index, ap, ap₂, ◌∙◌, codes}
use Rattle.std.specs.Prelude.{decimal}
use Rattle.x10_model.specs.Totals.{Totals}
use Rattle.x10_states.proofs.Elements.{same_elements}
use Rattle.x10_states.specs.Stays.{counts_text, totals_in, totals_text}

same_counts : (before : List ℕ) (n : ℕ) (f g : ℕ → ℕ) (behind : List ℕ) → ((p : ℕ) → f p ≡ g p)
    → counts_text before n f behind ≡ counts_text before n g behind
unfolding counts_text
same_counts before n f g behind h =
    ap (λ (t : List ℕ). before ++ (t ++ behind)) (same_elements n (λ p. decimal (f p)) (λ p. decimal (g p)) (λ p. ap decimal (h p)))

same_text : (n live : ℕ) (sent received : List ℕ) (t : Totals) → live ≡ t.live → ((p : ℕ) → slice_index sent p ≡ t.sent p)
    → ((p : ℕ) → slice_index received p ≡ t.received p) → totals_text n (totals_in live sent received) ≡ totals_text n t
unfolding totals_text
same_text n live sent received t l s r =
    ap (λ (k : ℕ). codes ",\"live\":" ++ (decimal k ++ (counts_text (codes ",\"sent\":[") n (slice_index sent) (codes "]")
    ++ counts_text (codes ",\"received\":[") n (slice_index received) (codes "]}")))) l
    ∙ ap₂ (λ (a b : List ℕ). codes ",\"live\":" ++ (decimal t.live ++ (a ++ b)))
    (same_counts (codes ",\"sent\":[") n (slice_index sent) t.sent (codes "]") s)
    (same_counts (codes ",\"received\":[") n (slice_index received) t.received (codes "]}") r)

pub counted : {E : Type 0} {A : Type 0} (result : Result A E) (n places live : ℕ) (sent received : List ℕ) (t : Totals) (old new : List ℕ) → n ≡ places
    → live ≡ t.live → ((p : ℕ) → slice_index sent p ≡ t.sent p) → ((p : ℕ) → slice_index received p ≡ t.received p)
    → OnOk result (new ≡ old ++ totals_text n (totals_in live sent received)) → OnOk result (new ≡ old ++ totals_text places t)
counted (Ok x) n places live sent received t old new e l s r h =
    h ∙ ap (λ (b : List ℕ). old ++ b) (same_text n live sent received t l s r ∙ ap (λ (k : ℕ). totals_text k t) e)
counted (Err x) n places live sent received t old new e l s r h = h
