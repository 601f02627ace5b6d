-- Which events of a run are shown.
use Rattle.std.proofs.Common.{◌≡◌, ℕ, zero, suc, ◌+◌, ◌-◌, ◌<◌, ◌≤◌, List, [], ◌∷◌, ◌++◌, length, Option, Some, None, refl, sym, ap, subst, ◌∙◌, inl, inr, arith}
use Rattle.std.proofs.lemmas.List.{length-append}
use Rattle.std.specs.Prelude.{◌⊎◌, option_map, unwrap_or}
use Rattle.x10_model.specs.declared.event.Event.{Event}
use Rattle.x10_task.specs.declared.task.Window.{Window}
use Rattle.x10_cli.specs.Windows.{IsReached, IsWindow, IsWithin}

-- not all were skipped that should be, since there are no more
pub none_in : (w : Window) (n : ℕ) → n ≤ w.from - 1 → IsWindow w n 0
none_in w n few = record { few = few; begins = inr refl; within = inr refl }

-- all were
pub begun : (k n : ℕ) → n ≤ k → (n < k → ⊥) → n ≡ k
begun k n few more = omega (arith, few, more)

pub within_less : (to : Option ℕ) (n last : ℕ) → n ≤ last → IsWithin to last → IsWithin to n
within_less None n last less h = tt
within_less (Some to) n last less h = omega (arith, less, h)

pub reached_more : (to : Option ℕ) (n last : ℕ) → last ≤ n → IsReached to last → IsReached to n
reached_more None n last more h = h
reached_more (Some to) n last more h = omega (arith, more, h)

-- so many are shown, up to a last one within the window
pub shown_in : (w : Window) (n len last : ℕ) → n ≤ w.from - 1 → (n < w.from - 1 → ⊥) → IsWithin w.to last → n + len ≤ last ⊎ (len ≡ 0)
    → IsWindow w n len
shown_in w n len last few more within (inl less) = record {
  few = few;
  begins = inl (begun (w.from - 1) n few more);
  within = inl (within_less w.to (n + len) last less within);
}
shown_in w n len last few more within (inr none) = record { few = few; begins = inl (begun (w.from - 1) n few more); within = inr none }

-- ---- one event more

pub one_longer : (events : List Event) (event : Event) (n : ℕ) → length events ≡ n → length (events ++ event ∷ []) ≡ n + 1
one_longer events event n count = length-append events (event ∷ []) ∙ ap (λ k. k + 1) count

pub one_more : (events : List Event) (event : Event) (n made : ℕ) → n + length events ≡ made → n + length (events ++ event ∷ []) ≡ made + 1
one_more events event n made count =
    let longer = one_longer events event (length events) refl in
    omega (arith, longer, count)

-- ---- as many as are left of a log

within_next : (to : Option ℕ) (n : ℕ) → (option_map (λ t. t - n) to ≡ Some 0 → ⊥) → IsWithin to (n + 1)
within_next None n some = tt
within_next (Some to) n some = at (to - n) refl
  where
    at : (k : ℕ) → to - n ≡ k → n + 1 ≤ to
    at zero is = absurd (some (ap Some is))
    at (suc k) is = omega (arith, is)

reached_now : (to : Option ℕ) (n : ℕ) → option_map (λ t. t - n) to ≡ Some 0 → IsReached to n
reached_now None n none = absurd cc
reached_now (Some to) n none =
    let over : to - n ≡ 0 = ap (λ (left : Option ℕ). unwrap_or left 1) none in
    omega (arith, over)

fewer_left : (to : Option ℕ) (n : ℕ) → option_map (λ k. k - 1) (option_map (λ t. t - n) to) ≡ option_map (λ t. t - (n + 1)) to
fewer_left None n = refl
fewer_left (Some to) n = ap Some (omega arith)

pub left_at_first : (to : Option ℕ) (n : ℕ) (left : Option ℕ) → left ≡ option_map (λ t. t - n) to → left ≡ option_map (λ t. t - (n + 0)) to
left_at_first to n left is = is ∙ ap (λ k. option_map (λ t. t - k) to) (omega arith)

pub left_more : (to : Option ℕ) (n : ℕ) (made : List Event) (event : Event) (left less : Option ℕ)
    → left ≡ option_map (λ t. t - (n + length made)) to → less ≡ option_map (λ k. k - 1) left
    → less ≡ option_map (λ t. t - (n + length (made ++ event ∷ []))) to
left_more to n made event left less is fewer =
    fewer ∙ ap (λ o. option_map (λ k. k - 1) o) is ∙ fewer_left to (n + length made)
    ∙ ap (λ k. option_map (λ t. t - k) to) (sym (one_more made event n (n + length made) refl))

pub within_more : (to : Option ℕ) (n : ℕ) (made : List Event) (event : Event) (left : Option ℕ)
    → left ≡ option_map (λ t. t - (n + length made)) to → (left ≡ Some 0 → ⊥)
    → IsWithin to (n + length (made ++ event ∷ [])) ⊎ (length (made ++ event ∷ []) ≡ 0)
within_more to n made event left is some = inl (subst (λ k. IsWithin to k) (sym (one_more made event n (n + length made) refl))
    (within_next to (n + length made) (λ none. some (is ∙ none))))

pub none_left : (to : Option ℕ) (n : ℕ) (left : Option ℕ) → left ≡ option_map (λ t. t - n) to → left ≡ Some 0 → IsReached to n
none_left to n left is none = reached_now to n (sym is ∙ none)

pub shown_left : (w : Window) (n len : ℕ) → n ≤ w.from - 1 → (n < w.from - 1 → ⊥) → IsWithin w.to (n + len) ⊎ (len ≡ 0) → IsWindow w n len
shown_left w n len few more within = record { few = few; begins = inl (begun (w.from - 1) n few more); within = within }
