-- Taking in a report, place by place.
use Rattle.std.proofs.Common.{◌≡◌, ◌≤◌, ◌<◌, ℕ, ◌+◌, ◌==◌, ◌&&◌, nat_lt, max, Bool, true, false, if◌then◌else◌, List, slice_index, refl, sym, ◌∙◌, ap, arith}
use Rattle.std.proofs.lemmas.Bool.Decides.{nat_tests}
use Rattle.x10_finish.specs.declared.pairs.Pair.{Pair}
use Rattle.x10_finish.specs.Pairs.{raised_at, merged_to}

-- each number of a pair that is raised
raised_sent : (t : Bool) (p by : Pair) → (let r : Pair = if t then record { sent = max p.sent by.sent; received = max p.received by.received } else
    p in r.sent) ≡ (if t then max p.sent by.sent else p.sent)
raised_sent true p by = refl
raised_sent false p by = refl

raised_received : (t : Bool) (p by : Pair) → (let r : Pair = if t then record { sent = max p.sent by.sent; received = max p.received by.received }
    else p in r.received) ≡ (if t then max p.received by.received else p.received)
raised_received true p by = refl
raised_received false p by = refl

nothing_more : (t : Bool) (n : ℕ) → (if t then max n 0 else n) ≡ n
nothing_more true n = omega arith
nothing_more false n = refl

-- one number more
one_more : (here b q m o n : ℕ) (t : Bool) → m ≡ (if t && nat_lt b q then max o n else o) → (b ≡ q → here ≡ n)
    → (if t && (b == q) then max m here else m) ≡ (if t && nat_lt b (q + 1) then max o n else o)
one_more here b q m o n true e f = grind (arith, nat_tests)
one_more here b q m o n false e f = e

swapped : (s t : Bool) (x y : ℕ) → (if s && t then x else y) ≡ (if t && s then x else y)
swapped true true x y = refl
swapped true false x y = refl
swapped false true x y = refl
swapped false false x y = refl

-- a record's two numbers
same_pair : (p q : Pair) → p.sent ≡ q.sent → p.received ≡ q.received → p ≡ q
same_pair p q e f = λ i. record { sent = e i; received = f i }

-- the same pair is raised to the same
pub raised_same : (from to : ℕ) (by : Pair) (f g : ℕ → ℕ → Pair) (a b : ℕ) → f a b ≡ g a b → raised_at from to by f a b ≡ raised_at from to by g a b
raised_same from to by f g a b e = ap (λ (p : Pair). if a == from && b == to then
    (record { sent = max p.sent by.sent; received = max p.received by.received }) else p) e

pub merged_more : (place : ℕ) (sent received : List ℕ) (q : ℕ) (old before mid after : ℕ → ℕ → Pair) (s r : ℕ)
    → ((a b : ℕ) → before a b ≡ merged_to place sent received q old a b)
    → s ≡ slice_index sent q → r ≡ slice_index received q
    → ((a b : ℕ) → mid a b ≡ raised_at place q (record { sent = s; received = 0 }) before a b)
    → ((a b : ℕ) → after a b ≡ raised_at q place (record { sent = 0; received = r }) mid a b)
    → (a b : ℕ) → after a b ≡ merged_to place sent received (q + 1) old a b
merged_more place sent received q old before mid after s r h es er hs hr a b = same_pair (after a b) (merged_to place sent received (q + 1) old a b)
    (ap (λ (p : Pair). p.sent) (hr a b) ∙ raised_sent (a == q && b == place) (mid a b) (record { sent = 0; received = r })
    ∙ nothing_more (a == q && b == place) (mid a b).sent
    ∙ ap (λ (p : Pair). p.sent) (hs a b) ∙ raised_sent (a == place && b == q) (before a b) (record { sent = s; received = 0 })
    ∙ one_more s b q (before a b).sent (old a b).sent (slice_index sent b) (a == place) (ap (λ (p : Pair). p.sent) (h a b))
    (λ e. es ∙ ap (slice_index sent) (sym e)))
    (ap (λ (p : Pair). p.received) (hr a b) ∙ raised_received (a == q && b == place) (mid a b) (record { sent = 0; received = r })
    ∙ swapped (a == q) (b == place) _ _
    ∙ one_more r a q (mid a b).received (old a b).received (slice_index received a) (b == place)
    (ap (λ (p : Pair). p.received) (hs a b) ∙ raised_received (a == place && b == q) (before a b) (record { sent = s; received = 0 })
    ∙ nothing_more (a == place && b == q) (before a b).received ∙ ap (λ (p : Pair). p.received) (h a b))
    (λ e. er ∙ ap (slice_index received) (sym e)))

-- counts that are 0 change nothing
past_cases : (u v : Bool) (o m : ℕ) → (u ≡ false → v ≡ true → m ≡ 0) → (u ≡ true → v ≡ true) → (if u then max o m else o) ≡ (if v then max o m else o)
past_cases true true o m f g = refl
past_cases true false o m f g = let h : false ≡ true = g refl in absurd cc
past_cases false true o m f g = let h : m ≡ 0 = f refl refl in omega (arith, h)
past_cases false false o m f g = refl

past_if : (t : Bool) (b p q m o : ℕ) → p ≤ q → (p ≤ b → b < q → m ≡ 0)
    → (if t && nat_lt b p then max o m else o) ≡ (if t && nat_lt b q then max o m else o)
past_if true b p q m o le f = past_cases (nat_lt b p) (nat_lt b q) o m
    (λ e h. let low : p ≤ b = grind (arith, nat_tests, e) in let high : b < q = grind (arith, nat_tests, h) in f low high)
    (λ e. let low : b < p = grind (arith, nat_tests, e) in grind (arith, nat_tests, low, le))
past_if false b p q m o le f = refl

pub merged_past : (place : ℕ) (sent received : List ℕ) (p q : ℕ) (old : ℕ → ℕ → Pair) → p ≤ q
    → ((k : ℕ) → p ≤ k → k < q → slice_index sent k ≡ 0)
    → ((k : ℕ) → p ≤ k → k < q → slice_index received k ≡ 0)
    → (a b : ℕ) → merged_to place sent received p old a b ≡ merged_to place sent received q old a b
merged_past place sent received p q old le s r a b = same_pair (merged_to place sent received p old a b) (merged_to place sent received q old a b)
    (past_if (a == place) b p q (slice_index sent b) (old a b).sent le (s b))
    (past_if (b == place) a p q (slice_index received a) (old a b).received le (r a))

-- nothing was taken in yet
none_if : (t : Bool) (b x y : ℕ) → (if t && nat_lt b 0 then x else y) ≡ y
none_if true b x y = grind (arith, nat_tests)
none_if false b x y = refl

pub merged_none : (place : ℕ) (sent received : List ℕ) (old : ℕ → ℕ → Pair) (a b : ℕ) → old a b ≡ merged_to place sent received 0 old a b
merged_none place sent received old a b = same_pair (old a b) (merged_to place sent received 0 old a b)
    (sym (none_if (a == place) b _ (old a b).sent)) (sym (none_if (b == place) a _ (old a b).received))
