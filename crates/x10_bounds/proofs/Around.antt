-- The regions around an instruction: a region determines the regions around it, and from one instruction to a later one
-- some regions are left and later ones are entered.
use Rattle.std.proofs.Common.{◌≡◌, ◌⊎◌, ℕ, zero, suc, ◌+◌, ◌<◌, ◌≤◌, Bool, true, false, ◌==◌, ◌&&◌, ◌||◌, List, [], ◌∷◌, ◌++◌, length, Option, Some, None, refl, sym, ap, subst, ◌∙◌, inl, inr, arith}
use Rattle.std.specs.Prelude.{nat_lt, slice_get}
use Rattle.x10_code.specs.declared.instr.Instr.{Instr}
use Rattle.x10_model.specs.Structure.{Region, Turning, Waiting, Atomic, opener_of, outside, passed, around, is_loop, same_openers, leaves_loops, depth_of}
use Rattle.x10_bounds.specs.Spots.{finishes_of, atomics_of, begins_before}
use Rattle.x10_bounds.proofs.Changes.{Change, change, opens, closes, keeps}

-- each region begins before a bound, and what is around it is what is around its opener
abbrev pub IsChain : List Instr → ℕ → List Region → Type 0
IsChain code bound [] = Unit {0}
IsChain code bound (r ∷ rs) = (opener_of r < bound) × (rs ≡ around code (opener_of r)) × IsChain code (opener_of r) rs

weaker : (code : List Instr) (a b : ℕ) (rs : List Region) → a ≤ b → IsChain code a rs → IsChain code b rs
weaker code a b [] le c = tt
weaker code a b (r ∷ rs) le c = (omega arith, c.1, c.2)

outside_chain : (code : List Instr) (bound : ℕ) (rs : List Region) → IsChain code bound rs → IsChain code bound (outside rs)
outside_chain code bound [] c = tt
outside_chain code bound (r ∷ rs) c = weaker code (opener_of r) bound rs (omega arith) c.2

after_chain : (code : List Instr) (pc : ℕ) (closed : Option ℕ) (after : List Region) → Change pc (around code pc) closed after
    → IsChain code pc (around code pc) → IsChain code (suc pc) after
after_chain code pc None after (opens r o) c =
    (omega (arith, o), ap (around code) (sym o), subst (λ n. IsChain code n (around code pc)) (sym o) c)
after_chain code pc closed after closes c = weaker code pc (suc pc) (outside (around code pc)) (omega arith)
    (outside_chain code pc (around code pc) c)
after_chain code pc None after keeps c = weaker code pc (suc pc) (around code pc) (omega arith) c

passed_chain : (code : List Instr) (pc : ℕ) (i : Option Instr) → IsChain code pc (around code pc)
    → IsChain code (suc pc) (passed i pc (around code pc))
passed_chain code pc None c = weaker code pc (suc pc) (around code pc) (omega arith) c
passed_chain code pc (Some i) c = after_chain code pc _ _ (change i.op pc i (around code pc)) c

pub chain : (code : List Instr) (pc : ℕ) → IsChain code pc (around code pc)
chain code zero = tt
chain code (suc pc) = passed_chain code pc (slice_get code pc) (chain code pc)

-- ---- from one instruction to a later one

-- what is left after the innermost k regions
abbrev pub left : ℕ → List Region → List Region
left zero rs = rs
left (suc k) rs = left k (outside rs)

outside-left : (k : ℕ) (rs : List Region) → outside (left k rs) ≡ left (suc k) rs
outside-left zero rs = refl
outside-left (suc k) rs = outside-left k (outside rs)

abbrev pub AllFrom : ℕ → List Region → Type 0
AllFrom pc [] = Unit {0}
AllFrom pc (r ∷ rs) = (pc ≤ opener_of r) × AllFrom pc rs

-- some innermost regions are left, and others entered from an instruction on
pub record IsLater (pc : ℕ) (from to : List Region) : Type 0 where
  pub entered : List Region
  pub count : ℕ
  pub is : to ≡ entered ++ left count from
  pub later : AllFrom pc entered

outside_later : (pc : ℕ) (from entered : List Region) (count : ℕ) → AllFrom pc entered → IsLater pc from (outside (entered ++ left count from))
outside_later pc from [] count a = record { entered = []; count = suc count; is = outside-left count from; later = tt }
outside_later pc from (r ∷ entered) count a = record { entered = entered; count = count; is = refl; later = a.1 }

after_later : (pc n : ℕ) (from to : List Region) (closed : Option ℕ) (after : List Region) → Change n to closed after → pc ≤ n
    → IsLater pc from to → IsLater pc from after
after_later pc n from to None after (opens r o) le h = record {
  entered = r ∷ h.entered;
  count = h.count;
  is = ap (λ (rs : List Region). r ∷ rs) h.is;
  later = (omega (arith, o, le), h.later);
}
after_later pc n from to closed after closes le h = subst (λ (rs : List Region). IsLater pc from (outside rs)) (sym h.is)
    (outside_later pc from h.entered h.count h.later)
after_later pc n from to None after keeps le h = h

passed_later : (o : Option Instr) (pc n : ℕ) (from to : List Region) → pc ≤ n → IsLater pc from to → IsLater pc from (passed o n to)
passed_later None pc n from to le h = h
passed_later (Some i) pc n from to le h = after_later pc n from to _ _ (change i.op n i to) le h

same_or_below : (pc x : ℕ) → pc ≤ suc x → (pc ≡ suc x) ⊎ (pc ≤ x)
same_or_below pc x le = grind arith

here_later : (pc : ℕ) (from : List Region) → IsLater pc from from
here_later pc from = record { entered = []; count = 0; is = refl; later = tt }

pub is_later : (code : List Instr) (pc x : ℕ) → pc ≤ x → IsLater pc (around code pc) (around code x)
is_later code pc zero le = let e : pc ≡ 0 = omega arith in subst (λ n. IsLater pc (around code pc) (around code n)) e (here_later pc (around code pc))
is_later code pc (suc x) le = elim (same_or_below pc x le) [
  | inl e ↦ subst (λ n. IsLater pc (around code pc) (around code n)) e (here_later pc (around code pc))
  | inr below ↦ passed_later (slice_get code x) pc x (around code pc) (around code x) below (is_later code pc x below)
]

-- ---- which jumps leave loops alone

or_false : (b : Bool) → (b || false) ≡ b
or_false true = refl
or_false false = refl

and_false : (b : Bool) → (b && false) ≡ false
and_false true = refl
and_false false = refl

eq_self : (n : ℕ) → (n == n) ≡ true
eq_self n = grind arith

not_eq : (a b : ℕ) → a < b → (a == b) ≡ false
not_eq a b lt = grind arith

same-self : (rs : List Region) → same_openers rs rs ≡ true
same-self [] = refl
same-self (r ∷ rs) = rw (eq_self (opener_of r)) (same-self rs)

leaves-self : (rs : List Region) → leaves_loops rs rs ≡ true
leaves-self [] = refl
leaves-self (r ∷ rs) = ap (λ b. b || (is_loop r && leaves_loops rs (r ∷ rs))) (same-self (r ∷ rs))

left-nothing : (k : ℕ) → left k [] ≡ []
left-nothing zero = refl
left-nothing (suc k) = left-nothing k

length-left : (k : ℕ) (rs : List Region) → length (left k rs) ≤ length rs
length-left zero rs = omega arith
length-left (suc k) [] = length-left k []
length-left (suc k) (r ∷ rs) = let h : length (left k rs) ≤ length rs = length-left k rs in omega arith

finishes-left : (k : ℕ) (rs : List Region) → finishes_of (left k rs) ≤ finishes_of rs
finishes-left zero rs = omega arith
finishes-left (suc k) [] = finishes-left k []
finishes-left (suc k) (Turning o l ∷ rs) = finishes-left k rs
finishes-left (suc k) (Waiting o ∷ rs) = let h : finishes_of (left k rs) ≤ finishes_of rs = finishes-left k rs in omega arith
finishes-left (suc k) (Atomic o ∷ rs) = finishes-left k rs

atomics-left : (k : ℕ) (rs : List Region) → atomics_of (left k rs) ≤ atomics_of rs
atomics-left zero rs = omega arith
atomics-left (suc k) [] = atomics-left k []
atomics-left (suc k) (Turning o l ∷ rs) = atomics-left k rs
atomics-left (suc k) (Waiting o ∷ rs) = atomics-left k rs
atomics-left (suc k) (Atomic o ∷ rs) = let h : atomics_of (left k rs) ≤ atomics_of rs = atomics-left k rs in omega arith

shorter : (rs ts : List Region) → length ts < length rs → same_openers rs ts ≡ false
shorter [] ts lt = absurd (omega arith)
shorter (r ∷ rs) [] lt = refl
shorter (r ∷ rs) (t ∷ ts) lt = rw (shorter rs ts (omega arith)) (and_false (opener_of r == opener_of t))

-- as many finishes and as many atomic regions
abbrev pub same_kept : List Region → List Region → Bool
same_kept rs ts = (finishes_of rs == finishes_of ts) && (atomics_of rs == atomics_of ts)

kept_self : (rs : List Region) → same_kept rs rs ≡ true
kept_self rs = rw (eq_self (finishes_of rs), eq_self (atomics_of rs)) refl

leaves-left : (k : ℕ) (rs : List Region) → leaves_loops rs (left k rs) ≡ same_kept rs (left k rs)
leaves-left zero rs = leaves-self rs ∙ sym (kept_self rs)
leaves-left (suc k) [] = rw (left-nothing k) refl
leaves-left (suc k) (Turning o l ∷ rs) =
    let h : length (left k rs) ≤ length rs = length-left k rs in
    let s : same_openers (Turning o l ∷ rs) (left k rs) ≡ false = shorter (Turning o l ∷ rs) (left k rs) (omega arith) in
    ap (λ b. b || leaves_loops rs (left k rs)) s ∙ leaves-left k rs
leaves-left (suc k) (Waiting o ∷ rs) =
    let h : length (left k rs) ≤ length rs = length-left k rs in
    let s : same_openers (Waiting o ∷ rs) (left k rs) ≡ false = shorter (Waiting o ∷ rs) (left k rs) (omega arith) in
    let f : finishes_of (left k rs) ≤ finishes_of rs = finishes-left k rs in
    let d : (finishes_of rs + 1 == finishes_of (left k rs)) ≡ false = grind arith in
    ap (λ b. b || false) s ∙ sym (ap (λ b. b && (atomics_of rs == atomics_of (left k rs))) d)
leaves-left (suc k) (Atomic o ∷ rs) =
    let h : length (left k rs) ≤ length rs = length-left k rs in
    let s : same_openers (Atomic o ∷ rs) (left k rs) ≡ false = shorter (Atomic o ∷ rs) (left k rs) (omega arith) in
    let f : atomics_of (left k rs) ≤ atomics_of rs = atomics-left k rs in
    let d : (atomics_of rs + 1 == atomics_of (left k rs)) ≡ false = grind arith in
    ap (λ b. b || false) s ∙ sym (ap (λ b. (finishes_of rs == finishes_of (left k rs)) && b) d
    ∙ and_false (finishes_of rs == finishes_of (left k rs)))

-- no region that begins at a jump or after it is reached
leaves-later : (code : List Instr) (pc : ℕ) (rs : List Region) (t : Region) (ts : List Region) → IsChain code pc rs → pc ≤ opener_of t
    → leaves_loops rs (t ∷ ts) ≡ false
leaves-later code pc [] t ts c le = refl
leaves-later code pc (r ∷ rs) t ts c le =
    let d : (opener_of r == opener_of t) ≡ false = not_eq (opener_of r) (opener_of t) (omega arith) in
    let h : leaves_loops rs (t ∷ ts) ≡ false = leaves-later code pc rs t ts (weaker code (opener_of r) pc rs (omega arith) c.2) le in
    rw (d, h) (and_false (is_loop r))

before_or_not : (a b : ℕ) → ((a < b) × (nat_lt a b ≡ true)) ⊎ ((b ≤ a) × (nat_lt a b ≡ false))
before_or_not a b = grind arith

left_before : (code : List Instr) (pc k : ℕ) (rs : List Region) → IsChain code pc rs → begins_before (left k rs) pc ≡ true
left_before code pc zero [] c = refl
left_before code pc zero (r ∷ rs) c = let lt : opener_of r < pc = c.0 in grind arith
left_before code pc (suc k) rs c = left_before code pc k (outside rs) (outside_chain code pc rs c)

leaves_from : (code : List Instr) (pc : ℕ) (from entered : List Region) (count : ℕ) → IsChain code pc from → AllFrom pc entered
    → leaves_loops from (entered ++ left count from) ≡ (begins_before (entered ++ left count from) pc && same_kept from (entered ++ left count from))
leaves_from code pc from [] count c a = leaves-left count from
    ∙ ap (λ b. b && same_kept from (left count from)) (sym (left_before code pc count from c))
leaves_from code pc from (t ∷ entered) count c a =
    let le : pc ≤ opener_of t = a.0 in
    let n : nat_lt (opener_of t) pc ≡ false = grind arith in
    leaves-later code pc from t (entered ++ left count from) c le ∙ ap (λ b. b && same_kept from ((t ∷ entered) ++ left count from)) (sym n)

-- a forward jump leaves loops alone exactly where the target's innermost region begins before the jump, and as many
-- finishes and atomic regions are around both
pub leaves-around : (code : List Instr) (pc x : ℕ) → pc ≤ x → leaves_loops (around code pc) (around code x)
    ≡ (begins_before (around code x) pc && same_kept (around code pc) (around code x))
leaves-around code pc x le =
    let h : IsLater pc (around code pc) (around code x) = is_later code pc x le in
    subst (λ (rs : List Region). leaves_loops (around code pc) rs ≡ (begins_before rs pc && same_kept (around code pc) rs)) (sym h.is)
    (leaves_from code pc (around code pc) h.entered h.count (chain code pc) h.later)

-- ---- how many regions

outside-count : (n : ℕ) (rs : List Region) → length rs ≤ n → length (outside rs) ≤ suc n
outside-count n [] le = omega arith
outside-count n (r ∷ rs) le = omega arith

after-count : (n : ℕ) (rs : List Region) (closed : Option ℕ) (after : List Region) → Change n rs closed after → length rs ≤ n → length after ≤ suc n
after-count n rs None after (opens r o) le = omega arith
after-count n rs closed after closes le = outside-count n rs le
after-count n rs None after keeps le = omega arith

passed-count : (o : Option Instr) (n : ℕ) (rs : List Region) → length rs ≤ n → length (passed o n rs) ≤ suc n
passed-count None n rs le = omega arith
passed-count (Some i) n rs le = after-count n rs _ _ (change i.op n i rs) le

length-around : (code : List Instr) (pc : ℕ) → length (around code pc) ≤ pc
length-around code zero = omega arith
length-around code (suc pc) = passed-count (slice_get code pc) pc (around code pc) (length-around code pc)

counts : (rs : List Region) → depth_of rs + finishes_of rs + atomics_of rs ≡ length rs
counts [] = refl
counts (Turning o l ∷ rs) = let h : depth_of rs + finishes_of rs + atomics_of rs ≡ length rs = counts rs in omega arith
counts (Waiting o ∷ rs) = let h : depth_of rs + finishes_of rs + atomics_of rs ≡ length rs = counts rs in omega arith
counts (Atomic o ∷ rs) = let h : depth_of rs + finishes_of rs + atomics_of rs ≡ length rs = counts rs in omega arith

-- an instruction stands in at most as many regions as its number says
pub counts-around : (code : List Instr) (pc : ℕ) → depth_of (around code pc) + finishes_of (around code pc) + atomics_of (around code pc) ≤ pc
counts-around code pc = let e : depth_of (around code pc) + finishes_of (around code pc) + atomics_of (around code pc) ≡ length (around code pc) =
    counts (around code pc) in let h : length (around code pc) ≤ pc = length-around code pc in omega arith
