-- What is counted of entries, where the book changes or there is one more.
use Rattle.std.proofs.Common.{◌≡◌, ◌≢◌, ℕ, zero, suc, ◌+◌, ◌≤◌, ◌==◌, max, Bool, true, false, List, [], ◌∷◌, ◌++◌, ◌⊎◌, length, Some, refl, sym, ap, ◌∙◌, inl, inr, arith, if◌then◌else◌}
use Rattle.std.specs.Prelude.{slice_get}
use Rattle.std.proofs.lemmas.Bool.{cases_eq, eq-eqb, ne_eqb}
use Rattle.std.proofs.lemmas.Option.{same_Some}
use Rattle.x10_model.specs.Worlds as machine
use Rattle.x10_model.specs.Worlds.{Book, counted}
use Rattle.x10_model.proofs.Maps.{at_equal_key, off_key}
use Rattle.x10_stats.specs.Entries.{Entry, how_many, most_steps, one_of, steps_of, told_as}

-- two activities began with the same function and have made as many steps
abbrev pub IsSame : machine.Activity → machine.Activity → Type 0
IsSame old new = (new.function ≡ old.function) × (new.steps ≡ old.steps)

-- so the activity of each entry has in another book
abbrev pub AreSame : Book → Book → List Entry → Type 0
AreSame old new entries = (n : ℕ) (e : Entry) → slice_get entries n ≡ Some e
    → IsSame (old.activities e.activity) (new.activities e.activity)

rest_same : (old new : Book) (e : Entry) (es : List Entry) → AreSame old new (e ∷ es) → AreSame old new es
rest_same old new e es same n f is = same (suc n) f is

one_is : (a b : machine.Activity) (f : ℕ) → IsSame a b → one_of b f ≡ one_of a f
one_is a b f same = ap {B = ℕ} (λ g. if g == f then 1 else 0) same.0

steps_are : (a b : machine.Activity) (f : ℕ) → IsSame a b → steps_of b f ≡ steps_of a f
steps_are a b f same =
    ap (λ g. if g == f then b.steps else 0) same.0 ∙ ap (λ n. if a.function == f then n else 0) same.1

pub told_is : (a b : machine.Activity) (n place : ℕ) → IsSame a b → told_as b n place ≡ told_as a n place
told_is a b n place same = λ i. record { number = n; place = place; function = same.0 i; steps = same.1 i }

pub many_same : (old new : Book) (f : ℕ) (entries : List Entry) → AreSame old new entries → how_many new f entries ≡ how_many old f entries
many_same old new f [] same = refl
many_same old new f (e ∷ es) same =
    let rest = many_same old new f es (rest_same old new e es same) in
    let this = one_is (old.activities e.activity) (new.activities e.activity) f (same 0 e refl) in
    omega (arith, rest, this)

pub most_same : (old new : Book) (f : ℕ) (entries : List Entry) → AreSame old new entries → most_steps new f entries ≡ most_steps old f entries
most_same old new f [] same = refl
most_same old new f (e ∷ es) same =
    let rest = most_same old new f es (rest_same old new e es same) in
    let this = steps_are (old.activities e.activity) (new.activities e.activity) f (same 0 e refl) in
    omega (arith, rest, this)

-- ---- one entry more

pub many_more : (book : Book) (f : ℕ) (entries : List Entry) (e : Entry)
    → how_many book f (entries ++ e ∷ []) ≡ how_many book f entries + one_of (book.activities e.activity) f
many_more book f [] e = omega arith
many_more book f (x ∷ es) e = let rest = many_more book f es e in omega (arith, rest)

pub most_more : (book : Book) (f : ℕ) (entries : List Entry) (e : Entry)
    → most_steps book f (entries ++ e ∷ []) ≡ max (most_steps book f entries) (steps_of (book.activities e.activity) f)
most_more book f [] e = omega arith
most_more book f (x ∷ es) e = let rest = most_more book f es e in omega (arith, rest)

if_none : (b : Bool) (n : ℕ) → n ≡ 0 → (if b then n else 0) ≡ 0
if_none true n e = e
if_none false n e = refl

-- one that has made no step yet
pub no_steps : (a : machine.Activity) (f : ℕ) → a.steps ≡ 0 → steps_of a f ≡ 0
no_steps a f none = if_none (a.function == f) a.steps none

pub one_same : (a : machine.Activity) (f : ℕ) → a.function ≡ f → one_of a f ≡ 1
one_same a f e = ap (λ b. if b then 1 else 0) (eq-eqb a.function f e)

pub one_other : (a : machine.Activity) (f : ℕ) → a.function ≢ f → one_of a f ≡ 0
one_other a f apart = ap (λ b. if b then 1 else 0) (ne_eqb a.function f apart)

steps_same : (a : machine.Activity) (f : ℕ) → a.function ≡ f → steps_of a f ≡ a.steps
steps_same a f e = ap (λ b. if b then a.steps else 0) (eq-eqb a.function f e)

steps_other : (a : machine.Activity) (f : ℕ) → a.function ≢ f → steps_of a f ≡ 0
steps_other a f apart = ap (λ b. if b then a.steps else 0) (ne_eqb a.function f apart)

if_few : (b : Bool) → (if b then 1 else 0) ≤ 1
if_few true = omega arith
if_few false = omega arith

one_few : (a : machine.Activity) (f : ℕ) → one_of a f ≤ 1
one_few a f = if_few (a.function == f)

pub many_few : (book : Book) (f : ℕ) (entries : List Entry) → how_many book f entries ≤ length entries
many_few book f [] = omega arith
many_few book f (e ∷ es) =
    let rest = many_few book f es in
    let this = one_few (book.activities e.activity) f in
    omega (arith, rest, this)

-- ---- one step more of an activity

pub stepped_here : (book : Book) (a b : ℕ) → b ≡ a
    → (counted book a).activities b ≡ record (book.activities a) { steps = (book.activities a).steps + 1 }
stepped_here book a b same = at_equal_key book.activities a b _ same

pub stepped_off : (book : Book) (a b : ℕ) → b ≢ a → (counted book a).activities b ≡ book.activities b
stepped_off book a b apart = off_key book.activities a b _ apart

function_counted : (book : Book) (a b : ℕ) → ((counted book a).activities b).function ≡ (book.activities b).function
function_counted book a b = elim (cases_eq b a) [
  | inl same ↦ ap (λ (x : machine.Activity). x.function) (stepped_here book a b same) ∙ sym (ap (λ i. (book.activities i).function) same)
  | inr apart ↦ ap (λ (x : machine.Activity). x.function) (stepped_off book a b apart)
]

pub many_counted : (book : Book) (a f : ℕ) (entries : List Entry) → how_many (counted book a) f entries ≡ how_many book f entries
many_counted book a f [] = refl
many_counted book a f (e ∷ es) =
    let rest = many_counted book a f es in
    let this = ap {B = ℕ} (λ g. if g == f then 1 else 0) (function_counted book a e.activity) in
    omega (arith, rest, this)

-- the activity is among the entries
abbrev pub IsEntered : List Entry → ℕ → Type 0
IsEntered entries a = (n : ℕ) × (e : Entry) × (slice_get entries n ≡ Some e) × (e.activity ≡ a)

steps_of_other : (book : Book) (a f b : ℕ) → (book.activities a).function ≢ f
    → steps_of ((counted book a).activities b) f ≡ steps_of (book.activities b) f
steps_of_other book a f b apart = elim (cases_eq b a) [
  | inl same ↦
      let here : (book.activities b).function ≢ f = λ e. apart (ap (λ i. (book.activities i).function) (sym same) ∙ e) in
      steps_other ((counted book a).activities b) f (λ e. here (sym (function_counted book a b) ∙ e)) ∙ sym (steps_other (book.activities b) f here)
  | inr off ↦ ap (λ (x : machine.Activity). steps_of x f) (stepped_off book a b off)
]

-- its function is another one
pub most_other : (book : Book) (a f : ℕ) (entries : List Entry) → (book.activities a).function ≢ f
    → most_steps (counted book a) f entries ≡ most_steps book f entries
most_other book a f [] apart = refl
most_other book a f (e ∷ es) apart =
    let rest = most_other book a f es apart in
    let this = steps_of_other book a f e.activity apart in
    omega (arith, rest, this)

steps_of_here : (book : Book) (a f b : ℕ) → (book.activities a).function ≡ f → b ≡ a
    → (steps_of ((counted book a).activities b) f ≡ (book.activities a).steps + 1) × (steps_of (book.activities b) f ≡ (book.activities a).steps)
steps_of_here book a f b is same = (
  ap (λ (x : machine.Activity). steps_of x f) (stepped_here book a b same) ∙ steps_same (record (book.activities a) { steps = (book.activities a).steps + 1 }) f is,
  ap (λ i. steps_of (book.activities i) f) same ∙ steps_same (book.activities a) f is,
)

not_entered : (e : Entry) (es : List Entry) (a : ℕ) → e.activity ≢ a → (IsEntered es a → ⊥) → IsEntered (e ∷ es) a → ⊥
not_entered e es a apart none (zero, x, is, same) = apart (ap (λ (y : Entry). y.activity) (same_Some e x is) ∙ same)
not_entered e es a apart none (suc n, x, is, same) = none (n, x, is, same)

-- or it is this one
most_with : (book : Book) (a f : ℕ) (entries : List Entry) → (book.activities a).function ≡ f
    → (most_steps (counted book a) f entries ≡ max (most_steps book f entries) ((book.activities a).steps + 1))
    ⊎ ((most_steps (counted book a) f entries ≡ most_steps book f entries) × (IsEntered entries a → ⊥))
most_with book a f [] is = inr (refl, λ h. absurd (let e = h.2 in cc))
most_with book a f (e ∷ es) is = elim (most_with book a f es is) [
  | inl rest ↦ elim (cases_eq e.activity a) [
    | inl same ↦ inl (let this = steps_of_here book a f e.activity is same in omega (arith, rest, this.0, this.1))
    | inr apart ↦ inl
        (let this = ap (λ (x : machine.Activity). steps_of x f) (stepped_off book a e.activity apart) in
        omega (arith, rest, this))
  ]
  | inr rest ↦ elim (cases_eq e.activity a) [
    | inl same ↦ inl (let this = steps_of_here book a f e.activity is same in omega (arith, rest.0, this.0, this.1))
    | inr apart ↦ inr (
      (let this = ap (λ (x : machine.Activity). steps_of x f) (stepped_off book a e.activity apart) in
          omega (arith, rest.0, this)),
      not_entered e es a apart rest.1,
    )
  ]
]

pub most_counted : (book : Book) (a f : ℕ) (entries : List Entry) → (book.activities a).function ≡ f → IsEntered entries a
    → most_steps (counted book a) f entries ≡ max (most_steps book f entries) ((book.activities a).steps + 1)
most_counted book a f entries is entered = elim (most_with book a f entries is) [
  | inl most ↦ most
  | inr none ↦ absurd (none.1 entered)
]
