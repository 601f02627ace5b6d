-- A code has one operation, and so has a name.
use Rattle.std.proofs.Common.{◌≡◌, ℕ, suc, Bool, true, false, cond, eqb, List, [], ◌∷◌, Option, Some, None, refl, sym, ap, ◌∙◌, arith}
use Rattle.std.specs.Prelude.{find, Contains, IfSome}
use Rattle.std.specs.Str.{bytes_eq}
use Rattle.std.proofs.lemmas.Bool.{eqb-true}
use Rattle.std.proofs.lemmas.Slice.Eq.{bytes_eq-Decides}
use Rattle.x10_code.specs.declared.op.Op.{Op}
use Rattle.x10_code.specs.declared.op.Op.TheVariants as op
use Rattle.x10_code.specs.Table.{operations, code_of, name_of, op_of_name}
use Rattle.x10_code.specs.Spelling.{op_of}

-- each operation computes to itself, so a new one needs no line here
pub op_of-code_of : (o : Op) → op_of (code_of o) ≡ Some o
op_of-code_of op.Intk = refl
op_of-code_of _ = refl

pub op_of_name-name_of : (o : Op) → op_of_name (name_of o) ≡ Some o
op_of_name-name_of op.Intk = refl
op_of_name-name_of _ = refl

abbrev pub some_of : {X : Type 0} → X → Option X
some_of x = Some x

some_is : {X : Type 0} (x y : X) → some_of x ≡ some_of y → x ≡ y
some_is x y e = cc

first_passes : {X : Type 0} (p : X → Bool) (b : Bool) (y x : X) (other : Option X) → p y ≡ b → cond b (Some y) other ≡ Some x
    → (other ≡ Some x → p x ≡ true) → p x ≡ true
first_passes p true y x other passes e h = ap p (some_is x y (sym e)) ∙ passes
first_passes p false y x other passes e h = h e

-- what `find` finds passes the test
find_passes : {X : Type 0} (p : X → Bool) (xs : List X) (x : X) → find p xs ≡ Some x → p x ≡ true
find_passes p [] x e = absurd cc
find_passes p (y ∷ ys) x e = first_passes p (p y) y x (find p ys) refl e (find_passes p ys x)

contains_later : {X : Type 0} (y x : X) (ys : List X) → Contains ys x → Contains (y ∷ ys) x
contains_later y x ys (k, below, there) = (suc k, omega arith, there)

first_contains : {X : Type 0} (b : Bool) (y x : X) (ys : List X) (other : Option X) → cond b (Some y) other ≡ Some x
    → (other ≡ Some x → Contains ys x) → Contains (y ∷ ys) x
first_contains true y x ys other e h = (0, omega arith, some_is y x e)
first_contains false y x ys other e h = contains_later y x ys (h e)

-- what `find` finds is there
find_contains : {X : Type 0} (p : X → Bool) (xs : List X) (x : X) → find p xs ≡ Some x → Contains xs x
find_contains p [] x e = absurd cc
find_contains p (y ∷ ys) x e = first_contains (p y) y x ys (find p ys) e (find_contains p ys x)

pub code_of-op_of : (n : ℕ) (o : Op) → op_of n ≡ Some o → code_of o ≡ n
code_of-op_of n o e = eqb-true (code_of o) n (find_passes (λ o. eqb (code_of o) n) operations o e)

pub name_of-op_of_name : (text : List ℕ) (o : Op) → op_of_name text ≡ Some o → name_of o ≡ text
name_of-op_of_name text o e = (bytes_eq-Decides (name_of o) text).0 (find_passes (λ o. bytes_eq (name_of o) text) operations o e)

pub op_named_found : (text : List ℕ) (found : Option Op) → found ≡ op_of_name text → IfSome found (λ o. text ≡ name_of o)
op_named_found text None e = tt
op_named_found text (Some o) e = sym (name_of-op_of_name text o (sym e))

pub op_named_only : (text : List ℕ) (found : Option Op) (o : Op) → found ≡ op_of_name text → text ≡ name_of o → found ≡ Some o
op_named_only text found o e named = e ∙ ap op_of_name named ∙ op_of_name-name_of o

-- ---- the laws

pub code_of_differs : (o p : Op) → code_of o ≡ code_of p → o ≡ p
code_of_differs o p same = some_is o p (sym (op_of-code_of o) ∙ ap op_of same ∙ op_of-code_of p)

pub name_of_differs : (o p : Op) → name_of o ≡ name_of p → o ≡ p
name_of_differs o p same = some_is o p (sym (op_of_name-name_of o) ∙ ap op_of_name same ∙ op_of_name-name_of p)

pub all_operations : (o : Op) → Contains operations o
all_operations o = find_contains (λ p. eqb (code_of p) (code_of o)) operations o (op_of-code_of o)
