-- Readers in sequence: their order, what they leave, and their faults.
use Rattle.std.proofs.Common.{◌≡◌, ℕ, Bool, true, false, List, [], ◌++◌, Option, Result, Ok, Err, refl, sym, subst, ◌∙◌}
use Rattle.x10_model.specs.Readers.{Reader, IsBytes, bind, done, check, such_that, expect}
use Rattle.x10_model.specs.ReadingFrames.{FrameFault}
use Rattle.x10_model.proofs.ReaderLaws.{Reads, Takes, Takes-then, same, bind_ok}
use Rattle.x10_model.specs.Offsets.{EndsWith}
use Rattle.x10_model.proofs.Offsets.{still_ends}
use Rattle.x10_frame.specs.Faults.{IsFaultOrMemory}
use Rattle.x10_bytes.proofs.Loops.{early}

-- ---- order

assoc_of : {E A B C : Type 0} (o : Result (A × List ℕ) E) (r : Reader E A) (f : A → Reader E B) (g : B → Reader E C) (bytes : List ℕ) → r bytes ≡ o
    → bind (bind r f) g bytes ≡ bind r (λ x. bind (f x) g) bytes
unfolding bind
assoc_of (Ok x) r f g bytes e = rw e refl
assoc_of (Err f') r f g bytes e = rw e refl

pub assoc : {E A B C : Type 0} (r : Reader E A) (f : A → Reader E B) (g : B → Reader E C) (bytes : List ℕ)
    → bind (bind r f) g bytes ≡ bind r (λ x. bind (f x) g) bytes
assoc r f g bytes = assoc_of (r bytes) r f g bytes refl

under_of : {E A B : Type 0} (o : Result (A × List ℕ) E) (r : Reader E A) (f g : A → Reader E B) → ((x : A) (rest : List ℕ) → f x rest ≡ g x rest)
    → (bytes : List ℕ) → r bytes ≡ o → bind r f bytes ≡ bind r g bytes
unfolding bind
under_of (Ok x) r f g h bytes e = rw e (h x.0 x.1)
under_of (Err f') r f g h bytes e = rw e refl

pub under : {E A B : Type 0} (r : Reader E A) (f g : A → Reader E B) → ((x : A) (rest : List ℕ) → f x rest ≡ g x rest) → (bytes : List ℕ)
    → bind r f bytes ≡ bind r g bytes
under r f g h bytes = under_of (r bytes) r f g h bytes refl

-- a chain in two halves
pub split : {E A B C : Type 0} (r : Reader E A) (f : A → Reader E C) (g : A → Reader E B) (h : B → Reader E C)
    → ((x : A) (rest : List ℕ) → f x rest ≡ bind (g x) h rest) → (bytes : List ℕ) → bind r f bytes ≡ bind (bind r g) h bytes
split r f g h each bytes = under r f (λ x. bind (g x) h) each bytes ∙ sym (assoc r g h bytes)

-- two chains that begin alike
pub alike : {E A B C D : Type 0} (r : Reader E A) (f : A → Reader E B) (k : B → Reader E D) (g : A → Reader E C) (h : C → Reader E D)
    → ((x : A) (rest : List ℕ) → bind (f x) k rest ≡ bind (g x) h rest) → (bytes : List ℕ) → bind (bind r f) k bytes ≡ bind (bind r g) h bytes
alike r f k g h each bytes = assoc r f k bytes ∙ split r (λ x. bind (f x) k) g h each bytes

-- a value, and what it calls for
pub done_next : {E A B : Type 0} (x : A) (next : A → Reader E B) (bytes : List ℕ) → next x bytes ≡ bind (done x) next bytes
unfolding bind done
done_next x next bytes = refl

-- the value of a reader, made twice
pub made_twice : {E A B C D : Type 0} (r : Reader E A) (f : A → B) (g : B → C) (h : D) (next : D → Reader E C) (bytes : List ℕ)
    → next h bytes ≡ bind r (λ x. done (g (f x))) bytes → bind (bind r (λ x. done (f x))) (λ y. done (g y)) bytes ≡ bind (done h) next bytes
made_twice {E} r f g h next bytes e =
    assoc r (λ x. done (f x)) (λ y. done (g y)) bytes
    ∙ under r (λ x. bind (done (f x)) (λ y. done (g y))) (λ x. done (g (f x))) (λ x rest. sym (done_next {E = E} (f x) (λ y. done (g y)) rest)) bytes
    ∙ sym e
    ∙ done_next h next bytes

-- ---- what is left

-- the bytes after what was read
abbrev pub Leaves : List ℕ → List ℕ → Type 0
Leaves bytes rest = (text : List ℕ) × Takes bytes text rest

abbrev pub Drops : {E A : Type 0} → Reader E A → Type 0
Drops {E} {A} r = (bytes : List ℕ) (x : A) (rest : List ℕ) → IsBytes bytes → r bytes ≡ Ok (x, rest) → Leaves bytes rest

pub drops_reads : {E A : Type 0} {r : Reader E A} {spell : A → List ℕ} {Fits : A → Type 0} → Reads r spell Fits → Drops r
drops_reads {E} {A} {r} {spell} law bytes x rest b e = (spell x, (law.takes bytes x rest b e).0)

pub drops_done : {E A : Type 0} (y : A) → Drops (done {E = E} y)
unfolding done
drops_done {E} y bytes x rest b e = let is = same {E = E} y x bytes rest e in ([], record { parts = is.1; rest_fits = subst IsBytes is.1 b })

pub drops_bind : {E A B : Type 0} (r : Reader E A) (next : A → Reader E B) → Drops r → ((x : A) → Drops (next x)) → Drops (bind r next)
drops_bind r next first second bytes y rest b e =
    let s = bind_ok r next bytes y rest e in
    let one = first bytes s.value s.middle b s.first in
    let two = second s.value s.middle y rest one.1.rest_fits s.second in
    (one.0 ++ two.0, Takes-then bytes one.0 s.middle two.0 rest one.1 two.1)

pub drops_check : {E : Type 0} (holds : Bool) (fault : E) → Drops (check holds fault)
unfolding check
drops_check {E} true fault bytes x rest b e = let is = same {E = E} tt x bytes rest e in
    ([], record { parts = is.1; rest_fits = subst IsBytes is.1 b })
drops_check false fault bytes x rest b e = absurd cc

pub drops_expect : {E : Type 0} (r : Reader E ℕ) (n : ℕ) (fault : E) → Drops r → Drops (expect r n fault)
unfolding expect
drops_expect r n fault first = drops_bind r _ first (λ x. drops_check _ fault)

pub drops_such_that : {E A : Type 0} (r : Reader E A) (holds : A → Bool) (fault : E) → Drops r → Drops (such_that r holds fault)
unfolding such_that
drops_such_that r holds fault first = drops_bind r _ first (λ x.
    drops_bind (check (holds x) fault) _ (drops_check (holds x) fault) (λ _. drops_done x))

pub ends_after : (frame bytes rest : List ℕ) → EndsWith frame bytes → Leaves bytes rest → EndsWith frame rest
ends_after frame bytes rest e l = still_ends frame bytes l.0 rest e l.1.parts

-- ---- faults

pub early_such_that : {A : Type 0} (r : Reader FrameFault A) (holds : A → Bool) (fault : FrameFault) (bytes : List ℕ) (f : Option FrameFault)
    → IsFaultOrMemory f (r bytes) → IsFaultOrMemory f (such_that r holds fault bytes)
unfolding such_that
early_such_that r holds fault bytes f h = early r _ bytes f h

pub such_that_is : {A : Type 0} (r : Reader FrameFault A) (holds : A → Bool) (fault : FrameFault) (bytes : List ℕ) (x : A) (rest : List ℕ)
    → r bytes ≡ Ok (x, rest) → holds x ≡ true → such_that r holds fault bytes ≡ Ok (x, rest)
unfolding such_that bind check done
such_that_is r holds fault bytes x rest e h = rw (e, h) refl

pub such_that_not : {A : Type 0} (r : Reader FrameFault A) (holds : A → Bool) (fault : FrameFault) (bytes : List ℕ) (x : A) (rest : List ℕ)
    → r bytes ≡ Ok (x, rest) → holds x ≡ false → such_that r holds fault bytes ≡ Err fault
unfolding such_that bind check done
such_that_not r holds fault bytes x rest e h = rw (e, h) refl
