-- What a reader is to a spelling: it reads again what is spelled, and what it took from the front is the spelling of what it gave.
use Rattle.std.proofs.Common.{◌≡◌, ℕ, ◌≤◌, Bool, true, false, List, [], ◌++◌, length, Option, Some, None, Result, Ok, Err, refl, sym, ap, subst, ◌∙◌, append_assoc, arith, eqb, eqb-true, eq-eqb, ltb, le-ltb, length-append}
use Rattle.x10_model.specs.Readers.{Reader, IsBytes, bind, done, check, such_that, expect, given, need}

abbrev outcome : {E A : Type 0} → A → List ℕ → Result (A × List ℕ) E
outcome x rest = Ok (x, rest)

-- the bytes are a text and a rest
pub record Takes (bytes text rest : List ℕ) : Type 0 where
  pub parts : bytes ≡ text ++ rest
  pub rest_fits : IsBytes rest

pub record Reads {E A : Type 0} (r : Reader E A) (spell : A → List ℕ) (Fits : A → Type 0) : Type 0 where
  pub again : (x : A) (rest : List ℕ) → Fits x → r (spell x ++ rest) ≡ Ok (x, rest)
  pub takes : (bytes : List ℕ) (x : A) (rest : List ℕ) → IsBytes bytes → r bytes ≡ Ok (x, rest) → Takes bytes (spell x) rest × Fits x

pub Takes-then : (a x b y c : List ℕ) → Takes a x b → Takes b y c → Takes a (x ++ y) c
Takes-then a x b y c p q = record { parts = p.parts ∙ ap (λ (t : List ℕ). x ++ t) q.parts ∙ sym (append_assoc x y c); rest_fits = q.rest_fits }

pair_same : {E A : Type 0} (p q : A × List ℕ) → outcome {E = E} p.0 p.1 ≡ outcome q.0 q.1 → p ≡ q
pair_same p q e = cc

pub same : {E A : Type 0} (x y : A) (rest rest' : List ℕ) → outcome {E = E} x rest ≡ outcome y rest' → (x ≡ y) × (rest ≡ rest')
same {E} {A} x y rest rest' e =
    let both = pair_same {E = E} (x, rest) (y, rest') e in
    (ap (λ (p : A × List ℕ). p.0) both, ap (λ (p : A × List ℕ). p.1) both)

-- what the first of two readers gave
pub record Step {E A B : Type 0} (r : Reader E A) (next : A → Reader E B) (bytes : List ℕ) (y : B) (rest : List ℕ) : Type 0 where
  pub value : A
  pub middle : List ℕ
  pub first : r bytes ≡ Ok (value, middle)
  pub second : next value middle ≡ Ok (y, rest)

bind_ok_of : {E A B : Type 0} (r : Reader E A) (next : A → Reader E B) (bytes : List ℕ) (y : B) (rest : List ℕ) (o : Result (A × List ℕ) E)
    → r bytes ≡ o → bind r next bytes ≡ Ok (y, rest) → Step r next bytes y rest
unfolding bind
bind_ok_of r next bytes y rest (Ok p) is e = record { value = p.0; middle = p.1; first = is; second = rw is at e }
bind_ok_of r next bytes y rest (Err f) is e = absurd (let h = rw is at e in cc)

pub bind_ok : {E A B : Type 0} (r : Reader E A) (next : A → Reader E B) (bytes : List ℕ) (y : B) (rest : List ℕ) → bind r next bytes ≡ Ok (y, rest)
    → Step r next bytes y rest
bind_ok r next bytes y rest e = bind_ok_of r next bytes y rest (r bytes) refl e

pub bind_is : {E A B : Type 0} (r : Reader E A) (next : A → Reader E B) (bytes : List ℕ) (x : A) (middle : List ℕ) → r bytes ≡ Ok (x, middle)
    → bind r next bytes ≡ next x middle
unfolding bind
bind_is r next bytes x middle e = rw e refl

-- a reader and what follows it, where the whole value y holds the first reader's value as `proj y`
pub then_reads : {E A B : Type 0} {r : Reader E A} {next : A → Reader E B} {spell : A → List ℕ} {Fits : A → Type 0} {G : B → Type 0} (proj : B → A)
    (tail : B → List ℕ)
    → Reads r spell Fits
    → ((y : B) → G y → Fits (proj y))
    → ((x : A) → Fits x → Reads (next x) tail (λ y. (proj y ≡ x) × G y))
    → Reads (bind r next) (λ y. spell (proj y) ++ tail y) G
then_reads {E} {A} {B} {r} {next} {spell} {Fits} {G} proj tail first fits second = record {
  again = λ y rest g.
      ap (bind r next) (append_assoc (spell (proj y)) (tail y) rest)
      ∙ bind_is r next (spell (proj y) ++ (tail y ++ rest)) (proj y) (tail y ++ rest) (first.again (proj y) (tail y ++ rest) (fits y g))
      ∙ (second (proj y) (fits y g)).again y rest (refl, g);
  takes = λ bytes y rest b e.
      let s = bind_ok r next bytes y rest e in
      let one = first.takes bytes s.value s.middle b s.first in
      let two = (second s.value one.1).takes s.middle y rest one.0.rest_fits s.second in
      let front : Takes bytes (spell (proj y)) s.middle = subst (λ (x : A). Takes bytes (spell x) s.middle) (sym two.1.0) one.0 in
      (Takes-then bytes (spell (proj y)) s.middle (tail y) rest front two.0, two.1.1);
}

-- the last reader of a chain
pub last_reads : {E A B : Type 0} {r : Reader E A} {spell : A → List ℕ} {Fits : A → Type 0} {G : B → Type 0} (make : A → B) (proj : B → A)
    → Reads r spell Fits
    → ((y : B) → G y → Fits (proj y) × (make (proj y) ≡ y))
    → ((x : A) → Fits x → (proj (make x) ≡ x) × G (make x))
    → Reads (bind r (λ x. done (make x))) (λ y. spell (proj y)) G
unfolding done
last_reads {E} {A} {B} {r} {spell} {Fits} {G} make proj first fits made = record {
  again = λ y rest g.
      bind_is r (λ x. done (make x)) (spell (proj y) ++ rest) (proj y) rest (first.again (proj y) rest (fits y g).0)
      ∙ ap (λ (z : B). outcome {E = E} z rest) (fits y g).1;
  takes = λ bytes y rest b e.
      let s = bind_ok r (λ x. done (make x)) bytes y rest e in
      let one = first.takes bytes s.value s.middle b s.first in
      let is = same {E = E} (make s.value) y s.middle rest s.second in
      let m = made s.value one.1 in
      let front : Takes bytes (spell (proj (make s.value))) s.middle = subst (λ (x : A). Takes bytes (spell x) s.middle) (sym m.0) one.0 in (
        subst (λ (z : B). Takes bytes (spell (proj z)) rest) is.0 (subst (λ (t : List ℕ). Takes bytes (spell (proj (make s.value))) t) is.1 front),
        subst G is.0 m.1,
      );
}

given_is : {E B : Type 0} (o : Option B) (y : B) (f : E) (rest : List ℕ) → o ≡ Some y → given o f rest ≡ Ok (y, rest)
unfolding given
given_is o y f rest e = rw e refl

given_ok : {E B : Type 0} (o : Option B) (f : E) (bytes : List ℕ) (y : B) (rest : List ℕ) → given o f bytes ≡ Ok (y, rest)
    → (o ≡ Some y) × (bytes ≡ rest)
unfolding given
given_ok {E} (Some x) f bytes y rest e = let is = same {E = E} x y bytes rest e in (cc is.0, is.1)
given_ok None f bytes y rest e = absurd cc

-- the value of the last reader, where there is one
pub given_reads : {E A B : Type 0} {r : Reader E A} {spell : A → List ℕ} {Fits : A → Type 0} {G : B → Type 0} (make : A → Option B) (fault : A → E)
    (code : B → A)
    → Reads r spell Fits
    → ((y : B) → G y → Fits (code y) × (make (code y) ≡ Some y))
    → ((x : A) (y : B) → Fits x → make x ≡ Some y → (code y ≡ x) × G y)
    → Reads (bind r (λ x. given (make x) (fault x))) (λ y. spell (code y)) G
given_reads {E} {A} {B} {r} {spell} {Fits} {G} make fault code first fits made = record {
  again = λ y rest g.
      bind_is r (λ x. given (make x) (fault x)) (spell (code y) ++ rest) (code y) rest (first.again (code y) rest (fits y g).0)
      ∙ given_is (make (code y)) y (fault (code y)) rest (fits y g).1;
  takes = λ bytes y rest b e.
      let s = bind_ok r (λ x. given (make x) (fault x)) bytes y rest e in
      let one = first.takes bytes s.value s.middle b s.first in
      let is = given_ok (make s.value) (fault s.value) s.middle y rest s.second in
      let m = made s.value y one.1 is.0 in
      let front : Takes bytes (spell (code y)) s.middle = subst (λ (x : A). Takes bytes (spell x) s.middle) (sym m.0) one.0 in
      (subst (λ (t : List ℕ). Takes bytes (spell (code y)) t) is.1 front, m.1);
}

-- nothing more is read
pub done_reads : {E A : Type 0} {G : A → Type 0} (x : A) → G x → ((y : A) → G y → x ≡ y) → Reads (done {E = E} x) (λ y. []) G
unfolding done
done_reads {E} {A} {G} x g only = record {
  again = λ y rest h. ap (λ (z : A). outcome {E = E} z rest) (only y h);
  takes = λ bytes y rest b e. let is = same {E = E} x y bytes rest e in (record { parts = is.1; rest_fits = subst IsBytes is.1 b }, subst G is.0 g);
}

-- a test between two readers
pub check_reads : {E B : Type 0} {next : Reader E B} {spell : B → List ℕ} {G : B → Type 0} (holds : Bool) (fault : E)
    → ((y : B) → G y → holds ≡ true)
    → (holds ≡ true → Reads next spell G)
    → Reads (bind (check holds fault) (λ _. next)) spell G
unfolding bind check
check_reads true fault fits second = record { again = (second refl).again; takes = (second refl).takes }
check_reads false fault fits second = record {
  again = λ y rest g. absurd (let h = fits y g in cc);
  takes = λ bytes y rest b e. absurd cc;
}

need_enough : {E B : Type 0} (next : Reader E B) (n : ℕ) (short : E) (bytes : List ℕ) → n ≤ length bytes
    → bind (need n short) (λ _. next) bytes ≡ next bytes
unfolding bind need
need_enough next n short bytes h = rw (le-ltb _ _ h) refl

need_got_of : {E B : Type 0} (next : Reader E B) (n : ℕ) (short : E) (bytes : List ℕ) (y : B) (rest : List ℕ) (b : Bool) → ltb (length bytes) n ≡ b
    → bind (need n short) (λ _. next) bytes ≡ Ok (y, rest) → next bytes ≡ Ok (y, rest)
unfolding bind need
need_got_of next n short bytes y rest true is e = absurd (let h = rw is at e in cc)
need_got_of next n short bytes y rest false is e = rw is at e

need_got : {E B : Type 0} (next : Reader E B) (n : ℕ) (short : E) (bytes : List ℕ) (y : B) (rest : List ℕ)
    → bind (need n short) (λ _. next) bytes ≡ Ok (y, rest) → next bytes ≡ Ok (y, rest)
need_got next n short bytes y rest e = need_got_of next n short bytes y rest (ltb (length bytes) n) refl e

-- a part that has to be there whole
pub need_reads : {E B : Type 0} {next : Reader E B} {spell : B → List ℕ} {G : B → Type 0} (n : ℕ) (short : E)
    → ((y : B) → G y → n ≤ length (spell y))
    → Reads next spell G
    → Reads (bind (need n short) (λ _. next)) spell G
need_reads {E} {B} {next} {spell} {G} n short fits second = record {
  again = λ y rest g. need_enough next n short (spell y ++ rest) (omega (arith, fits y g, length-append (spell y) rest)) ∙ second.again y rest g;
  takes = λ bytes y rest b e. second.takes bytes y rest b (need_got next n short bytes y rest e);
}

-- the same, under another name for the rule
pub fits_as : {E A : Type 0} {r : Reader E A} {spell : A → List ℕ} {F G : A → Type 0} → Reads r spell F → ((x : A) → F x → G x)
    → ((x : A) → G x → F x) → Reads r spell G
fits_as {E} {A} {r} {spell} {F} {G} h there back = record {
  again = λ x rest g. h.again x rest (back x g);
  takes = λ bytes x rest b e. let t = h.takes bytes x rest b e in (t.0, there x t.1);
}

-- the same, under another name for the spelling
pub spelled_as : {E A : Type 0} {r : Reader E A} {spell other : A → List ℕ} {G : A → Type 0} → Reads r spell G → ((x : A) → spell x ≡ other x)
    → Reads r other G
spelled_as {E} {A} {r} {spell} {other} {G} h is = record {
  again = λ x rest g. ap (λ (t : List ℕ). r (t ++ rest)) (sym (is x)) ∙ h.again x rest g;
  takes = λ bytes x rest b e. let t = h.takes bytes x rest b e in (subst (λ (u : List ℕ). Takes bytes u rest) (is x) t.0, t.1);
}

-- the same where the two spellings agree on what fits
pub spelled_where : {E A : Type 0} {r : Reader E A} {spell other : A → List ℕ} {G : A → Type 0} → Reads r spell G
    → ((x : A) → G x → spell x ≡ other x) → Reads r other G
spelled_where {E} {A} {r} {spell} {other} {G} h is = record {
  again = λ x rest g. ap (λ (t : List ℕ). r (t ++ rest)) (sym (is x g)) ∙ h.again x rest g;
  takes = λ bytes x rest b e. let t = h.takes bytes x rest b e in (subst (λ (u : List ℕ). Takes bytes u rest) (is x t.1) t.0, t.1);
}

check_ok : {E : Type 0} (b : Bool) (fault : E) (bytes : List ℕ) (u : Unit {0}) (rest : List ℕ) → check b fault bytes ≡ Ok (u, rest)
    → (b ≡ true) × (bytes ≡ rest)
unfolding check
check_ok {E} true fault bytes u rest e = (refl, (same {E = E} tt u bytes rest e).1)
check_ok false fault bytes u rest e = absurd cc

done_same : {E A : Type 0} (z : A) (middle : List ℕ) (x : A) (rest : List ℕ) → done {E = E} z middle ≡ Ok (x, rest) → (z ≡ x) × (middle ≡ rest)
unfolding done
done_same {E} z middle x rest e = same {E = E} z x middle rest e

done_is : {E A : Type 0} (z x : A) (rest : List ℕ) → z ≡ x → done {E = E} z rest ≡ Ok (x, rest)
unfolding done
done_is {E} {A} z x rest e = ap (λ (t : A). outcome {E = E} t rest) e

such_that_again : {E A : Type 0} (r : Reader E A) (holds : A → Bool) (fault : E) (bytes : List ℕ) (x : A) (rest : List ℕ) → r bytes ≡ Ok (x, rest)
    → holds x ≡ true → such_that r holds fault bytes ≡ Ok (x, rest)
unfolding such_that bind check done
such_that_again r holds fault bytes x rest e h = rw (e, h) refl

expect_again : {E : Type 0} (r : Reader E ℕ) (n : ℕ) (fault : E) (bytes rest : List ℕ) → r bytes ≡ Ok (n, rest)
    → expect r n fault bytes ≡ Ok (tt, rest)
unfolding expect bind check
expect_again r n fault bytes rest e = rw (e, eq-eqb n n refl) refl

expect_step : {E : Type 0} (r : Reader E ℕ) (n : ℕ) (fault : E) (bytes : List ℕ) (u : Unit {0}) (rest : List ℕ)
    → expect r n fault bytes ≡ Ok (u, rest) → Step r (λ x. check (eqb x n) fault) bytes u rest
unfolding expect
expect_step r n fault bytes u rest e = bind_ok r (λ x. check (eqb x n) fault) bytes u rest e

-- a value that breaks no rule
pub such_that_reads : {E A : Type 0} {r : Reader E A} {spell : A → List ℕ} {Fits : A → Type 0} (holds : A → Bool) (fault : E) → Reads r spell Fits
    → Reads (such_that r holds fault) spell (λ x. Fits x × (holds x ≡ true))
unfolding such_that
such_that_reads {E} {A} {r} {spell} {Fits} holds fault first = record {
  again = λ x rest g. such_that_again r holds fault (spell x ++ rest) x rest (first.again x rest g.0) g.1;
  takes = λ bytes x rest b e.
      let s = bind_ok r (λ z. bind (check (holds z) fault) (λ _. done z)) bytes x rest e in
      let one = first.takes bytes s.value s.middle b s.first in
      let t = bind_ok (check (holds s.value) fault) (λ _. done s.value) s.middle x rest s.second in
      let is = check_ok (holds s.value) fault s.middle t.value t.middle t.first in
      let end = done_same {E = E} s.value t.middle x rest t.second in
      let here : Takes bytes (spell s.value) rest = subst (λ (m : List ℕ). Takes bytes (spell s.value) m) (is.1 ∙ end.1) one.0 in
      subst (λ (z : A). Takes bytes (spell z) rest × (Fits z × (holds z ≡ true))) end.0 (here, (one.1, is.0));
}

-- nothing but a number
pub expect_reads : {E B : Type 0} {r : Reader E ℕ} {next : Reader E B} {spell : ℕ → List ℕ} {Fits : ℕ → Type 0} {tail : B → List ℕ} {G : B → Type 0}
    (n : ℕ) (fault : E)
    → Reads r spell Fits → Fits n → Reads next tail G → Reads (bind (expect r n fault) (λ _. next)) (λ y. spell n ++ tail y) G
expect_reads {E} {B} {r} {next} {spell} {Fits} {tail} {G} n fault first fits second = record {
  again = λ y rest g.
      ap (bind (expect r n fault) (λ _. next)) (append_assoc (spell n) (tail y) rest)
      ∙ bind_is (expect r n fault) (λ _. next) (spell n ++ (tail y ++ rest)) tt (tail y ++ rest)
      (expect_again r n fault (spell n ++ (tail y ++ rest)) (tail y ++ rest) (first.again n (tail y ++ rest) fits))
      ∙ second.again y rest g;
  takes = λ bytes y rest b e.
      let s = bind_ok (expect r n fault) (λ _. next) bytes y rest e in
      let t = expect_step r n fault bytes s.value s.middle s.first in
      let one = first.takes bytes t.value t.middle b t.first in
      let is = check_ok (eqb t.value n) fault t.middle s.value s.middle t.second in
      let front : Takes bytes (spell n) s.middle = subst (λ (x : ℕ). Takes bytes (spell x) s.middle) (eqb-true t.value n is.0)
      (subst (λ (m : List ℕ). Takes bytes (spell t.value) m) is.1 one.0) in
      let two = second.takes s.middle y rest front.rest_fits s.second in
      (Takes-then bytes (spell n) s.middle (tail y) rest front two.0, two.1);
}

-- one case of a type: the values that are made from the reader's
pub made_reads : {E A B : Type 0} {r : Reader E A} {spell : A → List ℕ} {Fits : A → Type 0} {whole : B → List ℕ} {G : B → Type 0} (make : A → B)
    → Reads r spell Fits
    → ((x : A) → Fits x → G (make x))
    → ((y : B) → G y → (x : A) × (make x ≡ y) × Fits x)
    → ((x : A) → spell x ≡ whole (make x))
    → Reads (bind r (λ x. done (make x))) whole G
made_reads {E} {A} {B} {r} {spell} {Fits} {whole} {G} make first fits case spelled = record {
  again = λ y rest g.
      let c = case y g in
      ap (λ (t : List ℕ). bind r (λ x. done (make x)) (t ++ rest)) (sym (spelled c.0 ∙ ap whole c.1))
      ∙ bind_is r (λ x. done (make x)) (spell c.0 ++ rest) c.0 rest (first.again c.0 rest c.2)
      ∙ done_is (make c.0) y rest c.1;
  takes = λ bytes y rest b e.
      let s = bind_ok r (λ x. done (make x)) bytes y rest e in
      let one = first.takes bytes s.value s.middle b s.first in
      let is = done_same {E = E} (make s.value) s.middle y rest s.second in
      let here : Takes bytes (whole (make s.value)) rest = subst (λ (t : List ℕ). Takes bytes t rest) (spelled s.value)
      (subst (λ (m : List ℕ). Takes bytes (spell s.value) m) is.1 one.0) in
      subst (λ (z : B). Takes bytes (whole z) rest × G z) is.0 (here, fits s.value one.1);
}
