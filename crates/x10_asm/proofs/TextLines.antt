-- A text taken in, line by line.
use Rattle.std.proofs.Common.{◌≡◌, ℕ, suc, ◌+◌, true, false, List, [], ◌∷◌, Result, Ok, Err, refl, sym, ap, ◌∙◌, add-one}
use Rattle.x10_model.specs.declared.version.ImageVersion.{ImageVersion}
use Rattle.x10_model.specs.declared.version.ImageVersion.TheVariants.{One}
use Rattle.x10_model.specs.Modules.{Module}
use Rattle.x10_image.specs.Written.{shown}
use Rattle.x10_asm.specs.declared.fault.AsmCause.{AsmCause}
use Rattle.x10_asm.specs.declared.fault.AsmCause.TheVariants as cause
use Rattle.x10_asm.specs.declared.fault.AsmFault.{AsmFault}
use Rattle.x10_asm.specs.declared.source.Source.{Source}
use Rattle.x10_asm.specs.declared.statement.Statement.{Statement}
use Rattle.x10_asm.specs.declared.statement.Statement.TheVariants as statement
use Rattle.x10_asm.specs.Lines.{words}
use Rattle.x10_asm.specs.Statements.{statement_in}
use Rattle.x10_asm.specs.Reading as reading
use Rattle.x10_asm.specs.Reading.{after_line, ended, go_on, fault_at, read_from, is_class, classes_in, version_by, version_in, is_finished}
use Rattle.x10_asm.specs.Sources.{StandsFor}
use Rattle.x10_asm.proofs.LinesTakenIn.{IsTaken}

-- ---- classes

pub no_classes : classes_in [] ≡ 0
unfolding classes_in
no_classes = refl

pub class_counted : (text : List ℕ) (others : List (List ℕ)) → is_class (statement_in (words text)) ≡ true
    → classes_in (text ∷ others) ≡ suc (classes_in others)
unfolding classes_in
class_counted text others e = rw e refl

pub other_passed : (text : List ℕ) (others : List (List ℕ)) → is_class (statement_in (words text)) ≡ false
    → classes_in (text ∷ others) ≡ classes_in others
unfolding classes_in
other_passed text others e = rw e refl

-- ---- lines

-- what is kept stands for a state from which reading the rest gives what reading all gives
pub record IsPassed (kept : Source) (classes line : ℕ) (texts : List (List ℕ)) (all : Result Module AsmFault) : Type 0 where
  pub state : reading.Source
  pub stands : StandsFor kept state
  pub left : read_from classes state line texts ≡ all

pub step : (classes : ℕ) (s : reading.Source) (line : ℕ) (text : List ℕ) (others : List (List ℕ))
    → read_from classes s line (text ∷ others) ≡ go_on (after_line classes s line text others) line (λ t. read_from classes t (suc line) others)
unfolding read_from
step classes s line text others = refl

pub stop : (classes : ℕ) (s : reading.Source) (line : ℕ) → read_from classes s line [] ≡ ended s line
unfolding read_from
stop classes s line = refl

pub passed_more : (kept new : Source) (classes line : ℕ) (texts others : List (List ℕ)) (text : List ℕ) (all : Result Module AsmFault)
    (p : IsPassed kept classes line texts all) → texts ≡ text ∷ others
    → IsTaken new (after_line classes p.state line text others) → IsPassed new classes (line + 1) others all
passed_more kept new classes line texts others text all p e t = record {
  state = t.0;
  stands = t.2;
  left = ap (λ (n : ℕ). read_from classes t.0 n others) (add-one line)
      ∙ ap (λ (r : Result reading.Source AsmCause). go_on r line (λ u. read_from classes u (suc line) others)) (sym t.1)
      ∙ sym (step classes p.state line text others) ∙ ap (read_from classes p.state line) (sym e) ∙ p.left;
}

pub passed_fault : (kept : Source) (classes line : ℕ) (texts others : List (List ℕ)) (text : List ℕ) (all : Result Module AsmFault)
    (p : IsPassed kept classes line texts all) (c : AsmCause) → texts ≡ text ∷ others
    → after_line classes p.state line text others ≡ Err c → all ≡ Err (fault_at line c)
passed_fault kept classes line texts others text all p c e r =
    sym p.left ∙ ap (read_from classes p.state line) e ∙ step classes p.state line text others
    ∙ ap (λ (r : Result reading.Source AsmCause). go_on r line (λ u. read_from classes u (suc line) others)) r

pub passed_all : (kept : Source) (classes line : ℕ) (texts : List (List ℕ)) (all : Result Module AsmFault) (p : IsPassed kept classes line texts all)
    → texts ≡ [] → all ≡ ended p.state line
passed_all kept classes line texts all p e = sym p.left ∙ ap (read_from classes p.state line) e ∙ stop classes p.state line

-- ---- counting classes

pub counted_more : (texts others : List (List ℕ)) (text : List ℕ) → texts ≡ text ∷ others → is_class (statement_in (words text)) ≡ true
    → classes_in texts ≡ suc (classes_in others)
counted_more texts others text e k = ap classes_in e ∙ class_counted text others k

pub counted_other : (texts others : List (List ℕ)) (text : List ℕ) → texts ≡ text ∷ others → is_class (statement_in (words text)) ≡ false
    → classes_in texts ≡ classes_in others
counted_other texts others text e k = ap classes_in e ∙ other_passed text others k

-- ---- the version

pub version_step : (text : List ℕ) (others : List (List ℕ)) → version_in (text ∷ others) ≡ version_by (statement_in (words text)) (version_in others)
unfolding version_in
version_step text others = refl

pub version_told : (texts others : List (List ℕ)) (text : List ℕ) (here : Statement) → texts ≡ text ∷ others → here ≡ statement_in (words text)
    → version_in texts ≡ version_by here (version_in others)
version_told texts others text here e is = ap version_in e ∙ version_step text others
    ∙ ap (λ (x : Statement). version_by x (version_in others)) (sym is)

pub version_by_other : (here : Statement) (after : ImageVersion) → (here ≡ statement.Silent → ⊥) → (here ≡ statement.Version → ⊥)
    → version_by here after ≡ One
version_by_other statement.Silent after silent version = absurd (silent refl)
version_by_other statement.Version after silent version = absurd (version refl)
version_by_other _ after silent version = refl

pub no_version : version_in [] ≡ One
unfolding version_in
no_version = refl

-- ---- the end

pub not_finished : (kept : Source) (s : reading.Source) (line : ℕ) → StandsFor kept s → is_finished kept.stage ≡ false
    → ended s line ≡ Err (fault_at line cause.Order)
not_finished kept s line f e = rw (ap is_finished (sym f.stage_is) ∙ e) refl

pub finished : (kept : Source) (s : reading.Source) (line : ℕ) → StandsFor kept s → is_finished kept.stage ≡ true
    → ended s line ≡ Ok (shown kept.so_far)
finished kept s line f e = rw (ap is_finished (sym f.stage_is) ∙ e) (ap (λ (m : Module). Ok m) (sym f.module_is))
