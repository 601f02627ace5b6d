-- The rows of the table are right: what they set names what there may be, and what stands for a place.
use Rattle.std.proofs.Common.{◌≡◌, ℕ, ◌<◌, true, length, Option, Some, None, refl, subst}
use Rattle.std.specs.Prelude.{IfSome}
use Rattle.x10_kinds.specs.declared.kind.Kind.{Kind}
use Rattle.x10_kinds.specs.declared.homes.Term.{Term}
use Rattle.x10_kinds.specs.declared.homes.Term.TheVariants as term
use Rattle.x10_code.specs.declared.op.Op.{Op}
use Rattle.x10_code.specs.declared.op.Op.TheVariants as op
use Rattle.x10_code.specs.declared.instr.Instr.{Instr}
use Rattle.x10_code.specs.declared.operands.Operand.TheVariants as operand
use Rattle.x10_code.specs.Table.{form_of}
use Rattle.x10_model.specs.declared.slot.Slot.{Slot}
use Rattle.x10_model.specs.Modules.{Module, FitsSlot, FitsFunction, FitsImage}
use Rattle.x10_model.specs.Ranges.{function_at, result_of}
use Rattle.x10_model.specs.Structure.{is_call}
use Rattle.x10_model.specs.Assignments.{State, Point}
use Rattle.x10_code.specs.declared.rule.Effect.{Effect}
use Rattle.x10_code.specs.declared.rule.Effect.TheVariants.{Keeps, Sets, Joins}
use Rattle.x10_verify.specs.Named.{IsNamed, IsResultNamed}
use Rattle.x10_code.specs.Rules.{rule_for}
use Rattle.x10_model.specs.Assignments.{Grants, GivesResult}
use Rattle.x10_verify.specs.Effects.{IsNarrow, IsSoundIn, IsSoundOutcome, IsTermLike, CanApply}
use Rattle.x10_verify.proofs.Effects.{stands_term}
use Rattle.x10_verify.proofs.SettledLemmas.{FlagFits, ResultsFit, grants_sound}
use Rattle.x10_model.proofs.Lists.{all_at}

pub table_sound : (o : Op) (i : Instr) → ((form_of o).x ≡ operand.Place → i.x < 64) → IsSoundOutcome (rule_for o i).outcome
table_sound op.Placek i named = (refl, named refl)
table_sound op.Here i named = refl
table_sound _ i named = tt

-- what becomes of register a after a call
called_writes : (p : Point) (at : Term) (o : Option Slot) (k : Kind) (like : Option Term) → GivesResult p at o (Sets k like)
    → IsResultNamed o p.instr.a → p.instr.a < 64
called_writes p at None k like g named = absurd (let e = g.1 in cc)
called_writes p at (Some slot) k like g named = named

-- a register that is written is named
table_writes : (o : Op) (p : Point) (s : State) (k : Kind) (like : Option Term) → ((form_of o).a ≡ operand.Register → p.instr.a < 64)
    → (is_call o ≡ true → IsResultNamed (result_of (function_at p.program p.instr.x)) p.instr.a)
    → Grants (rule_for o p.instr) p s (Sets k like) → p.instr.a < 64
table_writes op.Jmp p s k like a r h = absurd (let e = h.settles in cc)
table_writes op.Loop p s k like a r h = absurd (let e = h.settles in cc)
table_writes op.Endl p s k like a r h = absurd (let e = h.settles in cc)
table_writes op.Finb p s k like a r h = absurd (let e = h.settles in cc)
table_writes op.Fine p s k like a r h = absurd (let e = h.settles in cc)
table_writes op.Atomb p s k like a r h = absurd (let e = h.settles in cc)
table_writes op.Atome p s k like a r h = absurd (let e = h.settles in cc)
table_writes op.Ret p s k like a r h = absurd (let e = h.settles.1 in cc)
table_writes op.Async p s k like a r h = absurd (let e = h.settles.3 in cc)
table_writes op.Ata p s k like a r h = absurd (let e = h.settles.3 in cc)
table_writes op.Call p s k like a r h = called_writes p term.Here h.settles.0.result k like h.settles.2
    (subst (λ o. IsResultNamed (result_of o) p.instr.a) h.settles.1.there (r refl))
table_writes op.At p s k like a r h = called_writes p (term.Reg p.instr.c) h.settles.0.result k like h.settles.2
    (subst (λ o. IsResultNamed (result_of o) p.instr.a) h.settles.1.there (r refl))
table_writes _ p s k like a r h = a refl

like_named : (s : State) (k : Kind) (like : Option Term) → IsSoundIn s (Sets k like) → IsTermLike like
like_named s k None h = tt
like_named s k (Some t) h = stands_term s t h.1

can : (p : Point) (s : State) (e : Effect) → IsNamed p.program p.instr → IsSoundIn s e → Grants (rule_for p.instr.op p.instr) p s e
    → CanApply p.instr.a e
can p s Keeps named sound h = tt
can p s (Sets k like) named sound h = (table_writes p.instr.op p s k like named.a named.result h, like_named s k like sound)
can p s (Joins t u) named sound h = (stands_term s t sound.0, stands_term s u sound.1)

pub can_apply : (p : Point) (s : State) (e : Effect) → IsNarrow s → ResultsFit p.program → IsNamed p.program p.instr
    → Grants (rule_for p.instr.op p.instr) p s e → CanApply p.instr.a e
can_apply p s e narrow fit named h = can p s e named (grants_sound (rule_for p.instr.op p.instr) p s e narrow fit
    (table_sound p.instr.op p.instr named.small.place) h) h

-- the results of a module that has an image fit
flag_fits : (n : ℕ) (o : Option Slot) → IfSome o (FitsSlot n) → FlagFits o
flag_fits n None h = tt
flag_fits n (Some slot) h = h.flag

pub results_fit : (m : Module) → FitsImage m → ResultsFit m
results_fit m fits f function e = flag_fits (length m.classes) function.result
    (all_at (FitsFunction m.version (length m.classes)) m.functions f function fits.functions.2 e).result
