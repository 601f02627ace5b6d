use Rattle.std.proofs.Common.{◌≡◌, ap, arith, subst}
use Rattle.std.specs.String.{string_bytes}
use Rattle.std.specs.Str.{IsUtf8}
use Rattle.std.proofs.lemmas.Str.{IsUtf8-string_bytes}
use Rattle.std.proofs.lemmas.Bool.{false≢true}
use Rattle.x10_asm.proofs.QuotedBytes.{fitting_gives, no_text}
use Rattle.x10_asm.proofs.literal.fitting.Goals as goal

pub returns-in-Ok : goal.returns-in-Ok
returns-in-Ok c =
    let e : string_bytes c.in-Ok.text ≡ c.args.text.items = ap (λ v. v.items) c.in-Ok.ensures.ok in
    rw e (fitting_gives c.args.text.items (omega (arith, c.args.text.ok.0)) (subst IsUtf8 e (IsUtf8-string_bytes c.in-Ok.text)))

pub returns : goal.returns
returns c = λ _. no_text c.args.text.items (λ u. false≢true (c.in-Err.ensures.succeeds u))
