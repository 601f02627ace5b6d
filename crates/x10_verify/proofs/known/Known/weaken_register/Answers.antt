use Rattle.std.proofs.Common.{◌≡◌, arith, ap₂, sym, subst, set, ◌∙◌}
use Rattle.std.proofs.lemmas.Bool.{iff_false}
use Rattle.x10_verify.specs.Known.{kind_in, state_of}
use Rattle.x10_verify.specs.Knowledge.{SameState}
use Rattle.x10_verify.specs.Merging.{common_of, parted}
use Rattle.x10_verify.proofs.Rows.{same_parted}
use Rattle.x10_verify.proofs.known.Known.weaken_register.Goals as goal

pub returns-clause-changed : goal.returns-clause-changed
returns-clause-changed c = λ is.
    let common : c.common-common.result ≡ common_of (kind_in c.args.self.now.kinds c.args.register) (kind_in c.args.other.now.kinds c.args.register) =
    c.common-common.ensures ∙ ap₂ common_of c.kind-have.ensures.value c.kind.ensures.value in
    let differ : c.common-common.result ≡ c.kind-have.result → ⊥ = iff_false c.is_same.ensures c.if-is_same.false in (
      (λ h. differ (common ∙ h ∙ sym c.kind-have.ensures.value)),
      subst (λ k. SameState (state_of (record { kinds = set c.args.self.now.kinds c.args.register c.encode.result; homes = c.write.new.self }))
          (parted (state_of c.args.self.now) c.args.register k))
          common
          (same_parted c.args.self.now.kinds c.args.self.now.homes c.write.new.self c.args.register c.encode.result c.common-common.result
          c.encode.ensures (omega arith) c.write.ensures),
    )
