use Rattle.std.proofs.Common.{◌∙◌, ap, sym, ℕ, List, Option, arith}
use Rattle.std.proofs.lemmas.Str.{IsCharBoundary-after_ascii}
use Rattle.x10_asm.specs.declared.fault.AsmCause.TheVariants.{Text}
use Rattle.x10_asm.specs.Checks.{given}
use Rattle.x10_asm.proofs.QuotedBytes.{escape_scanned, bad_escape, quote_scanned, backslash_scanned, other_scanned, not_closed}
use Rattle.x10_asm.proofs.literal.scan_quoted.Goals as goal
use Rattle.x10_asm.proofs.literal.scan_quoted.Goals.{then-after_backslash+in-Some+in_ok-push, else-after_backslash+else-byte-eq34+then-byte-eq92, else-after_backslash+else-byte-eq34+else-byte-eq92+in_ok-push-2}

pub returns-in_default : goal.returns-in_default
returns-in_default c =
    let s = rw c.if-after_backslash.true at c.loop-at.invariant in
    let lt = rw c.as_bytes-bytes.ensures.value at c.loop-at-test.true in
    let e = rw c.as_bytes-bytes.ensures.value at c.unescaped.ensures in
    λ _. ap (λ (r : Option (List ℕ × List ℕ)). given r Text) (bad_escape c.loop-at.text.items c.args.quoted.now c.loop-at.at s lt
    (sym e ∙ c.in_default.is))

pub range_from-requires : goal.range_from-requires
range_from-requires c = λ _.
    IsCharBoundary-after_ascii c.args.quoted.now c.loop-at.at c.utf8.quoted (rw c.as_bytes-bytes.ensures.value at c.loop-at-test.true)
    (omega (arith, rw c.as_bytes-bytes.ensures.value at c.if-byte-eq34.true))

pub returns-then-byte-eq34 : goal.returns-then-byte-eq34
returns-then-byte-eq34 c =
    let s = rw c.if-after_backslash.false at c.loop-at.invariant in
    let lt = rw c.as_bytes-bytes.ensures.value at c.loop-at-test.true in
    let here = rw c.as_bytes-bytes.ensures.value at c.if-byte-eq34.true in
    rw c.range_from.ensures.value (ap (λ (r : Option (List ℕ × List ℕ)). given r Text)
    (quote_scanned c.loop-at.text.items c.args.quoted.now c.loop-at.at s lt here))

pub loop-at-preserved : goal.loop-at-preserved
loop-at-preserved c =
    let lt = rw c.as_bytes-bytes.ensures.value at c.loop-at-test.true in
    elim c.if-after_backslash.branch [
      | then-after_backslash+in-Some+in_ok-push w ↦
          let s = rw w.if-after_backslash.true at c.loop-at.invariant in
          let e = rw c.as_bytes-bytes.ensures.value at w.unescaped.ensures in
          rw (w.after_backslash-is, w.text-is) (escape_scanned c.loop-at.text.items w.push.new.self.items c.args.quoted.now c.loop-at.at
          w.in-Some.meant s lt (sym e ∙ w.in-Some.is) w.in_ok-push.ensures.items)
      | else-after_backslash+else-byte-eq34+then-byte-eq92 w ↦
          let s = rw w.if-after_backslash.false at c.loop-at.invariant in
          let here = rw c.as_bytes-bytes.ensures.value at w.if-byte-eq92.true in
          rw (w.after_backslash-is, w.text-is) (backslash_scanned c.loop-at.text.items c.args.quoted.now c.loop-at.at s lt here)
      | else-after_backslash+else-byte-eq34+else-byte-eq92+in_ok-push-2 w ↦
          let s = rw w.if-after_backslash.false at c.loop-at.invariant in
          let quote = rw c.as_bytes-bytes.ensures.value at w.if-byte-eq34.false in
          let backslash = rw c.as_bytes-bytes.ensures.value at w.if-byte-eq92.false in
          let pushed = rw c.as_bytes-bytes.ensures.value at w.in_ok-push-2.ensures.items in
          rw (w.after_backslash-is, w.if-after_backslash.false, w.text-is)
          (other_scanned c.loop-at.text.items w.push-else-byte-eq92.new.self.items c.args.quoted.now c.loop-at.at s lt quote backslash pushed)
    ]

pub returns : goal.returns
returns c = λ _. ap (λ (r : Option (List ℕ × List ℕ)). given r Text)
    (not_closed c.loop-at.text.items c.args.quoted.now c.loop-at.after_backslash c.loop-at.at c.loop-at.invariant
    (rw c.as_bytes-bytes.ensures.value at c.loop-at-test.false))
