use Rattle.std.proofs.Common.{sym, ◌∙◌, ◌+◌, arith, true, false}
use Rattle.std.proofs.lemmas.Str.{IsCharBoundary-after_ascii}
use Rattle.x10_asm.proofs.QuotedBytes.{escape_within, bad_within, quote_within, backslash_within, other_within, none_within}
use Rattle.x10_asm.proofs.literal.behind.Goals as goal

pub range_from-requires : goal.range_from-requires
range_from-requires c = λ _.
    IsCharBoundary-after_ascii c.args.quoted.now c.loop-at.at c.utf8.quoted (rw c.as_bytes-bytes.ensures.value at c.loop-at-test.true)
    (omega (arith, rw c.as_bytes-bytes.ensures.value at c.if-byte-eq34.true))

pub returns-then-byte-eq34 : goal.returns-then-byte-eq34
returns-then-byte-eq34 c =
    let lt = rw c.as_bytes-bytes.ensures.value at c.loop-at-test.true in
    let here = rw c.as_bytes-bytes.ensures.value at c.if-byte-eq34.true in
    rw c.range_from.ensures.value (quote_within c.args.quoted.now c.loop-at.at c.loop-at.invariant lt here)

pub returns-then-at-bytes : goal.returns-then-at-bytes
returns-then-at-bytes c =
    let lt = rw c.as_bytes-bytes.ensures.value at c.loop-at-test.true in
    let here = rw c.as_bytes-bytes.ensures.value at c.if-byte-eq92.true in
    none_within c.args.quoted.now true (c.loop-at.at + 1)
    (backslash_within c.args.quoted.now c.loop-at.at c.loop-at.invariant lt here)
    (rw c.as_bytes-bytes.ensures.value at c.if-at-bytes.true)

pub returns-in_default : goal.returns-in_default
returns-in_default c =
    let lt = rw c.as_bytes-bytes.ensures.value at c.loop-at-test.true in
    let here = rw c.as_bytes-bytes.ensures.value at c.if-byte-eq92.true in
    let e = rw c.as_bytes-bytes.ensures.value at c.unescaped.ensures in
    let next = rw c.as_bytes-bytes.ensures.value at c.if-at-bytes.false in
    bad_within c.args.quoted.now (c.loop-at.at + 1) (sym e ∙ c.in_default.is)
    (backslash_within c.args.quoted.now c.loop-at.at c.loop-at.invariant lt here)
    (omega (arith, next))

pub loop-at-preserved-then-byte-eq92 : goal.loop-at-preserved-then-byte-eq92
loop-at-preserved-then-byte-eq92 c =
    let lt = rw c.as_bytes-bytes.ensures.value at c.loop-at-test.true in
    let here = rw c.as_bytes-bytes.ensures.value at c.if-byte-eq92.true in
    let e = rw c.as_bytes-bytes.ensures.value at c.unescaped.ensures in
    let next = rw c.as_bytes-bytes.ensures.value at c.if-at-bytes.false in
    escape_within c.args.quoted.now (c.loop-at.at + 1) _ (sym e ∙ c.in-Some.is)
    (backslash_within c.args.quoted.now c.loop-at.at c.loop-at.invariant lt here)
    (omega (arith, next))

pub loop-at-preserved : goal.loop-at-preserved
loop-at-preserved c =
    let lt = rw c.as_bytes-bytes.ensures.value at c.loop-at-test.true in
    let quote = rw c.as_bytes-bytes.ensures.value at c.if-byte-eq34.false in
    let backslash = rw c.as_bytes-bytes.ensures.value at c.if-byte-eq92.false in
    other_within c.args.quoted.now c.loop-at.at c.loop-at.invariant lt quote backslash

pub returns : goal.returns
returns c = none_within c.args.quoted.now false c.loop-at.at c.loop-at.invariant
    (rw c.as_bytes-bytes.ensures.value at c.loop-at-test.false)
