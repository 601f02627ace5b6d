use Rattle.std.proofs.Common.{ap, ◌∙◌, sym, ℕ, List, ◌++◌, arith}
use Rattle.std.specs.String.{string_bytes}
use Rattle.x10_asm.proofs.Escapes.{none_pushed, one_kept, one_escaped, run_between, all_pushed}
use Rattle.x10_asm.proofs.escape.push_escaped.Goals as goal
use Rattle.x10_asm.proofs.escape.push_escaped.Goals.{in-Some+in_ok-push_str+in_ok-push_str-2, in_default}

pub loop-at-init : goal.loop-at-init
loop-at-init c = none_pushed c.args.text.now (string_bytes c.args.out.now) c.utf8.text

pub loop-at-preserved : goal.loop-at-preserved
loop-at-preserved c = elim c.match-escaped.branch [
  | in-Some+in_ok-push_str+in_ok-push_str-2 w ↦
      let e = rw c.as_bytes-bytes.ensures.value at w.in-Some.ensures in
      let run = w.range.ensures.value ∙ sym (run_between c.args.text.now c.loop-at.from c.loop-at.at c.loop-at.invariant.order) in
      rw (w.from-is, w.out-is) (one_escaped (string_bytes c.args.out.now) (string_bytes c.loop-at.out)
      (string_bytes w.push_str-in-Some.new.self) c.args.text.now w.in-Some.escape.now c.loop-at.from c.loop-at.at c.loop-at.invariant c.utf8.text
      (omega (arith, c.as_bytes-bytes.ensures.len)) e.1 e.0 (w.in_ok-push_str-2.ensures.bytes
      ∙ ap (λ (t : List ℕ). t ++ w.in-Some.escape.now) (w.in_ok-push_str.ensures.bytes
      ∙ ap (λ (t : List ℕ). string_bytes c.loop-at.out ++ t) run)))
  | in_default w ↦
      rw (w.from-is, w.out-is) (one_kept (string_bytes c.args.out.now)
      (string_bytes c.loop-at.out) c.args.text.now c.loop-at.from c.loop-at.at c.loop-at.invariant (omega (arith, c.as_bytes-bytes.ensures.len))
      (rw c.as_bytes-bytes.ensures.value at w.in_default.ensures))
]

pub returns : goal.returns
returns c = all_pushed (string_bytes c.args.out.now) (string_bytes c.loop-at.out)
    (string_bytes c.push_str-2.new.self) c.args.text.now c.range_from.result.now c.loop-at.from c.loop-at.at c.loop-at.invariant
    (omega (arith, c.as_bytes-bytes.ensures.len)) c.range_from.ensures.value c.in_ok-push_str-3.ensures.bytes
