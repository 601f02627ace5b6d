use Rattle.std.proofs.Common.{ap, ◌∙◌}
use Rattle.std.specs.Int.{w64, cast_signed}
use Rattle.std.proofs.lemmas.Int.{to_z-of_z}
use Rattle.x10_place.specs.declared.call_frame.CallFrame.{CallFrame}
use Rattle.x10_place.specs.Frames.{int_at}
use Rattle.x10_place.proofs.PrintedLines.{number_known}
use Rattle.x10_place.proofs.stay.Stay.line.Goals as goal

pub returns-then-not-prints_text : goal.returns-then-not-prints_text
returns-then-not-prints_text c =
    let top = c.frame-top.ensures in (
      number_known c.args.verified.now.program c.args.self.now.top c.from.result c.from-2.result c.args.register c.requires.print.0 c.requires.print.1
          c.requires.print.2 c.requires.print.3
          (c.from.ensures ∙ ap (λ (f : CallFrame). f.function) top) (c.from-2.ensures ∙ ap (λ (f : CallFrame). f.pc) top)
          (c.prints_text.ensures.number c.if-not-prints_text.true),
      to_z-of_z w64 c.cast_signed.result (record { sfits = c.cast_signed.type_inv }) ∙ c.cast_signed.ensures
          ∙ ap (λ n. cast_signed w64 n) c.word-word.ensures ∙ ap (λ (f : CallFrame). int_at f.registers.items c.args.register) top,
    )
