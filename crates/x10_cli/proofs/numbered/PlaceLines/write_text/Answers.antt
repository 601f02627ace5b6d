use Rattle.std.proofs.Common.{◌++◌, ap, codes, decimal, subst, ◌∙◌}
use Rattle.std.specs.Io.KnownBytes.{Appends}
use Rattle.x10_cli.proofs.LineParts.{front_alone, text_line}
use Rattle.x10_cli.proofs.numbered.PlaceLines.write_text.Goals as goal

pub returns : goal.returns
returns g c = text_line c.write_all-3.result (g.O.Write.contents c.args.out.now) (g.O.Write.contents c.write_all.new.self)
    (g.O.Write.contents c.write_all-2.new.self) (g.O.Write.contents c.write_all-3.new.self) _ (decimal c.args.self.now) c.args.text.now _
    (front_alone c.self.invariant ∙ ap (λ n. decimal n ++ codes ": ") c.self.view_is) c.in_ok-write_all.ensures.bytes
    (subst (λ bs. Appends (g.O.Write.contents c.write_all.new.self) (g.O.Write.contents c.write_all-2.new.self) bs) c.as_bytes.ensures.value
    c.in_ok-write_all-2.ensures.bytes) c.write_all-3.ensures.bytes
