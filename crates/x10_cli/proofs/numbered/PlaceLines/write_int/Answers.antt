use Rattle.std.proofs.Common.{◌≡◌, ◌++◌, ◌-◌, [], ◌∷◌, drop, take, ap, refl, sym, subst, ◌∙◌, OnOk, to_z-of_z}
use Rattle.std.specs.Fmt.{signed_decimal}
use Rattle.std.specs.Io.KnownBytes.{Appends}
use Rattle.x10_model.specs.Places.{Number}
use Rattle.x10_cli.specs.Lines.{HasFront, numbered}
use Rattle.x10_cli.specs.declared.numbered.PlaceLines.TheInside.{Inside}
use Rattle.x10_cli.proofs.LineParts.{new_front, same_front, to_the_end, whole_line}
use Rattle.x10_cli.proofs.numbered.PlaceLines.write_int.Given.{Over}
use Rattle.x10_cli.proofs.numbered.PlaceLines.write_int.Goals.{then-end-self, else-end-self}
use Rattle.x10_cli.proofs.numbered.PlaceLines.write_int.Goals as goal

-- the line as it is written
IsPut : (g : Over) (c : goal.After-write_all g) → Inside → Type 0
IsPut g c i = HasFront i.place i.line i.start i.end × (drop i.end i.line ≡ signed_decimal c.args.number ++ 10 ∷ [])
    × (i.place ≡ c.self.inside.place)

is_put : (g : Over) (c : goal.After-write_all g) → IsPut g c c.if-end-self.self-inside
unfolding IsPut
is_put g c =
    let s = c.put_signed-end in
    let old = c.self.invariant in
    let back = to_z-of_z c.ranges.number in
    let digits : drop s.result s.new.line ≡ signed_decimal c.args.number ++ 10 ∷ [] = rw (s.ensures.digits, back) (ap (λ bs. signed_decimal c.args.number ++ bs) old.last) in
    elim c.if-end-self.branch [
      | then-end-self w ↦ subst (IsPut g c) (sym w.self-inside-is) (
        new_front s.new.line w.put_front-self-inside.new.line w.put_front-self-inside.ensures.before s.ensures.room s.ensures.within w.put_front-self-inside.ensures.front
            w.put_front-self-inside.ensures.kept (s.ensures.kept ∙ old.last),
        w.put_front-self-inside.ensures.kept ∙ digits,
        refl,
      )
      | else-end-self w ↦ subst (IsPut g c) (sym w.self-inside-is) (
        same_front old (subst (λ n. take n s.new.line ≡ take n c.self.inside.line) w.if-end-self.false s.ensures.before) s.ensures.kept,
        subst (λ n. drop n s.new.line ≡ signed_decimal c.args.number ++ 10 ∷ []) w.if-end-self.false digits,
        refl,
      )
    ]

pub invariant_of-self : goal.invariant_of-self
unfolding IsPut
invariant_of-self g c = (is_put g c).0

is_line : (g : Over) (c : goal.After-write_all g) → take (43 - c.if-end-self.self-inside.start) (drop c.if-end-self.self-inside.start c.if-end-self.self-inside.line)
    ≡ numbered c.args.self.now (Number c.args.number)
unfolding IsPut
is_line g c = to_the_end (is_put g c).0 ∙ whole_line c.args.number (is_put g c).0 (is_put g c).1
    ∙ ap (λ n. numbered n (Number c.args.number)) ((is_put g c).2 ∙ c.self.view_is)

pub returns-clause-line : goal.returns-clause-line
returns-clause-line g c = subst (λ bs. OnOk c.write_all.result (Appends (g.O.Write.contents c.args.out.now) (g.O.Write.contents c.write_all.new.self) bs))
    (is_line g c) c.write_all.ensures.bytes
