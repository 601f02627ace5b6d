use Rattle.std.proofs.Common.{◌≡◌, ℕ, ◌<◌, List, length, subst, sym, ◌∙◌, ap, arith}
use Rattle.std.proofs.lemmas.List.{get_or_read}
use Rattle.x10_copy.specs.Names.{number}
use Rattle.x10_copy.proofs.Position.{place_there, number_is}
use Rattle.x10_copy.proofs.numbers.Numbers.number.Goals as goal

there : (xs ys : List ℕ) (part : ℕ) → xs ≡ ys → number ys part < length ys → number xs part < length xs
there xs ys part e lt = subst (λ (zs : List ℕ). number zs part < length zs) (sym e) lt

pub index-requires : goal.index-requires
index-requires c = omega (
  arith,
  c.self.inside.places.ok.0,
  place_there c.self.inside.places.items c.self.inside.parts.items c.args.part c.self.invariant
      (there _ _ c.args.part c.self.view_is c.requires),
)

pub returns : goal.returns
returns c = get_or_read c.self.inside.places.items c.args.part c.index.result.now
    (place_there c.self.inside.places.items c.self.inside.parts.items c.args.part c.self.invariant (there _ _ c.args.part c.self.view_is c.requires))
    c.index.ensures 0 ∙ number_is c.self.inside.places.items c.self.inside.parts.items c.args.part c.self.invariant
    (there _ _ c.args.part c.self.view_is c.requires) ∙ ap (λ (xs : List ℕ). number xs c.args.part) c.self.view_is
