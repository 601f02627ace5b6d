-- What is done with a world behind a handle.
use Rattle.std.proofs.Common.{◌≡◌, Option, Some, None, sym, ap, ◌∙◌, unwrap_or}
use Rattle.std.specs.Prelude.{MatchOption}
use Rattle.x10_world.specs.StandsForWorld.{WorldState}
use Rattle.x10_handles.specs.declared.handle.Handle.{Handle}
use Rattle.x10_handles.specs.declared.inside.Inside.{Inside}
use Rattle.x10_handles.specs.Handles.{inside_of}
use Rattle.x10_handles.specs.Worlds.{LacksWorld, WorksAsWorld, AltersWorld, LacksWorldIn}

some_one : {X : Type 0} {x y : X} → Some x ≡ Some y → x ≡ y
some_one {x = x} e = ap (λ o. unwrap_or o x) e

module _ (old new : Handle) (a b : Inside) (was : inside_of old ≡ Some a) (is : inside_of new ≡ Some b) where
  kept_so : LacksWorldIn a b → LacksWorld old new
  kept_so l = ((λ x e. l.0 x (some_one (sym was ∙ e))), is ∙ ap Some l.1 ∙ sym was)

  altered : (Acts : WorldState → WorldState → Type 0) → AltersWorld a b Acts → WorksAsWorld old new Acts
  altered Acts (x, y, is_x, is_y, acts) = (x, y, was ∙ ap Some is_x, is ∙ ap Some is_y, acts)

pub behind_world : {R : Type 0} (old new : Handle) (a b : Inside) (r : Option R) (Acts : R → WorldState → WorldState → Type 0)
    → inside_of old ≡ Some a → inside_of new ≡ Some b
    → MatchOption r (LacksWorldIn a b) (λ x. AltersWorld a b (Acts x))
    → MatchOption r (LacksWorld old new) (λ x. WorksAsWorld old new (Acts x))
behind_world old new a b None Acts was is m = kept_so old new a b was is m
behind_world old new a b (Some x) Acts was is m = altered old new a b was is (Acts x) m
