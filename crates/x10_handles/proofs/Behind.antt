-- What is done with a place behind a handle.
use Rattle.std.proofs.Common.{◌≡◌, Option, Some, None, sym, ap, ◌∙◌, unwrap_or}
use Rattle.std.specs.Prelude.{MatchOption}
use Rattle.x10_handles.specs.declared.handle.Handle.{Handle}
use Rattle.x10_handles.specs.declared.inside.Inside.{Inside}
use Rattle.x10_handles.specs.declared.station.Station.{Station}
use Rattle.x10_handles.specs.Handles.{inside_of, LacksPlace, Works, Alters, LacksIn}

some_one : {X : Type 0} {x y : X} → Some x ≡ Some y → x ≡ y
some_one {x = x} e = ap (λ o. unwrap_or o x) e

module _ (old new : Handle) (a b : Inside) (was : inside_of old ≡ Some a) (is : inside_of new ≡ Some b) where
  pub kept_so : LacksIn a b → LacksPlace old new
  kept_so l = ((λ s e. l.0 s (some_one (sym was ∙ e))), is ∙ ap Some l.1 ∙ sym was)

  pub altered : (Acts : Station → Station → Type 0) → Alters a b Acts → Works old new Acts
  altered Acts (s, t, is_s, is_t, acts) = (s, t, was ∙ ap Some is_s, is ∙ ap Some is_t, acts)

pub behind : {R : Type 0} (old new : Handle) (a b : Inside) (r : Option R) (Acts : R → Station → Station → Type 0)
    → inside_of old ≡ Some a → inside_of new ≡ Some b
    → MatchOption r (LacksIn a b) (λ x. Alters a b (Acts x))
    → MatchOption r (LacksPlace old new) (λ x. Works old new (Acts x))
behind old new a b None Acts was is m = kept_so old new a b was is m
behind old new a b (Some x) Acts was is m = altered old new a b was is (Acts x) m
