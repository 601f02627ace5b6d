use Rattle.std.proofs.Common.{◌++◌, ap, length, subst, sym, ◌∙◌}
use Rattle.x10_states.specs.Kinds.{AreLeast}
use Rattle.x10_moments.specs.Moments.{AreShown, first_moment}
use Rattle.x10_moments.specs.Pages.{page_front}
use Rattle.x10_moments.proofs.recorder.begin_page.Goals as goal

pub returns : goal.returns
returns c =
    let before = c.in_ok-recorder.recorder in
    let r = c.begin.new.self in
    let places = c.args.world.now.places in
    record {
      program_is = c.begin.ensures.program ∙ c.in_ok-recorder.ensures.program;
      least = subst (λ m. AreLeast m r.kinds) (sym c.begin.ensures.program)
          (subst (λ k. AreLeast before.program k) (sym c.begin.ensures.kinds) c.in_ok-recorder.ensures.least);
      shown = subst (λ m. AreShown m r.kinds places r.places) (sym c.begin.ensures.program)
          (subst (λ k. AreShown before.program k places r.places) (sym c.begin.ensures.kinds) c.in_ok-text.ensures.places);
      text_is = c.in_ok-text.ensures.text
          ∙ ap (λ m. page_front m (length places) c.args.before c.args.world.now.flights ++ first_moment r.places) (sym c.begin.ensures.program);
    }
