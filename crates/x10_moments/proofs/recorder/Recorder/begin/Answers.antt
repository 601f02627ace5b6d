use Rattle.std.proofs.Common.{◌++◌, List, ℕ, ap, length, ◌∙◌}
use Rattle.x10_moments.specs.Moments.{first_moment}
use Rattle.x10_moments.specs.Pages.{data_front, page_front}
use Rattle.x10_moments.proofs.recorder.Recorder.begin.Goals as goal

pub returns-clause-text : goal.returns-clause-text
unfolding page_front
returns-clause-text c =
    let front = data_front c.args.self.now.program (length c.args.world.now.places) c.args.before c.args.world.now.flights in
    c.in_ok-push_first_moment.ensures.text
    ∙ ap (λ (t : List ℕ). t ++ first_moment c.push_first_moment.new.self.places)
    (c.in_ok-push_front.ensures ∙ ap (λ (t : List ℕ). t ++ front) c.in_ok-text.ensures.ok)
