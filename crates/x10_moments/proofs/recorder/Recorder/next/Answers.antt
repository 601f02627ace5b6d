use Rattle.std.proofs.Common.{◌++◌, List, ℕ, ap, subst, length, ◌∙◌}
use Rattle.std.specs.String.{string_bytes}
use Rattle.x10_trace.specs.Trace.{trace_lines}
use Rattle.x10_moments.specs.Moments.{changed_place, changed_text, event_part, moment_text, places_part, posts_part, posts_text}
use Rattle.x10_moments.specs.Recorders.{Updates}
use Rattle.x10_moments.proofs.Moments.{all_follow, changed_there, changed_within}
use Rattle.x10_moments.proofs.Pieces.{joined}
use Rattle.x10_moments.proofs.recorder.Recorder.next.Goals as goal

pub push_places_part_of-requires-clause-kept : goal.push_places_part_of-requires-clause-kept
push_places_part_of-requires-clause-kept c = changed_within c.args.self.now.program c.args.self.now.kinds c.requires.0 c.args.world.now c.args.event
    c.args.done.now c.args.self.now.places c.changed.result c.changed.ensures c.requires.1 c.requires.2

pub push_places_part_of-requires-clause-there : goal.push_places_part_of-requires-clause-there
push_places_part_of-requires-clause-there c =
    changed_there c.requires.0 c.args.world.now c.args.event c.args.done.now c.changed.result c.changed.ensures c.requires.1

pub returns-clause-told : goal.returns-clause-told
unfolding moment_text
returns-clause-told c =
    let old = c.args.self.now.places in
    let new = c.push_places_part_of.new.self.places in
    let e = event_part (trace_lines c.args.world.now c.args.event c.args.done.now) in
    let p = places_part (changed_text (changed_place c.args.event c.args.done.now) old new) in
    let q = posts_part (posts_text (length c.args.world.now.places) c.args.world.now.flights c.args.done.now) in
    let t0 = string_bytes c.in_ok-text.text in
    let t1 = string_bytes c.push_event_part.new.text in
    joined t0 t1 (string_bytes c.push_posts_part.new.text) e (p ++ q)
    (c.in_ok-push_event_part.ensures ∙ ap (λ (b : List ℕ). t0 ++ event_part b) (c.deref.ensures ∙ c.in_ok-lines.ensures))
    (joined t1 (string_bytes c.push_places_part_of.new.text) (string_bytes c.push_posts_part.new.text) p q
    (c.in_ok-push_places_part_of.ensures.text ∙ ap (λ o. t1 ++ places_part (changed_text o old new)) c.changed.ensures)
    c.in_ok-push_posts_part.ensures)
    ∙ ap (λ (t : List ℕ). t ++ (e ++ (p ++ q))) c.in_ok-text.ensures.ok

pub returns-clause-places : goal.returns-clause-places
returns-clause-places c = λ y h shown. all_follow c.args.self.now.program c.args.self.now.kinds y c.args.world.now c.args.event c.args.done.now
    c.args.self.now.places c.push_places_part_of.new.self.places h shown
    (subst (λ o. Updates c.args.self.now.program c.args.self.now.kinds c.args.world.now o c.args.self.now.places
    c.push_places_part_of.new.self.places) c.changed.ensures c.in_ok-push_places_part_of.ensures.places)
