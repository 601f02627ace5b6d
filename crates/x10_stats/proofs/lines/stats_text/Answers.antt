use Rattle.std.proofs.Common.{ap, ◌∙◌}
use Rattle.std.specs.String.{string_bytes}
use Rattle.x10_stats.specs.Tallies.{TallyState}
use Rattle.x10_stats.proofs.WholeText.{whole_text}
use Rattle.x10_stats.proofs.lines.stats_text.Goals as goal

pub returns : goal.returns
returns c = whole_text c.args.verified.now c.args.counts.now c.args.world.now.places c.stats-stats.result.now c.rounds.result c.functions.result.now
    c.tally-tally.result.now (string_bytes c.new-text.result) (string_bytes c.push_events.new.text) (string_bytes c.push_begins.new.text)
    (string_bytes c.push_ends.new.text) (string_bytes c.push_functions.new.text) (string_bytes c.push_activities.new.text)
    (string_bytes c.push_heaps.new.text) c.stats-stats.ensures c.rounds.ensures
    (c.functions.ensures ∙ ap (λ (t : TallyState). t.functions) c.tally-tally.ensures) c.tally-tally.ensures c.new-text.ensures.bytes
    c.in_ok-push_events.ensures c.in_ok-push_begins.ensures c.in_ok-push_ends.ensures c.in_ok-push_functions.ensures
    c.in_ok-push_activities.ensures c.in_ok-push_heaps.ensures
