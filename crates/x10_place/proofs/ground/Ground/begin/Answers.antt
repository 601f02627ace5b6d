use Rattle.std.proofs.Common.{ap, ◌∙◌, arith}
use Rattle.x10_place.specs.Stays.{innermost_at, totals_in}
use Rattle.x10_place.proofs.BegunStays.{has_room}
use Rattle.x10_place.proofs.ground.Ground.begin.Goals as goal

pub returns-then-is_err-clause-full : goal.returns-then-is_err-clause-full
returns-then-is_err-clause-full c = λ limit a e over.
    absurd (has_room c.args.self.now.verified.now c.args.self.now.stays c.args.self.now.store c.args.key limit c.vacant_key.result c.live.result
    c.index-stay.result.now a c.vacant_key.ensures.value (omega (arith, c.if-vacant_key-gt-MOST_KEYS.false)) c.index-stay.ensures
    (c.live.ensures ∙ ap (λ f. (totals_in c.args.self.now.store f).live)
    (c.innermost-under.ensures ∙ ap (λ h. innermost_at h c.index-stay.result.now) c.locality.ensures.here)) c.if-live.false e over)

pub returns-in_err-begin-clause-full : goal.returns-in_err-begin-clause-full
returns-in_err-begin-clause-full c = λ limit a e over.
    absurd (has_room c.args.self.now.verified.now c.args.self.now.stays c.args.self.now.store c.args.key limit c.vacant_key.result c.live.result
    c.index-stay.result.now a c.vacant_key.ensures.value (omega (arith, c.if-vacant_key-gt-MOST_KEYS.false)) c.index-stay.ensures
    (c.live.ensures ∙ ap (λ f. (totals_in c.args.self.now.store f).live)
    (c.innermost-under.ensures ∙ ap (λ h. innermost_at h c.index-stay.result.now) c.locality.ensures.here)) c.if-live.false e over)
