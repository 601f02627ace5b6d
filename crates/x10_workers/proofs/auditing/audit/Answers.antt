use Rattle.std.proofs.Common.{inl, refl}
use Rattle.std.proofs.lemmas.Result.{err_from_is_err_and}
use Rattle.x10_workers.proofs.PlayLemmas.{played}
use Rattle.x10_workers.proofs.ReplayFaults.{if_ok_all, if_err_map, broken_off, not_ended}
use Rattle.x10_workers.proofs.auditing.audit.Goals as goal

pub returns-in_default-clause-err : goal.returns-in_default-clause-err
returns-in_default-clause-err c = inl refl

pub returns-in_err-replay_all-clause-err : goal.returns-in_err-replay_all-clause-err
returns-in_err-replay_all-clause-err c =
    let p = err_from_is_err_and c.from_residual.result c.from_residual.ensures.1 in
    rw (p.1, p.2) (broken_off c.args.verified.now c.args.places c.args.log.now c.in-Ok.world c.in-Ok.ensures.opened c.in_err-replay_all.field-0.0
    c.in_err-replay_all.ensures.err)

pub returns-clause-ok : goal.returns-clause-ok
returns-clause-ok c =
    if_ok_all c.ended.result _ _ _ _ c.ended.ensures.closed c.ended.ensures.over c.ended.ensures.lines
    (λ closed over outputs lines. played c.args.verified.now c.args.places c.args.log.now _ c.in-Ok.world c.replay_all.new.world
    c.in-Ok.ensures.opened c.in_ok-replay_all.ensures.plays closed over lines)

pub returns-clause-err : goal.returns-clause-err
returns-clause-err c =
    if_err_map c.ended.result _ _ c.ended.ensures.err
    (not_ended c.args.verified.now c.args.places c.args.log.now c.in-Ok.world c.replay_all.new.world c.in-Ok.ensures.opened
    c.in_ok-replay_all.ensures.plays)
