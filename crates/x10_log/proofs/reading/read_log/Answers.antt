use Rattle.std.proofs.Common.{ℕ, map, ap, sym, subst, ◌∙◌}
use Rattle.std.specs.List.{AllByRecursion, flat_map}
use Rattle.x10_log.specs.declared.fault.LogFault.{LogFault}
use Rattle.x10_log.specs.Logs.{turn_value, log_value, ended_line}
use Rattle.x10_log.specs.Limits.{IsWithin}
use Rattle.x10_log.proofs.Faults.{log_handed_on}
use Rattle.x10_log.proofs.LogLines.{spelled_is, log_is}
use Rattle.x10_log.proofs.reading.read_log.Goals as goal

pub returns-in_err-head-clause-found : goal.returns-in_err-head-clause-found
returns-in_err-head-clause-found c = λ l limited fits e.
    log_handed_on log_value c.from_residual.result _ l c.from_residual.ensures.1 (λ fault is. ap (λ (f : LogFault). f.cause) is
    ∙ c.in_err-head.ensures.found l.digest l.places (flat_map ended_line l.turns) fits.digest fits.length limited.some limited.few (e ∙ spelled_is l))

pub returns-in_err-turns-clause-found : goal.returns-in_err-turns-clause-found
returns-in_err-turns-clause-found c = λ l limited fits e.
    let head = c.in_ok-head.ensures.found l.digest l.places (flat_map ended_line l.turns) fits.digest fits.length limited.some limited.few
    (e ∙ spelled_is l) in
    log_handed_on log_value c.from_residual-in_err-turns.result _ l c.from_residual-in_err-turns.ensures.1 (λ fault is. ap (λ
    (f : LogFault). f.cause) is
    ∙ c.in_err-turns.ensures.found l.turns (subst (λ (n : ℕ). AllByRecursion (IsWithin n) l.turns) (sym head.1) limited.turns) fits.turns head.2)

pub returns-clause-found : goal.returns-clause-found
returns-clause-found c = λ l limited fits e.
    let head = c.in_ok-head.ensures.found l.digest l.places (flat_map ended_line l.turns) fits.digest fits.length limited.some limited.few
    (e ∙ spelled_is l) in
    log_is l c.in_ok-head.head.digest c.in_ok-head.head.places (map turn_value c.in_ok-turns.turns.items) head.0 head.1
    (c.in_ok-turns.ensures.found l.turns (subst (λ (n : ℕ). AllByRecursion (IsWithin n) l.turns) (sym head.1) limited.turns) fits.turns head.2)
