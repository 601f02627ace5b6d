-- What a place counts of the finishes that it has met, the latest one before the others if it lies beside them.
use Rattle.std.specs.Prelude.{◌≡◌, ℕ, ◌<◌, Bool, true, false, ◌-◌, List, ◌∷◌, Option, Some, None, Result, Err, OnOk, IfErr, cond, length}
use Rattle.x10_kinds.specs.declared.limit.Limit.TheVariants as limits
use Rattle.x10_kinds.specs.declared.stop.Stop.{Stop}
use Rattle.x10_kinds.specs.declared.stop.Stop.TheVariants as stop
use Rattle.x10_model.specs.declared.finish.Finish.{Finish}
use Rattle.x10_model.specs.Worlds.{same_finish}
use Rattle.x10_model.specs.Totals.{nothing}
use Rattle.x10_finish.specs.declared.count.Count.{Count}
use Rattle.x10_finish.specs.declared.count.Change.{Change}
use Rattle.x10_finish.specs.declared.met.Named.{Named}
use Rattle.x10_finish.specs.Counts.{IsFull, IsWhole, changed, counted}
use Rattle.x10_finish.specs.Ledgers.{count_of}

abbrev pub listed : Option Named → List (Finish × Count) → List (Finish × Count)
listed None others = others
listed (Some latest) others = (latest.finish, latest.count) ∷ others

-- the latest one, where its finish was met
abbrev pub if_met : Bool → Option Named → Option Named
if_met true latest = latest
if_met false latest = None

-- whether it is that of a finish
abbrev pub is_of_finish : Option Named → Finish → Bool
is_of_finish None f = false
is_of_finish (Some latest) f = same_finish f latest.finish

-- the latest one isn't among the others
abbrev pub IsApart : Option Named → List (Finish × Count) → Type 0
IsApart None others = Unit {0}
IsApart (Some latest) others = count_of others latest.finish ≡ None

-- one count is written or entered
abbrev pub Writes : List (Finish × Count) → Finish → Count → List (Finish × Count) → Type 0
Writes old k w new = (q : Finish) → count_of new q ≡ cond (same_finish k q) (Some w) (count_of old q)

-- a count of nothing is entered, with two numbers for each place
pub record Meets (old : List (Finish × Count)) (f : Finish) (places : ℕ) (new : List (Finish × Count)) : Type 0 where
  pub count : Count
  pub nothing_yet : counted count ≡ nothing
  pub whole : IsWhole places count
  pub writes : Writes old f count new

-- one count goes
abbrev pub Removes : List (Finish × Count) → Finish → List (Finish × Count) → Type 0
Removes old k new = (q : Finish) → count_of new q ≡ cond (same_finish k q) None (count_of old q)

-- what changes is counted of a finish that was met, or refused at a limit; then nothing has changed
pub record IsCounted (old : List (Finish × Count)) (f : Finish) (change : Change) (r : Result (Unit {0}) Stop)
    (new : List (Finish × Count)) : Type 0 where
  pub was : Count
  pub was_there : count_of old f ≡ Some was
  pub is : Count
  pub writes : Writes old f is new
  pub ok : OnOk r (counted is ≡ changed change (counted was))
  pub whole : IsWhole (length was.sent.items) is
  pub full : IsFull change (counted was) → r ≡ Err (stop.Limit limits.Activities)
  pub err : IfErr r (λ why. (why ≡ stop.Limit limits.Activities) × IsFull change (counted was)
      × (new ≡ old))

-- one activity less lives under a finish that was met
pub record Lowers (old : List (Finish × Count)) (f : Finish) (new : List (Finish × Count)) : Type 0 where
  pub was : Count
  pub was_there : count_of old f ≡ Some was
  pub writes : Writes old f (record was { live = was.live - 1 }) new

-- no finish with a greater number is there
abbrev pub NoneAbove : ℕ → List (Finish × Count) → Type 0
NoneAbove highest counts = (f : Finish) → highest < f.number → count_of counts f ≡ None
