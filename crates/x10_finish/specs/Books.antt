-- What callers see of a book: what it keeps of each place's reports.
use Rattle.std.specs.Prelude.{◌≡◌, ℕ, ◌*◌, ◌<◌, ◌^◌, Bool, IsTrue, List, length, replicate}
use Rattle.x10_model.specs.Totals.{Cut, zeros, merged}
use Rattle.x10_frame.specs.declared.report.Report.{Report}
use Rattle.x10_model.specs.declared.finish.Finish.{Finish}
use Rattle.x10_finish.specs.declared.pairs.Pair.{Pair}
use Rattle.x10_finish.specs.Ledgers.{report_of}
use Rattle.x10_finish.specs.Pairs.{no_pair, pair_at, unequal_in}

-- of which finish, of how many places, and the numbers pair by pair
pub record Kept : Type 0 where
  pub finish : Finish
  pub places : ℕ
  pub pairs : List Pair

-- what it keeps of each place: what that place sent to each, and received from each
abbrev pub kept_of : Kept → Cut
kept_of b p = record {
  sent = λ q. (pair_at b.places b.pairs p q).sent;
  received = λ q. (pair_at b.places b.pairs q p).received;
}

-- one pair for each two places, how many differ is counted, and where nothing was reported yet none has a number
pub record AreKept (home places unequal : ℕ) (blank : Bool) (pairs : List Pair) : Type 0 where
  pub is_place : home < places
  pub few : places < 2 ^ 16
  pub whole : length pairs ≡ places * places
  pub counted : unequal ≡ unequal_in home places pairs
  pub none : IsTrue blank → pairs ≡ replicate (places * places) no_pair

-- nothing was reported yet
pub record IsOpened (f : Finish) (places : ℕ) (b : Kept) : Type 0 where
  pub finish : b.finish ≡ f
  pub places_is : b.places ≡ places
  pub kept : kept_of b ≡ (λ p. zeros)

-- the larger of each number is kept of a place that sent so many activities to each place, and received so many from each,
-- and all else stays
pub record MergesCounts (old : Kept) (from : ℕ) (sent received : List ℕ) (new : Kept) : Type 0 where
  pub finish : new.finish ≡ old.finish
  pub places : new.places ≡ old.places
  pub kept : kept_of new ≡ merged (kept_of old)
      (record { place = from; number = old.finish.number; sent = sent; received = received })

-- the larger of each number is kept of the place that reports, and all else stays
pub record Merges (old : Kept) (r : Report) (new : Kept) : Type 0 where
  pub finish : new.finish ≡ old.finish
  pub places : new.places ≡ old.places
  pub kept : kept_of new ≡ merged (kept_of old) (report_of r)
