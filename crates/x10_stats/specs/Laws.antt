-- Laws of what is counted.
use Rattle.std.specs.Prelude.{◌≡◌, ◌<◌, ◌≤◌, ◌+◌, ◌^◌, Bool, All, List, Some, length, slice_get}
use Rattle.x10_model.specs.Frames.{Frame, spelling, type_of}
use Rattle.x10_model.specs.declared.event.Event.{Event}
use Rattle.x10_model.specs.declared.version.FrameVersion.{FrameVersion}
use Rattle.x10_world.specs.StandsForWorld.{WorldState}
use Rattle.x10_verify.specs.Certified.{Certified}
use Rattle.x10_stats.specs.Counts.{Counted, CountsState, counts_at_first}
use Rattle.x10_stats.specs.Stats.{all_events, with_frame, with_type}
use Rattle.x10_stats.specs.declared.activity.Activity.{Activity}
use Rattle.x10_stats.specs.declared.stats.Stats.{Stats}
use Rattle.x10_stats.specs.declared.tally.Begun.{Begun}

-- what is counted of some events is as many as they are, where all of them have a number of 64 bits
abbrev pub EachIsCountedOnce : Type 0
EachIsCountedOnce = (s t : CountsState) (x y : WorldState) (events : List Event)
    → Counted s x events t y → all_events s.stats + length events < 2 ^ 64
    → all_events t.stats ≡ all_events s.stats + length events

-- a frame as its version spells it is one more of its type
abbrev pub FramesAreCountedByType : Type 0
FramesAreCountedByType = (s : Stats) (v : FrameVersion) (f : Frame)
    → with_frame s (spelling v f) ≡ with_type s (type_of f) (length (spelling v f))

-- of the activities that are followed from the first event on, none has made more steps than there were
abbrev pub NoneMadeMoreSteps : Type 0
NoneMadeMoreSteps = (c : Certified) (kept : Bool) (x y : WorldState) (events : List Event)
    (s : CountsState) → Counted (counts_at_first c kept x) x events s y
    → All (λ (g : Begun). g.most ≤ s.stats.steps) s.tally.functions

-- an activity has made no more steps than the most that is told of its function
abbrev pub IsWithinMost : List Begun → Activity → Type 0
IsWithinMost functions a = (g : Begun) → slice_get functions a.function ≡ Some g → a.steps ≤ g.most

-- of those that are kept from the first event on, each is within that
abbrev pub EachIsWithinMost : Type 0
EachIsWithinMost = (c : Certified) (kept : Bool) (x y : WorldState) (events : List Event)
    (s : CountsState) → Counted (counts_at_first c kept x) x events s y
    → All (IsWithinMost s.tally.functions) s.tally.all
