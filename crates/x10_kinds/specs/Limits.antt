-- What there would be too many of, by number.
use Rattle.std.specs.Prelude.{ℕ}
use Rattle.x10_kinds.specs.declared.limit.Limit.{Limit}
use Rattle.x10_kinds.specs.declared.limit.Limit.TheVariants as limits

-- the number that is printed for a limit
abbrev pub number_of : Limit → ℕ
number_of limits.Objects = 1
number_of limits.Texts = 2
number_of limits.Rails = 3
number_of limits.References = 4
number_of limits.Finishes = 5
number_of limits.Activities = 6
number_of limits.FrameObjects = 7
number_of limits.FrameTexts = 8
number_of limits.FrameRails = 9
number_of limits.Keys = 10
number_of limits.Frames = 11
