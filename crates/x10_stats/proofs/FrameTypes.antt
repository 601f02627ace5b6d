-- Frames as they are spelled, by their type.
use Rattle.std.proofs.Common.{◌≡◌, length, refl}
use Rattle.x10_model.specs.Frames.{Frame, spelling, type_of}
use Rattle.x10_model.specs.declared.version.FrameVersion.{FrameVersion}
use Rattle.x10_stats.specs.Stats.{with_frame, with_type}
use Rattle.x10_stats.specs.declared.stats.Stats.{Stats}

pub by_type : (s : Stats) (v : FrameVersion) (f : Frame) → with_frame s (spelling v f) ≡ with_type s (type_of f) (length (spelling v f))
unfolding spelling
by_type s v f = refl
