-- What is told of a frame that a place put out.
use Rattle.std.proofs.Common.{◌≡◌, ◌≤◌, ◌<◌, ℕ, List, Some, length, refl, inl, inr, arith}
use Rattle.std.specs.Prelude.{take, drop}
use Rattle.x10_place.specs.declared.sent.Outgoing.{Outgoing}
use Rattle.x10_place.specs.declared.sent.Sent.{Sent}
use Rattle.x10_handles.specs.Stations.{IsFrameOut}
use Rattle.x10_c.specs.Handles.{IsSentTo}

module _ (sent : Sent) (number needed : ℕ) (old new : List ℕ) (o : Outgoing) (there : IsFrameOut sent number (Some o))
    (len : needed ≡ length o.bytes.items) where
  pub copied : take needed new ≡ o.bytes.items → drop needed new ≡ drop needed old → needed ≤ length old
      → IsSentTo sent number 0 o.to needed old new
  copied written rest fits = record {
    is_status = inl refl;
    none = λ e. absurd (omega (arith, e));
    some = λ e. (o, there, refl, len, λ z. written);
    room = record {
      fits = λ e. fits;
      rest = λ e. rest;
      small = λ e. absurd (omega (arith, e));
      kept = λ e. absurd (omega (arith, e));
    };
  }

  pub told : length old < needed → new ≡ old → IsSentTo sent number 6 o.to needed old new
  told small kept = record {
    is_status = inr (inl refl);
    none = λ e. absurd (omega (arith, e));
    some = λ e. (o, there, refl, len, λ z. absurd (omega (arith, z)));
    room = record {
      fits = λ e. absurd (e refl);
      rest = λ e. absurd (e refl);
      small = λ e. small;
      kept = λ e. kept;
    };
  }
