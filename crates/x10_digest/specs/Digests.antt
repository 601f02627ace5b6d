-- The digest of a module's image.
use Rattle.std.specs.Prelude.{ℕ, List, ◌≡◌}
use Rattle.sha2.specs.Sha256.{sha256}

-- The digest is the SHA-256 of the bytes. A record, so that what is above never computes it.
pub record IsDigest (bytes digest : List ℕ) : Type 0 where
  pub is : digest ≡ sha256 bytes
