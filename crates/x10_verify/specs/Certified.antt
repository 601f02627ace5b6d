-- What callers see of a verified module.
use Rattle.std.specs.Prelude.{ℕ, List}
use Rattle.x10_model.specs.Modules.{Module, FitsImage}
use Rattle.x10_model.specs.Verified.{IsVerified}

-- a module, with the bound of each function
pub record Certified : Type 0 where
  pub program : Module
  pub bounds : List ℕ

-- the module has an image, and the verifier accepts it with these bounds
pub record IsCertified (c : Certified) : Type 0 where
  pub fits : FitsImage c.program
  pub verified : IsVerified c.program c.bounds
