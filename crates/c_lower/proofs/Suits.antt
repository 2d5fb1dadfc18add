-- What flat code may name is what its function's tree may name, and the function's temporaries.
use Rattle.c_lower.proofs.Common.{◌≡◌, ◌<◌, ◌≤◌, ◌+◌, ℕ, length, slice_index}
use Rattle.c_tree.specs.WellScoped as tree
use Rattle.flat_code.specs.WellFormed as flat

-- t is the first of n temporaries
pub record Suits (c : tree.Context) (d : flat.Context) (t n : ℕ) : Type 0 where
  pub local : (x : ℕ) → x < length c.sizes → x < length d.sizes
  pub words : (x w : ℕ) → x < length c.sizes → slice_index c.sizes x ≡ w → slice_index d.sizes x ≡ w
  pub temporary : (k : ℕ) → t ≤ k → k < t + n → flat.IsScalar d k
  pub globals : d.globals ≡ c.globals
  pub signatures : d.signatures ≡ c.signatures
  pub tables : d.tables ≡ c.tables
  pub gives : d.gives ≡ c.gives
