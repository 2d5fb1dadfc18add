-- How a region owns its block.
use Rattle.std.specs.Prelude.{◌≡◌, ℕ, List, length}
use Rattle.chunk_pool.specs.declared.region.Region.TheInside.{Inside}

-- the words of a region
abbrev pub items_of : Inside → List ℕ
items_of a = a.words.items

-- every word is written, and the region owns the block and the right to deallocate it
pub record IsWhole (a : Inside) : Type 0 where
  pub words : (a.words.at ≡ a.start.at) × (length a.words.items ≡ a.len) × (a.words.spare ≡ 0)
  pub deed : (a.deed.at ≡ a.start.at) × (a.deed.len ≡ a.len) × (a.deed.alloc ≡ a.alloc)
