-- The one spelling of an image as bytes: CAP1, the four counts, and the words, each as four bytes, least
-- significant byte first.
use Rattle.std.specs.Prelude.{ℕ, ◌<◌, ◌≤◌, ◌^◌, List, [], ◌∷◌, ◌++◌, length, codes, All}
use Rattle.std.specs.List.{flat_map}
use Rattle.std.specs.Int.{w32, to_le_bytes}
use Rattle.stack_image.specs.declared.images.Image.{Image}

-- the first bytes of every image
abbrev pub magic : List ℕ
magic = codes "CAP1"

-- a word as four bytes
abbrev pub word : ℕ → List ℕ
word n = to_le_bytes w32 n

-- words, one after another
abbrev pub words : List ℕ → List ℕ
words ws = flat_map word ws

-- the numbers of words
abbrev pub sizes : Image → List ℕ
sizes image = length image.code ∷ length image.globals ∷ length image.tables ∷ length image.entries ∷ []

unfoldable pub spelling : Image → List ℕ
spelling image =
    magic ++ words (sizes image) ++ words image.code ++ words image.globals ++ words image.tables ++ words image.entries

-- no list has more words than its limit
pub record IsWithinLimits (image : Image) : Type 0 where
  pub code : length image.code ≤ 200000
  pub globals : length image.globals ≤ 65536
  pub tables : length image.tables ≤ 65536
  pub entries : length image.entries ≤ 4096

-- each number is a word
pub record HoldsWords (image : Image) : Type 0 where
  pub code : All (λ w. w < 2 ^ 32) image.code
  pub globals : All (λ w. w < 2 ^ 32) image.globals
  pub tables : All (λ w. w < 2 ^ 32) image.tables
  pub entries : All (λ w. w < 2 ^ 32) image.entries
