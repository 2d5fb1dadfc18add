-- Lists for look-ups in the code of an accepted pair, without a search.
use Rattle.std.specs.Prelude.{◌≡◌, ℕ, ◌+◌, ◌*◌, ◌<◌, ◌≤◌, List, length, map, Some, slice_get, slice_index}
use Rattle.std.specs.Global.{Vec}
use Rattle.rv_code.specs.Decoding.{decoding}
use Rattle.decoded_code.specs.Ready.{AreReady}
use Rattle.flat_code.specs.Codes.{FlatCode}
use Rattle.stack_image.specs.Addresses.{code_start}
use Rattle.stack_image.specs.declared.images.Image.{Image}
use Rattle.stack_certificate.specs.declared.certificates.Certificate.{Certificate}
use Rattle.stack_certificate.specs.Certificates.{fact_at}
use Rattle.accepted_pairs.specs.Held.{AreWordsBefore}
use Rattle.accepted_pairs.specs.declared.code_lists.CodeLists.{CodeLists}

-- an address is in the words of function f
pub record StandsIn (certificate : Certificate) (address f : ℕ) : Type 0 where
  pub there : f < length certificate.functions
  pub low : (fact_at certificate f).entry ≤ address
  pub high : address < (fact_at certificate f).entry + 4 * (fact_at certificate f).words

-- each word of the first n functions has its function's number in the list
pub record NamesFunctions (certificate : Certificate) (n : ℕ) (functions : List ℕ) : Type 0 where
  pub named : (f word : ℕ) → f < n → StandsIn certificate (code_start + 4 * word) f → slice_index functions word ≡ f

-- for each of n functions there is the list of the numbers of words before its operations
pub record AreBefore (code : FlatCode) (certificate : Certificate) (n : ℕ) (lists : List (Vec ℕ)) : Type 0 where
  pub count : length lists ≡ n
  pub each : (f : ℕ) (before : Vec ℕ) → slice_get lists f ≡ Some before → AreWordsBefore code certificate f before.items

-- the lists of a pair's code: its words decoded, their ready operations, the function of each word, and the number of
-- words before each operation
pub record AreCodeLists (code : FlatCode) (image : Image) (certificate : Certificate) (lists : CodeLists) : Type 0 where
  pub instrs : lists.instrs.items ≡ map decoding image.code
  pub ready : AreReady image.code (length image.code) lists.ready.items
  pub count : length lists.functions.items ≡ length image.code
  pub functions : NamesFunctions certificate (length certificate.functions) lists.functions.items
  pub before : AreBefore code certificate (length code.functions) lists.before.items
