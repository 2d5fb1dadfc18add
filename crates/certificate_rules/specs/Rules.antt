-- The rules of a certificate, V1 to V12: the condition of each at a function f and an index i. The meaning of an index
-- is stated at each rule. If a rule isn't about a function, it says the same at every f, so its first failure is at
-- function 0.
use Rattle.std.specs.Prelude.{◌≡◌, ℕ, ◌+◌, ◌*◌, ◌%◌, ◌<◌, ◌≤◌, List, [], ◌∷◌, ◌++◌, length, map, flat_map, replicate, slice_get, slice_index, Some}
use Rattle.rv_code.specs.declared.instructions.Instr.{Instr}
use Rattle.flat_code.specs.declared.operations.Op.{Op}
use Rattle.flat_code.specs.Codes.{FlatCode, function_at, operation_at}
use Rattle.stack_image.specs.Addresses.{code_start}
use Rattle.stack_image.specs.declared.images.Image.{Image}
use Rattle.stack_certificate.specs.declared.certificates.Certificate.{Certificate}
use Rattle.stack_certificate.specs.declared.functions.FunctionFact.{FunctionFact}
use Rattle.stack_certificate.specs.declared.sites.LinkKind.{LinkKind}
use Rattle.stack_certificate.specs.Certificates.{fact_at}
use Rattle.stack_certificate.specs.Templates.{end_stub, prologue, template, words_before, begin, kind_of}
use Rattle.certificate_rules.specs.Ranges.{AreApart, Stands}
use Rattle.certificate_rules.specs.Sites.{certified_site, callee_bound, NamesSites}

-- V1: program, image and certificate fit together. Each index is one of these conditions.
pub record V1 (code : FlatCode) (image : Image) (certificate : Certificate) (f i : ℕ) : Type 0 where
  pub chunk : i ≡ 1 → (certificate.chunk % 16 ≡ 0) × (64 ≤ certificate.chunk) × (certificate.chunk ≤ 65536)
  pub words : i ≡ 2 → (2 ≤ length image.code) × (length image.code ≤ 200000)
  pub functions : i ≡ 3 → (length certificate.functions ≡ length code.functions) × (length image.entries ≡ length code.functions)
  pub places : i ≡ 4 → f < length code.functions → length (fact_at certificate f).places ≡ length (function_at code f).sizes
  pub sites : i ≡ 5 → NamesSites code certificate

-- V2: the place of the function's words. They are in the code after its first two words (1), the image's entry is the
-- certificate's (2), and they are disjoint from those of each lower function (3).
pub record V2 (code : FlatCode) (image : Image) (certificate : Certificate) (f i : ℕ) : Type 0 where
  pub inside : i ≡ 1 → f < length code.functions →
      ((fact_at certificate f).entry % 4 ≡ 0) × (code_start + 4 * 2 ≤ (fact_at certificate f).entry) ×
      ((fact_at certificate f).entry + 4 * (fact_at certificate f).words ≤ code_start + 4 * length image.code)
  pub entry : i ≡ 2 → f < length code.functions → slice_get image.entries f ≡ Some (fact_at certificate f).entry
  pub apart : i ≡ 3 → f < length code.functions → (g : ℕ) → g < f →
      AreApart (fact_at certificate f).entry (fact_at certificate f).words (fact_at certificate g).entry (fact_at certificate g).words

-- V3: the function's frame, at index 0
pub record V3 (code : FlatCode) (certificate : Certificate) (f i : ℕ) : Type 0 where
  pub frame : i ≡ 0 → f < length code.functions →
      ((fact_at certificate f).frame % 16 ≡ 0) × (16 ≤ (fact_at certificate f).frame) × ((fact_at certificate f).frame ≤ 2032)

-- V4: the places in the frame. The index is a variable's number, or the number of variables for the return address.

-- the places and the words of a function's variables in order, and after them the return address with one word
abbrev pub frame_places : FunctionFact → List ℕ
frame_places fact = fact.places ++ fact.ra ∷ []

abbrev pub frame_words : List ℕ → List ℕ
frame_words sizes = sizes ++ 1 ∷ []

-- place x is a multiple of 4, and its words are in the frame and disjoint from those of each lower place
pub record IsPlaced (fact : FunctionFact) (sizes : List ℕ) (x : ℕ) : Type 0 where
  pub aligned : slice_index (frame_places fact) x % 4 ≡ 0
  pub inside : slice_index (frame_places fact) x + 4 * slice_index (frame_words sizes) x ≤ fact.frame
  pub apart : (y : ℕ) → y < x →
      AreApart (slice_index (frame_places fact) x) (slice_index (frame_words sizes) x) (slice_index (frame_places fact) y) (slice_index (frame_words sizes) y)

pub record V4 (code : FlatCode) (certificate : Certificate) (f i : ℕ) : Type 0 where
  pub placed : f < length code.functions → i ≤ length (function_at code f).sizes → IsPlaced (fact_at certificate f) (function_at code f).sizes i

-- V5: the function's words begin with its prologue. The index is the number of the word.
pub record V5 (code : FlatCode) (image : Image) (certificate : Certificate) (f i : ℕ) : Type 0 where
  pub word : f < length code.functions → (instr : Instr) → slice_get (prologue (fact_at certificate f) (function_at code f).params) i ≡ Some instr →
      (i < (fact_at certificate f).words) × Stands image ((fact_at certificate f).entry + 4 * i) instr

-- V6: after the prologue come the words of each operation in order, within the function's words, and nothing follows
-- the last. The index is the number of the operation, or the number of operations for what follows.
pub record V6 (code : FlatCode) (image : Image) (certificate : Certificate) (f i : ℕ) : Type 0 where
  pub inside : f < length code.functions → i < length (function_at code f).ops → words_before code certificate f (i + 1) ≤ (fact_at certificate f).words
  pub words : f < length code.functions → (w : ℕ) (instr : Instr) → slice_get (template code certificate f i) w ≡ Some instr →
      Stands image (begin code certificate f i + 4 * w) instr
  pub over : f < length code.functions → i ≡ length (function_at code f).ops → words_before code certificate f i ≡ (fact_at certificate f).words

-- V7: the code begins with the end stub. The index is the number of the word.
pub record V7 (image : Image) (f i : ℕ) : Type 0 where
  pub word : (instr : Instr) → slice_get end_stub i ≡ Some instr → Stands image (code_start + 4 * i) instr

-- V8: the image's table words are the entries of the tables' members, in order, and there are no more. The index is the
-- number of the word: a missing word has its own, and the first one too many the number of members.
abbrev pub member_entries : FlatCode → Certificate → List ℕ
member_entries code certificate = flat_map (λ members. map (λ g. (fact_at certificate g).entry) members) code.tables

pub record V8 (code : FlatCode) (image : Image) (certificate : Certificate) (f i : ℕ) : Type 0 where
  pub word : slice_get image.tables i ≡ slice_get (member_entries code certificate) i

-- V9: the need of a linked call or a new thread is the greatest bound of the functions that it may enter. The index is
-- the number of the site, and f the function that contains it.

-- the need, if there is one, is that number
abbrev pub IsNeed : LinkKind → ℕ → Type 0
IsNeed LinkKind.Plain bytes = Unit {0}
IsNeed (LinkKind.Linked need) bytes = need ≡ bytes
IsNeed (LinkKind.Spawned need) bytes = need ≡ bytes

pub record V9 (code : FlatCode) (certificate : Certificate) (f i : ℕ) : Type 0 where
  pub need : (k : ℕ) (op : Op) → operation_at code f k ≡ Some op → certified_site op ≡ Some i →
      IsNeed (kind_of certificate op) (callee_bound code certificate op)

-- V10: at a plain site the frame and the greatest bound of the functions that it may enter are within the caller's bound. The
-- index is the number of the site, and f the caller.
pub record V10 (code : FlatCode) (certificate : Certificate) (f i : ℕ) : Type 0 where
  pub bound : (k : ℕ) (op : Op) → operation_at code f k ≡ Some op → certified_site op ≡ Some i → kind_of certificate op ≡ LinkKind.Plain →
      (fact_at certificate f).frame + callee_bound code certificate op ≤ (fact_at certificate f).bound

-- V11: the function's frame is within its bound (1), that within max-path (2), and that, with the chunk's header of 16 bytes,
-- within the chunk (3)
pub record V11 (code : FlatCode) (certificate : Certificate) (f i : ℕ) : Type 0 where
  pub frame : i ≡ 1 → f < length code.functions → (fact_at certificate f).frame ≤ (fact_at certificate f).bound
  pub bound : i ≡ 2 → f < length code.functions → (fact_at certificate f).bound ≤ certificate.max_path
  pub path : i ≡ 3 → certificate.max_path + 16 ≤ certificate.chunk

-- V12: the image's global words are the declared initial values, and there are no more. The index is the number of the
-- word: a missing word has its own, and the first one too many the number of words.
abbrev pub starting_words : FlatCode → List ℕ
starting_words code = flat_map (λ g. replicate g.words g.start) code.globals

pub record V12 (code : FlatCode) (image : Image) (f i : ℕ) : Type 0 where
  pub word : slice_get image.globals i ≡ slice_get (starting_words code) i
