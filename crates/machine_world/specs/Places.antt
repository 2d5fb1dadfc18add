-- The place of pc in checked code, and its row in the table of frames. Checked code is flat code with the certificate
-- of its machine code: the code begins with the end stub, and the words of each function are its prologue and the
-- templates of its operations, one after another.
use Rattle.std.specs.Prelude.{◌≡◌, ℕ, zero, suc, ◌+◌, ◌*◌, ◌<◌, ◌||◌, Bool, true, false, length, Option, Some, None, nat_eq, if◌then◌else◌}
use Rattle.flat_code.specs.declared.operations.Op.{Op}
use Rattle.flat_code.specs.Codes.{FlatCode, function_at, operation_at}
use Rattle.stack_certificate.specs.declared.certificates.Certificate.{Certificate}
use Rattle.stack_certificate.specs.declared.sites.LinkKind.{LinkKind}
use Rattle.stack_certificate.specs.Certificates.{fact_at}
use Rattle.stack_certificate.specs.Templates.{kind_of, size, begin}
use Rattle.stack_image.specs.Addresses.{code_start}

pub record Checked : Type 0 where
  pub flat : FlatCode
  pub certificate : Certificate

-- a place: a word of the end stub, of the prologue of a function, or of an operation of a function
pub data Place : Type 0 where
  InStub : (word : ℕ) → Place
  InPrologue : (function word : ℕ) → Place
  InOperation : (function operation word : ℕ) → Place

-- the number of words of an operation of a function, if it exists
abbrev pub size_in : Checked → ℕ → Option Op → ℕ
size_in c f None = 0
size_in c f (Some op) = size (function_at c.flat f).sizes (kind_of c.certificate op) op

-- pc is at the place
abbrev pub IsAt : Checked → ℕ → Place → Type 0
IsAt c pc (InStub word) = (word < 2) × (pc ≡ code_start + 4 * word)
IsAt c pc (InPrologue f word) =
    (f < length c.flat.functions) × (word < 2 + (function_at c.flat f).params) × (pc ≡ (fact_at c.certificate f).entry + 4 * word)
IsAt c pc (InOperation f i word) =
    (f < length c.flat.functions) × (word < size_in c f (operation_at c.flat f i)) × (pc ≡ begin c.flat c.certificate f i + 4 * word)

-- ---- call instructions

-- the number of words of an operation before its transfer, if it calls a function or through a table
abbrev pub before_transfer : Op → Option ℕ
before_transfer (Op.Call site d f args) = Some (length args)
before_transfer (Op.CallTable site d t i s) = Some 13
before_transfer _ = None

-- the number of words of a transfer up to and including its call instruction: the only one, or the first or second of a
-- linked transfer
abbrev pub through_call : LinkKind → Bool → Option ℕ
through_call LinkKind.Plain false = Some 1
through_call LinkKind.Plain true = None
through_call (LinkKind.Linked need) false = Some 5
through_call (LinkKind.Linked need) true = Some 9
through_call (LinkKind.Spawned need) second = None

-- ---- rows of the table of frames

pub data Row : Type 0 where
  -- the end stub: no frame
  NoFrame : Row
  -- the first word of a function, or the last of a return: the frame has no bytes yet, or no longer has any
  Empty : Row
  -- the second word of a function: its frame exists, and its return address is still in ra
  Fresh : Row
  -- the second call instruction of a linked transfer, or one of the two words after it: the frame lies in the chunk
  -- below the linked one
  Linking : Row
  -- any other word of a function
  Whole : Row

-- word w of a linked transfer is its second call instruction, or one of the two words after it
abbrev pub is_linking : LinkKind → ℕ → ℕ → Bool
is_linking (LinkKind.Linked need) before w = nat_eq w (before + 8) || nat_eq w (before + 9) || nat_eq w (before + 10)
is_linking LinkKind.Plain before w = false
is_linking (LinkKind.Spawned need) before w = false

-- the row of the table of frames for a word of a transfer, of an operation, of the prologue, and of any place
abbrev pub transfer_row : LinkKind → ℕ → Option ℕ → Row
transfer_row kind w None = Whole
transfer_row kind w (Some before) = if is_linking kind before w then Linking else Whole

abbrev pub row_in : LinkKind → ℕ → Op → Row
row_in kind w (Op.Return None) = if nat_eq w 2 then Empty else Whole
row_in kind w (Op.Return (Some s)) = if nat_eq w 3 then Empty else Whole
row_in kind w op = transfer_row kind w (before_transfer op)

abbrev pub row_at : Certificate → ℕ → Option Op → Row
row_at certificate w None = Whole
row_at certificate w (Some op) = row_in (kind_of certificate op) w op

abbrev pub prologue_row : ℕ → Row
prologue_row zero = Empty
prologue_row (suc zero) = Fresh
prologue_row (suc (suc word)) = Whole

abbrev pub row_of : Checked → Place → Row
row_of c (InStub word) = NoFrame
row_of c (InPrologue f word) = prologue_row word
row_of c (InOperation f i word) = row_at c.certificate word (operation_at c.flat f i)

-- the function of a place, and the current operation of its frame, 0 in the prologue
abbrev pub function_of : Place → ℕ
function_of (InStub word) = 0
function_of (InPrologue f word) = f
function_of (InOperation f i word) = f

abbrev pub operation_of : Place → ℕ
operation_of (InStub word) = 0
operation_of (InPrologue f word) = 0
operation_of (InOperation f i word) = i
