-- The table of templates: the instructions of each operation, in order, by the places in its function's fact.
use Rattle.std.specs.Prelude.{◌≡◌, ℕ, ◌+◌, ◌*◌, pos, negsuc, ◌-ℤ◌, List, [], ◌∷◌, ◌++◌, length, sum_by, take, slice_index, Option, Some, None}
use Rattle.cap_word.specs.ModelledCalls.{spawn_number}
use Rattle.rv_code.specs.declared.instructions.Instr.{Instr}
use Rattle.flat_code.specs.declared.functions.FlatFunction.{FlatFunction}
use Rattle.flat_code.specs.declared.operations.Op.{Op}
use Rattle.flat_code.specs.declared.operators.BinOp.{BinOp}
use Rattle.flat_code.specs.Codes.{FlatCode, function_at, operation_at, site_of}
use Rattle.stack_certificate.specs.declared.certificates.Certificate.{Certificate}
use Rattle.stack_certificate.specs.declared.functions.FunctionFact.{FunctionFact}
use Rattle.stack_certificate.specs.declared.sites.LinkKind.{LinkKind}
use Rattle.stack_certificate.specs.declared.settings.Setting.{Setting}
use Rattle.stack_certificate.specs.Certificates.{fact_at, kind_in, need_of, global_address, table_address, global_words, member_count}
use Rattle.stack_certificate.specs.Parts.{li, load, store, system_call, guard, middle, zeroes, arguments, result, jump, transfer, saves, epilogue}
use Rattle.stack_certificate.specs.Registers.{zero_, ra, sp, t0, t1, t2, a0, a1, a2}
use Rattle.stack_certificate.specs.RunTimeCalls.{end_number}

-- the end stub, with which the code begins: the last frame of a thread returns to it
abbrev pub end_stub : List Instr
end_stub = system_call end_number

-- the prologue of a function with this number of parameters: addi sp, sp, -frame; sw ra, ra(sp); sw a0, [0]; ..
abbrev pub prologue : FunctionFact → ℕ → List Instr
prologue fact params = Instr.Addi sp sp (pos 0 -ℤ pos fact.frame) ∷ Instr.Sw sp ra (pos fact.ra) ∷ saves fact a0 0 params

-- the instructions of an operation; `sizes` are the sizes in words of its function's variables
abbrev pub row : FunctionFact → List ℕ → Setting → Op → List Instr
row fact sizes s (Op.Const d value) = li t0 value ++ (store fact t0 d ∷ [])
row fact sizes s (Op.Copy d x) = load fact t0 x ∷ store fact t0 d ∷ []
row fact sizes s (Op.Neg d x) = load fact t0 x ∷ Instr.Sub t0 zero_ t0 ∷ store fact t0 d ∷ []
row fact sizes s (Op.Not d x) = load fact t0 x ∷ Instr.Xori t0 t0 (negsuc 0) ∷ store fact t0 d ∷ []
row fact sizes s (Op.Flip d x) = load fact t0 x ∷ Instr.Sltiu t0 t0 (pos 1) ∷ store fact t0 d ∷ []
row fact sizes s (Op.Bin op d a b) = load fact t0 a ∷ load fact t1 b ∷ middle op ++ (store fact t0 d ∷ [])
row fact sizes s (Op.Zero a) = zeroes (slice_index fact.places a) (slice_index sizes a)
row fact sizes s (Op.LoadGlobal d g) = li t1 s.address ++ (Instr.Lw t0 t1 (pos 0) ∷ store fact t0 d ∷ [])
row fact sizes s (Op.StoreGlobal g x) = load fact t0 x ∷ li t1 s.address ++ (Instr.Sw t1 t0 (pos 0) ∷ [])
row fact sizes s (Op.LoadLocal d a i) =
    guard fact i (slice_index sizes a) 1 ++ (
    Instr.Slli t0 t0 (pos 2) ∷ Instr.Add t0 t0 sp ∷ Instr.Lw t0 t0 (pos (slice_index fact.places a)) ∷ store fact t0 d ∷ [])
row fact sizes s (Op.LoadArray d a i) =
    guard fact i s.count 1 ++ (
    Instr.Slli t0 t0 (pos 2) ∷ li t1 s.address ++ (Instr.Add t0 t0 t1 ∷ Instr.Lw t0 t0 (pos 0) ∷ store fact t0 d ∷ []))
row fact sizes s (Op.StoreLocal a i x) =
    guard fact i (slice_index sizes a) 1 ++ (
    Instr.Slli t0 t0 (pos 2) ∷ Instr.Add t0 t0 sp ∷ load fact t1 x ∷ Instr.Sw t0 t1 (pos (slice_index fact.places a)) ∷ [])
row fact sizes s (Op.StoreArray a i x) =
    guard fact i s.count 1 ++ (
    Instr.Slli t0 t0 (pos 2) ∷ li t1 s.address ++ (Instr.Add t0 t0 t1 ∷ load fact t1 x ∷ Instr.Sw t0 t1 (pos 0) ∷ []))
row fact sizes s (Op.Jump to) = jump zero_ s.to s.here ∷ []
row fact sizes s (Op.JumpZero x to) = load fact t0 x ∷ Instr.Bne t0 zero_ (pos 8) ∷ jump zero_ s.to (s.here + 8) ∷ []
row fact sizes s (Op.Call site d f args) =
    arguments fact a0 args ++ transfer s.kind (Some s.entry) (s.here + 4 * length args) ++ result fact d
row fact sizes s (Op.CallTable site d t i x) =
    guard fact i s.count 2 ++ (
    Instr.Slli t0 t0 (pos 2) ∷ li t1 s.address ++ (Instr.Add t0 t0 t1 ∷ Instr.Lw t2 t0 (pos 0) ∷ load fact a0 x ∷ [])) ++
    transfer s.kind None (s.here + 52) ++ result fact d
row fact sizes s (Op.Model site d n args) = arguments fact a0 args ++ system_call n ++ result fact d
row fact sizes s (Op.Spawn site d f x) =
    li a0 s.entry ++ (load fact a1 x ∷ li a2 (need_of s.kind) ++ system_call spawn_number) ++ result fact d
row fact sizes s (Op.Return None) = epilogue fact
row fact sizes s (Op.Return (Some x)) = load fact a0 x ∷ epilogue fact

-- ---- the number of words of each operation

abbrev pub middle_size : BinOp → ℕ
middle_size BinOp.LessOrEqual = 2
middle_size BinOp.GreaterOrEqual = 2
middle_size BinOp.Equal = 2
middle_size BinOp.NotEqual = 2
middle_size _ = 1

abbrev pub transfer_size : LinkKind → ℕ
transfer_size LinkKind.Plain = 1
transfer_size (LinkKind.Linked need) = 11
transfer_size (LinkKind.Spawned need) = 1

abbrev pub result_size : Option ℕ → ℕ
result_size None = 0
result_size (Some d) = 1

abbrev pub size : List ℕ → LinkKind → Op → ℕ
size sizes kind (Op.Const d value) = 3
size sizes kind (Op.Copy d x) = 2
size sizes kind (Op.Neg d x) = 3
size sizes kind (Op.Not d x) = 3
size sizes kind (Op.Flip d x) = 3
size sizes kind (Op.Bin op d a b) = 3 + middle_size op
size sizes kind (Op.Zero a) = slice_index sizes a
size sizes kind (Op.LoadGlobal d g) = 4
size sizes kind (Op.StoreGlobal g x) = 4
size sizes kind (Op.LoadLocal d a i) = 11
size sizes kind (Op.LoadArray d a i) = 13
size sizes kind (Op.StoreLocal a i x) = 11
size sizes kind (Op.StoreArray a i x) = 13
size sizes kind (Op.Jump to) = 1
size sizes kind (Op.JumpZero x to) = 3
size sizes kind (Op.Call site d f args) = length args + transfer_size kind + result_size d
size sizes kind (Op.CallTable site d t i x) = 13 + transfer_size kind + result_size d
size sizes kind (Op.Model site d n args) = length args + 2 + result_size d
size sizes kind (Op.Spawn site d f x) = 7 + result_size d
size sizes kind (Op.Return None) = 3
size sizes kind (Op.Return (Some x)) = 4

-- ---- the address of its first word

-- the link kind of an operation, by its site
abbrev pub kind_at : Certificate → Option ℕ → LinkKind
kind_at certificate None = LinkKind.Plain
kind_at certificate (Some site) = kind_in certificate.sites site

abbrev pub kind_of : Certificate → Op → LinkKind
kind_of certificate op = kind_at certificate (site_of op)

-- the words of function f before its operation i: the prologue and the operations before it
abbrev pub words_before : FlatCode → Certificate → ℕ → ℕ → ℕ
words_before code certificate f i =
    2 + (function_at code f).params +
    sum_by (λ op. size (function_at code f).sizes (kind_of certificate op) op) (take i (function_at code f).ops)

-- the address of the first word of operation i of function f
abbrev pub begin : FlatCode → Certificate → ℕ → ℕ → ℕ
begin code certificate f i = (fact_at certificate f).entry + 4 * words_before code certificate f i

-- ---- what a template needs from the rest of the program

-- the address of the operation of function f to which a jump goes
abbrev pub goes_to : FlatCode → Certificate → ℕ → Op → ℕ
goes_to code certificate f (Op.Jump to) = begin code certificate f to
goes_to code certificate f (Op.JumpZero x to) = begin code certificate f to
goes_to code certificate f _ = 0

-- the entry of the function that an operation calls or starts
abbrev pub named_entry : Certificate → Op → ℕ
named_entry certificate (Op.Call site d g args) = (fact_at certificate g).entry
named_entry certificate (Op.Spawn site d g x) = (fact_at certificate g).entry
named_entry certificate _ = 0

-- the address of the global or table that an operation names
abbrev pub named_address : FlatCode → Op → ℕ
named_address code (Op.LoadGlobal d g) = global_address code g
named_address code (Op.StoreGlobal g x) = global_address code g
named_address code (Op.LoadArray d a i) = global_address code a
named_address code (Op.StoreArray a i x) = global_address code a
named_address code (Op.CallTable site d t i x) = table_address code t
named_address code _ = 0

-- the size in words of the array, or the number of members of the table, that an operation names
abbrev pub named_count : FlatCode → Op → ℕ
named_count code (Op.LoadArray d a i) = global_words code a
named_count code (Op.StoreArray a i x) = global_words code a
named_count code (Op.CallTable site d t i x) = member_count code t
named_count code _ = 0

-- the setting of the template of an operation of function f, if its first word is at an address
abbrev pub setting : FlatCode → Certificate → ℕ → ℕ → Op → Setting
setting code certificate f here op = record {
  here = here;
  to = goes_to code certificate f op;
  entry = named_entry certificate op;
  address = named_address code op;
  count = named_count code op;
  kind = kind_of certificate op;
}

abbrev pub row_at : FunctionFact → List ℕ → Setting → Option Op → List Instr
row_at fact sizes s None = []
row_at fact sizes s (Some op) = row fact sizes s op

-- the number of words of an operation, if it exists
abbrev pub size_at : List ℕ → LinkKind → Option Op → ℕ
size_at sizes kind None = 0
size_at sizes kind (Some op) = size sizes kind op

abbrev pub setting_at : FlatCode → Certificate → ℕ → ℕ → Option Op → Setting
setting_at code certificate f here None = record { here = here; to = 0; entry = 0; address = 0; count = 0; kind = LinkKind.Plain }
setting_at code certificate f here (Some op) = setting code certificate f here op

-- the template of operation i of function f
abbrev pub template : FlatCode → Certificate → ℕ → ℕ → List Instr
template code certificate f i =
    row_at (fact_at certificate f) (function_at code f).sizes
    (setting_at code certificate f (begin code certificate f i) (operation_at code f i)) (operation_at code f i)

-- a certificate for a program: it has a fact for each function, with a place for each variable
abbrev pub HasPlaces : List FlatFunction → List FunctionFact → Type 0
HasPlaces [] [] = Unit {0}
HasPlaces [] (fact ∷ facts) = ⊥
HasPlaces (f ∷ fs) [] = ⊥
HasPlaces (f ∷ fs) (fact ∷ facts) = (length fact.places ≡ length f.sizes) × HasPlaces fs facts

abbrev pub IsFor : FlatCode → Certificate → Type 0
IsFor code certificate = HasPlaces code.functions certificate.functions
