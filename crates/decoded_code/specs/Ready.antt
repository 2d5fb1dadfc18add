-- The effect of a ready operation on the machine, and when it is that of a word of the code.
use Rattle.std.specs.Prelude.{◌≡◌, ℕ, ◌+◌, ◌-◌, ◌*◌, ◌%◌, ◌^◌, ◌<◌, ◌==◌, Bool, true, false, not, nat_lt, if◌then◌else◌, bit_and, bit_or, bit_xor, List, length, slice_get, Option, Some, None, IfSome}
use Rattle.cap_word.specs.Word as word
use Rattle.rv_code.specs.Decoding.{decoding}
use Rattle.rv_code.specs.declared.instructions.Instr.{Instr}
use Rattle.rv_machine.specs.Bytes.{Nothing}
use Rattle.rv_machine.specs.Registers.{read, write}
use Rattle.rv_machine.specs.Rows.{Machine, Outcome, Goes, next, passes, sets, jumps, loads, word_loaded, word_stored}
use Rattle.stack_image.specs.Addresses.{code_start}
use Rattle.rv_machine.specs.Step.{decoded, started}
use Rattle.decoded_code.specs.declared.ready.Action.{Action}
use Rattle.decoded_code.specs.declared.ready.Action.TheVariants as action
use Rattle.decoded_code.specs.declared.ready.Kind.{Kind}
use Rattle.decoded_code.specs.declared.ready.Kind.TheVariants as kind
use Rattle.decoded_code.specs.declared.ready.Ready.{Ready}

-- the address of the word at an index
abbrev pub place_at : ℕ → ℕ
place_at at = code_start + 4 * at

-- a number with bit 0 cleared
abbrev pub even : ℕ → ℕ
even number = number - number % 2

-- the next word is that at this index, if the test holds
abbrev pub branches_to : Machine → ℕ → Bool → Outcome
branches_to m at taken = if taken then Goes (place_at at) m.x Nothing else passes m

-- the outcome of an operation of a kind, if its two registers have the values a and b
abbrev pub done_as : Kind → Ready → ℕ → ℕ → Machine → Option Outcome
done_as kind.Other op a b m = None
done_as kind.Lui op a b m = Some (sets m op.rd op.imm)
done_as kind.Addi op a b m = Some (sets m op.rd (word.add a op.imm))
done_as kind.Sltiu op a b m = Some (sets m op.rd (word.sltu a op.imm))
done_as kind.Xori op a b m = Some (sets m op.rd (bit_xor a op.imm))
done_as kind.Slli op a b m = Some (sets m op.rd (word.sll a op.imm))
done_as kind.Add op a b m = Some (sets m op.rd (word.add a b))
done_as kind.Sub op a b m = Some (sets m op.rd (word.sub a b))
done_as kind.Sll op a b m = Some (sets m op.rd (word.sll a b))
done_as kind.Slt op a b m = Some (sets m op.rd (word.slt a b))
done_as kind.Sltu op a b m = Some (sets m op.rd (word.sltu a b))
done_as kind.Xor op a b m = Some (sets m op.rd (bit_xor a b))
done_as kind.Sra op a b m = Some (sets m op.rd (word.sra a b))
done_as kind.Or op a b m = Some (sets m op.rd (bit_or a b))
done_as kind.And op a b m = Some (sets m op.rd (bit_and a b))
done_as kind.Mul op a b m = Some (sets m op.rd (word.mul a b))
done_as kind.Div op a b m = Some (sets m op.rd (word.div a b))
done_as kind.Rem op a b m = Some (sets m op.rd (word.rem a b))
done_as kind.Lw op a b m = Some (loads m op.rd (word_loaded m.bytes (word.add a op.imm)))
done_as kind.Sw op a b m = Some (word_stored m (word.add a op.imm) b)
done_as kind.Jump op a b m = Some (Goes (place_at op.imm) m.x Nothing)
done_as kind.Call op a b m = Some (Goes (place_at op.imm) (write m.x op.rd (next m)) Nothing)
done_as kind.JumpTo op a b m = Some (jumps m 0 (even (word.add a op.imm)))
done_as kind.CallTo op a b m = Some (jumps m op.rd (even (word.add a op.imm)))
done_as kind.Bne op a b m = Some (branches_to m op.imm (not (a == b)))
done_as kind.Bltu op a b m = Some (branches_to m op.imm (nat_lt a b))
done_as kind.LwLw op a b m = Some (loads m op.rd (word_loaded m.bytes (word.add a op.imm)))
done_as kind.LwSw op a b m = Some (loads m op.rd (word_loaded m.bytes (word.add a op.imm)))
done_as kind.SwLw op a b m = Some (word_stored m (word.add a op.imm) b)
done_as kind.SwSw op a b m = Some (word_stored m (word.add a op.imm) b)
done_as kind.AddiSw op a b m = Some (sets m op.rd (word.add a op.imm))
done_as kind.LuiAddi op a b m = Some (sets m op.rd op.imm)
done_as kind.SwSwSw op a b m = Some (word_stored m (word.add a op.imm) b)
done_as kind.SwLwSw op a b m = Some (word_stored m (word.add a op.imm) b)
done_as kind.SwLwLw op a b m = Some (word_stored m (word.add a op.imm) b)
done_as kind.LuiAddiSw op a b m = Some (sets m op.rd op.imm)

-- an operation of the one kind has the same effect as one of the other
abbrev pub DoesAs : Kind → Kind → Type 0
DoesAs kind other = (op : Ready) (a b : ℕ) (m : Machine) → done_as kind op a b m ≡ done_as other op a b m

-- for a kind that begins a group, the kind of the operation after it, and for a group of three the kind of the last
abbrev pub second : Kind → Option Kind
second kind.LwLw = Some kind.Lw
second kind.LwSw = Some kind.Sw
second kind.SwLw = Some kind.Lw
second kind.SwSw = Some kind.Sw
second kind.AddiSw = Some kind.Sw
second kind.LuiAddi = Some kind.Addi
second kind.SwSwSw = Some kind.Sw
second kind.SwLwSw = Some kind.Lw
second kind.SwLwLw = Some kind.Lw
second kind.LuiAddiSw = Some kind.Addi
second _ = None

abbrev pub third : Kind → Option Kind
third kind.SwSwSw = Some kind.Sw
third kind.SwLwSw = Some kind.Sw
third kind.SwLwLw = Some kind.Lw
third kind.LuiAddiSw = Some kind.Sw
third _ = None

-- an operation of the one kind can precede one of the other: if it begins a group, the other has the effect of the
-- group's second operation, and begins a pair with its third
abbrev pub IsBefore : Kind → Kind → Type 0
IsBefore kind next = IfSome (second kind) (λ other. DoesAs other next) × IfSome (third kind) (λ last. second next ≡ Some last)

-- the kinds that begin a group with the effect of its first instruction: each continues with the next word
abbrev pub passes_on : Kind → Bool
passes_on kind.Lw = true
passes_on kind.Sw = true
passes_on kind.Addi = true
passes_on kind.Lui = true
passes_on _ = false

unfoldable pub done : Ready → ℕ → ℕ → Machine → Option Outcome
done op a b m = done_as op.kind op a b m

-- the outcome of a ready operation; none if it is left to the machine's step
abbrev pub ready_effect : Ready → Machine → Option Outcome
ready_effect op m = done op (read m.x op.rs1) (read m.x op.rs2) m

-- the outcome of an operation by its action, if its second register has the value b
abbrev pub acted : Action → Ready → ℕ → Machine → Option Outcome
acted (action.Sets value) op b m = Some (sets m op.rd value)
acted (action.Loads address) op b m = Some (loads m op.rd (word_loaded m.bytes address))
acted (action.Stores address) op b m = Some (word_stored m address b)
acted (action.Jumps to) op b m = Some (Goes (place_at to) m.x Nothing)
acted (action.Calls to) op b m = Some (Goes (place_at to) (write m.x op.rd (next m)) Nothing)
acted (action.JumpsNear place) op b m = Some (jumps m 0 (even place))
acted (action.CallsNear place) op b m = Some (jumps m op.rd (even place))
acted (action.Branches taken) op b m = Some (branches_to m op.imm taken)
acted action.Steps op b m = None

-- the actions that continue with the next word
abbrev pub acts_on : Action → Bool
acts_on (action.Sets value) = true
acts_on (action.Loads address) = true
acts_on (action.Stores address) = true
acts_on _ = false

-- the operation for the decoded word at a place: its outcome is that of the machine's step there
pub record IsReadyAt (op : Ready) (place : ℕ) (found : Option Instr) : Type 0 where
  pub writes : 0 < op.rd
  pub rd : op.rd < 32
  pub rs1 : op.rs1 < 32
  pub rs2 : op.rs2 < 32
  pub does : (m : Machine) → m.pc ≡ place → IfSome (ready_effect op m) (λ outcome. started (decoded found) m ≡ outcome)

-- the operations of the first `count` words of the code, each at its place; places beyond 2 ^ 32 are never reached
pub record AreEachReady (words : List ℕ) (count : ℕ) (ops : List Ready) : Type 0 where
  pub count_is : length ops ≡ count
  pub each : (at word : ℕ) (op : Ready) → place_at at < 2 ^ 32 → slice_get words at ≡ Some word → slice_get ops at ≡ Some op → IsReadyAt op (place_at at) (decoding word)

-- and if one begins a group, those after it have the effects of the group's others
pub record AreReady (words : List ℕ) (count : ℕ) (ops : List Ready) : Type 0 where
  pub count_is : length ops ≡ count
  pub each : (at word : ℕ) (op : Ready) → place_at at < 2 ^ 32 → slice_get words at ≡ Some word → slice_get ops at ≡ Some op → IsReadyAt op (place_at at) (decoding word)
  pub groups : (at : ℕ) (op next : Ready) → slice_get ops at ≡ Some op → slice_get ops (at + 1) ≡ Some next → IsBefore op.kind next.kind
