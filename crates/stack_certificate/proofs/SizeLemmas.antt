-- How many instructions templates have.
use Rattle.stack_certificate.proofs.Common.{◌≡◌, ℕ, zero, suc, ◌+◌, ◌*◌, List, [], ◌∷◌, length, arith, refl, ap, length-append, Option, Some, None, slice_index, Op, FunctionFact, middle, zeroes, arguments, result, transfer, saves, row, size, middle_size, transfer_size, result_size, prologue, a0}
use Rattle.flat_code.specs.declared.operators.BinOp.{BinOp}
use Rattle.stack_certificate.specs.declared.settings.Setting.{Setting}
use Rattle.stack_certificate.specs.declared.sites.LinkKind.{LinkKind}

length-middle : (op : BinOp) → length (middle op) ≡ middle_size op
length-middle BinOp.Add = refl
length-middle _ = refl

length-zeroes : (place n : ℕ) → length (zeroes place n) ≡ n
length-zeroes place zero = refl
length-zeroes place (suc n) = ap suc (length-zeroes (place + 4) n)

pub length-arguments : (fact : FunctionFact) (r : ℕ) (xs : List ℕ) → length (arguments fact r xs) ≡ length xs
length-arguments fact r [] = refl
length-arguments fact r (x ∷ xs) = ap suc (length-arguments fact (r + 1) xs)

length-saves : (fact : FunctionFact) (r k n : ℕ) → length (saves fact r k n) ≡ n
length-saves fact r k zero = refl
length-saves fact r k (suc n) = ap suc (length-saves fact (r + 1) (k + 1) n)

length-result : (fact : FunctionFact) (d : Option ℕ) → length (result fact d) ≡ result_size d
length-result fact None = refl
length-result fact (Some d) = refl

pub length-transfer : (kind : LinkKind) (callee : Option ℕ) (here : ℕ) → length (transfer kind callee here) ≡ transfer_size kind
length-transfer LinkKind.Plain callee here = refl
length-transfer _ callee here = refl

pub length-prologue : (fact : FunctionFact) (params : ℕ) → length (prologue fact params) ≡ 2 + params
length-prologue fact params = let e = length-saves fact a0 0 params in omega arith

pub length-row : (fact : FunctionFact) (sizes : List ℕ) (s : Setting) (op : Op) → length (row fact sizes s op) ≡ size sizes s.kind op
length-row fact sizes s (Op.Const d value) = refl
length-row fact sizes s (Op.Copy d x) = refl
length-row fact sizes s (Op.Neg d x) = refl
length-row fact sizes s (Op.Not d x) = refl
length-row fact sizes s (Op.Flip d x) = refl
length-row fact sizes s (Op.Bin op d a b) = simp (length-append, length-middle) (omega arith)
length-row fact sizes s (Op.Zero a) = length-zeroes (slice_index fact.places a) (slice_index sizes a)
length-row fact sizes s (Op.LoadGlobal d g) = refl
length-row fact sizes s (Op.StoreGlobal g x) = refl
length-row fact sizes s (Op.LoadLocal d a i) = refl
length-row fact sizes s (Op.LoadArray d a i) = refl
length-row fact sizes s (Op.StoreLocal a i x) = refl
length-row fact sizes s (Op.StoreArray a i x) = refl
length-row fact sizes s (Op.Jump to) = refl
length-row fact sizes s (Op.JumpZero x to) = refl
length-row fact sizes s (Op.Call site d f args) = simp (length-append, length-arguments, length-transfer, length-result)
length-row fact sizes s (Op.CallTable site d t i x) = simp (length-append, length-transfer, length-result) (omega arith)
length-row fact sizes s (Op.Model site d n args) = simp (length-append, length-arguments, length-result)
length-row fact sizes s (Op.Spawn site d f x) = simp (length-append, length-result) (omega arith)
length-row fact sizes s (Op.Return None) = refl
length-row fact sizes s (Op.Return (Some x)) = refl

-- the address after an operation
pub stride : (entry words more t s : ℕ) → words + t ≡ more → t ≡ s → entry + 4 * more ≡ entry + 4 * words + 4 * s
stride entry words more t s h e = omega arith
