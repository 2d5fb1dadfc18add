-- The numbers of the instructions of templates fit their fields, where places, frames and distances are small.
use Rattle.codegen_link.proofs.Common.{◌≡◌, ℕ, zero, suc, ◌+◌, ◌*◌, ◌%◌, ◌^◌, ◌<◌, ◌≤◌, List, [], ◌∷◌, ◌++◌, length, pos, Option, Some, None, refl, arith, slice_index, ◌-ℤ◌, AllByRecursion, ints, IsInRange, Instr, FunctionFact, LinkKind, upper_part, lower_part, load, store, system_call, guard, middle, zeroes, arguments, result, jump, call_instruction, transfer, saves, epilogue, zero_, ra, sp, tp, t0, t1, a0, a7}
use Rattle.rv_code.specs.Range.{IsImmediate, IsJumpOffset}
use Rattle.rv_code.proofs.Complements.{IsImmediate-signed}
use Rattle.flat_code.specs.declared.operators.BinOp.{BinOp}

abbrev pub Fit : List Instr → Type 0
Fit instrs = AllByRecursion IsInRange instrs

pub fit-append : (xs ys : List Instr) → Fit xs → Fit ys → Fit (xs ++ ys)
fit-append [] ys a b = b
fit-append (x ∷ xs) ys a b = (a.0, fit-append xs ys a.1 b)

pub immediate : (n : ℕ) → n ≤ 2047 → IsImmediate (pos n)
immediate n le = (omega (arith, ints), omega (arith, ints))

pub negated : (n : ℕ) → n ≤ 2047 → IsImmediate (pos 0 -ℤ pos n)
negated n le = (omega (arith, ints), omega (arith, ints))

pub lui-fits : (r v : ℕ) → r < 32 → IsInRange (Instr.Lui r (pos (upper_part v)))
unfolding IsInRange
lui-fits r v lt = (lt, (omega (arith, ints), omega (arith, ints)))

pub low-fits : (r v : ℕ) → r < 32 → IsInRange (Instr.Addi r r (lower_part v))
unfolding IsInRange
low-fits r v lt = (lt, lt, IsImmediate-signed (v % 2 ^ 12) (omega arith))

pub addi-fits : (rd rs n : ℕ) → rd < 32 → rs < 32 → n ≤ 2047 → IsInRange (Instr.Addi rd rs (pos n))
unfolding IsInRange
addi-fits rd rs n a b le = (a, b, immediate n le)

pub lower-fits : (n : ℕ) → n ≤ 2047 → IsInRange (Instr.Addi sp sp (pos 0 -ℤ pos n))
unfolding IsInRange
lower-fits n le = (omega arith, omega arith, negated n le)

pub lw-fits : (rd rs n : ℕ) → rd < 32 → rs < 32 → n ≤ 2047 → IsInRange (Instr.Lw rd rs (pos n))
unfolding IsInRange
lw-fits rd rs n a b le = (a, b, immediate n le)

pub sw-fits : (base source n : ℕ) → base < 32 → source < 32 → n ≤ 2047 → IsInRange (Instr.Sw base source (pos n))
unfolding IsInRange
sw-fits base source n a b le = (a, b, immediate n le)

pub ecall-fits : IsInRange Instr.Ecall
unfolding IsInRange
ecall-fits = tt

pub call-fits : (n : ℕ) → n ≤ 2047 → Fit (system_call n)
call-fits n le = (addi-fits a7 zero_ n (omega arith) (omega arith) le, (ecall-fits, tt))

pub middle-fits : (op : BinOp) → Fit (middle op)
unfolding IsInRange
middle-fits BinOp.LessOrEqual = ((omega arith, omega arith, omega arith), ((omega arith, omega arith, immediate 1 (omega arith)), tt))
middle-fits BinOp.GreaterOrEqual = ((omega arith, omega arith, omega arith), ((omega arith, omega arith, immediate 1 (omega arith)), tt))
middle-fits BinOp.Equal = ((omega arith, omega arith, omega arith), ((omega arith, omega arith, immediate 1 (omega arith)), tt))
middle-fits BinOp.NotEqual = ((omega arith, omega arith, omega arith), ((omega arith, omega arith, omega arith), tt))
middle-fits _ = ((omega arith, omega arith, omega arith), tt)

-- ---- distances between addresses, as quarters

pub offset : (a b : ℕ) → a ≤ 240000 → b ≤ 240000 → IsJumpOffset (pos (4 * a) -ℤ pos (4 * b))
offset a b la lb = (omega (arith, ints), omega (arith, ints), grind (arith, ints))

pub jump-fits : (r to from a b : ℕ) → r < 32 → to ≡ 4 * a → from ≡ 4 * b → a ≤ 240000 → b ≤ 240000 → IsInRange (jump r to from)
unfolding IsInRange
jump-fits r to from a b lt ea eb la lb = rw (ea, eb) (lt, offset a b la lb)

-- where a call goes: to an entry that is near, or through t2
abbrev pub IsNearEntry : Option ℕ → Type 0
IsNearEntry None = Unit {0}
IsNearEntry (Some entry) = (a : ℕ) × (entry ≡ 4 * a) × (a ≤ 240000)

pub instruction-fits : (callee : Option ℕ) (from b : ℕ) → IsNearEntry callee → from ≡ 4 * b → b ≤ 240000 → IsInRange (call_instruction callee from)
unfolding IsInRange
instruction-fits None from b near eb lb = (omega arith, omega arith, immediate 0 (omega arith))
instruction-fits (Some entry) from b near eb lb = jump-fits ra entry from near.0 b (omega arith) near.1 eb near.2 lb

sub-fits : IsInRange (Instr.Sub t0 sp t1)
unfolding IsInRange
sub-fits = (omega arith, omega arith, omega arith)

bltu-fits : IsInRange (Instr.Bltu t0 tp (pos 12))
unfolding IsInRange
bltu-fits = (omega arith, omega arith, (omega (arith, ints), omega (arith, ints), refl))

skip-fits : IsInRange (Instr.Jal zero_ (pos 24))
unfolding IsInRange
skip-fits = (omega arith, (omega (arith, ints), omega (arith, ints), refl))

pub transfer-fits : (kind : LinkKind) (callee : Option ℕ) (here b : ℕ) → IsNearEntry callee → here ≡ 4 * b → b ≤ 230000 → Fit (transfer kind callee here)
transfer-fits (LinkKind.Linked need) callee here b near eb lb =
    let first : here + 16 ≡ 4 * (b + 4) = omega arith in
    let second : here + 32 ≡ 4 * (b + 8) = omega arith in (
      lui-fits t1 need (omega arith),
      (
        low-fits t1 need (omega arith),
        (
          sub-fits,
          (
            bltu-fits,
            (
              instruction-fits callee (here + 16) (b + 4) near first (omega arith),
              (
                skip-fits,
                (
                  addi-fits a7 zero_ 1 (omega arith) (omega arith) (omega arith),
                  (
                    ecall-fits,
                    (
                      instruction-fits callee (here + 32) (b + 8) near second (omega arith),
                      call-fits 2 (omega arith),
                    ),
                  ),
                ),
              ),
            ),
          ),
        ),
      ),
    )
transfer-fits _ callee here b near eb lb = (instruction-fits callee here b near eb (omega arith), tt)

-- ---- parts that name places

module _ (fact : FunctionFact) (small : (x : ℕ) → slice_index fact.places x ≤ 2047) where
  pub load-fits : (r x : ℕ) → r < 32 → IsInRange (load fact r x)
  load-fits r x lt = lw-fits r sp (slice_index fact.places x) lt (omega arith) (small x)

  pub store-fits : (r x : ℕ) → r < 32 → IsInRange (store fact r x)
  store-fits r x lt = sw-fits sp r (slice_index fact.places x) (omega arith) lt (small x)

  pub result-fits : (d : Option ℕ) → Fit (result fact d)
  result-fits None = tt
  result-fits (Some d) = (store-fits a0 d (omega arith), tt)

  pub arguments-fit : (r : ℕ) (xs : List ℕ) → r + length xs ≤ 32 → Fit (arguments fact r xs)
  arguments-fit r [] le = tt
  arguments-fit r (x ∷ xs) le = (load-fits r x (omega arith), arguments-fit (r + 1) xs (omega arith))

  pub saves-fit : (r k n : ℕ) → r + n ≤ 32 → Fit (saves fact r k n)
  saves-fit r k zero le = tt
  saves-fit r k (suc n) le = (store-fits r k (omega arith), saves-fit (r + 1) (k + 1) n (omega arith))

  branch-fits : IsInRange (Instr.Bltu t0 t1 (pos 16))
  unfolding IsInRange
  branch-fits = (omega arith, omega arith, (omega (arith, ints), omega (arith, ints), refl))

  pub guard-fits : (i n kind : ℕ) → kind ≤ 2047 → Fit (guard fact i n kind)
  guard-fits i n kind le = (
    load-fits t0 i (omega arith),
    (
      lui-fits t1 n (omega arith),
      (
        low-fits t1 n (omega arith),
        (
          branch-fits,
          (
            addi-fits a0 zero_ kind (omega arith) (omega arith) le,
            call-fits 31 (omega arith),
          ),
        ),
      ),
    ),
  )

pub zeroes-fit : (place n : ℕ) → place + 4 * n ≤ 2047 → Fit (zeroes place n)
zeroes-fit place zero le = tt
zeroes-fit place (suc n) le = (sw-fits sp zero_ place (omega arith) (omega arith) (omega arith), zeroes-fit (place + 4) n (omega arith))

return-fits : IsInRange (Instr.Jalr zero_ ra (pos 0))
unfolding IsInRange
return-fits = (omega arith, omega arith, immediate 0 (omega arith))

pub epilogue-fits : (fact : FunctionFact) → fact.ra ≤ 2047 → fact.frame ≤ 2047 → Fit (epilogue fact)
epilogue-fits fact place frame = (lw-fits ra sp fact.ra (omega arith) (omega arith) place, (addi-fits sp sp fact.frame (omega arith) (omega arith) frame, (return-fits, tt)))
