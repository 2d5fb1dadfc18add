-- The numbers of the instructions of each operation fit their fields.
use Rattle.codegen_link.proofs.Common.{◌≡◌, ℕ, ◌+◌, ◌*◌, ◌<◌, ◌≤◌, List, [], ◌∷◌, ◌++◌, length, pos, negsuc, Some, None, refl, arith, slice_index, ints, IsInRange, Instr, Op, FunctionFact, Setting, upper_part, lower_part, load, store, middle, jump, arguments, result, system_call, transfer, guard, li, HavePlaces, row, end_stub, prologue, need_of, zero_, ra, sp, t0, t1, t2, a0, a1, a2}
use Rattle.codegen_link.proofs.InstructionLemmas.{Fit, fit-append, immediate, lui-fits, low-fits, lower-fits, lw-fits, sw-fits, call-fits, middle-fits, jump-fits, transfer-fits, load-fits, store-fits, result-fits, arguments-fit, saves-fit, guard-fits, zeroes-fit, epilogue-fits}

-- the frame is small, and so is the end of each variable in it
pub record IsPlacedIn (fact : FunctionFact) (sizes : List ℕ) : Type 0 where
  pub frame : fact.frame ≤ 2032
  pub ra : fact.ra ≤ 2032
  pub places : (x : ℕ) → slice_index fact.places x + 4 * slice_index sizes x ≤ 2032

-- the addresses that a template takes are near: a quarter of each is small
pub record IsNearby (s : Setting) : Type 0 where
  pub here : ℕ
  pub to : ℕ
  pub entry : ℕ
  pub here_is : s.here ≡ 4 * here
  pub to_is : s.to ≡ 4 * to
  pub entry_is : s.entry ≡ 4 * entry
  pub here_most : here ≤ 220000
  pub to_most : to ≤ 220000
  pub entry_most : entry ≤ 220000

pub stub-fits : Fit end_stub
stub-fits = call-fits 30 (omega arith)

pub prologue-fits : (fact : FunctionFact) (sizes : List ℕ) (params : ℕ) → IsPlacedIn fact sizes → params ≤ 6 → Fit (prologue fact params)
prologue-fits fact sizes params placed few = (
  lower-fits fact.frame (omega (arith, placed.frame)),
  (
    sw-fits sp ra fact.ra (omega arith) (omega arith) (omega (arith, placed.ra)),
    saves-fit fact (λ x. omega (arith, placed.places x)) a0 0 params (omega arith),
  ),
)

neg-fits : IsInRange (Instr.Sub t0 zero_ t0)
unfolding IsInRange
neg-fits = (omega arith, omega arith, omega arith)

not-fits : IsInRange (Instr.Xori t0 t0 (negsuc 0))
unfolding IsInRange
not-fits = (omega arith, omega arith, (omega (arith, ints), omega (arith, ints)))

flip-fits : IsInRange (Instr.Sltiu t0 t0 (pos 1))
unfolding IsInRange
flip-fits = (omega arith, omega arith, immediate 1 (omega arith))

shift-fits : IsInRange (Instr.Slli t0 t0 (pos 2))
unfolding IsInRange
shift-fits = (omega arith, omega arith, (omega (arith, ints), omega (arith, ints)))

add-fits : (base : ℕ) → base < 32 → IsInRange (Instr.Add t0 t0 base)
unfolding IsInRange
add-fits base lt = (omega arith, omega arith, lt)

branch-fits : IsInRange (Instr.Bne t0 zero_ (pos 8))
unfolding IsInRange
branch-fits = (omega arith, omega arith, (omega (arith, ints), omega (arith, ints), refl))

module _ (fact : FunctionFact) (sizes : List ℕ) (s : Setting) (placed : IsPlacedIn fact sizes) (near : IsNearby s) where
  small : (x : ℕ) → slice_index fact.places x ≤ 2047
  small x = omega (arith, placed.places x)

  load-t0 : (x : ℕ) → IsInRange (load fact t0 x)
  load-t0 x = load-fits fact small t0 x (omega arith)

  load-t1 : (x : ℕ) → IsInRange (load fact t1 x)
  load-t1 x = load-fits fact small t1 x (omega arith)

  load-a0 : (x : ℕ) → IsInRange (load fact a0 x)
  load-a0 x = load-fits fact small a0 x (omega arith)

  store-t0 : (x : ℕ) → IsInRange (store fact t0 x)
  store-t0 x = store-fits fact small t0 x (omega arith)

  guarded : (i count kind : ℕ) → kind ≤ 2047 → Fit (guard fact i count kind)
  guarded i count kind le = guard-fits fact small i count kind le

  upper : IsInRange (Instr.Lui t1 (pos (upper_part s.address)))
  upper = lui-fits t1 s.address (omega arith)

  low : IsInRange (Instr.Addi t1 t1 (lower_part s.address))
  low = low-fits t1 s.address (omega arith)

  lw : (rd rs : ℕ) → rd < 32 → rs < 32 → IsInRange (Instr.Lw rd rs (pos 0))
  lw rd rs a b = lw-fits rd rs 0 a b (omega arith)

  sw : (base source : ℕ) → base < 32 → source < 32 → IsInRange (Instr.Sw base source (pos 0))
  sw base source a b = sw-fits base source 0 a b (omega arith)

  jump-to : (from b : ℕ) → from ≡ 4 * b → b ≤ 240000 → IsInRange (jump zero_ s.to from)
  jump-to from b e le = jump-fits zero_ s.to from near.to b (omega arith) near.to_is e (omega (arith, near.to_most)) le

  pub row-fits : (n : ℕ) (op : Op) → HavePlaces n op → Fit (row fact sizes s op)
  row-fits n (Op.Const d value) have = (lui-fits t0 value (omega arith), (low-fits t0 value (omega arith), (store-t0 d, tt)))
  row-fits n (Op.Copy d x) have = (load-t0 x, (store-t0 d, tt))
  row-fits n (Op.Neg d x) have = (load-t0 x, (neg-fits, (store-t0 d, tt)))
  row-fits n (Op.Not d x) have = (load-t0 x, (not-fits, (store-t0 d, tt)))
  row-fits n (Op.Flip d x) have = (load-t0 x, (flip-fits, (store-t0 d, tt)))
  row-fits n (Op.Bin op d a b) have = (load-t0 a, (load-t1 b, fit-append (middle op) (store fact t0 d ∷ []) (middle-fits op) (store-t0 d, tt)))
  row-fits n (Op.Zero a) have = zeroes-fit (slice_index fact.places a) (slice_index sizes a) (omega (arith, placed.places a))
  row-fits n (Op.LoadGlobal d g) have = (upper, (low, (lw t0 t1 (omega arith) (omega arith), (store-t0 d, tt))))
  row-fits n (Op.StoreGlobal g x) have = (load-t0 x, (upper, (low, (sw t1 t0 (omega arith) (omega arith), tt))))
  row-fits n (Op.LoadLocal d a i) have =
      let rest : Fit (Instr.Slli t0 t0 (pos 2) ∷ Instr.Add t0 t0 sp ∷ Instr.Lw t0 t0 (pos (slice_index fact.places a)) ∷ store fact t0 d ∷ []) =
      (shift-fits, (add-fits sp (omega arith), (lw-fits t0 t0 (slice_index fact.places a) (omega arith) (omega arith) (small a), (store-t0 d, tt)))) in
      fit-append (guard fact i (slice_index sizes a) 1) (Instr.Slli t0 t0 (pos 2) ∷ Instr.Add t0 t0 sp ∷ Instr.Lw t0 t0 (pos (slice_index fact.places a)) ∷ store fact t0 d ∷ []) (guarded i (slice_index sizes a) 1 (omega arith)) rest
  row-fits n (Op.LoadArray d a i) have =
      let rest : Fit (Instr.Slli t0 t0 (pos 2) ∷ li t1 s.address ++ (Instr.Add t0 t0 t1 ∷ Instr.Lw t0 t0 (pos 0) ∷ store fact t0 d ∷ [])) =
      (shift-fits, (upper, (low, (add-fits t1 (omega arith), (lw t0 t0 (omega arith) (omega arith), (store-t0 d, tt)))))) in
      fit-append (guard fact i s.count 1) (Instr.Slli t0 t0 (pos 2) ∷ li t1 s.address ++ (Instr.Add t0 t0 t1 ∷ Instr.Lw t0 t0 (pos 0) ∷ store fact t0 d ∷ [])) (guarded i s.count 1 (omega arith)) rest
  row-fits n (Op.StoreLocal a i x) have =
      let rest : Fit (Instr.Slli t0 t0 (pos 2) ∷ Instr.Add t0 t0 sp ∷ load fact t1 x ∷ Instr.Sw t0 t1 (pos (slice_index fact.places a)) ∷ []) =
      (shift-fits, (add-fits sp (omega arith), (load-t1 x, (sw-fits t0 t1 (slice_index fact.places a) (omega arith) (omega arith) (small a), tt)))) in
      fit-append (guard fact i (slice_index sizes a) 1) (Instr.Slli t0 t0 (pos 2) ∷ Instr.Add t0 t0 sp ∷ load fact t1 x ∷ Instr.Sw t0 t1 (pos (slice_index fact.places a)) ∷ []) (guarded i (slice_index sizes a) 1 (omega arith)) rest
  row-fits n (Op.StoreArray a i x) have =
      let rest : Fit (Instr.Slli t0 t0 (pos 2) ∷ li t1 s.address ++ (Instr.Add t0 t0 t1 ∷ load fact t1 x ∷ Instr.Sw t0 t1 (pos 0) ∷ [])) =
      (shift-fits, (upper, (low, (add-fits t1 (omega arith), (load-t1 x, (sw t0 t1 (omega arith) (omega arith), tt)))))) in
      fit-append (guard fact i s.count 1) (Instr.Slli t0 t0 (pos 2) ∷ li t1 s.address ++ (Instr.Add t0 t0 t1 ∷ load fact t1 x ∷ Instr.Sw t0 t1 (pos 0) ∷ [])) (guarded i s.count 1 (omega arith)) rest
  row-fits n (Op.Jump to) have = (jump-to s.here near.here near.here_is (omega (arith, near.here_most)), tt)
  row-fits n (Op.JumpZero x to) have =
      let second : s.here + 8 ≡ 4 * (near.here + 2) = omega (arith, near.here_is) in
      (load-t0 x, (branch-fits, (jump-to (s.here + 8) (near.here + 2) second (omega (arith, near.here_most)), tt)))
  row-fits n (Op.Call site d f args) have =
      let from : s.here + 4 * length args ≡ 4 * (near.here + length args) = omega (arith, near.here_is) in
      fit-append (arguments fact a0 args ++ transfer s.kind (Some s.entry) (s.here + 4 * length args)) (result fact d)
      (fit-append (arguments fact a0 args) (transfer s.kind (Some s.entry) (s.here + 4 * length args))
      (arguments-fit fact small a0 args (omega (arith, have.1)))
      (transfer-fits s.kind (Some s.entry) (s.here + 4 * length args) (near.here + length args) (near.entry, near.entry_is, omega (arith, near.entry_most)) from (omega (arith, near.here_most, have.1))))
      (result-fits fact small d)
  row-fits n (Op.CallTable site d t i x) have =
      let from : s.here + 52 ≡ 4 * (near.here + 13) = omega (arith, near.here_is) in
      let rest : Fit (Instr.Slli t0 t0 (pos 2) ∷ li t1 s.address ++ (Instr.Add t0 t0 t1 ∷ Instr.Lw t2 t0 (pos 0) ∷ load fact a0 x ∷ [])) =
      (shift-fits, (upper, (low, (add-fits t1 (omega arith), (lw t2 t0 (omega arith) (omega arith), (load-a0 x, tt)))))) in
      fit-append (
      guard fact i s.count 2 ++ (
      Instr.Slli t0 t0 (pos 2) ∷ li t1 s.address ++ (Instr.Add t0 t0 t1 ∷ Instr.Lw t2 t0 (pos 0) ∷ load fact a0 x ∷ [])) ++
      transfer s.kind None (s.here + 52)) (result fact d)
      (fit-append (
      guard fact i s.count 2 ++ (
      Instr.Slli t0 t0 (pos 2) ∷ li t1 s.address ++ (Instr.Add t0 t0 t1 ∷ Instr.Lw t2 t0 (pos 0) ∷ load fact a0 x ∷ []))) (transfer s.kind None (s.here + 52))
      (fit-append (guard fact i s.count 2) (Instr.Slli t0 t0 (pos 2) ∷ li t1 s.address ++ (Instr.Add t0 t0 t1 ∷ Instr.Lw t2 t0 (pos 0) ∷ load fact a0 x ∷ [])) (guarded i s.count 2 (omega arith)) rest)
      (transfer-fits s.kind None (s.here + 52) (near.here + 13) tt from (omega (arith, near.here_most))))
      (result-fits fact small d)
  row-fits n (Op.Model site d number args) have =
      fit-append (arguments fact a0 args ++ system_call number) (result fact d)
      (fit-append (arguments fact a0 args) (system_call number) (arguments-fit fact small a0 args (omega (arith, have.1))) (call-fits number (omega (arith, have.2))))
      (result-fits fact small d)
  row-fits n (Op.Spawn site d f x) have =
      fit-append (li a0 s.entry ++ (load fact a1 x ∷ li a2 (need_of s.kind) ++ system_call 4)) (result fact d) (
        lui-fits a0 s.entry (omega arith),
        (
          low-fits a0 s.entry (omega arith),
          (
            load-fits fact small a1 x (omega arith),
            (
              lui-fits a2 (need_of s.kind) (omega arith),
              (low-fits a2 (need_of s.kind) (omega arith), call-fits 4 (omega arith)),
            ),
          ),
        ),
      )
      (result-fits fact small d)
  row-fits n (Op.Return None) have = epilogue-fits fact (omega (arith, placed.ra)) (omega (arith, placed.frame))
  row-fits n (Op.Return (Some x)) have = (load-a0 x, epilogue-fits fact (omega (arith, placed.ra)) (omega (arith, placed.frame)))
