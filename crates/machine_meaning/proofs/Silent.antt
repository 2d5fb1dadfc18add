-- Silent steps of flat code: what one operation does, where its variables are known, and how steps go on from one
-- another.
use Rattle.machine_meaning.proofs.Common.{◌≡◌, ℕ, suc, ◌+◌, ◌-◌, ◌^◌, ◌<◌, ◌≤◌, List, [], ◌∷◌, length, Option, Some, None, refl, ap, ◌∙◌, arith, get_or, set, nat_eq, bit_xor, slice_index, length-set, get_or-set_same, get_or-set_other, width, word_at, Goes, Stops, and_then, moves, goes_on, Op, FlatCode, operation_at, FlatFrame, FlatThread, End, variable, result_of}
use Rattle.cap_word.specs.Word as word
use Rattle.flat_code.specs.declared.operators.BinOp.{BinOp}
use Rattle.flat_code.specs.Step.{FlatMove, on, first, scalar, within, puts, does, flat_step, flat_machine}

-- the variables of a frame
abbrev pub Vars : Type 0
Vars = List (Option (List ℕ))

-- a frame of function f at operation p
abbrev pub frame_at : ℕ → ℕ → Vars → FlatFrame
frame_at f p vars = record { function = f; next = p; variables = vars }

-- variable d is set to a word
abbrev pub put : Vars → ℕ → ℕ → Vars
put vars d word = set vars d (Some (word ∷ []))

-- a scalar has a word
abbrev pub Has : Vars → ℕ → ℕ → Type 0
Has vars d word = get_or vars d None ≡ Some (word ∷ [])

-- as many variables as before, and those below n are as they were
pub record Kept (n : ℕ) (vars after : Vars) : Type 0 where
  pub long : length after ≡ length vars
  pub same : (x : ℕ) → x < n → get_or after x None ≡ get_or vars x None

pub kept_all : (n : ℕ) (vars : Vars) → Kept n vars vars
kept_all n vars = record { long = refl; same = λ x lt. refl }

pub kept_both : (n : ℕ) (vars middle after : Vars) → Kept n vars middle → Kept n middle after → Kept n vars after
kept_both n vars middle after h k = record { long = k.long ∙ h.long; same = λ x lt. k.same x lt ∙ h.same x lt }

pub kept_fewer : (n m : ℕ) (vars after : Vars) → m ≤ n → Kept n vars after → Kept m vars after
kept_fewer n m vars after le h = record { long = h.long; same = λ x lt. h.same x (omega arith) }

pub kept_put : (n d word : ℕ) (vars : Vars) → n ≤ d → Kept n vars (put vars d word)
kept_put n d word vars le = record { long = length-set vars d (Some (word ∷ [])); same = λ x lt. get_or-set_other vars d x (Some (word ∷ [])) None (omega arith) }

pub has_put : (d word : ℕ) (vars : Vars) → d < length vars → Has (put vars d word) d word
has_put d word vars lt = get_or-set_same vars d (Some (word ∷ [])) None lt

-- silent steps lead from one thread to another
pub record Leads (code : FlatCode) (from to : FlatThread) : Type 0 where
  pub count : ℕ
  pub silent : moves (flat_machine code) count from ≡ Goes to

-- steps lead to a stop
pub record Ends (code : FlatCode) (from : FlatThread) (end : End) : Type 0 where
  pub count : ℕ
  pub stops : moves (flat_machine code) count from ≡ Stops end

pub stays : (code : FlatCode) (from : FlatThread) → Leads code from from
stays code from = record { count = 0; silent = refl }

pub one_leads : (code : FlatCode) (from to : FlatThread) → flat_step code from ≡ Goes to → Leads code from to
one_leads code from to e = record { count = 1; silent = ap (λ m. and_then m (moves (flat_machine code) 0)) e }

pub one_ends : (code : FlatCode) (from : FlatThread) (end : End) → flat_step code from ≡ Stops end → Ends code from end
one_ends code from end e = record { count = 1; stops = ap (λ m. and_then m (moves (flat_machine code) 0)) e }

pub leads_both : (code : FlatCode) (from middle to : FlatThread) → Leads code from middle → Leads code middle to → Leads code from to
leads_both code from middle to h k = record { count = h.count + k.count; silent = goes_on (flat_machine code) h.count k.count from middle h.silent ∙ k.silent }

pub ends_later : (code : FlatCode) (from middle : FlatThread) (end : End) → Leads code from middle → Ends code middle end → Ends code from end
ends_later code from middle end h k = record { count = h.count + k.count; stops = goes_on (flat_machine code) h.count k.count from middle h.silent ∙ k.stops }

-- reading a scalar that has a word
pub on_has : (vars : Vars) (d w : ℕ) (use_it : ℕ → FlatMove) → Has vars d w → on (first (get_or vars d None)) use_it ≡ use_it w
on_has vars d w use_it h = ap (λ v. on (first v) use_it) h

module _ (code : FlatCode) (f : ℕ) (below : List FlatFrame) (globals : List (List ℕ)) where
  abbrev pub th : ℕ → Vars → FlatThread
  th p vars = record { frame = frame_at f p vars; below = below; globals = globals }

  -- a step is what the operation does that stands there
  pub step_is : (p : ℕ) (vars : Vars) (op : Op) → operation_at code f p ≡ Some op → flat_step code (th p vars) ≡ does code (th p vars) op
  step_is p vars op e = ap (λ o. on o (does code (th p vars))) e

  pub const_leads : (p d w : ℕ) (vars : Vars) → operation_at code f p ≡ Some (Op.Const d w) → Leads code (th p vars) (th (p + 1) (put vars d w))
  const_leads p d w vars e = one_leads code (th p vars) (th (p + 1) (put vars d w)) (step_is p vars (Op.Const d w) e)

  pub copy_leads : (p d s w : ℕ) (vars : Vars) → operation_at code f p ≡ Some (Op.Copy d s) → Has vars s w → Leads code (th p vars) (th (p + 1) (put vars d w))
  copy_leads p d s w vars e h = one_leads code (th p vars) (th (p + 1) (put vars d w)) (step_is p vars (Op.Copy d s) e ∙ on_has vars s w (puts (th p vars) d) h)

  pub neg_leads : (p d s w : ℕ) (vars : Vars) → operation_at code f p ≡ Some (Op.Neg d s) → Has vars s w → Leads code (th p vars) (th (p + 1) (put vars d (word.sub 0 w)))
  neg_leads p d s w vars e h = one_leads code (th p vars) (th (p + 1) (put vars d (word.sub 0 w))) (step_is p vars (Op.Neg d s) e ∙ on_has vars s w (λ a. puts (th p vars) d (word.sub 0 a)) h)

  pub not_leads : (p d s w : ℕ) (vars : Vars) → operation_at code f p ≡ Some (Op.Not d s) → Has vars s w → Leads code (th p vars) (th (p + 1) (put vars d (bit_xor w (2 ^ 32 - 1))))
  not_leads p d s w vars e h = one_leads code (th p vars) (th (p + 1) (put vars d (bit_xor w (2 ^ 32 - 1)))) (step_is p vars (Op.Not d s) e ∙ on_has vars s w (λ a. puts (th p vars) d (bit_xor a (2 ^ 32 - 1))) h)

  pub flip_leads : (p d s w : ℕ) (vars : Vars) → operation_at code f p ≡ Some (Op.Flip d s) → Has vars s w → Leads code (th p vars) (th (p + 1) (put vars d (word.flag (nat_eq w 0))))
  flip_leads p d s w vars e h = one_leads code (th p vars) (th (p + 1) (put vars d (word.flag (nat_eq w 0)))) (step_is p vars (Op.Flip d s) e ∙ on_has vars s w (λ a. puts (th p vars) d (word.flag (nat_eq a 0))) h)

  pub bin_leads : (p d x y v w : ℕ) (op : BinOp) (vars : Vars) → operation_at code f p ≡ Some (Op.Bin op d x y) → Has vars x v → Has vars y w → Leads code (th p vars) (th (p + 1) (put vars d (result_of op v w)))
  bin_leads p d x y v w op vars e h k =
      one_leads code (th p vars) (th (p + 1) (put vars d (result_of op v w)))
      (step_is p vars (Op.Bin op d x y) e
      ∙ on_has vars x v (λ a. on (scalar (th p vars) y) (λ b. puts (th p vars) d (result_of op a b))) h
      ∙ on_has vars y w (λ b. puts (th p vars) d (result_of op v b)) k)

  pub global_leads : (p d g : ℕ) (vars : Vars) → operation_at code f p ≡ Some (Op.LoadGlobal d g) → Leads code (th p vars) (th (p + 1) (put vars d (word_at globals g 0)))
  global_leads p d g vars e = one_leads code (th p vars) (th (p + 1) (put vars d (word_at globals g 0))) (step_is p vars (Op.LoadGlobal d g) e)

  pub jump_leads : (p to : ℕ) (vars : Vars) → operation_at code f p ≡ Some (Op.Jump to) → Leads code (th p vars) (th to vars)
  jump_leads p to vars e = one_leads code (th p vars) (th to vars) (step_is p vars (Op.Jump to) e)

  pub zero_leads : (p s to : ℕ) (vars : Vars) → operation_at code f p ≡ Some (Op.JumpZero s to) → Has vars s 0 → Leads code (th p vars) (th to vars)
  zero_leads p s to vars e h = one_leads code (th p vars) (th to vars) (step_is p vars (Op.JumpZero s to) e ∙ on_has vars s 0 (Rattle.flat_code.specs.Step.jumps (th p vars) to) h)

  pub passes : (p s to n : ℕ) (vars : Vars) → operation_at code f p ≡ Some (Op.JumpZero s to) → Has vars s (suc n) → Leads code (th p vars) (th (p + 1) vars)
  passes p s to n vars e h = one_leads code (th p vars) (th (p + 1) vars) (step_is p vars (Op.JumpZero s to) e ∙ on_has vars s (suc n) (Rattle.flat_code.specs.Step.jumps (th p vars) to) h)

  -- a step to a range test of a row that is known
  pub local_step : (p d a i k : ℕ) (row : List ℕ) (vars : Vars) → operation_at code f p ≡ Some (Op.LoadLocal d a i) → Has vars i k → get_or vars a None ≡ Some row → flat_step code (th p vars) ≡ within (th p vars) k (length row) (puts (th p vars) d (slice_index row k))
  local_step p d a i k row vars e h r =
      step_is p vars (Op.LoadLocal d a i) e
      ∙ on_has vars i k (λ j. on (variable (frame_at f p vars) a) (λ row'. within (th p vars) j (length row') (puts (th p vars) d (slice_index row' j)))) h
      ∙ ap (λ v. on v (λ row'. within (th p vars) k (length row') (puts (th p vars) d (slice_index row' k)))) r

  pub array_step : (p d a i k : ℕ) (vars : Vars) → operation_at code f p ≡ Some (Op.LoadArray d a i) → Has vars i k → flat_step code (th p vars) ≡ within (th p vars) k (width globals a) (puts (th p vars) d (word_at globals a k))
  array_step p d a i k vars e h =
      step_is p vars (Op.LoadArray d a i) e
      ∙ on_has vars i k (λ j. within (th p vars) j (width globals a) (puts (th p vars) d (word_at globals a j))) h
