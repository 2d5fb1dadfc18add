-- A thread whose first function is main or is started by some site holds at most as many chunks as a budget gives it.
use Rattle.log_laws.proofs.Common.{◌≡◌, ℕ, zero, ◌+◌, ◌<◌, ◌≤◌, Bool, true, false, nat_eq, cond, List, [], ◌∷◌, length, Option, Some, None, refl, sym, ap, subst, ◌∙◌, arith, suc, AllByRecursion, Budget, height_of, chunks_added, IsCovered, IsBudget, HasMember, has_member, Pool, Op, operation_at, members_of, LinkKind, kind_of, Frame, IsStack, FramesAt, HasFrames, called_at_links, chunk_ahead, is_linked, Core, Checked, Place, InStub, InPrologue, InOperation, Row, NoFrame, Empty, Fresh, Linking, Whole, row_of, row_in, row_at, prologue_row, transfer_row, before_transfer, function_of, root_of, StartsAtRoot}
use Rattle.flat_code.specs.WellFormed.{IsWellFormed}
use Rattle.machine_world.proofs.ChainLaws.{length-chain}
use Rattle.log_laws.proofs.StackLemmas.{added_is, stack_heights}

-- ---- where a link has no frame in its chunk

-- of a linked transfer alone
linking_kind : (kind : LinkKind) (w before : ℕ) → transfer_row kind w (Some before) ≡ Linking → is_linked kind ≡ true
linking_kind (LinkKind.Linked need) w before e = refl
linking_kind _ w before e = absurd cc

return-none : (b : Bool) → cond b Empty Whole ≡ Linking → ⊥
return-none true e = cc
return-none false e = cc

-- the caller at a linked site is high enough for one chunk more
one_high : (heights gs : List ℕ) (added caller : ℕ) → 0 < length gs → added ≡ 1 → AllByRecursion (λ g. height_of heights g + added ≤ caller) gs → 1 ≤ caller
one_high heights [] added caller some one covered = absurd (omega arith)
one_high heights (g ∷ gs) added caller some one covered = let first = covered.0 in omega (arith, first, one)

pub linked_high : (c : Checked) (heights : List ℕ) (f b : ℕ) (op : Op) → HasMember c.flat op → IsCovered c.flat c.certificate heights f op → before_transfer op ≡ Some b → is_linked (kind_of c.certificate op) ≡ true → 1 ≤ height_of heights f
linked_high c heights f b (Op.Call site d g args) member covered call linked =
    one_high heights (g ∷ []) (chunks_added (kind_of c.certificate (Op.Call site d g args))) (height_of heights f) (omega arith)
    (added_is (kind_of c.certificate (Op.Call site d g args)) ∙ ap (λ (x : Bool). cond x 1 0) linked) covered
linked_high c heights f b (Op.CallTable site d t i s) member covered call linked =
    one_high heights (members_of c.flat t) (chunks_added (kind_of c.certificate (Op.CallTable site d t i s))) (height_of heights f) (member site d t i s refl)
    (added_is (kind_of c.certificate (Op.CallTable site d t i s)) ∙ ap (λ (x : Bool). cond x 1 0) linked) covered
linked_high c heights f b _ member covered call linked = absurd cc

-- an operation with that row calls at a linked site
record IsLinkedCall (c : Checked) (op : Op) : Type 0 where
  before : ℕ
  calls : before_transfer op ≡ Some before
  linked : is_linked (kind_of c.certificate op) ≡ true

linked_by : (c : Checked) (w : ℕ) (op : Op) (b : Option ℕ) → before_transfer op ≡ b → transfer_row (kind_of c.certificate op) w b ≡ Linking → IsLinkedCall c op
linked_by c w op None is e = absurd cc
linked_by c w op (Some before) is e = record { before = before; calls = is; linked = linking_kind (kind_of c.certificate op) w before e }

linked_call : (c : Checked) (w : ℕ) (op : Op) → row_in (kind_of c.certificate op) w op ≡ Linking → IsLinkedCall c op
linked_call c w (Op.Return None) e = absurd (return-none (nat_eq w 2) e)
linked_call c w (Op.Return (Some s)) e = absurd (return-none (nat_eq w 3) e)
linked_call c w (Op.Call site d g args) e = linked_by c w (Op.Call site d g args) (Some (length args)) refl e
linked_call c w (Op.CallTable site d t i s) e = linked_by c w (Op.CallTable site d t i s) (Some 13) refl e
linked_call c w _ e = absurd cc

module _ (c : Checked) (budget : Budget) (formed : IsWellFormed c.flat) (is : IsBudget c.flat c.certificate budget) where
  at_high : (f i w : ℕ) (o : Option Op) → operation_at c.flat f i ≡ o → row_at c.certificate w o ≡ Linking → 1 ≤ height_of budget.heights f
  at_high f i w None there e = absurd cc
  at_high f i w (Some op) there e =
      let call = linked_call c w op e in
      linked_high c budget.heights f call.before op (has_member c.flat f i op formed there) (is.calls f i op there) call.calls call.linked

  prologue_not : (word : ℕ) → prologue_row word ≡ Linking → ⊥
  prologue_not zero e = cc
  prologue_not (suc zero) e = cc
  prologue_not (suc (suc word)) e = cc

  place_high : (place : Place) → row_of c place ≡ Linking → 1 ≤ height_of budget.heights (function_of place)
  place_high (InStub word) e = absurd cc
  place_high (InPrologue f word) e = absurd (prologue_not word e)
  place_high (InOperation f i word) e = at_high f i word (operation_at c.flat f i) refl e

  -- the function of the running frame is that of the place, and its frames are a stack
  record IsStanding (pool : Pool) (place : Place) (frames : List Frame) : Type 0 where
    frame : Frame
    below : List Frame
    frames_are : frames ≡ frame ∷ below
    chain : List ℕ
    stack : IsStack c pool chain frame below
    function : frame.function ≡ function_of place

  standing_by : (pool : Pool) (core : Core) (place : Place) (row : Row) (chain : List ℕ) (frame : Frame) (below : List Frame) → FramesAt c pool core place row chain (frame ∷ below) → IsStanding pool place (frame ∷ below)
  standing_by pool core place NoFrame [] frame below at = absurd at
  standing_by pool core place NoFrame (chunk ∷ []) frame below at = absurd at
  standing_by pool core place NoFrame (a ∷ b ∷ chain) frame below at = absurd at
  standing_by pool core place Empty [] frame below at = absurd at
  standing_by pool core place Empty (chunk ∷ chain) frame below at = record { frame = frame; below = below; frames_are = refl; chain = chunk ∷ chain; stack = at.1; function = at.0.function }
  standing_by pool core place Fresh [] frame below at = absurd at
  standing_by pool core place Fresh (chunk ∷ chain) frame below at = record { frame = frame; below = below; frames_are = refl; chain = chunk ∷ chain; stack = at.1; function = at.0.function }
  standing_by pool core place Whole [] frame below at = absurd at
  standing_by pool core place Whole (chunk ∷ chain) frame below at = record { frame = frame; below = below; frames_are = refl; chain = chunk ∷ chain; stack = at.1; function = at.0.function }
  standing_by pool core place Linking [] frame below at = absurd at
  standing_by pool core place Linking (linked ∷ []) frame below at = absurd at
  standing_by pool core place Linking (linked ∷ chunk ∷ chain) frame below at = record { frame = frame; below = below; frames_are = refl; chain = chunk ∷ chain; stack = at.3; function = at.2.function }

  ahead_high : (row : Row) (height : ℕ) → (row ≡ Linking → 1 ≤ height) → chunk_ahead row ≤ height
  ahead_high Linking height high = let one = high refl in omega (arith, one)
  ahead_high _ height high = omega arith

  -- a thread in place holds at most as many chunks as the budget gives it
  pub holds_at_most : (pool : Pool) (core : Core) (place : Place) (frames : List Frame) → HasFrames c pool core place frames → StartsAtRoot c frames → length core.chain ≤ budget.per_thread
  holds_at_most pool core place [] has root =
      let most = length-chain c pool core place [] has in
      let ahead = none_ahead (row_of c place) core.chain has.frames_are in
      let some = is.chunks in
      omega (arith, most, ahead, some)
    where
      none_ahead : (row : Row) (chain : List ℕ) → FramesAt c pool core place row chain [] → chunk_ahead row ≡ 0
      none_ahead NoFrame chain at = refl
      none_ahead Empty chain at = refl
      none_ahead Fresh chain at = refl
      none_ahead Whole chain at = refl
      none_ahead Linking [] at = absurd at
      none_ahead Linking (linked ∷ []) at = absurd at
      none_ahead Linking (linked ∷ chunk ∷ chain) at = absurd at
  holds_at_most pool core place (frame ∷ below) has root =
      let most = length-chain c pool core place (frame ∷ below) has in
      let standing = standing_by pool core place (row_of c place) core.chain frame below has.frames_are in
      let heights = same_stack standing in
      let function : height_of budget.heights frame.function ≡ height_of budget.heights (function_of place) = ap (height_of budget.heights) (same_function standing) in
      let ahead = ahead_high (row_of c place) (height_of budget.heights (function_of place)) (λ e. place_high place e) in
      let first = is.roots (root_of frame below) root in
      let some = is.chunks in
      omega (arith, most, heights, function, ahead, first, some)
    where
      same_stack : IsStanding pool place (frame ∷ below) → called_at_links c (frame ∷ below) + height_of budget.heights frame.function ≤ height_of budget.heights (root_of frame below)
      same_stack standing =
          let a : frame ≡ standing.frame = (let e = standing.frames_are in cc) in
          let b : below ≡ standing.below = (let e = standing.frames_are in cc) in
          let stack = subst (λ (x : Frame). IsStack c pool standing.chain x standing.below) (sym a) standing.stack in
          stack_heights c budget.heights pool standing.chain frame below is.calls (subst (λ (xs : List Frame). IsStack c pool standing.chain frame xs) (sym b) stack)

      same_function : IsStanding pool place (frame ∷ below) → frame.function ≡ function_of place
      same_function standing = let a : frame ≡ standing.frame = (let e = standing.frames_are in cc) in ap (λ (x : Frame). x.function) a ∙ standing.function

  -- one that stands at a linked site, with its frame in the front chunk, holds one fewer
  pub holds_fewer : (pool : Pool) (core : Core) (f i w need : ℕ) (op : Op) (frames : List Frame) → HasFrames c pool core (InOperation f i w) frames → row_of c (InOperation f i w) ≡ Whole → operation_at c.flat f i ≡ Some op → 1 ≤ height_of budget.heights f →
      StartsAtRoot c frames → length core.chain + 1 ≤ budget.per_thread
  holds_fewer pool core f i w need op [] has row there high root = absurd (none row has.frames_are)
    where
      none : {A : Type 0} → row_of c (InOperation f i w) ≡ Whole → FramesAt c pool core (InOperation f i w) (row_of c (InOperation f i w)) core.chain [] → A
      none e at = by core.chain (subst (λ (r : Row). FramesAt c pool core (InOperation f i w) r core.chain []) e at)
        where
          by : {A : Type 0} (chain : List ℕ) → FramesAt c pool core (InOperation f i w) Whole chain [] → A
          by [] at = absurd at
          by (chunk ∷ chain) at = absurd at
  holds_fewer pool core f i w need op (frame ∷ below) has row there high root =
      let most = length-chain c pool core (InOperation f i w) (frame ∷ below) has in
      let none : chunk_ahead (row_of c (InOperation f i w)) ≡ 0 = ap chunk_ahead row in
      let standing = standing_by pool core (InOperation f i w) (row_of c (InOperation f i w)) core.chain frame below has.frames_are in
      let a : frame ≡ standing.frame = (let e = standing.frames_are in cc) in
      let b : below ≡ standing.below = (let e = standing.frames_are in cc) in
      let stack = subst (λ (xs : List Frame). IsStack c pool standing.chain frame xs) (sym b) (subst (λ (x : Frame). IsStack c pool standing.chain x standing.below) (sym a) standing.stack) in
      let heights = stack_heights c budget.heights pool standing.chain frame below is.calls stack in
      let function : height_of budget.heights frame.function ≡ height_of budget.heights f = ap (height_of budget.heights) (ap (λ (x : Frame). x.function) a ∙ standing.function) in
      let first = is.roots (root_of frame below) root in
      omega (arith, most, none, heights, function, high, first)
