-- The operations of a tree stand in a function of flat code, from one place to another: one look-up for each operation.
use Rattle.machine_meaning.proofs.Common.{◌≡◌, ℕ, ◌+◌, Bool, true, false, List, [], ◌∷◌, Option, Some, None, UnaryOperator, number_of, Target, ToNowhere, ToLocal, ToGlobal, ToLocalElement, ToGlobalElement, ToCaller, Loop, WhileLoop, ForLoop, Op, operator_of, arguments_in}
use Rattle.c_tree.specs.Trees.{ExprTree, Number, Local, Global, LocalElement, GlobalElement, Unary, Parenthesized, Binary, LogicalAnd, LogicalOr, Conditional, CallTree, CallFunction, CallTable, CallSpawn, CallModelled, RightTree, Computed, Called, SimpleTree, DeclareScalar, DeclareArray, DeclareWith, SetLocal, SetGlobal, SetLocalElement, SetGlobalElement, Calling, StmtTree, StmtTrees, Do, Empty, Block, If, IfElse, While, For, Break, Continue, Return, NoStmts, Then}

module _ (fetch : ℕ → Option Op) where
  -- an expression's, from p to q, which leave it in variable d
  abbrev pub ExprAt : ℕ → ExprTree → ℕ → ℕ → Type 0
  ExprAt p (Number v) d q = (fetch p ≡ Some (Op.Const d v)) × (q ≡ p + 1)
  ExprAt p (Local x) d q = (fetch p ≡ Some (Op.Copy d x)) × (q ≡ p + 1)
  ExprAt p (Global g) d q = (fetch p ≡ Some (Op.LoadGlobal d g)) × (q ≡ p + 1)
  ExprAt p (LocalElement a i) d q = (m : ℕ) × ExprAt p i d m × (fetch m ≡ Some (Op.LoadLocal d a d)) × (q ≡ m + 1)
  ExprAt p (GlobalElement a i) d q = (m : ℕ) × ExprAt p i d m × (fetch m ≡ Some (Op.LoadArray d a d)) × (q ≡ m + 1)
  ExprAt p (Unary UnaryOperator.Plus e) d q = ExprAt p e d q
  ExprAt p (Unary UnaryOperator.Negate e) d q = (m : ℕ) × ExprAt p e d m × (fetch m ≡ Some (Op.Neg d d)) × (q ≡ m + 1)
  ExprAt p (Unary UnaryOperator.Complement e) d q = (m : ℕ) × ExprAt p e d m × (fetch m ≡ Some (Op.Not d d)) × (q ≡ m + 1)
  ExprAt p (Unary UnaryOperator.Not e) d q = (m : ℕ) × ExprAt p e d m × (fetch m ≡ Some (Op.Flip d d)) × (q ≡ m + 1)
  ExprAt p (Parenthesized e) d q = ExprAt p e d q
  ExprAt p (Binary op l r) d q = (m n : ℕ) × ExprAt p l d m × ExprAt m r (d + 1) n × (fetch n ≡ Some (Op.Bin (operator_of op) d d (d + 1))) × (q ≡ n + 1)
  ExprAt p (LogicalAnd l r) d q =
      (m n z : ℕ) × ExprAt p l d m × (fetch m ≡ Some (Op.JumpZero d z)) × ExprAt (m + 1) r d n × (fetch n ≡ Some (Op.JumpZero d z))
      × (fetch (n + 1) ≡ Some (Op.Const d 1)) × (fetch (n + 1 + 1) ≡ Some (Op.Jump q)) × (fetch z ≡ Some (Op.Const d 0)) × (q ≡ z + 1)
  ExprAt p (LogicalOr l r) d q =
      (m n a z : ℕ) × ExprAt p l d m × (fetch m ≡ Some (Op.JumpZero d a)) × (fetch (m + 1) ≡ Some (Op.Jump (n + 1))) × ExprAt a r d n
      × (fetch n ≡ Some (Op.JumpZero d z)) × (fetch (n + 1) ≡ Some (Op.Const d 1)) × (fetch (n + 1 + 1) ≡ Some (Op.Jump q)) × (fetch z ≡ Some (Op.Const d 0)) × (q ≡ z + 1)
  ExprAt p (Conditional c a b) d q =
      (m n z : ℕ) × ExprAt p c d m × (fetch m ≡ Some (Op.JumpZero d z)) × ExprAt (m + 1) a d n × (fetch n ≡ Some (Op.Jump q)) × ExprAt z b d q

  -- arguments, the first in variable d
  abbrev pub ArgsAt : ℕ → List ExprTree → ℕ → ℕ → Type 0
  ArgsAt p [] d q = q ≡ p
  ArgsAt p (e ∷ es) d q = (m : ℕ) × ExprAt p e d m × ArgsAt m es (d + 1) q

  -- a call, whose arguments stand from variable d on and whose result goes to a place: first what it needs, from p to m,
  -- then the operation of the call itself at m
  abbrev pub CallAt : ℕ → CallTree → ℕ → Option ℕ → ℕ → Type 0
  CallAt p (CallFunction s f es) d to m = ArgsAt p es d m × (fetch m ≡ Some (Op.Call s to f (arguments_in es d)))
  CallAt p (CallTable s t i e) d to m = (n : ℕ) × ExprAt p i d n × ExprAt n e (d + 1) m × (fetch m ≡ Some (Op.CallTable s to t d (d + 1)))
  CallAt p (CallSpawn s f e) d to m = ExprAt p e d m × (fetch m ≡ Some (Op.Spawn s to f d))
  CallAt p (CallModelled s c es) d to m = ArgsAt p es d m × (fetch m ≡ Some (Op.Model s to (number_of c) (arguments_in es d)))

  module _ (t : ℕ) where
    -- the variable in which a value is held before it is stored: that of an element's index comes before
    abbrev pub held : Target → ℕ
    held ToNowhere = t
    held (ToLocal x) = t
    held (ToGlobal g) = t
    held (ToLocalElement a) = t + 1
    held (ToGlobalElement a) = t + 1
    held ToCaller = t

    -- what stores a value that is held, from m to q
    abbrev pub StoreAt : Target → ℕ → ℕ → Type 0
    StoreAt ToNowhere m q = ⊥
    StoreAt (ToLocal x) m q = (fetch m ≡ Some (Op.Copy x t)) × (q ≡ m + 1)
    StoreAt (ToGlobal g) m q = (fetch m ≡ Some (Op.StoreGlobal g t)) × (q ≡ m + 1)
    StoreAt (ToLocalElement a) m q = (fetch m ≡ Some (Op.StoreLocal a t (t + 1))) × (q ≡ m + 1)
    StoreAt (ToGlobalElement a) m q = (fetch m ≡ Some (Op.StoreArray a t (t + 1))) × (q ≡ m + 1)
    StoreAt ToCaller m q = fetch m ≡ Some (Op.Return (Some t))

    -- where the result of the call at m goes, and what stores it, to q
    abbrev pub ResultAt : Target → Option ℕ → ℕ → ℕ → Type 0
    ResultAt ToNowhere to m q = (to ≡ None) × (q ≡ m + 1)
    ResultAt (ToLocal x) to m q = (to ≡ Some x) × (q ≡ m + 1)
    ResultAt (ToGlobal g) to m q = (to ≡ Some t) × StoreAt (ToGlobal g) (m + 1) q
    ResultAt (ToLocalElement a) to m q = (to ≡ Some (t + 1)) × StoreAt (ToLocalElement a) (m + 1) q
    ResultAt (ToGlobalElement a) to m q = (to ≡ Some (t + 1)) × StoreAt (ToGlobalElement a) (m + 1) q
    ResultAt ToCaller to m q = (to ≡ Some t) × StoreAt ToCaller (m + 1) q

    -- a right side, and what stores it
    abbrev pub RightAt : ℕ → RightTree → Target → ℕ → Type 0
    RightAt p (Computed e) target q = (m : ℕ) × ExprAt p e (held target) m × StoreAt target m q
    RightAt p (Called call) target q = (m : ℕ) × (to : Option ℕ) × CallAt p call (held target) to m × ResultAt target to m q

    abbrev pub SimpleAt : ℕ → SimpleTree → ℕ → Type 0
    SimpleAt p (DeclareScalar x) q = (fetch p ≡ Some (Op.Const x 0)) × (q ≡ p + 1)
    SimpleAt p (DeclareArray x n) q = (fetch p ≡ Some (Op.Zero x)) × (q ≡ p + 1)
    SimpleAt p (DeclareWith x v) q = RightAt p v (ToLocal x) q
    SimpleAt p (SetLocal x v) q = RightAt p v (ToLocal x) q
    SimpleAt p (SetGlobal g v) q = RightAt p v (ToGlobal g) q
    SimpleAt p (SetLocalElement a i v) q = (n : ℕ) × ExprAt p i t n × RightAt n v (ToLocalElement a) q
    SimpleAt p (SetGlobalElement a i v) q = (n : ℕ) × ExprAt p i t n × RightAt n v (ToGlobalElement a) q
    SimpleAt p (Calling call) q = RightAt p (Called call) ToNowhere q

    abbrev pub SimplesAt : ℕ → List SimpleTree → ℕ → Type 0
    SimplesAt p [] q = q ≡ p
    SimplesAt p (s ∷ ss) q = (m : ℕ) × SimpleAt p s m × SimplesAt m ss q

    abbrev pub StepAt : ℕ → Option SimpleTree → ℕ → Type 0
    StepAt p None q = q ≡ p
    StepAt p (Some s) q = SimpleAt p s q

    -- the test of a loop, which goes to x where the condition is 0, and else to q
    abbrev pub TestAt : ℕ → Option ExprTree → ℕ → ℕ → Type 0
    TestAt p None x q = q ≡ p
    TestAt p (Some e) x q = (m : ℕ) × ExprAt p e t m × (fetch m ≡ Some (Op.JumpZero t x)) × (q ≡ m + 1)

    abbrev pub ReturnAt : ℕ → Option RightTree → ℕ → Type 0
    ReturnAt p None q = fetch p ≡ Some (Op.Return None)
    ReturnAt p (Some v) q = RightAt p v ToCaller q

    -- a statement, from p to q, in a loop that `break` leaves to `leave` and that goes on at `skip` after a `continue`
    abbrev mutual
      pub StmtAt : ℕ → StmtTree → ℕ → ℕ → ℕ → Type 0
      StmtAt p (Do s) leave skip q = SimpleAt p s q
      StmtAt p Empty leave skip q = q ≡ p
      StmtAt p (Block ss) leave skip q = StmtsAt p ss leave skip q
      StmtAt p (If e s) leave skip q = (m : ℕ) × ExprAt p e t m × (fetch m ≡ Some (Op.JumpZero t q)) × StmtAt (m + 1) s leave skip q
      StmtAt p (IfElse e s r) leave skip q =
          (m n z : ℕ) × ExprAt p e t m × (fetch m ≡ Some (Op.JumpZero t z)) × StmtAt (m + 1) s leave skip n × (fetch n ≡ Some (Op.Jump q)) × StmtAt z r leave skip q
      StmtAt p (While e s) leave skip q = (m n : ℕ) × ExprAt p e t m × (fetch m ≡ Some (Op.JumpZero t q)) × StmtAt (m + 1) s q p n × (fetch n ≡ Some (Op.Jump p))
      StmtAt p (For init e step s) leave skip q =
          (b : ℕ) × SimplesAt p init b × ((m n k : ℕ) × TestAt b e q m × StmtAt m s q n n × StepAt n step k × (fetch k ≡ Some (Op.Jump b)))
      StmtAt p Break leave skip q = fetch p ≡ Some (Op.Jump leave)
      StmtAt p Continue leave skip q = fetch p ≡ Some (Op.Jump skip)
      StmtAt p (Return v) leave skip q = ReturnAt p v q

      pub StmtsAt : ℕ → StmtTrees → ℕ → ℕ → ℕ → Type 0
      StmtsAt p NoStmts leave skip q = q ≡ p
      StmtsAt p (Then s ss) leave skip q = (m : ℕ) × StmtAt p s leave skip m × StmtsAt m ss leave skip q

    -- a loop whose turns begin at b and which is left to x
    abbrev pub LoopAt : Loop → ℕ → ℕ → Type 0
    LoopAt (WhileLoop e s) b x = (m n : ℕ) × ExprAt b e t m × (fetch m ≡ Some (Op.JumpZero t x)) × StmtAt (m + 1) s x b n × (fetch n ≡ Some (Op.Jump b))
    LoopAt (ForLoop e step s) b x = (m n k : ℕ) × TestAt b e x m × StmtAt m s x n n × StepAt n step k × (fetch k ≡ Some (Op.Jump b))

    -- the end of a function
    abbrev pub EndAt : Bool → ℕ → Type 0
    EndAt true p = (fetch p ≡ Some (Op.Const t 0)) × (fetch (p + 1) ≡ Some (Op.Return (Some t)))
    EndAt false p = fetch p ≡ Some (Op.Return None)
