-- The turns of loops, by the statement that a loop is.
use Rattle.source_items.proofs.Common.{◌≡◌, List, ◌∷◌, ◌++◌, refl, subst, sym, Bool, true, false, IfSome, Option, Some, None, Result, Ok, Err, OnOk, StmtTree, Do, Empty, Block, While, For, Context, scope_after_all, loop_of, condition_of, step_of, body_of, is_for, part_item, IsLoop, IsGiven, IsScoped, IsWhole}
use Rattle.c_mean.specs.ToDo as todo
use Rattle.source_items.specs.declared.items.Part.TheVariants as part

pub on_ok-both : {T E : Type 0} (P Q : Type 0) (r : Result T E) → OnOk r P → OnOk r Q → OnOk r (P × Q)
on_ok-both P Q (Ok v) p q = (p, q)
on_ok-both P Q (Err e) p q = p

-- true
abbrev IsYes : Bool → Type 0
IsYes true = Unit {0}
IsYes false = ⊥

not-for : false ≡ true → ⊥
not-for e = subst IsYes (sym e) (tt {0})

is-for : true ≡ false → ⊥
is-for e = subst IsYes e (tt {0})

-- a statement, if there is one, and then the rest
abbrev pub before_if : Option StmtTree → List todo.Item → List todo.Item
before_if None rest = rest
before_if (Some s) rest = todo.before s rest

pub body-parts : (t : StmtTree) (rest : List todo.Item) → todo.body_before (loop_of t) rest ≡ before_if (body_of t) (todo.step_item (step_of t) ++ todo.Back (loop_of t) ∷ rest)
body-parts (Do s) rest = refl
body-parts _ rest = refl

pub turn-test : (t : StmtTree) (rest : List todo.Item) → IsGiven (condition_of t) → todo.turn_before (loop_of t) rest ≡ part_item part.Test t ∷ rest
turn-test (For init (Some c) step s) rest h = refl
turn-test _ rest h = elim h [ ]

pub turn-enter : (t : StmtTree) (rest : List todo.Item) → is_for t ≡ true → condition_of t ≡ None → todo.turn_before (loop_of t) rest ≡ todo.Enter ∷ todo.body_before (loop_of t) rest
turn-enter (For init None step s) rest is none = refl
turn-enter (For init (Some c) step s) rest is none = absurd (subst IsGiven none (tt {0}))
turn-enter _ rest is none = absurd (not-for is)

pub turn-while : (t : StmtTree) (rest : List todo.Item) → IsLoop t → is_for t ≡ false → todo.turn_before (loop_of t) rest ≡ part_item part.Whole t ∷ rest
turn-while (While c s) rest h is = refl
turn-while (For init c step s) rest h is = absurd (is-for is)
turn-while _ rest h is = elim h [ ]

pub skip-for : (t : StmtTree) (rest : List todo.Item) → is_for t ≡ true → todo.skipped (loop_of t) rest ≡ todo.step_item (step_of t) ++ todo.Back (loop_of t) ∷ rest
skip-for (For init c step s) rest is = refl
skip-for _ rest is = absurd (not-for is)

pub skip-while : (t : StmtTree) (rest : List todo.Item) → IsLoop t → is_for t ≡ false → todo.skipped (loop_of t) rest ≡ part_item part.Whole t ∷ rest
skip-while (While c s) rest h is = refl
skip-while (For init c step s) rest h is = absurd (is-for is)
skip-while _ rest h is = elim h [ ]

-- a `while` is done whole
pub whole-loop : (t : StmtTree) → IsLoop t → is_for t ≡ false → IsWhole t
whole-loop Empty h is = elim h [ ]
whole-loop (Block ss) h is = elim h [ ]
whole-loop (For init c step s) h is = absurd (is-for is)
whole-loop _ h is = tt {0}

-- the body of a loop is well scoped where the loop is
pub body-scoped : (context : Context) (t : StmtTree) → IsScoped context t → IfSome (body_of t) (λ s. IsScoped context s)
body-scoped context (While c s) h = record { loop = true; scope = h.scope; scoped = h.scoped.1 }
body-scoped context (For init c step s) h = record { loop = true; scope = scope_after_all h.scope init; scoped = h.scoped.3 }
body-scoped context _ h = tt {0}
