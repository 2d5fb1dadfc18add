-- Stacks of items.
use Rattle.source_items.proofs.Common.{◌≡◌, ℕ, suc, zero, ◌+◌, ◌<◌, ◌≤◌, List, [], ◌∷◌, ◌++◌, length, refl, drop, map, arith, sym, ap, ◌∙◌, subst, get_or, add-one, Bor, slice_index_or, slice_get, option_map, Bool, IfSome, MatchOption, Option, Some, None, length-map, get_or-map, ExprTree, SimpleTree, DeclareScalar, StmtTree, Do, Empty, Block, If, IfElse, While, For, Break, Continue, Return, in_order, simple_tree, stmt_tree, stmt_trees, Context, AreStmtsScoped, scope_after, Stmt, drop_at, item_of, part_item, whole_item, test_item, step_item, loop_of, condition_of, step_of, stacked, to_do, HasPart, IsWhole, IsGiven, IsItem, AreItems, IsScoped, IsTaken, IsPassing, entered, Item, Part}
use Rattle.c_tree.specs.declared.statements.Simple.{Simple}
use Rattle.c_mean.specs.ToDo as todo
use Rattle.c_mean.specs.ToDo.{Loop}
use Rattle.source_items.specs.declared.items.Part.TheVariants as part

-- one item more is the next one
pub stacked-push : (items : List Item) (item : Item) (rest : List todo.Item) → stacked (items ++ item ∷ []) rest ≡ item_of item ∷ stacked items rest
stacked-push [] item rest = refl
stacked-push (x ∷ xs) item rest = stacked-push xs item (item_of x ∷ rest)

pub to_do-push : (items : List Item) (item : Item) → to_do (items ++ item ∷ []) ≡ item_of item ∷ to_do items
to_do-push items item = stacked-push items item []

pub items-pop : (c : Context) (items : List Item) (item : Item) → AreItems c (items ++ item ∷ []) → AreItems c items × IsItem c item
items-pop c [] item all = (tt, all.0)
items-pop c (x ∷ xs) item all = let both = items-pop c xs item all.1 in ((all.0, both.0), both.1)

-- each statement of a list is well scoped, in the scope of those before it
pub stmt-scoped : (c : Context) (loop : Bool) (scope : List ℕ) (ss : List StmtTree) (k : ℕ) (d : StmtTree) → AreStmtsScoped c loop scope (in_order ss) → k < length ss → IsScoped c (slice_index_or ss k d)
stmt-scoped c loop scope [] k d all h = absurd (omega arith)
stmt-scoped c loop scope (s ∷ ss) zero d all h = record { loop = loop; scope = scope; scoped = all.0 }
stmt-scoped c loop scope (s ∷ ss) (suc k) d all h = stmt-scoped c loop (scope_after scope s) ss k d all.1 (omega arith)

-- a statement and those after it
pub before-cut : (ss : List Stmt) (k m : ℕ) (s : Stmt) (rest : List todo.Item) → m ≡ k + 1 → k < length ss → s ≡ get_or ss k s → todo.all_before (stmt_trees (drop k ss)) rest ≡ todo.before (stmt_tree s) (todo.all_before (stmt_trees (drop m ss)) rest)
before-cut ss k m s rest one h e = rw one (ap (λ (xs : List Stmt). todo.all_before (stmt_trees xs) rest) (drop_at ss k s h e))

-- the part of this number of a `for`'s start, and those after it
start-cut-suc : (ss : List Simple) (k : ℕ) (rest : List todo.Item) → k < length ss → map todo.Simply (map simple_tree (drop k ss)) ++ rest ≡ todo.Simply (slice_index_or (map simple_tree ss) k (DeclareScalar 0)) ∷ (map todo.Simply (map simple_tree (drop (suc k) ss)) ++ rest)
start-cut-suc [] k rest h = absurd (omega arith)
start-cut-suc (s ∷ ss) zero rest h = refl
start-cut-suc (s ∷ ss) (suc k) rest h = start-cut-suc ss k rest (omega arith)

pub start-cut : (ss : List Simple) (k m : ℕ) (rest : List todo.Item) → m ≡ suc k → k < length ss → map todo.Simply (map simple_tree (drop k ss)) ++ rest ≡ todo.Simply (slice_index_or (map simple_tree ss) k (DeclareScalar 0)) ∷ (map todo.Simply (map simple_tree (drop m ss)) ++ rest)
start-cut ss k m rest e h = rw e (start-cut-suc ss k rest h)

pub scoped-at : (c : Context) (loop : Bool) (scope : List ℕ) (ss : List Stmt) (k : ℕ) (s : Stmt) → AreStmtsScoped c loop scope (stmt_trees ss) → k < length ss → s ≡ get_or ss k s → IsScoped c (stmt_tree s)
scoped-at c loop scope ss k s all h e =
    let there : k < length (map stmt_tree ss) = omega (arith, length-map ss stmt_tree) in
    subst (IsScoped c) (get_or-map stmt_tree ss k s (stmt_tree s) h ∙ ap stmt_tree (sym e)) (stmt-scoped c loop scope (map stmt_tree ss) k (stmt_tree s) all there)

-- ---- items that jumps pass over

-- a part that is neither the mark of a turn nor a jump back
abbrev pub IsPlainPart : Part → Type 0
IsPlainPart part.Whole = Unit {0}
IsPlainPart (part.Start number) = Unit {0}
IsPlainPart part.Test = Unit {0}
IsPlainPart part.Enter = ⊥
IsPlainPart part.Step = Unit {0}
IsPlainPart part.Back = ⊥

leave-whole : (s : StmtTree) (n : ℕ) (rest : List todo.Item) → IsWhole s → todo.after_leave n (whole_item s ∷ rest) ≡ todo.after_leave n rest
leave-whole (Do s) n rest h = refl
leave-whole Empty n rest h = elim h [ ]
leave-whole (Block ss) n rest h = elim h [ ]
leave-whole (For init c step s) n rest h = elim h [ ]
leave-whole (If c s) n rest h = refl
leave-whole (IfElse c s r) n rest h = refl
leave-whole (While c s) n rest h = refl
leave-whole Break n rest h = refl
leave-whole Continue n rest h = refl
leave-whole (Return v) n rest h = refl

skip-whole : (s : StmtTree) (n : ℕ) (rest : List todo.Item) → IsWhole s → todo.after_skip n (whole_item s ∷ rest) ≡ todo.after_skip n rest
skip-whole (Do s) n rest h = refl
skip-whole Empty n rest h = elim h [ ]
skip-whole (Block ss) n rest h = elim h [ ]
skip-whole (For init c step s) n rest h = elim h [ ]
skip-whole (If c s) n rest h = refl
skip-whole (IfElse c s r) n rest h = refl
skip-whole (While c s) n rest h = refl
skip-whole Break n rest h = refl
skip-whole Continue n rest h = refl
skip-whole (Return v) n rest h = refl

leave-test : (e : Option ExprTree) (loop : Loop) (n : ℕ) (rest : List todo.Item) → IsGiven e → todo.after_leave n (test_item e loop ∷ rest) ≡ todo.after_leave n rest
leave-test None loop n rest h = elim h [ ]
leave-test (Some e) loop n rest h = refl

skip-test : (e : Option ExprTree) (loop : Loop) (n : ℕ) (rest : List todo.Item) → IsGiven e → todo.after_skip n (test_item e loop ∷ rest) ≡ todo.after_skip n rest
skip-test None loop n rest h = elim h [ ]
skip-test (Some e) loop n rest h = refl

leave-step : (s : Option SimpleTree) (n : ℕ) (rest : List todo.Item) → IsGiven s → todo.after_leave n (step_item s ∷ rest) ≡ todo.after_leave n rest
leave-step None n rest h = elim h [ ]
leave-step (Some s) n rest h = refl

skip-step : (s : Option SimpleTree) (n : ℕ) (rest : List todo.Item) → IsGiven s → todo.after_skip n (step_item s ∷ rest) ≡ todo.after_skip n rest
skip-step None n rest h = elim h [ ]
skip-step (Some s) n rest h = refl

pub leave-plain : (p : Part) (s : StmtTree) (n : ℕ) (rest : List todo.Item) → IsPlainPart p → HasPart p s → todo.after_leave n (part_item p s ∷ rest) ≡ todo.after_leave n rest
leave-plain part.Whole s n rest plain has = leave-whole s n rest has
leave-plain (part.Start number) s n rest plain has = refl
leave-plain part.Test s n rest plain has = leave-test (condition_of s) (loop_of s) n rest has
leave-plain part.Step s n rest plain has = leave-step (step_of s) n rest has
leave-plain _ s n rest plain has = elim plain [ ]

pub skip-plain : (p : Part) (s : StmtTree) (n : ℕ) (rest : List todo.Item) → IsPlainPart p → HasPart p s → todo.after_skip n (part_item p s ∷ rest) ≡ todo.after_skip n rest
skip-plain part.Whole s n rest plain has = skip-whole s n rest has
skip-plain (part.Start number) s n rest plain has = refl
skip-plain part.Test s n rest plain has = skip-test (condition_of s) (loop_of s) n rest has
skip-plain part.Step s n rest plain has = skip-step (step_of s) n rest has
skip-plain _ s n rest plain has = elim plain [ ]

-- an item is taken: what a jump passes over
pub passing-plain : (c : Context) (old now rest : List Item) (item : Item) (n : ℕ) → now ≡ rest ++ item ∷ [] → IsPlainPart item.part → IsPassing c old now n → IsPassing c old rest n
passing-plain c old now rest item n e plain p =
    let both = items-pop c rest item (subst (AreItems c) e p.fits) in
    let list : to_do now ≡ item_of item ∷ to_do rest = ap to_do e ∙ to_do-push rest item in
    record {
      leave = sym (leave-plain item.part _ n (to_do rest) plain both.1.has) ∙ (ap (todo.after_leave n) (sym list) ∙ p.leave);
      skip = sym (skip-plain item.part _ n (to_do rest) plain both.1.has) ∙ (ap (todo.after_skip n) (sym list) ∙ p.skip);
      fits = both.0;
    }

-- the mark of a turn is taken: that turn is begun
pub passing-enter : (c : Context) (old now rest : List Item) (item : Item) (n : ℕ) → now ≡ rest ++ item ∷ [] → item.part ≡ part.Enter → IsPassing c old now n → IsPassing c old rest (n + 1)
passing-enter c old now rest item n e enter p =
    let both = items-pop c rest item (subst (AreItems c) e p.fits) in
    let list : to_do now ≡ todo.Enter ∷ to_do rest = ap to_do e ∙ (to_do-push rest item ∙ ap (λ (q : Part). part_item q (stmt_tree item.stmt.now) ∷ to_do rest) enter) in
    rw add-one record {
      leave = ap (todo.after_leave n) (sym list) ∙ p.leave;
      skip = ap (todo.after_skip n) (sym list) ∙ p.skip;
      fits = both.0;
    }

-- a jump back is taken, of a turn that was begun on the way
pub passing-back : (c : Context) (old now rest : List Item) (item : Item) (n m : ℕ) → m ≡ suc n → now ≡ rest ++ item ∷ [] → item.part ≡ part.Back → IsPassing c old now m → IsPassing c old rest n
passing-back c old now rest item n m begun e back from =
    let p : IsPassing c old now (suc n) = subst (IsPassing c old now) begun from in
    let both = items-pop c rest item (subst (AreItems c) e p.fits) in
    let list : to_do now ≡ todo.Back (loop_of (stmt_tree item.stmt.now)) ∷ to_do rest = ap to_do e ∙ (to_do-push rest item ∙ ap (λ (q : Part). part_item q (stmt_tree item.stmt.now) ∷ to_do rest) back) in
    record {
      leave = ap (todo.after_leave (suc n)) (sym list) ∙ p.leave;
      skip = ap (todo.after_skip (suc n)) (sym list) ∙ p.skip;
      fits = both.0;
    }

-- the jump back of the innermost loop is taken
pub taken-back : (c : Context) (old now rest : List Item) (item : Item) → now ≡ rest ++ item ∷ [] → item.part ≡ part.Back → IsPassing c old now 0 → IsTaken c old rest (stmt_tree item.stmt.now)
taken-back c old now rest item e back p =
    let both = items-pop c rest item (subst (AreItems c) e p.fits) in
    let list : to_do now ≡ todo.Back (loop_of (stmt_tree item.stmt.now)) ∷ to_do rest = ap to_do e ∙ (to_do-push rest item ∙ ap (λ (q : Part). part_item q (stmt_tree item.stmt.now) ∷ to_do rest) back) in
    record {
      is_loop = subst (λ (q : Part). HasPart q (stmt_tree item.stmt.now)) back both.1.has;
      scoped = both.1.scoped;
      left = ap (todo.after_leave 0) (sym list) ∙ p.leave;
      skipped = sym p.skip ∙ ap (todo.after_skip 0) list;
      fits = both.0;
    }

-- nothing is left, and no jump back has come
pub passed-all : (c : Context) (old now : List Item) (n : ℕ) → now ≡ [] → IsPassing c old now n → (todo.after_leave 0 (to_do old) ≡ []) × (todo.after_skip 0 (to_do old) ≡ []) × (now ≡ [])
passed-all c old now n e p =
    let list : to_do now ≡ [] = ap to_do e in
    (sym p.leave ∙ ap (todo.after_leave n) list, sym p.skip ∙ ap (todo.after_skip n) list, e)

-- ---- the next item

entered-whole : (s : StmtTree) (rest : List todo.Item) → IsWhole s → entered (whole_item s ∷ rest) ≡ whole_item s ∷ rest
entered-whole (Do s) rest h = refl
entered-whole Empty rest h = elim h [ ]
entered-whole (Block ss) rest h = elim h [ ]
entered-whole (If c s) rest h = refl
entered-whole (IfElse c s r) rest h = refl
entered-whole (While c s) rest h = refl
entered-whole (For init c step s) rest h = elim h [ ]
entered-whole Break rest h = refl
entered-whole Continue rest h = refl
entered-whole (Return v) rest h = refl

entered-test : (e : Option ExprTree) (loop : Loop) (rest : List todo.Item) → IsGiven e → entered (test_item e loop ∷ rest) ≡ test_item e loop ∷ rest
entered-test None loop rest h = elim h [ ]
entered-test (Some e) loop rest h = refl

entered-step : (s : Option SimpleTree) (rest : List todo.Item) → IsGiven s → entered (step_item s ∷ rest) ≡ step_item s ∷ rest
entered-step None rest h = elim h [ ]
entered-step (Some s) rest h = refl

-- a part that is no mark
abbrev pub IsStepPart : Part → Type 0
IsStepPart part.Enter = ⊥
IsStepPart _ = Unit {0}

entered-part : (p : Part) (s : StmtTree) (rest : List todo.Item) → IsStepPart p → HasPart p s → entered (part_item p s ∷ rest) ≡ part_item p s ∷ rest
entered-part part.Whole s rest is has = entered-whole s rest has
entered-part part.Test s rest is has = entered-test (condition_of s) (loop_of s) rest has
entered-part part.Enter s rest is has = elim is [ ]
entered-part part.Step s rest is has = entered-step (step_of s) rest has
entered-part _ s rest is has = refl

-- an item is taken that is no mark
pub taken-item : (c : Context) (old now rest : List Item) (item : Item) → now ≡ rest ++ item ∷ [] → IsStepPart item.part → entered (to_do now) ≡ entered (to_do old) → AreItems c now →
    (entered (to_do old) ≡ item_of item ∷ to_do rest) × IsItem c item × AreItems c rest
taken-item c old now rest item e is same fits =
    let both = items-pop c rest item (subst (AreItems c) e fits) in
    (sym same ∙ (ap (λ (xs : List Item). entered (to_do xs)) e ∙ (ap entered (to_do-push rest item) ∙ entered-part item.part _ (to_do rest) is both.1.has)), both.1, both.0)

-- a mark is taken
pub taken-mark : (now rest : List Item) (item : Item) → now ≡ rest ++ item ∷ [] → item.part ≡ part.Enter → entered (to_do rest) ≡ entered (to_do now)
taken-mark now rest item e enter =
    sym (ap (λ (xs : List Item). entered (to_do xs)) e ∙ ap entered (to_do-push rest item ∙ ap (λ (q : Part). part_item q (stmt_tree item.stmt.now) ∷ to_do rest) enter))

pub kept-pop : (c : Context) (now rest : List Item) (item : Item) → now ≡ rest ++ item ∷ [] → AreItems c now → AreItems c rest
kept-pop c now rest item e fits = (items-pop c rest item (subst (AreItems c) e fits)).0

-- what is left where a jump back was taken, or none was there
pub taken-left : {S : Type 0} (c : Context) (old new : List Item) (tree : S → StmtTree) (r : Option S) →
    MatchOption r ((todo.after_leave 0 (to_do old) ≡ []) × (todo.after_skip 0 (to_do old) ≡ []) × (new ≡ [])) (λ s. IsTaken c old new (tree s)) →
    (to_do new ≡ todo.after_leave 0 (to_do old)) × AreItems c new
taken-left c old new tree None p = (ap to_do p.2 ∙ sym p.0, subst (AreItems c) (sym p.2) (tt {0}))
taken-left c old new tree (Some s) p = (p.left, p.fits)

-- ---- the item at a place, of a list of references

get-beyond : {A B : Type 0} (f : A → B) (xs : List A) (k : ℕ) → length xs ≤ k → None ≡ slice_get (map f xs) k
get-beyond f [] k h = refl
get-beyond f (x ∷ xs) zero h = absurd (omega arith)
get-beyond f (x ∷ xs) (suc k) h = get-beyond f xs k (omega arith)

get-there : {A B : Type 0} (f : A → B) (xs : List A) (k : ℕ) (a : A) → k < length xs → a ≡ get_or xs k a → Some (f a) ≡ slice_get (map f xs) k
get-there f [] k a h e = absurd (omega arith)
get-there f (x ∷ xs) zero a h e = ap (λ y. Some (f y)) e
get-there f (x ∷ xs) (suc k) a h e = get-there f xs k a (omega arith) e

pub get-item : {A B : Type 0} (f : A → B) (xs : List A) (k : ℕ) (r : Option (Bor A)) (Q : Bor A → Type 0) → IfSome r (λ (s : Bor A). s.now ≡ get_or xs k s.now) →
    MatchOption r (length xs ≤ k) (λ (s : Bor A). (k < length xs) × Q s) → option_map (λ (s : Bor A). f s.now) r ≡ slice_get (map f xs) k
get-item f xs k None Q is h = get-beyond f xs k h
get-item f xs k (Some s) Q is h = get-there f xs k s.now h.0 is
