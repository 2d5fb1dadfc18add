-- A call, a call through a table, and a conditional, after the statements before their parts.
use Rattle.hoist_rules.proofs.Common.{ℕ, ◌+◌, ◌≡◌, refl, sym, ap, ◌∙◌, Bool, true, false, ◌||◌, List, [], ◌∷◌, ◌++◌, append_assoc, arith, NameTree, RawExprTree, RawExprTrees, RawConditional, RawCall, RawTableCall, RawStmtTree, RawIfElse, declared, declared_as, set_to, holds_call, is_spawn, names_in, arguments_names, part_after, left_of, arguments_left, call_left, index_left, argument_left, table_call_left, before, arguments_before, in_block, table_before, or_left, or_right, no_names, Received, then_all}
use Rattle.hoist_rules.specs.EarlierParts.{part_left, part_before}
use Rattle.hoist_rules.proofs.Followed.{then_then, then_pushed}

-- `w` is the expression, `s` what stood before it

pub call_pushed : (k n : ℕ) (b : Bool) (w call : RawExprTree) (name : NameTree) (es fs left : RawExprTrees) (s t u : Received) →
    w ≡ RawCall name es → b ≡ is_spawn name → fs ≡ es →
    left ≡ arguments_left b k fs → t ≡ then_all s (arguments_before b k fs) → n ≡ k + arguments_names b fs →
    call ≡ RawCall name left → u ≡ then_all t (declared_as n call ∷ []) → u ≡ then_all s (before k w)
call_pushed k n b w call name es fs left s t u hw hb hf hl ht hn hc hu =
    let made : call ≡ call_left k name es = hc ∙ ap (RawCall name) (hl ∙ (λ i. arguments_left (hb i) k (hf i))) in
    let number : n ≡ k + arguments_names (is_spawn name) es = hn ∙ (λ i. k + arguments_names (hb i) (hf i)) in
    let prior : t ≡ then_all s (arguments_before (is_spawn name) k es) = ht ∙ (λ i. then_all s (arguments_before (hb i) k (hf i))) in
    let named = declared_as (k + arguments_names (is_spawn name) es) (call_left k name es) in
    then_pushed s t u (arguments_before (is_spawn name) k es) (declared_as n call) named prior hu (λ i. declared_as (number i) (made i))
    ∙ ap (λ e. then_all s (before k e)) (sym hw)

-- the index and the argument are seen as `i1`, `e1` and `e2`
pub table_pushed : (k m n : ℕ) (b : Bool) (w call : RawExprTree) (name : NameTree) (i e i1 e1 e2 x y : RawExprTree) (s t u v : Received) →
    w ≡ RawTableCall name i e → e1 ≡ e → e2 ≡ e → i1 ≡ i → b ≡ holds_call e1 →
    x ≡ part_left b k i1 → t ≡ then_all s (part_before b k i1) → m ≡ part_after k b i1 →
    y ≡ left_of m e2 → u ≡ then_all t (before m e2) → n ≡ m + names_in e2 → call ≡ RawTableCall name x y → v ≡ then_all u (declared_as n call ∷ []) → v ≡ then_all s (before k w)
table_pushed k m n b w call name i e i1 e1 e2 x y s t u v hw h1 h2 hi hb hx ht hm hy hu hn hc hv =
    let calls : b ≡ holds_call e = hb ∙ ap holds_call h1 in
    let at : m ≡ part_after k (holds_call e) i = hm ∙ (λ j. part_after k (calls j) (hi j)) in
    let index : x ≡ index_left k i e = hx ∙ (λ j. part_left (calls j) k (hi j)) in
    let argument : y ≡ argument_left k i e = hy ∙ (λ j. left_of (at j) (h2 j)) in
    let made : call ≡ table_call_left k name i e = hc ∙ (λ j. RawTableCall name (index j) (argument j)) in
    let number : n ≡ part_after k (holds_call e) i + names_in e = hn ∙ (λ j. at j + names_in (h2 j)) in
    let part : List RawStmtTree = part_before (holds_call e) k i in
    let first : t ≡ then_all s part = ht ∙ (λ j. then_all s (part_before (calls j) k (hi j))) in
    let second : u ≡ then_all s (table_before k i e) = hu ∙ (λ j. then_all (first j) (before (at j) (h2 j))) ∙ then_then s part (before (part_after k (holds_call e) i) e) in
    let named = declared_as (part_after k (holds_call e) i + names_in e) (table_call_left k name i e) in
    then_pushed s u v (table_before k i e) (declared_as n call) named second hv (λ j. declared_as (number j) (made j))
    ∙ ap (λ z. then_all s (before k z)) (sym hw)

-- a conditional, one of whose chosen parts holds a call, after the name that both set; the condition is seen as `c1`, and the
-- two parts as `a1` and `a2`, `b1` and `b2`
pub chosen_pushed : (k n m o number : ℕ) (h : Bool) (w c a b c1 a1 a2 b1 b2 x : RawExprTree) (p q : RawStmtTree) (s t u v : Received) →
    w ≡ RawConditional c a b → c1 ≡ c → a1 ≡ a → a2 ≡ a → b1 ≡ b → b2 ≡ b → h ≡ (holds_call a1 || holds_call b1) → h ≡ true →
    x ≡ left_of k c1 → t ≡ then_all s (before k c1) → n ≡ k + names_in c1 →
    number ≡ n → u ≡ then_all t (declared n ∷ []) → m ≡ n + 1 →
    p ≡ in_block (before m a2 ++ set_to number (left_of m a2) ∷ []) → o ≡ m + names_in a2 →
    q ≡ in_block (before o b2 ++ set_to number (left_of o b2) ∷ []) → v ≡ then_all u (RawIfElse x p q ∷ []) → v ≡ then_all s (before k w)
chosen_pushed k n m o number h w c a b c1 a1 a2 b1 b2 x p q s t u v hw hc ha ha2 hb hb2 held some hx ht hn hnum hu hm hp ho hq hv =
    let calls : (holds_call a || holds_call b) ≡ true = (λ i. holds_call (sym ha i) || holds_call (sym hb i)) ∙ sym held ∙ some in
    let at : n ≡ k + names_in c = hn ∙ ap (λ e. k + names_in e) hc in
    let set : number ≡ k + names_in c = hnum ∙ at in
    let first : m ≡ k + names_in c + 1 = hm ∙ ap (λ j. j + 1) at in
    let second : o ≡ k + names_in c + 1 + names_in a = ho ∙ (λ i. first i + names_in (ha2 i)) in
    let condition : x ≡ left_of k c = hx ∙ ap (left_of k) hc in
    let one : p ≡ in_block (before (k + names_in c + 1) a ++ set_to (k + names_in c) (left_of (k + names_in c + 1) a) ∷ []) =
    hp ∙ (λ i. in_block (before (first i) (ha2 i) ++ set_to (set i) (left_of (first i) (ha2 i)) ∷ [])) in
    let other : q ≡ in_block (before (k + names_in c + 1 + names_in a) b ++ set_to (k + names_in c) (left_of (k + names_in c + 1 + names_in a) b) ∷ []) =
    hq ∙ (λ i. in_block (before (second i) (hb2 i) ++ set_to (set i) (left_of (second i) (hb2 i)) ∷ [])) in
    let d = declared (k + names_in c) in
    let r = RawIfElse (left_of k c)
    (in_block (before (k + names_in c + 1) a ++ set_to (k + names_in c) (left_of (k + names_in c + 1) a) ∷ []))
    (in_block (before (k + names_in c + 1 + names_in a) b ++ set_to (k + names_in c) (left_of (k + names_in c + 1 + names_in a) b) ∷ [])) in
    let prior : t ≡ then_all s (before k c) = ht ∙ (λ i. then_all s (before k (hc i))) in
    let named : u ≡ then_all s (before k c ++ d ∷ []) = hu ∙ (λ i. then_all (prior i) (declared (at i) ∷ [])) ∙ then_then s (before k c) (d ∷ []) in
    let all : before k (RawConditional c a b) ≡ before k c ++ d ∷ r ∷ [] = rw calls refl in
    hv ∙ (λ i. then_all (named i) (RawIfElse (condition i) (one i) (other i) ∷ [])) ∙ then_then s (before k c ++ d ∷ []) (r ∷ [])
    ∙ ap (then_all s) (append_assoc (before k c) (d ∷ []) (r ∷ []) ∙ sym all) ∙ ap (λ e. then_all s (before k e)) (sym hw)

-- the three parts are seen as `c1`, `a1` and `b1`
pub kept_names : (k n m o : ℕ) (h : Bool) (w c a b c1 a1 b1 : RawExprTree) →
    w ≡ RawConditional c a b → c1 ≡ c → a1 ≡ a → b1 ≡ b → h ≡ (holds_call a1 || holds_call b1) → h ≡ false → n ≡ k + names_in c1 → m ≡ n → o ≡ m → o ≡ k + names_in w
kept_names k n m o h w c a b c1 a1 b1 hw hc ha hb held none_held hn hm ho =
    let none : (holds_call a || holds_call b) ≡ false = (λ i. holds_call (sym ha i) || holds_call (sym hb i)) ∙ sym held ∙ none_held in
    let first = no_names a (or_left (holds_call a) (holds_call b) none) in
    let second = no_names b (or_right (holds_call a) (holds_call b) none) in
    let all : names_in (RawConditional c a b) ≡ names_in c + 0 + names_in a + names_in b = rw none refl in
    let number : n ≡ k + names_in c = hn ∙ ap (λ e. k + names_in e) hc in
    let sum : o ≡ k + (names_in c + 0 + names_in a + names_in b) = omega (arith, number, hm, ho, first, second) in
    sum ∙ ap (λ x. k + x) (sym all) ∙ ap (λ e. k + names_in e) (sym hw)
