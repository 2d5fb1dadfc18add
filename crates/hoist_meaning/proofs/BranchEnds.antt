-- Branches that the rewriting adds: the step at their condition, and a branch that evaluates a part and sets the new name to what it makes of it.
use Rattle.hoist_meaning.proofs.Common.{ℕ, suc, ◌≡◌, ◌+◌, ◌<◌, ◌≤◌, sym, ap, subst, ◌∙◌, Bool, false, List, [], ◌∷◌, ◌++◌, arith, Ok, Err, width, with_word, TrapKind, RawExprTree, RawStmtTree, RawIf, RawIfElse, ProgramTree, Empty, HasNoCall, Value, value, on_one, Item, Binding, scalar_faults, expr_faults, expr_of, right_faults, variable_of, Spot, inside, stmt_of, stmt_numbered, both_none, new_name, used, set_to, names_in, left_of, in_block, before, left_whole}
use Rattle.deep_mean.specs.Evaluation.{Around, Done, and_then, evaluate, filled}
use Rattle.deep_mean.specs.Naming as deep
use Rattle.hoist_meaning.proofs.KnownSpawn.{AreFine, one_fine}
use Rattle.hoist_meaning.proofs.Bindings.{Agreement, New, in_tree}
use Rattle.hoist_meaning.proofs.Items.{items_of, after, items_both, taken_leads, passed_leads, choice_stops, at, stop_step}
use Rattle.hoist_meaning.proofs.Spots.{with_names, before_stands}
use Rattle.hoist_meaning.proofs.Extends.{extends_find, names_extend}
use Rattle.hoist_meaning.proofs.Ends.{Rows, NoCall, Comes, StopsAt, EndsAs, then_ends}
use Rattle.hoist_meaning.proofs.Premises.{in_branch, after_branch, IsPlaced, IsSound, Keeps, IsLeft}
use Rattle.hoist_meaning.proofs.Settled.{keeps_on, write_keeps, written, last_variable, used_value}
use Rattle.hoist_meaning.proofs.Parts.{plain_faults, sets, setting_stops, Evaluates}

-- what a new name is set to breaks no rule where the statement doesn't
pub set_fine : (gives loop : Bool) (d : Agreement) (u : Spot) (h : ℕ) (e : RawExprTree) → u.names ≡ in_tree d → HasNoCall e → AreFine gives loop u (set_to h e ∷ []) → expr_faults (in_tree d) e ≡ []
set_fine gives loop d u h e place quiet fine =
    let both = both_none (scalar_faults u.names (new_name h)) (right_faults u.names e) (one_fine gives loop u (set_to h e) fine) in
    ap (λ ds. expr_faults ds e) (sym place) ∙ sym (plain_faults u.names e quiet) ∙ both.1

module _ (program : ProgramTree) (ns : List ℕ) (f : ℕ) (text : Rows) where
  -- ---- the condition of an added branch

  pub branch_taken : (s : Spot) (c : RawExprTree) (xs : List RawStmtTree) (globals names : Rows) (n : ℕ) (rest : List Item) → value names globals (expr_of s.names c) ≡ Ok (suc n) →
      Comes program f text globals names (items_of ns s (RawIf c (in_block xs) ∷ []) rest) names (items_of ns (in_branch s) xs rest)
  branch_taken s c xs globals names n rest e = record { leads = λ below. taken_leads program f below globals names (expr_of s.names c) (stmt_numbered ns (stmt_of (inside s) (in_block xs))) Empty n rest e }

  pub branch_passed : (s : Spot) (c : RawExprTree) (xs : List RawStmtTree) (globals names : Rows) (rest : List Item) → value names globals (expr_of s.names c) ≡ Ok 0 → Comes program f text globals names (items_of ns s (RawIf c (in_block xs) ∷ []) rest) names rest
  branch_passed s c xs globals names rest e = record { leads = λ below. passed_leads program f below globals names (expr_of s.names c) (stmt_numbered ns (stmt_of (inside s) (in_block xs))) Empty rest e }

  pub first_taken : (s : Spot) (c : RawExprTree) (xs ys : List RawStmtTree) (globals names : Rows) (n : ℕ) (rest : List Item) → value names globals (expr_of s.names c) ≡ Ok (suc n) →
      Comes program f text globals names (items_of ns s (RawIfElse c (in_block xs) (in_block ys) ∷ []) rest) names (items_of ns (in_branch s) xs rest)
  first_taken s c xs ys globals names n rest e =
      record { leads = λ below. taken_leads program f below globals names (expr_of s.names c) (stmt_numbered ns (stmt_of (inside s) (in_block xs))) (stmt_numbered ns (stmt_of (inside (after_branch s xs)) (in_block ys))) n rest e }

  pub second_taken : (s : Spot) (c : RawExprTree) (xs ys : List RawStmtTree) (globals names : Rows) (rest : List Item) → value names globals (expr_of s.names c) ≡ Ok 0 →
      Comes program f text globals names (items_of ns s (RawIfElse c (in_block xs) (in_block ys) ∷ []) rest) names (items_of ns (in_branch (after_branch s xs)) ys rest)
  second_taken s c xs ys globals names rest e =
      record { leads = λ below. passed_leads program f below globals names (expr_of s.names c) (stmt_numbered ns (stmt_of (inside s) (in_block xs))) (stmt_numbered ns (stmt_of (inside (after_branch s xs)) (in_block ys))) rest e }

  pub choice_stopped : (s : Spot) (c : RawExprTree) (xs ys : List RawStmtTree) (globals names : Rows) (trap : TrapKind) (rest : List Item) → value names globals (expr_of s.names c) ≡ Err trap →
      StopsAt program f text globals names (items_of ns s (RawIfElse c (in_block xs) (in_block ys) ∷ []) rest) trap
  choice_stopped s c xs ys globals names trap rest e = record {
    stops = λ below.
        stop_step program (at program f below globals names (items_of ns s (RawIfElse c (in_block xs) (in_block ys) ∷ []) rest)) _
        (choice_stops program f below globals names trap (expr_of s.names c) (stmt_numbered ns (stmt_of (inside s) (in_block xs))) (stmt_numbered ns (stmt_of (inside (after_branch s xs)) (in_block ys))) rest e);
  }

  -- ---- a branch

  -- A part e within a branch, of whose value `made` makes the word that new name h, which is variable x, is set to.
  module _ (ds : List Binding) (gives loop : Bool) (e : RawExprTree) (whole : Evaluates program ns f text ds gives loop e) (around : Around) (made : ℕ → ℕ) (set : RawExprTree → RawExprTree) (quiet : (left : RawExprTree) → HasNoCall left → HasNoCall (set left))
      (sets_it : (names globals : Rows) (bs : List Binding) (left : RawExprTree) (outcome : Value) → value names globals (expr_of bs left) ≡ outcome → value names globals (expr_of bs (set left)) ≡ on_one made outcome)
      (fills : (globals : Rows) (word : ℕ) → filled text globals around word ≡ Done (made word)) where
    pub branch_ends : (strict : Bool) (b : Agreement) (h x k v v0 site : ℕ) (s : Spot) (globals start names : Rows) (rest : List Item) → h < k → x < v → v0 ≤ x → width names x ≡ 1 → Keeps v0 start names → IsPlaced text names ds (New h x b) v (names_in e) s →
        IsSound ns gives loop (New h x b) k v site e s →
        EndsAs program f text strict (IsLeft v0 (New h x b) (used h) start) NoCall rest globals names (items_of ns s (before k e ++ set_to h (set (left_of k e)) ∷ []) rest)
        (and_then (evaluate text globals (deep.expr_of ds site e)) around (filled text globals around))
    branch_ends strict b h x k v v0 site s globals start names rest p q less one kept placed sound =
        let B = New h x b in
        let d = with_names k v e B in
        let left = left_of k e in
        let u = after s (before k e) in
        let between = items_of ns u (set_to h (set left) ∷ []) rest in
        let place = before_stands B k v e s placed.place placed.few in
        let found = ap variable_of (extends_find k v (v + names_in e) B d h p (names_extend k v e B)) ∙ last_variable h x b in
        let Leaf = IsLeft v0 B (used h) start in
        subst (λ items. EndsAs program f text strict Leaf NoCall rest globals names items (and_then (evaluate text globals (deep.expr_of ds site e)) around (filled text globals around))) (sym (items_both ns s (before k e) (set_to h (set left) ∷ []) rest))
        (then_ends program f text strict Leaf NoCall rest (IsLeft v d left names) between around
        (λ others later word leaf.
        let last = with_word later x 0 (made word) in
        subst (λ ev. EndsAs program f text strict Leaf NoCall rest others later between ev) (sym (fills others word))
        (EndsAs.Valued others later between (made word) last
        (sets program ns f text d h x (made word) (set left) u others later rest place.names found (quiet left (left_whole k e)) (sets_it later others (in_tree d) left (Ok word) leaf.is))
        (record {
          keeps = keeps_on v0 x start later last less (keeps_on v0 v start names later (omega (arith, less, q)) kept leaf.keeps) (write_keeps x x (made word) later (omega arith));
          is = used_value (in_tree B) h x (made word) last others (last_variable h x b) (written later x (made word) (leaf.keeps.widths x ∙ one));
        })))
        (λ others later trap leaf.
        EndsAs.Stopped others later between trap (setting_stops program ns f text d h x trap (set left) u others later rest place.names found (quiet left (left_whole k e)) (sets_it later others (in_tree d) left (Err trap) leaf.is)))
        (whole false tt B k v site s globals names between placed sound))
