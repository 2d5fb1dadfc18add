-- Where a thread is ready there is a lawful choice.
use Rattle.log_laws.proofs.Common.{◌≡◌, ◌≢◌, ℕ, ◌&&◌, ◌||◌, ◌⊎◌, inl, inr, Bool, true, false, List, [], ◌∷◌, Option, Some, None, find, refl, sym, ◌∙◌, subst, ⊎_elim, IsSome, IsTrue, AllByRecursion, list_any, cases_eq, is_ready, any_ready, last_choice, Waiter, Setup, State, seen_of, or_parts}
use Rattle.choice_rules.specs.Choice.{IsLawful, is_eligible, score_of}
use Rattle.choice_rules.specs.Policy.{Rule, by_graph, by_stride}
use Rattle.choice_rules.specs.Strides.{pass_of}
use Rattle.choice_rules.specs.Waiting.{at_node}
use Rattle.choice_rules.proofs.GraphChoices.{any_eligible, node_of_found, some_here, some_later}
use Rattle.choice_rules.proofs.Queues.{all_at_node}
use Rattle.choice_rules.proofs.Rules.{lawful_by_graph, lawful_by_stride}
use Rattle.choice_rules.proofs.Strides.{all_found, first_of as first_by_strides, found_passes}
use Rattle.scheduler.specs.Scores.{comes_before}
use Rattle.scheduler.proofs.OrderLemmas.{comes_before-asym, comes_before-total, comes_before-cotrans}

-- ---- queues

-- the first at a node that passes a test, with what holds of each that waits
record First (P : Waiter → Type 0) (test : Waiter → Bool) (node : ℕ) (first : Waiter) : Type 0 where
  node_is : first.node ≡ node
  passes : test first ≡ true
  holds : P first

first_of : (P : Waiter → Type 0) (test : Waiter → Bool) (node : ℕ) (waiting : List Waiter) (first : Waiter) → AllByRecursion P waiting →
    find test (at_node waiting node) ≡ Some first → First P test node first
first_of P test node waiting first all e = record {
  node_is = node_of_found waiting node test first e;
  passes = found_passes test (at_node waiting node) first e;
  holds = all_found P test (at_node waiting node) first (all_at_node P waiting node all) e;
}

is_some : {X : Type 0} (o : Option X) → IsSome o → (x : X) × (o ≡ Some x)
is_some None e = absurd (let no : false ≡ true = e in cc)
is_some (Some x) e = (x, refl)

module _ (g : Setup) (state : State) (clock : ℕ) where
  abbrev test : Waiter → Bool
  test = is_eligible g.policy (seen_of state) clock

  abbrev comes : ℕ → ℕ → Bool
  comes = comes_before (score_of g.policy (seen_of state)) (last_choice state.past.taken)

  -- ---- the node that comes first

  -- another eligible thread is at the same node, or at one that comes later
  abbrev IsBehind : ℕ → Waiter → Type 0
  IsBehind node other = test other ≡ true → (other.node ≡ node) ⊎ (comes node other.node ≡ true)

  record Best (waiting : List Waiter) : Type 0 where
    best : Waiter
    passes : test best ≡ true
    there : IsSome (find test (at_node waiting best.node))
    behind : AllByRecursion (IsBehind best.node) waiting

  none_behind : (node : ℕ) (waiting : List Waiter) → list_any test waiting ≡ false → AllByRecursion (IsBehind node) waiting
  none_behind node [] e = tt
  none_behind node (x ∷ xs) e =
      let parts : (test x ≡ false) × (list_any test xs ≡ false) = or_parts (test x) (list_any test xs) e in
      ((λ passing. absurd (let no : true ≡ false = sym passing ∙ parts.0 in cc)), none_behind node xs parts.1)

  -- an earlier node still has the others behind it
  earlier : (node best other : ℕ) → comes node best ≡ true → (other ≡ best) ⊎ (comes best other ≡ true) → comes node other ≡ true
  earlier node best other first (inl same) = subst (λ (n : ℕ). comes node n ≡ true) (sym same) first
  earlier node best other first (inr later) = by (comes node other) refl where
    by : (b : Bool) → comes node other ≡ b → comes node other ≡ true
    by true e = e
    by false e =
        let back : comes other best ≡ false = comes_before-asym (score_of g.policy (seen_of state)) (last_choice state.past.taken) best other later in
        let no : comes node best ≡ false = comes_before-cotrans (score_of g.policy (seen_of state)) (last_choice state.past.taken) node other best e back in
        absurd (let both : true ≡ false = sym first ∙ no in cc)

  all_earlier : (node best : ℕ) (waiting : List Waiter) → comes node best ≡ true → AllByRecursion (IsBehind best) waiting → AllByRecursion (IsBehind node) waiting
  all_earlier node best [] first all = tt
  all_earlier node best (x ∷ xs) first all = ((λ passing. inr (earlier node best x.node first (all.0 passing))), all_earlier node best xs first all.1)

  -- one more eligible thread beside the best
  compared : (x : Waiter) (xs : List Waiter) (b : Best xs) → test x ≡ true → (t : Bool) → comes b.best.node x.node ≡ t → Best (x ∷ xs)
  compared x xs b passing true e = record { best = b.best; passes = b.passes; there = some_later x xs b.best.node test b.there; behind = ((λ also. inr e), b.behind) }
  compared x xs b passing false e = ⊎_elim
      (λ (same : b.best.node ≡ x.node). let best : Best (x ∷ xs) = record { best = b.best; passes = b.passes; there = some_later x xs b.best.node test b.there; behind = ((λ also. inl (sym same)), b.behind) } in best)
      (λ apart.
      let first : comes x.node b.best.node ≡ true = comes_before-total (score_of g.policy (seen_of state))
      (last_choice state.past.taken) b.best.node x.node apart e in
      record { best = x; passes = passing; there = some_here x xs test passing; behind = ((λ also. inl refl), all_earlier x.node b.best.node xs first b.behind) })
      (cases_eq b.best.node x.node)

  best_by : (x : Waiter) (xs : List Waiter) (here later : Bool) → test x ≡ here → list_any test xs ≡ later → (here || later) ≡ true → (list_any test xs ≡ true → Best xs) → Best (x ∷ xs)
  best_by x xs true true e f some rest = let b = rest f in compared x xs b e (comes b.best.node x.node) refl
  best_by x xs true false e f some rest = record { best = x; passes = e; there = some_here x xs test e; behind = ((λ also. inl refl), none_behind x.node xs f) }
  best_by x xs false later e f some rest = let b = rest (f ∙ some) in
      record { best = b.best; passes = b.passes; there = some_later x xs b.best.node test b.there; behind = ((λ passing. absurd (let no : true ≡ false = sym passing ∙ e in cc)), b.behind) }

  best_of : (waiting : List Waiter) → list_any test waiting ≡ true → Best waiting
  best_of [] e = absurd (let no : false ≡ true = e in cc)
  best_of (x ∷ xs) e = best_by x xs (test x) (list_any test xs) refl refl e (best_of xs)

  -- ---- the choice

  pub record Chosen (P : Waiter → Type 0) : Type 0 where
    pub waiter : Waiter
    pub lawful : IsLawful g.policy (seen_of state) clock waiter
    pub ready : is_ready g.policy (seen_of state) clock waiter ≡ true
    pub holds : P waiter

  left_of : (a b : Bool) → (a && b) ≡ true → a ≡ true
  left_of true b e = refl
  left_of false b e = absurd (let no : false ≡ true = e in cc)

  behind_by : (node other : ℕ) (o : Waiter) → other ≢ node → o.node ≡ other → (o.node ≡ node) ⊎ (comes node o.node ≡ true) → IsTrue (comes node other)
  behind_by node other o apart is (inl same) = absurd (apart (sym is ∙ same))
  behind_by node other o apart is (inr later) = subst (λ (n : ℕ). comes node n ≡ true) is later

  graph_choice : (P : Waiter → Type 0) → g.policy.rule ≡ by_graph → AllByRecursion P state.waiting → any_ready g.policy (seen_of state) clock ≡ true → Chosen P
  graph_choice P rule_is all ready =
      let b = best_of state.waiting (any_eligible g.policy (seen_of state) clock ready) in
      let found = is_some (find test (at_node state.waiting b.best.node)) b.there in
      let first = first_of P test b.best.node state.waiting found.0 all found.1 in
      record {
        waiter = found.0;
        lawful = lawful_by_graph g.policy (seen_of state) clock found.0 rule_is (record {
          first = subst (λ (n : ℕ). find test (at_node state.waiting n) ≡ Some found.0) (sym first.node_is) found.1;
          least = λ other apart some.
              let o = is_some (find test (at_node state.waiting other)) some in
              let theirs = first_of (IsBehind b.best.node) test other state.waiting o.0 b.behind o.1 in
              subst (λ (n : ℕ). IsTrue (comes n other)) (sym first.node_is)
              (behind_by b.best.node other o.0 (λ same. apart (same ∙ sym first.node_is)) theirs.node_is (theirs.holds theirs.passes));
        });
        ready = left_of (is_ready g.policy (seen_of state) clock found.0) _ first.passes;
        holds = first.holds;
      }

  stride_choice : (tickets : List (ℕ × ℕ)) (P : Waiter → Type 0) → g.policy.rule ≡ by_stride tickets → AllByRecursion P state.waiting →
      any_ready g.policy (seen_of state) clock ≡ true → Chosen P
  stride_choice tickets P rule_is all ready =
      let f = first_by_strides test (pass_of tickets state.past.taken) state.waiting (any_eligible g.policy (seen_of state) clock ready) in
      record {
        waiter = f.first;
        lawful = lawful_by_stride tickets g.policy (seen_of state) clock f.first rule_is (record { first = f.found; least = f.behind });
        ready = left_of (is_ready g.policy (seen_of state) clock f.first) _ f.passes;
        holds = all_found P _ state.waiting f.first all f.found;
      }

  choice_by : (rule : Rule) → g.policy.rule ≡ rule → (P : Waiter → Type 0) → AllByRecursion P state.waiting →
      any_ready g.policy (seen_of state) clock ≡ true → Chosen P
  choice_by by_graph e P all ready = graph_choice P e all ready
  choice_by (by_stride tickets) e P all ready = stride_choice tickets P e all ready

  pub lawful_choice : (P : Waiter → Type 0) → AllByRecursion P state.waiting → any_ready g.policy (seen_of state) clock ≡ true → Chosen P
  lawful_choice P all ready = choice_by g.policy.rule refl P all ready
