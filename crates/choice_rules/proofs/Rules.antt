-- The lawful choice where the rule is known.
use Rattle.choice_rules.proofs.Common.{◌≡◌, ℕ, List, sym, subst, Rule, by_graph, by_stride, Policy, Waiter, Seen, IsGraphChoice, IsStrideChoice, IsLawfulBy, IsLawful}

module _ (policy : Policy) (seen : Seen) (clock : ℕ) (chosen : Waiter) (rule_is : policy.rule ≡ by_graph) where
  pub lawful_by_graph : IsGraphChoice policy seen clock chosen → IsLawful policy seen clock chosen
  lawful_by_graph is = subst (λ (r : Rule). IsLawfulBy r policy seen clock chosen) (sym rule_is) is

  pub graph_choice_of : IsLawful policy seen clock chosen → IsGraphChoice policy seen clock chosen
  graph_choice_of is = subst (λ (r : Rule). IsLawfulBy r policy seen clock chosen) rule_is is

module _ (tickets : List (ℕ × ℕ)) (policy : Policy) (seen : Seen) (clock : ℕ) (chosen : Waiter) (rule_is : policy.rule ≡ by_stride tickets) where
  pub lawful_by_stride : IsStrideChoice tickets policy seen clock chosen → IsLawful policy seen clock chosen
  lawful_by_stride is = subst (λ (r : Rule). IsLawfulBy r policy seen clock chosen) (sym rule_is) is
