-- What a log is read against: a program, a policy, and the limit on steps of the source. The rule of the policy is the
-- priority rule.
use Rattle.std.specs.Prelude.{ℕ, ◌+◌}
use Rattle.c_tree.specs.Trees.{ProgramTree}
use Rattle.choice_rules.specs.Policy.{Policy}

pub record Given : Type 0 where
  pub program : ProgramTree
  pub policy : Policy
  pub most_steps : ℕ

-- the number of chunks
abbrev pub chunks_of : Given → ℕ
chunks_of g = g.policy.chunks + g.policy.extra
