use Rattle.decisions.proofs.Common.{inl, inr, program_of}
use Rattle.decisions.proofs.Scoping.{free_or_refused, resolved}
use Rattle.decisions.proofs.token_trees.tree_is_a_program_or_refused.Goals as goal

pub returns : goal.returns
returns c = λ tree. elim (free_or_refused tree) [ inl free ↦ inl (program_of tree, resolved tree free) | inr refused ↦ inr (refused.0, refused.1.0, refused.1.1) ]
