-- Numbers that are some of others, in their order.
use Rattle.decisions.proofs.Common.{ℕ, ◌+◌, List, ◌++◌, eqb, IsDistinct, FlatCode, call_sites_from, site_numbers, part-distinct, part-functions}
pub use Rattle.call_graph.proofs.FlatLemmas.{IsPart, keep, none, numbers, skip}

pub part_append : {a b c d : List ℕ} → IsPart a b → IsPart c d → IsPart (a ++ c) (b ++ d)
part_append none q = q
part_append (keep p) q = keep (part_append p q)
part_append (skip p) q = skip (part_append p q)

-- the numbers of a program's call sites differ where those of its sites do
pub calls_distinct : (code : FlatCode) → IsDistinct eqb (site_numbers code) → IsDistinct eqb (numbers (call_sites_from 0 code.functions))
calls_distinct code distinct = part-distinct (numbers (call_sites_from 0 code.functions)) (site_numbers code) (part-functions 0 code.functions) distinct
