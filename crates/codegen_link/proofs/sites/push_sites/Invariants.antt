use Rattle.codegen_link.proofs.Common.{◌≡◌, ◌++◌, take, filter_map, function_at, program_code, site_fact}
use Rattle.codegen_link.proofs.sites.push_sites.Given as goal

abbrev pub invariant-loop-op : goal.invariant-loop-op
invariant-loop-op l = l.sites.items ≡ l.fn.sites.items ++ filter_map (site_fact (program_code l.flat) l.plan) (take l.op (function_at (program_code l.flat) l.function).ops)
