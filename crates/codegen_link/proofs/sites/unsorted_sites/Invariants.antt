use Rattle.codegen_link.proofs.Common.{◌≡◌, take, filter_map, flat_map, program_code, site_fact}
use Rattle.codegen_link.proofs.sites.unsorted_sites.Given as goal

abbrev pub invariant-loop-function : goal.invariant-loop-function
invariant-loop-function l = l.sites.items ≡ flat_map (λ f. filter_map (site_fact (program_code l.flat) l.plan) f.ops) (take l.function (program_code l.flat).functions)
