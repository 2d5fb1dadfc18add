use Rattle.codegen_link.proofs.Common.{rules, IsNonDecreasingBy, IsPermutation, IsNonDecreasingBy-from_sort_by_key, program_code, SiteFact, site_facts}
use Rattle.codegen_link.proofs.SiteLemmas.{rising}
use Rattle.codegen_link.proofs.sites.sites_of.Goals as goal

pub returns-clause-increasing : goal.returns-clause-increasing
returns-clause-increasing c =
    let up : IsNonDecreasingBy (λ (s : SiteFact). s.number) c.sort_by_key.new.self.items =
    IsNonDecreasingBy-from_sort_by_key (λ (s : SiteFact). s.number) _ c.in_ok-sort_by_key.ensures.sorted (λ a r q k. search rules) in
    let permutation : IsPermutation (site_facts (program_code c.args.flat.now) c.args.plan.now) c.sort_by_key.new.self.items =
    rw c.in_ok-sites.ensures at c.sort_by_key.ensures.permutation in
    rising (program_code c.args.flat.now) c.args.plan.now c.sort_by_key.new.self.items c.args.flat.now.well_formed permutation up
