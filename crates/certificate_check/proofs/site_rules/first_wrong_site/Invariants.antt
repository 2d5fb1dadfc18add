use Rattle.certificate_check.proofs.Common.{program_code, IsLeastSite}
use Rattle.certificate_check.proofs.site_rules.first_wrong_site.Given as goal

abbrev pub invariant-loop-op : goal.invariant-loop-op
invariant-loop-op l = IsLeastSite l.rule (program_code l.flat) l.certificate l.function l.op l.first
