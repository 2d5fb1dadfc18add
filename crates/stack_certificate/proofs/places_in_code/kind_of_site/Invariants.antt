use Rattle.stack_certificate.proofs.Common.{◌≡◌, drop, kind_in}
use Rattle.stack_certificate.proofs.places_in_code.kind_of_site.Given as goal

abbrev pub invariant-loop-fact : goal.invariant-loop-fact
invariant-loop-fact l = record {
  items : l.fact-items ≡ l.certificate.sites;
  kind : kind_in l.certificate.sites l.site ≡ kind_in (drop l.fact-index l.certificate.sites) l.site;
}
