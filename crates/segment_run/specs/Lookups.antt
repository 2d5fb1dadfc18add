-- A function by its entry.
use Rattle.std.specs.Prelude.{◌≡◌, ℕ, ◌<◌, length}
use Rattle.stack_certificate.specs.Certificates.{fact_at}
use Rattle.stack_certificate.specs.declared.certificates.Certificate.{Certificate}

pub record HasEntry (certificate : Certificate) (entry f : ℕ) : Type 0 where
  pub there : f < length certificate.functions
  pub entry_is : (fact_at certificate f).entry ≡ entry
