-- What the clauses of an accepted program's calls say of it.
use Rattle.std.specs.Prelude.{◌≡◌, ◌%◌, ◌≤◌}
use Rattle.accepted_pairs.specs.Acceptance.{Acceptance}
use Rattle.accepted_pairs.specs.Accepting.{accepted_tree}
use Rattle.certificate_rules.specs.Validity.{IsValid}
use Rattle.c_lower.specs.ProgramCode.{lowered}

-- its image and certificate are valid, and its chunks have a possible size
pub record IsSound (accepted : Acceptance) : Type 0 where
  pub valid : IsValid (lowered (accepted_tree accepted)) accepted.image accepted.certificate
  pub aligned : accepted.certificate.chunk % 16 ≡ 0
  pub least : 64 ≤ accepted.certificate.chunk
  pub most : accepted.certificate.chunk ≤ 65536
