-- When a certificate names the site of an operation.
use Rattle.std.specs.Prelude.{◌≡◌, ℕ, IsTrue, List, Some}
use Rattle.flat_code.specs.declared.operations.Op.{Op}
use Rattle.stack_certificate.specs.declared.sites.SiteFact.{SiteFact}
use Rattle.stack_certificate.specs.Certificates.{kind_in}
use Rattle.certificate_rules.specs.Sites.{certified_site, is_named, is_spawned, starts_thread}

-- an operation's site, if it has one, has a fact, which is marked `spawn` exactly if the operation starts a
-- thread
abbrev pub IsNamedRight : List SiteFact → Op → Type 0
IsNamedRight facts op =
    (site : ℕ) → certified_site op ≡ Some site → IsTrue (is_named facts site) × (is_spawned (kind_in facts site) ≡ starts_thread op)
