-- The sites of a certificate: those at which a function or a table is called or a thread is started.
use Rattle.std.specs.Prelude.{◌≡◌, ℕ, max, Bool, true, false, IsTrue, nat_eq, List, [], ◌∷◌, map, Option, Some, None}
use Rattle.std.specs.List.{list_any}
use Rattle.std.specs.List.Sorted.{IsStrictlyIncreasing}
use Rattle.flat_code.specs.declared.operations.Op.{Op}
use Rattle.flat_code.specs.Codes.{FlatCode, operation_at, members_of}
use Rattle.stack_certificate.specs.declared.certificates.Certificate.{Certificate}
use Rattle.stack_certificate.specs.declared.sites.LinkKind.{LinkKind}
use Rattle.stack_certificate.specs.declared.sites.SiteFact.{SiteFact}
use Rattle.stack_certificate.specs.Certificates.{fact_at}
use Rattle.stack_certificate.specs.Templates.{kind_of}

-- the number of an operation's site, if it calls a function or a table or starts a thread
abbrev pub certified_site : Op → Option ℕ
certified_site (Op.Call site d f args) = Some site
certified_site (Op.CallTable site d t i s) = Some site
certified_site (Op.Spawn site d f s) = Some site
certified_site _ = None

-- whether an operation starts a thread
abbrev pub starts_thread : Op → Bool
starts_thread (Op.Spawn site d f s) = true
starts_thread _ = false

-- whether a site is certified as one that starts a thread
abbrev pub is_spawned : LinkKind → Bool
is_spawned (LinkKind.Spawned need) = true
is_spawned _ = false

-- the functions that an operation may enter: the one that it calls or starts, or each member of the table
abbrev pub callees_of : FlatCode → Op → List ℕ
callees_of code (Op.Call site d f args) = f ∷ []
callees_of code (Op.CallTable site d t i s) = members_of code t
callees_of code (Op.Spawn site d f s) = f ∷ []
callees_of code _ = []

-- the greatest bound of some functions, or 0 if there are none
abbrev pub greatest_bound : Certificate → List ℕ → ℕ
greatest_bound certificate [] = 0
greatest_bound certificate (f ∷ fs) = max (fact_at certificate f).bound (greatest_bound certificate fs)

-- the greatest bound of the functions that an operation may enter
abbrev pub callee_bound : FlatCode → Certificate → Op → ℕ
callee_bound code certificate op = greatest_bound certificate (callees_of code op)

-- ---- which sites a certificate names

-- whether a site is among the facts
abbrev pub is_named : List SiteFact → ℕ → Bool
is_named facts site = list_any (λ fact. nat_eq fact.number site) facts

-- whether an operation's site is that one
abbrev pub is_site : ℕ → Option ℕ → Bool
is_site site None = false
is_site site (Some number) = nat_eq number site

-- whether an operation of the program has that site
abbrev pub has_site : FlatCode → ℕ → Bool
has_site code site = list_any (λ f. list_any (λ op. is_site site (certified_site op)) f.ops) code.functions

-- the numbers of the sites of some facts
abbrev pub fact_numbers : List SiteFact → List ℕ
fact_numbers facts = map (λ fact. fact.number) facts

-- the certificate's sites, each once and with increasing numbers, are exactly those of the program at which a function
-- or a table is called or a thread is started, and exactly those that start a thread are marked `spawn`
pub record NamesSites (code : FlatCode) (certificate : Certificate) : Type 0 where
  pub rising : IsStrictlyIncreasing (fact_numbers certificate.sites)
  pub each : (f i site : ℕ) (op : Op) → operation_at code f i ≡ Some op → certified_site op ≡ Some site →
      IsTrue (is_named certificate.sites site) × (is_spawned (kind_of certificate op) ≡ starts_thread op)
  pub no_other : (site : ℕ) → IsTrue (is_named certificate.sites site) → IsTrue (has_site code site)
