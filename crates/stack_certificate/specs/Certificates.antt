-- The facts of functions and sites in a certificate, and the addresses that code names.
use Rattle.std.specs.Prelude.{ℕ, ◌+◌, ◌*◌, Bool, true, false, nat_eq, List, [], ◌∷◌, length, map, sum_by, take, slice_index, slice_index_or}
use Rattle.flat_code.specs.Codes.{FlatCode}
use Rattle.stack_certificate.specs.declared.certificates.Certificate.{Certificate}
use Rattle.stack_certificate.specs.declared.functions.FunctionFact.{FunctionFact}
use Rattle.stack_certificate.specs.declared.sites.LinkKind.{LinkKind}
use Rattle.stack_certificate.specs.declared.sites.SiteFact.{SiteFact}

-- the fact of function f, which exists
abbrev pub fact_at : Certificate → ℕ → FunctionFact
fact_at certificate f = slice_index_or certificate.functions f (record { entry = 0; words = 0; frame = 0; ra = 0; bound = 0; places = [] })

-- the link kind of the first of two facts of sites if it is of this site, and otherwise that of the
-- rest
abbrev pub kind_or : Bool → LinkKind → LinkKind → LinkKind
kind_or true kind rest = kind
kind_or false kind rest = rest

-- the link kind of a site, by its first fact; a site without a fact is plain
abbrev pub kind_in : List SiteFact → ℕ → LinkKind
kind_in [] site = LinkKind.Plain
kind_in (fact ∷ facts) site = kind_or (nat_eq fact.number site) fact.kind (kind_in facts site)

-- the number of bytes that a link or a new thread needs
abbrev pub need_of : LinkKind → ℕ
need_of LinkKind.Plain = 0
need_of (LinkKind.Linked need) = need
need_of (LinkKind.Spawned need) = need

-- the address of the first word of global g: globals are one after another from 0x10000000
abbrev pub global_address : FlatCode → ℕ → ℕ
global_address code g = 0x10000000 + 4 * sum_by (λ x. x.words) (take g code.globals)

-- the address of the first word of table t: tables are one after another from 0x20000000
abbrev pub table_address : FlatCode → ℕ → ℕ
table_address code t = 0x20000000 + 4 * sum_by length (take t code.tables)

-- the size in words of global g, and the number of members of table t
abbrev pub global_words : FlatCode → ℕ → ℕ
global_words code g = slice_index (map (λ x. x.words) code.globals) g

abbrev pub member_count : FlatCode → ℕ → ℕ
member_count code t = slice_index (map length code.tables) t
