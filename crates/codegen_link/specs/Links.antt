-- The link kinds of a program's calls, by a plan.
use Rattle.std.specs.Prelude.{ℕ, Bool, true, false, List, filter_map, flat_map, slice_index, Option, Some, None}
use Rattle.flat_code.specs.declared.operations.Op.{Op}
use Rattle.flat_code.specs.Codes.{FlatCode}
use Rattle.call_graph.specs.Callees.{greatest}
use Rattle.call_graph.specs.Lists.{has}
use Rattle.checkpoint_place.specs.declared.plans.Plan.{Plan}
use Rattle.stack_certificate.specs.declared.sites.LinkKind.{LinkKind}
use Rattle.stack_certificate.specs.declared.sites.SiteFact.{SiteFact}
use Rattle.certificate_rules.specs.Sites.{callees_of}

-- the greatest bound of the functions that a call or the start of a thread may enter
abbrev pub need : FlatCode → Plan → Op → ℕ
need code plan op = greatest (slice_index plan.bounds) (callees_of code op)

-- a call is linked if its site is checkpointed, and otherwise plain
abbrev pub linked_if : Bool → ℕ → LinkKind
linked_if true bytes = LinkKind.Linked bytes
linked_if false bytes = LinkKind.Plain

-- the link kind of an operation: a call of a function or a table links if the plan has a checkpoint there, and the
-- start of a thread is spawned
abbrev pub link : FlatCode → Plan → Op → LinkKind
link code plan (Op.Call site d f args) = linked_if (has site plan.checkpointed) (need code plan (Op.Call site d f args))
link code plan (Op.CallTable site d t i s) = linked_if (has site plan.checkpointed) (need code plan (Op.CallTable site d t i s))
link code plan (Op.Spawn site d f s) = LinkKind.Spawned (need code plan (Op.Spawn site d f s))
link code plan _ = LinkKind.Plain

-- the fact of an operation's site in a certificate: none for a modelled call
abbrev pub site_fact : FlatCode → Plan → Op → Option SiteFact
site_fact code plan (Op.Call site d f args) = Some (record { number = site; kind = link code plan (Op.Call site d f args) })
site_fact code plan (Op.CallTable site d t i s) = Some (record { number = site; kind = link code plan (Op.CallTable site d t i s) })
site_fact code plan (Op.Spawn site d f s) = Some (record { number = site; kind = link code plan (Op.Spawn site d f s) })
site_fact code plan _ = None

-- the facts of all sites, in the order of the text
abbrev pub site_facts : FlatCode → Plan → List SiteFact
site_facts code plan = flat_map (λ function. filter_map (site_fact code plan) function.ops) code.functions
