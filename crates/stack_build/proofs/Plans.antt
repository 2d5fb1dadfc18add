-- What code may rely on in a plan is what the generator asks of it.
use Rattle.stack_build.proofs.Common.{◌≡◌, ◌<◌, ◌≤◌, ◌+◌, ℕ, Bool, true, false, length, refl, arith, Some, slice_index, FlatCode, function_at, operation_at, weight_of, Plan, IsEnough}
use Rattle.flat_code.specs.declared.operations.Op.{Op}
use Rattle.call_graph.specs.Lists.{has}
use Rattle.call_graph.specs.declared.sites.Target.TheVariants.{Function, Table}
use Rattle.stack_certificate.specs.declared.sites.LinkKind.{LinkKind}
use Rattle.codegen_link.specs.Links.{linked_if, link, need}
use Rattle.codegen_link.specs.Plans.{IsPlanFor}

-- a link that is plain isn't at a checkpoint
plain-link : (b : Bool) (bytes : ℕ) → linked_if b bytes ≡ LinkKind.Plain → b ≡ false
plain-link true bytes e = cc
plain-link false bytes e = refl

module _ (code : FlatCode) (max_path : ℕ) (plan : Plan) (h : IsEnough code max_path plan) where
  calls : (f i : ℕ) (op : Op) → f < length code.functions → operation_at code f i ≡ Some op → link code plan op ≡ LinkKind.Plain →
      weight_of (function_at code f).sizes + need code plan op ≤ slice_index plan.bounds f
  calls f i (Op.Call site d g args) there here plain =
      h.plain f i (Op.Call site d g args) (record { number = site; caller = f; target = Function g }) here refl (plain-link (has site plan.checkpointed) (need code plan (Op.Call site d g args)) plain)
  calls f i (Op.CallTable site d t k x) there here plain =
      h.plain f i (Op.CallTable site d t k x) (record { number = site; caller = f; target = Table t }) here refl (plain-link (has site plan.checkpointed) (need code plan (Op.CallTable site d t k x)) plain)
  calls f i (Op.Spawn site d g x) there here plain = cc
  calls f i op there here plain = omega (arith, h.bound f there)

  pub plan-for : IsPlanFor code plan max_path
  plan-for = record { each = h.each; rising = h.rising; frame = h.frame; bound = h.bound; most = h.most; plain = calls }
