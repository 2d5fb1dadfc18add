-- Where a segment ends at a call: the thread rests at its ECALL, pc is small there, and fuel is left.
use Rattle.std.proofs.Common.{◌≡◌, ℕ, ◌-◌, ◌^◌, ◌<◌, List, Option, sym, subst, arith}
use Rattle.cap_word.specs.declared.calls.Ask.{Ask}
use Rattle.cap_word.specs.declared.calls.Block.{Block}
use Rattle.c_lower.specs.ProgramCode.{lowered}
use Rattle.accepted_pairs.specs.Acceptance.{Acceptance}
use Rattle.accepted_pairs.specs.Accepting.{accepted_tree}
use Rattle.certificate_rules.specs.Validity.{IsValid}
use Rattle.flat_code.specs.declared.operations.Op.{Op}
use Rattle.machine_meaning.proofs.Formed.{formed}
use Rattle.machine_meaning.proofs.Zeroes.{program_zeroes}
use Rattle.machine_world.specs.Local.{Local, Question}
use Rattle.machine_world.specs.Places.{Checked, size_in}
use Rattle.machine_world.specs.Rests.{AtCall}
use Rattle.segment_laws.proofs.ValidFacts.{CodeFacts-valid}
use Rattle.segment_laws.specs.Facts.{CodeFacts}
use Rattle.machine_world.specs.Areas.{Areas}
use Rattle.segment_run.specs.Contexts.{checked_of, code_of, chain_from, local_of, IsOwned, IsReady}
use Rattle.segment_run.specs.Passing.{RestsAround, RestsBefore, RestsBehind}
use Rattle.segment_run.specs.declared.contexts.Context.{Context}
use Rattle.segment_run.specs.Safe.{RestsAtCall}
use Rattle.segment_run.specs.Segments.{IsAtAsk, IsAtModel, IsEnd, IsSegment}
use Rattle.segment_run.specs.declared.segments.Segment.{Segment}

-- a thread that stands at the ECALL of some operation
pub record AtSome (c : Checked) (l : Local) : Type 0 where
  pub op : Op
  pub rests : RestsAtCall c l op

pub before : (c : Checked) (l : Local) (op : Op) → RestsAtCall c l op → RestsBefore c l
before c l op r = record { rests = AtCall r.function r.operation op r.word r.frames r.at; before = tt }

pub around : (c : Checked) (l : Local) (op : Op) → RestsAtCall c l op → RestsAround c l.areas.pool l.core
around c l op r = record { rests = AtCall r.function r.operation op r.word r.frames r.at; around = tt }

pub small : (accepted : Acceptance) (l : Local) (op : Op) → IsValid (lowered (accepted_tree accepted)) accepted.image accepted.certificate → RestsAtCall (checked_of accepted) l op → l.core.pc < 2 ^ 32 - 4
small accepted l op valid rests =
    let facts : CodeFacts (checked_of accepted) (code_of accepted) = CodeFacts-valid (lowered (accepted_tree accepted)) accepted.image accepted.certificate
    (formed (accepted_tree accepted) accepted.image accepted.certificate accepted.program.well_scoped valid) (program_zeroes (accepted_tree accepted) accepted.program.well_scoped) valid in
    let stands = rests.at.frames_are.at in
    let room = (facts.operation rests.function rests.operation op stands.0 rests.at.operation).room in
    let within = subst (λ (o : Option Op). rests.word < size_in (checked_of accepted) rests.function o) rests.at.operation stands.1 in
    let is = stands.2 in
    omega (arith, room, within, is)

at_model : (c : Checked) (code : List ℕ) (l : Local) (question : Question) → IsAtModel c code l question → AtSome c l
at_model c code l question h = record { op = _; rests = h.rests }

at_ask : (c : Checked) (code : List ℕ) (l : Local) (ask : Ask) → IsAtAsk c code l ask → AtSome c l
at_ask c code l (Ask.Put value) h = record { op = _; rests = h.rests }
at_ask c code l _ h = record { op = _; rests = h.rests }

-- what is known where a segment ended at a call
pub record AtCallWithFuel (c : Checked) (l : Local) (left : ℕ) : Type 0 where
  pub op : Op
  pub rests : RestsAtCall c l op
  pub fuel : 0 < left

pub where_asked : (c : Checked) (code : List ℕ) (segment : Segment) (ask : Ask) (start l : Local) (all left : ℕ) →
    segment ≡ Segment.Asks ask → IsSegment c code segment start all l left → AtCallWithFuel c l left
where_asked c code segment ask start l all left e s =
    let end : IsEnd c code (Segment.Asks ask) s.at s.spare l left = subst (λ (x : Segment). IsEnd c code x s.at s.spare l left) e s.end in
    let at = at_ask c code s.at ask end.1 in
    record { op = at.op; rests = subst (λ (x : Local). RestsAtCall c x at.op) (sym end.2) at.rests; fuel = subst (λ (n : ℕ). 0 < n) (sym end.3) end.0 }

pub where_blocked : (c : Checked) (code : List ℕ) (segment : Segment) (block : Block) (start l : Local) (all left : ℕ) →
    segment ≡ Segment.Blocks block → IsSegment c code segment start all l left → AtCallWithFuel c l left
where_blocked c code segment block start l all left e s =
    let end : IsEnd c code (Segment.Blocks block) s.at s.spare l left = subst (λ (x : Segment). IsEnd c code x s.at s.spare l left) e s.end in
    let at = at_model c code s.at _ end.1 in
    record { op = at.op; rests = subst (λ (x : Local). RestsAtCall c x at.op) (sym end.2) at.rests; fuel = subst (λ (n : ℕ). 0 < n) (sym end.3) end.0 }

-- a context of the same chunks has the same chain
pub owned_still : (areas : Areas) (x y : Context) → y.chunk ≡ x.chunk → y.depth ≡ x.depth → IsOwned areas.pool (local_of areas x).core.chain → IsOwned areas.pool (local_of areas y).core.chain
owned_still areas x y chunk depth owned =
    subst (λ (n : ℕ). IsOwned areas.pool (chain_from areas.pool y.chunk n)) (sym depth) (subst (λ (k : ℕ). IsOwned areas.pool (chain_from areas.pool k x.depth)) (sym chunk) owned)

-- a thread behind its ECALL, on chunks of its own, is ready
pub ready : (accepted : Acceptance) (areas : Areas) (context : Context) → IsOwned areas.pool (local_of areas context).core.chain → RestsBehind (checked_of accepted) (code_of accepted) (local_of areas context) → IsReady (checked_of accepted) (code_of accepted) (local_of areas context)
ready accepted areas context owned behind = record { owned = owned; rests = behind.rests; behind = behind.no_ecall }
