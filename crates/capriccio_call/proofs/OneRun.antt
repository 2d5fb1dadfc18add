-- A run of an accepted pair does one thing.
use Rattle.capriccio_call.proofs.Common.{◌≡◌, ℕ, ◌+◌, ◌*◌, ◌/◌, ◌%◌, ◌≤◌, List, Some, refl, sym, ◌∙◌, lowered, Setup, start_areas, AreWellFormed, Outcome, ShowsRun, shown_outcome, IsAccepted, RunsOn, run_outcome, chunk_fours}
use Rattle.chunk_pool.specs.Pool.{IsPool}
use Rattle.chunk_pool.proofs.PoolStart.{IsPool-start_bytes}
use Rattle.lawful_log.specs.Good.{checked_of}
use Rattle.log_laws.specs.One.{HasOneLog}
use Rattle.log_laws.proofs.Starting.{one_log}
use Rattle.segment_run.proofs.Forming.{areas_formed}
use Rattle.chunk_pool.proofs.ShapeLaws.{first_bytes-start}

-- the policy is in its ranges, and the pool in its limit
pub record IsInRange (g : Setup) : Type 0 where
  pub some_chunks : 1 ≤ g.policy.chunks
  pub chunks : g.policy.chunks ≤ 65536
  pub extra : g.policy.extra ≤ 65536
  pub extra_least : 32 ≤ g.policy.extra_bytes
  pub extra_most : g.policy.extra_bytes ≤ 65536
  pub extra_whole : g.policy.extra_bytes % 16 ≡ 0
  pub fuel : g.policy.fuel ≤ 1000000000
  pub pool : g.policy.chunks * g.certificate.chunk + g.policy.extra * g.policy.extra_bytes ≤ 67108864

-- the areas in which an accepted pair starts, where its chunks make a pool
pub pooled-areas : (g : Setup) → IsAccepted g → IsPool (start_areas g).pool → AreWellFormed (checked_of g) (start_areas g)
pooled-areas g ok pool =
    let sizes = ((ok.valid.holds 1 0 1).v1 refl).chunk refl in
    areas_formed (lowered g.program) g.image g.certificate (start_areas g) ok.valid pool ok.globals
    (first_bytes-start g.policy.chunks (g.certificate.chunk / 4) g.policy.extra (g.policy.extra_bytes / 4) ∙ chunk_fours g.certificate.chunk sizes.0) refl refl

pub areas-formed : (g : Setup) → IsAccepted g → IsInRange g → AreWellFormed (checked_of g) (start_areas g)
areas-formed g ok range =
    let sizes = ((ok.valid.holds 1 0 1).v1 refl).chunk refl in
    pooled-areas g ok
    (IsPool-start_bytes g.policy.chunks g.certificate.chunk g.policy.extra g.policy.extra_bytes range.some_chunks range.chunks sizes.1 sizes.2 sizes.0
    range.extra range.extra_least range.extra_most range.extra_whole range.pool)

-- there is one lawful log of it
one-run : (g : Setup) (trace : List ℕ) → IsAccepted g → IsInRange g → HasOneLog g trace
one-run g trace ok range = one_log g ok.scoped ok.valid (areas-formed g ok range) range.fuel trace

-- two outcomes of a run on a told trace have one status and one line
pub one-outcome : (g : Setup) (trace : List ℕ) (a b : Outcome) → IsInRange g → RunsOn (Some trace) g a → RunsOn (Some trace) g b → a ≡ b
one-outcome g trace a b range h k =
    let one = one-run g trace h.0 range in
    let first = one.only h.1 h.2 h.3 h.4.lawful in
    let second = one.only k.1 k.2 k.3 k.4.lawful in
    let entries : h.1 ≡ k.1 = first.0 ∙ sym second.0 in
    let stops : h.2 ≡ k.2 = first.1.0 ∙ sym second.1.0 in
    let ends : h.3 ≡ k.3 = first.1.1 ∙ sym second.1.1 in
    h.5 ∙ ((λ j. run_outcome g (entries j) (stops j) (ends j)) ∙ sym k.5)

-- the same of what `demo` shows of it
pub one-shown : (g : Setup) (trace : List ℕ) (a b : Outcome) → IsInRange g → ShowsRun trace g a → ShowsRun trace g b → a ≡ b
one-shown g trace a b range h k =
    let one = one-run g trace h.0 range in
    let first = one.only h.1 h.2 h.3 h.4.lawful in
    let second = one.only k.1 k.2 k.3 k.4.lawful in
    let entries : h.1 ≡ k.1 = first.0 ∙ sym second.0 in
    let stops : h.2 ≡ k.2 = first.1.0 ∙ sym second.1.0 in
    let ends : h.3 ≡ k.3 = first.1.1 ∙ sym second.1.1 in
    h.5 ∙ ((λ j. shown_outcome g (entries j) (stops j) (ends j)) ∙ sym k.5)
