-- How a thread of flat code goes on that stands for a source thread.
use Rattle.machine_meaning.proofs.Common.{◌≡◌, ℕ, ◌<◌, List, [], ◌∷◌, length, refl, lowered, function_at, pushed, ProgramTree, IsWellScoped, FlatFrame, MeansTheSame, SourceThread, Starts, Waits, going_on, FlatsStandFor, flat_going_on}
use Rattle.flat_code.specs.Frames as flat
use Rattle.machine_meaning.proofs.Meaning.{resumed_means, begun_means, started_starts}

pub goes_on : (program : ProgramTree) (thread : SourceThread) (frame : FlatFrame) (below : List FlatFrame) (result : ℕ) (globals : List (List ℕ)) → IsWellScoped program → FlatsStandFor program (frame ∷ below) thread
    → MeansTheSame program (going_on thread result globals) (flat_going_on (lowered program) thread frame below result globals)
goes_on program (Starts starting waitings) frame below result globals scoped h =
    begun_means program (record { frame = starting; below = waitings; globals = globals }) (record { frame = frame; below = below; globals = globals }) scoped (record { frame = h.0; below = h.1; globals = refl })
goes_on program (Waits waiting) frame below result globals scoped h =
    resumed_means program waiting (record { frame = frame; below = below }) (record { result = result; globals = globals }) scoped (record { front = h.0; below = h.1 })

pub starts : (program : ProgramTree) (function : ℕ) (arguments : List ℕ) → IsWellScoped program → function < length program.functions → length arguments ≡ (function_at program function).params
    → FlatsStandFor program (flat.pushed (lowered program) function arguments ∷ []) (Starts (pushed program function arguments) [])
starts program function arguments scoped there count = (let h = started_starts program function arguments [] scoped there count in (h.frame, h.below))
