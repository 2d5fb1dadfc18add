-- Threads of flat code that stand for threads of the source mean the same.
use Rattle.machine_meaning.proofs.Common.{◌≡◌, ℕ, zero, suc, ◌<◌, List, [], ◌∷◌, map, length, replicate, refl, sym, ap, ◌∙◌, subst, Question, Answer, Finish, ProgramTree, IsWellScoped, Running, Waiting, function_at, source_machine, source_resume, started, start_globals, FlatThread, FlatWaiting, End, Finished, Lost, flat_machine, flat_resume, finishing, finishing_move, lowered, lowered_global, MeansTheSame}
use Rattle.cap_word.specs.Runs.{Move, Goes, Asks, Stops, Machine, and_then, moves, Progress, Unfinished, Over, run, seen}
use Rattle.cap_word.proofs.Following.{Comes, comes, Came, came, RunComes, run_comes, run_came}
use Rattle.flat_code.specs.Step as flat_steps
use Rattle.machine_meaning.specs.StandsFor.{StandsFor, StartsAs}
use Rattle.machine_meaning.proofs.Frames.{Under, WaitUnder}
use Rattle.machine_meaning.proofs.Pushed.{pushed_holds}
use Rattle.machine_meaning.proofs.Lowered.{lowers}
use Rattle.machine_meaning.proofs.RelationKept.{sizes_length, wait_from, stand_from, start_from}
use Rattle.machine_meaning.proofs.Following.{follows}

-- ---- a machine and the same with its stops as ends

finishing_then : {S W Q : Type 0} (move : Move S W Q Finish) (f : S → Move S W Q Finish) (g : S → Move S W Q End) → ((s : S) → g s ≡ finishing_move (f s)) → and_then (finishing_move move) g ≡ finishing_move (and_then move f)
finishing_then (Goes next) f g h = h next
finishing_then _ f g h = refl

finishing_moves : {S W Q A : Type 0} (machine : Machine S W Q A Finish) (n : ℕ) (state : S) → moves (finishing machine) n state ≡ finishing_move (moves machine n state)
finishing_moves machine zero state = refl
finishing_moves machine (suc n) state = finishing_then (machine.step state) (moves machine n) (moves (finishing machine) n) (λ s. finishing_moves machine n s)

asks_back : {S W Q : Type 0} (move : Move S W Q Finish) (question : Q) (waiting : W) → finishing_move move ≡ Asks question waiting → move ≡ Asks question waiting
asks_back (Asks question' waiting') question waiting e = let same : question' ≡ question = cc in let other : waiting' ≡ waiting = cc in ap (λ q. Asks q waiting') same ∙ ap (λ w. Asks question w) other
asks_back _ question waiting e = absurd cc

stops_back : {S W Q : Type 0} (move : Move S W Q Finish) (finish : Finish) → finishing_move move ≡ Stops (Finished finish) → move ≡ Stops finish
stops_back (Stops finish') finish e = let same : finish' ≡ finish = cc in ap (λ f. Stops f) same
stops_back _ finish e = absurd cc

not_lost : {S W Q : Type 0} (move : Move S W Q Finish) → finishing_move move ≡ Stops Lost → ⊥
not_lost (Goes next) e = cc
not_lost _ e = cc

module _ (program : ProgramTree) (scoped : IsWellScoped program) where
  abbrev R : Running → FlatThread → Type 0
  R thread flat = Under program (lowered program) thread flat

  abbrev V : Waiting → FlatWaiting → Type 0
  V waiting flat = WaitUnder program (lowered program) waiting flat

  abbrev source : Machine Running Waiting Question Answer End
  source = finishing (source_machine program)

  abbrev flat_one : Machine FlatThread FlatWaiting Question Answer End
  flat_one = flat_machine (lowered program)

  came_at : (n : ℕ) (thread : Running) (flat : FlatThread) (move : Move FlatThread FlatWaiting Question End) → moves flat_one n flat ≡ move → R thread flat → Came R V source flat_one (follows program (lowered program) (lowers program scoped)) move thread
  came_at n thread flat move e u = subst (λ m. Came R V source flat_one (follows program (lowered program) (lowers program scoped)) m thread) e (came R V source flat_one (follows program (lowered program) (lowers program scoped)) n thread flat u)

  comes_at : (n : ℕ) (thread : Running) (flat : FlatThread) (move : Move Running Waiting Question Finish) → moves (source_machine program) n thread ≡ move → R thread flat
      → Comes R V source flat_one (follows program (lowered program) (lowers program scoped)) n (finishing_move move) flat
  comes_at n thread flat move e u =
      subst (λ m. Comes R V source flat_one (follows program (lowered program) (lowers program scoped)) n m flat) (finishing_moves (source_machine program) n thread ∙ ap (λ m. finishing_move m) e)
      (comes R V source flat_one (follows program (lowered program) (lowers program scoped)) n thread flat u)

  run_shown : (world : List Question → Answer) (n : ℕ) (asked : List Question) (thread : Running) (flat : FlatThread) (progress : Progress Running Question End) → run source world n asked thread ≡ progress
      → RunComes R V source flat_one (follows program (lowered program) (lowers program scoped)) world n progress asked flat
      → (m : ℕ) × (seen (run flat_one world m asked flat) ≡ seen (run source world n asked thread))
  run_shown world n asked thread flat (Unfinished asked' next) e h = (h.0, ap seen h.3 ∙ sym (ap seen e))
  run_shown world n asked thread flat (Over asked' end) e h = (h.0, ap seen h.1 ∙ sym (ap seen e))

  pub means : (thread : Running) (flat : FlatThread) → R thread flat → MeansTheSame program thread flat
  means thread flat u = record {
    asks = λ n question after e.
        let h = came_at n thread flat (Asks question after) e u in
        (h.0, h.1, asks_back (moves (source_machine program) h.0 thread) question h.1 (sym (finishing_moves (source_machine program) h.0 thread) ∙ h.2), stand_from program scoped h.1 after h.3);
    stops = λ n finish e.
        let h = came_at n thread flat (Stops (Finished finish)) e u in
        (h.0, stops_back (moves (source_machine program) h.0 thread) finish (sym (finishing_moves (source_machine program) h.0 thread) ∙ h.1));
    never_lost = λ n e.
        let h = came_at n thread flat (Stops Lost) e u in
        not_lost (moves (source_machine program) h.0 thread) (sym (finishing_moves (source_machine program) h.0 thread) ∙ h.1);
    is_asked = λ n question waiting e. let h = comes_at n thread flat (Asks question waiting) e u in (h.0, h.1, h.2, stand_from program scoped waiting h.1 h.3);
    is_stopped = λ n finish e. let h = comes_at n thread flat (Stops finish) e u in (h.0, h.1);
    goes_on = λ n next e. let h = comes_at n thread flat (Goes next) e u in (h.0, h.1, h.2, h.3);
    source_runs = λ world n asked. run_shown world n asked thread flat (run source world n asked thread) refl (run_comes R V source flat_one (follows program (lowered program) (lowers program scoped)) world n asked thread flat u);
    flat_runs = λ world m asked. run_came R V source flat_one (follows program (lowered program) (lowers program scoped)) world m asked thread flat u;
  }

pub resumed_means : (program : ProgramTree) (waiting : Waiting) (flat : FlatWaiting) (answer : Answer) → IsWellScoped program → StandsFor program waiting flat → MeansTheSame program (source_resume waiting answer) (flat_resume (lowered program) flat answer)
resumed_means program waiting flat answer scoped h =
    means program scoped (source_resume waiting answer) (flat_resume (lowered program) flat answer)
    ((follows program (lowered program) (lowers program scoped)).resumes waiting flat answer (wait_from program scoped waiting flat h))

pub begun_means : (program : ProgramTree) (thread : Running) (flat : FlatThread) → IsWellScoped program → StartsAs program thread flat → MeansTheSame program thread flat
begun_means program thread flat scoped h = means program scoped thread flat (start_from program scoped thread flat h)

pub started_starts : (program : ProgramTree) (f : ℕ) (arguments : List ℕ) (globals : List (List ℕ)) → IsWellScoped program → f < length program.functions → length arguments ≡ (function_at program f).params
    → StartsAs program (started program f arguments globals) (flat_steps.started (lowered program) f arguments globals)
started_starts program f arguments globals scoped lt e =
    let holds = pushed_holds program (lowered program) (lowers program scoped) f arguments lt e in
    record {
      frame = record {
        defined = lt;
        function = refl;
        next = refl;
        to_do = refl;
        names = holds.wide;
        variables = holds.long ∙ sym (sizes_length (function_at program f));
        scope = holds.reads;
      };
      below = tt;
      globals = refl;
    }

starts_alike : (gs : List Rattle.c_tree.specs.declared.facts.GlobalFact.GlobalFact) → map (λ (g : Rattle.flat_code.specs.declared.programs.FlatGlobal.FlatGlobal). replicate g.words g.start) (map lowered_global gs) ≡ map (λ (g : Rattle.c_tree.specs.declared.facts.GlobalFact.GlobalFact). replicate g.words g.start) gs
starts_alike [] = refl
starts_alike (g ∷ gs) = ap (λ rows. replicate g.words g.start ∷ rows) (starts_alike gs)

pub globals_start : (program : ProgramTree) → flat_steps.start_globals (lowered program) ≡ start_globals program
globals_start program = starts_alike program.globals
