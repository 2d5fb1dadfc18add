-- What the machine is to flat code and what flat code is to the source make what the machine is to the source.
use Rattle.machine_meaning.proofs.Common.{◌≡◌, ℕ, ◌⊎◌, inl, inr, List, [], ◌∷◌, Option, Some, None, refl, sym, ap, ◌∙◌, subst, arith, Question, Finish, Goes, Asks, Stops, moves, lowered, WaitingFrame, Running, Waiting, SourceMove, source_machine, ProgramTree, IsWellScoped, IsValid, operation_at, result_place, FlatFrame, FlatThread, FlatWaiting, Finished, standing, with_result, FlatMove, flat_machine, answered, place_in, Op, MeansTheSame, a0, Local, LocalMove, Ended, Trapped, NoRoom, Wrong, local_step, Frame, IsResting, AtStart, AtCall, PastCall, IsPastCall, AreFlatPast, StandsForFlat, SourceThread, Starts, Waits, StandsForThread, StandsForFlatThread, going_on, read, AsksCall, HoldsWanted, HoldsResult, WaitsAsSource, IsStepAsSource, ReachesSource, RunsAsSource, Certificate, Image, AreBetween, FlatsStandFor, RestAlike, flat_going_on}
use Rattle.machine_meaning.specs.StandsFor.{StandsFor, FramesStandFor}
use Rattle.machine_world.specs.Local as local
use Rattle.machine_world.specs.Places.{Checked, Place, row_of, function_of}
use Rattle.segment_laws.specs.Alike.{last_flat, first_of as flat_first, IsCutMove, AsksTheSame, FindsNone, IsNeverLost, IsStepAlike, MayRun, ReachesAlike, RunsAlike, StopsAlike, WaitsAlike, running_on}
use Rattle.segment_laws.proofs.Firsts.{result-function}
use Rattle.machine_meaning.specs.Firsts.{last_function as source_last, first_of}
use Rattle.machine_meaning.proofs.FirstLemmas.{delivered-keeps}
use Rattle.machine_meaning.proofs.Going.{goes_on}
use Rattle.machine_meaning.proofs.BetweenLaws as between
use Rattle.machine_meaning.proofs.Past.{past_function}
use Rattle.machine_meaning.proofs.ExactlyBetween.{at_place, in_function}
use Rattle.machine_meaning.proofs.LastStep.{Asked, asked_last, called_by}

module _ (program : ProgramTree) (image : Image) (certificate : Certificate) (scoped : IsWellScoped program) (valid : IsValid (lowered program) image certificate) where
  abbrev checked : Checked
  checked = record { flat = lowered program; certificate = certificate }

  -- ---- at a call

  -- the machine asks the call
  asks_call : (op : Op) (question : local.Question) (asked : Question) (waiting : FlatWaiting) → Asked (lowered program) asked waiting → operation_at (lowered program) waiting.frame.function waiting.frame.next ≡ Some op → AsksTheSame checked op question asked.call → AsksCall checked op question asked.call
  asks_call (Op.Model site d n args) question asked waiting last at h = (let call = called_by (lowered program) asked waiting site n d args last at in (call.0, call.1, h))
  asks_call (Op.Spawn site d g x) question asked waiting last at h = h
  asks_call _ question asked waiting last at h = absurd h

  waits_source : (at : Local) (question : local.Question) (asked : Question) (waiting : Waiting) (flat : FlatWaiting) → Asked (lowered program) asked flat → StandsFor program waiting flat → WaitsAlike checked at question asked flat → WaitsAsSource checked program at question asked waiting
  waits_source at question asked waiting flat last stands h = record {
    function = flat.frame.function;
    operation = flat.frame.next;
    op = h.op;
    word = h.word;
    frames = h.frames;
    rests = h.rests;
    stands = between.up program checked image at.areas.pool at.core (AtCall flat.frame.function flat.frame.next h.op h.word h.frames h.rests) (Waits waiting) scoped refl valid
        (flat.frame ∷ flat.below, record { alike = tt; machine = h.stands; source = (stands.front, stands.below) });
    globals_are = h.globals_are;
    same = asks_call h.op question asked flat last h.rests.operation h.same;
  }

  module _ (running : Running) (t : FlatThread) (means : MeansTheSame program running t) where
    -- ---- from the machine

    ends_source : (at : Local) (end : local.End) → (n : ℕ) × (finish : Finish) × (moves (flat_machine (lowered program)) n t ≡ Stops (Finished finish)) × StopsAlike checked at end finish
        → (m : ℕ) × (finish : Finish) × (moves (source_machine program) m running ≡ Stops finish) × StopsAlike checked at end finish
    ends_source at end h = (let k = means.stops h.0 h.1 h.2 in (k.0, h.1, k.1, h.3))

    step_source : (at : Local) (move : LocalMove) → IsStepAlike checked t at move → IsStepAsSource checked program running at move
    step_source at (Goes next) h = tt
    step_source at (Asks question still) h =
        let k = means.asks h.1.0 h.1.1 h.1.2 h.1.3 in
        (h.0, (k.0, h.1.1, k.1, k.2, waits_source at question h.1.1 k.1 h.1.2 (asked_last (lowered program) h.1.0 t h.1.1 h.1.2 h.1.3) k.3 h.1.4))
    step_source at (Stops NoRoom) h = h
    step_source at (Stops (Ended areas)) h = ends_source at (Ended areas) h
    step_source at (Stops (Trapped kind)) h = ends_source at (Trapped kind) h
    step_source at (Stops Wrong) h = ends_source at Wrong h

    -- ---- from the source

    reaches_source : (code : List ℕ) (l : Local) (n : ℕ) (move : SourceMove) → moves (source_machine program) n running ≡ move → ((m : ℕ) → FindsNone code l ⊎ ReachesAlike checked code l m (moves (flat_machine (lowered program)) m t))
        → FindsNone code l ⊎ ReachesSource checked code program l n move
    reaches_source code l n (Goes next) e reaches =
        let k = means.goes_on n next e in
        elim (subst (λ (move : FlatMove). FindsNone code l ⊎ ReachesAlike checked code l k.0 move) k.3 (reaches k.0)) as (λ r. FindsNone code l ⊎ ReachesSource checked code program l n (Goes next)) [
          | inl none ↦ inl none
          | inr h ↦ inr (h.0, h.1, (let far = h.2 in omega (arith, k.2, far)), h.3)
        ]
    reaches_source code l n (Asks asked waiting) e reaches =
        let k = means.is_asked n asked waiting e in
        elim (subst (λ (move : FlatMove). FindsNone code l ⊎ ReachesAlike checked code l k.0 move) k.2 (reaches k.0)) as (λ r. FindsNone code l ⊎ ReachesSource checked code program l n (Asks asked waiting)) [
          | inl none ↦ inl none
          | inr h ↦ inr (h.0, h.1, h.2, h.3, h.4, waits_source h.1 h.2 asked waiting k.1 (asked_last (lowered program) k.0 t asked k.1 k.2) k.3 h.5)
        ]
    reaches_source code l n (Stops finish) e reaches =
        let k = means.is_stopped n finish e in
        elim (subst (λ (move : FlatMove). FindsNone code l ⊎ ReachesAlike checked code l k.0 move) k.1 (reaches k.0)) as (λ r. FindsNone code l ⊎ ReachesSource checked code program l n (Stops finish)) [
          | inl none ↦ inl none
          | inr h ↦ inr h
        ]

    pub runs_source : (code : List ℕ) (l : Local) → flat_first t ≡ first_of running → RunsAlike checked code l t → RunsAsSource checked code program l running
    runs_source code l same h = record {
      along = λ k at comes.
          let a = h.along k at comes in
          record {
            form = a.form;
            good = a.good;
            step = step_source at (local_step code at) a.step;
            cut = subst (λ (f : ℕ). IsCutMove checked f at (local_step code at)) same a.cut;
          };
      reaches = λ n. reaches_source code l n (moves (source_machine program) n running) refl h.reaches;
    }

  -- ---- from rest

  -- the running frame of a thread just past an ECALL stands at its operation
  past_standing : (l : Local) (f i : ℕ) (op : Op) (word : ℕ) (place : Place) (frames : List Frame) (in_place : IsPastCall checked l.areas.pool l.core f i op word place frames) (flat : FlatFrame) (flats : List FlatFrame) → AreFlatPast checked l.areas.pool i frames (flat ∷ flats)
      → standing (lowered program) flat ≡ Some op
  past_standing l f i op word place [] in_place flat flats h = absurd h
  past_standing l f i op word place (frame ∷ below) in_place flat flats h =
      let at = at_place checked l.areas.pool l.core place (row_of checked place) l.core.chain frame below in_place.frames_are.frames_are in
      let some = in_function checked l.areas.pool l.core place l.core.chain frame below in_place.frames_are.frames_are in
      let past : function_of place ≡ f = past_function program image certificate l.core.pc f i word op place scoped valid in_place.operation in_place.ecall in_place.pc in_place.frames_are.at some in
      let function : flat.function ≡ f = sym h.0.function ∙ at.function ∙ past in
      (λ k. operation_at (lowered program) (function k) (h.0.operation k)) ∙ in_place.operation

  wanted_same : (l : Local) (frame : FlatFrame) (d : Option ℕ) (result : ℕ) → HoldsWanted d l.core result → with_result frame d result ≡ with_result frame d (read l.core.x a0)
  wanted_same l frame None result h = refl
  wanted_same l frame (Some d) result h = ap (λ (v : ℕ). with_result frame (Some d) v) h

  answered_same : (l : Local) (frame : FlatFrame) (op : Op) (result : ℕ) → standing (lowered program) frame ≡ Some op → HoldsWanted (result_place op) l.core result → answered (lowered program) frame result ≡ answered (lowered program) frame (read l.core.x a0)
  answered_same l frame op result at h =
      ap (λ (o : Option Op). with_result frame (place_in o) result) at ∙ wanted_same l frame (result_place op) result h ∙ sym (ap (λ (o : Option Op). with_result frame (place_in o) (read l.core.x a0)) at)

  -- how the flat thread between the two goes on, in the words of either law
  running_same : (l : Local) (rests : IsResting checked l.areas.pool l.core) (thread : SourceThread) (globals : List (List ℕ)) (frame : FlatFrame) (below : List FlatFrame) (result : ℕ) → RestAlike checked l.areas.pool l.core rests thread → MayRun checked l.areas.pool l.core rests
      → HoldsResult checked l.areas.pool l.core rests result → StandsForFlat checked l.areas.pool l.core rests (frame ∷ below)
      → flat_going_on (lowered program) thread frame below result globals ≡ running_on checked l.areas.pool l.core rests (record { frame = frame; below = below; globals = globals })
  running_same l (AtStart f frames in_place) (Starts starting waitings) globals frame below result alike may holds stands = refl
  running_same l (AtCall f i op word frames in_place) thread globals frame below result alike may holds stands = absurd may
  running_same l (PastCall f i op word place frames in_place) (Waits waiting) globals frame below result alike may holds stands =
      ap (λ (flat : FlatFrame). record { frame = flat; below = below; globals = globals }) (answered_same l frame op result (past_standing l f i op word place frames in_place frame below stands) holds)
  running_same l _ _ globals frame below result alike may holds stands = absurd alike

  -- ---- the function with which both started

  waitings-first : (waitings : List WaitingFrame) (flats : List FlatFrame) (f g : ℕ) → f ≡ g → FramesStandFor program waitings flats → last_flat f flats ≡ source_last g waitings
  waitings-first [] [] f g e stand = e
  waitings-first (waiting ∷ waitings) (flat ∷ flats) f g e stand = waitings-first waitings flats flat.function waiting.frame.function stand.0.function stand.1
  waitings-first _ _ f g e stand = absurd stand

  between-first : (thread : SourceThread) (frame : FlatFrame) (below : List FlatFrame) (result : ℕ) (globals : List (List ℕ)) → FlatsStandFor program (frame ∷ below) thread → last_flat frame.function below ≡ first_of (going_on thread result globals)
  between-first (Starts starting waitings) frame below result globals stand = waitings-first waitings below frame.function starting.function stand.0.function stand.1
  between-first (Waits waiting) frame below result globals stand =
      waitings-first waiting.below below frame.function waiting.front.frame.function stand.0.function stand.1
      ∙ sym (delivered-keeps waiting.front waiting.below globals result)

  running-first : (l : Local) (rests : IsResting checked l.areas.pool l.core) (t : FlatThread) → flat_first (running_on checked l.areas.pool l.core rests t) ≡ flat_first t
  running-first l (PastCall f i op word place frames in_place) t =
      ap (λ (f : ℕ). last_flat f t.below) (result-function t.frame (place_in (standing (lowered program) t.frame)) (read l.core.x a0))
  running-first l _ t = refl

  -- what the law of flat code gives
  abbrev pub FlatLaw : Local → Type 0
  FlatLaw l = (t : FlatThread) → (stands : StandsForFlatThread checked l (t.frame ∷ t.below) t.globals) → MayRun checked l.areas.pool l.core stands.rests →
      IsNeverLost (lowered program) (running_on checked l.areas.pool l.core stands.rests t) → RunsAlike checked image.code l (running_on checked l.areas.pool l.core stands.rests t)

  pub rests_source : (l : Local) (thread : SourceThread) (globals : List (List ℕ)) (result : ℕ) → (stands : StandsForThread checked program l thread globals) → MayRun checked l.areas.pool l.core stands.rests → HoldsResult checked l.areas.pool l.core stands.rests result → FlatLaw l
      → RunsAsSource checked image.code program l (going_on thread result globals)
  rests_source l thread globals result stands may holds law = from_between (between.down program checked l.areas.pool l.core stands.rests thread scoped refl stands.stands)
    where
      from_between : (flats : List FlatFrame) × AreBetween checked program l.areas.pool l.core stands.rests thread flats → RunsAsSource checked image.code program l (going_on thread result globals)
      from_between ([], b) = absurd (b.source)
      from_between (frame ∷ below, b) =
          let t : FlatThread = record { frame = frame; below = below; globals = globals } in
          let same = running_same l stands.rests thread globals frame below result b.alike may holds b.machine in
          let means : MeansTheSame program (going_on thread result globals) (running_on checked l.areas.pool l.core stands.rests t) =
          subst (MeansTheSame program (going_on thread result globals)) same (goes_on program thread frame below result globals scoped b.source) in
          runs_source (going_on thread result globals) (running_on checked l.areas.pool l.core stands.rests t) means image.code l
          (running-first l stands.rests t ∙ between-first thread frame below result globals b.source)
          (law t (record { rests = stands.rests; stands = b.machine; globals_are = stands.globals_are }) may means.never_lost)
