-- Rest, where the chunks of a chain have the words that they had.
use Rattle.segment_laws.proofs.Common.{◌≡◌, ℕ, ◌+◌, List, [], ◌∷◌, Option, Some, refl, sym, ◌∙◌, AllByRecursion, Pool, chunk_of, shape_of, FlatFrame, Op, a0, Frame, HasFrames, Core, Checked, InPrologue, InOperation, variable_word, HoldArguments, HoldsCall, HoldsCallIn, HoldsVariables, IsAtCall, IsPastCall, IsResting, AtStart, AtCall, PastCall, AreFlatFrames, AreFlatAtStart, AreFlatPast, SourceThread, Starts, Waits, HoldsIndex, IsWaitingFrame, AreWaitingFrames, StandAtStart, StandAtCall, StandsFor, KeepsChunks, KeepsStack, RestsOn}
use Rattle.c_mean.specs.Frames as source
use Rattle.c_mean.specs.Frames.{Place, Nowhere, InLocal, InGlobal, InLocalElement, InGlobalElement, Returned, WaitingFrame, Waiting}
use Rattle.c_tree.specs.Trees.{ProgramTree}
use Rattle.machine_world.specs.Keys.{standing}
use Rattle.machine_world.specs.Places as places
use Rattle.machine_world.specs.StandsForWorld.{IsPast}
use Rattle.segment_laws.proofs.Frames.{word_in_same, has_frames}

module _ (c : Checked) (pool after : Pool) (shape : shape_of after ≡ shape_of pool) where
  abbrev Keeps : ℕ → Type 0
  Keeps chunk = chunk_of after chunk ≡ chunk_of pool chunk

  abbrev AllKept : List Frame → Type 0
  AllKept frames = AllByRecursion (λ (f : Frame). Keeps f.chunk) frames

  variable_same : (frame : Frame) (x k : ℕ) → Keeps frame.chunk → variable_word c after frame x k ≡ variable_word c pool frame x k
  variable_same frame x k kept = word_in_same c pool after shape frame.chunk _ kept

  -- ---- registers of a call

  arguments_stay : (core : Core) (frame : Frame) (register : ℕ) (args : List ℕ) → Keeps frame.chunk → HoldArguments c pool core frame register args → HoldArguments c after core frame register args
  arguments_stay core frame register [] kept h = tt
  arguments_stay core frame register (x ∷ args) kept h = (h.0 ∙ sym (variable_same frame x 0 kept), arguments_stay core frame (register + 1) args kept h.1)

  call_stays : (core : Core) (frames : List Frame) (op : Op) → AllKept frames → HoldsCallIn c pool core frames op → HoldsCallIn c after core frames op
  call_stays core [] op kept h = h
  call_stays core (frame ∷ below) op kept h = one op h
    where
      one : (op : Op) → HoldsCall c pool core frame op → HoldsCall c after core frame op
      one (Op.Model site d n args) h = (h.0, arguments_stay core frame a0 args kept.0 h.1)
      one (Op.Spawn site d f s) h = (h.0, h.1, h.2 ∙ sym (variable_same frame s 0 kept.0), h.3)
      one (Op.Call site d g args) h = absurd h
      one (Op.CallTable site d t i s) h = absurd h
      one (Op.Return s) h = absurd h
      one (Op.Const d x) h = absurd h
      one (Op.Copy d x) h = absurd h
      one (Op.Neg d x) h = absurd h
      one (Op.Not d x) h = absurd h
      one (Op.Flip d x) h = absurd h
      one (Op.Bin o d x y) h = absurd h
      one (Op.Zero x) h = absurd h
      one (Op.LoadGlobal d g) h = absurd h
      one (Op.StoreGlobal g x) h = absurd h
      one (Op.LoadLocal d x y) h = absurd h
      one (Op.LoadArray d x y) h = absurd h
      one (Op.StoreLocal d x y) h = absurd h
      one (Op.StoreArray d x y) h = absurd h
      one (Op.Jump to) h = absurd h
      one (Op.JumpZero x to) h = absurd h

  -- ---- frames of the source

  index_stays : (frame : Frame) (temporary : ℕ) (place : Place) → Keeps frame.chunk → HoldsIndex c pool frame temporary place → HoldsIndex c after frame temporary place
  index_stays frame temporary Nowhere kept h = tt
  index_stays frame temporary (InLocal x) kept h = tt
  index_stays frame temporary (InGlobal g) kept h = tt
  index_stays frame temporary (InLocalElement a i) kept h = variable_same frame temporary 0 kept ∙ h
  index_stays frame temporary (InGlobalElement a i) kept h = variable_same frame temporary 0 kept ∙ h
  index_stays frame temporary Returned kept h = tt

  waiting_stays : (program : ProgramTree) (frame : Frame) (op : Option Op) (waiting : WaitingFrame) → Keeps frame.chunk → IsWaitingFrame c program pool frame op waiting → IsWaitingFrame c program after frame op waiting
  waiting_stays program frame op waiting kept h = record {
    function = h.function;
    site = h.site;
    named = h.named;
    call = h.call;
    in_text = h.in_text;
    names = λ x k seen lt. variable_same frame x k kept ∙ h.names x k seen lt;
    index = index_stays frame _ waiting.place kept h.index;
  }

  all_waiting : (program : ProgramTree) (frames : List Frame) (waitings : List WaitingFrame) → AllKept frames → AreWaitingFrames c program pool frames waitings → AreWaitingFrames c program after frames waitings
  all_waiting program [] [] kept h = tt
  all_waiting program (frame ∷ frames) (waiting ∷ waitings) kept h = (waiting_stays program frame (standing c frame) waiting kept.0 h.0, all_waiting program frames waitings kept.1 h.1)
  all_waiting program _ _ kept h = absurd h

  start_stays : (program : ProgramTree) (core : Core) (frames : List Frame) (starting : source.Frame) (waitings : List WaitingFrame) → AllKept frames → StandAtStart c program pool core frames starting waitings → StandAtStart c program after core frames starting waitings
  start_stays program core [] starting waitings kept h = h
  start_stays program core (frame ∷ frames) starting waitings kept h = (h.0, all_waiting program frames waitings kept.1 h.1)

  ask_stays : (program : ProgramTree) (op : Op) (frames : List Frame) (waiting : Waiting) → AllKept frames → StandAtCall c program pool op frames waiting → StandAtCall c program after op frames waiting
  ask_stays program op [] waiting kept h = h
  ask_stays program op (frame ∷ frames) waiting kept h = (waiting_stays program frame (Some op) waiting.front kept.0 h.0, all_waiting program frames waiting.below kept.1 h.1)

  -- ---- frames of flat code

  variables_stay : (frame : Frame) (flat : FlatFrame) → Keeps frame.chunk → HoldsVariables c pool frame flat → HoldsVariables c after frame flat
  variables_stay frame flat kept h x words set k lt = variable_same frame x k kept ∙ h x words set k lt

  flats_stay : (frames : List Frame) (flats : List FlatFrame) → AllKept frames → AreFlatFrames c pool frames flats → AreFlatFrames c after frames flats
  flats_stay [] [] kept h = tt
  flats_stay (frame ∷ frames) (flat ∷ flats) kept h =
      (record { function = h.0.function; operation = h.0.operation; shape = h.0.shape; variables = variables_stay frame flat kept.0 h.0.variables }, flats_stay frames flats kept.1 h.1)
  flats_stay _ _ kept h = absurd h

  flats_start : (core : Core) (frames : List Frame) (flats : List FlatFrame) → AllKept frames → AreFlatAtStart c pool core frames flats → AreFlatAtStart c after core frames flats
  flats_start core (frame ∷ frames) (flat ∷ flats) kept h = (h.0, flats_stay frames flats kept.1 h.1)
  flats_start core _ _ kept h = absurd h

  flats_past : (i : ℕ) (frames : List Frame) (flats : List FlatFrame) → AllKept frames → AreFlatPast c pool i frames flats → AreFlatPast c after i frames flats
  flats_past i (frame ∷ frames) (flat ∷ flats) kept h =
      (record { function = h.0.function; operation = h.0.operation; shape = h.0.shape; variables = variables_stay frame flat kept.0 h.0.variables }, flats_stay frames flats kept.1 h.1)
  flats_past i _ _ kept h = absurd h

-- ---- a thread

pub keeps_self : (core : Core) → KeepsStack core core
keeps_self core = record { pc = refl; chain = refl; returns = refl; stack = refl; front = refl }

abbrev AllStay : Pool → Pool → List Frame → Type 0
AllStay pool after frames = AllByRecursion (λ (f : Frame). chunk_of after f.chunk ≡ chunk_of pool f.chunk) frames

past_stands : (c : Checked) (pool after : Pool) (core core_now : Core) (f i : ℕ) (op : Op) (word : ℕ) (place : places.Place) (frames : List Frame) (old : IsPastCall c pool core f i op word place frames) (new : IsPastCall c after core_now f i op word place frames)
    → shape_of after ≡ shape_of pool → AllStay pool after frames → (program : ProgramTree) (thread : SourceThread) → StandsFor c program pool core (PastCall f i op word place frames old) thread → StandsFor c program after core_now (PastCall f i op word place frames new) thread
past_stands c pool after core core_now f i op word place frames old new shape kept program (Starts frame below) h = absurd h
past_stands c pool after core core_now f i op word place frames old new shape kept program (Waits waiting) h = ask_stays c pool after shape program op frames waiting kept h

past_rests : (c : Checked) (pool after : Pool) (core core_now : Core) (f i : ℕ) (op : Op) (word : ℕ) (place : places.Place) (frames : List Frame) (old : IsPastCall c pool core f i op word place frames) → KeepsChunks pool after core.chain → KeepsStack core core_now
    → RestsOn c pool core (PastCall f i op word place frames old) after core_now
past_rests c pool after core core_now f i op word place frames old kept same =
    let stays = has_frames c pool after core core_now place frames kept same old.frames_are in
    let new : IsPastCall c after core_now f i op word place frames = record { operation = old.operation; ecall = old.ecall; pc = same.pc ∙ old.pc; frames_are = stays.in_place } in
    record {
      rests = PastCall f i op word place frames new;
      past = λ h. tt;
      stands = past_stands c pool after core core_now f i op word place frames old new kept.shape stays.chunks;
      flat = λ flats h. flats_past c pool after kept.shape i frames flats stays.chunks h;
    }

call_stands : (c : Checked) (pool after : Pool) (core : Core) (f i : ℕ) (op : Op) (word : ℕ) (frames : List Frame) (old : IsAtCall c pool core f i op word frames) (new : IsAtCall c after core f i op word frames)
    → shape_of after ≡ shape_of pool → AllStay pool after frames → (program : ProgramTree) (thread : SourceThread) → StandsFor c program pool core (AtCall f i op word frames old) thread → StandsFor c program after core (AtCall f i op word frames new) thread
call_stands c pool after core f i op word frames old new shape kept program (Starts frame below) h = absurd h
call_stands c pool after core f i op word frames old new shape kept program (Waits waiting) h = ask_stays c pool after shape program op frames waiting kept h

start_stands : (c : Checked) (pool after : Pool) (core : Core) (f : ℕ) (frames : List Frame) (old : HasFrames c pool core (InPrologue f 0) frames) (new : HasFrames c after core (InPrologue f 0) frames)
    → shape_of after ≡ shape_of pool → AllStay pool after frames → (program : ProgramTree) (thread : SourceThread) → StandsFor c program pool core (AtStart f frames old) thread → StandsFor c program after core (AtStart f frames new) thread
start_stands c pool after core f frames old new shape kept program (Starts frame below) h = start_stays c pool after shape program core frames frame below kept h
start_stands c pool after core f frames old new shape kept program (Waits waiting) h = absurd h

pub rests_law : (c : Checked) (pool after : Pool) (core : Core) (rests : IsResting c pool core) → KeepsChunks pool after core.chain → RestsOn c pool core rests after core
rests_law c pool after core (AtStart f frames in_place) kept =
    let stays = has_frames c pool after core core (InPrologue f 0) frames kept (keeps_self core) in_place in
    record {
      rests = AtStart f frames stays.in_place;
      past = λ h. absurd h;
      stands = start_stands c pool after core f frames in_place stays.in_place kept.shape stays.chunks;
      flat = λ flats h. flats_start c pool after kept.shape core frames flats stays.chunks h;
    }
rests_law c pool after core (AtCall f i op word frames in_place) kept =
    let stays = has_frames c pool after core core (InOperation f i word) frames kept (keeps_self core) in_place.frames_are in
    let new : IsAtCall c after core f i op word frames = record { operation = in_place.operation; ecall = in_place.ecall; frames_are = stays.in_place; registers = call_stays c pool after kept.shape core frames op stays.chunks in_place.registers } in
    record {
      rests = AtCall f i op word frames new;
      past = λ h. absurd h;
      stands = call_stands c pool after core f i op word frames in_place new kept.shape stays.chunks;
      flat = λ flats h. flats_stay c pool after kept.shape frames flats stays.chunks h;
    }
rests_law c pool after core (PastCall f i op word place frames in_place) kept = past_rests c pool after core core f i op word place frames in_place kept (keeps_self core)

pub answered_law : (c : Checked) (pool after : Pool) (core core_now : Core) (rests : IsResting c pool core) → KeepsChunks pool after core.chain → KeepsStack core core_now → IsPast c pool core rests → RestsOn c pool core rests after core_now
answered_law c pool after core core_now (PastCall f i op word place frames in_place) kept same past = past_rests c pool after core core_now f i op word place frames in_place kept same
answered_law c pool after core core_now _ kept same past = absurd past
