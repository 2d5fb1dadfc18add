-- A thread past the ECALL of its call goes on to stand for the source thread that waits there.
use Rattle.std.proofs.Common.{ℕ, List, [], ◌∷◌, Option, Some}
use Rattle.machine_meaning.proofs.Common.{WaitingFrame, Waiting, ProgramTree, Pool, result_place, Op, Frame, Core, passed, IsAtCall, IsPastCall, IsWaitingFrame, StandAtCall, CodeFacts, FollowsAsks}
use Rattle.machine_world.specs.Places.{Checked, Place}
use Rattle.segment_laws.proofs.Passing.{behind_by}
use Rattle.segment_laws.proofs.Finish.{frame_at}
use Rattle.std.proofs.Common.{refl}

pub record PastWaits (c : Checked) (program : ProgramTree) (pool : Pool) (core : Core) (f i : ℕ) (op : Op) (word : ℕ) (waiting : Waiting) : Type 0 where
  pub place : Place
  pub frames : List Frame
  pub past : IsPastCall c pool core f i op word place frames
  pub stands : StandAtCall c program pool op frames waiting

moved_waiting : (c : Checked) (program : ProgramTree) (pool : Pool) (frame : Frame) (j : ℕ) (op : Option Op) (waiting : WaitingFrame) → IsWaitingFrame c program pool frame op waiting → IsWaitingFrame c program pool (frame_at frame j) op waiting
moved_waiting c program pool frame j op waiting h = record { function = h.function; site = h.site; named = h.named; call = h.call; in_text = h.in_text; names = h.names; index = same_index waiting.place h.index }
  where
    same_index : (place : Rattle.c_mean.specs.Frames.Place) → Rattle.machine_world.specs.StandsFor.HoldsIndex c pool frame (Rattle.machine_world.specs.StandsFor.first_temporary program waiting.frame.function) place
        → Rattle.machine_world.specs.StandsFor.HoldsIndex c pool (frame_at frame j) (Rattle.machine_world.specs.StandsFor.first_temporary program waiting.frame.function) place
    same_index Rattle.c_mean.specs.Frames.Nowhere h = h
    same_index (Rattle.c_mean.specs.Frames.InLocal x) h = h
    same_index (Rattle.c_mean.specs.Frames.InGlobal g) h = h
    same_index (Rattle.c_mean.specs.Frames.InLocalElement a i) h = h
    same_index (Rattle.c_mean.specs.Frames.InGlobalElement a i) h = h
    same_index Rattle.c_mean.specs.Frames.Returned h = h

pub past_waits : (c : Checked) (code : List ℕ) (program : ProgramTree) (pool : Pool) (core : Core) (f i word : ℕ) (op : Op) (frames : List Frame) (waiting : Waiting) (result : Option ℕ) → CodeFacts c code → FollowsAsks c.flat → IsAtCall c pool core f i op word frames → StandAtCall c program pool op frames waiting
    → PastWaits c program pool (passed core result) f i op word waiting
past_waits c code program pool core f i word op [] waiting result facts follows at h = absurd h
past_waits c code program pool core f i word op (frame ∷ below) waiting result facts follows at h =
    let is = behind_by c code pool core f i word op frame below result (result_place op) facts follows at refl in
    record { place = is.place; frames = frame_at frame is.operation ∷ below; past = is.past; stands = (moved_waiting c program pool frame is.operation (Some op) waiting.front h.0, h.1) }
