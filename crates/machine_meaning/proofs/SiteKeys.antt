-- The sites of frames in place are the key of each source thread for which the machine thread stands.
use Rattle.machine_meaning.proofs.Common.{◌≡◌, ℕ, List, [], ◌∷◌, map, take, Option, Some, refl, ap, ◌∙◌, WaitingFrame, Waiting, ProgramTree, Pool, operation_at, Op, Frame, site_in, Core, Checked, IsResting, AtStart, AtCall, PastCall, StandsFor, Waits, AreWaitingFrames, StandAtCall, resting_key}
use Rattle.c_mean.specs.Frames as source
use Rattle.machine_world.specs.Keys.{with_site, sites_of, key_of}

sites_are : (c : Checked) (program : ProgramTree) (pool : Pool) (frames : List Frame) (waitings : List WaitingFrame) → AreWaitingFrames c program pool frames waitings → sites_of c frames ≡ map (λ w. w.site) waitings
sites_are c program pool [] [] h = refl
sites_are c program pool (frame ∷ frames) (waiting ∷ waitings) h =
    ap (λ (s : Option ℕ). with_site s (sites_of c frames)) h.0.site ∙ ap (λ (sites : List ℕ). waiting.site ∷ sites) (sites_are c program pool frames waitings h.1)
sites_are c program pool _ _ h = absurd h

call_key : (c : Checked) (program : ProgramTree) (pool : Pool) (f i : ℕ) (op : Op) (frames : List Frame) (waiting : Waiting) → operation_at c.flat f i ≡ Some op → StandAtCall c program pool op frames waiting → key_of c f i frames ≡ source.key_of waiting
call_key c program pool f i op [] waiting at h = absurd h
call_key c program pool f i op (frame ∷ below) waiting at h =
    ap (λ (s : Option ℕ). take 8 (with_site s (sites_of c below))) (ap site_in at ∙ h.0.site) ∙ ap (λ (sites : List ℕ). waiting.front.site ∷ take 7 sites) (sites_are c program pool below waiting.below h.1)

pub key_is : (c : Checked) (program : ProgramTree) (pool : Pool) (core : Core) (rests : IsResting c pool core) (waiting : Waiting) → StandsFor c program pool core rests (Waits waiting) → resting_key c pool core rests ≡ source.key_of waiting
key_is c program pool core (AtStart f frames in_place) waiting h = absurd h
key_is c program pool core (AtCall f i op word frames in_place) waiting h = call_key c program pool f i op frames waiting in_place.operation h
key_is c program pool core (PastCall f i op word place frames in_place) waiting h = call_key c program pool f i op frames waiting in_place.operation h
