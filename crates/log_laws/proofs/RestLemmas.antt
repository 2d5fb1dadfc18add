-- Where threads rest whose first functions are main or started by some site, and the machine threads that stand for them.
use Rattle.log_laws.proofs.Common.{◌≡◌, ℕ, zero, suc, List, [], ◌∷◌, ◌++◌, length, length-append, Option, Some, None, refl, sym, ap, subst, ◌∙◌, arith, slice_get, AllByRecursion, none-some, same_Some, IsRoot, Pool, FlatCode, Op, Frame, HasFrames, Core, Checked, Place, InPrologue, InOperation, IsResting, AtStart, AtCall, PastCall, Starts, Waits, AreWaitingFrames, StandAtStart, StandAtCall, StandsFor, Thread, last_function, first_waiting, IsFirst, Began, IsGrown, root_of, StartsAtRoot}
use Rattle.c_mean.specs.Frames.{Frame as SourceFrame, WaitingFrame, Waiting}
use Rattle.c_mean.specs.World.{Rest, Fresh, Blocked, Ended}
use Rattle.c_tree.specs.Trees.{ProgramTree}
use Rattle.machine_world.specs.StandsForWorld.{StandsForRest}

-- ---- lists

pub all-left : {X : Type 0} (P : X → Type 0) (xs ys : List X) → AllByRecursion P (xs ++ ys) → AllByRecursion P xs
all-left P [] ys all = tt
all-left P (x ∷ xs) ys all = (all.0, all-left P xs ys all.1)

pub all-get : {X : Type 0} (P : X → Type 0) (xs : List X) (n : ℕ) (x : X) → AllByRecursion P xs → slice_get xs n ≡ Some x → P x
all-get P [] n x all there = absurd (none-some x there)
all-get P (y ∷ xs) zero x all there = subst P (same_Some y x there) all.0
all-get P (y ∷ xs) (suc n) x all there = all-get P xs n x all.1 there

-- no thread was added where there are as many
pub none-added : (old new : List Rest) → IsGrown old new → length new ≡ length old → new ≡ old
none-added old new grown same = by grown.more grown.is
  where
    append_none : (xs : List Rest) → xs ++ [] ≡ xs
    append_none [] = refl
    append_none (x ∷ xs) = ap (λ (ys : List Rest). x ∷ ys) (append_none xs)

    by : (more : List Rest) → new ≡ old ++ more → new ≡ old
    by [] is = is ∙ append_none old
    by (x ∷ more) is =
        let long = length-append old (x ∷ more) in
        let whole : length new ≡ length (old ++ x ∷ more) = ap length is in
        absurd (omega (arith, long, whole, same))

-- ---- rests

module _ (code : FlatCode) where
  -- a thread that rests so started with main or a function that some site starts a thread with
  abbrev pub IsRootedRest : Rest → Type 0
  IsRootedRest (Fresh function arguments) = IsRoot code function
  IsRootedRest (Blocked block waiting) = IsRoot code (first_waiting waiting)
  IsRootedRest Ended = Unit {0}

  pub began-rooted : (f : ℕ) (rest : Rest) → Began f rest → IsRootedRest rest → IsRoot code f
  began-rooted f Ended began rooted = absurd began
  began-rooted f _ began rooted = subst (IsRoot code) (sym began) rooted

  pub first-rooted : (f : ℕ) (rest : Rest) → IsFirst f rest → IsRoot code f → IsRootedRest rest
  first-rooted f Ended first root = tt
  first-rooted f _ first root = subst (IsRoot code) first root

-- ---- machine threads

pub waiting-root : (c : Checked) (program : ProgramTree) (pool : Pool) (frame : Frame) (frames : List Frame) (f : ℕ) (waitings : List WaitingFrame) → frame.function ≡ f → AreWaitingFrames c program pool frames waitings → root_of frame frames ≡ last_function f waitings
waiting-root c program pool frame [] f [] e are = e
waiting-root c program pool frame (next ∷ frames) f (waiting ∷ waitings) e are = waiting-root c program pool next frames waiting.frame.function waitings are.0.function are.1
waiting-root c program pool frame _ f _ e are = absurd are

-- a thread that is in place and started with main or a function that some site starts a thread with
pub record IsRootedThread (c : Checked) (pool : Pool) (core : Core) : Type 0 where
  pub place : Place
  pub frames : List Frame
  pub in_place : HasFrames c pool core place frames
  pub root : StartsAtRoot c frames

module _ (c : Checked) (program : ProgramTree) (pool : Pool) where
  start-root : (core : Core) (frames : List Frame) (starting : SourceFrame) → StandAtStart c program pool core frames starting [] → IsRoot c.flat starting.function → StartsAtRoot c frames
  start-root core [] starting stands root = tt
  start-root core (frame ∷ frames) starting stands root = subst (IsRoot c.flat) (sym (waiting-root c program pool frame frames starting.function [] stands.0.function stands.1)) root

  pub call-root : (op : Op) (frames : List Frame) (waiting : Waiting) → StandAtCall c program pool op frames waiting → IsRoot c.flat (first_waiting waiting) → StartsAtRoot c frames
  call-root op [] waiting stands root = tt
  call-root op (frame ∷ frames) waiting stands root =
      subst (IsRoot c.flat) (sym (waiting-root c program pool frame frames waiting.front.frame.function waiting.below stands.0.function stands.1)) root

  fresh-rooted : (core : Core) (rests : IsResting c pool core) (starting : SourceFrame) → StandsFor c program pool core rests (Starts starting []) → IsRoot c.flat starting.function → IsRootedThread c pool core
  fresh-rooted core (AtStart f frames in_place) starting stands root = record { place = InPrologue f 0; frames = frames; in_place = in_place; root = start-root core frames starting stands root }
  fresh-rooted core _ starting stands root = absurd stands

  blocked-rooted : (core : Core) (rests : IsResting c pool core) (waiting : Waiting) → StandsFor c program pool core rests (Waits waiting) → IsRoot c.flat (first_waiting waiting) → IsRootedThread c pool core
  blocked-rooted core (AtStart f frames in_place) waiting stands root = absurd stands
  blocked-rooted core (AtCall f i op word frames in_place) waiting stands root = record { place = InOperation f i word; frames = frames; in_place = in_place.frames_are; root = call-root op frames waiting stands root }
  blocked-rooted core (PastCall f i op word place frames in_place) waiting stands root = record { place = place; frames = frames; in_place = in_place.frames_are; root = call-root op frames waiting stands root }

  -- a machine thread that rests for a source thread
  pub rest-rooted : (o : Option Thread) (r : Option Rest) (t : Thread) → StandsForRest c program pool o r → o ≡ Some t → ((rest : Rest) → r ≡ Some rest → IsRootedRest c.flat rest) → IsRootedThread c pool t.core
  rest-rooted None r t stands e rooted = absurd (none-some t e)
  rest-rooted (Some u) (Some (Fresh function arguments)) t stands e rooted =
      subst (λ (x : Thread). IsRootedThread c pool x.core) (same_Some u t e) (fresh-rooted u.core stands.rests _ stands.stands (rooted (Fresh function arguments) refl))
  rest-rooted (Some u) (Some (Blocked block waiting)) t stands e rooted =
      subst (λ (x : Thread). IsRootedThread c pool x.core) (same_Some u t e) (blocked-rooted u.core stands.rests waiting stands.stands (rooted (Blocked block waiting) refl))
  rest-rooted (Some u) _ t stands e rooted = absurd stands
