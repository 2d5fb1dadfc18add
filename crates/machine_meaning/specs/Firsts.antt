-- The function with which a source thread started, and what a run of one thread keeps of all threads.
use Rattle.std.specs.Prelude.{◌≡◌, ℕ, ⊤, List, [], ◌∷◌, ◌++◌, Some, slice_get, slice_set}
use Rattle.c_mean.specs.Frames.{WaitingFrame, Running, Waiting}
use Rattle.c_mean.specs.World.{World, Segment, Rest, Fresh, Blocked, Ended}

-- the function of the last of some frames, the first of which is of this function
abbrev pub last_function : ℕ → List WaitingFrame → ℕ
last_function f [] = f
last_function f (waiting ∷ below) = last_function waiting.frame.function below

-- the function with which a thread started
abbrev pub first_of : Running → ℕ
first_of thread = last_function thread.frame.function thread.below

abbrev pub first_waiting : Waiting → ℕ
first_waiting waiting = last_function waiting.front.frame.function waiting.below

-- a thread at rest started with this function; one that has ended may have started with any
abbrev pub IsFirst : ℕ → Rest → Type 0
IsFirst f (Fresh function arguments) = f ≡ function
IsFirst f (Blocked block waiting) = f ≡ first_waiting waiting
IsFirst f Ended = ⊤

-- a thread that continues from this rest started with this function
abbrev pub Began : ℕ → Rest → Type 0
Began f (Fresh function arguments) = f ≡ function
Began f (Blocked block waiting) = f ≡ first_waiting waiting
Began f Ended = ⊥

-- threads were added after the existing ones
pub record IsGrown (old new : List Rest) : Type 0 where
  pub more : List Rest
  pub is : new ≡ old ++ more

-- the segment of a thread that rested in a world
pub record IsUnderWayFrom (start : World) (number : ℕ) (segment : Segment) : Type 0 where
  pub number_is : segment.number ≡ number
  pub rest : Rest
  pub rested : slice_get start.threads number ≡ Some rest
  pub first : Began (first_of segment.running) rest
  pub grown : IsGrown start.threads segment.world.threads

-- the world in which the thread of a segment comes to rest
pub record RestsFrom (segment : Segment) (after : World) : Type 0 where
  pub rest : Rest
  pub first : IsFirst (first_of segment.running) rest
  pub threads : List Rest
  pub grown : IsGrown segment.world.threads threads
  pub is : after.threads ≡ slice_set threads segment.number rest
