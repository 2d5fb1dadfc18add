-- The threads of the interpreter, as those of the source.
use Rattle.std.specs.Prelude.{◌≡◌, ℕ, ◌<◌, List, [], ◌∷◌, length, map, reverse, sum, slice_index}
use Rattle.std.specs.List.{AllByRecursion}
use Rattle.c_tree.specs.Trees.{ProgramTree}
use Rattle.c_tree.specs.WellScoped.{context_of}
use Rattle.c_mean.specs.Frames as source
use Rattle.c_mean.specs.Frames.{function_at}
use Rattle.c_mean.specs.Layout.{rows_of, widths_of}
use Rattle.c_mean.specs.ToDo as todo
use Rattle.source_items.specs.Items.{AreItems, to_do}
use Rattle.source_runs.specs.declared.frames.Frame.{Frame}
use Rattle.source_runs.specs.declared.frames.Next.{Next}
use Rattle.source_runs.specs.declared.frames.Next.TheVariants as next
use Rattle.source_runs.specs.declared.frames.Place.{Place}
use Rattle.source_runs.specs.declared.frames.Place.TheVariants as place
use Rattle.source_runs.specs.declared.frames.Thread.{Thread}
use Rattle.source_runs.specs.declared.frames.WaitingFrame.{WaitingFrame}

-- ---- the source threads for which they stand

abbrev pub place_of : Place → source.Place
place_of place.Nowhere = source.Nowhere
place_of (place.Local x) = source.InLocal x
place_of (place.Global g) = source.InGlobal g
place_of (place.LocalElement a i) = source.InLocalElement a i
place_of (place.GlobalElement a i) = source.InGlobalElement a i
place_of place.Returned = source.Returned

-- what a frame has still to do: its items, or the one thing that comes before them
abbrev pub to_do_by : Next → List todo.Item → List todo.Item
to_do_by next.Items items = items
to_do_by (next.GiveBack word) items = todo.GiveBackWord word ∷ []
to_do_by (next.Fail trap) items = todo.Fail trap ∷ []

abbrev pub frame_of : ProgramTree → Frame → source.Frame
frame_of tree frame = record {
  function = frame.function;
  names = rows_of (function_at tree frame.function).sizes frame.names.items;
  to_do = to_do_by frame.next (to_do frame.items.items);
}

abbrev pub waiting_frame_of : ProgramTree → WaitingFrame → source.WaitingFrame
waiting_frame_of tree waiting = record { frame = frame_of tree waiting.frame; site = waiting.site; place = place_of waiting.place }

-- the frames below, innermost first
abbrev pub below_of : ProgramTree → Thread → List source.WaitingFrame
below_of tree thread = reverse (map (waiting_frame_of tree) thread.below.items)

abbrev pub globals_of : ProgramTree → List ℕ → List (List ℕ)
globals_of tree words = rows_of (widths_of tree.globals) words

-- a thread that runs, with these words of the globals
abbrev pub running_of : ProgramTree → Thread → List ℕ → source.Running
running_of tree thread words = record { frame = frame_of tree thread.front; below = below_of tree thread; globals = globals_of tree words }

-- a thread at a modelled call
abbrev pub waiting_of : ProgramTree → Thread → source.Waiting
waiting_of tree thread = record {
  front = record { frame = frame_of tree thread.front; site = thread.site; place = place_of thread.place };
  below = below_of tree thread;
}

-- ---- the conditions on them

-- a place exists, and has one word if it has no index
abbrev pub IsPlace : ProgramTree → ℕ → Place → Type 0
IsPlace tree f place.Nowhere = Unit {0}
IsPlace tree f (place.Local x) = (x < length (function_at tree f).sizes) × (slice_index (function_at tree f).sizes x ≡ 1)
IsPlace tree f (place.Global g) = (g < length tree.globals) × (slice_index (widths_of tree.globals) g ≡ 1)
IsPlace tree f (place.LocalElement a i) = a < length (function_at tree f).sizes
IsPlace tree f (place.GlobalElement a i) = a < length tree.globals
IsPlace tree f place.Returned = Unit {0}

pub record IsFrame (tree : ProgramTree) (frame : Frame) : Type 0 where
  pub function : frame.function < length tree.functions
  pub full : length frame.names.items ≡ sum (function_at tree frame.function).sizes
  pub items : AreItems (context_of tree (function_at tree frame.function)) frame.items.items

pub record IsWaitingFrame (tree : ProgramTree) (waiting : WaitingFrame) : Type 0 where
  pub frame : IsFrame tree waiting.frame
  pub place : IsPlace tree waiting.frame.function waiting.place

-- the number of words is that of the globals
abbrev pub IsFull : ProgramTree → List ℕ → Type 0
IsFull tree words = length words ≡ sum (widths_of tree.globals)

-- a thread with the words of the globals
pub record IsThread (tree : ProgramTree) (thread : Thread) (words : List ℕ) : Type 0 where
  pub front : IsFrame tree thread.front
  pub place : IsPlace tree thread.front.function thread.place
  pub below : AllByRecursion (IsWaitingFrame tree) thread.below.items
  pub globals : length words ≡ sum (widths_of tree.globals)
