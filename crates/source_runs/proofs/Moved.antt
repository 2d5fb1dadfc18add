-- What steps lead to: values that are used, items that are taken, and silent steps one after another.
use Rattle.source_runs.proofs.Common.{◌≡◌, ℕ, ◌+◌, ◌-◌, ◌<◌, ◌≤◌, List, [], ◌∷◌, ◌++◌, length, map, sym, ap, ◌∙◌, arith, refl, subst, Bool, Result, Ok, Err, MatchResult, OnOk, Option, Some, None, Vec, reverse, slice_index, AllByRecursion, lt-ltb, le-ltb, reverse-append, map_push, Call, Immediate, Blocking, call_of, call_with, each_made, Goes, Asks, Stops, and_then, moves, TrapKind, ProgramTree, Running, pushed, SourceMove, asks_if, entered_by, entered_where, on_value, performs, performs_first, returned, source_machine, source_step, waits_at, Item, context_at, HasHalted, HasStepped, IsAskThere, IsCalling, LeadsTo, IsThread, IsWaitingFrame, below_of, globals_of, running_of, to_do_by, waiting_frame_of, waiting_of, Thread, WaitingFrame, Halt, Move}
use Rattle.std.specs.declared.alloc.Global.{Global}
use Rattle.cap_word.specs.declared.modelled_calls.ModelledCall.{ModelledCall}
use Rattle.cap_word.proofs.RunLemmas.{goes_on}
use Rattle.c_mean.specs.Frames as source
use Rattle.c_mean.specs.Steps as steps
use Rattle.c_mean.specs.ToDo as todo
use Rattle.source_items.specs.Items.{AreItems, entered, to_do}
use Rattle.source_runs.specs.declared.frames.Next.{Next}
use Rattle.source_runs.specs.declared.frames.Next.TheVariants as next
use Rattle.source_runs.specs.declared.halts.Halt.TheVariants as halt
use Rattle.source_runs.specs.declared.interpreter.Move.TheVariants as move

module _ (tree : ProgramTree) where
  -- ---- values

  -- a value's trap stops the thread; out of memory says nothing
  pub halt-stops : {A : Type 0} (running : Running) (words : List ℕ) (thread : Thread) (v : Result A TrapKind) (k : A → SourceMove) (h : Halt) → HasHalted v h →
      running.globals ≡ globals_of tree words → HasStepped tree (on_value running v k) thread words (Err h)
  halt-stops running words thread v k (halt.Trap trap) e same =
      ap (λ x. on_value running x k) e ∙ ap (λ (g : List (List ℕ)). Stops (record { trap = Some trap; globals = g })) same
  halt-stops running words thread v k halt.Memory e same = tt {0}

  pub made-so : (made other : SourceMove) (words : List ℕ) (thread : Thread) (r : Result Move Halt) → other ≡ made → HasStepped tree made thread words r → HasStepped tree other thread words r
  made-so made other words thread r e h = subst (λ x. HasStepped tree x thread words r) (sym e) h

  -- what memory was wanted for has led on, where there was some
  pub went-so : {A E : Type 0} {P Q : Type 0} (made : SourceMove) (words : List ℕ) (thread : Thread) (pushed : Result A E) (r : Result Move Halt) → MatchResult pushed (λ _. r ≡ Ok move.Goes) (λ _. r ≡ Err halt.Memory) → OnOk pushed P → OnOk pushed Q → (P → Q → HasStepped tree made thread words (Ok move.Goes)) → HasStepped tree made thread words r
  went-so made words thread (Ok a) r is p q goes = subst (λ (x : Result Move Halt). HasStepped tree made thread words x) (sym is) (goes p q)
  went-so made words thread (Err e) r is p q goes = subst (λ (x : Result Move Halt). HasStepped tree made thread words x) (sym is) (tt {0})

  -- ---- items

  -- the thread with as many other words of the front's names, other items, and something else to do next
  pub front-with : {thread : Thread} {words : List ℕ} → IsThread tree thread words → (names : Vec ℕ Global) (now : Next) (items : Vec Item Global) →
      length names.items ≡ length thread.front.names.items → AreItems (context_at tree thread.front.function) items.items →
      IsThread tree (record thread { front = record thread.front { names = names; next = now; items = items } }) words
  front-with h names now items same fits =
      record { front = record { function = h.front.function; full = same ∙ h.front.full; items = fits }; place = h.place; below = h.below; globals = h.globals }

  -- a thread whose frame has other items to do
  pub goes-with : (thread : Thread) (words : List ℕ) (vec : Vec Item Global) (items : List todo.Item) → thread.front.next ≡ next.Items →
      IsThread tree thread words → to_do vec.items ≡ items → AreItems (context_at tree thread.front.function) vec.items →
      HasStepped tree (Goes (steps.to_do (running_of tree thread words) items)) (record thread { front = record thread.front { items = vec } })
      words (Ok move.Goes)
  goes-with thread words vec items is h list fits = (rw (is, list) refl, front-with h _ _ vec refl fits)

  -- the same where memory was wanted for them
  pub pushed-so : {E : Type 0} (thread : Thread) (words : List ℕ) (vec : Vec Item Global) (items : List todo.Item) (pushed : Result (Unit {0}) E)
      (r : Result Move Halt) → MatchResult pushed (λ _. r ≡ Ok move.Goes) (λ _. r ≡ Err halt.Memory) → thread.front.next ≡ next.Items →
      IsThread tree thread words → OnOk pushed (to_do vec.items ≡ items) → OnOk pushed (AreItems (context_at tree thread.front.function) vec.items) →
      HasStepped tree (Goes (steps.to_do (running_of tree thread words) items)) (record thread { front = record thread.front { items = vec } }) words r
  pushed-so thread words vec items pushed r went is h list fits =
      went-so (Goes (steps.to_do (running_of tree thread words) items)) words (record thread { front = record thread.front { items = vec } }) pushed r
      went list fits (goes-with thread words vec items is h)

  -- ---- the first item

  abbrev pub performs_head : Running → List todo.Item → SourceMove
  performs_head running [] = returned running running.below 0
  performs_head running (item ∷ rest) = performs tree (steps.to_do running rest) item rest

  pub first-is : (running : Running) (items : List todo.Item) → performs_first tree running items ≡ performs_head running (entered items)
  first-is running (todo.Enter ∷ rest) = first-is running rest
  first-is running _ = refl

  -- only the globals count at a return
  pub returned-same : (one other : Running) (below : List source.WaitingFrame) (word : ℕ) → one.globals ≡ other.globals → returned one below word ≡ returned other below word
  returned-same one other [] word e = ap (λ (g : List (List ℕ)). Stops (record { trap = None; globals = g })) e
  returned-same one other (w ∷ below) word e = ap (λ (g : List (List ℕ)). Goes (steps.delivered w below g word)) e

  -- ---- steps by what the front does next

  pub step-none : (thread : Thread) (words : List ℕ) (other : Running) → thread.front.next ≡ next.Items → entered (to_do thread.front.items.items) ≡ [] → globals_of tree words ≡ other.globals → source_step tree (running_of tree thread words) ≡ returned other (below_of tree thread) 0
  step-none thread words other is none same =
      let running = running_of tree thread words in
      let items = to_do thread.front.items.items in
      ap (λ (n : Next). performs_first tree running (to_do_by n items)) is
      ∙ (first-is running items ∙ (ap (performs_head running) none ∙ returned-same running other (below_of tree thread) 0 same))

  pub step-item : (thread : Thread) (words : List ℕ) (vec : Vec Item Global) (item : todo.Item) → thread.front.next ≡ next.Items → entered (to_do thread.front.items.items) ≡ item ∷ to_do vec.items →
      source_step tree (running_of tree thread words) ≡ performs tree (running_of tree (record thread { front = record thread.front { items = vec } }) words) item (to_do vec.items)
  step-item thread words vec item is found =
      let running = running_of tree thread words in
      let items = to_do thread.front.items.items in
      ap (λ (n : Next). performs_first tree running (to_do_by n items)) is
      ∙ (first-is running items ∙ (ap (performs_head running) found
      ∙ ap (λ (n : Next). performs tree (steps.to_do running (to_do_by n (to_do vec.items))) item (to_do vec.items)) (sym is)))

  pub step-gives : (thread : Thread) (words : List ℕ) (word : ℕ) → thread.front.next ≡ next.GiveBack word → source_step tree (running_of tree thread words) ≡ returned (running_of tree thread words) (below_of tree thread) word
  step-gives thread words word is =
      let running = running_of tree thread words in
      ap (λ (n : Next). performs_first tree running (to_do_by n (to_do thread.front.items.items))) is
      ∙ returned-same (steps.to_do running []) running (below_of tree thread) word refl

  pub step-fails : (thread : Thread) (words : List ℕ) (trap : TrapKind) → thread.front.next ≡ next.Fail trap → source_step tree (running_of tree thread words) ≡ Stops (record { trap = Some trap; globals = globals_of tree words })
  step-fails thread words trap is = ap (λ (n : Next). performs_first tree (running_of tree thread words) (to_do_by n (to_do thread.front.items.items))) is

  split-last : (rest : List WaitingFrame) (w : WaitingFrame) → AllByRecursion (IsWaitingFrame tree) (rest ++ w ∷ []) → AllByRecursion (IsWaitingFrame tree) rest × IsWaitingFrame tree w
  split-last [] w all = (tt {0}, all.0)
  split-last (x ∷ rest) w all = let both = split-last rest w all.1 in ((all.0, both.0), both.1)

  pub all-push : (xs : List WaitingFrame) (w : WaitingFrame) → AllByRecursion (IsWaitingFrame tree) xs → IsWaitingFrame tree w → AllByRecursion (IsWaitingFrame tree) (xs ++ w ∷ [])
  all-push [] w all one = (one, tt {0})
  all-push (x ∷ xs) w all one = (all.0, all-push xs w all.1 one)

  -- the innermost of the frames below
  pub below-pop : (xs rest : List WaitingFrame) (w : WaitingFrame) → xs ≡ rest ++ w ∷ [] → reverse (map (waiting_frame_of tree) xs) ≡ waiting_frame_of tree w ∷ reverse (map (waiting_frame_of tree) rest)
  below-pop xs rest w e =
      ap (λ (ys : List WaitingFrame). reverse (map (waiting_frame_of tree) ys)) e
      ∙ (ap reverse (map_push (waiting_frame_of tree) rest w) ∙ reverse-append (map (waiting_frame_of tree) rest) (waiting_frame_of tree w ∷ []))

  pub all-pop : (xs rest : List WaitingFrame) (w : WaitingFrame) → xs ≡ rest ++ w ∷ [] → AllByRecursion (IsWaitingFrame tree) xs → AllByRecursion (IsWaitingFrame tree) rest × IsWaitingFrame tree w
  all-pop xs rest w e all = split-last rest w (subst (AllByRecursion (IsWaitingFrame tree)) e all)

  -- ---- calls that are asked

  -- a modelled call that isn't blocked starts no thread
  abbrev StartsNone : Option Call → Type 0
  StartsNone (Some (Immediate ask)) = IsAskThere tree ask
  StartsNone _ = Unit {0}

  table-none : (call : ModelledCall) (a b : ℕ) → StartsNone (Some (call_with call a b))
  table-none ModelledCall.Accept a b = tt {0}
  table-none _ a b = tt {0}

  starts-none : (number : ℕ) (words : List ℕ) → StartsNone (call_of number words)
  starts-none number words = each_made StartsNone (tt {0}) table-none number words

  pub asked-so : (running : Running) (words : List ℕ) (thread : Thread) (site : ℕ) (place : source.Place) (made : Move) (number : ℕ) (arguments : List ℕ) → IsCalling made (call_of number arguments) → record { front = waits_at running site place; below = running.below } ≡ waiting_of tree thread → running.globals ≡ globals_of tree words → IsThread tree thread words → HasStepped tree (asks_if running site place (call_of number arguments)) thread words (Ok made)
  asked-so running words thread site place (move.Asks ask) number arguments h waits same fits = (
    ap (asks_if running site place) h
        ∙ (ap (λ (w : source.Waiting). Asks (record { call = Immediate ask; globals = running.globals }) w) waits ∙ ap (λ (g : List (List ℕ)). Asks (record { call = Immediate ask; globals = g }) (waiting_of tree thread)) same),
    fits,
    subst StartsNone h (starts-none number arguments),
  )
  asked-so running words thread site place (move.Blocks block) number arguments h waits same fits =
      (ap (asks_if running site place) h ∙ (ap (λ (w : source.Waiting). Asks (record { call = Blocking block; globals = running.globals }) w) waits ∙ ap (λ (g : List (List ℕ)). Asks (record { call = Blocking block; globals = g }) (waiting_of tree thread)) same), fits)
  asked-so running words thread site place _ number arguments h waits same fits = elim h [ ]

  -- a function is called
  pub entered-so : (running : Running) (words : List ℕ) (thread : Thread) (site : ℕ) (place : source.Place) (f : ℕ) (arguments : List ℕ) →
      running_of tree thread words ≡ record { frame = pushed tree f arguments; below = waits_at running site place ∷ running.below; globals = running.globals } → IsThread tree thread words → HasStepped tree (steps.entered tree running site place f arguments) thread words (Ok move.Goes)
  entered-so running words thread site place f arguments e fits = (ap (λ (r : Running). Goes r) (sym e), fits)

  -- a member of a table is called
  pub member-entered : (running : Running) (words : List ℕ) (thread : Thread) (site : ℕ) (place : source.Place) (members : List ℕ) (index argument f : ℕ) (r : Result Move Halt) → index < length members → f ≡ slice_index members index →
      HasStepped tree (steps.entered tree running site place f (argument ∷ [])) thread words r → HasStepped tree (entered_by members tree running site place index argument) thread words r
  member-entered running words thread site place members index argument f r h e stepped =
      made-so (steps.entered tree running site place f (argument ∷ [])) (entered_by members tree running site place index argument) words thread r
      (ap (λ (b : Bool). entered_where b tree running site place (slice_index members index) argument) (lt-ltb index (length members) h)
      ∙ ap (λ (g : ℕ). steps.entered tree running site place g (argument ∷ [])) (sym e))
      stepped

  -- there is no such member
  pub no-member : (running : Running) (words : List ℕ) (thread : Thread) (site : ℕ) (place : source.Place) (members : List ℕ) (index argument : ℕ) → length members ≤ index → running.globals ≡ globals_of tree words →
      HasStepped tree (entered_by members tree running site place index argument) thread words (Err (halt.Trap TrapKind.Table))
  no-member running words thread site place members index argument h same =
      ap (λ (b : Bool). entered_where b tree running site place (slice_index members index) argument) (le-ltb index (length members) h)
      ∙ ap (λ (g : List (List ℕ)). Stops (record { trap = Some TrapKind.Table; globals = g })) same

  -- ---- steps one after another

  one-move : (made : SourceMove) → and_then made (moves (source_machine tree) 0) ≡ made
  one-move (Goes after) = refl
  one-move _ = refl

  pub step-after : (n m : ℕ) (start now : Running) → m ≡ n + 1 → moves (source_machine tree) n start ≡ Goes now → moves (source_machine tree) m start ≡ source_step tree now
  step-after n m start now e silent = ap (λ k. moves (source_machine tree) k start) e ∙ (goes_on (source_machine tree) n 1 start now silent ∙ one-move (source_step tree now))

  -- a run of silent steps, and one step more, which isn't counted among those that are left
  pub leads : (most left : ℕ) (start now : Running) (made : SourceMove) → 0 < left → left ≤ most → moves (source_machine tree) (most - left) start ≡ Goes now → source_step tree now ≡ made → LeadsTo tree start (most - (left - 1)) made
  leads most left start now made some within silent e = record { before = most - left; here = now; silent = silent; last = e; steps_is = omega (arith, some, within) }
