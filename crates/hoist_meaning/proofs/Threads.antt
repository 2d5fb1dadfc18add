-- Threads of the tree follow those of the text, where items that are alike are answered.
use Rattle.hoist_meaning.proofs.Common.{ℕ, suc, ◌≡◌, refl, sym, subst, inl, ⊎_elim, List, [], ◌∷◌, length, Some, map, take, AllByRecursion, Immediate, Goes, Asks, Stops, IsAnswered, Follows, Ask, asks_at, CallTree, ProgramTree, Item, GiveBackWord, WaitingFrame, Running, Waiting, function_at, key_of, source_step, source_machine, WaitsInText, Stands, MoveStands, resume_stands, started_stands, DeepProgram, go_on, DeepWaitingFrame, DeepRunning, DeepWaiting}
use Rattle.c_mean.specs.Frames as source_frames
use Rattle.c_mean.specs.Steps as tree_steps
use Rattle.deep_mean.specs.DeepToDo as deep_items
use Rattle.deep_mean.specs.DeepFrames as frames
use Rattle.deep_mean.specs.DeepSteps as deep_steps
use Rattle.hoist_meaning.proofs.Bindings.{Agreement}
use Rattle.hoist_meaning.proofs.Items.{stays, at}
use Rattle.hoist_meaning.proofs.Ends.{Rows}
use Rattle.hoist_meaning.proofs.Frames.{first_call, text_at, Words, FrameStands, Stood, Failed, BelowAlike, RunsAlike, WaitAlike}
use Rattle.hoist_meaning.proofs.Answered.{CallFits, Answers, answers_on, delivered_alike, returned_answers}
use Rattle.hoist_meaning.proofs.Uses.{moves_stand, leads_stand, uses_answered}
use Rattle.hoist_meaning.proofs.Matching.{ThreadsFollow}

module _ (text : DeepProgram) (program : ProgramTree) (Alike : ℕ → Agreement → List deep_items.Item → List Item → Type 0) (tables : text.tables ≡ program.tables)
    (pushed : (g : ℕ) (words : List ℕ) (globals : Rows) → length words ≡ (function_at program g).params
    → FrameStands text program Alike g globals (frames.pushed text g words).names (source_frames.pushed program g words).names (frames.pushed text g words).to_do (source_frames.pushed program g words).to_do)
    (fits : (s : Running) (made : CallTree) → Stands program s → first_call s.frame.to_do ≡ Some made → CallFits text program Alike made)
    (still : (f : ℕ) (a : Agreement) (txt names globals : Rows) (ds : List deep_items.Item) (is : List Item) (ws : List DeepWaitingFrame) (xs : List WaitingFrame) → Words text program f a txt names → Alike f a ds is → BelowAlike text program Alike ws xs
    → Stands program (at program f xs globals names is) → Answers text program Alike (deep_steps.deep_step text (text_at text program f ws globals txt ds)) (at program f xs globals names is)) where
  frame_answers : (f : ℕ) (globals txt names : Rows) (ds : List deep_items.Item) (is : List Item) (ws : List DeepWaitingFrame) (xs : List WaitingFrame) → BelowAlike text program Alike ws xs → Stands program (at program f xs globals names is)
      → FrameStands text program Alike f globals txt names ds is → Answers text program Alike (deep_steps.deep_step text (text_at text program f ws globals txt ds)) (at program f xs globals names is)
  frame_answers f globals txt names ds is ws xs under stands (FrameStands.Still a _ _ words alike) = still f a txt names globals ds is ws xs words alike under stands
  frame_answers f globals txt names ds is ws xs under stands (FrameStands.GoingOn around word use_ rest _ going) =
      uses_answered text program Alike tables pushed fits f txt ws xs under globals names is (go_on txt globals around word) use_ rest stands going
  frame_answers f globals txt names ds is ws xs under stands (FrameStands.Giving word rest) =
      returned_answers text program Alike f txt names globals rest [] ws xs word (at program f xs globals names (GiveBackWord word ∷ [])) under refl

  -- ---- threads

  abbrev pub Running_alike : DeepRunning → Running → Type 0
  Running_alike d s = RunsAlike text program Alike d s × Stands program s

  abbrev pub Waiting_alike : DeepWaiting → Waiting → Type 0
  Waiting_alike w x = WaitAlike text program Alike w x × AllByRecursion (WaitsInText program) (x.front ∷ x.below)

  alike_answers : (d : DeepRunning) (s : Running) → RunsAlike text program Alike d s → Stands program s → Answers text program Alike (deep_steps.deep_step text d) s
  alike_answers d s h stands = ⊎_elim stood failed h.frame
    where
      stood : Stood text program Alike d s → Answers text program Alike (deep_steps.deep_step text d) s
      stood k =
          let middle = at program d.frame.function s.below d.globals k.names k.items in
          answers_on text program Alike (deep_steps.deep_step text d) s middle k.leads
          (frame_answers d.frame.function d.globals d.frame.names k.names d.frame.to_do k.items d.below s.below h.below (leads_stand program s middle k.leads stands) k.stands)

      failed : Failed text program Alike d s → Answers text program Alike (deep_steps.deep_step text d) s
      failed k = subst (λ items. Answers text program Alike (deep_steps.performs_first text d items) s) (sym k.fails) (k.steps, k.stops)

  with_stands : (move : deep_steps.DeepMove) (s : Running) → Stands program s → Answers text program Alike move s → IsAnswered Running_alike Waiting_alike (source_machine program) move s
  with_stands (Goes next) s stands h = (h.0, h.1, h.2, (h.3, subst (MoveStands program) h.2 (moves_stand program (suc h.0) s stands)))
  with_stands (Asks question waiting) s stands h = (h.0, h.1, h.2, (h.3, subst (MoveStands program) h.2 (moves_stand program h.0 s stands)))
  with_stands (Stops end) s stands h = h

  pub follows : Follows Running_alike Waiting_alike (deep_steps.deep_machine text) (source_machine program)
  follows = record {
    steps = λ d s h. with_stands (deep_steps.deep_step text d) s h.1 (alike_answers d s h.0 h.1);
    resumes = λ waiting other answer h.
        (delivered_alike text program Alike waiting.front other.front waiting.below other.below answer.globals answer.result h.0.front h.0.below, resume_stands program other answer h.1);
  }

  -- ---- keys

  sites_same : (ws : List DeepWaitingFrame) (xs : List WaitingFrame) → BelowAlike text program Alike ws xs → map (λ (w : DeepWaitingFrame). w.site) ws ≡ map (λ (x : WaitingFrame). x.site) xs
  sites_same ws xs (BelowAlike.NoneBelow) = refl
  sites_same ws xs (BelowAlike.OneBelow w x ws' xs' h under) = (λ i. h.site i ∷ sites_same ws' xs' under i)

  keys_same : (w : DeepWaiting) (x : Waiting) → Waiting_alike w x → frames.key_of w ≡ key_of x
  keys_same w x h = λ i. h.0.front.site i ∷ take 7 (sites_same w.below x.below h.0.below i)

  -- ---- threads that start

  started_alike : (f : ℕ) (arguments : List ℕ) (globals : Rows) → length arguments ≡ (function_at program f).params → Running_alike (deep_steps.started text f arguments globals) (tree_steps.started program f arguments globals)
  started_alike f arguments globals many = (
    record {
      frame = inl (record {
        names = (source_frames.pushed program f arguments).names;
        items = (source_frames.pushed program f arguments).to_do;
        leads = stays program (tree_steps.started program f arguments globals);
        stands = pushed f arguments globals many;
      });
      below = BelowAlike.NoneBelow;
    },
    started_stands program f arguments globals,
  )

  pub threads_follow : (0 ≡ (function_at program text.main).params)
      → ((s : Running) (f argument : ℕ) (here : Rows) (waiting : Waiting) → Stands program s → source_step program s ≡ Asks (record { call = Immediate (Ask.Spawn f argument); globals = here }) waiting → 1 ≡ (function_at program f).params)
      → ThreadsFollow text program Running_alike Waiting_alike
  threads_follow none one = record {
    follows = follows;
    starts = started_alike;
    keys = keys_same;
    main = λ globals. started_alike text.main [] globals none;
    spawned = λ state other f argument here globals waiting h e.
        let answer = subst (λ move. IsAnswered Running_alike Waiting_alike (source_machine program) move other) e (follows.steps state other h) in
        let at = asks_at (source_machine program) answer.0 other (record { call = Immediate (Ask.Spawn f argument); globals = here }) answer.1 answer.2 in
        started_alike f (argument ∷ []) globals (one at.last f argument here answer.1 (leads_stand program other at.last (at.count, at.silent) h.1) at.asks);
  }
