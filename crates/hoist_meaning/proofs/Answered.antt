-- Where a frame of the tree stands for the text's, each step of the text is answered: by the end of the expression in evaluation, by the call
-- that it comes to, or by the return to the frame below.
use Rattle.hoist_meaning.proofs.Common.{ℕ, suc, ◌+◌, ◌≡◌, refl, sym, ap, subst, ◌∙◌, inl, Bool, true, false, List, [], ◌∷◌, length, Option, Some, None, arith, Result, Ok, Err, nat_lt, slice_index, slice_index_or, width, with_word, Call, call_of, spawn_of, Goes, Asks, Stops, and_then, moves, IsAnswered, TrapKind, goes_on, number_of, CallTree, CallFunction, CallTable, CallSpawn, CallModelled, ProgramTree, Value, value, with_first, Item, GiveBackWord, Place, Nowhere, InLocal, InGlobal, InLocalElement, InGlobalElement, Returned, WaitingFrame, Running, Waiting, function_at, SourceMove, on_value, stored_where, source_step, source_machine, Function, Modelled, Spawned, DeepProgram, Around, Ready, ReadyCall, ReadyTableCall, Use, Stores, DeepWaitingFrame, DeepRunning}
use Rattle.c_mean.specs.Frames as source_frames
use Rattle.c_mean.specs.Steps as tree_steps
use Rattle.c_mean.proofs.CallLemmas.{counted}
use Rattle.deep_mean.specs.DeepToDo as deep_items
use Rattle.deep_mean.specs.DeepFrames as frames
use Rattle.deep_mean.specs.DeepSteps as deep_steps
use Rattle.hoist_meaning.proofs.Bindings.{Agreement}
use Rattle.hoist_meaning.proofs.Items.{Leads, stays, at, ReadyAlike}
use Rattle.hoist_meaning.proofs.Ends.{Rows}
use Rattle.hoist_meaning.proofs.Frames.{text_at, FrameStands, WaitsAlike, BelowAlike, RunsAlike, WaitAlike}

module _ (text : DeepProgram) (program : ProgramTree) (Alike : ℕ → Agreement → List deep_items.Item → List Item → Type 0) where
  -- a call has as many arguments as what it calls has parameters
  abbrev pub CallFits : CallTree → Type 0
  CallFits (CallFunction k g es) = length es ≡ (function_at program g).params
  CallFits (CallTable k t i e) = (index : ℕ) → nat_lt index (length (slice_index_or program.tables t [])) ≡ true → 1 ≡ (function_at program (slice_index (slice_index_or program.tables t []) index)).params
  CallFits (CallSpawn k g e) = 1 ≡ (function_at program g).params
  CallFits (CallModelled k m es) = Unit {0}

  abbrev pub Answers : deep_steps.DeepMove → Running → Type 0
  Answers move s = IsAnswered (RunsAlike text program Alike) (WaitAlike text program Alike) (source_machine program) move s

  -- ---- silent steps before an answer

  pub answers_on : (move : deep_steps.DeepMove) (s middle : Running) → Leads program s middle → Answers move middle → Answers move s
  answers_on (Goes next) s middle leads h =
      let sum : suc (leads.0 + h.0) ≡ leads.0 + suc h.0 = omega arith in
      (leads.0 + h.0, h.1, ap (λ n. moves (source_machine program) n s) sum ∙ goes_on (source_machine program) leads.0 (suc h.0) s middle leads.1 ∙ h.2, h.3)
  answers_on (Asks question waiting) s middle leads h = (leads.0 + h.0, h.1, goes_on (source_machine program) leads.0 h.0 s middle leads.1 ∙ h.2, h.3)
  answers_on (Stops end) s middle leads h = (leads.0 + h.0, goes_on (source_machine program) leads.0 h.0 s middle leads.1 ∙ h.1)

  pub one_move : (s : Running) (move : SourceMove) → source_step program s ≡ move → moves (source_machine program) 1 s ≡ and_then move Goes
  one_move s move e = ap (λ m. and_then m (moves (source_machine program) 0)) e

  -- ---- the frame below goes on

  text_or_below : (thread : DeepRunning) (result : Result DeepRunning TrapKind) (unders : List DeepWaitingFrame) → thread.below ≡ unders → ((after : DeepRunning) → result ≡ Ok after → after.below ≡ unders) → (deep_steps.delivered_or thread result).below ≡ unders
  text_or_below thread (Ok after) unders e h = h after refl
  text_or_below thread (Err trap) unders e h = e

  where_text_below : (b : Bool) (thread after : DeepRunning) (unders : List DeepWaitingFrame) → thread.below ≡ unders → deep_steps.stored_where b thread ≡ Ok after → after.below ≡ unders
  where_text_below true thread after unders e h = let same : thread ≡ after = cc in sym (ap (λ (d : DeepRunning). d.below) same) ∙ e
  where_text_below false thread after unders e h = absurd cc

  stored_text_below : (thread : DeepRunning) (place : Place) (word : ℕ) (after : DeepRunning) → deep_steps.stored thread place word ≡ Ok after → after.below ≡ thread.below
  stored_text_below thread (InLocal x) word after h = where_text_below true (deep_steps.with_names thread (with_word thread.frame.names x 0 word)) after thread.below refl h
  stored_text_below thread (InGlobal g) word after h = where_text_below true (deep_steps.with_globals thread (with_word thread.globals g 0 word)) after thread.below refl h
  stored_text_below thread (InLocalElement a i) word after h = where_text_below (nat_lt i (width thread.frame.names a)) (deep_steps.with_names thread (with_word thread.frame.names a i word)) after thread.below refl h
  stored_text_below thread (InGlobalElement a i) word after h = where_text_below (nat_lt i (width thread.globals a)) (deep_steps.with_globals thread (with_word thread.globals a i word)) after thread.below refl h
  stored_text_below thread _ word after h = where_text_below true thread after thread.below refl h

  delivered_to_below : (thread : DeepRunning) (around : List Around) (word : ℕ) (use_ : Use) → (deep_steps.delivered_to thread around word use_).below ≡ thread.below
  delivered_to_below thread [] word (Stores place) = text_or_below thread (deep_steps.stored thread place word) thread.below refl (λ after e. stored_text_below thread place word after e)
  delivered_to_below thread _ word _ = refl

  pub text_below : (w : DeepWaitingFrame) (unders : List DeepWaitingFrame) (globals : Rows) (word : ℕ) → (deep_steps.delivered w unders globals word).below ≡ unders
  text_below w unders globals word = delivered_to_below (record { frame = w.frame; below = unders; globals = globals }) w.around word w.use_

  tree_or_below : (thread : Running) (result : Result Running TrapKind) → ((after : Running) → result ≡ Ok after → after.below ≡ thread.below) → (tree_steps.delivered_or thread result).below ≡ thread.below
  tree_or_below thread (Ok after) h = h after refl
  tree_or_below thread (Err trap) h = refl

  where_tree_below : (b : Bool) (thread after : Running) → stored_where b thread ≡ Ok after → after.below ≡ thread.below
  where_tree_below true thread after h = let same : thread ≡ after = cc in sym (ap (λ (d : Running). d.below) same)
  where_tree_below false thread after h = absurd cc

  stored_tree_below : (thread : Running) (place : Place) (word : ℕ) (after : Running) → tree_steps.stored thread place word ≡ Ok after → after.below ≡ thread.below
  stored_tree_below thread Nowhere word after h = where_tree_below true thread after h
  stored_tree_below thread (InLocal x) word after h = where_tree_below true (tree_steps.with_names thread (with_word thread.frame.names x 0 word)) after h
  stored_tree_below thread (InGlobal g) word after h = where_tree_below true (tree_steps.with_globals thread (with_word thread.globals g 0 word)) after h
  stored_tree_below thread (InLocalElement a i) word after h = where_tree_below (nat_lt i (width thread.frame.names a)) (tree_steps.with_names thread (with_word thread.frame.names a i word)) after h
  stored_tree_below thread (InGlobalElement a i) word after h = where_tree_below (nat_lt i (width thread.globals a)) (tree_steps.with_globals thread (with_word thread.globals a i word)) after h
  stored_tree_below thread Returned word after h = where_tree_below true (tree_steps.to_do thread (GiveBackWord word ∷ [])) after h

  pub tree_below : (x : WaitingFrame) (others : List WaitingFrame) (globals : Rows) (word : ℕ) → (tree_steps.delivered x others globals word).below ≡ others
  tree_below x others globals word =
      let thread : Running = record { frame = x.frame; below = others; globals = globals } in tree_or_below thread (tree_steps.stored thread x.place word) (λ after e. stored_tree_below thread x.place word after e)

  pub delivered_alike : (w : DeepWaitingFrame) (x : WaitingFrame) (ws : List DeepWaitingFrame) (xs : List WaitingFrame) (globals : Rows) (word : ℕ) → WaitsAlike text program Alike w x → BelowAlike text program Alike ws xs
      → RunsAlike text program Alike (deep_steps.delivered w ws globals word) (tree_steps.delivered x xs globals word)
  delivered_alike w x ws xs globals word h under = record {
    frame = h.goes_on ws xs globals word;
    below = subst (λ us. BelowAlike text program Alike us (tree_steps.delivered x xs globals word).below) (sym (text_below w ws globals word)) (subst (BelowAlike text program Alike ws) (sym (tree_below x xs globals word)) under);
  }

  pub returned_answers : (f : ℕ) (txt names globals : Rows) (ds : List deep_items.Item) (is : List Item) (ws : List DeepWaitingFrame) (xs : List WaitingFrame) (word : ℕ) (s : Running) → BelowAlike text program Alike ws xs
      → source_step program s ≡ tree_steps.returned (at program f xs globals names is) xs word → Answers (deep_steps.returned (text_at text program f ws globals txt ds) ws word) s
  returned_answers f txt names globals ds is ws xs word s (BelowAlike.NoneBelow) e = (1, one_move s (Stops (record { trap = None; globals = globals })) e)
  returned_answers f txt names globals ds is ws xs word s (BelowAlike.OneBelow w x ws' xs' h under) e =
      (0, tree_steps.delivered x xs' globals word, one_move s (Goes (tree_steps.delivered x xs' globals word)) e, delivered_alike w x ws' xs' globals word h under)

  -- ---- a call

  module _ (tables : text.tables ≡ program.tables)
      (pushed : (g : ℕ) (words : List ℕ) (globals : Rows) → length words ≡ (function_at program g).params
      → FrameStands text program Alike g globals (frames.pushed text g words).names (source_frames.pushed program g words).names (frames.pushed text g words).to_do (source_frames.pushed program g words).to_do) where
    -- a frame of the text that waits at a site, and one of the tree
    abbrev pub Waits : ℕ → Rows → Rows → List deep_items.Item → List Item → List Around → Use → Place → Type 0
    Waits f txt names ds is around use_ place =
        (s k : ℕ) → k ≡ s → WaitsAlike text program Alike (record { frame = record { function = f; names = txt; to_do = ds }; site = s; around = around; use_ = use_ }) (record { frame = record { function = f; names = names; to_do = is }; site = k; place = place })

    module _ (f : ℕ) (txt names globals : Rows) (ds : List deep_items.Item) (is : List Item) (around : List Around) (use_ : Use) (place : Place) (waits : Waits f txt names ds is around use_ place)
        (ws : List DeepWaitingFrame) (xs : List WaitingFrame) (under : BelowAlike text program Alike ws xs) (state : Running) where
      abbrev d : DeepRunning
      d = text_at text program f ws globals txt ds

      abbrev t : Running
      t = at program f xs globals names is

      entered_answers : (s k g : ℕ) (words : List ℕ) → k ≡ s → length words ≡ (function_at program g).params → source_step program state ≡ tree_steps.entered program t k place g words → Answers (deep_steps.entered text d s around use_ g words) state
      entered_answers s k g words same many e =
          let after : Running = record { frame = source_frames.pushed program g words; below = tree_steps.waits_at t k place ∷ xs; globals = globals } in (
            0,
            after,
            one_move state (Goes after) e,
            record {
              frame = inl (record { names = (source_frames.pushed program g words).names; items = (source_frames.pushed program g words).to_do; leads = stays program after; stands = pushed g words globals many });
              below = BelowAlike.OneBelow (deep_steps.waits_at d s around use_) (tree_steps.waits_at t k place) ws xs (waits s k same) under;
            },
          )

      asks_answer : (s k : ℕ) (call : Option Call) → k ≡ s → source_step program state ≡ tree_steps.asks_if t k place call → Answers (deep_steps.asks_if d s around use_ call) state
      asks_answer s k (Some call) same e =
          let waiting : Waiting = record { front = tree_steps.waits_at t k place; below = xs } in
          (1, waiting, one_move state (Asks (record { call = call; globals = globals }) waiting) e, record { front = waits s k same; below = under })
      asks_answer s k None same e = (1, one_move state (Stops (record { trap = None; globals = globals })) e)

      one_value : (v : Value) (words : List ℕ) → with_first v (Ok []) ≡ Ok words → (word : ℕ) × (v ≡ Ok word) × (words ≡ word ∷ [])
      one_value (Ok word) words e = let same : word ∷ [] ≡ words = cc in (word, refl, sym same)
      one_value (Err trap) words e = absurd cc

      table_answers : (s k i word : ℕ) (members : List ℕ) (b : Bool) → nat_lt i (length members) ≡ b → k ≡ s → (b ≡ true → 1 ≡ (function_at program (slice_index members i)).params)
          → source_step program state ≡ tree_steps.entered_where b program t k place (slice_index members i) word → Answers (deep_steps.entered_where b text d s around use_ (slice_index members i) word) state
      table_answers s k i word members true within same many e = entered_answers s k (slice_index members i) (word ∷ []) same (many refl) e
      table_answers s k i word members false within same many e = (1, one_move state (Stops (record { trap = Some TrapKind.Table; globals = globals })) e)

      pub called_answers : (call : Ready) (made : CallTree) → ReadyAlike names globals call made → CallFits made → source_step program state ≡ tree_steps.called program t place made → Answers (deep_steps.called text d around use_ call) state
      called_answers (ReadyCall s (Function g) words) (CallFunction k h es) r fits e =
          let many : length words ≡ (function_at program h).params = counted names globals es words r.2 ∙ fits in
          entered_answers s k g words r.0 (subst (λ j. length words ≡ (function_at program j).params) r.1 many)
          (e ∙ ap (λ v. on_value t v (λ arguments. tree_steps.entered program t k place h arguments)) r.2 ∙ ap (λ j. tree_steps.entered program t k place j words) r.1)
      called_answers (ReadyCall s (Modelled m) words) (CallModelled k o es) r fits e =
          asks_answer s k (call_of (number_of m) words) r.0 (e ∙ ap (λ v. on_value t v (λ arguments. tree_steps.asks_if t k place (call_of (number_of o) arguments))) r.2 ∙ ap (λ j. tree_steps.asks_if t k place (call_of (number_of j) words)) r.1)
      called_answers (ReadyCall s (Spawned g) words) (CallSpawn k h x) r fits e =
          let one = one_value (value names globals x) words r.2 in
          subst (λ us. Answers (deep_steps.asks_if d s around use_ (deep_steps.spawned g us)) state) (sym one.2)
          (asks_answer s k (Some (spawn_of g one.0)) r.0 (e ∙ ap (λ v. on_value t v (λ argument. tree_steps.asks t k place (spawn_of h argument))) one.1 ∙ ap (λ j. tree_steps.asks t k place (spawn_of j one.0)) r.1))
      called_answers (ReadyTableCall s u i word) (CallTable k v x y) r fits e =
          let there = slice_index_or program.tables v [] in
          let same : slice_index_or text.tables u [] ≡ there = ap (λ ts. slice_index_or ts u []) tables ∙ ap (λ j. slice_index_or program.tables j []) (sym r.1) in
          subst (λ members. Answers (deep_steps.entered_by members text d s around use_ i word) state) (sym same)
          (table_answers s k i word there (nat_lt i (length there)) refl r.0 (λ within. fits i within)
          (e ∙ ap (λ o. on_value t o (λ index. on_value t (value names globals y) (λ argument. tree_steps.entered_by there program t k place index argument))) r.2 ∙ ap (λ o. on_value t o (λ argument. tree_steps.entered_by there program t k place i argument)) r.3))
      called_answers _ _ r fits e = absurd r
