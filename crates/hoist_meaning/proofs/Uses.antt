-- What is done with an evaluation of the text is answered by the tree: the value is stored, decides, or is returned; the trap stops both; and
-- the call is made by both, after which each waits for its result.
use Rattle.hoist_meaning.proofs.Common.{ℕ, zero, suc, ◌≡◌, refl, sym, subst, inl, inr, true, false, List, [], ◌∷◌, length, Some, Result, Ok, with_word, Goes, Stops, and_then, moves, TrapKind, CallTree, Called, DeclareWith, ProgramTree, Item, Simply, GiveBackWord, Place, InLocal, InLocalElement, InGlobalElement, Returned, WaitingFrame, Running, function_at, SourceMove, on_value, source_step, source_machine, Stands, MoveStands, step_stands, DeepExpr, DeepProgram, Around, Ready, Evaluation, Done, Trapped, Calls, evaluate, go_on, Use, Stores, IndexesLocal, IndexesGlobal, Returns, DeepWaitingFrame, DeepRunning}
use Rattle.c_mean.specs.Frames as source_frames
use Rattle.c_mean.specs.Steps as tree_steps
use Rattle.deep_mean.specs.DeepToDo as deep_items
use Rattle.deep_mean.specs.DeepFrames as frames
use Rattle.deep_mean.specs.DeepSteps as deep_steps
use Rattle.hoist_meaning.proofs.Bindings.{Agreement, Paired, AreBelow}
use Rattle.hoist_meaning.proofs.Items.{Leads, stays, at}
use Rattle.hoist_meaning.proofs.Ends.{Rows, NoCall, Opens, Comes, StopsAt, CallsAt, EndsAs}
use Rattle.hoist_meaning.proofs.Frames.{first_call, Decides, text_at, Words, PlacesAlike, StoreLeaf, CallLeaf, DecidesBy, DecideLeaf, ReturnLeaf, IndexLeaf, Going, FrameStands, Reached, BelowAlike}
use Rattle.hoist_meaning.proofs.Storing.{StoredAlike, stored_alike}
use Rattle.hoist_meaning.proofs.Answered.{CallFits, Answers, answers_on, one_move, returned_answers, Waits, called_answers}

-- ---- a thread of the tree stands in its text

module _ (program : ProgramTree) where
  then_stands : (n : ℕ) (move : SourceMove) → MoveStands program move → ((next : Running) → Stands program next → MoveStands program (moves (source_machine program) n next)) → MoveStands program (and_then move (moves (source_machine program) n))
  then_stands n (Goes next) h rest = rest next h
  then_stands n _ h rest = h

  pub moves_stand : (n : ℕ) (s : Running) → Stands program s → MoveStands program (moves (source_machine program) n s)
  moves_stand zero s h = h
  moves_stand (suc n) s h = then_stands n (source_step program s) (step_stands program s h) (λ next k. moves_stand n next k)

  pub leads_stand : (s next : Running) → Leads program s next → Stands program s → Stands program next
  leads_stand s next leads h = subst (MoveStands program) leads.1 (moves_stand leads.0 s h)

-- a result that isn't stored at once is held in the expression
abbrev IsHeld : List Around → Use → Type 0
IsHeld [] (Stores place) = ⊥
IsHeld _ _ = Unit {0}

held : (thread : DeepRunning) (around : List Around) (word : ℕ) (use_ : Use) → IsHeld around use_ → deep_steps.to_do thread (deep_items.GoOn around word use_ ∷ thread.frame.to_do) ≡ deep_steps.delivered_to thread around word use_
held thread [] word (Stores place) h = absurd h
held thread _ word _ h = refl

strict_held : (around : List Around) (use_ : Use) → Opens true around → IsHeld around use_
strict_held [] use_ h = absurd h
strict_held (a ∷ outer) use_ h = tt

module _ (text : DeepProgram) (program : ProgramTree) (Alike : ℕ → Agreement → List deep_items.Item → List Item → Type 0) (tables : text.tables ≡ program.tables)
    (pushed : (g : ℕ) (words : List ℕ) (globals : Rows) → length words ≡ (function_at program g).params
    → FrameStands text program Alike g globals (frames.pushed text g words).names (source_frames.pushed program g words).names (frames.pushed text g words).to_do (source_frames.pushed program g words).to_do)
    (fits : (s : Running) (made : CallTree) → Stands program s → first_call s.frame.to_do ≡ Some made → CallFits text program Alike made) where
  -- ---- frames that wait

  within_waits : (f : ℕ) (txt after : Rows) (ds : List deep_items.Item) (later : List Item) (around : List Around) (use_ : Use) (x : ℕ) → IsHeld around use_
      → ((word : ℕ) (others : Rows) → Going text program Alike f txt others (with_word after x 0 word) later (go_on txt others around word) use_ ds) → Waits text program Alike tables pushed f txt after ds later around use_ (InLocal x)
  within_waits f txt after ds later around use_ x h goes = λ s k same. record {
    site = sym same;
    goes_on = λ ws xs globals word.
        subst (λ d. Reached text program Alike d (at program f xs globals (with_word after x 0 word) later)) (held (text_at text program f ws globals txt ds) around word use_ h)
        (inl (record { names = with_word after x 0 word; items = later; leads = stays program (at program f xs globals (with_word after x 0 word) later); stands = FrameStands.GoingOn around word use_ ds later (goes word globals) }));
  }

  module _ (f : ℕ) (ds : List deep_items.Item) (is : List Item) (b : Agreement) (alike : Alike f b ds is) where
    stored_reached : (ws : List DeepWaitingFrame) (xs : List WaitingFrame) (globals txt names : Rows) (one : Result DeepRunning TrapKind) (other : Result Running TrapKind) → StoredAlike text program f b ds is ws xs globals one other
        → Reached text program Alike (deep_steps.delivered_or (text_at text program f ws globals txt ds) one) (tree_steps.delivered_or (at program f xs globals names is) other)
    stored_reached ws xs globals txt names one other (StoredAlike.BothStore _ txt' names' after h) =
        inl (record { names = names'; items = is; leads = stays program (at program f xs after names' is); stands = FrameStands.Still b ds is h alike })
    stored_reached ws xs globals txt names one other (StoredAlike.BothFail _ trap) =
        inr (record { trap = trap; rest = []; fails = refl; steps = 1; stops = refl })

    stored_answers : (ws : List DeepWaitingFrame) (xs : List WaitingFrame) (globals txt names : Rows) (one : Result DeepRunning TrapKind) (other : Result Running TrapKind) (s : Running) → StoredAlike text program f b ds is ws xs globals one other → BelowAlike text program Alike ws xs
        → source_step program s ≡ on_value (at program f xs globals names is) other Goes → Answers text program Alike (deep_steps.assigned_by (text_at text program f ws globals txt ds) one) s
    stored_answers ws xs globals txt names one other s (StoredAlike.BothStore _ txt' names' after h) under e = (
      0,
      at program f xs after names' is,
      one_move text program Alike s (Goes (at program f xs after names' is)) e,
      record {
        frame = inl (record { names = names'; items = is; leads = stays program (at program f xs after names' is); stands = FrameStands.Still b ds is h alike });
        below = under;
      },
    )
    stored_answers ws xs globals txt names one other s (StoredAlike.BothFail _ trap) under e = (1, one_move text program Alike s (Stops (record { trap = Some trap; globals = globals })) e)

  storing_waits : (f : ℕ) (a b : Agreement) (p q : Place) (txt after : Rows) (ds : List deep_items.Item) (is : List Item) → PlacesAlike text program f a b p q → Words text program f a txt after → Alike f b ds is
      → Waits text program Alike tables pushed f txt after ds is [] (Stores p) q
  storing_waits f a b p q txt after ds is places words alike = λ s k same. record {
    site = sym same;
    goes_on = λ ws xs globals word.
        stored_reached f ds is b alike ws xs globals txt after (deep_steps.stored (text_at text program f ws globals txt ds) p word) (tree_steps.stored (at program f xs globals after is) q word)
        (stored_alike text program f a b p q word ds is ws xs globals txt after places words);
  }

  returning_waits : (f : ℕ) (txt after : Rows) (ds : List deep_items.Item) (is : List Item) → Waits text program Alike tables pushed f txt after ds is [] Returns Returned
  returning_waits f txt after ds is = λ s k same. record {
    site = sym same;
    goes_on = λ ws xs globals word.
        inl (record { names = after; items = GiveBackWord word ∷ []; leads = stays program (at program f xs globals after (GiveBackWord word ∷ [])); stands = FrameStands.Giving word ds });
  }

  -- ---- what is done with an evaluation

  module _ (f : ℕ) (txt : Rows) (ws : List DeepWaitingFrame) (xs : List WaitingFrame) (under : BelowAlike text program Alike ws xs) where
    abbrev Ends : Rows → Rows → List Item → List deep_items.Item → Use → Evaluation → Type 0
    Ends globals names items ds use_ e = Answers text program Alike (deep_steps.uses text (text_at text program f ws globals txt ds) use_ e) (at program f xs globals names items)

    -- a call within the expression
    within_answers : (globals names : Rows) (items : List Item) (ds : List deep_items.Item) (use_ : Use) (call : Ready) (around : List Around) (here : CallsAt program f txt globals names items call) → IsHeld around use_ → Stands program (at program f xs globals names items)
        → ((word : ℕ) (others : Rows) → Going text program Alike f txt others (with_word here.after here.x 0 word) here.later (go_on txt others around word) use_ ds) → Ends globals names items ds use_ (Calls call around)
    within_answers globals names items ds use_ call around here h stands goes =
        let middle = at program f xs globals here.after (Simply (DeclareWith here.x (Called here.made)) ∷ here.later) in
        let leads = here.comes.leads xs in
        answers_on text program Alike (deep_steps.called text (text_at text program f ws globals txt ds) around use_ call) (at program f xs globals names items) middle leads
        (called_answers text program Alike tables pushed f txt here.after globals ds here.later around use_ (InLocal here.x) (within_waits f txt here.after ds here.later around use_ here.x h goes) ws xs under middle call here.made here.alike
        (fits middle here.made (leads_stand program (at program f xs globals names items) middle leads stands) refl) refl)

    -- a call that is all of the statement's expression
    whole_answers : (globals names after : Rows) (items rest is : List Item) (ds : List deep_items.Item) (use_ : Use) (a : Agreement) (q : Place) (call : Ready) → Comes program f txt globals names items after rest → CallLeaf text program f a txt q rest is globals after call
        → Waits text program Alike tables pushed f txt after ds is [] use_ q → Stands program (at program f xs globals names items) → Ends globals names items ds use_ (Calls call [])
    whole_answers globals names after items rest is ds use_ a q call comes leaf waits stands =
        let middle = at program f xs globals after rest in
        let leads = comes.leads xs in
        answers_on text program Alike (deep_steps.called text (text_at text program f ws globals txt ds) [] use_ call) (at program f xs globals names items) middle leads
        (called_answers text program Alike tables pushed f txt after globals ds is [] use_ q waits ws xs under middle call leaf.made leaf.alike
        (fits middle leaf.made (leads_stand program (at program f xs globals names items) middle leads stands) leaf.first) (leaf.goes xs))

    trap_answers : (globals names after : Rows) (items rest : List Item) (ds : List deep_items.Item) (use_ : Use) (trap : TrapKind) → Comes program f txt globals names items after rest → StopsAt program f txt globals after rest trap → Ends globals names items ds use_ (Trapped trap)
    trap_answers globals names after items rest ds use_ trap comes stops =
        answers_on text program Alike (Stops (record { trap = Some trap; globals = globals })) (at program f xs globals names items) (at program f xs globals after rest) (comes.leads xs) (stops.stops xs)

    storing_answers : (globals names : Rows) (items : List Item) (e : Evaluation) (a b : Agreement) (p q : Place) (ds : List deep_items.Item) (rest is : List Item) → PlacesAlike text program f a b p q → Alike f b ds is → Stands program (at program f xs globals names items)
        → EndsAs program f txt true (StoreLeaf text program f a txt q rest is) (CallLeaf text program f a txt q rest is) rest globals names items e → Ends globals names items ds (Stores p) e
    storing_answers globals names items e a b p q ds rest is places alike stands (EndsAs.Valued _ _ _ word after comes leaf) =
        answers_on text program Alike (deep_steps.assigned (text_at text program f ws globals txt ds) p word) (at program f xs globals names items) (at program f xs globals after rest) (comes.leads xs)
        (stored_answers f ds is b alike ws xs globals txt after (deep_steps.stored (text_at text program f ws globals txt ds) p word) (tree_steps.stored (at program f xs globals after is) q word) (at program f xs globals after rest)
        (stored_alike text program f a b p q word ds is ws xs globals txt after places leaf.words) under (leaf.goes xs))
    storing_answers globals names items e a b p q ds rest is places alike stands (EndsAs.Fails _ _ _ trap after comes leaf) = trap_answers globals names after items rest ds (Stores p) trap comes leaf.goes
    storing_answers globals names items e a b p q ds rest is places alike stands (EndsAs.Stopped _ _ _ trap stops) = stops.stops xs
    storing_answers globals names items e a b p q ds rest is places alike stands (EndsAs.WholeCall _ _ _ call after comes leaf) =
        whole_answers globals names after items rest is ds (Stores p) a q call comes leaf (storing_waits f a b p q txt after ds is places leaf.words alike) stands
    storing_answers globals names items e a b p q ds rest is places alike stands (EndsAs.Within _ _ _ call around opens here later) =
        within_answers globals names items ds (Stores p) call around here (strict_held around (Stores p) opens) stands
        (λ word others. Going.Storing others (with_word here.after here.x 0 word) here.later (go_on txt others around word) a b p q ds rest is places alike (later word others))

    returning_ends : (globals names : Rows) (items : List Item) (e : Evaluation) (a : Agreement) (ds : List deep_items.Item) (rest is : List Item) → Stands program (at program f xs globals names items)
        → EndsAs program f txt true (ReturnLeaf text program f txt rest is) (CallLeaf text program f a txt Returned rest is) rest globals names items e → Ends globals names items ds Returns e
    returning_ends globals names items e a ds rest is stands (EndsAs.Valued _ _ _ word after comes leaf) =
        answers_on text program Alike (deep_steps.returned (text_at text program f ws globals txt ds) ws word) (at program f xs globals names items) (at program f xs globals after rest) (comes.leads xs)
        (returned_answers text program Alike f txt after globals ds is ws xs word (at program f xs globals after rest) under (leaf.goes xs))
    returning_ends globals names items e a ds rest is stands (EndsAs.Fails _ _ _ trap after comes leaf) = trap_answers globals names after items rest ds Returns trap comes leaf.goes
    returning_ends globals names items e a ds rest is stands (EndsAs.Stopped _ _ _ trap stops) = stops.stops xs
    returning_ends globals names items e a ds rest is stands (EndsAs.WholeCall _ _ _ call after comes leaf) = whole_answers globals names after items rest is ds Returns a Returned call comes leaf (returning_waits f txt after ds is) stands
    returning_ends globals names items e a ds rest is stands (EndsAs.Within _ _ _ call around opens here later) =
        within_answers globals names items ds Returns call around here (strict_held around Returns opens) stands
        (λ word others. Going.Returning others (with_word here.after here.x 0 word) here.later (go_on txt others around word) a ds rest is (later word others))

    -- the one or the other, by a value
    turned : (globals after : Rows) (a : Agreement) (ds first second : List deep_items.Item) (rest one other : List Item) (word : ℕ) → Words text program f a txt after → Alike f a first one → Alike f a second other
        → DecidesBy text program f txt rest one other globals after (Ok word) → Answers text program Alike (deep_steps.branched (text_at text program f ws globals txt ds) first second word) (at program f xs globals after rest)
    turned globals after a ds first second rest one other zero words taken passed goes =
        let turn = goes xs in
        (turn.0, at program f xs globals after other, turn.1, record { frame = inl (record { names = after; items = other; leads = stays program (at program f xs globals after other); stands = FrameStands.Still a second other words passed }); below = under })
    turned globals after a ds first second rest one other (suc word) words taken passed goes =
        let turn = goes xs in
        (turn.0, at program f xs globals after one, turn.1, record { frame = inl (record { names = after; items = one; leads = stays program (at program f xs globals after one); stands = FrameStands.Still a first one words taken }); below = under })

    decided : (globals after : Rows) (a : Agreement) (use_ : Use) (ds first second : List deep_items.Item) (rest one other : List Item) (word : ℕ) → Decides use_ ds first second → Words text program f a txt after → Alike f a first one → Alike f a second other
        → DecidesBy text program f txt rest one other globals after (Ok word) → Answers text program Alike (deep_steps.used text (text_at text program f ws globals txt ds) use_ word) (at program f xs globals after rest)
    decided globals after a use_ ds first second rest one other word (Decides.ByBranch s r _) words taken passed goes = turned globals after a ds (deep_items.before s ds) (deep_items.before r ds) rest one other word words taken passed goes
    decided globals after a use_ ds first second rest one other word (Decides.ByTest loop _) words taken passed goes = turned globals after a ds (deep_items.body_before loop ds) ds rest one other word words taken passed goes

    held_by : (around : List Around) (use_ : Use) (ds first second : List deep_items.Item) → Decides use_ ds first second → IsHeld around use_
    held_by [] use_ ds first second (Decides.ByBranch s r _) = tt
    held_by _ use_ ds first second _ = tt

    deciding_ends : (globals names : Rows) (items : List Item) (e : Evaluation) (a : Agreement) (use_ : Use) (ds first second : List deep_items.Item) (rest one other : List Item) → Decides use_ ds first second → Alike f a first one → Alike f a second other → Stands program (at program f xs globals names items)
        → EndsAs program f txt false (DecideLeaf text program f a txt rest one other) NoCall rest globals names items e → Ends globals names items ds use_ e
    deciding_ends globals names items e a use_ ds first second rest one other decides taken passed stands (EndsAs.Valued _ _ _ word after comes leaf) =
        answers_on text program Alike (deep_steps.used text (text_at text program f ws globals txt ds) use_ word) (at program f xs globals names items) (at program f xs globals after rest) (comes.leads xs)
        (decided globals after a use_ ds first second rest one other word decides leaf.words taken passed leaf.goes)
    deciding_ends globals names items e a use_ ds first second rest one other decides taken passed stands (EndsAs.Fails _ _ _ trap after comes leaf) = trap_answers globals names after items rest ds use_ trap comes leaf.goes
    deciding_ends globals names items e a use_ ds first second rest one other decides taken passed stands (EndsAs.Stopped _ _ _ trap stops) = stops.stops xs
    deciding_ends globals names items e a use_ ds first second rest one other decides taken passed stands (EndsAs.WholeCall _ _ _ call after comes leaf) = absurd leaf
    deciding_ends globals names items e a use_ ds first second rest one other decides taken passed stands (EndsAs.Within _ _ _ call around opens here later) =
        within_answers globals names items ds use_ call around here (held_by around use_ ds first second decides) stands
        (λ word others. Going.Deciding others (with_word here.after here.x 0 word) here.later (go_on txt others around word) a use_ ds first second rest one other decides taken passed (later word others))

    -- the index of an element comes before the right side
    stores_uses : (globals : Rows) (ds : List deep_items.Item) (place : Place) (e : Evaluation) → deep_steps.uses text (text_at text program f ws globals txt ds) (Stores place) e ≡ deep_steps.stores text (text_at text program f ws globals txt ds) place e
    stores_uses globals ds place (Done word) = refl
    stores_uses globals ds place _ = refl

    held_local : (around : List Around) (x : ℕ) (v : DeepExpr) → IsHeld around (IndexesLocal x v)
    held_local [] x v = tt
    held_local (a ∷ outer) x v = tt

    held_global : (around : List Around) (g : ℕ) (v : DeepExpr) → IsHeld around (IndexesGlobal g v)
    held_global [] g v = tt
    held_global (a ∷ outer) g v = tt

    local_ends : (globals names : Rows) (items : List Item) (e : Evaluation) (a : Agreement) (n m x y : ℕ) (v : DeepExpr) (ds : List deep_items.Item) (between rest is : List Item) → AreBelow n m a → Paired a x y → Alike f a ds is → Stands program (at program f xs globals names items)
        → EndsAs program f txt false (IndexLeaf text program f a txt (InLocalElement y) v between rest is) NoCall between globals names items e → Ends globals names items ds (IndexesLocal x v) e
    local_ends globals names items e a n m x y v ds between rest is below pair alike stands (EndsAs.Valued _ _ _ index after comes leaf) =
        answers_on text program Alike (deep_steps.used text (text_at text program f ws globals txt ds) (IndexesLocal x v) index) (at program f xs globals names items) (at program f xs globals after between) (comes.leads xs)
        (subst (λ move. Answers text program Alike move (at program f xs globals after between)) (stores_uses globals ds (InLocalElement x index) (evaluate txt globals v))
        (storing_answers globals after between (evaluate txt globals v) a a (InLocalElement x index) (InLocalElement y index) ds rest is (PlacesAlike.ToLocalElement a n m x y index below pair) alike
        (leads_stand program (at program f xs globals names items) (at program f xs globals after between) (comes.leads xs) stands) leaf))
    local_ends globals names items e a n m x y v ds between rest is below pair alike stands (EndsAs.Fails _ _ _ trap after comes leaf) = trap_answers globals names after items between ds (IndexesLocal x v) trap comes leaf
    local_ends globals names items e a n m x y v ds between rest is below pair alike stands (EndsAs.Stopped _ _ _ trap stops) = stops.stops xs
    local_ends globals names items e a n m x y v ds between rest is below pair alike stands (EndsAs.WholeCall _ _ _ call after comes leaf) = absurd leaf
    local_ends globals names items e a n m x y v ds between rest is below pair alike stands (EndsAs.Within _ _ _ call around opens here later) =
        within_answers globals names items ds (IndexesLocal x v) call around here (held_local around x v) stands
        (λ word others. Going.IndexingLocal others (with_word here.after here.x 0 word) here.later (go_on txt others around word) a n m x y v ds between rest is below pair alike (later word others))

    global_ends : (globals names : Rows) (items : List Item) (e : Evaluation) (a : Agreement) (g : ℕ) (v : DeepExpr) (ds : List deep_items.Item) (between rest is : List Item) → Alike f a ds is → Stands program (at program f xs globals names items)
        → EndsAs program f txt false (IndexLeaf text program f a txt (InGlobalElement g) v between rest is) NoCall between globals names items e → Ends globals names items ds (IndexesGlobal g v) e
    global_ends globals names items e a g v ds between rest is alike stands (EndsAs.Valued _ _ _ index after comes leaf) =
        answers_on text program Alike (deep_steps.used text (text_at text program f ws globals txt ds) (IndexesGlobal g v) index) (at program f xs globals names items) (at program f xs globals after between) (comes.leads xs)
        (subst (λ move. Answers text program Alike move (at program f xs globals after between)) (stores_uses globals ds (InGlobalElement g index) (evaluate txt globals v))
        (storing_answers globals after between (evaluate txt globals v) a a (InGlobalElement g index) (InGlobalElement g index) ds rest is (PlacesAlike.ToGlobalElement a g index) alike
        (leads_stand program (at program f xs globals names items) (at program f xs globals after between) (comes.leads xs) stands) leaf))
    global_ends globals names items e a g v ds between rest is alike stands (EndsAs.Fails _ _ _ trap after comes leaf) = trap_answers globals names after items between ds (IndexesGlobal g v) trap comes leaf
    global_ends globals names items e a g v ds between rest is alike stands (EndsAs.Stopped _ _ _ trap stops) = stops.stops xs
    global_ends globals names items e a g v ds between rest is alike stands (EndsAs.WholeCall _ _ _ call after comes leaf) = absurd leaf
    global_ends globals names items e a g v ds between rest is alike stands (EndsAs.Within _ _ _ call around opens here later) =
        within_answers globals names items ds (IndexesGlobal g v) call around here (held_global around g v) stands
        (λ word others. Going.IndexingGlobal others (with_word here.after here.x 0 word) here.later (go_on txt others around word) a g v ds between rest is alike (later word others))

    pub uses_answered : (globals names : Rows) (items : List Item) (e : Evaluation) (use_ : Use) (ds : List deep_items.Item) → Stands program (at program f xs globals names items) → Going text program Alike f txt globals names items e use_ ds → Ends globals names items ds use_ e
    uses_answered globals names items e use_ ds stands (Going.Storing _ _ _ _ a b p q _ rest is places alike ends) = storing_answers globals names items e a b p q ds rest is places alike stands ends
    uses_answered globals names items e use_ ds stands (Going.IndexingLocal _ _ _ _ a n m x y v _ between rest is below pair alike ends) = local_ends globals names items e a n m x y v ds between rest is below pair alike stands ends
    uses_answered globals names items e use_ ds stands (Going.IndexingGlobal _ _ _ _ a g v _ between rest is alike ends) = global_ends globals names items e a g v ds between rest is alike stands ends
    uses_answered globals names items e use_ ds stands (Going.Deciding _ _ _ _ a _ _ first second rest one other decides taken passed ends) = deciding_ends globals names items e a use_ ds first second rest one other decides taken passed stands ends
    uses_answered globals names items e use_ ds stands (Going.Returning _ _ _ _ a _ rest is ends) = returning_ends globals names items e a ds rest is stands ends
