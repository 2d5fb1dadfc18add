-- Where a frame of the tree has items that stand for those of the text, each step of the text is answered.
use Rattle.hoist_meaning.proofs.Common.{ℕ, zero, suc, ◌≡◌, ◌≢◌, refl, sym, ap, subst, ◌∙◌, ◌⊎◌, inl, inr, ⊎_elim, true, false, List, [], ◌∷◌, length, replicate, Some, None, arith, cases_eq, get_or-set_other, length-replicate, row, width, with_zeros, Goes, Asks, Stops, and_then, moves, CallTree, SimpleTree, ProgramTree, Item, Loop, Simply, Enter, Back, Leave, Skip, GiveBack, Place, WaitingFrame, Running, function_at, source_step, source_machine, Stands, DeepExpr, DeepSimple, DeepProgram, evaluate, Stores, IndexesLocal, IndexesGlobal, Branches, Tests, Returns, DeepWaitingFrame}
use Rattle.c_tree.specs.Trees as tree
use Rattle.c_mean.specs.ToDo as items
use Rattle.c_mean.specs.Frames as source_frames
use Rattle.c_mean.specs.Steps as tree_steps
use Rattle.deep_mean.specs.DeepToDo as deep_items
use Rattle.deep_mean.specs.DeepFrames as frames
use Rattle.deep_mean.specs.DeepSteps as deep_steps
use Rattle.hoist_meaning.proofs.Bindings.{Agreement, Both, Paired, AreBelow, NamesStand, paired_below, row_zeroed}
use Rattle.hoist_meaning.proofs.Items.{stays, at}
use Rattle.hoist_meaning.proofs.Ends.{Rows}
use Rattle.hoist_meaning.proofs.Frames.{first_call, Decides, text_at, Words, Going, FrameStands, BelowAlike}
use Rattle.hoist_meaning.proofs.Answered.{CallFits, Answers, one_move, returned_answers}
use Rattle.hoist_meaning.proofs.Uses.{uses_answered}
use Rattle.hoist_meaning.proofs.Alike.{Within, SideSimple, AtDepth, Zeroes, ItemsAlike, leave_alike, Alike, skip_alike}

-- ---- words that are set to 0

pub zeroed_width : (rows : Rows) (x u : ℕ) → width (with_zeros rows x) u ≡ width rows u
zeroed_width rows x u =
    ⊎_elim (λ (e : u ≡ x). ap (width (with_zeros rows x)) e ∙ ap length (row_zeroed rows x) ∙ length-replicate (width rows x) 0 ∙ ap (width rows) (sym e))
    (λ (ne : u ≢ x). ap length (get_or-set_other rows x u (replicate (width rows x) 0) [] ne)) (cases_eq u x)

other_zeroed : (rows : Rows) (x u : ℕ) → u ≢ x → row (with_zeros rows x) u ≡ row rows u
other_zeroed rows x u ne = get_or-set_other rows x u (replicate (width rows x) 0) [] ne

next_zeroed : (a : Agreement) (n m : ℕ) (txt names : Rows) → AreBelow n m a → NamesStand a txt names → NamesStand a (with_zeros txt n) (with_zeros names m)
next_zeroed a n m txt names below stand = λ u v p.
    let w = paired_below a n m u v below p in
    other_zeroed txt n u (λ e. omega (arith, w.0, e)) ∙ stand u v p ∙ sym (other_zeroed names m v (λ e. omega (arith, w.1, e)))

both_zeroed : (a : Agreement) (t : List ℕ) (n m : ℕ) (txt names : Rows) → AreBelow n m a → width txt n ≡ width names m → NamesStand a txt names → (u v : ℕ) → ((u ≡ n) × (v ≡ m)) ⊎ Paired a u v → row (with_zeros txt n) u ≡ row (with_zeros names m) v
both_zeroed a t n m txt names below wide stand u v (inl h) =
    ap (row (with_zeros txt n)) h.0 ∙ row_zeroed txt n ∙ ap (λ (w : ℕ). replicate w 0) wide ∙ sym (row_zeroed names m) ∙ sym (ap (row (with_zeros names m)) h.1)
both_zeroed a t n m txt names below wide stand u v (inr h) = next_zeroed a n m txt names below stand u v h

-- ---- the mark of a turn is no step

frame_left : (text : DeepProgram) (program : ProgramTree) (f : ℕ) (xs : List WaitingFrame) (globals names : Rows) (one other is : List Item) → tree_steps.performs_first program (at program f xs globals names one) is ≡ tree_steps.performs_first program (at program f xs globals names other) is
frame_left text program f xs globals names one other (Enter ∷ is) = frame_left text program f xs globals names one other is
frame_left text program f _ globals names one other _ = refl

deep_frame_left : (text : DeepProgram) (program : ProgramTree) (f : ℕ) (ws : List DeepWaitingFrame) (globals txt : Rows) (one other ds : List deep_items.Item)
    → deep_steps.performs_first text (text_at text program f ws globals txt one) ds ≡ deep_steps.performs_first text (text_at text program f ws globals txt other) ds
deep_frame_left text program f ws globals txt one other (deep_items.Enter ∷ ds) = deep_frame_left text program f ws globals txt one other ds
deep_frame_left text program f _ globals txt one other _ = refl

module _ (text : DeepProgram) (program : ProgramTree) (Loops : ℕ → List Agreement → Agreement → deep_items.Loop → Loop → Type 0) where
  abbrev Items : ℕ → Agreement → List deep_items.Item → List Item → Type 0
  Items f a ds is = Alike text program Loops f a ds is

  -- ---- two states that step alike

  same_step : (move : deep_steps.DeepMove) (s other : Running) → source_step program s ≡ source_step program other → Answers text program Items move other → Answers text program Items move s
  same_step (Goes next) s other e h = (h.0, h.1, ap (λ m. and_then m (moves (source_machine program) h.0)) e ∙ h.2, h.3)
  same_step (Asks question waiting) s other e h = (some_asks h.0 h.2, h.1, asks_there h.0 h.2, h.3)
    where
      some_asks : (n : ℕ) → moves (source_machine program) n other ≡ Asks question h.1 → ℕ
      some_asks n k = n

      asks_there : (n : ℕ) → moves (source_machine program) n other ≡ Asks question h.1 → moves (source_machine program) n s ≡ Asks question h.1
      asks_there zero k = absurd (let wrong : ◌≡◌ {A = tree_steps.SourceMove} (Goes other) (Asks question h.1) = k in cc)
      asks_there (suc n) k = ap (λ m. and_then m (moves (source_machine program) n)) e ∙ k
  same_step (Stops end) s other e h = (h.0, stops_there h.0 h.1)
    where
      stops_there : (n : ℕ) → moves (source_machine program) n other ≡ Stops end → moves (source_machine program) n s ≡ Stops end
      stops_there zero k = absurd (let wrong : ◌≡◌ {A = tree_steps.SourceMove} (Goes other) (Stops end) = k in cc)
      stops_there (suc n) k = ap (λ m. and_then m (moves (source_machine program) n)) e ∙ k

  module _ (tables : text.tables ≡ program.tables)
      (pushed : (g : ℕ) (words : List ℕ) (globals : Rows) → length words ≡ (function_at program g).params
      → FrameStands text program Items g globals (frames.pushed text g words).names (source_frames.pushed program g words).names (frames.pushed text g words).to_do (source_frames.pushed program g words).to_do)
      (fits : (s : Running) (made : CallTree) → Stands program s → first_call s.frame.to_do ≡ Some made → CallFits text program Items made)
      (turns : (f : ℕ) (os : List Agreement) (a : Agreement) (loop : deep_items.Loop) (there : Loop) (ds : List deep_items.Item) (is : List Item) → Loops f os a loop there → ItemsAlike text program Loops f os a ds is
      → Items f a (deep_items.turn_before loop ds) (items.turn_before there is))
      (skips : (f : ℕ) (os : List Agreement) (a : Agreement) (loop : deep_items.Loop) (there : Loop) (ds : List deep_items.Item) (is : List Item) → Loops f os a loop there → ItemsAlike text program Loops f os a ds is
      → Items f a (deep_items.skipped loop ds) (items.skipped there is))
      (f : ℕ) (txt names globals : Rows) (ws : List DeepWaitingFrame) (xs : List WaitingFrame) (under : BelowAlike text program Items ws xs) where
    -- the text and the tree go on at once
    goes_answers : (a : Agreement) (txt' names' : Rows) (ds : List deep_items.Item) (is : List Item) (s : Running) → Words text program f a txt' names' → Items f a ds is → source_step program s ≡ Goes (at program f xs globals names' is)
        → Answers text program Items (Goes (text_at text program f ws globals txt' ds)) s
    goes_answers a txt' names' ds is s words alike e = (
      0,
      at program f xs globals names' is,
      one_move text program Items s (Goes (at program f xs globals names' is)) e,
      record {
        frame = inl (record { names = names'; items = is; leads = stays program (at program f xs globals names' is); stands = FrameStands.Still a ds is words alike });
        below = under;
      },
    )

    weaker : (a b : Agreement) → Within a b → Words text program f b txt names → Words text program f a txt names
    weaker a b within words = record { stand = λ x y p. words.stand x y (within x y p); text_wide = words.text_wide; tree_wide = words.tree_wide }

    zeroed_words : (a b : Agreement) (n m : ℕ) → NamesStand b (with_zeros txt n) (with_zeros names m) → Words text program f a txt names → Words text program f b (with_zeros txt n) (with_zeros names m)
    zeroed_words a b n m stand words = record { stand = stand; text_wide = λ u. zeroed_width txt n u ∙ words.text_wide u; tree_wide = λ u. zeroed_width names m u ∙ words.tree_wide u }

    zeroing_answers : (a b : Agreement) (d : DeepSimple) (t : SimpleTree) (ds : List deep_items.Item) (is : List Item) → Zeroes text program f a b d t → Words text program f a txt names → Items f b ds is
        → Answers text program Items (deep_steps.does text (text_at text program f ws globals txt ds) d) (at program f xs globals names (Simply t ∷ is))
    zeroing_answers a b d t ds is (Zeroes.Scalars _ k n m below wide) words alike =
        goes_answers (Both k n m false a) (with_zeros txt n) (with_zeros names m) ds is (at program f xs globals names (Simply (tree.DeclareScalar m) ∷ is))
        (zeroed_words a (Both k n m false a) n m (both_zeroed a k n m txt names below (words.text_wide n ∙ wide ∙ sym (words.tree_wide m)) words.stand) words) alike refl
    zeroing_answers a b d t ds is (Zeroes.Arrays _ k n m size below wide) words alike =
        goes_answers (Both k n m true a) (with_zeros txt n) (with_zeros names m) ds is (at program f xs globals names (Simply (tree.DeclareArray m size) ∷ is))
        (zeroed_words a (Both k n m true a) n m (both_zeroed a k n m txt names below (words.text_wide n ∙ wide ∙ sym (words.tree_wide m)) words.stand) words) alike refl
    zeroing_answers a b d t ds is (Zeroes.FixedScalars _ n m below) words alike =
        goes_answers a (with_zeros txt n) (with_zeros names m) ds is (at program f xs globals names (Simply (tree.DeclareScalar m) ∷ is)) (zeroed_words a a n m (next_zeroed a n m txt names below words.stand) words) alike refl
    zeroing_answers a b d t ds is (Zeroes.FixedArrays _ n m size below) words alike =
        goes_answers a (with_zeros txt n) (with_zeros names m) ds is (at program f xs globals names (Simply (tree.DeclareArray m size) ∷ is)) (zeroed_words a a n m (next_zeroed a n m txt names below words.stand) words) alike refl

    side_does : (d : DeepSimple) (e : DeepExpr) (p : Place) (ds : List deep_items.Item) → SideSimple d e p
        → deep_steps.uses text (text_at text program f ws globals txt ds) (Stores p) (evaluate txt globals e) ≡ deep_steps.does text (text_at text program f ws globals txt ds) d
    side_does d e p ds (SideSimple.Declares x _) = refl
    side_does d e p ds _ = refl

    abbrev Goal : List deep_items.Item → List Item → Type 0
    Goal ds is = Answers text program Items (deep_steps.deep_step text (text_at text program f ws globals txt ds)) (at program f xs globals names is)

    pub still : (os : List Agreement) (a : Agreement) (ds : List deep_items.Item) (is : List Item) → Words text program f a txt names → Stands program (at program f xs globals names is) → ItemsAlike text program Loops f os a ds is → Goal ds is
    still os a ds is words stands (ItemsAlike.Nothing _ _) = returned_answers text program Items f txt names globals [] [] ws xs 0 (at program f xs globals names []) under refl
    still os a ds is words stands (ItemsAlike.Outer _ b _ _ _ within h) = still os b ds is (weaker b a within words) stands h
    still os a ds is words stands (ItemsAlike.Storing _ _ b p q d e ds' rest is' _ simple places goes passes h) =
        subst (λ move. Answers text program Items move (at program f xs globals names is)) (side_does d e p ds' simple)
        (uses_answered text program Items tables pushed fits f txt ws xs under globals names is (evaluate txt globals e) (Stores p) ds' stands
        (Going.Storing globals names is (evaluate txt globals e) a b p q ds' rest is' places (os, h) (goes globals txt names words)))
    still os a ds is words stands (ItemsAlike.Zeroing _ _ b d t ds' is' zeroes h) = zeroing_answers a b d t ds' is' zeroes words (os, h)
    still os a ds is words stands (ItemsAlike.ElementLocal _ _ k m x y i v ds' between rest is' _ below pair goes passes h) =
        uses_answered text program Items tables pushed fits f txt ws xs under globals names is (evaluate txt globals i) (IndexesLocal x v) ds' stands
        (Going.IndexingLocal globals names is (evaluate txt globals i) a k m x y v ds' between rest is' below pair (os, h) (goes globals txt names words))
    still os a ds is words stands (ItemsAlike.ElementGlobal _ _ g i v ds' between rest is' _ goes passes h) =
        uses_answered text program Items tables pushed fits f txt ws xs under globals names is (evaluate txt globals i) (IndexesGlobal g v) ds' stands
        (Going.IndexingGlobal globals names is (evaluate txt globals i) a g v ds' between rest is' (os, h) (goes globals txt names words))
    still os a ds is words stands (ItemsAlike.Choosing _ _ c s r ds' rest one other is' _ goes passes taken passed h) =
        uses_answered text program Items tables pushed fits f txt ws xs under globals names is (evaluate txt globals c) (Branches s r) ds' stands
        (Going.Deciding globals names is (evaluate txt globals c) a (Branches s r) ds' (deep_items.before s ds') (deep_items.before r ds') rest one other (Decides.ByBranch s r ds') (os, taken) (os, passed) (goes globals txt names words))
    still os a ds is words stands (ItemsAlike.Testing _ _ c loop ds' rest one is' _ goes passes body h) =
        uses_answered text program Items tables pushed fits f txt ws xs under globals names is (evaluate txt globals c) (Tests loop) ds' stands
        (Going.Deciding globals names is (evaluate txt globals c) a (Tests loop) ds' (deep_items.body_before loop ds') ds' rest one is' (Decides.ByTest loop ds') (a ∷ os, body) (os, h) (goes globals txt names words))
    still os a ds is words stands (ItemsAlike.Entering _ o _ ds' is' h) =
        subst (λ move. Answers text program Items move (at program f xs globals names (Enter ∷ is'))) (deep_frame_left text program f ws globals txt ds' (deep_items.Enter ∷ ds') ds')
        (same_step (deep_steps.deep_step text (text_at text program f ws globals txt ds')) (at program f xs globals names (Enter ∷ is')) (at program f xs globals names is') (frame_left text program f xs globals names (Enter ∷ is') is' is')
        (still (o ∷ os) a ds' is' words (record { running = stands.running.1; below = stands.below }) h))
    still os a ds is words stands (ItemsAlike.Turning ps _ loop there ds' is' loops h) =
        goes_answers a txt names (deep_items.turn_before loop ds') (items.turn_before there is') (at program f xs globals names (Back there ∷ is')) words (turns f ps a loop there ds' is' loops h) refl
    still os a ds is words stands (ItemsAlike.Leaving ps o _ b ds' is' within h) =
        goes_answers o txt names (deep_items.after_leave 0 ds') (items.after_leave 0 is') (at program f xs globals names (Leave ∷ is')) (weaker o a within words) (ps, leave_alike text program Loops f (o ∷ ps) ps b o 0 ds' is' (AtDepth.AtTop o ps) h) refl
    still os a ds is words stands (ItemsAlike.Skipping ps o _ b ds' is' within h) =
        goes_answers o txt names (deep_items.after_skip 0 ds') (items.after_skip 0 is') (at program f xs globals names (Skip ∷ is')) (weaker o a within words) (skip_alike text program Loops skips f (o ∷ ps) ps b o 0 ds' is' (AtDepth.AtTop o ps) h) refl
    still os a ds is words stands (ItemsAlike.GivingNone _ _ b ds' is' h) = returned_answers text program Items f txt names globals ds' is' ws xs 0 (at program f xs globals names (GiveBack None ∷ is')) under refl
    still os a ds is words stands (ItemsAlike.GivingSome _ _ b e ds' rest is' _ goes passes h) =
        uses_answered text program Items tables pushed fits f txt ws xs under globals names is (evaluate txt globals e) Returns ds' stands
        (Going.Returning globals names is (evaluate txt globals e) a ds' rest is' (goes globals txt names words))
