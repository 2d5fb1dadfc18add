-- A program and a text run the same where each function of the one is sound for that of the other.
use Rattle.hoist_meaning.proofs.Common.{ℕ, ◌≡◌, sym, ap, subst, ◌∙◌, List, [], ◌++◌, length, drop, Some, None, zeros, scalars, RawStmtTrees, raw_in_order, CallTree, CallFunction, ProgramTree, IsWellScoped, Item, Loop, WaitingFrame, Running, function_at, Stands, Spot, stmts_numbered, DeepProgram, DeepWaitingFrame, all_hoisted, RunsTheSame}
use Rattle.c_mean.specs.ToDo as items
use Rattle.c_mean.specs.Frames as source_frames
use Rattle.scope_rules.specs.Statements as tree_stmts
use Rattle.deep_mean.specs.DeepToDo as deep_items
use Rattle.deep_mean.specs.DeepFrames as frames
use Rattle.deep_mean.specs.DeepSteps as deep_steps
use Rattle.deep_mean.specs.Naming as deep
use Rattle.hoist_meaning.proofs.Bindings.{Agreement}
use Rattle.hoist_meaning.proofs.Items.{items_of, at}
use Rattle.hoist_meaning.proofs.Ends.{Rows}
use Rattle.hoist_meaning.proofs.Frames.{first_call, text_at, Words, FrameStands, BelowAlike}
use Rattle.hoist_meaning.proofs.Answered.{CallFits, Answers}
use Rattle.hoist_meaning.proofs.Threads.{Running_alike, Waiting_alike, threads_follow}
use Rattle.hoist_meaning.proofs.Fitting.{Fits, first_fits, main_fits, started_fits}
use Rattle.hoist_meaning.proofs.Alike.{ItemsAlike, Alike}
use Rattle.hoist_meaning.proofs.Stills.{still}
use Rattle.hoist_meaning.proofs.Sound.{StmtsSound}
use Rattle.hoist_meaning.proofs.Statements.{Led, Loops}
use Rattle.hoist_meaning.proofs.Texts.{stmts_items, turns_alike, skips_alike}
use Rattle.hoist_meaning.proofs.Schedules.{follow_same}

module _ (text : DeepProgram) (program : ProgramTree) (ns : List ℕ) where
  -- Function f of the text and of the tree: the body of the one is rewritten to that of the other, and its statements are sound from where it
  -- begins; where it is called with as many arguments as it has parameters, names stand there.
  pub record FunctionSound (f : ℕ) : Type 0 where
    pub body : RawStmtTrees
    pub first : Agreement
    pub last : Agreement
    pub there : Spot
    pub here : Spot
    pub in_text : (frames.function_at text f).body ≡ deep.stmts_of there body
    pub in_tree : (function_at program f).body ≡ stmts_numbered ns (tree_stmts.stmts_of here (raw_in_order (all_hoisted 0 body)))
    pub sound : StmtsSound text program ns f None first last 0 there here body
    pub words : (arguments : List ℕ) → length arguments ≡ (function_at program f).params
        → Words text program f first (scalars arguments ++ zeros (drop (length arguments) (frames.function_at text f).sizes)) (scalars arguments ++ zeros (drop (length arguments) (function_at program f).sizes))

  module _ (tables : text.tables ≡ program.tables) (whole : IsWellScoped program) (functions : (f : ℕ) → FunctionSound f) where
    abbrev These : ℕ → Agreement → List deep_items.Item → List Item → Type 0
    These f a ds is = Alike text program (Loops text program ns) f a ds is

    pushed_stands : (g : ℕ) (words : List ℕ) (globals : Rows) → length words ≡ (function_at program g).params
        → FrameStands text program These g globals (frames.pushed text g words).names (source_frames.pushed program g words).names (frames.pushed text g words).to_do (source_frames.pushed program g words).to_do
    pushed_stands g words globals many =
        let h = functions g in
        let alike : ItemsAlike text program (Loops text program ns) g [] h.first (deep_items.all_before (deep.stmts_of h.there h.body) []) (items_of ns h.here (all_hoisted 0 h.body) []) =
        stmts_items text program ns g None h.first h.last 0 h.there h.here h.body [] [] [] (Led.NoLoop []) h.sound (ItemsAlike.Nothing [] h.last) in
        FrameStands.Still h.first (deep_items.all_before (frames.function_at text g).body []) (items.all_before (function_at program g).body []) (h.words words many) (
          [],
          subst (λ b. ItemsAlike text program (Loops text program ns) g [] h.first (deep_items.all_before b []) (items.all_before (function_at program g).body [])) (sym h.in_text)
              (subst (λ b. ItemsAlike text program (Loops text program ns) g [] h.first (deep_items.all_before (deep.stmts_of h.there h.body) []) (items.all_before b [])) (sym h.in_tree) alike),
        )

    call_fits : (made : CallTree) → Fits program made → CallFits text program These made
    call_fits (CallFunction k g es) h = h
    call_fits _ h = h

    calls_fit : (s : Running) (made : CallTree) → Stands program s → first_call s.frame.to_do ≡ Some made → CallFits text program These made
    calls_fit s made h e = call_fits made (first_fits program whole s made h e)

    turns : (f : ℕ) (os : List Agreement) (a : Agreement) (loop : deep_items.Loop) (there : Loop) (ds : List deep_items.Item) (is : List Item) → Loops text program ns f os a loop there → ItemsAlike text program (Loops text program ns) f os a ds is
        → These f a (deep_items.turn_before loop ds) (items.turn_before there is)
    turns f os a loop there ds is loops h = (os, turns_alike text program ns f os a loop there ds is loops h)

    skips : (f : ℕ) (os : List Agreement) (a : Agreement) (loop : deep_items.Loop) (there : Loop) (ds : List deep_items.Item) (is : List Item) → Loops text program ns f os a loop there → ItemsAlike text program (Loops text program ns) f os a ds is
        → These f a (deep_items.skipped loop ds) (items.skipped there is)
    skips f os a loop there ds is loops h = skips_alike text program ns f os a loop there ds is loops h

    still_answers : (f : ℕ) (a : Agreement) (txt names globals : Rows) (ds : List deep_items.Item) (is : List Item) (ws : List DeepWaitingFrame) (xs : List WaitingFrame) → Words text program f a txt names → These f a ds is → BelowAlike text program These ws xs
        → Stands program (at program f xs globals names is) → Answers text program These (deep_steps.deep_step text (text_at text program f ws globals txt ds)) (at program f xs globals names is)
    still_answers f a txt names globals ds is ws xs words alike under stands =
        still text program (Loops text program ns) tables pushed_stands calls_fit turns skips f txt names globals ws xs under alike.0 a ds is words stands alike.1

    pub programs_same : text.main ≡ program.main → text.globals ≡ program.globals → RunsTheSame program text
    programs_same mains globals =
        follow_same text program (Running_alike text program These tables pushed_stands calls_fit still_answers) (Waiting_alike text program These tables pushed_stands calls_fit still_answers)
        (threads_follow text program These tables pushed_stands calls_fit still_answers (main_fits program whole ∙ ap (λ f. (function_at program f).params) (sym mains))
        (λ s f argument here waiting h e. started_fits program whole s f argument here waiting h e))
        mains globals
