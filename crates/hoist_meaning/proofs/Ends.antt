-- How an evaluation of the text ends, and what the rewritten function does meanwhile: from its items it comes in silence to what is left of
-- the expression, or it stops with the same trap, or it makes the same call by the declaration of a new name. What follows that call is told
-- with it: for each result and all globals by then, the function ends as what stands around the call goes on.
use Rattle.hoist_meaning.proofs.Common.{ℕ, ◌+◌, ◌≡◌, refl, sym, ap, subst, ◌∙◌, Bool, true, false, List, [], ◌∷◌, ◌++◌, append_assoc, append-nil, Some, Ok, Err, with_word, Stops, moves, TrapKind, goes_on, CallTree, Called, DeclareWith, ProgramTree, Value, Item, Simply, WaitingFrame, source_machine}
use Rattle.deep_mean.specs.Evaluation.{Around, Ready, Evaluation, Done, Trapped, Calls, of_value, and_then, filled, outward, go_on}
use Rattle.hoist_meaning.proofs.Items.{Leads, stays, leads_on, at, ReadyAlike}

-- the words of each name
abbrev pub Rows : Type 0
Rows = List (List ℕ)

-- ---- what stands around a call goes on, within one construct more

around_nothing : (e : Evaluation) → outward e [] Done ≡ e
around_nothing (Calls call inner) = ap (Calls call) (append-nil inner)
around_nothing _ = refl

outward_within : (text globals : Rows) (e : Evaluation) (outer : List Around) (more : Around) → ((word : ℕ) → go_on text globals (outer ++ more ∷ []) word ≡ and_then (go_on text globals outer word) more (filled text globals more)) →
    outward e (outer ++ more ∷ []) (go_on text globals (outer ++ more ∷ [])) ≡ and_then (outward e outer (go_on text globals outer)) more (filled text globals more)
outward_within text globals (Done word) outer more rest = rest word
outward_within text globals (Trapped trap) outer more rest = refl
outward_within text globals (Calls call inner) outer more rest = ap (Calls call) (sym (append_assoc inner outer (more ∷ [])))

pub go_on_within : (text globals : Rows) (inner : List Around) (more : Around) (word : ℕ) → go_on text globals (inner ++ more ∷ []) word ≡ and_then (go_on text globals inner word) more (filled text globals more)
go_on_within text globals [] more word = around_nothing (filled text globals more word)
go_on_within text globals (around ∷ outer) more word =
    outward_within text globals (filled text globals around word) outer more (λ other. go_on_within text globals outer more other)

-- where it is strict, something stands around each call that isn't all of the statement's expression
abbrev pub Opens : Bool → List Around → Type 0
Opens true [] = ⊥
Opens _ _ = Unit {0}

more_opens : (strict : Bool) (inner : List Around) (more : Around) → Opens strict (inner ++ more ∷ [])
more_opens false inner more = tt
more_opens true [] more = tt
more_opens true (around ∷ inner) more = tt

-- no call is all of a part
abbrev pub NoCall : Rows → Rows → Ready → Type 0
NoCall globals names call = ⊥

module _ (program : ProgramTree) (f : ℕ) (text : Rows) where
  -- from these words of names and these items the function comes in silence to others, whatever frames are below it
  pub record Comes (globals names : Rows) (items : List Item) (after : Rows) (rest : List Item) : Type 0 where
    pub leads : (below : List WaitingFrame) → Leads program (at program f below globals names items) (at program f below globals after rest)

  pub record StopsAt (globals names : Rows) (items : List Item) (trap : TrapKind) : Type 0 where
    pub stops : (below : List WaitingFrame) → (n : ℕ) × (moves (source_machine program) n (at program f below globals names items) ≡ Stops (record { trap = Some trap; globals = globals }))

  -- the call of the text is made by the declaration of variable x, after which the function has `later` to do
  pub record CallsAt (globals names : Rows) (items : List Item) (call : Ready) : Type 0 where
    pub after : Rows
    pub x : ℕ
    pub made : CallTree
    pub later : List Item
    pub comes : Comes globals names items after (Simply (DeclareWith x (Called made)) ∷ later)
    pub alike : ReadyAlike after globals call made

  -- An evaluation of the text ends so, where the function has these words of names and these items: it comes to `rest`, where `Leaf` holds of
  -- the outcome, or, of a call that is all of the statement's expression, `Whole` of the call.
  pub data EndsAs (strict : Bool) (Leaf : Rows → Rows → Value → Type 0) (Whole : Rows → Rows → Ready → Type 0) (rest : List Item) : Rows → Rows → List Item → Evaluation → Type 0 where
    Valued : (globals names : Rows) (items : List Item) (word : ℕ) (after : Rows) → Comes globals names items after rest → Leaf globals after (Ok word) → EndsAs strict Leaf Whole rest globals names items (Done word)
    Fails : (globals names : Rows) (items : List Item) (trap : TrapKind) (after : Rows) → Comes globals names items after rest → Leaf globals after (Err trap) → EndsAs strict Leaf Whole rest globals names items (Trapped trap)
    Stopped : (globals names : Rows) (items : List Item) (trap : TrapKind) → StopsAt globals names items trap → EndsAs strict Leaf Whole rest globals names items (Trapped trap)
    WholeCall : (globals names : Rows) (items : List Item) (call : Ready) (after : Rows) → Comes globals names items after rest → Whole globals after call → EndsAs strict Leaf Whole rest globals names items (Calls call [])
    Within : (globals names : Rows) (items : List Item) (call : Ready) (around : List Around) → Opens strict around → (here : CallsAt globals names items call)
        → ((word : ℕ) (others : Rows) → EndsAs strict Leaf Whole rest others (with_word here.after here.x 0 word) here.later (go_on text others around word)) → EndsAs strict Leaf Whole rest globals names items (Calls call around)

  -- ---- silent steps before it

  pub at_once : (globals names : Rows) (items : List Item) → Comes globals names items names items
  at_once globals names items = record { leads = λ below. stays program (at program f below globals names items) }

  pub comes_on : (globals names middle after : Rows) (items between rest : List Item) → Comes globals names items middle between → Comes globals middle between after rest → Comes globals names items after rest
  comes_on globals names middle after items between rest h g =
      record { leads = λ below. leads_on program (at program f below globals names items) (at program f below globals middle between) (at program f below globals after rest) (h.leads below) (g.leads below) }

  pub stops_on : (globals names middle : Rows) (items between : List Item) (trap : TrapKind) → Comes globals names items middle between → StopsAt globals middle between trap → StopsAt globals names items trap
  stops_on globals names middle items between trap h g = record {
    stops = λ below.
        let m = h.leads below in
        let n = g.stops below in
        (m.0 + n.0, goes_on (source_machine program) m.0 n.0 (at program f below globals names items) (at program f below globals middle between) m.1 ∙ n.1);
  }

  abbrev pub calls_on : (globals names middle : Rows) (items between : List Item) (call : Ready) → Comes globals names items middle between → CallsAt globals middle between call → CallsAt globals names items call
  calls_on globals names middle items between call h g =
      record { after = g.after; x = g.x; made = g.made; later = g.later; comes = comes_on globals names middle g.after items between (Simply (DeclareWith g.x (Called g.made)) ∷ g.later) h g.comes; alike = g.alike }

  module _ (strict : Bool) (Leaf : Rows → Rows → Value → Type 0) (Whole : Rows → Rows → Ready → Type 0) (rest : List Item) where
    pub ends_on : (first : Rows) (start : List Item) {globals names : Rows} {items : List Item} {e : Evaluation} → Comes globals first start names items → EndsAs strict Leaf Whole rest globals names items e → EndsAs strict Leaf Whole rest globals first start e
    ends_on first start h (EndsAs.Valued globals names items word after comes leaf) = EndsAs.Valued globals first start word after (comes_on globals first names after start items rest h comes) leaf
    ends_on first start h (EndsAs.Fails globals names items trap after comes leaf) = EndsAs.Fails globals first start trap after (comes_on globals first names after start items rest h comes) leaf
    ends_on first start h (EndsAs.Stopped globals names items trap stops) = EndsAs.Stopped globals first start trap (stops_on globals first names start items trap h stops)
    ends_on first start h (EndsAs.WholeCall globals names items call after comes whole) = EndsAs.WholeCall globals first start call after (comes_on globals first names after start items rest h comes) whole
    ends_on first start h (EndsAs.Within globals names items call around opens here later) = EndsAs.Within globals first start call around opens (calls_on globals first names start items call h here) later

    -- at the rest itself
    pub outcome_ends : (globals names : Rows) (v : Value) → Leaf globals names v → EndsAs strict Leaf Whole rest globals names rest (of_value v)
    outcome_ends globals names (Ok word) leaf = EndsAs.Valued globals names rest word names (at_once globals names rest) leaf
    outcome_ends globals names (Err trap) leaf = EndsAs.Fails globals names rest trap names (at_once globals names rest) leaf

    -- ---- a part, and then what is done with its value

    -- The law of `and_then`: from the ends of a part, and what follows each value and each trap of it where it is left, come the ends of the
    -- whole. A call in the part is a call in the whole.
    pub then_ends : (Part : Rows → Rows → Value → Type 0) (between : List Item) (around : Around) →
        ((globals after : Rows) (word : ℕ) → Part globals after (Ok word) → EndsAs strict Leaf Whole rest globals after between (filled text globals around word)) →
        ((globals after : Rows) (trap : TrapKind) → Part globals after (Err trap) → EndsAs strict Leaf Whole rest globals after between (Trapped trap)) →
        {globals names : Rows} {items : List Item} {first : Evaluation} → EndsAs false Part NoCall between globals names items first → EndsAs strict Leaf Whole rest globals names items (and_then first around (filled text globals around))
    then_ends Part between around done trapped (EndsAs.Valued globals names items word after comes leaf) =
        ends_on names items comes (done globals after word leaf)
    then_ends Part between around done trapped (EndsAs.Fails globals names items trap after comes leaf) =
        ends_on names items comes (trapped globals after trap leaf)
    then_ends Part between around done trapped (EndsAs.Stopped globals names items trap stops) = EndsAs.Stopped globals names items trap stops
    then_ends Part between around done trapped (EndsAs.WholeCall globals names items call after comes whole) = absurd whole
    then_ends Part between around done trapped (EndsAs.Within globals names items call inner opens here later) =
        EndsAs.Within globals names items call (inner ++ around ∷ []) (more_opens strict inner around) here
        (λ word others. subst (λ e. EndsAs strict Leaf Whole rest others (with_word here.after here.x 0 word) here.later e) (sym (go_on_within text others inner around word))
        (then_ends Part between around done trapped (later word others)))

    -- from where a part is left more is done in silence, and its call is made
    pub reach_ends : (from : Bool) (Part : Rows → Rows → Value → Type 0) (Call : Rows → Rows → Ready → Type 0) (between : List Item) → ((outer : List Around) → Opens from outer → Opens strict outer) →
        ((globals after : Rows) (v : Value) → Part globals after v → EndsAs strict Leaf Whole rest globals after between (of_value v)) →
        ((globals after : Rows) (call : Ready) → Call globals after call → EndsAs strict Leaf Whole rest globals after between (Calls call [])) →
        {globals names : Rows} {items : List Item} {e : Evaluation} → EndsAs from Part Call between globals names items e → EndsAs strict Leaf Whole rest globals names items e
    reach_ends from Part Call between opening outcome calls (EndsAs.Valued globals names items word after comes leaf) = ends_on names items comes (outcome globals after (Ok word) leaf)
    reach_ends from Part Call between opening outcome calls (EndsAs.Fails globals names items trap after comes leaf) = ends_on names items comes (outcome globals after (Err trap) leaf)
    reach_ends from Part Call between opening outcome calls (EndsAs.Stopped globals names items trap stops) = EndsAs.Stopped globals names items trap stops
    reach_ends from Part Call between opening outcome calls (EndsAs.WholeCall globals names items call after comes whole) = ends_on names items comes (calls globals after call whole)
    reach_ends from Part Call between opening outcome calls (EndsAs.Within globals names items call around opens here later) =
        EndsAs.Within globals names items call around (opening around opens) here (λ word others. reach_ends from Part Call between opening outcome calls (later word others))

  -- what is so at the end may be told otherwise
  pub told_ends : (strict : Bool) (Leaf Other : Rows → Rows → Value → Type 0) (Whole Another : Rows → Rows → Ready → Type 0) (rest : List Item) → ((globals after : Rows) (v : Value) → Leaf globals after v → Other globals after v) →
      ((globals after : Rows) (call : Ready) → Whole globals after call → Another globals after call) →
      {globals names : Rows} {items : List Item} {e : Evaluation} → EndsAs strict Leaf Whole rest globals names items e → EndsAs strict Other Another rest globals names items e
  told_ends strict Leaf Other Whole Another rest leaves wholes (EndsAs.Valued globals names items word after comes leaf) = EndsAs.Valued globals names items word after comes (leaves globals after (Ok word) leaf)
  told_ends strict Leaf Other Whole Another rest leaves wholes (EndsAs.Fails globals names items trap after comes leaf) = EndsAs.Fails globals names items trap after comes (leaves globals after (Err trap) leaf)
  told_ends strict Leaf Other Whole Another rest leaves wholes (EndsAs.Stopped globals names items trap stops) = EndsAs.Stopped globals names items trap stops
  told_ends strict Leaf Other Whole Another rest leaves wholes (EndsAs.WholeCall globals names items call after comes whole) = EndsAs.WholeCall globals names items call after comes (wholes globals after call whole)
  told_ends strict Leaf Other Whole Another rest leaves wholes (EndsAs.Within globals names items call around opens here later) =
      EndsAs.Within globals names items call around opens here (λ word others. told_ends strict Leaf Other Whole Another rest leaves wholes (later word others))
