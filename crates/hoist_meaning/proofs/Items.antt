-- The items of lists of statements, and the silent steps of the rewritten function at the items that the rewriting adds: the
-- declaration of a new name, the setting of one, and a branch. Nothing of these changes a global.
use Rattle.hoist_meaning.proofs.Common.{ℕ, suc, ◌+◌, ◌≡◌, refl, ap, ◌∙◌, List, [], ◌∷◌, ◌++◌, Some, slice_index_or, Result, Ok, Err, with_word, with_zeros, Finish, call_of, spawn_of, Goes, Stops, and_then, moves, TrapKind, goes_on, number_of, RawStmtTree, ExprTree, CallTree, CallFunction, CallTable, CallSpawn, CallModelled, Computed, Called, DeclareScalar, DeclareWith, SetLocal, StmtTree, ProgramTree, Value, value, values, with_first, raw_in_order, InLocal, WaitingFrame, Running, SourceMove, on_value, trapped, assigned, branched, entered, entered_by, asks, asks_if, source_step, source_machine, Spot, stmt_of, stmts_of, stmt_after, stmts_after, stmt_numbered, stmts_numbered, Function, Modelled, Spawned, Ready, ReadyCall, ReadyTableCall}
use Rattle.c_mean.specs.ToDo.{Item, Simply, Choose, before, all_before}

-- the items of statements from a place of the rewritten tree on, whose calls have the numbers of a table, and the place after them
abbrev pub items_of : List ℕ → Spot → List RawStmtTree → List Item → List Item
items_of ns s ss rest = all_before (stmts_numbered ns (stmts_of s (raw_in_order ss))) rest

abbrev pub after : Spot → List RawStmtTree → Spot
after s ss = stmts_after s (raw_in_order ss)

-- ---- one list of statements after another

pub after_both : (s : Spot) (xs ys : List RawStmtTree) → after s (xs ++ ys) ≡ after (after s xs) ys
after_both s [] ys = refl
after_both s (x ∷ xs) ys = after_both (stmt_after s x) xs ys

pub items_both : (ns : List ℕ) (s : Spot) (xs ys : List RawStmtTree) (rest : List Item) → items_of ns s (xs ++ ys) rest ≡ items_of ns s xs (items_of ns (after s xs) ys rest)
items_both ns s [] ys rest = refl
items_both ns s (x ∷ xs) ys rest = ap (before (stmt_numbered ns (stmt_of s x))) (items_both ns (stmt_after s x) xs ys rest)

pub items_three : (ns : List ℕ) (s : Spot) (xs ys zs : List RawStmtTree) (rest : List Item) → items_of ns s (xs ++ ys ++ zs) rest ≡ items_of ns s xs (items_of ns (after s xs) ys (items_of ns (after (after s xs) ys) zs rest))
items_three ns s xs ys zs rest =
    items_both ns s (xs ++ ys) zs rest ∙ items_both ns s xs ys (items_of ns (after s (xs ++ ys)) zs rest) ∙ ap (λ t. items_of ns s xs (items_of ns (after s xs) ys (items_of ns t zs rest))) (after_both s xs ys)

-- ---- silent steps

-- the parts of a call, in the order in which they are evaluated
abbrev pub call_parts : CallTree → List ExprTree
call_parts (CallFunction s f es) = es
call_parts (CallTable s t i e) = i ∷ e ∷ []
call_parts (CallSpawn s f e) = e ∷ []
call_parts (CallModelled s m es) = es

-- a trap, as the outcome of one value
abbrev first_outcome : Result (List ℕ) TrapKind → Value
first_outcome (Ok words) = Ok 0
first_outcome (Err trap) = Err trap

module _ (program : ProgramTree) where
  abbrev pub Leads : Running → Running → Type 0
  Leads one other = (n : ℕ) × (moves (source_machine program) n one ≡ Goes other)

  pub stays : (state : Running) → Leads state state
  stays state = (0, refl)

  pub leads_on : (one middle other : Running) → Leads one middle → Leads middle other → Leads one other
  leads_on one middle other h g = (h.0 + g.0, goes_on (source_machine program) h.0 g.0 one middle h.1 ∙ g.1)

  pub one_step : (one other : Running) → source_step program one ≡ Goes other → Leads one other
  one_step one other e = (1, ap (λ m. and_then m (moves (source_machine program) 0)) e)

  pub stop_step : (one : Running) (end : Finish) → source_step program one ≡ Stops end → (n : ℕ) × (moves (source_machine program) n one ≡ Stops end)
  stop_step one end e = (1, ap (λ m. and_then m (moves (source_machine program) 0)) e)

  module _ (f : ℕ) (below : List WaitingFrame) (globals : List (List ℕ)) where
    -- a thread in this function, with these words of names and these items to do
    abbrev pub at : List (List ℕ) → List Item → Running
    at names items = record { frame = record { function = f; names = names; to_do = items }; below = below; globals = globals }

    pub declared_leads : (names : List (List ℕ)) (x word : ℕ) (e : ExprTree) (rest : List Item) → value names globals e ≡ Ok word → Leads (at names (Simply (DeclareWith x (Computed e)) ∷ rest)) (at (with_word names x 0 word) rest)
    declared_leads names x word e rest h =
        one_step (at names (Simply (DeclareWith x (Computed e)) ∷ rest)) (at (with_word names x 0 word) rest) (ap (λ v. on_value (at names rest) v (assigned (at names rest) (InLocal x))) h)

    pub set_leads : (names : List (List ℕ)) (x word : ℕ) (e : ExprTree) (rest : List Item) → value names globals e ≡ Ok word → Leads (at names (Simply (SetLocal x (Computed e)) ∷ rest)) (at (with_word names x 0 word) rest)
    set_leads names x word e rest h =
        one_step (at names (Simply (SetLocal x (Computed e)) ∷ rest)) (at (with_word names x 0 word) rest) (ap (λ v. on_value (at names rest) v (assigned (at names rest) (InLocal x))) h)

    pub zeroed_leads : (names : List (List ℕ)) (x : ℕ) (rest : List Item) → Leads (at names (Simply (DeclareScalar x) ∷ rest)) (at (with_zeros names x) rest)
    zeroed_leads names x rest = one_step (at names (Simply (DeclareScalar x) ∷ rest)) (at (with_zeros names x) rest) refl

    pub taken_leads : (names : List (List ℕ)) (c : ExprTree) (s r : StmtTree) (n : ℕ) (rest : List Item) → value names globals c ≡ Ok (suc n) → Leads (at names (Choose c s r ∷ rest)) (at names (before s rest))
    taken_leads names c s r n rest h =
        one_step (at names (Choose c s r ∷ rest)) (at names (before s rest)) (ap (λ v. on_value (at names rest) v (branched (at names rest) (before s rest) (before r rest))) h)

    pub passed_leads : (names : List (List ℕ)) (c : ExprTree) (s r : StmtTree) (rest : List Item) → value names globals c ≡ Ok 0 → Leads (at names (Choose c s r ∷ rest)) (at names (before r rest))
    passed_leads names c s r rest h =
        one_step (at names (Choose c s r ∷ rest)) (at names (before r rest)) (ap (λ v. on_value (at names rest) v (branched (at names rest) (before s rest) (before r rest))) h)

    -- a trap on the way to the value
    pub declared_stops : (names : List (List ℕ)) (x : ℕ) (trap : TrapKind) (e : ExprTree) (rest : List Item) → value names globals e ≡ Err trap
        → source_step program (at names (Simply (DeclareWith x (Computed e)) ∷ rest)) ≡ Stops (record { trap = Some trap; globals = globals })
    declared_stops names x trap e rest h = ap (λ v. on_value (at names rest) v (assigned (at names rest) (InLocal x))) h

    pub set_stops : (names : List (List ℕ)) (x : ℕ) (trap : TrapKind) (e : ExprTree) (rest : List Item) → value names globals e ≡ Err trap
        → source_step program (at names (Simply (SetLocal x (Computed e)) ∷ rest)) ≡ Stops (record { trap = Some trap; globals = globals })
    set_stops names x trap e rest h = ap (λ v. on_value (at names rest) v (assigned (at names rest) (InLocal x))) h

    pub choice_stops : (names : List (List ℕ)) (trap : TrapKind) (c : ExprTree) (s r : StmtTree) (rest : List Item) → value names globals c ≡ Err trap
        → source_step program (at names (Choose c s r ∷ rest)) ≡ Stops (record { trap = Some trap; globals = globals })
    choice_stops names trap c s r rest h = ap (λ v. on_value (at names rest) v (branched (at names rest) (before s rest) (before r rest))) h

    -- a trap on the way to the values of a call's parts
    one_trap : (v : Value) (trap : TrapKind) → with_first v (Ok []) ≡ Err trap → v ≡ Err trap
    one_trap (Ok word) trap h = absurd (let wrong = h in cc)
    one_trap (Err other) trap h = ap first_outcome h

    two_trap : (thread : Running) (i e : Value) (trap : TrapKind) (use_ : ℕ → ℕ → SourceMove) → with_first i (with_first e (Ok [])) ≡ Err trap → on_value thread i (λ index. on_value thread e (use_ index)) ≡ trapped thread trap
    two_trap thread (Ok index) (Ok word) trap use_ h = absurd (let wrong = h in cc)
    two_trap thread _ _ trap use_ h = ap (λ r. on_value thread r (λ words. Goes thread)) h

    pub call_stops : (names : List (List ℕ)) (x : ℕ) (trap : TrapKind) (made : CallTree) (rest : List Item) → values names globals (call_parts made) ≡ Err trap
        → source_step program (at names (Simply (DeclareWith x (Called made)) ∷ rest)) ≡ Stops (record { trap = Some trap; globals = globals })
    call_stops names x trap (CallFunction s g es) rest h = ap (λ r. on_value (at names rest) r (λ words. entered program (at names rest) s (InLocal x) g words)) h
    call_stops names x trap (CallTable s t i e) rest h =
        two_trap (at names rest) (value names globals i) (value names globals e) trap (λ index argument. entered_by (slice_index_or program.tables t []) program (at names rest) s (InLocal x) index argument) h
    call_stops names x trap (CallSpawn s g e) rest h = ap (λ r. on_value (at names rest) r (λ argument. asks (at names rest) s (InLocal x) (spawn_of g argument))) (one_trap (value names globals e) trap h)
    call_stops names x trap (CallModelled s m es) rest h = ap (λ r. on_value (at names rest) r (λ words. asks_if (at names rest) s (InLocal x) (call_of (number_of m) words))) h

-- ---- a call of the text whose arguments are values, and a call of the rewritten tree whose arguments have them

abbrev pub ReadyAlike : List (List ℕ) → List (List ℕ) → Ready → CallTree → Type 0
ReadyAlike names globals (ReadyCall s (Function f) words) (CallFunction k g es) = (k ≡ s) × (g ≡ f) × (values names globals es ≡ Ok words)
ReadyAlike names globals (ReadyCall s (Modelled m) words) (CallModelled k o es) = (k ≡ s) × (o ≡ m) × (values names globals es ≡ Ok words)
ReadyAlike names globals (ReadyCall s (Spawned f) words) (CallSpawn k g e) = (k ≡ s) × (g ≡ f) × (values names globals (e ∷ []) ≡ Ok words)
ReadyAlike names globals (ReadyTableCall s t i word) (CallTable k u e d) = (k ≡ s) × (u ≡ t) × (value names globals e ≡ Ok i) × (value names globals d ≡ Ok word)
ReadyAlike names globals _ _ = ⊥
