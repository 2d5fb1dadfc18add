use Rattle.source_runs.proofs.Common.{◌<◌, ◌≤◌, ◌∷◌, [], ℕ, List, length, map, sym, ap, ◌∙◌, subst, refl, Ok, slice_index, slice_index_or, length-map, err_from_is_err_and, expr_tree, Expr, counted, scoped_in_range, IsInRange, rows_of, widths_of, all_valued, entered, context_at, sizes_at, tree_of, IsThread, globals_of, place_of, running_of, Thread, signature_of, IsMember}
use Rattle.cap_word.specs.ModelledCalls.{number_of}
use Rattle.c_tree.specs.WellScoped.{IsExprScoped}
use Rattle.source_runs.proofs.Functions.{member-at, signed-count}
use Rattle.source_runs.proofs.Moved.{asked-so, entered-so, halt-stops, made-so, member-entered, no-member, went-so}
use Rattle.source_runs.proofs.Ranges.{all-in-range}
use Rattle.source_runs.proofs.interpreter.Interpreter.call.Goals as goal
use Rattle.source_runs.proofs.interpreter.Interpreter.call.Goals.{Else-index-members, Start}

-- the member of the table that is called
abbrev index_of : Else-index-members → ℕ
index_of c = c.in_ok-index-in-Table.index

within : (c : Else-index-members) → index_of c < length (slice_index_or (tree_of c.args.self.now).tables c.in-Table.table [])
within c = subst (λ (ms : List ℕ). index_of c < length ms) c.members-members.ensures c.if-index-members.false

-- it is a function of the program
member : (c : Else-index-members) → IsMember (map signature_of (tree_of c.args.self.now).functions) (slice_index c.members-members.result.now (index_of c))
member c =
    let tree = tree_of c.args.self.now in
    let h = rw c.in-Table.is at c.requires.scoped in
    subst (λ (ms : List ℕ). IsMember (map signature_of tree.functions) (slice_index ms (index_of c))) (sym c.members-members.ensures)
    (member-at tree c.in-Table.table (index_of c) c.requires.ready.scoped h.scoped.0 (within c))

member-there : (c : Else-index-members) → slice_index c.members-members.result.now (index_of c) < length (tree_of c.args.self.now).functions
member-there c = signed-count (tree_of c.args.self.now) (slice_index c.members-members.result.now (index_of c)) (member c).0

-- ---- what the calls require

-- an expression in scope is in range
in-range : (c : Start) (scope : List ℕ) (e : Expr) → IsExprScoped (context_at (tree_of c.args.self.now) c.args.thread.now.front.function) scope (expr_tree e) →
    IsInRange (sizes_at (tree_of c.args.self.now) c.args.thread.now.front.function) (widths_of (tree_of c.args.self.now).globals) (expr_tree e)
in-range c scope e h = scoped_in_range (context_at (tree_of c.args.self.now) c.args.thread.now.front.function) scope (expr_tree e) h

pub arguments-requires : goal.arguments-requires
arguments-requires c =
    let tree = tree_of c.args.self.now in
    let f = c.args.thread.now.front.function in
    let h = rw c.in-Function.is at c.requires.scoped in
    record {
      ready = c.requires.ready;
      frame = c.requires.thread.front;
      full = c.requires.thread.globals;
      there = signed-count tree c.in-Function.function h.scoped.0;
      in_range = rw c.deref.ensures.value (all-in-range (context_at tree f) h.scope (map expr_tree c.in-Function.arguments.items) h.scoped.2);
    }

pub enter-requires : goal.enter-requires
enter-requires c =
    let tree = tree_of c.args.self.now in
    let names = rows_of (sizes_at tree c.args.thread.now.front.function) c.args.thread.now.front.names.items in
    let h = rw c.in-Function.is at c.requires.scoped in
    record {
      ready = c.requires.ready;
      frame = c.requires.thread.front;
      place = c.requires.place;
      there = signed-count tree c.in-Function.function h.scoped.0;
      fits = sym (counted names (globals_of tree c.args.globals.now.items) (map expr_tree c.deref.result.now) c.in_ok-words-in-Function.words.items
          c.in_ok-words-in-Function.ensures ∙ (ap (λ (es : List Expr). length (map expr_tree es)) c.deref.ensures.value ∙ h.scoped.1));
    }

pub members-members-requires : goal.members-members-requires
members-members-requires c = let h = rw c.in-Table.is at c.requires.scoped in h.scoped.0

pub value-requires : goal.value-requires
value-requires c =
    let h = rw c.in-Table.is at c.requires.scoped in
    record {
      ready = c.requires.ready;
      frame = c.requires.thread.front;
      full = c.requires.thread.globals;
      in_range = rw c.deref-in-Table.ensures (in-range (goal.at.value-requires c).Start h.scope c.in-Table.index.value h.scoped.1);
    }

pub value-requires-in-Table : goal.value-requires-in-Table
value-requires-in-Table c =
    let h = rw c.in-Table.is at c.requires.scoped in
    record {
      ready = c.requires.ready;
      frame = c.requires.thread.front;
      full = c.requires.thread.globals;
      in_range = rw c.deref-in-Table-2.ensures (in-range (goal.at.value-requires-in-Table c).Start h.scope c.in-Table.argument.value h.scoped.2);
    }

pub one_word-requires : goal.one_word-requires
one_word-requires c = record { ready = c.requires.ready; there = member-there (goal.at.one_word-requires c).Else-index-members }

pub enter-requires-in-Table : goal.enter-requires-in-Table
enter-requires-in-Table c =
    let at = (goal.at.enter-requires-in-Table c).Else-index-members in
    record {
      ready = c.requires.ready;
      frame = c.requires.thread.front;
      place = c.requires.place;
      there = member-there at;
      fits = (member at).1 ∙ ap length (sym c.in_ok-words-in-Table.ensures);
    }

pub value-requires-in-Spawn : goal.value-requires-in-Spawn
value-requires-in-Spawn c =
    let h = rw c.in-Spawn.is at c.requires.scoped in
    record {
      ready = c.requires.ready;
      frame = c.requires.thread.front;
      full = c.requires.thread.globals;
      in_range = rw c.deref-in-Spawn.ensures (in-range (goal.at.value-requires-in-Spawn c).Start h.scope c.in-Spawn.argument.value h.scoped.2);
    }

pub asked-requires : goal.asked-requires
asked-requires c =
    let tree = tree_of c.args.self.now in
    let f = c.args.thread.now.front.function in
    let h = rw c.in-Modelled.is at c.requires.scoped in
    record {
      ready = c.requires.ready;
      frame = c.requires.thread.front;
      full = c.requires.thread.globals;
      in_range = rw c.deref-in-Modelled.ensures.value (all-in-range (context_at tree f) h.scope (map expr_tree c.in-Modelled.arguments.items) h.scoped.1);
      count = ap length c.deref-in-Modelled.ensures.value ∙ (sym (length-map c.in-Modelled.arguments.items expr_tree) ∙ h.scoped.0);
    }

-- ---- a function

pub returns-in_err-words-in-Function : goal.returns-in_err-words-in-Function
returns-in_err-words-in-Function c =
    let running = running_of (tree_of c.args.self.now) c.args.thread.now c.args.globals.now.items in
    let p = err_from_is_err_and c.from_residual.result c.from_residual.ensures.1 in
    rw (c.in-Function.is, ← c.deref.ensures.value, p.1, p.2)
    (halt-stops (tree_of c.args.self.now) running c.args.globals.now.items c.args.thread.now (all_valued running (map expr_tree c.deref.result.now))
    (λ arguments. entered (tree_of c.args.self.now) running c.in-Function.site (place_of c.args.place) c.in-Function.function arguments) _
    c.in_err-words-in-Function.ensures refl)

pub returns-in_ok-words-in-Function : goal.returns-in_ok-words-in-Function
returns-in_ok-words-in-Function c =
    let tree = tree_of c.args.self.now in
    let words = c.args.globals.now.items in
    let running = running_of tree c.args.thread.now words in
    let place = place_of c.args.place in
    let call = c.in-Function in
    let arguments = c.in_ok-words-in-Function.words.items in
    rw (call.is, ← c.deref.ensures.value, c.in_ok-words-in-Function.ensures)
    (went-so tree (entered tree running call.site place call.function arguments) words c.enter.new.thread c.enter.result c.went.result c.went.ensures
    (c.enter.ensures.entered words) (c.enter.ensures.thread words c.requires.thread)
    (entered-so tree running words c.enter.new.thread call.site place call.function arguments))

-- ---- a table

pub returns-in_err-index-in-Table : goal.returns-in_err-index-in-Table
returns-in_err-index-in-Table c =
    let p = err_from_is_err_and c.from_residual-in_err-index-in-Table.result c.from_residual-in_err-index-in-Table.ensures.1 in
    rw (c.in-Table.is, p.1, p.2, ← c.deref-in-Table.ensures, ← c.in_err-index-in-Table.ensures) refl

pub returns-in_err-argument-in-Table : goal.returns-in_err-argument-in-Table
returns-in_err-argument-in-Table c =
    let p = err_from_is_err_and c.from_residual-in_err-argument-in-Table.result c.from_residual-in_err-argument-in-Table.ensures.1 in
    rw (c.in-Table.is, p.1, p.2, ← c.deref-in-Table.ensures, ← c.in_ok-index-in-Table.ensures)
    (rw (← c.deref-in-Table-2.ensures, ← c.in_err-argument-in-Table.ensures) refl)

pub returns-then-index-members : goal.returns-then-index-members
returns-then-index-members c =
    let tree = tree_of c.args.self.now in
    let words = c.args.globals.now.items in
    let call = c.in-Table in
    let members = slice_index_or tree.tables call.table [] in
    let index = c.in_ok-index-in-Table.index in
    let past = subst (λ (ms : List ℕ). length ms ≤ index) c.members-members.ensures c.if-index-members.true in
    rw (call.is, ← c.deref-in-Table.ensures, ← c.in_ok-index-in-Table.ensures, ← c.deref-in-Table-2.ensures, ← c.in_ok-argument-in-Table.ensures)
    (no-member tree (running_of tree c.args.thread.now words) words c.args.thread.now call.site (place_of c.args.place) members index
    c.in_ok-argument-in-Table.argument past refl)

pub returns-in_err-words-in-Table : goal.returns-in_err-words-in-Table
returns-in_err-words-in-Table c =
    let p = err_from_is_err_and c.from_residual-in_err-words-in-Table.result c.from_residual-in_err-words-in-Table.ensures.1 in
    rw (p.1, p.2) (tt {0})

pub returns-in_ok-words-in-Table : goal.returns-in_ok-words-in-Table
returns-in_ok-words-in-Table c =
    let tree = tree_of c.args.self.now in
    let words = c.args.globals.now.items in
    let running = running_of tree c.args.thread.now words in
    let place = place_of c.args.place in
    let call = c.in-Table in
    let members = slice_index_or tree.tables call.table [] in
    let index = c.in_ok-index-in-Table.index in
    let argument = c.in_ok-argument-in-Table.argument in
    let new = c.enter-in-Table.new.thread in
    let r = c.went-in-Table.result in
    let f = slice_index c.members-members.result.now index in
    let at = (goal.at.returns-in_ok-words-in-Table c).Else-index-members in
    rw (call.is, ← c.deref-in-Table.ensures, ← c.in_ok-index-in-Table.ensures, ← c.deref-in-Table-2.ensures, ← c.in_ok-argument-in-Table.ensures)
    (member-entered tree running words new call.site place members index argument f r (within at)
    (ap (λ (ms : List ℕ). slice_index ms index) c.members-members.ensures)
    (went-so tree (entered tree running call.site place f (argument ∷ [])) words new c.enter-in-Table.result r c.went-in-Table.ensures
    (c.enter-in-Table.ensures.entered words) (c.enter-in-Table.ensures.thread words c.requires.thread)
    (λ e fits. entered-so tree running words new call.site place f (argument ∷ []) (rw c.in_ok-words-in-Table.ensures at e) fits)))

-- ---- what the thread package answers

pub returns-in_err-argument-in-Spawn : goal.returns-in_err-argument-in-Spawn
returns-in_err-argument-in-Spawn c =
    let p = err_from_is_err_and c.from_residual-in_err-argument-in-Spawn.result c.from_residual-in_err-argument-in-Spawn.ensures.1 in
    rw (c.in-Spawn.is, p.1, p.2, ← c.deref-in-Spawn.ensures, ← c.in_err-argument-in-Spawn.ensures) refl

pub returns-in_ok-argument-in-Spawn : goal.returns-in_ok-argument-in-Spawn
returns-in_ok-argument-in-Spawn c =
    let t = c.requires.thread in
    let h = rw c.in-Spawn.is at c.requires.scoped in
    rw (c.in-Spawn.is, ← c.deref-in-Spawn.ensures, ← c.in_ok-argument-in-Spawn.ensures) (
      refl,
      record { front = t.front; place = c.requires.place; below = t.below; globals = t.globals },
      (signed-count (tree_of c.args.self.now) c.in-Spawn.function h.scoped.0, h.scoped.1),
    )

pub returns-in_err-asked-in-Modelled : goal.returns-in_err-asked-in-Modelled
returns-in_err-asked-in-Modelled c =
    let p = err_from_is_err_and c.from_residual-in_err-asked-in-Modelled.result c.from_residual-in_err-asked-in-Modelled.ensures.1 in
    rw (c.in-Modelled.is, p.1, p.2, ← c.deref-in-Modelled.ensures.value, c.in_err-asked-in-Modelled.ensures) refl

pub returns-in_ok-asked-in-Modelled : goal.returns-in_ok-asked-in-Modelled
returns-in_ok-asked-in-Modelled c =
    let tree = tree_of c.args.self.now in
    let words = c.args.globals.now.items in
    let thread = c.args.thread.now in
    let call = c.in-Modelled in
    let t = c.requires.thread in
    let new : Thread = record thread { site = call.site; place = c.args.place } in
    let made = c.in_ok-asked-in-Modelled.ensures in
    let fits : IsThread tree new words = record { front = t.front; place = c.requires.place; below = t.below; globals = t.globals } in
    made-so tree _ _ words new (Ok c.in_ok-asked-in-Modelled.asked) (rw (call.is, ← c.deref-in-Modelled.ensures.value, made.1) refl)
    (asked-so tree (running_of tree thread words) words new call.site (place_of c.args.place) c.in_ok-asked-in-Modelled.asked (number_of call.call)
    made.0 made.2 refl refl fits)
