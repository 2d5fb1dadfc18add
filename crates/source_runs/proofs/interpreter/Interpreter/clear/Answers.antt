use Rattle.source_runs.proofs.Common.{arith, ℕ, List, length, ap, sym, ◌∙◌, with_items_is, with_zeros, rows_of, slice_index, sum_next-le, with_names, sizes_at, tree_of, running_of}
use Rattle.source_runs.proofs.Moved.{front-with}
use Rattle.source_runs.proofs.interpreter.Interpreter.clear.Goals as goal

pub local_start-start-requires-clause-ready : goal.local_start-start-requires-clause-ready
local_start-start-requires-clause-ready c = c.requires.ready

pub local_start-start-requires-clause-there : goal.local_start-start-requires-clause-there
local_start-start-requires-clause-there c = c.requires.frame.function

pub local_start-start-requires-clause-named : goal.local_start-start-requires-clause-named
local_start-start-requires-clause-named c = c.requires.named

pub sizes-requires : goal.sizes-requires
sizes-requires c = c.requires.frame.function

pub clear_row-requires : goal.clear_row-requires
clear_row-requires c =
    let ns = sizes_at (tree_of c.args.self.now) c.args.thread.now.front.function in
    let width = ap (λ (ms : List ℕ). slice_index ms c.args.x) c.sizes.ensures in
    omega (arith, sum_next-le ns c.args.x c.requires.named, c.local_start-start.ensures, ap (λ (xs : List ℕ). length xs) c.deref_mut.ensures.value, c.requires.frame.full, width)

pub returns-clause-cleared : goal.returns-clause-cleared
returns-clause-cleared c = λ words.
    let tree = tree_of c.args.self.now in
    let ns = sizes_at tree c.args.thread.now.front.function in
    let width = ap (λ (ms : List ℕ). slice_index ms c.args.x) c.sizes.ensures in
    let full = ap (λ (xs : List ℕ). length xs) c.deref_mut.ensures.value ∙ c.requires.frame.full in
    let rows = c.clear_row.ensures.rows ns c.args.x c.requires.named c.local_start-start.ensures width full in
    let running = running_of tree c.args.thread.now words in
    let is = with_items_is c.args.thread.now.front.names c.clear_row.new.words (c.clear_row.ensures.count ∙ (ap (λ (xs : List ℕ). length xs) c.deref_mut.ensures.value ∙ sym c.args.thread.now.front.names.ok.0)) in
    ap (λ (xs : List ℕ). with_names running (rows_of ns xs)) is ∙ ap (with_names running) (rows ∙ ap (λ (xs : List ℕ). with_zeros (rows_of ns xs) c.args.x) c.deref_mut.ensures.value)

pub returns-clause-thread : goal.returns-clause-thread
returns-clause-thread c = λ words h.
    let names = c.args.thread.now.front.names in
    let count = c.clear_row.ensures.count ∙ ap (λ (xs : List ℕ). length xs) c.deref_mut.ensures.value in
    let is = with_items_is names c.clear_row.new.words (count ∙ sym names.ok.0) in
    front-with _ h _ _ _ (ap (λ (xs : List ℕ). length xs) is ∙ count) h.front.items
