use Rattle.std.proofs.Common.{◌≡◌, ℕ, List, ap, ◌∙◌, subst, refl}
use Rattle.std.proofs.Common.{arith, ◌<◌, ◌≤◌, length}
use Rattle.source_runs.proofs.Common.{slice_index, widths_of, sum_next-le, get_or_read, length-set, sizes_at, tree_of}
use Rattle.source_runs.proofs.Functions.{widths-there}
use Rattle.source_runs.proofs.Moved.{front-with}
use Rattle.source_runs.proofs.Stored.{stored-local, stored-local_element, beyond-local, stored-global, stored-global_element, beyond-global}
use Rattle.source_runs.proofs.interpreter.Interpreter.store.Goals as goal
use Rattle.source_runs.proofs.interpreter.Interpreter.store.Goals.{After-index}

pub returns-in-Nowhere : goal.returns-in-Nowhere
returns-in-Nowhere c = record { stored = rw c.in-Nowhere.is refl; thread = c.requires.thread; kept = tt {0} }

pub returns-in-Returned : goal.returns-in-Returned
returns-in-Returned c =
    let h = c.requires.thread in
    record { stored = rw c.in-Returned.is refl; thread = front-with _ h _ _ _ refl h.front.items; kept = tt {0} }

-- ---- a local name

pub returns-in-Local : goal.returns-in-Local
returns-in-Local c =
    let h = c.requires.thread in
    let place = rw c.in-Local.is at c.requires.place in
    record {
      stored = stored-local (tree_of c.args.self.now) c.args.thread.now c.args.globals.now.items c.args.place _ c.in-Local.x _ c.args.word c.in-Local.is
          refl c.local_start-start.ensures place.1;
      thread = front-with _ h _ _ _ (length-set c.args.thread.now.front.names.items _ c.args.word) h.front.items;
      kept = tt {0};
    }

pub returns-then-index-sizes : goal.returns-then-index-sizes
returns-then-index-sizes c =
    let f = c.in-LocalElement in
    let past = subst (λ (ns : List ℕ). slice_index ns f.array ≤ f.index) c.sizes.ensures c.if-index-sizes.true in
    record {
      stored = beyond-local _ _ _ c.args.place f.array f.index c.args.word f.is past (rw f.is at c.requires.place) c.requires.thread;
      thread = c.requires.thread;
      kept = refl;
    }

pub index_mut-requires-in-LocalElement : goal.index_mut-requires-in-LocalElement
index_mut-requires-in-LocalElement c =
    let f = c.in-LocalElement in
    let ns = sizes_at (tree_of c.args.self.now) c.args.thread.now.front.function in
    let within : f.index < slice_index ns f.array = subst (λ (ns : List ℕ). f.index < slice_index ns f.array) c.sizes.ensures c.if-index-sizes.false in
    let next = sum_next-le ns f.array (rw f.is at c.requires.place) in
    omega (arith, next, c.local_start-start-in-LocalElement.ensures, c.requires.thread.front.full, within)

pub returns-else-index-sizes : goal.returns-else-index-sizes
returns-else-index-sizes c =
    let h = c.requires.thread in
    let f = c.in-LocalElement in
    let start = c.local_start-start-in-LocalElement in
    let within = subst (λ (ns : List ℕ). f.index < slice_index ns f.array) c.sizes.ensures c.if-index-sizes.false in
    let there = rw f.is at c.requires.place in
    record {
      stored = stored-local_element _ _ _ c.args.place _ f.array f.index start.result c.args.word f.is refl start.ensures within there h;
      thread = front-with _ h _ _ _ (length-set c.args.thread.now.front.names.items _ c.args.word) h.front.items;
      kept = tt {0};
    }

-- ---- a global

pub returns-in-Global : goal.returns-in-Global
returns-in-Global c =
    let h = c.requires.thread in
    let place = rw c.in-Global.is at c.requires.place in
    record {
      stored = stored-global (tree_of c.args.self.now) c.args.thread.now c.args.globals.now.items c.args.place _ c.in-Global.g _ c.args.word c.in-Global.is
          refl c.global_start-start.ensures place.1;
      thread = record { front = h.front; place = h.place; below = h.below; globals = length-set c.args.globals.now.items _ c.args.word ∙ h.globals };
      kept = tt {0};
    }

-- the array is there
array-there : (c : After-index) → c.in-GlobalElement.array < length (widths_of (tree_of c.args.self.now).globals)
array-there c = widths-there (tree_of c.args.self.now) c.in-GlobalElement.array (rw c.in-GlobalElement.is at c.requires.place)

-- how many words it has
width-is : (c : After-index) → c.index.result.now ≡ slice_index (widths_of (tree_of c.args.self.now).globals) c.in-GlobalElement.array
width-is c =
    let kept = c.args.self.now.global_widths.items in
    let e = c.requires.ready.global_widths in
    let within : c.in-GlobalElement.array < length kept = omega (arith, ap length e, array-there c) in
    get_or_read kept c.in-GlobalElement.array c.index.result.now within c.index.ensures 0 ∙ ap (λ (ns : List ℕ). slice_index ns c.in-GlobalElement.array) e

pub returns-then-index : goal.returns-then-index
returns-then-index c =
    let f = c.in-GlobalElement in
    let at = (goal.at.returns-then-index c).After-index in
    record {
      stored = beyond-global _ _ _ c.args.place f.array f.index c.args.word f.is (omega (arith, width-is at, c.if-index.true)) (array-there at)
          c.requires.thread;
      thread = c.requires.thread;
      kept = refl;
    }

pub returns-else-index : goal.returns-else-index
returns-else-index c =
    let h = c.requires.thread in
    let f = c.in-GlobalElement in
    let start = c.global_start-start-in-GlobalElement in
    let at = (goal.at.returns-else-index c).After-index in
    let within : f.index < slice_index (widths_of (tree_of c.args.self.now).globals) f.array = omega (arith, width-is at, c.if-index.false) in
    record {
      stored = stored-global_element _ _ _ c.args.place _ f.array f.index start.result c.args.word f.is refl start.ensures within (array-there at) h;
      thread = record { front = h.front; place = h.place; below = h.below; globals = length-set c.args.globals.now.items _ c.args.word ∙ h.globals };
      kept = tt {0};
    }

-- ---- where its words start

pub local_start-start-requires : goal.local_start-start-requires
local_start-start-requires c =
    let h = rw c.in-Local.is at c.requires.place in
    record { ready = c.requires.ready; there = c.requires.thread.front.function; named = h.0 }

pub local_start-start-requires-in-LocalElement : goal.local_start-start-requires-in-LocalElement
local_start-start-requires-in-LocalElement c =
    record { ready = c.requires.ready; there = c.requires.thread.front.function; named = rw c.in-LocalElement.is at c.requires.place }

pub global_start-start-requires : goal.global_start-start-requires
global_start-start-requires c =
    let h = rw c.in-Global.is at c.requires.place in
    record { ready = c.requires.ready; named = widths-there (tree_of c.args.self.now) c.in-Global.g h.0 }

pub global_start-start-requires-in-GlobalElement : goal.global_start-start-requires-in-GlobalElement
global_start-start-requires-in-GlobalElement c =
    record { ready = c.requires.ready; named = widths-there (tree_of c.args.self.now) c.in-GlobalElement.array (rw c.in-GlobalElement.is at c.requires.place) }

pub sizes-requires : goal.sizes-requires
sizes-requires c = c.requires.thread.front.function
