-- What items make is what was made before them, and more.
use Rattle.scope_rules.proofs.Common.{ℕ, suc, ◌≡◌, ◌≤◌, refl, sym, ap, ◌∙◌, not, List, [], ◌∷◌, ◌++◌, append_assoc, length, map, sum, arith, nat_eq, nat_lt, ◌||◌, AllByRecursion, append-nil, sum_by-cons, GlobalFact, NameTree, RawItemTree, RawGlobal, RawGlobalArray, RawTableItem, RawPrototypeItem, RawFunctionItem, Rule, Binding, find, broken, size_faults, Sofar, outer_faults, members_faults, members_of, item_faults, item_after, items_faults, items_after, All-push, or_parts, not-false}
use Rattle.scope_rules.proofs.NoFaults.{both_none, not_broken, not_less, same_number}

abbrev pub StartsWith : {A : Type 0} → List A → List A → Type 0
StartsWith {A} xs ys = (rest : List A) × (ys ≡ xs ++ rest)

pub starts_itself : {A : Type 0} (xs : List A) → StartsWith xs xs
starts_itself xs = ([], sym (append-nil xs))

pub starts_then : {A : Type 0} (xs ys zs : List A) → StartsWith xs ys → StartsWith ys zs → StartsWith xs zs
starts_then xs ys zs h k = (h.0 ++ k.0, k.1 ∙ (ap (λ z. z ++ k.0) h.1 ∙ append_assoc xs h.0 k.0))

pub record IsLonger (w v : Sofar) : Type 0 where
  pub functions : StartsWith w.functions v.functions
  pub globals : StartsWith w.globals v.globals
  pub tables : StartsWith w.tables v.tables

pub item_longer : (defs : List Binding) (w : Sofar) (i : RawItemTree) → IsLonger w (item_after defs w i)
item_longer defs w (RawGlobal n start) = record { functions = starts_itself w.functions; globals = (record { words = 1; start = start } ∷ [], refl); tables = starts_itself w.tables }
item_longer defs w (RawGlobalArray n size) = record { functions = starts_itself w.functions; globals = (record { words = size; start = 0 } ∷ [], refl); tables = starts_itself w.tables }
item_longer defs w (RawTableItem n size members) = record { functions = starts_itself w.functions; globals = starts_itself w.globals; tables = (members_of w.spot.names members ∷ [], refl) }
item_longer defs w (RawPrototypeItem gives n params) = record { functions = starts_itself w.functions; globals = starts_itself w.globals; tables = starts_itself w.tables }
item_longer defs w (RawFunctionItem gives n params body) = record { functions = (_ ∷ [], refl); globals = starts_itself w.globals; tables = starts_itself w.tables }

pub items_longer : (defs : List Binding) (w : Sofar) (is : List RawItemTree) → IsLonger w (items_after defs w is)
items_longer defs w [] = record { functions = starts_itself w.functions; globals = starts_itself w.globals; tables = starts_itself w.tables }
items_longer defs w (i ∷ is) =
    let v = item_after defs w i in
    let a = item_longer defs w i in
    let b = items_longer defs v is in
    record {
      functions = starts_then w.functions v.functions (items_after defs v is).functions a.functions b.functions;
      globals = starts_then w.globals v.globals (items_after defs v is).globals a.globals b.globals;
      tables = starts_then w.tables v.tables (items_after defs v is).tables a.tables b.tables;
    }

-- each global has a word, and each table a member
abbrev pub HasWord : GlobalFact → Type 0
HasWord g = 1 ≤ g.words

abbrev pub HasMember : List ℕ → Type 0
HasMember row = 1 ≤ length row

pub members_length : (names : List Binding) (ns : List NameTree) → length (members_of names ns) ≡ length ns
members_length names [] = refl
members_length names (n ∷ ns) = ap suc (members_length names ns)

pub one_member : (size count : ℕ) (at : ℕ) → broken (nat_eq size 0 || not (nat_eq size count)) at Rule.Arity ≡ [] → 1 ≤ count
one_member size count at h =
    let b = or_parts (nat_eq size 0) (not (nat_eq size count)) (not_broken (nat_eq size 0 || not (nat_eq size count)) at Rule.Arity h) in
    let e = same_number size count (not-false (nat_eq size count) b.1) in
    grind (arith, b.0, e)

item_positive : (defs : List Binding) (w : Sofar) (i : RawItemTree) → item_faults defs w i ≡ [] → AllByRecursion HasWord w.globals × AllByRecursion HasMember w.tables
    → AllByRecursion HasWord (item_after defs w i).globals × AllByRecursion HasMember (item_after defs w i).tables
item_positive defs w (RawGlobal n start) h k = (All-push HasWord w.globals (record { words = 1; start = start }) k.0 (omega arith), k.1)
item_positive defs w (RawGlobalArray n size) h k =
    let j = both_none (outer_faults (find n.text w.spot.names) n.at) (size_faults n size) h in
    let b = or_parts (nat_lt size 1) (nat_lt 65536 size) (not_broken (nat_lt size 1 || nat_lt 65536 size) n.at Rule.Kind j.1) in
    (All-push HasWord w.globals (record { words = size; start = 0 }) k.0 (not_less size 1 b.0), k.1)
item_positive defs w (RawTableItem n size members) h k =
    let fa = broken (nat_eq size 0 || not (nat_eq size (length members))) n.at Rule.Arity in
    let j = both_none (outer_faults (find n.text w.spot.names) n.at) (fa ++ members_faults w.spot.names members) h in
    let i = both_none fa (members_faults w.spot.names members) j.1 in
    let o : 1 ≤ length members = one_member size (length members) n.at i.0 in
    (k.0, All-push HasMember w.tables (members_of w.spot.names members) k.1 (rw (members_length w.spot.names members) o))
item_positive defs w _ h k = k

pub items_positive : (defs : List Binding) (w : Sofar) (is : List RawItemTree) → items_faults defs w is ≡ [] → AllByRecursion HasWord w.globals × AllByRecursion HasMember w.tables
    → AllByRecursion HasWord (items_after defs w is).globals × AllByRecursion HasMember (items_after defs w is).tables
items_positive defs w [] h k = k
items_positive defs w (i ∷ is) h k =
    let j = both_none (item_faults defs w i) (items_faults defs (item_after defs w i) is) h in
    items_positive defs (item_after defs w i) is j.1 (item_positive defs w i j.0 k)

pub globals_few : (gs : List GlobalFact) → AllByRecursion HasWord gs → length gs ≤ sum (map (λ g. g.words) gs)
globals_few [] h = omega arith
globals_few (g ∷ gs) h = let k = globals_few gs h.1 in omega (arith, h.0, sum_by-cons (λ (x : ℕ). x) g.words (map (λ (x : GlobalFact). x.words) gs))

pub tables_few : (ts : List (List ℕ)) → AllByRecursion HasMember ts → length ts ≤ sum (map length ts)
tables_few [] h = omega arith
tables_few (t ∷ ts) h = let k = tables_few ts h.1 in omega (arith, h.0, sum_by-cons (λ (x : ℕ). x) (length t) (map length ts))
