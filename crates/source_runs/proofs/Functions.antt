-- Functions, layouts, tables and their members by their numbers.
use Rattle.source_runs.proofs.Common.{◌≡◌, ℕ, zero, suc, ◌+◌, ◌<◌, ◌≤◌, ◌^◌, List, [], ◌∷◌, ◌++◌, length, map, sym, ap, ◌∙◌, arith, refl, subst, get_or, take, ⊎_elim, false, sum, slice_index, slice_index_or, AllByRecursion, cases_lt, length-map, get_or-map, get_or_append_left, get_or_push, map_more, sum_by-cons, scalars, declared_words, FunctionTree, ProgramTree, NoStmts, function_tree, AreFunctionsScoped, IsFunctionScoped, IsWellScoped, signature_of, IsMember, IsTable, Signature, widths_length, function_at, widths_of, AreLayouts, AreSmall, IsLayout, params_at, sizes_at}
use Rattle.c_tree.specs.declared.facts.Function.{Function}
use Rattle.source_runs.specs.declared.layout.Layout.{Layout}

abbrev no_function : FunctionTree
no_function = record { name = []; params = 0; gives = false; sizes = []; body = NoStmts }

-- ---- functions

pub function-is : (tree : ProgramTree) (fs : List Function) (f : ℕ) (x : Function) → map function_tree fs ≡ tree.functions → f < length fs → x ≡ get_or fs f x → function_at tree f ≡ function_tree x
function-is tree fs f x e h is = ap (λ (ts : List FunctionTree). slice_index_or ts f no_function) (sym e) ∙ (get_or-map function_tree fs f x no_function h ∙ ap function_tree (sym is))

pub function-count : (tree : ProgramTree) (fs : List Function) → map function_tree fs ≡ tree.functions → length fs ≡ length tree.functions
function-count tree fs e = sym (length-map fs function_tree) ∙ ap length e

scoped-from : (tree : ProgramTree) (fs : List FunctionTree) (f : ℕ) → f < length fs → AreFunctionsScoped tree fs → IsFunctionScoped tree (slice_index_or fs f no_function)
scoped-from tree [] f lt h = absurd (omega arith)
scoped-from tree (x ∷ fs) zero lt h = h.0
scoped-from tree (x ∷ fs) (suc f) lt h = scoped-from tree fs f (omega arith) h.1

pub scoped-at : (tree : ProgramTree) (f : ℕ) → IsWellScoped tree → f < length tree.functions → IsFunctionScoped tree (function_at tree f)
scoped-at tree f scoped h = scoped-from tree tree.functions f h scoped.bodies

pub params-are : (tree : ProgramTree) (f : ℕ) → f < length tree.functions → params_at tree f ≡ (function_at tree f).params
params-are tree f h = ap (λ (s : Signature). s.params) (get_or-map signature_of tree.functions f no_function (record { params = 0; gives = false }) h)

scalars-words : (n : ℕ) (ds : List ℕ) → sum (scalars n ++ ds) ≡ n + sum ds
scalars-words zero ds = omega arith
scalars-words (suc n) ds = sum_by-cons (λ x. x) 1 (scalars n ++ ds) ∙ omega (arith, scalars-words n ds)

pub all-small : (tree : ProgramTree) (fs : List FunctionTree) → AreFunctionsScoped tree fs → AreSmall fs
all-small tree [] h = tt {0}
all-small tree (f ∷ fs) h =
    let words : sum f.sizes ≡ f.params + sum (declared_words f) = ap sum h.0.sizes ∙ scalars-words f.params (declared_words f) in
    (omega (arith, words, h.0.params, h.0.words), all-small tree fs h.1)

pub small-at : (fs : List Function) (i : ℕ) (x : Function) → AreSmall (map function_tree fs) → i < length fs → x ≡ get_or fs i x → sum x.sizes.items < 2 ^ 32
small-at [] i x h lt is = absurd (omega arith)
small-at (f ∷ fs) zero x h lt is = subst (λ (g : Function). sum g.sizes.items < 2 ^ 32) (sym is) h.0
small-at (f ∷ fs) (suc i) x h lt is = small-at fs i x h.1 (omega arith) is

-- ---- layouts

pub layouts-count : (fs : List FunctionTree) (layouts : List Layout) → AreLayouts fs layouts → length layouts ≡ length fs
layouts-count [] [] h = refl
layouts-count (f ∷ fs) (l ∷ layouts) h = ap suc (layouts-count fs layouts h.1)
layouts-count _ _ h = elim h [ ]

layouts-from : (fs : List FunctionTree) (layouts : List Layout) (f : ℕ) (layout : Layout) → AreLayouts fs layouts → f < length fs → layout ≡ get_or layouts f layout → IsLayout (slice_index_or fs f no_function).sizes layout
layouts-from [] [] f layout h lt is = absurd (omega arith)
layouts-from (g ∷ fs) (l ∷ layouts) zero layout h lt is = subst (IsLayout g.sizes) (sym is) h.0
layouts-from (g ∷ fs) (l ∷ layouts) (suc f) layout h lt is = layouts-from fs layouts f layout h.1 (omega arith) is
layouts-from _ _ f layout h lt is = elim h [ ]

pub layout-at : (tree : ProgramTree) (layouts : List Layout) (f : ℕ) (layout : Layout) → AreLayouts tree.functions layouts → f < length tree.functions → layout ≡ get_or layouts f layout → IsLayout (sizes_at tree f) layout
layout-at tree layouts f layout h lt is = layouts-from tree.functions layouts f layout h lt is

layouts-push : (fs : List FunctionTree) (layouts : List Layout) (f : FunctionTree) (layout : Layout) → AreLayouts fs layouts → IsLayout f.sizes layout → AreLayouts (fs ++ f ∷ []) (layouts ++ layout ∷ [])
layouts-push [] [] f layout h one = (one, tt {0})
layouts-push (g ∷ fs) (l ∷ layouts) f layout h one = (h.0, layouts-push fs layouts f layout h.1 one)
layouts-push _ _ f layout h one = elim h [ ]

-- one function more has its layout
pub layouts-more : (fs : List Function) (i : ℕ) (x : Function) (layouts more : List Layout) (layout : Layout) → i < length fs → x ≡ get_or fs i x → AreLayouts (map function_tree (take i fs)) layouts → IsLayout x.sizes.items layout → more ≡ layouts ++ layout ∷ [] → AreLayouts (map function_tree (take (i + 1) fs)) more
layouts-more fs i x layouts more layout lt is h one e =
    let list : map function_tree (take (i + 1) fs) ≡ map function_tree (take i fs) ++ function_tree x ∷ [] = map_more function_tree fs i x lt ∙ ap (λ (g : Function). map function_tree (take i fs) ++ function_tree g ∷ []) (sym is) in
    rw (list, e) (layouts-push (map function_tree (take i fs)) layouts (function_tree x) layout h one)

-- where the next name's words start
pub starts-more : (widths starts : List ℕ) (i words : ℕ) → length starts ≡ i → words ≡ sum (take i widths) → ((x : ℕ) → x < i → slice_index starts x ≡ sum (take x widths)) →
    (x : ℕ) → x < i + 1 → slice_index (starts ++ words ∷ []) x ≡ sum (take x widths)
starts-more widths starts i words count here each x lt = ⊎_elim
    (λ (early : x < i). get_or_append_left starts (words ∷ []) 0 x (omega (arith, count, early)) ∙ each x early)
    (λ (late : i ≤ x).
    let is : i ≡ x = omega (arith, lt, late) in
    get_or_push starts words 0 x (count ∙ is) ∙ (here ∙ ap (λ k. sum (take k widths)) is))
    (cases_lt x i)

-- ---- tables

table-from : (ss : List Signature) (tables : List (List ℕ)) (t : ℕ) → t < length tables → AllByRecursion (IsTable ss) tables → AllByRecursion (IsMember ss) (slice_index_or tables t [])
table-from ss [] t lt h = absurd (omega arith)
table-from ss (row ∷ tables) zero lt h = h.0.1
table-from ss (row ∷ tables) (suc t) lt h = table-from ss tables t (omega arith) h.1

member-from : (ss : List Signature) (row : List ℕ) (k : ℕ) → k < length row → AllByRecursion (IsMember ss) row → IsMember ss (slice_index row k)
member-from ss [] k lt h = absurd (omega arith)
member-from ss (x ∷ row) zero lt h = h.0
member-from ss (x ∷ row) (suc k) lt h = member-from ss row k (omega arith) h.1

pub member-at : (tree : ProgramTree) (t k : ℕ) → IsWellScoped tree → t < length tree.tables → k < length (slice_index_or tree.tables t []) → IsMember (map signature_of tree.functions) (slice_index (slice_index_or tree.tables t []) k)
member-at tree t k scoped lt h = member-from (map signature_of tree.functions) (slice_index_or tree.tables t []) k h (table-from (map signature_of tree.functions) tree.tables t lt scoped.tables)

pub signed-count : (tree : ProgramTree) (f : ℕ) → f < length (map signature_of tree.functions) → f < length tree.functions
signed-count tree f h = omega (arith, length-map tree.functions signature_of)

-- ---- globals

pub globals-there : (tree : ProgramTree) (g : ℕ) → g < length (widths_of tree.globals) → g < length tree.globals
globals-there tree g h = omega (arith, widths_length tree.globals)

pub widths-there : (tree : ProgramTree) (g : ℕ) → g < length tree.globals → g < length (widths_of tree.globals)
widths-there tree g h = omega (arith, widths_length tree.globals)
