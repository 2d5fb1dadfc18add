-- The code of a well scoped program is well formed.
use Rattle.c_lower.proofs.Common.{◌≡◌, ◌<◌, ◌≤◌, ◌+◌, ◌^◌, ℕ, zero, suc, Bool, true, false, List, [], ◌∷◌, ◌++◌, length, length-append, append_assoc, map, take, max, get_or, refl, sym, ap, subst, ◌∙◌, lit<, arith, if◌then◌else◌, sum, replicate, AllByRecursion, get_or-append, sum_by-cons, sum_by-append, scalars, below, declared_words, stmts_temporaries, function_temporaries, stmts_names, FunctionTree, ProgramTree, IsFunctionScoped, AreFunctionsScoped, IsWellScoped, FlatFunction, code_of, IsOperation, IsFunction, IsWellFormed, stmts_size, stmts_code, closing_code, first_temporary, function_ops, function_sizes, lowered_function, lowered_global, lowered, All-append}
use Rattle.std.proofs.lemmas.Bool.{false≢true}
use Rattle.cap_word.specs.Signatures.{signature_at, IsTable}
use Rattle.c_tree.specs.WellScoped as tree
use Rattle.flat_code.specs.declared.programs.FlatGlobal.{FlatGlobal}
use Rattle.flat_code.specs.WellFormed as flat
use Rattle.c_lower.proofs.Lists.{map-map}
use Rattle.c_lower.proofs.Suits.{Suits}
use Rattle.c_lower.proofs.CodeSizes.{stmts_length}
use Rattle.c_lower.proofs.Formed.{stmts_formed}
use Rattle.c_lower.proofs.Sites.{sites_distinct}
use Rattle.c_lower.proofs.Words.{stmts_have, few_names}

-- ---- variables

scalars_count : (n : ℕ) → length (scalars n) ≡ n
scalars_count zero = refl
scalars_count (suc n) = omega (arith, scalars_count n)

pub scalars_words : (n : ℕ) → sum (scalars n) ≡ n
scalars_words zero = refl
scalars_words (suc n) = omega (arith, scalars_words n, sum_by-cons (λ (x : ℕ). x) 1 (scalars n))

pub sum_both : (xs ys : List ℕ) → sum (xs ++ ys) ≡ sum xs + sum ys
sum_both xs ys = sum_by-append (λ (x : ℕ). x) xs ys

pub scalars_push : (n : ℕ) → scalars n ++ (1 ∷ []) ≡ scalars (n + 1)
scalars_push zero = refl
scalars_push (suc n) =
    let next : suc (n + 1) ≡ suc n + 1 = omega arith in
    ap (λ xs. 1 ∷ xs) (scalars_push n) ∙ ap scalars next

scalar_word : (n k : ℕ) → k < n → get_or (scalars n) k 0 ≡ 1
scalar_word zero k h = absurd (omega arith)
scalar_word (suc n) zero h = refl
scalar_word (suc n) (suc k) h = scalar_word n k (omega arith)

pub temporary_word : (xs : List ℕ) (n k : ℕ) → length xs ≤ k → k < length xs + n → get_or (xs ++ scalars n) k 0 ≡ 1
temporary_word [] n k low high = scalar_word n k (omega arith)
temporary_word (x ∷ xs) n zero low high = absurd (omega arith)
temporary_word (x ∷ xs) n (suc k) low high = temporary_word xs n k (omega arith) (omega arith)

parameters_first : (n : ℕ) (xs : List ℕ) → take n (scalars n ++ xs) ≡ replicate n 1
parameters_first zero xs = refl
parameters_first (suc n) xs = ap (λ ys. 1 ∷ ys) (parameters_first n xs)

-- ---- signatures

same_signatures : (fs : List FunctionTree) → map flat.signature_of (map lowered_function fs) ≡ map tree.signature_of fs
same_signatures [] = refl
same_signatures (f ∷ fs) = ap (λ ss. tree.signature_of f ∷ ss) (same_signatures fs)

lowered_count : (fs : List FunctionTree) → length (map lowered_function fs) ≡ length fs
lowered_count [] = refl
lowered_count (f ∷ fs) = omega (arith, lowered_count fs)

same_globals : (p : ProgramTree) → map (λ g. g.words) (map lowered_global p.globals) ≡ map (λ g. g.words) p.globals
same_globals p = map-map lowered_global (λ g. g.words) (λ g. g.words) (λ g. refl) p.globals

-- ---- functions

function_suits : (p : ProgramTree) (f : FunctionTree) → Suits (tree.context_of p f) (flat.context_of (lowered p) (lowered_function f)) (first_temporary f) (function_temporaries f)
function_suits p f =
    let n = function_temporaries f in
    let count = length-append f.sizes (scalars n) in
    record {
      local = λ x h. omega (arith, count);
      words = λ x w h e. get_or-append f.sizes (scalars n) 0 x h ∙ e;
      temporary = λ k low high. (omega (arith, count, scalars_count n), temporary_word f.sizes n k low high);
      globals = same_globals p;
      signatures = same_signatures p.functions;
      tables = refl;
      gives = refl;
    }

closing_formed : (c : tree.Context) (d : flat.Context) (t n m : ℕ) (gives : Bool) → Suits c d t n → d.gives ≡ gives → n ≡ max (if gives then 1 else 0) m → AllByRecursion (IsOperation d) (closing_code gives t)
closing_formed c d t n m true suits e h =
    let s = suits.temporary t (omega arith) (omega arith) in
    ((s, lit< tt), ((e, s), tt))
closing_formed c d t n m false suits e h = (e, tt)

pub closing_size : (gives : Bool) (t : ℕ) → 1 ≤ length (closing_code gives t)
closing_size true t = omega arith
closing_size false t = omega arith

function_words : (p : ProgramTree) (f : FunctionTree) → IsFunctionScoped p f → sum (function_sizes f) ≤ 2 ^ 20
function_words p f h =
    let n = function_temporaries f in
    let all_words : sum f.sizes ≡ f.params + sum (declared_words f) = ap sum h.sizes ∙ (sum_both (scalars f.params) (declared_words f) ∙ ap (λ x. x + sum (declared_words f)) (scalars_words f.params)) in
    omega (arith, sum_both f.sizes (scalars n), scalars_words n, all_words, h.params, h.words, h.temporaries)

function_formed : (p : ProgramTree) (f : FunctionTree) → IsFunctionScoped p f → length (function_ops f) ≤ 2 ^ 32 → IsFunction (lowered p) (lowered_function f)
function_formed p f h short =
    let n = function_temporaries f in
    let t = first_temporary f in
    let c = tree.context_of p f in
    let d = flat.context_of (lowered p) (lowered_function f) in
    let suits = function_suits p f in
    let within : stmts_size f.body < length (function_ops f) =
    omega (arith, length-append (stmts_code f.body 0 t 0 0) (closing_code f.gives t), stmts_length f.body 0 t 0 0, closing_size f.gives t) in
    record {
      params = h.params;
      parameters = ap (λ xs. take f.params (xs ++ scalars n)) h.sizes ∙ (ap (take f.params) (append_assoc (scalars f.params) (declared_words f) (scalars n)) ∙ parameters_first f.params (declared_words f ++ scalars n));
      words = function_words p f h;
      count = short;
      ops = All-append (IsOperation d) (stmts_code f.body 0 t 0 0) (closing_code f.gives t)
          (stmts_formed c d t n suits false (below f.params) f.body 0 0 0 h.body (omega arith) (omega (arith, within)) (λ y. absurd (false≢true y)))
          (closing_formed c d t n (stmts_temporaries f.body) f.gives suits refl refl);
    }

functions_formed : (p : ProgramTree) (fs : List FunctionTree) → AreFunctionsScoped p fs → AllByRecursion (λ f. length f.ops ≤ 2 ^ 32) (map lowered_function fs) → AllByRecursion (IsFunction (lowered p)) (map lowered_function fs)
functions_formed p [] h short = tt
functions_formed p (f ∷ fs) h short = (function_formed p f h.0 short.0, functions_formed p fs h.1 short.1)

-- ---- programs

pub program_formed : (p : ProgramTree) → IsWellScoped p → AllByRecursion (λ f. length f.ops ≤ 2 ^ 32) (map lowered_function p.functions) → IsWellFormed (lowered p)
program_formed p h short = record {
  functions = functions_formed p p.functions h.bodies short;
  main_defined = omega (arith, lowered_count p.functions, h.main_defined);
  main_params = ap (λ ss. (signature_at ss p.main).params) (same_signatures p.functions) ∙ h.main_params;
  sites = sites_distinct p h.site_numbers.0;
  global_words = rw (same_globals p) h.global_words;
  tables = subst (λ ss. AllByRecursion (IsTable ss) p.tables) (sym (same_signatures p.functions)) h.tables;
  table_members = h.table_members;
}

-- ---- what each function keeps

pub few_variables : (p : ProgramTree) (f : FunctionTree) → IsFunctionScoped p f → length f.sizes ≤ 65536
few_variables p f h =
    let names = few_names (stmts_names f.body) (stmts_have (tree.context_of p f) false (below f.params) f.body h.body) in
    let count : length f.sizes ≡ f.params + length (declared_words f) = ap length h.sizes ∙ (length-append (scalars f.params) (declared_words f) ∙ ap (λ x. x + length (declared_words f)) (scalars_count f.params)) in
    omega (arith, names, count, h.params, h.words)

pub all_small : (p : ProgramTree) (fs : List FunctionTree) → AreFunctionsScoped p fs → AllByRecursion (λ f. function_temporaries f ≤ 65536) fs
all_small p [] h = tt
all_small p (f ∷ fs) h = (h.0.temporaries, all_small p fs h.1)

pub all_few : (p : ProgramTree) (fs : List FunctionTree) → AreFunctionsScoped p fs → AllByRecursion (λ f. length f.sizes ≤ 65536) fs
all_few p [] h = tt
all_few p (f ∷ fs) h = (few_variables p f h.0, all_few p fs h.1)

pub all_words : (p : ProgramTree) (fs : List FunctionTree) → AreFunctionsScoped p fs → AllByRecursion (λ f. sum (function_sizes f) ≤ 2 ^ 20) fs
all_words p [] h = tt
all_words p (f ∷ fs) h = (function_words p f h.0, all_words p fs h.1)

-- the code whose parts are those of the lowered program is the lowered program
pub lowered_is : (p : ProgramTree) (fs : List FlatFunction) (gs : List FlatGlobal) (ts : List (List ℕ)) (main : ℕ) → fs ≡ map lowered_function p.functions → gs ≡ map lowered_global p.globals → ts ≡ p.tables → main ≡ p.main → code_of fs gs ts main ≡ lowered p
lowered_is p fs gs ts main a b c d =
    ap (λ x. code_of x gs ts main) a
    ∙ (ap (λ x. code_of (map lowered_function p.functions) x ts main) b
    ∙ (ap (λ x. code_of (map lowered_function p.functions) (map lowered_global p.globals) x main) c
    ∙ ap (λ x. code_of (map lowered_function p.functions) (map lowered_global p.globals) p.tables x) d))
