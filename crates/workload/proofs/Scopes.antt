-- Each name of the workload's source means what it is to mean: the names in scope line by line, and the functions made.
use Rattle.workload.proofs.Common.{ℕ, zero, suc, ◌≡◌, ◌<◌, ◌%◌, ◌^◌, Bool, true, false, List, [], ◌∷◌, ◌++◌, length, Some, None, refl, ap, ◌∙◌, arith, codes, if◌then◌else◌, bytes_eq, bytes_eq-Decides, canonical_decimal, decimal_unique, BinaryOperator, Number, Local, Binary, CallFunction, CallSpawn, CallModelled, Computed, Called, DeclareScalar, SetLocal, Calling, Do, For, Return, NoStmts, Then, FunctionTree, Binding, find, function_of, next, Sofar, modelled_names, item_faults, item_after, false_from_ne_true, same_itself}
use Rattle.cap_word.specs.declared.modelled_calls.ModelledCall.{ModelledCall}
use Rattle.scope_rules.specs.declared.meanings.Meaning.{Meaning}
use Rattle.scope_rules.specs.declared.meanings.Found.{Found}
use Rattle.workload.proofs.Pieces.{chain_name}
use Rattle.workload.proofs.Items.{link_item, worker_item, main_item}

-- a defined function's name, where these are the definitions of the source
abbrev pub defined : List Binding → List ℕ → Bool → ℕ → Binding
defined defs text gives params = record { text = text; meaning = Meaning.Function (function_of (find text defs)) gives params true }

-- the names behind function m of the chain: the functions so far, the latest first, and the modelled calls
abbrev pub chain_names : List Binding → ℕ → List Binding
chain_names defs zero = defined defs (chain_name 0) true 1 ∷ modelled_names
chain_names defs (suc m) = defined defs (chain_name (suc m)) true 1 ∷ chain_names defs m

abbrev pub worker_names : List Binding → ℕ → List Binding
worker_names defs n = defined defs (codes "w") false 1 ∷ chain_names defs n

abbrev pub main_names : List Binding → ℕ → List Binding
main_names defs n = defined defs (codes "main") true 0 ∷ worker_names defs n

-- what the items so far make
abbrev pub sofar : List Binding → ℕ → List FunctionTree → Sofar
sofar names site functions = record { spot = record { names = names; outer = length modelled_names; sizes = []; site = site }; globals = []; tables = []; functions = functions }

-- the functions that the lines are, where a call is at site k and calls function f
abbrev pub first_tree : FunctionTree
first_tree = record { name = chain_name 0; params = 1; gives = true; sizes = 1 ∷ []; body = Then (Return (Some (Computed (Local 0)))) NoStmts }

abbrev pub link_tree : ℕ → ℕ → ℕ → FunctionTree
link_tree i k f = record {
  name = chain_name i;
  params = 1;
  gives = true;
  sizes = 1 ∷ 1 ∷ [];
  body = Then (Do (DeclareScalar 1)) (Then (Do (SetLocal 1 (Called (CallFunction k f (Binary BinaryOperator.Add (Local 0) (Number 1) ∷ []))))) (Then (Return (Some (Computed (Local 1)))) NoStmts));
}

abbrev pub worker_tree : ℕ → ℕ → FunctionTree
worker_tree k f = record {
  name = codes "w";
  params = 1;
  gives = false;
  sizes = 1 ∷ 1 ∷ 1 ∷ [];
  body = Then (Do (DeclareScalar 1))
      (Then (Do (DeclareScalar 2))
      (Then (Do (SetLocal 1 (Called (CallModelled k ModelledCall.Accept []))))
      (Then (Do (SetLocal 2 (Called (CallModelled (next k) ModelledCall.Wait (Local 1 ∷ [])))))
      (Then (Do (SetLocal 2 (Called (CallFunction (next (next k)) f (Local 2 ∷ [])))))
      (Then (Do (Calling (CallModelled (next (next (next k))) ModelledCall.Put (Local 2 ∷ [])))) NoStmts)))));
}

abbrev pub main_tree : ℕ → ℕ → ℕ → FunctionTree
main_tree n k f = record {
  name = codes "main";
  params = 0;
  gives = true;
  sizes = 1 ∷ [];
  body = Then (Do (DeclareScalar 0))
      (Then (For (SetLocal 0 (Computed (Number 0)) ∷ []) (Some (Binary BinaryOperator.Less (Local 0) (Number n))) (Some (SetLocal 0 (Computed (Binary BinaryOperator.Add (Local 0) (Number 1))))) (Do (Calling (CallSpawn k f (Local 0)))))
      (Then (Return (Some (Computed (Number 0)))) NoStmts));
}

-- the latest name is found, and another name is what it is without it
find_here : (b : Binding) (bs : List Binding) → find b.text (b ∷ bs) ≡ Some (record { position = length bs; meaning = b.meaning })
find_here b bs =
    let found : Found = record { position = length bs; meaning = b.meaning } in
    ap (λ test. if test then Some found else find b.text bs) (same_itself b.text)

find_further : (t : List ℕ) (b : Binding) (bs : List Binding) → bytes_eq b.text t ≡ false → find t (b ∷ bs) ≡ find t bs
find_further t b bs other =
    let found : Found = record { position = length bs; meaning = b.meaning } in
    ap (λ test. if test then Some found else find t bs) other

-- a name that is none of the chain's is what it is outside
find_outside : (t : List ℕ) (defs : List Binding) (m : ℕ) → ((i : ℕ) → bytes_eq (chain_name i) t ≡ false) → find t (chain_names defs m) ≡ find t modelled_names
find_outside t defs zero other = find_further t (defined defs (chain_name 0) true 1) modelled_names (other 0)
find_outside t defs (suc m) other = find_further t (defined defs (chain_name (suc m)) true 1) (chain_names defs m) (other (suc m)) ∙ find_outside t defs m other

pub no_local : (t : List ℕ) (defs : List Binding) (m : ℕ) → ((i : ℕ) → bytes_eq (chain_name i) t ≡ false) → find t modelled_names ≡ None → find t (chain_names defs m) ≡ None
no_local t defs m other none = find_outside t defs m other ∙ none

pub chain_differs : (i k : ℕ) → (i ≡ k → ⊥) → bytes_eq (chain_name i) (chain_name k) ≡ false
chain_differs i k other = false_from_ne_true (bytes_eq (chain_name i) (chain_name k)) (λ e. other (decimal_unique i k (tails ((bytes_eq-Decides (chain_name i) (chain_name k)).0 e)))) where
  tails : chain_name i ≡ chain_name k → canonical_decimal i ≡ canonical_decimal k
  tails e = cc

-- a later name of the chain isn't there yet, and the latest is found
pub find_later : (k : ℕ) (defs : List Binding) (m : ℕ) → m < k → find (chain_name k) (chain_names defs m) ≡ None
find_later k defs zero later = find_further (chain_name k) (defined defs (chain_name 0) true 1) modelled_names (chain_differs 0 k (λ e. omega arith))
find_later k defs (suc m) later = find_further (chain_name k) (defined defs (chain_name (suc m)) true 1) (chain_names defs m) (chain_differs (suc m) k (λ e. omega arith)) ∙ find_later k defs m (omega arith)

-- what the latest function of the chain is found as
abbrev pub chain_found : List Binding → ℕ → ℕ → Found
chain_found defs m position = record { position = position; meaning = Meaning.Function (function_of (find (chain_name m) defs)) true 1 true }

pub find_latest : (defs : List Binding) (m : ℕ) → (position : ℕ) × (find (chain_name m) (chain_names defs m) ≡ Some (chain_found defs m position))
find_latest defs zero = (length modelled_names, find_here (defined defs (chain_name 0) true 1) modelled_names)
find_latest defs (suc m) = (length (chain_names defs m), find_here (defined defs (chain_name (suc m)) true 1) (chain_names defs m))

-- what each line breaks, and makes

pub link_fine : (defs names : List Binding) (site : ℕ) (functions : List FunctionTree) (p : ℕ → ℕ) (i m position : ℕ) → find (chain_name i) names ≡ None → find (codes "x") names ≡ None → find (codes "r") names ≡ None
    → bytes_eq (chain_name i) (chain_name m) ≡ false → find (chain_name m) names ≡ Some (chain_found defs m position)
    → item_faults defs (sofar names site functions) (link_item p i m) ≡ []
link_fine defs names site functions p i m position new x r other there = rw (new, x, r, other, there) refl

pub link_after : (defs names : List Binding) (site : ℕ) (functions : List FunctionTree) (p : ℕ → ℕ) (i m position : ℕ) → find (chain_name i) names ≡ None → find (codes "x") names ≡ None → find (codes "r") names ≡ None
    → bytes_eq (chain_name i) (chain_name m) ≡ false → find (chain_name m) names ≡ Some (chain_found defs m position)
    → item_after defs (sofar names site functions) (link_item p i m) ≡ sofar (defined defs (chain_name i) true 1 ∷ names) (next site) (functions ++ link_tree i site (function_of (find (chain_name m) defs)) ∷ [])
link_after defs names site functions p i m position new x r other there = rw (new, x, r, other, there) refl

-- the modelled calls, as they are found behind the chain
abbrev pub modelled_found : ℕ → ModelledCall → Found
modelled_found position call = record { position = position; meaning = Meaning.Modelled call }

-- what the worker and main need of the names before them
pub record HasNames (defs names : List Binding) (n : ℕ) : Type 0 where
  pub position : ℕ
  pub no_w : find (codes "w") names ≡ None
  pub no_n : find (codes "n") names ≡ None
  pub no_c : find (codes "c") names ≡ None
  pub no_v : find (codes "v") names ≡ None
  pub no_i : find (codes "i") names ≡ None
  pub no_main : find (codes "main") names ≡ None
  pub accept : find (codes "accept") names ≡ Some (modelled_found 0 ModelledCall.Accept)
  pub wait : find (codes "wait") names ≡ Some (modelled_found 1 ModelledCall.Wait)
  pub put : find (codes "put") names ≡ Some (modelled_found 6 ModelledCall.Put)
  pub spawn : find (codes "spawn") names ≡ Some (record { position = 9; meaning = Meaning.Spawn })
  pub chain : find (chain_name n) names ≡ Some (chain_found defs n position)

pub has_names : (defs : List Binding) (n : ℕ) → HasNames defs (chain_names defs n) n
has_names defs n = record {
  position = (find_latest defs n).0;
  no_w = find_outside (codes "w") defs n (λ i. refl);
  no_n = find_outside (codes "n") defs n (λ i. refl);
  no_c = find_outside (codes "c") defs n (λ i. refl);
  no_v = find_outside (codes "v") defs n (λ i. refl);
  no_i = find_outside (codes "i") defs n (λ i. refl);
  no_main = find_outside (codes "main") defs n (λ i. refl);
  accept = find_outside (codes "accept") defs n (λ i. refl);
  wait = find_outside (codes "wait") defs n (λ i. refl);
  put = find_outside (codes "put") defs n (λ i. refl);
  spawn = find_outside (codes "spawn") defs n (λ i. refl);
  chain = (find_latest defs n).1;
}

pub worker_fine : (defs names : List Binding) (site : ℕ) (functions : List FunctionTree) (p : ℕ → ℕ) (n : ℕ) → HasNames defs names n → item_faults defs (sofar names site functions) (worker_item p n) ≡ []
worker_fine defs names site functions p n has = rw (has.no_w, has.no_n, has.no_c, has.no_v, has.accept, has.wait, has.chain, has.put) refl

pub worker_after : (defs names : List Binding) (site : ℕ) (functions : List FunctionTree) (p : ℕ → ℕ) (n : ℕ) → HasNames defs names n
    → item_after defs (sofar names site functions) (worker_item p n)
    ≡ sofar (defined defs (codes "w") false 1 ∷ names) (next (next (next (next site)))) (functions ++ worker_tree site (function_of (find (chain_name n) defs)) ∷ [])
worker_after defs names site functions p n has = rw (has.no_w, has.no_n, has.no_c, has.no_v, has.accept, has.wait, has.chain, has.put) refl

pub main_fine : (defs names : List Binding) (site : ℕ) (functions : List FunctionTree) (p : ℕ → ℕ) (n : ℕ) → HasNames defs names n
    → item_faults defs (sofar (defined defs (codes "w") false 1 ∷ names) site functions) (main_item p n) ≡ []
main_fine defs names site functions p n has = rw (has.no_main, has.no_i, has.spawn) refl

pub main_after : (defs names : List Binding) (site : ℕ) (functions : List FunctionTree) (p : ℕ → ℕ) (n : ℕ) → HasNames defs names n
    → item_after defs (sofar (defined defs (codes "w") false 1 ∷ names) site functions) (main_item p n)
    ≡ sofar (defined defs (codes "main") true 0 ∷ defined defs (codes "w") false 1 ∷ names) (next site) (functions ++ main_tree (n % 2 ^ 32) site (function_of (find (codes "w") defs)) ∷ [])
main_after defs names site functions p n has = rw (has.no_main, has.no_i, has.spawn) refl
