-- The source of the workload of n: a chain of n + 1 functions, each of which, except the first, calls the one before
-- it; a worker that takes an arrival, waits for its message, calls the chain and puts the result; and a main that
-- spawns n workers.
use Rattle.std.specs.Prelude.{ℕ, zero, suc, List, [], ◌∷◌, ◌++◌, codes}
use Rattle.cap_text.specs.Decimals.{canonical_decimal}

-- the end of a line: LF
abbrev pub line_feed : List ℕ
line_feed = 10 ∷ []

-- the first function of the chain: it returns its argument
unfoldable pub first_line : List ℕ
first_line = codes "int f" ++ (canonical_decimal 0 ++ (codes "(int x) { return x; }" ++ line_feed))

-- function i of the chain, which calls function m with one more
unfoldable pub link_line : ℕ → ℕ → List ℕ
link_line i m = codes "int f" ++ (canonical_decimal i ++ (codes "(int x) { int r; r = f" ++ (canonical_decimal m ++ (codes "(x + 1); return r; }" ++ line_feed))))

-- the functions of the chain up to number n
unfoldable pub chain_text : ℕ → List ℕ
chain_text zero = first_line
chain_text (suc m) = chain_text m ++ link_line (suc m) m

-- the worker, which calls function n of the chain
unfoldable pub worker_line : ℕ → List ℕ
worker_line n = codes "void w(int n) { int c; int v; c = accept(); v = wait(c); v = f" ++ (canonical_decimal n ++ (codes "(v); put(v); }" ++ line_feed))

-- main, which spawns n workers
unfoldable pub main_line : ℕ → List ℕ
main_line n = codes "int main() { int i; for (i = 0; i < " ++ (canonical_decimal n ++ (codes "; i = i + 1) spawn(w, i); return 0; }" ++ line_feed))

-- the whole source
unfoldable pub program_text : ℕ → List ℕ
program_text n = chain_text n ++ (worker_line n ++ main_line n)
