-- The source of the workload isn't too long and isn't refused, what is built of it neither, and the options of `demo` are in their ranges.
use Rattle.capriccio_commands.proofs.Common.{◌≡◌, ℕ, zero, suc, ◌+◌, ◌*◌, ◌<◌, ◌≤◌, List, ◌++◌, length, Some, None, refl, ap, sym, subst, ◌∙◌, ⊎_elim, arith, eq-zero-or-pos, length-append, codes, canonical_decimal, decimal_some, decimal_zero, ProgramTree, lowered, reads_nested, line_feed, first_line, link_line, chain_text, worker_line, main_line, program_text, Memory, Stop, Refused, Failed, Outcome, NoMore, AfterSource, IsStop, demo_sizes, demo_policy, IsRunPolicy}
use Rattle.std.specs.Int.Digits.{digits_of}
use Rattle.std.proofs.lemmas.List.{length-map}
use Rattle.std.proofs.lemmas.Int.Digits.{length-digits_of-le}
use Rattle.c_hoist.specs.NestedText.{ReadsNested}
use Rattle.c_hoist.proofs.EveryNested.{never, one_program}
use Rattle.codegen_link.specs.Layout.{code_words}
use Rattle.codegen_link.specs.Plans.{AreInRange}
use Rattle.stack_build.specs.declared.refusals.BuildError.TheVariants.{FrameTooLarge}
use Rattle.workload.proofs.Reading.{program_read}
use Rattle.workload.specs.Sizes.{HasFittingSizes}
use Rattle.workload.proofs.Built.{workload_fits}
use Rattle.pair_commands.specs.BuildsFiles.{IsUnbuilt}
use Rattle.command_options.proofs.Options.{none-most}

-- ---- how long it is

decimal-few : (n : ℕ) → n ≤ 1000 → length (canonical_decimal n) ≤ 4
decimal-few n few = ⊎_elim
    (λ z. subst (λ (k : ℕ). length (canonical_decimal k) ≤ 4) (sym z) (rw decimal_zero (omega arith)))
    (λ p. let digits = length-digits_of-le 10 4 n (omega arith) (omega arith) in omega (arith, digits, ap length (decimal_some n p), length-map (digits_of 10 n) (λ (d : ℕ). 48 + d)))
    (eq-zero-or-pos n)

three-long : (a b c : List ℕ) → length (a ++ (b ++ c)) ≡ length a + length b + length c
three-long a b c = omega (arith, length-append a (b ++ c), length-append b c)

four-long : (a b c d : List ℕ) → length (a ++ (b ++ (c ++ d))) ≡ length a + length b + length c + length d
four-long a b c d = omega (arith, length-append a (b ++ (c ++ d)), length-append b (c ++ d), length-append c d)

six-long : (a b c d e f : List ℕ) → length (a ++ (b ++ (c ++ (d ++ (e ++ f))))) ≡ length a + length b + length c + length d + length e + length f
six-long a b c d e f = omega (arith, length-append a (b ++ (c ++ (d ++ (e ++ f)))), four-long b c d (e ++ f), length-append e f)

first-short : length first_line ≤ 100
unfolding first_line
first-short =
    let zero-few = decimal-few 0 (omega arith) in
    omega (arith, four-long (codes "int f") (canonical_decimal 0) (codes "(int x) { return x; }") line_feed, zero-few)

link-short : (i m : ℕ) → i ≤ 1000 → m ≤ 1000 → length (link_line i m) ≤ 100
unfolding link_line
link-short i m few less =
    omega (arith, six-long (codes "int f") (canonical_decimal i) (codes "(int x) { int r; r = f") (canonical_decimal m) (codes "(x + 1); return r; }") line_feed, decimal-few i few, decimal-few m less)

chain-short : (n : ℕ) → n ≤ 1000 → length (chain_text n) ≤ 100 * (n + 1)
unfolding chain_text
chain-short zero few = omega (arith, first-short)
chain-short (suc m) few = omega (arith, length-append (chain_text m) (link_line (suc m) m), chain-short m (omega arith), link-short (suc m) m few (omega arith))

worker-short : (n : ℕ) → n ≤ 1000 → length (worker_line n) ≤ 200
unfolding worker_line
worker-short n few = omega (arith, four-long (codes "void w(int n) { int c; int v; c = accept(); v = wait(c); v = f") (canonical_decimal n) (codes "(v); put(v); }") line_feed, decimal-few n few)

main-short : (n : ℕ) → n ≤ 1000 → length (main_line n) ≤ 200
unfolding main_line
main-short n few = omega (arith, four-long (codes "int main() { int i; for (i = 0; i < ") (canonical_decimal n) (codes "; i = i + 1) spawn(w, i); return 0; }") line_feed, decimal-few n few)

pub program-short : (n : ℕ) → n ≤ 1000 → length (program_text n) ≤ 1048576
unfolding program_text
program-short n few = omega (arith, three-long (chain_text n) (worker_line n) (main_line n), chain-short n few, worker-short n few, main-short n few)

-- ---- it reads as a program

pub no-source-error : {A : Type 0} (a : A) (bytes : List ℕ) (program : ProgramTree) (stop : Stop) → ReadsNested bytes program → IsStop (AfterSource bytes NoMore) stop → IsStop (NoMore a) stop
no-source-error a bytes program (Refused cause) reads h = ⊎_elim (λ x. absurd x.2) (λ x. absurd (never bytes program x.0 reads x.1)) h
no-source-error a bytes program (Failed Memory) reads h = tt
no-source-error a bytes program (Failed _) reads h = absurd h

-- ---- it is built

-- no frame of it and not its code is refused
pub always-built : {P : Type 0} (n : ℕ) → 1 ≤ n → n ≤ 1000 → (program : ProgramTree) (o : Outcome) → ReadsNested (program_text n) program → IsUnbuilt demo_sizes program o → P
always-built n low high program o reads h =
    let whole = program_read n low high in
    let same = one_program (program_text n) whole.0 program (reads_nested (program_text n) whole.0 whole.1) reads in
    let fits = subst HasFittingSizes same (workload_fits n low high whole.0 whole.1) in
    ⊎_elim
    (λ x. let clash : None ≡ Some (FrameTooLarge x.function x.bytes) = sym fits.frames ∙ x.first in absurd (cc))
    (λ x.
    let large = x.2 in
    let few : code_words (lowered program) large.0 ≤ 200000 = fits.words large.0 in
    let many : 200000 < code_words (lowered program) large.0 = large.2 in
    absurd (omega arith))
    h

-- ---- its options

pub demo-in-range : AreInRange demo_sizes
demo-in-range = record { aligned = refl; least = omega arith; most = omega arith; path = omega arith; room = omega arith }

pub demo-run-policy : IsRunPolicy demo_policy
demo-run-policy = record {
  some_chunks = omega arith;
  chunks = omega arith;
  extra = omega arith;
  extra_least = omega arith;
  extra_most = omega arith;
  extra_whole = refl;
  fuel = omega arith;
  some_backlog = omega arith;
  backlog = omega arith;
  caps = λ r some few. none-most 8 r;
  high = omega arith;
  low = omega arith;
  rule = tt;
  knee = omega arith;
}

pub demo-pool : (chunk : ℕ) → chunk ≡ demo_sizes.chunk → demo_policy.chunks * chunk + demo_policy.extra * demo_policy.extra_bytes ≤ 67108864
demo-pool chunk is = omega (arith, is)
