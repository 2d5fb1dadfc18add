-- What a text has after each piece that is appended.
use Rattle.workload.proofs.Common.{◌≡◌, ℕ, ℤ, pos, ◌+◌, ◌*◌, ◌%◌, ◌<◌, ◌^◌, List, ◌++◌, refl, ap, sym, ◌∙◌, arith, append_assoc, append-nil, add-one, to_z, of_z, FitsSigned, codes, canonical_decimal, canonical_integer, first_line, link_line, chain_text, worker_line, main_line, program_text, arrival_line, message_line, lines_below}
use Rattle.std.specs.Int.{w128}
use Rattle.std.proofs.lemmas.Int.{to_z-of_z}

decimal_of_pos : (n : ℕ) → canonical_integer (pos n) ≡ canonical_decimal n
unfolding canonical_integer
decimal_of_pos n = refl

-- a number of 32 bits, widened to 128 signed bits
pub widened : (z : ℤ) (n : ℕ) → n < 2 ^ 32 → z ≡ pos n → canonical_integer (to_z w128 (of_z w128 z)) ≡ canonical_decimal n
widened z n small e =
    let fits : FitsSigned w128 z = rw e (record { sfits = omega arith }) in
    ap canonical_integer (to_z-of_z w128 z fits ∙ e) ∙ decimal_of_pos n

-- a text with several pieces behind it
three : (old a b c : List ℕ) → ((old ++ a) ++ b) ++ c ≡ old ++ (a ++ (b ++ c))
three old a b c = simp append_assoc

five : (old a b c d e : List ℕ) → ((((old ++ a) ++ b) ++ c) ++ d) ++ e ≡ old ++ (a ++ (b ++ (c ++ (d ++ e))))
five old a b c d e = simp append_assoc

seven : (old a b c d e f g : List ℕ) → ((((((old ++ a) ++ b) ++ c) ++ d) ++ e) ++ f) ++ g ≡ old ++ (a ++ (b ++ (c ++ (d ++ (e ++ (f ++ g))))))
seven old a b c d e f g = simp append_assoc

-- what a text is after pieces that were appended one after another
pub after_three : (old first second third a b c whole : List ℕ) → first ≡ old ++ a → second ≡ first ++ b → third ≡ second ++ c → ((old ++ a) ++ b) ++ c ≡ whole → third ≡ whole
after_three old first second third a b c whole e f g same = g ∙ ap (λ l. l ++ c) (f ∙ ap (λ l. l ++ b) e) ∙ same

pub after_five : (old first second third fourth fifth a b c d e whole : List ℕ) → first ≡ old ++ a → second ≡ first ++ b → third ≡ second ++ c → fourth ≡ third ++ d → fifth ≡ fourth ++ e
    → ((((old ++ a) ++ b) ++ c) ++ d) ++ e ≡ whole → fifth ≡ whole
after_five old first second third fourth fifth a b c d e whole f g h k l same =
    l ∙ ap (λ t. t ++ e) (k ∙ ap (λ t. t ++ d) (after_three old first second third a b c _ f g h refl)) ∙ same

pub after_seven : (old first second third fourth fifth sixth seventh a b c d e f g whole : List ℕ) → first ≡ old ++ a → second ≡ first ++ b → third ≡ second ++ c → fourth ≡ third ++ d → fifth ≡ fourth ++ e → sixth ≡ fifth ++ f → seventh ≡ sixth ++ g
    → ((((((old ++ a) ++ b) ++ c) ++ d) ++ e) ++ f) ++ g ≡ whole → seventh ≡ whole
after_seven old first second third fourth fifth sixth seventh a b c d e f g whole h k l m n o p same =
    p ∙ ap (λ t. t ++ g) (o ∙ ap (λ t. t ++ f) (after_five old first second third fourth fifth a b c d e _ h k l m n refl)) ∙ same

pub first_written : (old : List ℕ) → ((old ++ codes "int f") ++ canonical_decimal 0) ++ codes "(int x) { return x; }\n" ≡ old ++ first_line
unfolding first_line
first_written old = three old (codes "int f") (canonical_decimal 0) (codes "(int x) { return x; }\n")

pub link_written : (old : List ℕ) (i m : ℕ)
    → ((((old ++ codes "int f") ++ canonical_decimal i) ++ codes "(int x) { int r; r = f") ++ canonical_decimal m) ++ codes "(x + 1); return r; }\n" ≡ old ++ link_line i m
unfolding link_line
link_written old i m = five old (codes "int f") (canonical_decimal i) (codes "(int x) { int r; r = f") (canonical_decimal m) (codes "(x + 1); return r; }\n")

pub worker_written : (old : List ℕ) (n : ℕ)
    → ((old ++ codes "void w(int n) { int c; int v; c = accept(); v = wait(c); v = f") ++ canonical_decimal n) ++ codes "(v); put(v); }\n" ≡ old ++ worker_line n
unfolding worker_line
worker_written old n = three old (codes "void w(int n) { int c; int v; c = accept(); v = wait(c); v = f") (canonical_decimal n) (codes "(v); put(v); }\n")

pub main_written : (old : List ℕ) (n : ℕ)
    → ((old ++ codes "int main() { int i; for (i = 0; i < ") ++ canonical_decimal n) ++ codes "; i = i + 1) spawn(w, i); return 0; }\n" ≡ old ++ main_line n
unfolding main_line
main_written old n = three old (codes "int main() { int i; for (i = 0; i < ") (canonical_decimal n) (codes "; i = i + 1) spawn(w, i); return 0; }\n")

-- the chain begins with its first function, and has one more after each link
pub chain_begins : chain_text 0 ≡ first_line
unfolding chain_text
chain_begins = refl

pub chain_more : (m : ℕ) → chain_text m ++ link_line (m + 1) m ≡ chain_text (m + 1)
unfolding chain_text
chain_more m = rw add-one refl

pub program_whole : (n : ℕ) → (chain_text n ++ worker_line n) ++ main_line n ≡ program_text n
unfolding program_text
program_whole n = append_assoc (chain_text n) (worker_line n) (main_line n)

pub arrival_written : (old : List ℕ) (j : ℕ)
    → ((((old ++ codes "arrive ") ++ canonical_decimal (10 * j)) ++ codes " ") ++ canonical_decimal (j % 64)) ++ codes "\n" ≡ old ++ arrival_line j
unfolding arrival_line
arrival_written old j = five old (codes "arrive ") (canonical_decimal (10 * j)) (codes " ") (canonical_decimal (j % 64)) (codes "\n")

pub message_written : (old : List ℕ) (j : ℕ)
    → ((((((old ++ codes "data ") ++ canonical_decimal (1000000 + 10 * j)) ++ codes " ") ++ canonical_decimal (j % 64)) ++ codes " ") ++ canonical_decimal j) ++ codes "\n" ≡ old ++ message_line j
unfolding message_line
message_written old j = seven old (codes "data ") (canonical_decimal (1000000 + 10 * j)) (codes " ") (canonical_decimal (j % 64)) (codes " ") (canonical_decimal j) (codes "\n")

-- no line, and one line more
pub lines_none : (old : List ℕ) (line : ℕ → List ℕ) → old ≡ old ++ lines_below line 0
unfolding lines_below
lines_none old line = sym (append-nil old)

pub lines_more : (old text : List ℕ) (line : ℕ → List ℕ) (j : ℕ) → text ≡ old ++ lines_below line j → text ++ line j ≡ old ++ lines_below line (j + 1)
unfolding lines_below
lines_more old text line j e = rw add-one (ap (λ l. l ++ line j) e ∙ append_assoc old (lines_below line j) (line j))
