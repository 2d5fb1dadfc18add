-- One token: in the machine's run, and as a number.
use Rattle.std.proofs.Common.{ℕ, ◌≡◌, ◌<◌, ◌≤◌, refl, ap, ◌∙◌, true, false, List, [], ◌∷◌, Option, Some, None, arith}
use Rattle.std.specs.Prelude.{nat_le, if◌then◌else◌}
use Rattle.std.proofs.lemmas.Bool.Decides.{nat_tests}
use Rattle.c_lex.specs.declared.tokens.Token.{Token}
use Rattle.c_lex.specs.declared.tokens.TokenKind.{TokenKind}
use Rattle.c_lex.specs.declared.tokens.TokenKind.TheVariants as kinds
use Rattle.c_grammar.specs.declared.errors.ParseError.{ParseError}
use Rattle.c_grammar.specs.declared.errors.ParseError.TheVariants.{Unexpected, TooDeep}
use Rattle.c_grammar.specs.declared.signs.Sign.TheVariants as signs
use Rattle.c_grammar.specs.Signs.{sign_of_token}
use Rattle.c_grammar.specs.Machine.{Task, step, open_tasks}
use Rattle.c_grammar.specs.Reading.{sign_at, finishes, run}
use Rattle.c_grammar.specs.Tokens.{Passes, PassesNumber}

-- one token in a run
pub run_end : (end : ℕ) (todo : List Task) → finishes todo ≡ true → run end todo [] ≡ None
unfolding run
run_end end todo e = ap (λ b. if b then None else Some (Unexpected end)) e

pub run_unfinished : (end : ℕ) (todo : List Task) → finishes todo ≡ false → run end todo [] ≡ Some (Unexpected end)
unfolding run
run_unfinished end todo e = ap (λ b. if b then None else Some (Unexpected end)) e

-- the body of a run, where the step is known
one_token : ℕ → ℕ → List Token → Option (List Task) → Option ParseError
unfolding run
one_token end at tokens made =
    elim made [
      | None ↦ Some (Unexpected at)
      | Some after ↦ (if nat_le (open_tasks after) 64 then run end after tokens else Some (TooDeep at))
    ]

run_is : (end : ℕ) (todo : List Task) (token : Token) (tokens : List Token) → run end todo (token ∷ tokens) ≡ one_token end token.at tokens (step todo (sign_at token))
unfolding run one_token
run_is end todo token tokens = refl

pub run_refused : (end : ℕ) (todo : List Task) (token : Token) (tokens : List Token) → step todo (sign_at token) ≡ None → run end todo (token ∷ tokens) ≡ Some (Unexpected token.at)
unfolding one_token
run_refused end todo token tokens e = run_is end todo token tokens ∙ ap (one_token end token.at tokens) e

le_true : (m n : ℕ) → m ≤ n → nat_le m n ≡ true
le_true m n h = grind (arith, nat_tests)

le_false : (m n : ℕ) → n < m → nat_le m n ≡ false
le_false m n h = grind (arith, nat_tests)

pub run_taken : (end : ℕ) (todo : List Task) (token : Token) (tokens : List Token) {after : List Task} → step todo (sign_at token) ≡ Some after → open_tasks after ≤ 64 → run end todo (token ∷ tokens) ≡ run end after tokens
unfolding one_token
run_taken end todo token tokens {after = a} e h =
    run_is end todo token tokens ∙ ap (one_token end token.at tokens) e ∙ ap (λ b. if b then run end a tokens else Some (TooDeep token.at)) (le_true (open_tasks a) 64 h)

pub run_deep : (end : ℕ) (todo : List Task) (token : Token) (tokens : List Token) {after : List Task} → step todo (sign_at token) ≡ Some after → 64 < open_tasks after → run end todo (token ∷ tokens) ≡ Some (TooDeep token.at)
unfolding one_token
run_deep end todo token tokens {after = a} e h =
    run_is end todo token tokens ∙ ap (one_token end token.at tokens) e ∙ ap (λ b. if b then run end a tokens else Some (TooDeep token.at)) (le_false (open_tasks a) 64 h)

-- a number
kind_of : {a b : TokenKind} → Some a ≡ Some b → a ≡ b
kind_of e = cc

kind_number : (kind : TokenKind) (v : ℕ) → kind ≡ kinds.Number v → sign_of_token kind ≡ signs.Number
kind_number kind v e = ap sign_of_token e

pub number_passes : (before : List Token) {value : ℕ} {after : List Token} → PassesNumber before value after → Passes signs.Number before after
number_passes [] p = let e = p.is_next in cc
number_passes (t ∷ tokens) {value = v} p = record { is_next = kind_number t.kind v (kind_of p.is_next); behind = p.behind }
