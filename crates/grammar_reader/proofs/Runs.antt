-- One token in the machine's run, where the tokens are only known by the next one's sign.
use Rattle.grammar_reader.proofs.Common.{ℕ, ◌≡◌, ◌≢◌, ◌+◌, ◌<◌, ◌≤◌, refl, sym, ap, subst, ◌∙◌, false, List, [], ◌∷◌, length, Some, None, arith, Token, Unexpected, TooDeep, Sign, Task, step, open_tasks, finishes, run, next_sign, next_place, rest_of, Passes, run_taken, run_refused, run_deep, run_unfinished}
use Rattle.c_grammar.specs.declared.signs.Sign.TheVariants as signs
use Rattle.c_grammar.specs.Machine as tasks

pub run_sign : (end : ℕ) (todo : List Task) (s : Sign) {after : List Task} (before : List Token) → next_sign before ≡ s → s ≢ signs.Finish → step todo s ≡ Some after → open_tasks after ≤ 64 → run end todo before ≡ run end after (rest_of before)
run_sign end todo s [] e some stepped low = absurd (some (sym e))
run_sign end todo s {after = a} (token ∷ tokens) e some stepped low = let P : Sign → Type 0 = λ x. step todo x ≡ Some a in run_taken end todo token tokens (subst P (sym e) stepped) low

pub run_passes : (end : ℕ) (todo : List Task) {s : Sign} {after : List Task} {before behind : List Token} → Passes s before behind → s ≢ signs.Finish → step todo s ≡ Some after → open_tasks after ≤ 64 → run end todo before ≡ run end after behind
run_passes end todo {s = s'} {after = a} {before = b} p some stepped low = run_sign end todo s' b p.is_next some stepped low ∙ ap (λ l. run end a l) (sym p.behind)

pub run_too_deep : (end : ℕ) (todo : List Task) (s : Sign) {after : List Task} (before : List Token) → next_sign before ≡ s → s ≢ signs.Finish → step todo s ≡ Some after → 64 < open_tasks after → run end todo before ≡ Some (TooDeep (next_place end before))
run_too_deep end todo s [] e some stepped deep = absurd (some (sym e))
run_too_deep end todo s {after = a} (token ∷ tokens) e some stepped deep = let P : Sign → Type 0 = λ x. step todo x ≡ Some a in run_deep end todo token tokens (subst P (sym e) stepped) deep

pub run_none : (end : ℕ) (todo : List Task) (before : List Token) → step todo (next_sign before) ≡ None → finishes todo ≡ false → run end todo before ≡ Some (Unexpected (next_place end before))
run_none end todo [] stepped unfinished = run_unfinished end todo unfinished
run_none end todo (token ∷ tokens) stepped unfinished = run_refused end todo token tokens stepped

-- what is behind a token is shorter
pub shorter_sign : (s : Sign) (before : List Token) → next_sign before ≡ s → s ≢ signs.Finish → length (rest_of before) + 1 ≡ length before
shorter_sign s [] e some = absurd (some (sym e))
shorter_sign s (token ∷ tokens) e some = omega arith

pub passes_shorter : {s : Sign} {before after : List Token} → Passes s before after → s ≢ signs.Finish → length after < length before
passes_shorter {s = s'} {before = b} p some = let e = ap length p.behind in let f = shorter_sign s' b p.is_next some in omega arith

-- the task refuses all signs but one
pub refuses_but : (task : Task) (rest : List Task) (s t : Sign) → ((x : Sign) → x ≢ s → tasks.move task x ≡ tasks.Refuse) → t ≢ s → step (task ∷ rest) t ≡ None
refuses_but task rest s t only other = ap (λ made. tasks.after_move made rest (step rest t)) (only t other)

pub parenthesized_only : (x : Sign) → x ≢ signs.LeftParenthesis → tasks.parenthesized_move x ≡ tasks.Refuse
parenthesized_only signs.LeftParenthesis other = absurd (other refl)
parenthesized_only _ other = refl

pub right_parenthesis_only : (x : Sign) → x ≢ signs.RightParenthesis → tasks.token_move signs.RightParenthesis x ≡ tasks.Refuse
right_parenthesis_only signs.RightParenthesis other = absurd (other refl)
right_parenthesis_only _ other = refl

pub right_bracket_only : (x : Sign) → x ≢ signs.RightBracket → tasks.token_move signs.RightBracket x ≡ tasks.Refuse
right_bracket_only signs.RightBracket other = absurd (other refl)
right_bracket_only _ other = refl

pub colon_only : (x : Sign) → x ≢ signs.Colon → tasks.token_move signs.Colon x ≡ tasks.Refuse
colon_only signs.Colon other = absurd (other refl)
colon_only _ other = refl

pub semicolon_only : (x : Sign) → x ≢ signs.Semicolon → tasks.token_move signs.Semicolon x ≡ tasks.Refuse
semicolon_only signs.Semicolon other = absurd (other refl)
semicolon_only _ other = refl
