-- Pieces of the machine's run put one behind another.
use Rattle.std.specs.Result.{IsErrAnd, IfErr}
use Rattle.grammar_reader.proofs.Common.{ℕ, ◌≡◌, ◌≢◌, ◌+◌, ◌<◌, ◌≤◌, Result, rules, refl, sym, ap, subst, ◌∙◌, true, false, List, [], ◌∷◌, ◌++◌, Some, append_assoc, arith, err_from_is_err_and, sameb, same_true, same_false, Token, ParseError, Unexpected, TooDeep, Sign, the_type, Task, Move, step, after_move, open_tasks, sign_at, finishes, run, next_sign, next_place, Passes, Leads, Refused, LeadsInside, RefusedInside}
use Rattle.c_grammar.specs.declared.signs.Sign.TheVariants as signs
use Rattle.c_grammar.specs.Machine as tasks
use Rattle.grammar_reader.proofs.Runs.{run_passes, run_too_deep, run_none}
use Rattle.grammar_reader.proofs.ExprRules.{pass_run, pass_end}

-- where so many constructs are open, the tasks from one list of tokens on lead to the others at another list
pub record Path (end depth : ℕ) (todo : List Task) (before : List Token) (left : List Task) (after : List Token) : Type 0 where
  pub goes : Leads end depth todo before left after

-- the tasks end in this refusal
pub record Stuck (end depth : ℕ) (todo : List Task) (before : List Token) (error : ParseError) : Type 0 where
  pub ends : (rest : List Task) → open_tasks rest ≡ depth → run end (todo ++ rest) before ≡ Some error

pub open_append : (xs ys : List Task) → open_tasks (xs ++ ys) ≡ open_tasks xs + open_tasks ys
open_append [] ys = omega arith
open_append (x ∷ xs) ys = let h = open_append xs ys in omega arith

pub opens_behind : (left rest : List Task) (depth inside : ℕ) → inside ≡ open_tasks left + depth → open_tasks rest ≡ depth → open_tasks (left ++ rest) ≡ inside
opens_behind left rest depth inside i o = let h = open_append left rest in omega arith

-- from here to here
pub here : (end depth : ℕ) (todo : List Task) (before : List Token) → Path end depth todo before todo before
here end depth todo before = record { goes = λ rest o. refl }

-- the first task is done by what is read
pub path_leads : {end depth inside : ℕ} {todo left : List Task} {t : Task} {a b c : List Token} → Path end depth todo a (t ∷ left) b → inside ≡ open_tasks left + depth → Leads end inside (t ∷ []) b [] c → Path end depth todo a left c
path_leads {depth = d} {inside = i} {left = l} p e h = record { goes = λ rest o. p.goes rest o ∙ h (l ++ rest) (opens_behind l rest d i e o) }

-- the first task is done by what is read, and leaves others
pub path_leads_to : (more : List Task) {end depth inside : ℕ} {todo left : List Task} {t : Task} {a b c : List Token} → Path end depth todo a (t ∷ left) b → inside ≡ open_tasks left + depth → Leads end inside (t ∷ []) b more c → Path end depth todo a (more ++ left) c
path_leads_to m {end = n} {depth = d} {inside = i} {left = l} {c = z} p e h =
    record { goes = λ rest o. p.goes rest o ∙ (h (l ++ rest) (opens_behind l rest d i e o) ∙ ap (λ ts. run n ts z) (sym (append_assoc m l rest))) }

-- the first task is refused
pub path_refused : {end depth inside : ℕ} {todo left : List Task} {t : Task} {a b : List Token} {error : ParseError} → Path end depth todo a (t ∷ left) b → inside ≡ open_tasks left + depth → Refused end inside (t ∷ []) b error → Refused end depth todo a error
path_refused {depth = d} {inside = i} {left = l} p e h other rest o = p.goes rest o ∙ h other (l ++ rest) (opens_behind l rest d i e o)

pub path_stuck : {end depth : ℕ} {todo left : List Task} {a b : List Token} {error : ParseError} → Path end depth todo a left b → Stuck end depth left b error → Refused end depth todo a error
path_stuck p h other rest o = p.goes rest o ∙ h.ends rest o

pub path_path : {end depth : ℕ} {todo left last : List Task} {a b c : List Token} → Path end depth todo a left b → Path end depth left b last c → Path end depth todo a last c
path_path p q = record { goes = λ rest o. p.goes rest o ∙ q.goes rest o }

-- the move of the first task at the next token
pub move_step : (t : Task) (s : Sign) {m : Move} (left rest : List Task) → tasks.move t s ≡ m → step (t ∷ (left ++ rest)) s ≡ after_move m (left ++ rest) (step (left ++ rest) s)
move_step t s left rest e = ap (λ m. after_move m (left ++ rest) (step (left ++ rest) s)) e

-- a token that the first task takes
pub takes : {end depth : ℕ} {t : Task} {s : Sign} {a b : List Token} (left more : List Task) → Passes s a b → s ≢ signs.Finish → tasks.move t s ≡ tasks.Take more → open_tasks (more ++ left) + depth ≤ 64 → Path end depth (t ∷ left) a (more ++ left) b
takes {end = n} {depth = d} {t = t'} {s = s'} {b = z} left more p some e low =
    record {
      goes = λ rest o.
          let k = open_append (more ++ left) rest in
          let P : List Task → Type 0 = λ ts. open_tasks ts ≤ 64 in
          run_passes n (t' ∷ (left ++ rest)) p some (move_step t' s' left rest e) (subst P (append_assoc more left rest) (omega arith)) ∙ ap (λ ts. run n ts z) (sym (append_assoc more left rest));
    }

-- a token at which too many constructs would be open
pub too_deep : {end depth : ℕ} {t : Task} {s : Sign} {a : List Token} {error : ParseError} (left more : List Task) → next_sign a ≡ s → s ≢ signs.Finish → tasks.move t s ≡ tasks.Take more → 64 < open_tasks (more ++ left) + depth → error ≡ TooDeep (next_place end a)
    → Stuck end depth (t ∷ left) a error
too_deep {end = n} {depth = d} {t = t'} {s = s'} {a = x} left more e some m deep place =
    record {
      ends = λ rest o.
          let k = open_append (more ++ left) rest in
          let P : List Task → Type 0 = λ ts. 64 < open_tasks ts in
          run_too_deep n (t' ∷ (left ++ rest)) s' x e some (move_step t' s' left rest m) (subst P (append_assoc more left rest) (omega arith)) ∙ ap Some (sym place);
    }

-- a token that the first task refuses
pub refuses : {end depth : ℕ} {t : Task} {a : List Token} {error : ParseError} (left : List Task) → tasks.move t (next_sign a) ≡ tasks.Refuse → ((rest : List Task) → finishes (t ∷ rest) ≡ false) → error ≡ Unexpected (next_place end a) → Stuck end depth (t ∷ left) a error
refuses {end = n} {t = t'} {a = x} left m unfinished place = record { ends = λ rest o. run_none n (t' ∷ (left ++ rest)) x (move_step t' (next_sign x) left rest m) (unfinished (left ++ rest)) ∙ ap Some (sym place) }

-- a token that the first task lets pass to the next
pub lets_pass : {end depth : ℕ} {t : Task} {a : List Token} (left : List Task) → tasks.move t (next_sign a) ≡ tasks.Pass → ((rest : List Task) → finishes (t ∷ rest) ≡ finishes rest) → Path end depth (t ∷ left) a left a
lets_pass {end = n} {t = t'} {a = []} left m same = record { goes = λ rest o. pass_end n (t' ∷ (left ++ rest)) (left ++ rest) (same (left ++ rest)) }
lets_pass {end = n} {t = t'} {a = x ∷ xs} left m same = record { goes = λ rest o. pass_run n (t' ∷ (left ++ rest)) (left ++ rest) x xs (move_step t' (sign_at x) left rest m) }

-- a task that does at the next token what another does
pub does_same : {end depth : ℕ} {t : Task} {a : List Token} (left others : List Task) → ((rest : List Task) → step (t ∷ (left ++ rest)) (next_sign a) ≡ step (others ++ rest) (next_sign a)) → ((rest : List Task) → finishes (t ∷ (left ++ rest)) ≡ finishes (others ++ rest))
    → Path end depth (t ∷ left) a others a
does_same {end = n} {t = t'} {a = []} left others e same = record { goes = λ rest o. pass_end n (t' ∷ (left ++ rest)) (others ++ rest) (same rest) }
does_same {end = n} {t = t'} {a = x ∷ xs} left others e same = record { goes = λ rest o. pass_run n (t' ∷ (left ++ rest)) (others ++ rest) x xs (e rest) }

-- the same for a task alone
pub takes_alone : {end depth : ℕ} {t : Task} {s : Sign} {a b : List Token} (more : List Task) → Passes s a b → s ≢ signs.Finish → tasks.move t s ≡ tasks.Take more → open_tasks more + depth ≤ 64 → Path end depth (t ∷ []) a more b
takes_alone {end = n} {depth = d} {t = t'} {s = x} more p some e low =
    record { goes = λ rest o. let k = open_append more rest in run_passes n (t' ∷ rest) p some (ap (λ m. after_move m rest (step rest x)) e) (omega arith) }

-- the same for a task that closes a construct
pub leads_inside : (end depth : ℕ) (t : Task) (a : List Token) (left : List Task) (b : List Token) → ((outer : ℕ) → 1 + outer ≡ depth → Path end outer (t ∷ []) a left b) → LeadsInside end depth t a left b
leads_inside end depth t a left b f rest o = let p = f (open_tasks rest) o in p.goes rest refl

pub refused_inside : (end depth : ℕ) (t : Task) (a : List Token) (error : ParseError) → ((outer : ℕ) → 1 + outer ≡ depth → Refused end outer (t ∷ []) a error) → RefusedInside end depth t a error
refused_inside end depth t a error f other rest o = f (open_tasks rest) o other rest refl

pub path_inside : {end depth inside : ℕ} {todo left : List Task} {t : Task} {a b c : List Token} → Path end depth todo a (t ∷ []) b → inside ≡ 1 + depth → LeadsInside end inside t b left c → Path end depth todo a left c
path_inside {depth = d} {inside = i} p e h = record { goes = λ rest o. p.goes rest o ∙ h rest (omega arith) }

pub path_refused_inside : {end depth inside : ℕ} {todo : List Task} {t : Task} {a b : List Token} {error : ParseError} → Path end depth todo a (t ∷ []) b → inside ≡ 1 + depth → RefusedInside end inside t b error → Refused end depth todo a error
path_refused_inside {depth = d} {inside = i} p e h other rest o = p.goes rest o ∙ h other rest (omega arith)

-- what a refusal that is handed on shows
pub exit : {T : Type 0} {error : ParseError} (P : ParseError → Type 0) (r : Result T ParseError) → IsErrAnd r (λ y. y ≡ error) → P error → IfErr r P
exit P r h k = let p = err_from_is_err_and r h in rw p.1 (subst P (sym p.2) k)

-- what a test of the next sign shows
pub sign_is : {x y z : Sign} → x ≡ y → true ≡ sameb the_type x z → y ≡ z
sign_is p e = sym p ∙ same_true the_type (search rules) _ _ (sym e)

pub sign_other : {x y z : Sign} → x ≡ y → false ≡ sameb the_type x z → y ≢ z
sign_other p e f = same_false the_type _ _ (sym e) (p ∙ f)

-- what an arm of a match on the next sign shows
pub arm_is : {x y z : Sign} → x ≡ y → x ≡ z → y ≡ z
arm_is p e = sym p ∙ e

pub arm_other : {x y z : Sign} → x ≡ y → (x ≡ z → ⊥) → y ≢ z
arm_other p h e = h (p ∙ e)
