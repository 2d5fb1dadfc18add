-- The machine's run from the start is the verdict of the grammar, and no other verdict stands.
use Rattle.grammar_laws.proofs.Common.{ℕ, ◌≡◌, ◌<◌, ◌≤◌, ◌⊎◌, inl, inr, ⊎_elim, refl, sym, ap, subst, ◌∙◌, true, false, List, [], ◌∷◌, ◌++◌, Option, Some, None, append_assoc, arith, cases_lt, cases_Bool, Token, Sign, Symbol, Any, Nearest, CanBeNothing, Task, step, open_tasks, sign_at, signs_of, finishes, run, Leave, CanBeTaken, IsLeft, AreWhole, IsShallow, IsUnexpectedToken, IsUnexpectedEnd, IsTooDeep, IsWithin, Verdict, run_end, run_unfinished, run_refused, run_taken, run_deep}
use Rattle.std.proofs.lemmas.List.{append-nil}
use Rattle.c_grammar.specs.declared.errors.ParseError.{ParseError}
use Rattle.c_grammar.specs.declared.errors.ParseError.TheVariants.{Unexpected, TooDeep}
use Rattle.grammar_laws.proofs.Covers.{Covers}
use Rattle.grammar_laws.proofs.Ends.{nothing_finishes}
use Rattle.grammar_laws.proofs.Agreement.{Steps, follow}
use Rattle.grammar_laws.proofs.Verdicts.{start, some_same, steps_same, steps_last, signs_append, can_take, takes_it, deep_is, is_deep, reach, shallow_none, shallow_more, all_nearest_any}

-- the last step of several
record LastStep (todo : List Task) (signs : List Sign) (sign : Sign) (left : List Task) : Type 0 where
  between : List Task
  steps : Steps todo signs between
  last : step between sign ≡ Some left

step_of : (todo : List Task) (sign : Sign) {between left : List Task} → step todo sign ≡ Some between → Steps between [] left → step todo sign ≡ Some left
step_of todo sign e Steps.none = e

split_last : (signs : List Sign) (sign : Sign) {todo left : List Task} → Steps todo (signs ++ (sign ∷ [])) left → LastStep todo signs sign left
split_last [] sign {todo = t} (Steps.one e a) = record { between = t; steps = Steps.none; last = step_of t sign e a }
split_last (s ∷ signs) sign (Steps.one e a) = let h = split_last signs sign a in record { between = h.between; steps = Steps.one e h.steps; last = h.last }

-- where the machine can take the tokens and one more, and comes to these tasks before that, it takes the one from there
next_step : (front : List Token) (token : Token) (todo left : List Task) → Steps start (signs_of front) todo → Steps start (signs_of (front ++ (token ∷ []))) left → step todo (sign_at token) ≡ Some left
next_step front token todo left steps more =
    let P : List Sign → Type 0 = λ ss. Steps start ss left in
    let h = split_last (signs_of front) (sign_at token) (subst P (signs_append front (token ∷ [])) more) in
    let Q : List Task → Type 0 = λ t. step t (sign_at token) ≡ Some left in
    subst Q (steps_same h.steps steps) h.last

further : (front : List Token) (token : Token) {todo left : List Task} → Steps start (signs_of front) todo → step todo (sign_at token) ≡ Some left → Steps start (signs_of (front ++ (token ∷ []))) left
further front token {left = l} steps e = let P : List Sign → Type 0 = λ ss. Steps start ss l in subst P (sym (signs_append front (token ∷ []))) (steps_last (sign_at token) steps e)

finished : (end : ℕ) (front : List Token) (todo : List Task) → Steps start (signs_of front) todo → IsShallow front → (finishes todo ≡ true) ⊎ (finishes todo ≡ false) → Verdict end front (run end todo [])
finished end front todo steps shallow (inl e) =
    let r = reach (signs_of front) todo steps in
    let V : Option ParseError → Type 0 = Verdict end front in
    subst V (sym (run_end end todo e)) (record { rest = r.rest; taken = r.taken; whole = r.ended e; not_too_deep = shallow })
finished end front todo steps shallow (inr e) =
    let V : Option ParseError → Type 0 = Verdict end front in
    subst V (sym (run_unfinished end todo e)) (inr (record {
      place = refl;
      taken = can_take front (todo, steps);
      unfinished = λ rest taken nothing.
          let f = follow taken start Covers.items refl in
          let same : f.left ≡ todo = steps_same f.steps steps in
          let done : finishes f.left ≡ true = nothing_finishes f.covered nothing in
          let undone : finishes f.left ≡ false = ap finishes same ∙ e in
          cc;
      not_too_deep = shallow;
    }))

refused_here : (end : ℕ) (front : List Token) (token : Token) (tokens : List Token) (todo : List Task) → Steps start (signs_of front) todo → IsShallow front → step todo (sign_at token) ≡ None
    → Verdict end (front ++ (token ∷ tokens)) (run end todo (token ∷ tokens))
refused_here end front token tokens todo steps shallow e =
    let V : Option ParseError → Type 0 = Verdict end (front ++ (token ∷ tokens)) in
    subst V (sym (run_refused end todo token tokens e)) (inl (record {
      before = front;
      token = token;
      after = tokens;
      split = refl;
      place = refl;
      taken = can_take front (todo, steps);
      not_with_it = λ more. let m = takes_it (front ++ (token ∷ [])) more in let f = next_step front token todo m.0 steps m.1 in cc;
      not_too_deep = shallow;
    }))

deep_here : (end : ℕ) (front : List Token) (token : Token) (tokens : List Token) (todo after : List Task) → Steps start (signs_of front) todo → IsShallow front → step todo (sign_at token) ≡ Some after → 64 < open_tasks after
    → Verdict end (front ++ (token ∷ tokens)) (run end todo (token ∷ tokens))
deep_here end front token tokens todo after steps shallow e deep =
    let V : Option ParseError → Type 0 = Verdict end (front ++ (token ∷ tokens)) in
    subst V (sym (run_deep end todo token tokens e deep)) (record {
      before = front;
      token = token;
      after = tokens;
      split = refl;
      place = refl;
      deep = deep_is (front ++ (token ∷ [])) (after, further front token steps e, deep);
      first = shallow;
    })

still_shallow : (front : List Token) (token : Token) (todo after : List Task) → Steps start (signs_of front) todo → IsShallow front → step todo (sign_at token) ≡ Some after → open_tasks after ≤ 64 → IsShallow (front ++ (token ∷ []))
still_shallow front token todo after steps shallow e low =
    shallow_more front token shallow (λ d.
    let m = is_deep (front ++ (token ∷ [])) d in
    let same : after ≡ m.0 = some_same e (next_step front token todo m.0 steps m.1) in
    let opened = ap open_tasks same in
    let deep = m.2 in
    omega arith)

abbrev Onward : ℕ → Token → List Token → List Token → Type 0
Onward end token tokens front = (after : List Task) → Steps start (signs_of (front ++ (token ∷ []))) after → IsShallow (front ++ (token ∷ [])) → Verdict end ((front ++ (token ∷ [])) ++ tokens) (run end after tokens)

low_here : (end : ℕ) (token : Token) (tokens front : List Token) (todo after : List Task) → Steps start (signs_of front) todo → IsShallow front → step todo (sign_at token) ≡ Some after → open_tasks after ≤ 64
    → Onward end token tokens front → Verdict end (front ++ (token ∷ tokens)) (run end todo (token ∷ tokens))
low_here end token tokens front todo after steps shallow e low onward =
    let V : Option ParseError → Type 0 = Verdict end (front ++ (token ∷ tokens)) in
    let W : List Token → Type 0 = λ l. Verdict end l (run end after tokens) in
    subst V (sym (run_taken end todo token tokens e low)) (subst W (append_assoc front (token ∷ []) tokens) (onward after (further front token steps e) (still_shallow front token todo after steps shallow e low)))

one_more : (end : ℕ) (token : Token) (tokens front : List Token) (todo : List Task) → Steps start (signs_of front) todo → IsShallow front → Onward end token tokens front
    → (made : Option (List Task)) → step todo (sign_at token) ≡ made → Verdict end (front ++ (token ∷ tokens)) (run end todo (token ∷ tokens))
one_more end token tokens front todo steps shallow onward None e = refused_here end front token tokens todo steps shallow e
one_more end token tokens front todo steps shallow onward (Some after) e =
    ⊎_elim (λ deep. deep_here end front token tokens todo after steps shallow e deep) (λ low. low_here end token tokens front todo after steps shallow e low onward) (cases_lt 64 (open_tasks after))

-- the run from where the tokens in front lead
outcome : (end : ℕ) (tokens front : List Token) (todo : List Task) → Steps start (signs_of front) todo → IsShallow front → Verdict end (front ++ tokens) (run end todo tokens)
outcome end [] front todo steps shallow =
    let W : List Token → Type 0 = λ l. Verdict end l (run end todo []) in
    subst W (sym (append-nil front)) (finished end front todo steps shallow (cases_Bool (finishes todo)))
outcome end (token ∷ tokens) front todo steps shallow =
    one_more end token tokens front todo steps shallow (λ after further_steps further_shallow. outcome end tokens (front ++ (token ∷ [])) after further_steps further_shallow) (step todo (sign_at token)) refl

-- the run from the start is a verdict of the grammar
pub run_is_verdict : (end : ℕ) (tokens : List Token) → Verdict end tokens (run end start tokens)
run_is_verdict end tokens = outcome end tokens [] start Steps.none shallow_none

-- a run along tokens at none of which it is too deep
run_along : (end : ℕ) (front tokens : List Token) (todo left : List Task) → Steps todo (signs_of front) left
    → ((f b : List Token) (x : List Task) → front ≡ f ++ b → Steps todo (signs_of f) x → (f ≡ [] → ⊥) → open_tasks x ≤ 64) → run end todo (front ++ tokens) ≡ run end left tokens
run_along end [] tokens todo left Steps.none low = refl
run_along end (t ∷ front) tokens todo left (Steps.one e a) low =
    run_taken end todo t (front ++ tokens) e (low (t ∷ []) front _ refl (Steps.one e Steps.none) (λ n. cc))
    ∙ run_along end front tokens _ left a (λ f b x split steps some. low (t ∷ f) b x (ap (λ l. t ∷ l) split) (Steps.one e steps) (λ n. cc))

along : (end : ℕ) (front tokens : List Token) (left : List Task) → Steps start (signs_of front) left → IsShallow front → run end start (front ++ tokens) ≡ run end left tokens
along end front tokens left steps shallow =
    run_along end front tokens start left steps (λ f b x split at some. ⊎_elim (λ deep. absurd (shallow f b split (deep_is f (x, at, deep)))) (λ low. low) (cases_lt 64 (open_tasks x)))

within_run : (end : ℕ) (tokens : List Token) → IsWithin tokens → run end start tokens ≡ None
within_run end tokens w =
    let f = follow (all_nearest_any w.taken) start Covers.items refl in
    let P : List Token → Type 0 = λ l. run end start l ≡ None in
    subst P (append-nil tokens) (along end tokens [] f.left f.steps w.not_too_deep ∙ run_end end f.left (nothing_finishes f.covered w.whole))

none_made : (front : List Token) (token : Token) (todo : List Task) → Steps start (signs_of front) todo → (CanBeTaken (front ++ (token ∷ [])) → ⊥) → (made : Option (List Task)) → step todo (sign_at token) ≡ made → made ≡ None
none_made front token todo steps cannot None e = refl
none_made front token todo steps cannot (Some x) e = absurd (cannot (can_take (front ++ (token ∷ [])) (x, further front token steps e)))

token_run : (end : ℕ) (tokens : List Token) (at : ℕ) → IsUnexpectedToken tokens at → run end start tokens ≡ Some (Unexpected at)
token_run end tokens at u =
    let m = takes_it u.before u.taken in
    let none : step m.0 (sign_at u.token) ≡ None = none_made u.before u.token m.0 m.1 u.not_with_it (step m.0 (sign_at u.token)) refl in
    ap (λ l. run end start l) u.split ∙ (along end u.before (u.token ∷ u.after) m.0 m.1 u.not_too_deep ∙ (run_refused end m.0 u.token u.after none ∙ ap (λ a. Some (Unexpected a)) (sym u.place)))

unfinished_is : (tokens : List Token) (todo : List Task) → Steps start (signs_of tokens) todo → ((rest : List Symbol) → Leave Any tokens rest → CanBeNothing rest → ⊥) → (finishes todo ≡ true) ⊎ (finishes todo ≡ false) → finishes todo ≡ false
unfinished_is tokens todo steps not_done (inl e) = let r = reach (signs_of tokens) todo steps in absurd (not_done r.rest (all_nearest_any r.taken) (r.ended e))
unfinished_is tokens todo steps not_done (inr e) = e

end_run : (end : ℕ) (tokens : List Token) (at : ℕ) → IsUnexpectedEnd end tokens at → run end start tokens ≡ Some (Unexpected at)
end_run end tokens at u =
    let m = takes_it tokens u.taken in
    let e = unfinished_is tokens m.0 m.1 u.unfinished (cases_Bool (finishes m.0)) in
    let P : List Token → Type 0 = λ l. run end start l ≡ Some (Unexpected at) in
    subst P (append-nil tokens) (along end tokens [] m.0 m.1 u.not_too_deep ∙ (run_unfinished end m.0 e ∙ ap (λ a. Some (Unexpected a)) (sym u.place)))

deep_run : (end : ℕ) (tokens : List Token) (at : ℕ) → IsTooDeep tokens at → run end start tokens ≡ Some (TooDeep at)
deep_run end tokens at u =
    let d = is_deep (u.before ++ (u.token ∷ [])) u.deep in
    let P : List Sign → Type 0 = λ ss. Steps start ss d.0 in
    let h = split_last (signs_of u.before) (sign_at u.token) (subst P (signs_append u.before (u.token ∷ [])) d.1) in
    ap (λ l. run end start l) u.split ∙ (along end u.before (u.token ∷ u.after) h.between h.steps u.first ∙ (run_deep end h.between u.token u.after h.last d.2 ∙ ap (λ a. Some (TooDeep a)) (sym u.place)))

-- no other verdict of the grammar stands
pub only_verdict : (end : ℕ) (tokens : List Token) (r : Option ParseError) → Verdict end tokens r → run end start tokens ≡ r
only_verdict end tokens None v = within_run end tokens v
only_verdict end tokens (Some (Unexpected at)) (inl u) = token_run end tokens at u
only_verdict end tokens (Some (Unexpected at)) (inr u) = end_run end tokens at u
only_verdict end tokens (Some (TooDeep at)) v = deep_run end tokens at v
only_verdict end tokens (Some _) v = absurd v

-- an else may always be given to the nearest if that can take it
pub nearest_taken : (tokens : List Token) → CanBeTaken tokens → IsLeft Nearest tokens
nearest_taken tokens c = let m = takes_it tokens c in let r = reach (signs_of tokens) m.0 m.1 in (r.rest, r.taken)

pub nearest_whole : (tokens : List Token) → AreWhole Any tokens → AreWhole Nearest tokens
nearest_whole tokens w =
    let f = follow w.1 start Covers.items refl in
    let r = reach (signs_of tokens) f.left f.steps in
    (r.rest, r.taken, r.ended (nothing_finishes f.covered w.2))

pub some_verdict : (end : ℕ) (tokens : List Token) → (verdict : Option ParseError) × Verdict end tokens verdict
some_verdict end tokens = (run end start tokens, run_is_verdict end tokens)

pub one_verdict : (end : ℕ) (tokens : List Token) (verdict other : Option ParseError) → Verdict end tokens verdict → Verdict end tokens other → verdict ≡ other
one_verdict end tokens verdict other v w = sym (only_verdict end tokens verdict v) ∙ only_verdict end tokens other w
