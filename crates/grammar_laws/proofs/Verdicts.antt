-- The machine's run from the start gives just the refusal that the grammar gives.
use Rattle.grammar_laws.proofs.Common.{◌≡◌, ◌<◌, ◌⊎◌, inl, inr, ⊎_elim, refl, ap, subst, ◌∙◌, true, List, [], ◌∷◌, ◌++◌, Option, Some, arith, Token, Sign, Symbol, Any, Nearest, Takes, TakesAll, CanBeNothing, open_in, Task, step, open_tasks, sign_at, signs_of, finishes, CanBeTaken, IsDeep, IsShallow}
use Rattle.c_grammar.specs.Rests as symbols
use Rattle.c_grammar.specs.Machine as tasks
use Rattle.grammar_laws.proofs.Covers.{Covers}
use Rattle.grammar_laws.proofs.Ends.{same_open, some_rest}
use Rattle.grammar_laws.proofs.Agreement.{Steps, proper_steps, follow, derive}

-- steps are determined, and can be put one behind another
pub some_same : {made : Option (List Task)} {m n : List Task} → made ≡ Some m → made ≡ Some n → m ≡ n
some_same e f = cc

pub steps_same : {todo left right : List Task} {signs : List Sign} → Steps todo signs left → Steps todo signs right → left ≡ right
steps_same Steps.none Steps.none = refl
steps_same (Steps.one {left = l} {signs = ss} e a) (Steps.one f b) = let P : List Task → Type 0 = λ m. Steps m ss l in steps_same (subst P (some_same e f) a) b

pub steps_last : (sign : Sign) {todo between left : List Task} {signs : List Sign} → Steps todo signs between → step between sign ≡ Some left → Steps todo (signs ++ (sign ∷ [])) left
steps_last sign Steps.none e = Steps.one e Steps.none
steps_last sign (Steps.one f a) e = Steps.one f (steps_last sign a e)

pub signs_append : (front back : List Token) → signs_of (front ++ back) ≡ signs_of front ++ signs_of back
signs_append [] back = refl
signs_append (t ∷ front) back = ap (λ ss. sign_at t ∷ ss) (signs_append front back)

-- the start
abbrev pub start : List Task
start = tasks.Items ∷ []

abbrev pub program : List Symbol
program = symbols.Program ∷ []

nearest_any : {rest after : List Symbol} {sign : Sign} → Takes Nearest rest sign after → Takes Any rest sign after
nearest_any Takes.token = Takes.token
nearest_any (Takes.operator o) = Takes.operator o
nearest_any (Takes.prefix p) = Takes.prefix p
nearest_any (Takes.by a t) = Takes.by a (nearest_any t)
nearest_any (Takes.no_else may t) = Takes.no_else tt (nearest_any t)

pub all_nearest_any : {rest after : List Symbol} {signs : List Sign} → TakesAll Nearest rest signs after → TakesAll Any rest signs after
all_nearest_any TakesAll.none = TakesAll.none
all_nearest_any (TakesAll.one t more) = TakesAll.one (nearest_any t) (all_nearest_any more)

only_program : {rest : List Symbol} → Covers Nearest start rest → rest ≡ program
only_program Covers.items = refl

-- what the machine comes to from the start, the grammar comes to
pub record Reached (signs : List Sign) (todo : List Task) : Type 0 where
  pub rest : List Symbol
  pub taken : TakesAll Nearest program signs rest
  pub same : open_tasks todo ≡ open_in rest
  pub ended : finishes todo ≡ true → CanBeNothing rest

pub reach : (signs : List Sign) (todo : List Task) → Steps start signs todo → Reached signs todo
reach signs todo steps =
    let r = some_rest todo (proper_steps steps refl) in
    let d = derive steps r.rest r.covered in
    let P : List Symbol → Type 0 = λ from. TakesAll Nearest from signs d.left in
    let taken : TakesAll Nearest program signs d.left = subst P (only_program d.covered) d.takes in
    let f = follow taken start Covers.items refl in
    let same : open_tasks f.left ≡ open_in d.left = same_open f.covered in
    record { rest = d.left; taken = taken; same = ap open_tasks (steps_same steps f.steps) ∙ same; ended = λ e. d.included.nothing (r.nothing e) }

-- the machine can take the tokens, and is deep at their last
abbrev pub MachineTakes : List Token → Type 0
MachineTakes tokens = (todo : List Task) × Steps start (signs_of tokens) todo

abbrev pub MachineDeep : List Token → Type 0
MachineDeep tokens = (todo : List Task) × Steps start (signs_of tokens) todo × (64 < open_tasks todo)

pub can_take : (tokens : List Token) → MachineTakes tokens → CanBeTaken tokens
can_take tokens m = let r = reach (signs_of tokens) m.0 m.1 in (r.rest, all_nearest_any r.taken)

pub takes_it : (tokens : List Token) → CanBeTaken tokens → MachineTakes tokens
takes_it tokens c = let f = follow c.1 start Covers.items refl in (f.left, f.steps)

pub deep_is : (tokens : List Token) → MachineDeep tokens → IsDeep tokens
deep_is tokens m = let r = reach (signs_of tokens) m.0 m.1 in let e = r.same in let h = m.2 in (r.rest, r.taken, omega arith)

pub is_deep : (tokens : List Token) → IsDeep tokens → MachineDeep tokens
is_deep tokens d = let f = follow d.1 start Covers.items refl in let e = same_open f.covered in let h = d.2 in (f.left, f.steps, omega arith)

-- fronts of a list with one more at its end
abbrev Front : List Token → List Token → Type 0
Front xs front = (back : List Token) × (xs ≡ front ++ back)

no_front : (x f : Token) (fs back : List Token) → x ∷ [] ≡ f ∷ (fs ++ back) → f ∷ fs ≡ x ∷ []
no_front x f [] back e = cc
no_front x f (g ∷ fs) back e = cc

with_head : (x f y : Token) (xs fs back : List Token) → x ∷ (xs ++ (y ∷ [])) ≡ f ∷ (fs ++ back) → (Front xs fs ⊎ (fs ≡ xs ++ (y ∷ []))) → Front (x ∷ xs) (f ∷ fs) ⊎ (f ∷ fs ≡ x ∷ (xs ++ (y ∷ [])))
with_head x f y xs fs back e (inl h) = let k = h.1 in inl (h.0, cc)
with_head x f y xs fs back e (inr h) = inr (cc)

tails_same : (x f : Token) (xs ys : List Token) → x ∷ xs ≡ f ∷ ys → xs ≡ ys
tails_same x f xs ys e = cc

last_front : (xs : List Token) (y : Token) (front back : List Token) → xs ++ (y ∷ []) ≡ front ++ back → Front xs front ⊎ (front ≡ xs ++ (y ∷ []))
last_front xs y [] back e = inl (xs, refl)
last_front [] y (f ∷ fs) back e = inr (no_front y f fs back e)
last_front (x ∷ xs) y (f ∷ fs) back e = with_head x f y xs fs back e (last_front xs y fs back (tails_same x f (xs ++ (y ∷ [])) (fs ++ back) e))

no_deep_start : (todo : List Task) → Steps start [] todo → 64 < open_tasks todo → ⊥
no_deep_start todo Steps.none h = omega arith

pub shallow_none : IsShallow []
shallow_none [] back e d = let m = is_deep [] d in no_deep_start m.0 m.1 m.2
shallow_none (f ∷ fs) back e d = cc

-- one token more
pub shallow_more : (xs : List Token) (y : Token) → IsShallow xs → (IsDeep (xs ++ (y ∷ [])) → ⊥) → IsShallow (xs ++ (y ∷ []))
shallow_more xs y before here front back e d =
    ⊎_elim (λ h. before front h.0 h.1 d) (λ h. let P : List Token → Type 0 = λ l. IsDeep l in here (subst P h d)) (last_front xs y front back e)
