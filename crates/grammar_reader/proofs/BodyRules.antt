-- What the functions of blocks and of statements that hold others come to, exit by exit.
use Rattle.grammar_reader.proofs.Common.{ℕ, ◌≡◌, ◌≢◌, ◌+◌, ◌<◌, ◌≤◌, refl, sym, ap, subst, ◌∙◌, true, List, [], ◌∷◌, ◌++◌, Option, arith, Token, RawExprTree, RawSimpleTree, RawStmtTree, RawStmtTrees, RawEmpty, RawBlock, RawIf, RawIfElse, RawWhile, RawFor, NoRawStmts, RawThen, raw_in_order, raw_stmt_temporaries, ParseError, TooDeep, Sign, Task, step, open_tasks, run, sign_at, next_sign, next_place, rest_of, Passes, IsBody, IsBlock, AreStmts, Refused, ReadsParenthesized, RefusedInside, ReadsBody, ReadsBlock, RefusedBlock, ReadsForParts, AreSmall, ReadingBlock, ReadsBlockItem, stmts_before}
use Rattle.c_grammar.specs.declared.signs.Sign.TheVariants as signs
use Rattle.c_grammar.specs.Machine as tasks
use Rattle.grammar_reader.proofs.Runs.{run_passes, passes_shorter}
use Rattle.grammar_reader.proofs.ExprRules.{pass_run, pass_end}
use Rattle.grammar_reader.proofs.BracketRules.{Opens}
use Rattle.grammar_reader.proofs.Paths.{Path, here, path_leads, path_refused, path_stuck, path_path, takes_alone, too_deep, lets_pass}
use Rattle.grammar_reader.proofs.PlainRules.{small_append}

pub empty_read : (source : List ℕ) (end depth : ℕ) (a b : List Token) → depth ≤ 64 → next_sign a ≡ signs.Semicolon → b ≡ rest_of a → ReadsBody source end depth a RawEmpty b
empty_read source end depth a b low e behind =
    let p : Passes signs.Semicolon a b = record { is_next = e; behind = behind } in
    let q : Path end depth (tasks.Body ∷ []) a [] b = takes_alone [] p (λ e. cc) refl (omega arith) in
    record { tree = IsBody.empty p; shorter = passes_shorter p (λ e. cc); leads = q.goes; small = omega arith }

-- blocks
pub block_stmt : (source : List ℕ) (end depth : ℕ) (a b : List Token) (ss : RawStmtTrees) → ReadsBlock source end depth a ss b → ReadsBody source end depth a (RawBlock ss) b
block_stmt source end depth a b ss h = record { tree = IsBody.block h.tree; shorter = h.shorter; leads = h.leads tasks.Body refl; small = h.small }

pub block_stmt_refused : (end depth : ℕ) (a : List Token) (error : ParseError) → RefusedBlock end depth a error → Refused end depth (tasks.Body ∷ []) a error
block_stmt_refused end depth a error r = r tasks.Body refl

pub block_deep : (end depth : ℕ) (a : List Token) (error : ParseError) → next_sign a ≡ signs.LeftBrace → (error ≡ TooDeep (next_place end a)) × (64 ≤ depth) → RefusedBlock end depth a error
block_deep end depth a error e h todo z = let deep = h.1 in path_stuck (here end depth (todo ∷ []) a) (too_deep [] (tasks.BlockItems ∷ []) e (λ e. cc) z (omega arith) h.0)

pub block_start : (source : List ℕ) (end depth inside : ℕ) (a b : List Token) → next_sign a ≡ signs.LeftBrace → Opens depth inside a b → inside ≤ 64 → ReadingBlock source end depth a [] b
block_start source end depth inside a b e opening low =
    let p : Passes signs.LeftBrace a b = record { is_next = e; behind = opening.1 } in
    record {
      so_far = record { go_on = λ others after t. let P : List Token → Type 0 = λ l. AreStmts true source l others after in subst P opening.1 t };
      shorter = passes_shorter p (λ e. cc);
      leads = λ todo z.
          let q : Path end depth (todo ∷ []) a (tasks.BlockItems ∷ []) b = takes_alone (tasks.BlockItems ∷ []) p (λ e. cc) z (let i = opening.0 in omega arith) in
          q.goes;
      small = omega arith;
    }

pub block_more : (source : List ℕ) (end depth inside : ℕ) (a now c : List Token) (old new : List RawStmtTree) → inside ≡ 1 + depth → ReadingBlock source end depth a old now → ReadsBlockItem source end inside now old new c → ReadingBlock source end depth a new c
block_more source end depth inside a now c old new i h k =
    record {
      so_far = k.so_far (rest_of a) h.so_far;
      shorter = (let l1 = h.shorter in let l2 = k.shorter in omega arith);
      leads = λ todo z rest o. h.leads todo z rest o ∙ k.leads rest (omega arith);
      small = k.small h.small;
    }

pub block_more_refused : (source : List ℕ) (end depth inside : ℕ) (a now : List Token) (old : List RawStmtTree) (error : ParseError) → inside ≡ 1 + depth → ReadingBlock source end depth a old now → RefusedInside end inside tasks.BlockItems now error → RefusedBlock end depth a error
block_more_refused source end depth inside a now old error i h r todo z other rest o = h.leads todo z rest o ∙ r other rest (omega arith)

before_none : (ss : List RawStmtTree) → stmts_before ss NoRawStmts ≡ raw_in_order ss
before_none [] = refl
before_none (s ∷ ss) = ap (λ l. RawThen s l) (before_none ss)

pub block_done : (source : List ℕ) (end depth : ℕ) (a now b : List Token) (ss : List RawStmtTree) → depth ≤ 64 → next_sign a ≡ signs.LeftBrace → ReadingBlock source end depth a ss now → next_sign now ≡ signs.RightBrace → b ≡ rest_of now → ReadsBlock source end depth a (raw_in_order ss) b
block_done source end depth a now b ss low e h close behind =
    let q : Passes signs.RightBrace now b = record { is_next = close; behind = behind } in
    let P : RawStmtTrees → Type 0 = λ l. AreStmts true source (rest_of a) l b in
    record {
      tree = IsBlock.braces (record { is_next = e; behind = refl }) (subst P (before_none ss) (h.so_far.go_on NoRawStmts b (AreStmts.last_stmt q)));
      shorter = (let l1 = h.shorter in let l2 = passes_shorter q (λ e. cc) in omega arith);
      leads = λ todo z rest o. h.leads todo z rest o ∙ run_passes end (tasks.BlockItems ∷ rest) q (λ e. cc) refl (omega arith);
      small = h.small;
    }

-- a statement of a block
block_move : (s : Sign) (rest : List Task) → s ≢ signs.RightBrace → s ≢ signs.Int → step (tasks.BlockItems ∷ rest) s ≡ step (tasks.Body ∷ tasks.BlockItems ∷ rest) s
block_move signs.RightBrace rest n1 n2 = absurd (n1 refl)
block_move signs.Int rest n1 n2 = absurd (n2 refl)
block_move _ rest n1 n2 = refl

block_run : (end : ℕ) (a : List Token) (rest : List Task) → next_sign a ≢ signs.RightBrace → next_sign a ≢ signs.Int → run end (tasks.BlockItems ∷ rest) a ≡ run end (tasks.Body ∷ tasks.BlockItems ∷ rest) a
block_run end [] rest n1 n2 = pass_end end (tasks.BlockItems ∷ rest) (tasks.Body ∷ tasks.BlockItems ∷ rest) refl
block_run end (t ∷ tokens) rest n1 n2 = pass_run end (tasks.BlockItems ∷ rest) (tasks.Body ∷ tasks.BlockItems ∷ rest) t tokens (block_move (sign_at t) rest n1 n2)

pub item_refused : (end depth : ℕ) (a : List Token) (error : ParseError) → next_sign a ≢ signs.RightBrace → next_sign a ≢ signs.Int → Refused end depth (tasks.Body ∷ []) a error → RefusedInside end depth tasks.BlockItems a error
item_refused end depth a error n1 n2 r other rest o = block_run end a rest n1 n2 ∙ r other (tasks.BlockItems ∷ rest) (omega arith)

before_one : (old : List RawStmtTree) (s : RawStmtTree) (others : RawStmtTrees) → stmts_before (old ++ (s ∷ [])) others ≡ stmts_before old (RawThen s others)
before_one [] s others = refl
before_one (x ∷ old) s others = ap (λ l. RawThen x l) (before_one old s others)

small_one : (s : RawStmtTree) → raw_stmt_temporaries s ≤ 1040 → AreSmall (s ∷ [])
small_one s h = omega arith

pub item_read : (source : List ℕ) (end depth : ℕ) (a b : List Token) (old new : List RawStmtTree) (s : RawStmtTree) → next_sign a ≢ signs.RightBrace → next_sign a ≢ signs.Int → ReadsBody source end depth a s b → new ≡ old ++ (s ∷ []) → ReadsBlockItem source end depth a old new b
item_read source end depth a b old new s n1 n2 h pushed =
    record {
      so_far = λ start k. record {
        go_on = λ others after t.
            let P : RawStmtTrees → Type 0 = λ ss. AreStmts true source start ss after in
            let q : stmts_before old (RawThen s others) ≡ stmts_before new others = sym (ap (λ l. stmts_before l others) pushed ∙ before_one old s others) in
            subst P q (k.go_on (RawThen s others) after (AreStmts.another_stmt h.tree t));
      };
      shorter = h.shorter;
      leads = λ rest o. block_run end a rest n1 n2 ∙ h.leads (tasks.BlockItems ∷ rest) (omega arith);
      small = λ m. let P : List RawStmtTree → Type 0 = AreSmall in subst P (sym pushed) (small_append old (s ∷ []) m (small_one s h.small));
    }

-- statements that hold others: the keyword, and the tasks behind it
pub data Construct : Sign → List Task → Type 0 where
  if_construct : Construct signs.If (tasks.Parenthesized ∷ tasks.Body ∷ tasks.ElsePart ∷ [])
  while_construct : Construct signs.While (tasks.Parenthesized ∷ tasks.Body ∷ tasks.Done ∷ [])
  for_construct : Construct signs.For (tasks.ForParts ∷ tasks.Body ∷ tasks.Done ∷ [])

construct_take : {s : Sign} {left : List Task} → Construct s left → tasks.body_move s ≡ tasks.Take left
construct_take Construct.if_construct = refl
construct_take _ = refl

construct_some : {s : Sign} {left : List Task} → Construct s left → s ≢ signs.Finish
construct_some Construct.if_construct e = cc
construct_some _ e = cc

construct_open : {s : Sign} {left : List Task} → Construct s left → open_tasks left ≡ 1
construct_open Construct.if_construct = omega arith
construct_open _ = omega arith

open_nil : (left : List Task) → open_tasks (left ++ []) ≡ open_tasks left + 0
open_nil [] = refl
open_nil (t ∷ left) = let h = open_nil left in omega arith

construct_deeper : (depth : ℕ) (left : List Task) → open_tasks left ≡ 1 → 64 ≤ depth → 64 < open_tasks (left ++ []) + depth
construct_deeper depth left o h = let k : open_tasks (left ++ []) ≡ open_tasks left + 0 = open_nil left in omega arith

pub construct_deep : {s : Sign} {left : List Task} (end depth : ℕ) (a : List Token) (error : ParseError) → Construct s left → next_sign a ≡ s → (error ≡ TooDeep (next_place end a)) × (64 ≤ depth) → Refused end depth (tasks.Body ∷ []) a error
construct_deep {left = l} end depth a error k e h = path_stuck (here end depth (tasks.Body ∷ []) a) (too_deep [] l e (construct_some k) (construct_take k) (construct_deeper depth l (construct_open k) h.1) h.0)

opened : {s : Sign} {left : List Task} (end depth inside : ℕ) (a b : List Token) → Construct s left → next_sign a ≡ s → Opens depth inside a b → inside ≤ 64 → Path end depth (tasks.Body ∷ []) a left b
opened {s = s'} {left = l} end depth inside a b k e opening low =
    let p : Passes s' a b = record { is_next = e; behind = opening.1 } in
    takes_alone l p (construct_some k) (construct_take k) (let i = opening.0 in let o = construct_open k in omega arith)

-- if
pub if_condition_refused : (end depth inside : ℕ) (a b : List Token) (error : ParseError) → next_sign a ≡ signs.If → Opens depth inside a b → inside ≤ 64 → Refused end inside (tasks.Parenthesized ∷ []) b error → Refused end depth (tasks.Body ∷ []) a error
if_condition_refused end depth inside a b error e opening low r = path_refused (opened end depth inside a b Construct.if_construct e opening low) (let i = opening.0 in omega arith) r

if_condition : (source : List ℕ) (end depth inside : ℕ) (a b c : List Token) (x : RawExprTree) → next_sign a ≡ signs.If → Opens depth inside a b → inside ≤ 64 → ReadsParenthesized source end inside b x c → Path end depth (tasks.Body ∷ []) a (tasks.Body ∷ tasks.ElsePart ∷ []) c
if_condition source end depth inside a b c x e opening low h = path_leads (opened end depth inside a b Construct.if_construct e opening low) (let i = opening.0 in omega arith) h.leads

pub if_then_refused : (source : List ℕ) (end depth inside : ℕ) (a b c : List Token) (x : RawExprTree) (error : ParseError) → next_sign a ≡ signs.If → Opens depth inside a b → inside ≤ 64 → ReadsParenthesized source end inside b x c → Refused end inside (tasks.Body ∷ []) c error → Refused end depth (tasks.Body ∷ []) a error
if_then_refused source end depth inside a b c x error e opening low h r = path_refused (if_condition source end depth inside a b c x e opening low h) (let i = opening.0 in omega arith) r

if_then : (source : List ℕ) (end depth inside : ℕ) (a b c d : List Token) (x : RawExprTree) (s : RawStmtTree) → next_sign a ≡ signs.If → Opens depth inside a b → inside ≤ 64 → ReadsParenthesized source end inside b x c → ReadsBody source end inside c s d
    → Path end depth (tasks.Body ∷ []) a (tasks.ElsePart ∷ []) d
if_then source end depth inside a b c d x s e opening low h k = path_leads (if_condition source end depth inside a b c x e opening low h) (let i = opening.0 in omega arith) k.leads

else_move : (s : Sign) → s ≢ signs.Else → tasks.else_move s ≡ tasks.Pass
else_move signs.Else other = absurd (other refl)
else_move _ other = refl

pub if_read : (source : List ℕ) (end depth inside : ℕ) (a b c d : List Token) (x : RawExprTree) (s : RawStmtTree) → next_sign a ≡ signs.If → Opens depth inside a b → inside ≤ 64 → ReadsParenthesized source end inside b x c → ReadsBody source end inside c s d → next_sign d ≢ signs.Else
    → ReadsBody source end depth a (RawIf x s) d
if_read source end depth inside a b c d x s e opening low h k no_else =
    let p : Passes signs.If a b = record { is_next = e; behind = opening.1 } in
    let q : Path end depth (tasks.ElsePart ∷ []) d [] d = lets_pass [] (else_move (next_sign d) no_else) (λ rest. refl) in
    let w = path_path (if_then source end depth inside a b c d x s e opening low h k) q in
    record {
      tree = IsBody.if_alone p h.tree k.tree (λ nearest. no_else);
      shorter = (let l1 = passes_shorter p (λ e. cc) in let l2 = h.shorter in let l3 = k.shorter in omega arith);
      leads = w.goes;
      small = (let i = opening.0 in let m1 = h.small in let m2 = k.small in omega arith);
    }

if_else : (source : List ℕ) (end depth inside : ℕ) (a b c d f : List Token) (x : RawExprTree) (s : RawStmtTree) → next_sign a ≡ signs.If → Opens depth inside a b → inside ≤ 64 → ReadsParenthesized source end inside b x c → ReadsBody source end inside c s d → Passes signs.Else d f
    → Path end depth (tasks.Body ∷ []) a (tasks.Body ∷ tasks.Done ∷ []) f
if_else source end depth inside a b c d f x s e opening low h k otherwise =
    let q : Path end depth (tasks.ElsePart ∷ []) d (tasks.Body ∷ tasks.Done ∷ []) f = takes_alone (tasks.Body ∷ tasks.Done ∷ []) otherwise (λ e. cc) refl (let i = opening.0 in omega arith) in
    path_path (if_then source end depth inside a b c d x s e opening low h k) q

pub if_else_refused : (source : List ℕ) (end depth inside : ℕ) (a b c d f : List Token) (x : RawExprTree) (s : RawStmtTree) (error : ParseError) → next_sign a ≡ signs.If → Opens depth inside a b → inside ≤ 64 → ReadsParenthesized source end inside b x c → ReadsBody source end inside c s d
    → next_sign d ≡ signs.Else → f ≡ rest_of d → Refused end inside (tasks.Body ∷ []) f error → Refused end depth (tasks.Body ∷ []) a error
if_else_refused source end depth inside a b c d f x s error e opening low h k otherwise behind r =
    path_refused (if_else source end depth inside a b c d f x s e opening low h k (record { is_next = otherwise; behind = behind })) (let i = opening.0 in omega arith) r

done_path : (end depth : ℕ) (a : List Token) → Path end depth (tasks.Done ∷ []) a [] a
done_path end depth a = lets_pass [] refl (λ rest. refl)

pub if_else_read : (source : List ℕ) (end depth inside : ℕ) (a b c d f g : List Token) (x : RawExprTree) (s r : RawStmtTree) → next_sign a ≡ signs.If → Opens depth inside a b → inside ≤ 64 → ReadsParenthesized source end inside b x c → ReadsBody source end inside c s d
    → next_sign d ≡ signs.Else → f ≡ rest_of d → ReadsBody source end inside f r g → ReadsBody source end depth a (RawIfElse x s r) g
if_else_read source end depth inside a b c d f g x s r e opening low h k otherwise behind m =
    let p : Passes signs.If a b = record { is_next = e; behind = opening.1 } in
    let q : Passes signs.Else d f = record { is_next = otherwise; behind = behind } in
    let v : Path end depth (tasks.Body ∷ []) a (tasks.Done ∷ []) g = path_leads (if_else source end depth inside a b c d f x s e opening low h k q) (let i = opening.0 in omega arith) m.leads in
    let w = path_path v (done_path end depth g) in
    record {
      tree = IsBody.if_else p h.tree k.tree q m.tree;
      shorter = (let l1 = passes_shorter p (λ e. cc) in let l2 = h.shorter in let l3 = k.shorter in let l4 = passes_shorter q (λ e. cc) in let l5 = m.shorter in omega arith);
      leads = w.goes;
      small = (let i = opening.0 in let m1 = h.small in let m2 = k.small in let m3 = m.small in omega arith);
    }

-- while
pub while_condition_refused : (end depth inside : ℕ) (a b : List Token) (error : ParseError) → next_sign a ≡ signs.While → Opens depth inside a b → inside ≤ 64 → Refused end inside (tasks.Parenthesized ∷ []) b error → Refused end depth (tasks.Body ∷ []) a error
while_condition_refused end depth inside a b error e opening low r = path_refused (opened end depth inside a b Construct.while_construct e opening low) (let i = opening.0 in omega arith) r

while_condition : (source : List ℕ) (end depth inside : ℕ) (a b c : List Token) (x : RawExprTree) → next_sign a ≡ signs.While → Opens depth inside a b → inside ≤ 64 → ReadsParenthesized source end inside b x c → Path end depth (tasks.Body ∷ []) a (tasks.Body ∷ tasks.Done ∷ []) c
while_condition source end depth inside a b c x e opening low h = path_leads (opened end depth inside a b Construct.while_construct e opening low) (let i = opening.0 in omega arith) h.leads

pub while_body_refused : (source : List ℕ) (end depth inside : ℕ) (a b c : List Token) (x : RawExprTree) (error : ParseError) → next_sign a ≡ signs.While → Opens depth inside a b → inside ≤ 64 → ReadsParenthesized source end inside b x c → Refused end inside (tasks.Body ∷ []) c error
    → Refused end depth (tasks.Body ∷ []) a error
while_body_refused source end depth inside a b c x error e opening low h r = path_refused (while_condition source end depth inside a b c x e opening low h) (let i = opening.0 in omega arith) r

pub while_read : (source : List ℕ) (end depth inside : ℕ) (a b c d : List Token) (x : RawExprTree) (s : RawStmtTree) → next_sign a ≡ signs.While → Opens depth inside a b → inside ≤ 64 → ReadsParenthesized source end inside b x c → ReadsBody source end inside c s d
    → ReadsBody source end depth a (RawWhile x s) d
while_read source end depth inside a b c d x s e opening low h k =
    let p : Passes signs.While a b = record { is_next = e; behind = opening.1 } in
    let v : Path end depth (tasks.Body ∷ []) a (tasks.Done ∷ []) d = path_leads (while_condition source end depth inside a b c x e opening low h) (let i = opening.0 in omega arith) k.leads in
    let w = path_path v (done_path end depth d) in
    record {
      tree = IsBody.while_loop p h.tree k.tree;
      shorter = (let l1 = passes_shorter p (λ e. cc) in let l2 = h.shorter in let l3 = k.shorter in omega arith);
      leads = w.goes;
      small = (let i = opening.0 in let m1 = h.small in let m2 = k.small in omega arith);
    }

-- for
pub for_parts_refused : (end depth inside : ℕ) (a b : List Token) (error : ParseError) → next_sign a ≡ signs.For → Opens depth inside a b → inside ≤ 64 → Refused end inside (tasks.ForParts ∷ []) b error → Refused end depth (tasks.Body ∷ []) a error
for_parts_refused end depth inside a b error e opening low r = path_refused (opened end depth inside a b Construct.for_construct e opening low) (let i = opening.0 in omega arith) r

for_head : (source : List ℕ) (end depth inside : ℕ) (a b c : List Token) (init : List RawSimpleTree) (v : Option RawExprTree) (last : Option RawSimpleTree) → next_sign a ≡ signs.For → Opens depth inside a b → inside ≤ 64 → ReadsForParts source end inside b init v last c
    → Path end depth (tasks.Body ∷ []) a (tasks.Body ∷ tasks.Done ∷ []) c
for_head source end depth inside a b c init v last e opening low h = path_leads (opened end depth inside a b Construct.for_construct e opening low) (let i = opening.0 in omega arith) h.leads

pub for_body_refused : (source : List ℕ) (end depth inside : ℕ) (a b c : List Token) (init : List RawSimpleTree) (v : Option RawExprTree) (last : Option RawSimpleTree) (error : ParseError) → next_sign a ≡ signs.For → Opens depth inside a b → inside ≤ 64
    → ReadsForParts source end inside b init v last c → Refused end inside (tasks.Body ∷ []) c error → Refused end depth (tasks.Body ∷ []) a error
for_body_refused source end depth inside a b c init v last error e opening low h r = path_refused (for_head source end depth inside a b c init v last e opening low h) (let i = opening.0 in omega arith) r

pub for_read : (source : List ℕ) (end depth inside : ℕ) (a b c d : List Token) (init : List RawSimpleTree) (v : Option RawExprTree) (last : Option RawSimpleTree) (s : RawStmtTree) → next_sign a ≡ signs.For → Opens depth inside a b → inside ≤ 64
    → ReadsForParts source end inside b init v last c → ReadsBody source end inside c s d → ReadsBody source end depth a (RawFor init v last s) d
for_read source end depth inside a b c d init v last s e opening low h k =
    let p : Passes signs.For a b = record { is_next = e; behind = opening.1 } in
    let u : Path end depth (tasks.Body ∷ []) a (tasks.Done ∷ []) d = path_leads (for_head source end depth inside a b c init v last e opening low h) (let i = opening.0 in omega arith) k.leads in
    let w = path_path u (done_path end depth d) in
    record {
      tree = IsBody.for_loop p h.opened h.first h.second h.third k.tree;
      shorter = (let l1 = passes_shorter p (λ e. cc) in let l2 = h.shorter in let l3 = k.shorter in omega arith);
      leads = w.goes;
      small = (let m1 = h.small.0 in let m2 = h.small.1 in let m3 = h.small.2 in let m4 = k.small in omega arith);
    }

-- a sign at which no statement begins but a name
pub no_statement : (s : Sign) → s ≢ signs.Semicolon → s ≢ signs.LeftBrace → s ≢ signs.If → s ≢ signs.While → s ≢ signs.For → s ≢ signs.Break → s ≢ signs.Continue → s ≢ signs.Return → s ≢ signs.Name → tasks.body_move s ≡ tasks.Refuse
no_statement signs.Semicolon n1 n2 n3 n4 n5 n6 n7 n8 n9 = absurd (n1 refl)
no_statement signs.LeftBrace n1 n2 n3 n4 n5 n6 n7 n8 n9 = absurd (n2 refl)
no_statement signs.If n1 n2 n3 n4 n5 n6 n7 n8 n9 = absurd (n3 refl)
no_statement signs.While n1 n2 n3 n4 n5 n6 n7 n8 n9 = absurd (n4 refl)
no_statement signs.For n1 n2 n3 n4 n5 n6 n7 n8 n9 = absurd (n5 refl)
no_statement signs.Break n1 n2 n3 n4 n5 n6 n7 n8 n9 = absurd (n6 refl)
no_statement signs.Continue n1 n2 n3 n4 n5 n6 n7 n8 n9 = absurd (n7 refl)
no_statement signs.Return n1 n2 n3 n4 n5 n6 n7 n8 n9 = absurd (n8 refl)
no_statement signs.Name n1 n2 n3 n4 n5 n6 n7 n8 n9 = absurd (n9 refl)
no_statement _ n1 n2 n3 n4 n5 n6 n7 n8 n9 = refl
