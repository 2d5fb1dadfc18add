-- Tokens that are taken whole are a tree.
use Rattle.decisions.proofs.Common.{ℕ, ◌≡◌, ◌≢◌, ◌∙◌, ◌+◌, ◌≤◌, inl, inr, refl, sym, subst, List, [], ◌∷◌, ◌++◌, append_assoc, cases_lt, Token, RawItemTree, AreWithinTemporaries, Sign, IsOperator, IsPrefix, Symbol, Nearest, Takes, TakesAll, CanBeNothing, open_in, sign_at, signs_of, IsProgram}
use Rattle.c_grammar.specs.declared.signs.Sign.TheVariants as signs
use Rattle.c_grammar.specs.Rests as symbols
use Rattle.c_grammar.specs.Refusals.{Leave, IsShallow, IsWithin}
use Rattle.grammar_laws.proofs.Verdicts.{signs_append}
use Rattle.decisions.proofs.Signs.{operator_passed, prefix_passed, passed}
use Rattle.decisions.proofs.Means.{Reads}
use Rattle.decisions.proofs.Alternatives.{alternative}

-- ---- one step

no_else_here : (token : Token) (sign : Sign) → sign_at token ≡ sign → (sign ≡ signs.Else → ⊥) → sign_at token ≢ signs.Else
no_else_here token sign e may = λ f. may (sym e ∙ f)

takes_reads : (S : List ℕ) (token : Token) (tokens : List Token) {rest between : List Symbol} {sign : Sign} → Takes Nearest rest sign between → sign_at token ≡ sign → open_in between ≤ 64 → Reads S between tokens → Reads S rest (token ∷ tokens)
takes_reads S token tokens (Takes.token {sign = s}) e few r = (tokens, ((passed s token tokens e, few), r))
takes_reads S token tokens (Takes.operator {level = l} {sign = s} is) e few r = (tokens, (operator_passed l token tokens (subst (IsOperator l) (sym e) is), r))
takes_reads S token tokens (Takes.prefix {sign = s} is) e few r = (tokens, (prefix_passed token tokens (subst IsPrefix (sym e) is), r))
takes_reads S token tokens (Takes.by {rest = more} a t) e few r = alternative S a more (token ∷ tokens) (takes_reads S token tokens t e few r)
takes_reads S token tokens (Takes.no_else {sign = s} may t) e few r = (token ∷ tokens, (inl (refl, no_else_here token s e may), takes_reads S token tokens t e few r))

nothing_reads : (S : List ℕ) {rest : List Symbol} → CanBeNothing rest → Reads S rest []
nothing_reads S CanBeNothing.empty = refl
nothing_reads S (CanBeNothing.by {rest = more} a n) = alternative S a more [] (nothing_reads S n)
nothing_reads S (CanBeNothing.no_else n) = ([], (inl (refl, λ e. cc), nothing_reads S n))

-- ---- all steps

takes_last : {rest between after : List Symbol} {ss : List Sign} {sign : Sign} → TakesAll Nearest rest ss between → Takes Nearest between sign after → TakesAll Nearest rest (ss ++ (sign ∷ [])) after
takes_last TakesAll.none t = TakesAll.one t TakesAll.none
takes_last (TakesAll.one first more) t = TakesAll.one first (takes_last more t)

-- a rest that is left behind tokens that are not too deep has at most 64 constructs open
shallow_few : (all front behind : List Token) (rest : List Symbol) → IsShallow all → all ≡ front ++ behind → Leave Nearest front rest → open_in rest ≤ 64
shallow_few all front behind rest shallow split leaves =
    elim (cases_lt 64 (open_in rest)) [ inl deep ↦ absurd (shallow front behind split (rest, leaves, deep)) | inr few ↦ few ]

leave_next : (front : List Token) (token : Token) (rest between : List Symbol) → Leave Nearest front rest → Takes Nearest rest (sign_at token) between → Leave Nearest (front ++ (token ∷ [])) between
leave_next front token rest between leaves t =
    subst (λ (ss : List Sign). TakesAll Nearest (symbols.Program ∷ []) ss between) (sym (signs_append front (token ∷ []))) (takes_last leaves t)

all_reads : (S : List ℕ) (all front tokens : List Token) (rest left : List Symbol) → IsShallow all → all ≡ front ++ tokens → Leave Nearest front rest → TakesAll Nearest rest (signs_of tokens) left → CanBeNothing left → Reads S rest tokens
all_reads S all front [] rest left shallow split leaves TakesAll.none nothing = nothing_reads S nothing
all_reads S all front (token ∷ tokens) rest left shallow split leaves (TakesAll.one {between = b} t more) nothing =
    let next : all ≡ (front ++ (token ∷ [])) ++ tokens = split ∙ sym (append_assoc front (token ∷ []) tokens) in
    let taken = leave_next front token rest b leaves t in
    takes_reads S token tokens t refl (shallow_few all (front ++ (token ∷ [])) tokens b shallow next taken)
    (all_reads S all (front ++ (token ∷ [])) tokens b left shallow next taken more nothing)

-- the tree of tokens that are a program in which nothing is too deep: its expressions take few temporaries
pub record ATree (S : List ℕ) (tokens : List Token) : Type 0 where
  pub items : List RawItemTree
  pub is : IsProgram S tokens items
  pub small : AreWithinTemporaries items

pub tree_of : (S : List ℕ) (tokens : List Token) → IsWithin tokens → ATree S tokens
tree_of S tokens w =
    let r = all_reads S tokens [] tokens (symbols.Program ∷ []) w.rest w.not_too_deep refl TakesAll.none w.taken w.whole in
    let items = r.1.0 r.1.1 in
    record { items = items.trees; is = items.are; small = items.small }
