-- What the sign of a token says of its kind.
use Rattle.decisions.proofs.Common.{ℕ, suc, ◌≡◌, ◌∙◌, ◌-◌, refl, sym, ap, Bool, true, false, List, [], ◌∷◌, Option, Some, None, Token, TokenKind, Infix, UnaryOperator, Sign, Level, Tightest, Looser, IsOperator, IsPrefix, sign_of_token, next_name, Passes, PassesName, PassesNumber, PassesPrefix, PassesInfix, sign_at}
use Rattle.c_lex.specs.declared.tokens.TokenKind.TheVariants as kinds
use Rattle.c_grammar.specs.declared.signs.Sign.TheVariants as signs
use Rattle.c_grammar.specs.Operators.{unary_operator_of, infix_operator_of, level_of_infix}
use Rattle.c_lex.specs.declared.keywords.Keyword.TheVariants as keywords
use Rattle.c_lex.specs.declared.marks.Mark.TheVariants as marks

-- ---- operators between two operands

-- how many levels are tighter
abbrev pub depth_of : Level → ℕ
depth_of Tightest = 0
depth_of (Looser level) = suc (depth_of level)

abbrev level_of_sign : Sign → Option ℕ
level_of_sign signs.Star = Some 9
level_of_sign signs.Multiplicative = Some 9
level_of_sign signs.Plus = Some 8
level_of_sign signs.Minus = Some 8
level_of_sign signs.Shift = Some 7
level_of_sign signs.Relational = Some 6
level_of_sign signs.Equality = Some 5
level_of_sign signs.BitAnd = Some 4
level_of_sign signs.BitXor = Some 3
level_of_sign signs.BitOr = Some 2
level_of_sign signs.LogicalAnd = Some 1
level_of_sign signs.LogicalOr = Some 0
level_of_sign _ = None

abbrev level_in : Option Infix → Option ℕ
level_in None = None
level_in (Some operator) = Some (level_of_infix operator)

kind_level : (kind : TokenKind) → level_of_sign (sign_of_token kind) ≡ level_in (infix_operator_of (Some kind))
kind_level kinds.Name = refl
kind_level (kinds.Number value) = refl
kind_level (kinds.Keyword keywords.Int) = refl
kind_level (kinds.Keyword _) = refl
kind_level (kinds.Mark marks.Star) = refl
kind_level (kinds.Mark _) = refl

sign_level : (level : Level) (sign : Sign) → IsOperator level sign → level_of_sign sign ≡ Some (9 - depth_of level)
sign_level _ _ IsOperator.star = refl
sign_level _ _ _ = refl

operator_in : (found : Option Infix) (n : ℕ) → level_in found ≡ Some n → (operator : Infix) × ((found ≡ Some operator) × (level_of_infix operator ≡ n))
operator_in None n e = absurd cc
operator_in (Some operator) n e = (operator, (refl, (cc)))

pub operator_passed : (level : Level) (token : Token) (tokens : List Token) → IsOperator level (sign_at token) → (operator : Infix) × PassesInfix (9 - depth_of level) (token ∷ tokens) operator tokens
operator_passed level token tokens is =
    let o = operator_in (infix_operator_of (Some token.kind)) (9 - depth_of level) (sym (kind_level token.kind) ∙ sign_level level (sign_at token) is) in
    (o.0, record { is_next = o.1.0; of_level = o.1.1; behind = refl })

-- ---- operators before an operand

abbrev prefix_of_sign : Sign → Bool
prefix_of_sign signs.Plus = true
prefix_of_sign signs.Minus = true
prefix_of_sign signs.Prefix = true
prefix_of_sign _ = false

abbrev is_there : Option UnaryOperator → Bool
is_there None = false
is_there (Some operator) = true

kind_prefix : (kind : TokenKind) → prefix_of_sign (sign_of_token kind) ≡ is_there (unary_operator_of (Some kind))
kind_prefix kinds.Name = refl
kind_prefix (kinds.Number value) = refl
kind_prefix (kinds.Keyword keywords.Int) = refl
kind_prefix (kinds.Keyword _) = refl
kind_prefix (kinds.Mark marks.Star) = refl
kind_prefix (kinds.Mark _) = refl

sign_prefix : (sign : Sign) → IsPrefix sign → prefix_of_sign sign ≡ true
sign_prefix _ IsPrefix.plus = refl
sign_prefix _ _ = refl

prefix_in : (found : Option UnaryOperator) → is_there found ≡ true → (operator : UnaryOperator) × (found ≡ Some operator)
prefix_in None e = absurd cc
prefix_in (Some operator) e = (operator, refl)

pub prefix_passed : (token : Token) (tokens : List Token) → IsPrefix (sign_at token) → (operator : UnaryOperator) × PassesPrefix (token ∷ tokens) operator tokens
prefix_passed token tokens is =
    let o = prefix_in (unary_operator_of (Some token.kind)) (sym (kind_prefix token.kind) ∙ sign_prefix (sign_at token) is) in
    (o.0, record { is_next = o.1; behind = refl })

-- ---- numbers and names

abbrev number_sign : Sign → Bool
number_sign signs.Number = true
number_sign _ = false

abbrev holds_number : TokenKind → Bool
holds_number (kinds.Number value) = true
holds_number _ = false

kind_number : (kind : TokenKind) → number_sign (sign_of_token kind) ≡ holds_number kind
kind_number kinds.Name = refl
kind_number (kinds.Number value) = refl
kind_number (kinds.Keyword keywords.Int) = refl
kind_number (kinds.Keyword _) = refl
kind_number (kinds.Mark marks.Star) = refl
kind_number (kinds.Mark _) = refl

number_in : (kind : TokenKind) → holds_number kind ≡ true → (value : ℕ) × (kind ≡ kinds.Number value)
number_in (kinds.Number value) e = (value, refl)
number_in _ e = absurd cc

pub number_passed : (before after : List Token) → Passes signs.Number before after → (value : ℕ) × PassesNumber before value after
number_passed [] after p = let e = p.is_next in absurd cc
number_passed (token ∷ tokens) after p =
    let n = number_in token.kind (sym (kind_number token.kind) ∙ ap number_sign p.is_next) in
    (n.0, record { is_next = ap Some n.1; behind = p.behind })

pub name_passed : (source : List ℕ) (before after : List Token) → Passes signs.Name before after → PassesName source before (next_name source before) after
name_passed source before after p = record { passes = p; named = refl }

pub passed : (sign : Sign) (token : Token) (tokens : List Token) → sign_at token ≡ sign → Passes sign (token ∷ tokens) tokens
passed sign token tokens e = record { is_next = e; behind = refl }
