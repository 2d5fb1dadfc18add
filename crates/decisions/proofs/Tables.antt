-- Every mark and every keyword, each with its place in a list: what is decided of each is decided of some.
use Rattle.decisions.proofs.Common.{◌≡◌, ◌<◌, refl, sym, subst, lit<, get_or, length, List, [], ◌∷◌, decided_by, Below, below_decided, Keyword, Mark, mark_text, mark_place, mark_place-lt, Decided}
use Rattle.c_lex.specs.declared.keywords.Keyword.TheVariants as keywords
use Rattle.c_lex.specs.declared.marks.Mark.TheVariants as marks
use Rattle.c_lex.proofs.KeywordTable.{keyword_place, keyword_place-lt}

-- ---- marks

abbrev all_marks : List Mark
all_marks = marks.ShiftLeftAssign ∷ marks.ShiftRightAssign ∷ marks.Equal ∷ marks.NotEqual ∷ marks.LessEqual ∷ marks.GreaterEqual ∷ marks.ShiftLeft ∷ marks.ShiftRight ∷ marks.AndAnd ∷ marks.OrOr ∷ marks.PlusPlus ∷ marks.MinusMinus ∷ marks.PlusAssign ∷ marks.MinusAssign ∷ marks.StarAssign ∷ marks.SlashAssign ∷ marks.PercentAssign ∷ marks.AmpersandAssign ∷ marks.BarAssign ∷ marks.CaretAssign ∷ marks.Arrow ∷ marks.LeftParenthesis ∷ marks.RightParenthesis ∷ marks.LeftBracket ∷ marks.RightBracket ∷ marks.LeftBrace ∷ marks.RightBrace ∷ marks.Comma ∷ marks.Semicolon ∷ marks.Question ∷ marks.Colon ∷ marks.Assign ∷ marks.Less ∷ marks.Greater ∷ marks.Plus ∷ marks.Minus ∷ marks.Star ∷ marks.Slash ∷ marks.Percent ∷ marks.Ampersand ∷ marks.Bar ∷ marks.Caret ∷ marks.Tilde ∷ marks.Exclamation ∷ []

mark_at_place : (mark : Mark) → get_or all_marks (mark_place mark) marks.Comma ≡ mark
mark_at_place marks.Comma = refl
mark_at_place _ = refl

pub some_mark : (P : Mark → Type 0) → ((mark : Mark) → Decided (P mark)) → Decided ((mark : Mark) × P mark)
some_mark P each = decided_by
    (λ (b : Below (λ k. P (get_or all_marks k marks.Comma)) 44). (get_or all_marks b.0 marks.Comma, b.1.1))
    (λ s. (mark_place s.0, (mark_place-lt s.0, subst P (sym (mark_at_place s.0)) s.1)))
    (below_decided (λ k. P (get_or all_marks k marks.Comma)) (λ k. each (get_or all_marks k marks.Comma)) 44)

pub mark_text-few : (mark : Mark) → length (mark_text mark) < 4
mark_text-few marks.Comma = lit< tt
mark_text-few _ = lit< tt

-- ---- keywords

abbrev all_keywords : List Keyword
all_keywords = keywords.Auto ∷ keywords.Break ∷ keywords.Case ∷ keywords.Char ∷ keywords.Const ∷ keywords.Continue ∷ keywords.Default ∷ keywords.Do ∷ keywords.Double ∷ keywords.Else ∷ keywords.Enum ∷ keywords.Extern ∷ keywords.Float ∷ keywords.For ∷ keywords.Goto ∷ keywords.If ∷ keywords.Inline ∷ keywords.Int ∷ keywords.Long ∷ keywords.Register ∷ keywords.Restrict ∷ keywords.Return ∷ keywords.Short ∷ keywords.Signed ∷ keywords.Sizeof ∷ keywords.Static ∷ keywords.Struct ∷ keywords.Switch ∷ keywords.Typedef ∷ keywords.Union ∷ keywords.Unsigned ∷ keywords.Void ∷ keywords.Volatile ∷ keywords.While ∷ keywords.Alignas ∷ keywords.Alignof ∷ keywords.Atomic ∷ keywords.Bool ∷ keywords.Complex ∷ keywords.Generic ∷ keywords.Imaginary ∷ keywords.Noreturn ∷ keywords.StaticAssert ∷ keywords.ThreadLocal ∷ []

keyword_at_place : (keyword : Keyword) → get_or all_keywords (keyword_place keyword) keywords.Auto ≡ keyword
keyword_at_place keywords.Auto = refl
keyword_at_place _ = refl

pub some_keyword : (P : Keyword → Type 0) → ((keyword : Keyword) → Decided (P keyword)) → Decided ((keyword : Keyword) × P keyword)
some_keyword P each = decided_by
    (λ (b : Below (λ k. P (get_or all_keywords k keywords.Auto)) 44). (get_or all_keywords b.0 keywords.Auto, b.1.1))
    (λ s. (keyword_place s.0, (keyword_place-lt s.0, subst P (sym (keyword_at_place s.0)) s.1)))
    (below_decided (λ k. P (get_or all_keywords k keywords.Auto)) (λ k. each (get_or all_keywords k keywords.Auto)) 44)
