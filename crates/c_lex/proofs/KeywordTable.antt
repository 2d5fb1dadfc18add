-- Each keyword has a place in the table of keywords, and each mark in that of marks.
use Rattle.c_lex.proofs.Common.{ℕ, ◌≡◌, ◌<◌, refl, get_or, lit<, true, List, Option, Some, sym, ap, ◌∙◌, find, bytes_eq, is_letter, keyword_text}
use Rattle.c_lex.specs.declared.keywords.Keyword.{Keyword}
use Rattle.c_lex.specs.declared.keywords.Keyword.TheVariants as keywords
use Rattle.c_lex.specs.declared.keywords.TheConstants.{KEYWORDS}

-- the place of a keyword in the table
abbrev pub keyword_place : Keyword → ℕ
keyword_place keywords.Auto = 0
keyword_place keywords.Break = 1
keyword_place keywords.Case = 2
keyword_place keywords.Char = 3
keyword_place keywords.Const = 4
keyword_place keywords.Continue = 5
keyword_place keywords.Default = 6
keyword_place keywords.Do = 7
keyword_place keywords.Double = 8
keyword_place keywords.Else = 9
keyword_place keywords.Enum = 10
keyword_place keywords.Extern = 11
keyword_place keywords.Float = 12
keyword_place keywords.For = 13
keyword_place keywords.Goto = 14
keyword_place keywords.If = 15
keyword_place keywords.Inline = 16
keyword_place keywords.Int = 17
keyword_place keywords.Long = 18
keyword_place keywords.Register = 19
keyword_place keywords.Restrict = 20
keyword_place keywords.Return = 21
keyword_place keywords.Short = 22
keyword_place keywords.Signed = 23
keyword_place keywords.Sizeof = 24
keyword_place keywords.Static = 25
keyword_place keywords.Struct = 26
keyword_place keywords.Switch = 27
keyword_place keywords.Typedef = 28
keyword_place keywords.Union = 29
keyword_place keywords.Unsigned = 30
keyword_place keywords.Void = 31
keyword_place keywords.Volatile = 32
keyword_place keywords.While = 33
keyword_place keywords.Alignas = 34
keyword_place keywords.Alignof = 35
keyword_place keywords.Atomic = 36
keyword_place keywords.Bool = 37
keyword_place keywords.Complex = 38
keyword_place keywords.Generic = 39
keyword_place keywords.Imaginary = 40
keyword_place keywords.Noreturn = 41
keyword_place keywords.StaticAssert = 42
keyword_place keywords.ThreadLocal = 43

pub keyword_at_place : (keyword : Keyword) → get_or KEYWORDS (keyword_place keyword) keywords.Auto ≡ keyword
keyword_at_place keywords.Auto = refl
keyword_at_place _ = refl

pub keyword_place-lt : (keyword : Keyword) → keyword_place keyword < 44
keyword_place-lt keywords.Auto = lit< tt
keyword_place-lt _ = lit< tt

-- a keyword begins with a letter
pub keyword_first : (keyword : Keyword) → is_letter (get_or (keyword_text keyword) 0 0) ≡ true
keyword_first keywords.Auto = refl
keyword_first _ = refl

-- which keyword is written so
keyword_written : List ℕ → Option Keyword
keyword_written text = find (λ keyword. bytes_eq (keyword_text keyword) text) KEYWORDS

keyword_written_text : (keyword : Keyword) → keyword_written (keyword_text keyword) ≡ Some keyword
unfolding keyword_written
keyword_written_text keywords.Auto = refl
keyword_written_text _ = refl

-- no two are written alike
pub keyword_text-injective : (a b : Keyword) → keyword_text a ≡ keyword_text b → a ≡ b
keyword_text-injective a b same =
    let found : Some a ≡ Some b = sym (keyword_written_text a) ∙ ap keyword_written same ∙ keyword_written_text b in
    cc
