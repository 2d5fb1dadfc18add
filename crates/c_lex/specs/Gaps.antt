-- What may lie between two tokens: white space and comments.
use Rattle.std.specs.Prelude.{ℕ, ◌≡◌, ◌≢◌, ◌⊎◌, List, [], ◌∷◌, ◌++◌, codes, IsTrue}
use Rattle.c_lex.specs.Bytes.{is_white_space}
use Rattle.c_lex.specs.Marks.{BeginsWith}

-- the pattern doesn't occur in the text
abbrev pub Lacks : List ℕ → List ℕ → Type 0
Lacks text pattern = (front back : List ℕ) → text ≢ front ++ (pattern ++ back)

-- LF
abbrev pub line_feed : List ℕ
line_feed = 10 ∷ []

-- `//` and what follows, up to the next LF, which it doesn't include, or up to the end; `after` is
-- the rest
pub record IsLineComment (text after : List ℕ) : Type 0 where
  pub body : List ℕ
  pub spelled : text ≡ codes "//" ++ body
  pub one_line : Lacks body line_feed
  pub ended : (after ≡ []) ⊎ BeginsWith after line_feed

-- `/*` and what follows, up to the next `*/`
pub record IsBlockComment (text : List ℕ) : Type 0 where
  pub body : List ℕ
  pub spelled : text ≡ codes "/*" ++ (body ++ codes "*/")
  -- there is no `*/` before the one at the end
  pub first : Lacks (body ++ codes "*") (codes "*/")

-- a comment, with the rest after it
abbrev pub IsComment : List ℕ → List ℕ → Type 0
IsComment text after = IsLineComment text after ⊎ IsBlockComment text

-- any number of white-space bytes and comments, with the rest after them
pub data IsGap : List ℕ → List ℕ → Type 0 where
  nothing : {after : List ℕ} → IsGap [] after
  space : {byte : ℕ} {gap after : List ℕ} → IsTrue (is_white_space byte) → IsGap gap after → IsGap (byte ∷ gap) after
  comment : {gap after : List ℕ} (text rest : List ℕ) → gap ≡ text ++ rest → IsComment text (rest ++ after) → IsGap rest after → IsGap gap after
