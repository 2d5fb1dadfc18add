-- The first line of a certificate.
use Rattle.std.specs.Bool.{MatchBool}
use Rattle.certificate_text.proofs.Common.{◌≡◌, ℕ, Bool, true, false, List, ◌∷◌, ◌++◌, ap, sym, ◌∙◌, Lacks, title_line}
use Rattle.certificate_text.proofs.LineSplits.{split_same}
use Rattle.certificate_text.proofs.LineTexts.{title_lacks}

abbrev pub NoTitle : List ℕ → Type 0
NoTitle text = (more : List ℕ) → text ≡ title_line ++ 10 ∷ more → ⊥

pub title_told : (text line rest : List ℕ) (b : Bool) → text ≡ line ++ 10 ∷ rest → Lacks 10 line → MatchBool b (line ≡ title_line) (line ≡ title_line → ⊥)
    → MatchBool b (text ≡ title_line ++ 10 ∷ rest) (NoTitle text)
title_told text line rest true e lacks is = e ∙ ap (λ (l : List ℕ). l ++ 10 ∷ rest) is
title_told text line rest false e lacks other = λ more is. other (split_same line rest title_line more lacks title_lacks (sym e ∙ is)).0

pub no_title : (text : List ℕ) → ((line more : List ℕ) → text ≡ line ++ 10 ∷ more → ⊥) → NoTitle text
no_title text none = λ more is. none title_line more is
