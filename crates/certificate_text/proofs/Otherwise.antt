-- Where the next line isn't as said.
use Rattle.certificate_text.proofs.Common.{◌≡◌, ℕ, zero, suc, ◌<◌, ◌≤◌, List, [], ◌∷◌, ◌++◌, ap, sym, ◌∙◌, arith, Option, Lacks, FunctionFact, SiteFact, title_line, chunk_line, max_path_line, functions_line, sites_line, function_line, site_line, HasFewPlaces, HoldsFunctionWords, HoldsSiteWords, IsAbove, BeginsOtherwise, Title, Chunk, MaxPath, FunctionCount, Functions, Sites}
use Rattle.certificate_text.proofs.LineSplits.{split_same}
use Rattle.certificate_text.proofs.LineTexts.{function_lacks, site_lacks}

pub other_title : (text : List ℕ) → ((more : List ℕ) → text ≡ title_line ++ 10 ∷ more → ⊥) → BeginsOtherwise Title text
other_title text none = record {
  no_line = λ line more next e said. none more (e ∙ ap (λ (l : List ℕ). l ++ 10 ∷ more) said.0);
  not_over = λ over e. over;
}

pub other_chunk : (text : List ℕ) → ((n : ℕ) (more : List ℕ) → n ≤ 4294967295 → text ≡ chunk_line n ++ 10 ∷ more → ⊥) → BeginsOtherwise Chunk text
other_chunk text none = record {
  no_line = λ line more next e (n, small, is, to). none n more (omega arith) (e ∙ ap (λ (l : List ℕ). l ++ 10 ∷ more) is);
  not_over = λ over e. over;
}

pub other_max_path : (text : List ℕ) → ((n : ℕ) (more : List ℕ) → n ≤ 4294967295 → text ≡ max_path_line n ++ 10 ∷ more → ⊥) → BeginsOtherwise MaxPath text
other_max_path text none = record {
  no_line = λ line more next e (n, small, is, to). none n more (omega arith) (e ∙ ap (λ (l : List ℕ). l ++ 10 ∷ more) is);
  not_over = λ over e. over;
}

pub other_count : (text : List ℕ) → ((n : ℕ) (more : List ℕ) → n ≤ 4096 → text ≡ functions_line n ++ 10 ∷ more → ⊥) → BeginsOtherwise FunctionCount text
other_count text none = record {
  no_line = λ line more next e (n, small, is, to). none n more small (e ∙ ap (λ (l : List ℕ). l ++ 10 ∷ more) is);
  not_over = λ over e. over;
}

pub other_sites : (text : List ℕ) → ((n : ℕ) (more : List ℕ) → n ≤ 65535 → text ≡ sites_line n ++ 10 ∷ more → ⊥) → BeginsOtherwise (Functions 0) text
other_sites text none = record {
  no_line = λ line more next e (n, small, is, to). none n more small (e ∙ ap (λ (l : List ℕ). l ++ 10 ∷ more) is);
  not_over = λ over e. over;
}

-- no LF is left
abbrev pub NoLine : List ℕ → Type 0
NoLine text = (line more : List ℕ) → text ≡ line ++ 10 ∷ more → ⊥

pub no_function : (left : ℕ) (text : List ℕ) → NoLine text → BeginsOtherwise (Functions left) text
no_function left text none = record { no_line = λ line more next e said. none line more e; not_over = λ over e. over }

pub no_site : (left : ℕ) (last : Option ℕ) (text : List ℕ) → 0 < left → NoLine text → BeginsOtherwise (Sites left last) text
no_site zero last text some none = absurd (omega arith)
no_site (suc left) last text some none = record { no_line = λ line more next e said. none line more e; not_over = λ over e. over }

pub other_function : (left : ℕ) (text line rest : List ℕ) → 0 < left → text ≡ line ++ 10 ∷ rest → Lacks 10 line
    → ((fact : FunctionFact) → HasFewPlaces fact → HoldsFunctionWords fact → line ≡ function_line fact → ⊥) → BeginsOtherwise (Functions left) text
other_function zero text line rest some e lacks none = absurd (omega arith)
other_function (suc left) text line rest some e lacks none = record {
  no_line = λ other more next f (fact, few, words, is, to).
      let first : text ≡ function_line fact ++ 10 ∷ more = f ∙ ap (λ (l : List ℕ). l ++ 10 ∷ more) is in
      none fact few words (split_same line rest (function_line fact) more lacks (function_lacks fact) (sym e ∙ first)).0;
  not_over = λ over f. over;
}

pub other_site : (left : ℕ) (last : Option ℕ) (text line rest : List ℕ) → 0 < left → text ≡ line ++ 10 ∷ rest → Lacks 10 line
    → ((fact : SiteFact) → IsAbove last fact.number → HoldsSiteWords fact → line ≡ site_line fact → ⊥) → BeginsOtherwise (Sites left last) text
other_site zero last text line rest some e lacks none = absurd (omega arith)
other_site (suc left) last text line rest some e lacks none = record {
  no_line = λ other more next f (fact, above, words, is, to).
      let first : text ≡ site_line fact ++ 10 ∷ more = f ∙ ap (λ (l : List ℕ). l ++ 10 ∷ more) is in
      none fact above words (split_same line rest (site_line fact) more lacks (site_lacks fact) (sym e ∙ first)).0;
  not_over = λ over f. over;
}

pub not_over : (last : Option ℕ) (text : List ℕ) → (text ≡ [] → ⊥) → BeginsOtherwise (Sites 0 last) text
not_over last text some = record { no_line = λ line more next e said. said; not_over = λ over e. some e }
