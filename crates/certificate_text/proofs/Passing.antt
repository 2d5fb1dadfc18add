-- Lines that are as said, and where a text breaks off from the format.
use Rattle.certificate_text.proofs.Common.{◌≡◌, ℕ, zero, suc, ◌+◌, List, [], ◌∷◌, ◌++◌, length, map, refl, ap, sym, subst, ◌∙◌, arith, append_assoc, Option, Some, None, AllByRecursion, Lacks, ended_lines, FunctionFact, SiteFact, function_line, site_line, HasFewPlaces, HoldsFunctionWords, HoldsSiteWords, Rises, Due, IsAsSaid, IsOver, BreaksAfter, Title, Chunk, MaxPath, FunctionCount, Functions, Sites}
use Rattle.certificate_text.proofs.LineSplits.{split_same}
use Rattle.certificate_text.proofs.LineTexts.{title_lacks, chunk_lacks, max_path_lacks, functions_lacks, sites_lacks, function_lacks, site_lacks, functions_number, sites_number, site_unique}

-- a line as said has no LF

pub said_lacks : (due : Due) (line : List ℕ) (next : Due) → IsAsSaid due line next → Lacks 10 line
said_lacks Title line next h = rw h.0 title_lacks
said_lacks Chunk line next (n, small, is, to) = rw is (chunk_lacks n)
said_lacks MaxPath line next (n, small, is, to) = rw is (max_path_lacks n)
said_lacks FunctionCount line next (n, small, is, to) = rw is (functions_lacks n)
said_lacks (Functions zero) line next (n, small, is, to) = rw is (sites_lacks n)
said_lacks (Functions (suc left)) line next (fact, few, words, is, to) = rw is (function_lacks fact)
said_lacks (Sites zero last) line next h = absurd h
said_lacks (Sites (suc left) last) line next (fact, above, words, is, to) = rw is (site_lacks fact)

-- and what is due behind it is one thing

pub said_next : (due : Due) (line : List ℕ) (next other : Due) → IsAsSaid due line next → IsAsSaid due line other → next ≡ other
said_next Title line next other h g = h.1 ∙ sym g.1
said_next Chunk line next other (m, _, _, to) (n, _, _, on) = to ∙ sym on
said_next MaxPath line next other (m, _, _, to) (n, _, _, on) = to ∙ sym on
said_next FunctionCount line next other (m, _, is, to) (n, _, e, on) = to ∙ ap Functions (functions_number m n (sym is ∙ e)) ∙ sym on
said_next (Functions zero) line next other (m, _, is, to) (n, _, e, on) = to ∙ ap (λ x. Sites x None) (sites_number m n (sym is ∙ e)) ∙ sym on
said_next (Functions (suc left)) line next other (f, _, _, _, to) (g, _, _, _, on) = to ∙ sym on
said_next (Sites zero last) line next other h g = absurd h
said_next (Sites (suc left) last) line next other (f, _, _, is, to) (g, _, _, e, on) =
    let same : f ≡ g = site_unique f g (sym is ∙ e) in
    to ∙ ap (λ (x : SiteFact). Sites left (Some x.number)) same ∙ sym on

-- two lines at the beginning of one text
pub same_line : (due : Due) (text line more other rest : List ℕ) (next then : Due) → text ≡ line ++ 10 ∷ more → IsAsSaid due line next → text ≡ other ++ 10 ∷ rest → IsAsSaid due other then
    → (more ≡ rest) × (next ≡ then)
same_line due text line more other rest next then e h f g =
    let both = split_same line more other rest (said_lacks due line next h) (said_lacks due other then g) (sym e ∙ f) in
    (both.1, said_next due other next then (subst (λ (l : List ℕ). IsAsSaid due l next) both.0 h) g)

-- a text has one first line that isn't as said

moved : (k : ℕ) (due then : Due) (text rest : List ℕ) → due ≡ then → text ≡ rest → BreaksAfter k due text → BreaksAfter k then rest
moved k due then text rest e f h = subst (λ (d : Due). BreaksAfter k d rest) e (subst (λ (t : List ℕ). BreaksAfter k due t) f h)

pub breaks_once : (m n : ℕ) (due : Due) (text : List ℕ) → BreaksAfter m due text → BreaksAfter n due text → m ≡ n
breaks_once zero zero due text h g = refl
breaks_once zero (suc n) due text h (line, more, next, e, said, g) = absurd (h.no_line line more next e said)
breaks_once (suc m) zero due text (line, more, next, e, said, h) g = absurd (g.no_line line more next e said)
breaks_once (suc m) (suc n) due text (line, more, next, e, said, h) (other, rest, then, f, so, g) =
    let same = same_line due text line more other rest next then e said f so in
    ap suc (breaks_once m n then rest (moved m next then more rest same.1 same.0 h) g)

-- so many lines as said lead from one place in the text to another

abbrev pub Passes : ℕ → Due → List ℕ → Due → List ℕ → Type 0
Passes zero due text then rest = (due ≡ then) × (text ≡ rest)
Passes (suc n) due text then rest =
    (line : List ℕ) × (more : List ℕ) × (next : Due) × (text ≡ line ++ 10 ∷ more) × IsAsSaid due line next × Passes n next more then rest

pub breaks_behind : (n k m : ℕ) (due then : Due) (text rest : List ℕ) → m ≡ n + k → Passes n due text then rest → BreaksAfter k then rest → BreaksAfter m due text
breaks_behind zero k m due then text rest count p h =
    let same : k ≡ m = omega arith in
    subst (λ (x : ℕ). BreaksAfter x due text) same (moved k then due rest text (sym p.0) (sym p.1) h)
breaks_behind (suc n) k zero due then text rest count p h = absurd (omega arith)
breaks_behind (suc n) k (suc m) due then text rest count (line, more, next, e, said, p) h =
    (line, more, next, e, said, breaks_behind n k m next then more rest (omega arith) p h)

pub passes_on : (m n k : ℕ) (due mid then : Due) (text between rest : List ℕ) → k ≡ m + n → Passes m due text mid between → Passes n mid between then rest → Passes k due text then rest
passes_on zero n k due mid then text between rest count p q =
    let same : n ≡ k = omega arith in
    subst (λ (x : ℕ). Passes x due text then rest) same
    (subst (λ (d : Due). Passes n d text then rest) (sym p.0) (subst (λ (t : List ℕ). Passes n mid t then rest) (sym p.1) q))
passes_on (suc m) n zero due mid then text between rest count p q = absurd (omega arith)
passes_on (suc m) n (suc k) due mid then text between rest count (line, more, next, e, said, p) q =
    (line, more, next, e, said, passes_on m n k next mid then more between rest (omega arith) p q)

-- a text that passes to its end has no line that isn't as said
pub passed_whole : (n k : ℕ) (due then : Due) (text : List ℕ) → Passes n due text then [] → IsOver then → BreaksAfter k due text → ⊥
passed_whole zero zero due then text p over h = h.not_over (subst IsOver (sym p.0) over) p.1
passed_whole zero (suc k) due then text p over (line, more, next, e, said, h) = nothing line more (sym p.1 ∙ e)
  where
    nothing : (l r : List ℕ) → [] ≡ l ++ 10 ∷ r → ⊥
    nothing [] r is = cc
    nothing (x ∷ l) r is = cc
passed_whole (suc n) zero due then text (line, more, next, e, said, p) over h = h.no_line line more next e said
passed_whole (suc n) (suc k) due then text (line, more, next, e, said, p) over (other, rest, mid, f, so, h) =
    let same = same_line due text line more other rest next mid e said f so in
    passed_whole n k next then more p over (moved k mid next rest more (sym same.1) (sym same.0) h)

-- lines of functions and of sites

pub ended_first : (line : List ℕ) (lines : List (List ℕ)) (rest : List ℕ) → ended_lines (line ∷ lines) ++ rest ≡ line ++ 10 ∷ (ended_lines lines ++ rest)
ended_first line lines rest =
    append_assoc (line ++ 10 ∷ []) (ended_lines lines) rest ∙ append_assoc line (10 ∷ []) (ended_lines lines ++ rest)

pub functions_pass : (facts : List FunctionFact) (count left : ℕ) (rest : List ℕ) → count ≡ length facts + left → AllByRecursion HasFewPlaces facts → AllByRecursion HoldsFunctionWords facts
    → Passes (length facts) (Functions count) (ended_lines (map function_line facts) ++ rest) (Functions left) rest
functions_pass [] count left rest is few words = let same : count ≡ left = omega arith in (ap Functions same, refl)
functions_pass (fact ∷ facts) zero left rest is few words = absurd (omega arith)
functions_pass (fact ∷ facts) (suc count) left rest is few words = (
  function_line fact,
  ended_lines (map function_line facts) ++ rest,
  Functions count,
  ended_first (function_line fact) (map function_line facts) rest,
  (fact, few.0, words.0, refl, refl),
  functions_pass facts count left rest (omega arith) few.1 words.1,
)

-- the number of the last site, or what was the last before
abbrev pub last_number : Option ℕ → List SiteFact → Option ℕ
last_number last [] = last
last_number last (fact ∷ facts) = last_number (Some fact.number) facts

pub sites_pass : (facts : List SiteFact) (count left : ℕ) (last : Option ℕ) (rest : List ℕ) → count ≡ length facts + left → Rises last facts → AllByRecursion HoldsSiteWords facts
    → Passes (length facts) (Sites count last) (ended_lines (map site_line facts) ++ rest) (Sites left (last_number last facts)) rest
sites_pass [] count left last rest is rises words = let same : count ≡ left = omega arith in (ap (λ x. Sites x last) same, refl)
sites_pass (fact ∷ facts) zero left last rest is rises words = absurd (omega arith)
sites_pass (fact ∷ facts) (suc count) left last rest is rises words = (
  site_line fact,
  ended_lines (map site_line facts) ++ rest,
  Sites count (Some fact.number),
  ended_first (site_line fact) (map site_line facts) rest,
  (fact, rises.0, words.0, refl, refl),
  sites_pass facts count left (Some fact.number) rest (omega arith) rises.1 words.1,
)
