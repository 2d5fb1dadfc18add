-- Certificates and their texts.
use Rattle.certificate_text.proofs.Common.{◌≡◌, ℕ, suc, ◌+◌, ◌≤◌, List, [], ◌∷◌, ◌++◌, length, map, refl, ap, sym, subst, ◌∙◌, arith, append-nil, append_assoc, ◌^◌, ◌<◌, Option, None, AllByRecursion, Lacks, lines_of, ended_lines, Certificate, FunctionFact, SiteFact, title_line, chunk_line, max_path_line, functions_line, sites_line, function_line, site_line, certificate_lines, spelling, IsWithinLimits, HoldsWords, IsFirstRefused, Title, Chunk, MaxPath, FunctionCount, Functions, Sites}
use Rattle.std.proofs.lemmas.Grind.{flat_map-append}
use Rattle.cap_text.proofs.LineLaws.{ended_lines_back}
use Rattle.certificate_text.proofs.LineTexts.{title_lacks, chunk_lacks, max_path_lacks, functions_lacks, sites_lacks, function_lacks, site_lacks, chunk_number, max_path_number, functions_number, function_unique, site_unique}
use Rattle.certificate_text.proofs.Passing.{Passes, passes_on, functions_pass, sites_pass, last_number, passed_whole, breaks_once, ended_first}

-- no line of a certificate has an LF

lacks_functions : (facts : List FunctionFact) (lines : List (List ℕ)) → AllByRecursion (Lacks 10) lines → AllByRecursion (Lacks 10) (map function_line facts ++ lines)
lacks_functions [] lines h = h
lacks_functions (fact ∷ facts) lines h = (function_lacks fact, lacks_functions facts lines h)

lacks_sites : (facts : List SiteFact) → AllByRecursion (Lacks 10) (map site_line facts)
lacks_sites [] = tt
lacks_sites (fact ∷ facts) = (site_lacks fact, lacks_sites facts)

lines_lack : (c : Certificate) → AllByRecursion (Lacks 10) (certificate_lines c)
lines_lack c = (
  title_lacks,
  (
    chunk_lacks c.chunk,
    (
      max_path_lacks c.max_path,
      (
        functions_lacks (length c.functions),
        lacks_functions c.functions (sites_line (length c.sites) ∷ map site_line c.sites) (sites_lacks (length c.sites), lacks_sites c.sites),
      ),
    ),
  ),
)

-- a text is that of one certificate

functions_unique : (fs gs : List FunctionFact) (ms ns : List (List ℕ)) → length fs ≡ length gs → map function_line fs ++ ms ≡ map function_line gs ++ ns → (fs ≡ gs) × (ms ≡ ns)
functions_unique [] [] ms ns l e = (refl, e)
functions_unique (f ∷ fs) (g ∷ gs) ms ns l e =
    let first : function_line f ≡ function_line g = cc in
    let heads = function_unique f g first in
    let rest = functions_unique fs gs ms ns (omega arith) (cc) in
    ((λ i. heads i ∷ rest.0 i), rest.1)
functions_unique _ _ ms ns l e = absurd (omega arith)

sites_unique : (xs ys : List SiteFact) → map site_line xs ≡ map site_line ys → xs ≡ ys
sites_unique [] [] e = refl
sites_unique (x ∷ xs) (y ∷ ys) e = let first = site_unique x y (cc) in let rest = sites_unique xs ys (cc) in (λ i. first i ∷ rest i)
sites_unique _ _ e = absurd (cc)

pub spelling_unique : (c d : Certificate) → spelling c ≡ spelling d → c ≡ d
unfolding spelling
spelling_unique c d e =
    let lines : certificate_lines c ≡ certificate_lines d = sym (ended_lines_back (certificate_lines c) (lines_lack c)) ∙ ap lines_of e ∙ ended_lines_back (certificate_lines d) (lines_lack d) in
    let chunk_lines : chunk_line c.chunk ≡ chunk_line d.chunk = second lines in
    let path_lines : max_path_line c.max_path ≡ max_path_line d.max_path = third lines in
    let count_lines : functions_line (length c.functions) ≡ functions_line (length d.functions) = fourth lines in
    let chunk = chunk_number c.chunk d.chunk chunk_lines in
    let path = max_path_number c.max_path d.max_path path_lines in
    let count = functions_number (length c.functions) (length d.functions) count_lines in
    let both = functions_unique c.functions d.functions _ _ count (behind lines) in
    let sites = sites_unique c.sites d.sites (tail_of both.1) in
    λ i. record { chunk = chunk i; max_path = path i; functions = both.0 i; sites = sites i }
  where
    second : {a b c d p q r s : List ℕ} {x y : List (List ℕ)} → a ∷ b ∷ c ∷ d ∷ x ≡ p ∷ q ∷ r ∷ s ∷ y → b ≡ q
    second h = cc

    third : {a b c d p q r s : List ℕ} {x y : List (List ℕ)} → a ∷ b ∷ c ∷ d ∷ x ≡ p ∷ q ∷ r ∷ s ∷ y → c ≡ r
    third h = cc

    fourth : {a b c d p q r s : List ℕ} {x y : List (List ℕ)} → a ∷ b ∷ c ∷ d ∷ x ≡ p ∷ q ∷ r ∷ s ∷ y → d ≡ s
    fourth h = cc

    behind : {a b c d p q r s : List ℕ} {x y : List (List ℕ)} → a ∷ b ∷ c ∷ d ∷ x ≡ p ∷ q ∷ r ∷ s ∷ y → x ≡ y
    behind h = cc

    tail_of : {a p : List ℕ} {x y : List (List ℕ)} → a ∷ x ≡ p ∷ y → x ≡ y
    tail_of h = cc

-- the text of a certificate, by its parts

pub spelling_parts : (c : Certificate) → spelling c ≡ ended_lines (title_line ∷ chunk_line c.chunk ∷ max_path_line c.max_path ∷ functions_line (length c.functions) ∷ [])
    ++ (ended_lines (map function_line c.functions) ++ (sites_line (length c.sites) ++ 10 ∷ (ended_lines (map site_line c.sites) ++ [])))
unfolding spelling
spelling_parts c =
    let functions = map function_line c.functions in
    let sites = sites_line (length c.sites) ∷ map site_line c.sites in
    let ended = λ (line : List ℕ). line ++ 10 ∷ [] in
    flat_map-append ended (title_line ∷ chunk_line c.chunk ∷ max_path_line c.max_path ∷ functions_line (length c.functions) ∷ []) (functions ++ sites)
    ∙ ap (λ x. ended_lines (title_line ∷ chunk_line c.chunk ∷ max_path_line c.max_path ∷ functions_line (length c.functions) ∷ []) ++ x)
    (flat_map-append ended functions sites
    ∙ ap (λ x. ended_lines functions ++ x)
    (append_assoc (sites_line (length c.sites)) (10 ∷ []) (ended_lines (map site_line c.sites)) ∙ ap (λ x. sites_line (length c.sites) ++ 10 ∷ x) (sym (append-nil _))))

-- the lines of the head lead to the functions'
pub head_passes : (chunk path count : ℕ) (rest : List ℕ) → chunk < 2 ^ 32 → path < 2 ^ 32 → count ≤ 4096
    → Passes 4 Title (ended_lines (title_line ∷ chunk_line chunk ∷ max_path_line path ∷ functions_line count ∷ []) ++ rest) (Functions count) rest
head_passes chunk path count rest small fits few =
    let counts = ended_lines (functions_line count ∷ []) ++ rest in
    let paths = ended_lines (max_path_line path ∷ functions_line count ∷ []) ++ rest in
    let chunks = ended_lines (chunk_line chunk ∷ max_path_line path ∷ functions_line count ∷ []) ++ rest in
    let last : Passes 1 FunctionCount counts (Functions count) rest =
    (functions_line count, rest, Functions count, ended_first (functions_line count) [] rest, (count, few, refl, refl), (refl, refl)) in
    let two : Passes 2 MaxPath paths (Functions count) rest =
    (max_path_line path, counts, FunctionCount, ended_first (max_path_line path) (functions_line count ∷ []) rest, (path, fits, refl, refl), last) in
    let three : Passes 3 Chunk chunks (Functions count) rest =
    (chunk_line chunk, paths, MaxPath, ended_first (chunk_line chunk) (max_path_line path ∷ functions_line count ∷ []) rest, (chunk, small, refl, refl), two) in
    (title_line, chunks, Chunk, ended_first title_line (chunk_line chunk ∷ max_path_line path ∷ functions_line count ∷ []) rest, (refl, refl), three)

-- the whole text leads to its end
pub spelling_passes : (c : Certificate) → IsWithinLimits c → HoldsWords c → (n : ℕ) × (last : Option ℕ) × Passes n Title (spelling c) (Sites 0 last) []
spelling_passes c limits words =
    let sites_text = ended_lines (map site_line c.sites) ++ [] in
    let behind = sites_line (length c.sites) ++ 10 ∷ sites_text in
    let functions_text = ended_lines (map function_line c.functions) ++ behind in
    let head = head_passes c.chunk c.max_path (length c.functions) functions_text words.chunk words.max_path limits.functions in
    let functions = functions_pass c.functions (length c.functions) 0 behind (omega arith) limits.places words.functions in
    let sites = sites_pass c.sites (length c.sites) 0 None [] (omega arith) limits.rising words.sites in
    let count : Passes (suc (length c.sites)) (Functions 0) behind (Sites 0 (last_number None c.sites)) [] =
    (sites_line (length c.sites), sites_text, Sites (length c.sites) None, refl, (length c.sites, limits.sites, refl, refl), sites) in
    let after_head = passes_on (length c.functions) (suc (length c.sites)) (length c.functions + suc (length c.sites)) (Functions (length c.functions)) (Functions 0) _ functions_text behind [] refl functions count in
    let all = passes_on 4 (length c.functions + suc (length c.sites)) (4 + (length c.functions + suc (length c.sites))) Title (Functions (length c.functions)) _ _ functions_text [] refl head after_head in (
      4 + (length c.functions + suc (length c.sites)),
      last_number None c.sites,
      subst (λ (text : List ℕ). Passes (4 + (length c.functions + suc (length c.sites))) Title text (Sites 0 (last_number None c.sites)) []) (sym (spelling_parts c)) all,
    )

-- a text that is a certificate's has no first refused line
pub spelling_unrefused : (c : Certificate) (n : ℕ) → IsWithinLimits c → HoldsWords c → ¬ IsFirstRefused (spelling c) n
spelling_unrefused c n limits words (passed, is, breaks) =
    let whole = spelling_passes c limits words in
    passed_whole whole.0 passed Title (Sites 0 whole.1) (spelling c) whole.2 tt breaks

pub first_refused_unique : (text : List ℕ) (m n : ℕ) → IsFirstRefused text m → IsFirstRefused text n → m ≡ n
first_refused_unique text m n (p, is, h) (q, e, g) = is ∙ ap (λ x. x + 1) (breaks_once p q Title text h g) ∙ sym e
