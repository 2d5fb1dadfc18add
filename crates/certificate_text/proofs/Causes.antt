-- From where a part of the text breaks off to the line that is refused.
use Rattle.certificate_text.proofs.Common.{◌≡◌, ℕ, ◌+◌, ◌-◌, ◌^◌, ◌<◌, ◌≤◌, List, [], ◌∷◌, ◌++◌, length, map, refl, ap, sym, subst, ◌∙◌, arith, ◌==◌, Bool, true, false, None, Result, Ok, Err, IfOk, IfErr, MatchResult, ◌⊎◌, inl, inr, AllByRecursion, ne_eqb, ended_lines, Certificate, FunctionFact, SiteFact, title_line, chunk_line, max_path_line, functions_line, sites_line, function_line, site_line, spelling, HasFewPlaces, HoldsFunctionWords, HoldsSiteWords, Rises, IsWithinLimits, HoldsWords, Due, BeginsOtherwise, IsFirstRefused, IsCauseOf, Title, Functions, Sites}
use Rattle.certificate_text.specs.declared.errors.CertError.{CertError}
use Rattle.certificate_text.specs.declared.errors.CertError.TheVariants.{Line, Memory}
use Rattle.certificate_text.specs.Reading.{BreaksIn}
use Rattle.certificate_text.proofs.Passing.{Passes, passes_on, breaks_behind, functions_pass, sites_pass, last_number}
use Rattle.certificate_text.proofs.Spellings.{head_passes, spelling_parts, spelling_unique, spelling_unrefused, first_refused_unique}

passes_from : (n : ℕ) (due then : Due) (text whole rest : List ℕ) → whole ≡ text → Passes n due text then rest → Passes n due whole then rest
passes_from n due then text whole rest e h = subst (λ (t : List ℕ). Passes n due t then rest) (sym e) h

-- a line of functions, or of sites, that isn't as said

pub functions_break : (facts : List FunctionFact) (count number : ℕ) (text rest : List ℕ) → number ≡ 5 + length facts → length facts ≤ count → AllByRecursion HasFewPlaces facts
    → AllByRecursion HoldsFunctionWords facts → text ≡ ended_lines (map function_line facts) ++ rest → BeginsOtherwise (Functions (count - length facts)) rest
    → BreaksIn (Functions count) text 5 (Line number)
functions_break facts count number text rest is most few words e otherwise = (
  length facts,
  is,
  breaks_behind (length facts) 0 (length facts) (Functions count) (Functions (count - length facts)) text rest (omega arith)
      (passes_from (length facts) (Functions count) (Functions (count - length facts)) (ended_lines (map function_line facts) ++ rest) text rest e (functions_pass facts count (count - length facts) rest (omega arith) few words)) otherwise,
)

pub sites_break : (facts : List SiteFact) (count first number : ℕ) (text rest : List ℕ) → number ≡ first + length facts → length facts ≤ count → Rises None facts
    → AllByRecursion HoldsSiteWords facts → text ≡ ended_lines (map site_line facts) ++ rest → BeginsOtherwise (Sites (count - length facts) (last_number None facts)) rest
    → BreaksIn (Sites count None) text first (Line number)
sites_break facts count first number text rest is most rises words e otherwise = (
  length facts,
  is,
  breaks_behind (length facts) 0 (length facts) (Sites count None) (Sites (count - length facts) (last_number None facts)) text rest (omega arith)
      (passes_from (length facts) (Sites count None) (Sites (count - length facts) (last_number None facts)) (ended_lines (map site_line facts) ++ rest) text rest e (sites_pass facts count (count - length facts) None rest (omega arith) rises words)) otherwise,
)

-- behind lines that are as said

pub cause_behind : (n first : ℕ) (due : Due) (text rest : List ℕ) (error : CertError) → first ≡ n + 1 → Passes n Title text due rest → BreaksIn due rest first error → IsCauseOf text error
cause_behind n first due text rest (Line number) is passes (passed, count, breaks) =
    (n + passed, omega arith, breaks_behind n passed (n + passed) Title due text rest refl passes breaks)
cause_behind n first due text rest Memory is passes breaks = tt

pub line_refused : (n number : ℕ) (due : Due) (text rest : List ℕ) → number ≡ n + 1 → Passes n Title text due rest → BeginsOtherwise due rest → IsFirstRefused text number
line_refused n number due text rest is passes otherwise = (n, is, breaks_behind n 0 n Title due text rest (omega arith) passes otherwise)

-- whether a text is over

pub some_text : (text : List ℕ) (b : Bool) → b ≡ (length text == 0) → b ≡ false → text ≡ [] → ⊥
some_text [] b e f is = absurd (cc)
some_text (x ∷ text) b e f is = absurd (cc)

pub no_text : (text : List ℕ) (b : Bool) → b ≡ (length text == 0) → b ≡ true → text ≡ []
no_text [] b e f = refl
no_text (x ∷ text) b e f = let other : (length (x ∷ text) == 0) ≡ false = ne_eqb (length (x ∷ text)) 0 (λ none. omega arith) in absurd (cc)

-- the parts of a text that were read

pub record HeadRead (chunk path count : ℕ) (text rest : List ℕ) : Type 0 where
  pub small : chunk < 2 ^ 32
  pub fits : path < 2 ^ 32
  pub few : count ≤ 4096
  pub whole : text ≡ ended_lines (title_line ∷ chunk_line chunk ∷ max_path_line path ∷ functions_line count ∷ []) ++ rest

pub record FunctionsRead (facts : List FunctionFact) (count : ℕ) (text rest : List ℕ) : Type 0 where
  pub size : length facts ≡ count
  pub few : AllByRecursion HasFewPlaces facts
  pub words : AllByRecursion HoldsFunctionWords facts
  pub whole : text ≡ ended_lines (map function_line facts) ++ rest

pub record SitesRead (facts : List SiteFact) (count : ℕ) (text rest : List ℕ) : Type 0 where
  pub size : length facts ≡ count
  pub rises : Rises None facts
  pub words : AllByRecursion HoldsSiteWords facts
  pub whole : text ≡ ended_lines (map site_line facts) ++ rest

pub head_read : {chunk path count : ℕ} {text start rest : List ℕ} → start ≡ text → (chunk < 2 ^ 32) × (path < 2 ^ 32) × (count ≤ 4096)
    × (start ≡ ended_lines (title_line ∷ chunk_line chunk ∷ max_path_line path ∷ functions_line count ∷ []) ++ rest) → HeadRead chunk path count text rest
head_read e h = record { small = h.0; fits = h.1; few = h.2; whole = sym e ∙ h.3 }

pub functions_read : {facts : List FunctionFact} {count : ℕ} {text rest : List ℕ} → (length facts ≡ count) × AllByRecursion HasFewPlaces facts
    × AllByRecursion HoldsFunctionWords facts × (text ≡ ended_lines (map function_line facts) ++ rest) → FunctionsRead facts count text rest
functions_read h = record { size = h.0; few = h.1; words = h.2; whole = h.3 }

pub sites_read : {facts : List SiteFact} {count : ℕ} {text rest : List ℕ} → (length facts ≡ count) × Rises None facts
    × AllByRecursion HoldsSiteWords facts × (text ≡ ended_lines (map site_line facts) ++ rest) → SitesRead facts count text rest
sites_read h = record { size = h.0; rises = h.1; words = h.2; whole = h.3 }

pub head_led : {chunk path count : ℕ} {text rest : List ℕ} → HeadRead chunk path count text rest → Passes 4 Title text (Functions count) rest
head_led {chunk} {path} {count} {text} {rest} h =
    passes_from 4 Title (Functions count) (ended_lines (title_line ∷ chunk_line chunk ∷ max_path_line path ∷ functions_line count ∷ []) ++ rest) text rest h.whole
    (head_passes chunk path count rest h.small h.fits h.few)

pub functions_led : {chunk path count : ℕ} {facts : List FunctionFact} {text behind rest : List ℕ} → HeadRead chunk path count text behind
    → FunctionsRead facts count behind rest → Passes (4 + count) Title text (Functions 0) rest
functions_led {chunk} {path} {count} {facts} {text} {behind} {rest} h f =
    let n = length facts in
    let same = f.size in
    passes_on 4 n (4 + count) Title (Functions count) (Functions 0) text behind rest (omega arith) (head_led h)
    (passes_from n (Functions count) (Functions 0) (ended_lines (map function_line facts) ++ rest) behind rest f.whole (functions_pass facts count 0 rest (omega arith) f.few f.words))

pub count_led : {chunk path count : ℕ} {facts : List FunctionFact} {text behind last : List ℕ} (sites : ℕ) (rest : List ℕ)
    → HeadRead chunk path count text behind → FunctionsRead facts count behind last → (sites ≤ 65535) × (last ≡ sites_line sites ++ 10 ∷ rest)
    → Passes (5 + count) Title text (Sites sites None) rest
count_led {chunk} {path} {count} {facts} {text} {behind} {last} sites rest h f (most, e) =
    passes_on (4 + count) 1 (5 + count) Title (Functions 0) (Sites sites None) text last rest (omega arith) (functions_led h f)
    (sites_line sites, rest, Sites sites None, e, (sites, most, refl, refl), (refl, refl))

pub sites_led : (n sites : ℕ) (facts : List SiteFact) (text behind rest : List ℕ) → Passes n Title text (Sites sites None) behind → SitesRead facts sites behind rest
    → Passes (n + sites) Title text (Sites 0 (last_number None facts)) rest
sites_led n sites facts text behind rest p s =
    let same = s.size in
    passes_on n (length facts) (n + sites) Title (Sites sites None) (Sites 0 (last_number None facts)) text behind rest (omega arith) p
    (passes_from (length facts) (Sites sites None) (Sites 0 (last_number None facts)) (ended_lines (map site_line facts) ++ rest) behind rest s.whole (sites_pass facts sites 0 None rest (omega arith) s.rises s.words))

-- a text that was read to its end is the certificate's

pub whole_read : (c : Certificate) (count sites : ℕ) (text behind last next rest : List ℕ) → HeadRead c.chunk c.max_path count text behind → FunctionsRead c.functions count behind last
    → last ≡ sites_line sites ++ 10 ∷ next → SitesRead c.sites sites next rest → rest ≡ [] → text ≡ spelling c
whole_read c count sites text behind last next rest h f e s over =
    let functions = f.size in
    let all = s.size in
    let next_is : next ≡ ended_lines (map site_line c.sites) ++ [] = s.whole ∙ ap (λ (x : List ℕ). ended_lines (map site_line c.sites) ++ x) over in
    let last_is : last ≡ sites_line (length c.sites) ++ 10 ∷ (ended_lines (map site_line c.sites) ++ []) =
    e ∙ (λ i. sites_line (sym all i) ++ 10 ∷ next_is i) in
    let behind_is : behind ≡ ended_lines (map function_line c.functions) ++ (sites_line (length c.sites) ++ 10 ∷ (ended_lines (map site_line c.sites) ++ [])) =
    f.whole ∙ ap (λ (x : List ℕ). ended_lines (map function_line c.functions) ++ x) last_is in
    h.whole ∙ (λ i. ended_lines (title_line ∷ chunk_line c.chunk ∷ max_path_line c.max_path ∷ functions_line (sym functions i) ∷ []) ++ behind_is i) ∙ sym (spelling_parts c)

pub whole_parts : {chunk path count sites : ℕ} {functions seen : List FunctionFact} {facts shown : List SiteFact} {text behind last next rest : List ℕ}
    → HeadRead chunk path count text behind → FunctionsRead functions count behind last → last ≡ sites_line sites ++ 10 ∷ next → SitesRead facts sites next rest
    → rest ≡ [] → seen ≡ functions → shown ≡ facts → text ≡ spelling (record { chunk = chunk; max_path = path; functions = seen; sites = shown })
whole_parts {chunk} {path} {count} {sites} {functions} {seen} {facts} {shown} {text} {behind} {last} {next} {rest} h f e s over same alike =
    whole_read (record { chunk = chunk; max_path = path; functions = functions; sites = facts }) count sites text behind last next rest h f e s over
    ∙ ap spelling (λ i. record { chunk = chunk; max_path = path; functions = sym same i; sites = sym alike i })

-- what follows for the answer

abbrev pub ReadsAgain : List ℕ → Result Certificate CertError → Type 0
ReadsAgain text r = (c : Certificate) → IsWithinLimits c → HoldsWords c → text ≡ spelling c → MatchResult r (λ read. read ≡ c) (λ error. error ≡ Memory)

abbrev pub RefusesExactly : List ℕ → Result Certificate CertError → Type 0
RefusesExactly text r = (number : ℕ) → IsFirstRefused text number → MatchResult r (λ _. ⊥) (λ error. (error ≡ Line number) ⊎ (error ≡ Memory))

pub reads_again : (text : List ℕ) (r : Result Certificate CertError) → IfOk r (λ c. text ≡ spelling c) → IfErr r (IsCauseOf text) → ReadsAgain text r
reads_again text (Ok read) e cause = λ c limits words is. spelling_unique read c (sym e ∙ is)
reads_again text (Err (Line number)) e cause = λ c limits words is. absurd (spelling_unrefused c number limits words (subst (λ (t : List ℕ). IsFirstRefused t number) is cause))
reads_again text (Err Memory) e cause = λ c limits words is. refl

pub refuses_exactly : (text : List ℕ) (r : Result Certificate CertError) → IfOk r (λ c. text ≡ spelling c) → IfOk r IsWithinLimits → IfOk r HoldsWords → IfErr r (IsCauseOf text) → RefusesExactly text r
refuses_exactly text (Ok read) e limits words cause = λ number first. spelling_unrefused read number limits words (subst (λ (t : List ℕ). IsFirstRefused t number) e first)
refuses_exactly text (Err (Line number)) e limits words cause = λ other first. inl (ap Line (first_refused_unique text number other cause first))
refuses_exactly text (Err Memory) e limits words cause = λ other first. inr refl
