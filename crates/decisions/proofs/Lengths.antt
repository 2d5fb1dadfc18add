-- The text of a certificate that is laid out is no longer than a file of its kind may be.
use Rattle.decisions.proofs.Common.{◌≡◌, ◌∙◌, ℕ, ◌+◌, ◌*◌, ◌^◌, ◌<◌, ◌≤◌, List, [], ◌∷◌, ◌++◌, length, length-append, map, refl, arith, codes, sum_by, AllByRecursion, sum_by-cons, canonical_decimal, after_each, ended_lines, sites_line, function_numbers, function_line, kind_fields, site_line, certificate_lines, spelling, AreWords, HoldsFunctionWords, HoldsKindWords, HoldsSiteWords, IsWithinLimits, HoldsWords, Plan, function_words, code_words, HasFacts, all-words, is-for, FlatFunction, FlatCode, length-words, Image, Certificate, FunctionFact, LinkKind, SiteFact, HasPlaces}
use Rattle.cap_text.proofs.DecimalLaws.{decimal_length}
use Rattle.stack_image.specs.Spelling as image
use Rattle.stack_image.specs.Spelling.{spelling as image_spelling}

-- ---- lines

-- how many bytes lines have, with a line feed each
abbrev total : List (List ℕ) → ℕ
total [] = 0
total (line ∷ lines) = length line + 1 + total lines

ended_long : (lines : List (List ℕ)) → length (ended_lines lines) ≡ total lines
ended_long [] = refl
ended_long (line ∷ lines) = omega (arith, length-append (line ++ 10 ∷ []) (ended_lines lines), length-append line (10 ∷ []), ended_long lines)

total_append : (xs ys : List (List ℕ)) → total (xs ++ ys) ≡ total xs + total ys
total_append [] ys = omega arith
total_append (x ∷ xs) ys = omega (arith, total_append xs ys)

number_short : (n : ℕ) → n < 2 ^ 32 → length (canonical_decimal n) ≤ 10
number_short n word = decimal_length n 10 (omega arith) (omega (arith, word))

fields_long : (numbers : List ℕ) → AreWords numbers → length (after_each 32 (map canonical_decimal numbers)) ≤ 11 * length numbers
fields_long [] words = omega arith
fields_long (n ∷ numbers) words =
    omega (arith, length-append (canonical_decimal n) (after_each 32 (map canonical_decimal numbers)), number_short n words.0, fields_long numbers words.1)

-- ---- functions

abbrev places_of : List FunctionFact → ℕ
places_of [] = 0
places_of (fact ∷ facts) = length fact.places + places_of facts

function_long : (fact : FunctionFact) → HoldsFunctionWords fact → length (function_line fact) ≤ 63 + 11 * length fact.places
function_long fact words =
    omega (arith, length-append (codes "function") (after_each 32 (map canonical_decimal (function_numbers fact))), fields_long (function_numbers fact) words)

functions_long : (facts : List FunctionFact) → AllByRecursion HoldsFunctionWords facts → total (map function_line facts) ≤ 64 * length facts + 11 * places_of facts
functions_long [] words = omega arith
functions_long (fact ∷ facts) words = omega (arith, function_long fact words.0, functions_long facts words.1)

-- ---- sites

kind_long : (kind : LinkKind) → HoldsKindWords kind → length (after_each 32 (kind_fields kind)) ≤ 18
kind_long LinkKind.Plain words = omega arith
kind_long (LinkKind.Linked need) words = omega (arith, length-append (canonical_decimal need) [], number_short need words)
kind_long (LinkKind.Spawned need) words = omega (arith, length-append (canonical_decimal need) [], number_short need words)

site_long : (fact : SiteFact) → HoldsSiteWords fact → length (site_line fact) ≤ 33
site_long fact words =
    omega (
      arith,
      length-append (codes "site") (after_each 32 (canonical_decimal fact.number ∷ kind_fields fact.kind)),
      length-append (canonical_decimal fact.number) (after_each 32 (kind_fields fact.kind)),
      number_short fact.number words.0,
      kind_long fact.kind words.1,
    )

sites_long : (facts : List SiteFact) → AllByRecursion HoldsSiteWords facts → total (map site_line facts) ≤ 34 * length facts
sites_long [] words = omega arith
sites_long (fact ∷ facts) words = omega (arith, site_long fact words.0, sites_long facts words.1)

-- ---- how many places there are

places_few : (code : FlatCode) (plan : Plan) (fs : List FlatFunction) (facts : List FunctionFact) → HasPlaces fs facts → AllByRecursion (λ (f : FlatFunction). length f.sizes ≤ 2 * function_words code plan f) fs →
    places_of facts ≤ 2 * sum_by (function_words code plan) fs
places_few code plan [] [] has few = omega arith
places_few code plan (f ∷ fs) (fact ∷ facts) has few =
    let same = has.0 in
    let one = few.0 in
    omega (arith, same, one, sum_by-cons (function_words code plan) f fs, places_few code plan fs facts has.1 few.1)
places_few code plan _ _ has few = absurd has

-- ---- the text

module _ (code : FlatCode) (plan : Plan) (c : Certificate) (facts : HasFacts code plan c) (fits : code_words code plan ≤ 200000) (few : AllByRecursion (λ (f : FlatFunction). length f.sizes ≤ 2 * function_words code plan f) code.functions) where
  pub certificate_short : IsWithinLimits c → HoldsWords c → length (spelling c) ≤ 8388608
  unfolding spelling
  certificate_short limits words =
      let functions = map function_line c.functions in
      let sites = map site_line c.sites in
      let places = places_few code plan code.functions c.functions (is-for code plan c facts) few in
      let all = all-words code plan in
      let function_bytes = functions_long c.functions words.functions in
      let site_bytes = sites_long c.sites words.sites in
      let most_functions = limits.functions in
      let most_sites = limits.sites in
      let chunk = number_short c.chunk words.chunk in
      let path = number_short c.max_path words.max_path in
      let function_count = number_short (length c.functions) (omega (arith, most_functions)) in
      let site_count = number_short (length c.sites) (omega (arith, most_sites)) in
      omega (
        arith,
        fits,
        places,
        all,
        function_bytes,
        site_bytes,
        most_functions,
        most_sites,
        chunk,
        path,
        function_count,
        site_count,
        ended_long (certificate_lines c),
        total_append functions (sites_line (length c.sites) ∷ sites),
        length-append (codes "chunk ") (canonical_decimal c.chunk),
        length-append (codes "max-path ") (canonical_decimal c.max_path),
        length-append (codes "functions ") (canonical_decimal (length c.functions)),
        length-append (codes "sites ") (canonical_decimal (length c.sites)),
      )

-- ---- how long an image is

six_long : (a b c d e f : List ℕ) → length (a ++ b ++ c ++ d ++ e ++ f) ≡ length a + length b + length c + length d + length e + length f
six_long a b c d e f =
    omega (arith, length-append (a ++ b ++ c ++ d ++ e) f, length-append (a ++ b ++ c ++ d) e, length-append (a ++ b ++ c) d, length-append (a ++ b) c, length-append a b)

image_long : (i : Image) → length (image_spelling i) ≡ length image.magic + 4 * length (image.sizes i) + 4 * length i.code + 4 * length i.globals + 4 * length i.tables + 4 * length i.entries
unfolding image_spelling
image_long i =
    six_long image.magic (image.words (image.sizes i)) (image.words i.code) (image.words i.globals) (image.words i.tables) (image.words i.entries)
    ∙ (λ k. length image.magic + length-words (image.sizes i) k + length-words i.code k + length-words i.globals k + length-words i.tables k + length-words i.entries k)

pub image_short : (i : Image) → image.IsWithinLimits i → length (image_spelling i) ≤ 2097152
image_short i h =
    let front : length image.magic ≡ 4 = refl in
    let counts : length (image.sizes i) ≡ 4 = refl in
    let code = h.code in
    let globals = h.globals in
    let tables = h.tables in
    let entries = h.entries in
    omega (arith, front, counts, image_long i, code, globals, tables, entries)
