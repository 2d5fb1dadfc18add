-- The fields of a line of a function or of a site.
use Rattle.certificate_text.proofs.Common.{◌≡◌, ℕ, ◌^◌, ◌<◌, ◌≤◌, false, true, List, ◌∷◌, ◌++◌, map, ap, sym, subst, ◌∙◌, arith, codes, Option, Some, None, Result, Ok, IfOk, IfSome, IfNone, is_ok, append_cancel_left, canonical_decimal, pieces, after_each, decimal_unique, text_of_pieces, FunctionFact, SiteFact, LinkKind, function_line, function_numbers, site_line, kind_fields, HasFewPlaces, HoldsFunctionWords, HoldsSiteWords, HoldsKindWords, AreWords, IsAbove}
use Rattle.cap_text.specs.declared.numbers.NumberError.{NumberError}
use Rattle.certificate_text.specs.declared.fact_lines.FunctionHead.{FunctionHead}
use Rattle.certificate_text.specs.Heads.{head_numbers}
use Rattle.certificate_text.proofs.LineTexts.{function_pieces, site_pieces}

pub if_none_map : {T P Q : Type 0} (o : Option T) → (P → Q) → IfNone o P → IfNone o Q
if_none_map None f h = f h
if_none_map (Some x) f h = tt

-- the number behind the start of a line

pub number_missing : (line start field : List ℕ) (most max : ℕ) (r : Result ℕ NumberError) → max ≡ most → false ≡ is_ok r → line ≡ start ++ field
    → ((n : ℕ) → n ≤ max → field ≡ canonical_decimal n → r ≡ Ok n) → (n : ℕ) → n ≤ most → line ≡ start ++ canonical_decimal n → ⊥
number_missing line start field most max r same missing e reads n small is =
    let answer = reads n (omega arith) (append_cancel_left start field (canonical_decimal n) (sym e ∙ is)) in
    let yes : is_ok r ≡ true = ap is_ok answer in
    absurd (cc)

-- the numbers of a function

-- of five fields the fourth, or the fifth, is none
pub no_ra : (fields one two three : List (List ℕ)) (x y z : List ℕ) → fields ≡ x ∷ one → one ≡ y ∷ two → two ≡ z ∷ three
    → ((n : ℕ) (rest : List (List ℕ)) → n < 2 ^ 32 → three ≡ canonical_decimal n ∷ rest → ⊥)
    → (head : FunctionHead) (rest : List (List ℕ)) → AreWords (head_numbers head) → fields ≡ map canonical_decimal (head_numbers head) ++ rest → ⊥
no_ra fields one two three x y z a b c none head rest words is =
    none head.ra (canonical_decimal head.bound ∷ rest) words.1.1.1.0 (let end : three ≡ canonical_decimal head.ra ∷ canonical_decimal head.bound ∷ rest = cc in end)

pub no_bound : (fields one two three four : List (List ℕ)) (w x y z : List ℕ) → fields ≡ w ∷ one → one ≡ x ∷ two → two ≡ y ∷ three → three ≡ z ∷ four
    → ((n : ℕ) (rest : List (List ℕ)) → n < 2 ^ 32 → four ≡ canonical_decimal n ∷ rest → ⊥)
    → (head : FunctionHead) (rest : List (List ℕ)) → AreWords (head_numbers head) → fields ≡ map canonical_decimal (head_numbers head) ++ rest → ⊥
no_bound fields one two three four w x y z a b c d none head rest words is =
    none head.bound rest words.1.1.1.1.0 (let end : four ≡ canonical_decimal head.bound ∷ rest = cc in end)

pub no_head : (fields : List (List ℕ)) → ((head : FunctionHead) (rest : List (List ℕ)) → AreWords (head_numbers head) → fields ≡ map canonical_decimal (head_numbers head) ++ rest → ⊥)
    → (fact : FunctionFact) → HasFewPlaces fact → HoldsFunctionWords fact → fields ≡ map canonical_decimal (function_numbers fact) → ⊥
no_head fields none fact few words is =
    none (record { entry = fact.entry; words = fact.words; frame = fact.frame; ra = fact.ra; bound = fact.bound }) (map canonical_decimal fact.places)
    (words.0, (words.1.0, (words.1.1.0, (words.1.1.1.0, (words.1.1.1.1.0, tt))))) is

-- a line of a function

pub function_found : {E : Type 0} (line word : List ℕ) (fields : List (List ℕ)) (r : Result (Option FunctionFact) E) → pieces 32 line ≡ word ∷ fields → word ≡ codes "function"
    → IfOk r (λ read. IfSome read (λ fact. HasFewPlaces fact × HoldsFunctionWords fact × (fields ≡ map canonical_decimal (function_numbers fact))))
    → IfOk r (λ read. IfSome read (λ fact. HasFewPlaces fact × HoldsFunctionWords fact × (line ≡ function_line fact)))
function_found line word fields (Ok (Some fact)) e w h = (h.0, h.1, text_of_pieces 32 line word fields e ∙ (λ i. w i ++ after_each 32 (h.2 i)))
function_found line word fields _ e w h = tt

function_fields : (line word : List ℕ) (fields : List (List ℕ)) (fact : FunctionFact) → pieces 32 line ≡ word ∷ fields → line ≡ function_line fact → fields ≡ map canonical_decimal (function_numbers fact)
function_fields line word fields fact e is =
    let same : word ∷ fields ≡ codes "function" ∷ map canonical_decimal (function_numbers fact) = sym e ∙ ap (pieces 32) is ∙ function_pieces fact in
    cc

pub no_function : {E : Type 0} (line word : List ℕ) (fields : List (List ℕ)) (r : Result (Option FunctionFact) E) → pieces 32 line ≡ word ∷ fields
    → IfOk r (λ read. IfNone read ((fact : FunctionFact) → HasFewPlaces fact → HoldsFunctionWords fact → fields ≡ map canonical_decimal (function_numbers fact) → ⊥))
    → IfOk r (λ read. IfNone read ((fact : FunctionFact) → HasFewPlaces fact → HoldsFunctionWords fact → line ≡ function_line fact → ⊥))
no_function line word fields (Ok None) e h = λ fact few words is. h fact few words (function_fields line word fields fact e is)
no_function line word fields _ e h = tt

-- a line of a site

pub site_spelled : (line word : List ℕ) (fields rest : List (List ℕ)) (number : ℕ) (kind : LinkKind) → pieces 32 line ≡ word ∷ fields → word ≡ codes "site"
    → fields ≡ canonical_decimal number ∷ rest → rest ≡ kind_fields kind → line ≡ site_line (record { number = number; kind = kind })
site_spelled line word fields rest number kind e w f k =
    text_of_pieces 32 line word fields e ∙ (λ i. w i ++ after_each 32 ((f ∙ ap (λ x. canonical_decimal number ∷ x) k) i))

site_both : (line word : List ℕ) (fields : List (List ℕ)) (fact : SiteFact) → pieces 32 line ≡ word ∷ fields → line ≡ site_line fact → word ∷ fields ≡ codes "site" ∷ canonical_decimal fact.number ∷ kind_fields fact.kind
site_both line word fields fact e is = sym e ∙ ap (pieces 32) is ∙ site_pieces fact

pub no_site_number : (line word : List ℕ) (fields : List (List ℕ)) (last : Option ℕ) → pieces 32 line ≡ word ∷ fields
    → ((n : ℕ) (rest : List (List ℕ)) → n < 2 ^ 32 → fields ≡ canonical_decimal n ∷ rest → ⊥)
    → (fact : SiteFact) → IsAbove last fact.number → HoldsSiteWords fact → line ≡ site_line fact → ⊥
no_site_number line word fields last e none fact above words is =
    none fact.number (kind_fields fact.kind) words.0 (let same = site_both line word fields fact e is in cc)

pub site_below : (line word : List ℕ) (fields rest : List (List ℕ)) (last : Option ℕ) (number : ℕ) → pieces 32 line ≡ word ∷ fields → fields ≡ canonical_decimal number ∷ rest → ¬ IsAbove last number
    → (fact : SiteFact) → IsAbove last fact.number → HoldsSiteWords fact → line ≡ site_line fact → ⊥
site_below line word fields rest last number e f below fact above words is =
    let both = site_both line word fields fact e is in
    let texts : canonical_decimal number ≡ canonical_decimal fact.number = cc in
    let same : number ≡ fact.number = decimal_unique number fact.number texts in
    below (subst (λ (n : ℕ). IsAbove last n) (sym same) above)

pub no_site_kind : (line word : List ℕ) (fields rest : List (List ℕ)) (last : Option ℕ) (number : ℕ) → pieces 32 line ≡ word ∷ fields → fields ≡ canonical_decimal number ∷ rest
    → ((kind : LinkKind) → HoldsKindWords kind → rest ≡ kind_fields kind → ⊥)
    → (fact : SiteFact) → IsAbove last fact.number → HoldsSiteWords fact → line ≡ site_line fact → ⊥
no_site_kind line word fields rest last number e f none fact above words is =
    none fact.kind words.1 (let both = site_both line word fields fact e is in cc)
