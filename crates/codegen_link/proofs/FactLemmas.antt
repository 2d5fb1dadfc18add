-- What a certificate that is laid out says of a function.
use Rattle.codegen_link.proofs.Common.{◌≡◌, ℕ, suc, ◌+◌, ◌*◌, ◌<◌, false, List, [], ◌∷◌, length, get_or, refl, ap, ◌∙◌, arith, length-map-range_with_len, get_or-map-range_with_len, FlatFunction, FlatCode, function_at, Plan, Certificate, FunctionFact, HasPlaces, IsFor, HasFacts, fact_of, places_from}

pub facts-count : (code : FlatCode) (plan : Plan) (certificate : Certificate) → HasFacts code plan certificate → length certificate.functions ≡ length code.functions
facts-count code plan certificate has = ap length has.functions ∙ length-map-range_with_len (fact_of code plan) 0 (length code.functions)

pub fact-is : (code : FlatCode) (plan : Plan) (certificate : Certificate) (f : ℕ) (d : FunctionFact) → HasFacts code plan certificate → f < length code.functions →
    get_or certificate.functions f d ≡ fact_of code plan f
fact-is code plan certificate f d has lt =
    ap (λ facts. get_or facts f d) has.functions ∙ get_or-map-range_with_len (fact_of code plan) 0 (length code.functions) f f d lt (omega arith)

pub length-places : (place : ℕ) (sizes : List ℕ) → length (places_from place sizes) ≡ length sizes
length-places place [] = refl
length-places place (n ∷ sizes) = ap suc (length-places (place + 4 * n) sizes)

has-places : (fs : List FlatFunction) (facts : List FunctionFact) (d : FlatFunction) (e : FunctionFact) → length facts ≡ length fs →
    ((i : ℕ) → i < length fs → length (get_or facts i e).places ≡ length (get_or fs i d).sizes) → HasPlaces fs facts
has-places [] [] d e same each = tt
has-places (f ∷ fs) (fact ∷ facts) d e same each =
    (each 0 (omega arith), has-places fs facts d e (omega arith) (λ i lt. each (suc i) (omega arith)))
has-places _ _ d e same each = absurd (omega arith)

-- it has a place for each variable of each function
pub is-for : (code : FlatCode) (plan : Plan) (certificate : Certificate) → HasFacts code plan certificate → IsFor code certificate
is-for code plan certificate has =
    has-places code.functions certificate.functions (record { params = 0; gives = false; sizes = []; ops = [] }) (record { entry = 0; words = 0; frame = 0; ra = 0; bound = 0; places = [] })
    (facts-count code plan certificate has)
    (λ i lt. ap (λ fact. length fact.places) (fact-is code plan certificate i _ has lt) ∙ length-places 0 (function_at code i).sizes)
