-- The lines of a certificate: no LF in them, and each has one meaning.
use Rattle.certificate_text.proofs.Common.{◌≡◌, ℕ, List, [], ◌∷◌, ◌++◌, map, refl, ap, sym, ◌∙◌, arith, get_or, codes, AllByRecursion, canonical_decimal, pieces, Lacks, after_each, decimal_unique, pieces_joined, lacks-append, lacks_after_each, Visible, visible_lacks, all_lack, visible_decimal, from_shown, FunctionFact, SiteFact, LinkKind, title_line, chunk_line, max_path_line, functions_line, sites_line, function_numbers, function_line, kind_fields, site_line}
use Rattle.stack_certificate.specs.declared.sites.LinkKind.TheVariants.{Plain, Linked, Spawned}
use Rattle.certificate_text.proofs.LineSplits.{from_unbroken}

-- visible fields

pub decimals_visible : (numbers : List ℕ) → AllByRecursion Visible (map canonical_decimal numbers)
decimals_visible [] = tt
decimals_visible (n ∷ numbers) = (visible_decimal n, decimals_visible numbers)

kind_visible : (kind : LinkKind) → AllByRecursion Visible (kind_fields kind)
kind_visible Plain = (from_shown (codes "plain") refl, tt)
kind_visible (Linked need) = (from_shown (codes "linked") refl, (visible_decimal need, tt))
kind_visible (Spawned need) = (from_shown (codes "spawn") refl, (visible_decimal need, tt))

-- no LF

pub number_line_lacks : (start : List ℕ) (n : ℕ) → Lacks 10 start → Lacks 10 (start ++ canonical_decimal n)
number_line_lacks start n h = lacks-append 10 start (canonical_decimal n) h (visible_lacks 10 _ (omega arith) (visible_decimal n))

fields_line_lacks : (word : List ℕ) (fields : List (List ℕ)) → Lacks 10 word → AllByRecursion Visible fields → Lacks 10 (word ++ after_each 32 fields)
fields_line_lacks word fields h visible = lacks-append 10 word (after_each 32 fields) h (lacks_after_each 32 10 fields refl (all_lack 10 fields (omega arith) visible))

pub title_lacks : Lacks 10 title_line
title_lacks = from_unbroken title_line refl

pub chunk_lacks : (n : ℕ) → Lacks 10 (chunk_line n)
chunk_lacks n = number_line_lacks (codes "chunk ") n (from_unbroken (codes "chunk ") refl)

pub max_path_lacks : (n : ℕ) → Lacks 10 (max_path_line n)
max_path_lacks n = number_line_lacks (codes "max-path ") n (from_unbroken (codes "max-path ") refl)

pub functions_lacks : (n : ℕ) → Lacks 10 (functions_line n)
functions_lacks n = number_line_lacks (codes "functions ") n (from_unbroken (codes "functions ") refl)

pub sites_lacks : (n : ℕ) → Lacks 10 (sites_line n)
sites_lacks n = number_line_lacks (codes "sites ") n (from_unbroken (codes "sites ") refl)

pub function_lacks : (fact : FunctionFact) → Lacks 10 (function_line fact)
function_lacks fact = fields_line_lacks (codes "function") (map canonical_decimal (function_numbers fact)) (from_unbroken (codes "function") refl) (decimals_visible (function_numbers fact))

pub site_lacks : (fact : SiteFact) → Lacks 10 (site_line fact)
site_lacks fact =
    fields_line_lacks (codes "site") (canonical_decimal fact.number ∷ kind_fields fact.kind) (from_unbroken (codes "site") refl) (visible_decimal fact.number, kind_visible fact.kind)

-- the fields of a line

pub function_pieces : (fact : FunctionFact) → pieces 32 (function_line fact) ≡ codes "function" ∷ map canonical_decimal (function_numbers fact)
function_pieces fact =
    pieces_joined 32 (codes "function") (map canonical_decimal (function_numbers fact)) (visible_lacks 32 (codes "function") (omega arith) (from_shown (codes "function") refl))
    (all_lack 32 (map canonical_decimal (function_numbers fact)) (omega arith) (decimals_visible (function_numbers fact)))

pub site_pieces : (fact : SiteFact) → pieces 32 (site_line fact) ≡ codes "site" ∷ canonical_decimal fact.number ∷ kind_fields fact.kind
site_pieces fact =
    pieces_joined 32 (codes "site") (canonical_decimal fact.number ∷ kind_fields fact.kind) (visible_lacks 32 (codes "site") (omega arith) (from_shown (codes "site") refl))
    (all_lack 32 (canonical_decimal fact.number ∷ kind_fields fact.kind) (omega arith) (visible_decimal fact.number, kind_visible fact.kind))

-- one meaning

pub chunk_number : (m n : ℕ) → chunk_line m ≡ chunk_line n → m ≡ n
chunk_number m n e = decimal_unique m n (cc)

pub max_path_number : (m n : ℕ) → max_path_line m ≡ max_path_line n → m ≡ n
max_path_number m n e = decimal_unique m n (cc)

pub functions_number : (m n : ℕ) → functions_line m ≡ functions_line n → m ≡ n
functions_number m n e = decimal_unique m n (cc)

pub sites_number : (m n : ℕ) → sites_line m ≡ sites_line n → m ≡ n
sites_number m n e = decimal_unique m n (cc)

decimals_unique : (xs ys : List ℕ) → map canonical_decimal xs ≡ map canonical_decimal ys → xs ≡ ys
decimals_unique [] [] e = refl
decimals_unique (x ∷ xs) (y ∷ ys) e = let first = decimal_unique x y (cc) in let rest = decimals_unique xs ys (cc) in (λ i. first i ∷ rest i)
decimals_unique _ _ e = absurd (cc)

same_function : (f g : FunctionFact) → function_numbers f ≡ function_numbers g → f ≡ g
same_function f g e =
    let entry : f.entry ≡ g.entry = cc in
    let words : f.words ≡ g.words = cc in
    let frame : f.frame ≡ g.frame = cc in
    let ra : f.ra ≡ g.ra = cc in
    let bound : f.bound ≡ g.bound = cc in
    let places : f.places ≡ g.places = cc in
    λ i. record { entry = entry i; words = words i; frame = frame i; ra = ra i; bound = bound i; places = places i }

pub function_unique : (f g : FunctionFact) → function_line f ≡ function_line g → f ≡ g
function_unique f g e =
    let same = sym (function_pieces f) ∙ ap (pieces 32) e ∙ function_pieces g in
    let fields : map canonical_decimal (function_numbers f) ≡ map canonical_decimal (function_numbers g) = cc in
    same_function f g (decimals_unique (function_numbers f) (function_numbers g) fields)

-- the first letters of a word, which tell the kinds apart
abbrev sign : List (List ℕ) → ℕ
sign [] = 0
sign (word ∷ _) = get_or word 0 0

kind_unique : (x y : LinkKind) → kind_fields x ≡ kind_fields y → x ≡ y
kind_unique Plain Plain e = refl
kind_unique (Linked m) (Linked n) e = ap Linked (decimal_unique m n (cc))
kind_unique (Spawned m) (Spawned n) e = ap Spawned (decimal_unique m n (cc))
kind_unique x y e = absurd (omega (arith, ap sign e))

pub site_unique : (x y : SiteFact) → site_line x ≡ site_line y → x ≡ y
site_unique x y e =
    let same = sym (site_pieces x) ∙ ap (pieces 32) e ∙ site_pieces y in
    let number = decimal_unique x.number y.number (cc) in
    let kind = kind_unique x.kind y.kind (cc) in
    λ i. record { number = number i; kind = kind i }
