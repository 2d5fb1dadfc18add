-- A placement has one pair.
use Rattle.std.specs.List.{AllByRecursion}
use Rattle.std.specs.List.Sorted.{IsStrictlyIncreasing}
use Rattle.capriccio_call.proofs.Common.{◌≡◌, ℕ, suc, ◌<◌, List, [], ◌∷◌, length, map, get_or, sym, subst, ◌∙◌, arith, length-map, FlatCode, Options, Certificate, Image, IsLaidOut}
use Rattle.std.proofs.lemmas.List.Kept.{AllPairs-from_increasing}
use Rattle.checkpoint_place.specs.declared.plans.Plan.{Plan}
use Rattle.codegen_link.specs.Layout.{IsCertificateOf, IsImageOf}
use Rattle.codegen_link.specs.Links.{site_facts}
use Rattle.stack_certificate.specs.declared.sites.SiteFact.{SiteFact}
use Rattle.one_plan.proofs.RisingLists.{Rises, orders-are-one}

later-all : (n : ℕ) (facts : List SiteFact) → ((k : ℕ) → k < length facts → n < get_or (map (λ (fact : SiteFact). fact.number) facts) k 0) → AllByRecursion (λ (fact : SiteFact). n < fact.number) facts
later-all n [] above = tt
later-all n (fact ∷ facts) above = (above 0 (omega arith), later-all n facts (λ k h. above (suc k) (omega arith)))

abbrev Apart : List ℕ → Type 0
Apart xs = (i j : ℕ) → i < j → j < length xs → get_or xs i 0 < get_or xs j 0

rises-apart : (facts : List SiteFact) → Apart (map (λ (fact : SiteFact). fact.number) facts) → Rises (λ (fact : SiteFact). fact.number) facts
rises-apart [] apart = tt
rises-apart (fact ∷ facts) apart = (
  later-all fact.number facts (λ k h. apart 0 (suc k) (omega arith) (let e = length-map facts (λ (x : SiteFact). x.number) in omega (arith, e))),
  rises-apart facts (λ i j lt within. apart (suc i) (suc j) (omega arith) (omega arith)),
)

rises-from : (facts : List SiteFact) → IsStrictlyIncreasing (map (λ (fact : SiteFact). fact.number) facts) → Rises (λ (fact : SiteFact). fact.number) facts
rises-from facts up = rises-apart facts (λ i j lt within. AllPairs-from_increasing (map (λ (fact : SiteFact). fact.number) facts) up i j 0 lt within)

certificates-are-one : (code : FlatCode) (plan : Plan) (options : Options) (a b : Certificate) → IsCertificateOf code plan options a → IsCertificateOf code plan options b → a ≡ b
certificates-are-one code plan options a b p q =
    let chunk : a.chunk ≡ b.chunk = p.chunk ∙ sym q.chunk in
    let path : a.max_path ≡ b.max_path = p.max_path ∙ sym q.max_path in
    let functions : a.functions ≡ b.functions = p.facts.functions ∙ sym q.facts.functions in
    let sites : a.sites ≡ b.sites = orders-are-one (λ (fact : SiteFact). fact.number) (site_facts code plan) a.sites b.sites p.facts.sites q.facts.sites (rises-from a.sites p.facts.rising) (rises-from b.sites q.facts.rising) in
    λ k. record { chunk = chunk k; max_path = path k; functions = functions k; sites = sites k }

images-are-one : (code : FlatCode) (c : Certificate) (a b : Image) → IsImageOf code c a → IsImageOf code c b → a ≡ b
images-are-one code c a b p q =
    let words : a.code ≡ b.code = p.words ∙ sym q.words in
    let globals : a.globals ≡ b.globals = p.globals ∙ sym q.globals in
    let tables : a.tables ≡ b.tables = p.tables ∙ sym q.tables in
    let entries : a.entries ≡ b.entries = p.entries ∙ sym q.entries in
    λ k. record { code = words k; globals = globals k; tables = tables k; entries = entries k }

-- two pairs that are laid out for one placement are one
pub pairs-are-one : (code : FlatCode) (options : Options) (i j : Image) (c d : Certificate) (h : IsLaidOut code options i c) (k : IsLaidOut code options j d) → h.0 ≡ k.0 → (i ≡ j) × (c ≡ d)
pairs-are-one code options i j c d h k same =
    let first : IsCertificateOf code k.0 options c = subst (λ (plan : Plan). IsCertificateOf code plan options c) same h.2 in
    let certificates : c ≡ d = certificates-are-one code k.0 options c d first k.2 in
    let image : IsImageOf code d i = subst (λ (x : Certificate). IsImageOf code x i) certificates h.3 in
    (images-are-one code d i j image k.3, certificates)
