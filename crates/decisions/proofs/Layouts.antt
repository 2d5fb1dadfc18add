-- A planned program is laid out as some image and certificate.
use Rattle.decisions.proofs.Common.{◌≡◌, ℕ, List, [], ◌∷◌, ◌++◌, length, map, replicate, eqb, refl, ap, IsDistinct, filter_map, cons_option, flat_map, range_with_len, encoding, Op, FlatFunction, FlatCode, site_of, site_numbers, Plan, Image, Certificate, SiteFact, fact_at, Options, site_fact, site_facts, fact_of, IsCertificateOf, functions_before, IsPlanned, IsLaidOut, part-distinct}
use Rattle.decisions.proofs.Sorting.{in_order, strictly}
use Rattle.decisions.proofs.Parts.{IsPart, none, keep, skip, part_append}

abbrev numbers : List SiteFact → List ℕ
numbers facts = map (λ (fact : SiteFact). fact.number) facts

numbers_append : (xs ys : List SiteFact) → numbers (xs ++ ys) ≡ numbers xs ++ numbers ys
numbers_append [] ys = refl
numbers_append (x ∷ xs) ys = ap (λ (ns : List ℕ). x.number ∷ ns) (numbers_append xs ys)

module _ (code : FlatCode) (plan : Plan) where
  part_op : (op : Op) (facts : List SiteFact) (ns : List ℕ) → IsPart (numbers facts) ns → IsPart (numbers (cons_option (site_fact code plan op) facts)) (cons_option (site_of op) ns)
  part_op (Op.Call site d f args) facts ns part = keep part
  part_op (Op.CallTable site d t i s) facts ns part = keep part
  part_op (Op.Model site d n args) facts ns part = skip part
  part_op (Op.Spawn site d f s) facts ns part = keep part
  part_op _ facts ns part = part

  part_ops : (ops : List Op) → IsPart (numbers (filter_map (site_fact code plan) ops)) (filter_map site_of ops)
  part_ops [] = none
  part_ops (op ∷ ops) = part_op op (filter_map (site_fact code plan) ops) (filter_map site_of ops) (part_ops ops)

  part_functions : (fs : List FlatFunction) → IsPart (numbers (flat_map (λ (function : FlatFunction). filter_map (site_fact code plan) function.ops) fs)) (flat_map (λ (f : FlatFunction). filter_map site_of f.ops) fs)
  part_functions [] = none
  part_functions (f ∷ fs) =
      rw (numbers_append (filter_map (site_fact code plan) f.ops) (flat_map (λ (function : FlatFunction). filter_map (site_fact code plan) function.ops) fs))
      (part_append (part_ops f.ops) (part_functions fs))

  facts_distinct : IsDistinct eqb (site_numbers code) → IsDistinct eqb (numbers (site_facts code plan))
  facts_distinct distinct = part-distinct (numbers (site_facts code plan)) (site_numbers code) (part_functions code.functions) distinct

pub record ALayout (code : FlatCode) (options : Options) : Type 0 where
  pub image : Image
  pub certificate : Certificate
  pub is : IsLaidOut code options image certificate

with_certificate : (code : FlatCode) (options : Options) (plan : Plan) → IsPlanned code options.max_path plan → (c : Certificate) → IsCertificateOf code plan options c → ALayout code options
with_certificate code options plan planned c is = record {
  image = record {
    code = map encoding (functions_before code c (length code.functions));
    globals = flat_map (λ g. replicate g.words g.start) code.globals;
    tables = flat_map (map (λ f. (fact_at c f).entry)) code.tables;
    entries = map (λ fact. fact.entry) c.functions;
  };
  certificate = c;
  is = (plan, planned, is, record { words = refl; globals = refl; tables = refl; entries = refl });
}

pub a_layout : (code : FlatCode) (options : Options) (plan : Plan) → IsDistinct eqb (site_numbers code) → IsPlanned code options.max_path plan → ALayout code options
a_layout code options plan distinct planned =
    let o = in_order (λ (fact : SiteFact). fact.number) (site_facts code plan) (facts_distinct code plan distinct) in
    with_certificate code options plan planned
    (record { chunk = options.chunk; max_path = options.max_path; functions = map (fact_of code plan) (range_with_len 0 (length code.functions)); sites = o.items })
    (record { chunk = refl; max_path = refl; facts = record { functions = refl; sites = o.same; rising = strictly (λ (fact : SiteFact). fact.number) o.items o.rises } })
