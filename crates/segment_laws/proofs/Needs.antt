-- What a linked call and a new thread need fits a chunk.
use Rattle.segment_laws.proofs.Common.{◌≡◌, ℕ, ◌+◌, ◌<◌, ◌≤◌, List, [], ◌∷◌, length, map, Option, Some, true, refl, ◌∙◌, subst, arith, false≢true, AllByRecursion, length-map, Op, FlatCode, function_at, operation_at, members_of, signature_of, IsOperation, IsFunction, IsWellFormed, context_of, IsMember, IsTable, Image, Certificate, LinkKind, fact_at, need_of, kind_of, IsNeed, certified_site, greatest_bound, callee_bound, is_spawned, IsValid, Calls, Checked}
use Rattle.segment_laws.proofs.StandingCode.{all_at, all_index}

-- with the header of 16 bytes
pub record NeedsFit (c : Checked) : Type 0 where
  pub linked : (f i g need : ℕ) (op : Op) → f < length c.flat.functions → operation_at c.flat f i ≡ Some op → Calls c.flat op g → kind_of c.certificate op ≡ LinkKind.Linked need → need + 16 ≤ c.certificate.chunk
  pub spawned : (f i site g x : ℕ) (d : Option ℕ) → f < length c.flat.functions → operation_at c.flat f i ≡ Some (Op.Spawn site d g x) → need_of (kind_of c.certificate (Op.Spawn site d g x)) + 16 ≤ c.certificate.chunk
  pub spawned_is : (f i site g x : ℕ) (d : Option ℕ) → f < length c.flat.functions → operation_at c.flat f i ≡ Some (Op.Spawn site d g x) → need_of (kind_of c.certificate (Op.Spawn site d g x)) ≡ (fact_at c.certificate g).bound
  pub bound : (f : ℕ) → f < length c.flat.functions → (fact_at c.certificate f).bound + 16 ≤ c.certificate.chunk
  pub chunk : c.certificate.chunk ≤ 65536

-- an operation that calls has a site
site_known : (code : FlatCode) (op : Op) (g : ℕ) → Calls code op g → (site : ℕ) × (certified_site op ≡ Some site)
site_known code (Op.Call site d h args) g calls = (site, refl)
site_known code (Op.CallTable site d t k s) g calls = (site, refl)
site_known code _ g calls = absurd calls

module _ (code : FlatCode) (image : Image) (certificate : Certificate) (formed : IsWellFormed code) (valid : IsValid code image certificate) where
  bound_within : (f : ℕ) → f < length code.functions → (fact_at certificate f).bound ≤ certificate.max_path
  bound_within f lt = ((valid.holds 11 f 2).v11 refl).bound refl lt

  greatest_within : (xs : List ℕ) → AllByRecursion (λ f. f < length code.functions) xs → greatest_bound certificate xs ≤ certificate.max_path
  greatest_within [] h = omega arith
  greatest_within (x ∷ xs) h = omega (arith, bound_within x h.0, greatest_within xs h.1)

  members_known : (xs : List ℕ) → AllByRecursion (IsMember (map signature_of code.functions)) xs → AllByRecursion (λ f. f < length code.functions) xs
  members_known [] h = tt
  members_known (x ∷ xs) h = (omega (arith, h.0.0, length-map code.functions signature_of), members_known xs h.1)

  within : (f : ℕ) (op : Op) → IsOperation (context_of code (function_at code f)) op → callee_bound code certificate op ≤ certificate.max_path
  within f (Op.Call site d h args) is = greatest_within (h ∷ []) (omega (arith, is.0, length-map code.functions signature_of), tt)
  within f (Op.CallTable site d t k s) is = greatest_within (members_of code t) (members_known (members_of code t) (all_index (IsTable (map signature_of code.functions)) code.tables t [] formed.tables is.0).1)
  within f (Op.Spawn site d h s) is = greatest_within (h ∷ []) (omega (arith, is.0, length-map code.functions signature_of), tt)
  within f _ is = omega arith

  callees_within : (f i : ℕ) (op : Op) → f < length code.functions → operation_at code f i ≡ Some op → callee_bound code certificate op ≤ certificate.max_path
  callees_within f i op lt there = within f op (all_at (IsOperation (context_of code (function_at code f))) (function_at code f).ops i op (all_index (IsFunction code) code.functions f _ formed.functions lt).ops there)

  path : certificate.max_path + 16 ≤ certificate.chunk
  path = ((valid.holds 11 0 3).v11 refl).path refl

  needed : (kind : LinkKind) (bytes : ℕ) → IsNeed kind bytes → need_of kind ≤ bytes
  needed LinkKind.Plain bytes is = omega arith
  needed _ bytes is = omega (arith, is)

  of_spawned : (kind : LinkKind) (bytes : ℕ) → is_spawned kind ≡ true → IsNeed kind bytes → need_of kind ≡ bytes
  of_spawned (LinkKind.Spawned need) bytes e is = is
  of_spawned _ bytes e is = absurd (false≢true e)

  -- a new thread needs the bound of its function
  spawn_need : (f i site g x : ℕ) (d : Option ℕ) → f < length code.functions → operation_at code f i ≡ Some (Op.Spawn site d g x) → need_of (kind_of certificate (Op.Spawn site d g x)) ≡ (fact_at certificate g).bound
  spawn_need f i site g x d lt there =
      let op : Op = Op.Spawn site d g x in
      let each = (((valid.holds 1 f 5).v1 refl).sites refl).each f i site op there refl in
      let need = of_spawned (kind_of certificate op) (callee_bound code certificate op) each.1 (((valid.holds 9 f site).v9 refl).need i op there refl) in
      let one : callee_bound code certificate op ≡ (fact_at certificate g).bound = omega arith in
      need ∙ one

  -- a need is no more than the longest path
  pub need_path : (f i site : ℕ) (op : Op) → f < length code.functions → operation_at code f i ≡ Some op → certified_site op ≡ Some site → need_of (kind_of certificate op) ≤ certificate.max_path
  need_path f i site op lt there site_is =
      let need = needed (kind_of certificate op) (callee_bound code certificate op) (((valid.holds 9 f site).v9 refl).need i op there site_is) in
      omega (arith, need, callees_within f i op lt there)

  need_within : (f i site : ℕ) (op : Op) → f < length code.functions → operation_at code f i ≡ Some op → certified_site op ≡ Some site → need_of (kind_of certificate op) + 16 ≤ certificate.chunk
  need_within f i site op lt there site_is =
      omega (arith, need_path f i site op lt there site_is, path)

  pub NeedsFit-valid : NeedsFit (record { flat = code; certificate = certificate })
  NeedsFit-valid = record {
    linked = λ f i g need op lt there calls linked. let site = site_known code op g calls in subst (λ (kind : LinkKind). need_of kind + 16 ≤ certificate.chunk) linked (need_within f i site.0 op lt there site.1);
    spawned = λ f i site g x d lt there. need_within f i site (Op.Spawn site d g x) lt there refl;
    spawned_is = spawn_need;
    bound = λ f lt. omega (arith, bound_within f lt, path);
    chunk = (((valid.holds 1 0 1).v1 refl).chunk refl).2;
  }
