-- The rules of a certificate give what the laws of calls take.
use Rattle.segment_laws.proofs.Common.{◌≡◌, ℕ, zero, suc, ◌<◌, ◌≤◌, true, false, List, [], ◌∷◌, length, map, take, replicate, get_or, Some, refl, sym, ap, subst, ◌∙◌, arith, ⊎_elim, Contains, slice_index_or, AllByRecursion, cases_lt, length-map, get_or-map, FlatFunction, Op, FlatCode, function_at, operation_at, members_of, signature_of, IsOperation, IsFunction, IsWellFormed, context_of, Signature, signature_at, IsMember, IsTable, Image, Certificate, LinkKind, fact_at, kind_of, IsNeed, certified_site, greatest_bound, callee_bound, is_spawned, starts_thread, IsValid, Calls, EntryFacts, CallFacts}
use Rattle.segment_laws.proofs.StandingCode.{all_at, all_index}

take_ones : (n : ℕ) (sizes : List ℕ) (x : ℕ) → take n sizes ≡ replicate n 1 → x < n → (x < length sizes) × (get_or sizes x 0 ≡ 1)
take_ones zero sizes x e lt = absurd (omega arith)
take_ones (suc n) [] x e lt = absurd cc
take_ones (suc n) (s ∷ sizes) zero e lt = let one : s ≡ 1 = cc in (omega arith, one)
take_ones (suc n) (s ∷ sizes) (suc x) e lt = let rest : take n sizes ≡ replicate n 1 = cc in let h = take_ones n sizes x rest (omega arith) in (omega (arith, h.0), h.1)

in_greatest : (certificate : Certificate) (xs : List ℕ) (k g : ℕ) → k < length xs → get_or xs k g ≡ g → (fact_at certificate g).bound ≤ greatest_bound certificate xs
in_greatest certificate [] k g lt e = absurd (omega arith)
in_greatest certificate (x ∷ xs) zero g lt e = let same : (fact_at certificate x).bound ≡ (fact_at certificate g).bound = ap (λ (f : ℕ). (fact_at certificate f).bound) e in omega (arith, same)
in_greatest certificate (x ∷ xs) (suc k) g lt e = omega (arith, in_greatest certificate xs k g (omega arith) e)

-- the site of a call
record IsCallAt (code : FlatCode) (certificate : Certificate) (op : Op) (g : ℕ) : Type 0 where
  site : ℕ
  site_is : certified_site op ≡ Some site
  plain_start : starts_thread op ≡ false
  bound : (fact_at certificate g).bound ≤ callee_bound code certificate op

call_at : (code : FlatCode) (certificate : Certificate) (op : Op) (g : ℕ) → Calls code op g → IsCallAt code certificate op g
call_at code certificate (Op.Call site d h args) g calls = record { site = site; site_is = refl; plain_start = refl; bound = in_greatest certificate (h ∷ []) 0 g (omega arith) calls }
call_at code certificate (Op.CallTable site d t i s) g calls = record { site = site; site_is = refl; plain_start = refl; bound = in_greatest certificate (members_of code t) calls.0 g calls.1 calls.2 }
call_at code certificate _ g calls = absurd calls

module _ (code : FlatCode) (image : Image) (certificate : Certificate) (formed : IsWellFormed code) (valid : IsValid code image certificate) where
  entry_facts : (f : ℕ) → f < length code.functions → EntryFacts (record { flat = code; certificate = certificate }) f
  entry_facts f lt =
      let function : IsFunction code (function_at code f) = all_index (IsFunction code) code.functions f _ formed.functions lt in
      let inside = ((valid.holds 2 f 1).v2 refl).inside refl lt in
      let count = ((valid.holds 1 f 2).v1 refl).words refl in
      let over = ((valid.holds 6 f (length (function_at code f).ops)).v6 refl).over lt refl in
      record {
        bound = ((valid.holds 11 f 1).v11 refl).frame refl lt;
        low = inside.1;
        room = omega (arith, inside.2, count.1, over);
        most = function.params;
        parameter = λ x small. take_ones (function_at code f).params (function_at code f).sizes x function.parameters small;
      }

  bound_small : (f : ℕ) → f < length code.functions → (fact_at certificate f).bound ≤ 65536
  bound_small f lt =
      let bound = ((valid.holds 11 f 2).v11 refl).bound refl lt in
      let path = ((valid.holds 11 f 3).v11 refl).path refl in
      let chunk = ((valid.holds 1 f 1).v1 refl).chunk refl in
      omega (arith, bound, path, chunk.2)

  greatest_small : (xs : List ℕ) → AllByRecursion (λ f. f < length code.functions) xs → greatest_bound certificate xs ≤ 65536
  greatest_small [] h = omega arith
  greatest_small (x ∷ xs) h = omega (arith, bound_small x h.0, greatest_small xs h.1)

  members_known : (xs : List ℕ) → AllByRecursion (IsMember (map signature_of code.functions)) xs → AllByRecursion (λ f. f < length code.functions) xs
  members_known [] h = tt
  members_known (x ∷ xs) h = (omega (arith, h.0.0, length-map code.functions signature_of), members_known xs h.1)

  callees_small : (f i g : ℕ) (op : Op) → f < length code.functions → operation_at code f i ≡ Some op → Calls code op g → callee_bound code certificate op ≤ 65536
  callees_small f i g op lt there calls = by op (all_at (IsOperation (context_of code (function_at code f))) (function_at code f).ops i op (all_index (IsFunction code) code.functions f _ formed.functions lt).ops there) calls
    where
      by : (op : Op) → IsOperation (context_of code (function_at code f)) op → Calls code op g → callee_bound code certificate op ≤ 65536
      by (Op.Call site d h args) is calls = greatest_small (h ∷ []) (omega (arith, is.0, length-map code.functions signature_of), tt)
      by (Op.CallTable site d t k s) is calls = greatest_small (members_of code t) (members_known (members_of code t) (all_index (IsTable (map signature_of code.functions)) code.tables t [] formed.tables is.0).1)
      by (Op.Const x v) is calls = absurd calls
      by (Op.Copy x s) is calls = absurd calls
      by (Op.Neg x s) is calls = absurd calls
      by (Op.Not x s) is calls = absurd calls
      by (Op.Flip x s) is calls = absurd calls
      by (Op.Bin b x y z) is calls = absurd calls
      by (Op.Zero a) is calls = absurd calls
      by (Op.LoadGlobal x h) is calls = absurd calls
      by (Op.StoreGlobal h s) is calls = absurd calls
      by (Op.LoadLocal x a k) is calls = absurd calls
      by (Op.LoadArray x a k) is calls = absurd calls
      by (Op.StoreLocal a k s) is calls = absurd calls
      by (Op.StoreArray a k s) is calls = absurd calls
      by (Op.Jump to) is calls = absurd calls
      by (Op.JumpZero s to) is calls = absurd calls
      by (Op.Model site to n args) is calls = absurd calls
      by (Op.Spawn site to h s) is calls = absurd calls
      by (Op.Return s) is calls = absurd calls

  need_is : (f i g need : ℕ) (op : Op) → operation_at code f i ≡ Some op → Calls code op g → kind_of certificate op ≡ LinkKind.Linked need → need ≡ callee_bound code certificate op
  need_is f i g need op there calls linked =
      let at = call_at code certificate op g calls in
      subst (λ (kind : LinkKind). IsNeed kind (callee_bound code certificate op)) linked (((valid.holds 9 f at.site).v9 refl).need i op there at.site_is)

  gives_of : (g : ℕ) → g < length (map signature_of code.functions) → (signature_at (map signature_of code.functions) g).gives ≡ (function_at code g).gives
  gives_of g lt =
      let there : g < length code.functions = omega (arith, length-map code.functions signature_of) in
      let default : FlatFunction = record { params = 0; gives = false; sizes = []; ops = [] } in
      ap (λ (s : Signature). s.gives) (get_or-map signature_of code.functions g default (record { params = 0; gives = false }) there)

  member_in : (xs : List ℕ) (k g : ℕ) → AllByRecursion (IsMember (map signature_of code.functions)) xs → k < length xs → get_or xs k g ≡ g → IsMember (map signature_of code.functions) g
  member_in [] k g h lt e = absurd (omega arith)
  member_in (x ∷ xs) zero g h lt e = subst (IsMember (map signature_of code.functions)) e h.0
  member_in (x ∷ xs) (suc k) g h lt e = member_in xs k g h.1 (omega arith) e

  past : (tables : List (List ℕ)) (t : ℕ) → length tables ≤ t → slice_index_or tables t [] ≡ []
  past [] t le = refl
  past (x ∷ tables) zero le = absurd (omega arith)
  past (x ∷ tables) (suc t) le = past tables t (omega arith)

  members_give : (t g : ℕ) → Contains (members_of code t) g → (function_at code g).gives ≡ true
  members_give t g in_ = ⊎_elim
      (λ (lt : t < length code.tables).
      let member = member_in (members_of code t) in_.0 g (all_index (IsTable (map signature_of code.functions)) code.tables t [] formed.tables lt).1 in_.1 in_.2 in
      sym (gives_of g member.0) ∙ member.2)
      (λ (ge : length code.tables ≤ t). let none : length (members_of code t) ≡ 0 = ap length (past code.tables t ge) in absurd (omega (arith, in_.1, none)))
      (cases_lt t (length code.tables))

pub CallFacts-valid : (code : FlatCode) (image : Image) (certificate : Certificate) → IsWellFormed code → IsValid code image certificate → CallFacts (record { flat = code; certificate = certificate })
CallFacts-valid code image certificate formed valid = record {
  entries = entry_facts code image certificate formed valid;
  aligned = λ f lt. (((valid.holds 2 f 1).v2 refl).inside refl lt).0;
  plain = λ f i g op lt there calls plain.
      let at = call_at code certificate op g calls in
      let rule = ((valid.holds 10 f at.site).v10 refl).bound i op there at.site_is plain in
      omega (arith, at.bound, rule);
  linked = λ f i g need op lt there calls linked. omega (arith, (call_at code certificate op g calls).bound, need_is code image certificate formed valid f i g need op there calls linked);
  not_spawned = λ f i g need op lt there calls spawned.
      let at = call_at code certificate op g calls in
      let each = (((valid.holds 1 f 5).v1 refl).sites refl).each f i at.site op there at.site_is in
      let both : true ≡ false = sym (ap is_spawned spawned) ∙ each.1 ∙ at.plain_start in cc;
  need_small = λ f i g need op lt there calls linked. omega (arith, callees_small code image certificate formed valid f i g op lt there calls, need_is code image certificate formed valid f i g need op there calls linked);
  members_give = members_give code image certificate formed valid;
}
