-- Where an address stands in the code of a valid pair: in one function, and there in one operation.
use Rattle.segment_run.proofs.Common.{◌≡◌, ℕ, zero, suc, ◌+◌, ◌-◌, ◌<◌, ◌≤◌, List, [], ◌∷◌, length, get_or, Option, Some, None, slice_get, refl, sym, ap, subst, ◌∙◌, arith, ⊎_elim, cases_eq, cases_lt, FlatCode, function_at, operation_at, site_of, Op, Image, fact_at, words_before, size, size_at, kind_of, Certificate, IsValid, site_in, Checked, InOperation, IsAt, size_in, one_place, StandsIn, HasEntry, IsInCall, slice_get_within}
use Rattle.stack_certificate.proofs.AddressLemmas.{words_step}

-- an operation of a function, and the words before it and behind it
pub record HasWord (c : Checked) (address f i word : ℕ) : Type 0 where
  pub op : Op
  pub there : operation_at c.flat f i ≡ Some op
  pub inside : i < length (function_at c.flat f).ops
  pub next : words_before c.flat c.certificate f i + size (function_at c.flat f).sizes (kind_of c.certificate op) op ≡ words_before c.flat c.certificate f (i + 1)
  pub small : word < size (function_at c.flat f).sizes (kind_of c.certificate op) op

next_words : (c : Checked) (f i : ℕ) (op : Op) → operation_at c.flat f i ≡ Some op
    → words_before c.flat c.certificate f i + size (function_at c.flat f).sizes (kind_of c.certificate op) op ≡ words_before c.flat c.certificate f (i + 1)
next_words c f i op is =
    ap (λ (o : Option Op). words_before c.flat c.certificate f i + size_at (function_at c.flat f).sizes (kind_of c.certificate op) o) (sym is) ∙ words_step c.flat c.certificate f i op (sym is)

has_word_of : (c : Checked) (address f i word : ℕ) (found : Option Op) → operation_at c.flat f i ≡ found → word < size_in c f found → HasWord c address f i word
has_word_of c address f i word None is small = absurd (omega arith)
has_word_of c address f i word (Some op) is small =
    record { op = op; there = is; inside = slice_get_within (function_at c.flat f).ops i op is; next = next_words c f i op is; small = small }

pub has_word : (c : Checked) (address f i word : ℕ) → IsAt c address (InOperation f i word) → HasWord c address f i word
has_word c address f i word at = has_word_of c address f i word (operation_at c.flat f i) refl at.1

module _ (flat : FlatCode) (image : Image) (certificate : Certificate) (valid : IsValid flat image certificate) where
  abbrev c : Checked
  c = record { flat = flat; certificate = certificate }

  pub same_count : length certificate.functions ≡ length flat.functions
  same_count = (((valid.holds 1 0 3).v1 refl).functions refl).0

  pub stands_in : (address f i word : ℕ) → IsAt c address (InOperation f i word) → StandsIn certificate address f
  stands_in address f i word at =
      let has = has_word c address f i word at in
      let inside : words_before flat certificate f (i + 1) ≤ (fact_at certificate f).words = ((valid.holds 6 f i).v6 refl).inside at.0 has.inside in
      record { there = omega (arith, at.0, same_count); low = omega (arith, at.2); high = omega (arith, at.2, has.next, has.small, inside) }

  pub one_function : (address f g : ℕ) → StandsIn certificate address f → StandsIn certificate address g → f ≡ g
  one_function address f g first second = ⊎_elim (λ (same : f ≡ g). same)
      (λ (apart : f ≡ g → ⊥). absurd (⊎_elim
      (λ (lower : g < f). (((valid.holds 2 f 3).v2 refl).apart refl (omega (arith, first.there, same_count)) g lower).no_byte address (first.low, first.high) (second.low, second.high))
      (λ (upper : f ≤ g). (((valid.holds 2 g 3).v2 refl).apart refl (omega (arith, second.there, same_count)) f (omega (arith, upper, apart))).no_byte address (second.low, second.high) (first.low, first.high))
      (cases_lt g f)))
      (cases_eq f g)

  -- the function that begins at an address, which is among its words
  pub entry_stands : (entry f : ℕ) → HasEntry certificate entry f → StandsIn certificate entry f
  entry_stands entry f has =
      let over : words_before flat certificate f (length (function_at flat f).ops) ≡ (fact_at certificate f).words = ((valid.holds 6 f (length (function_at flat f).ops)).v6 refl).over (omega (arith, has.there, same_count)) refl in
      record { there = has.there; low = omega (arith, has.entry_is); high = omega (arith, has.entry_is, over) }

  pub entry_of : (entry f g : ℕ) → HasEntry certificate entry f → StandsIn certificate entry g → HasEntry certificate entry g
  entry_of entry f g has stands = subst (HasEntry certificate entry) (one_function entry f g (entry_stands entry f has) stands) has

  -- the words before the first operation are not more than those before another
  pub first_words : (f i : ℕ) → words_before flat certificate f 0 ≤ words_before flat certificate f i
  first_words f i = omega arith

  -- the operation whose words a word of a function is among
  pub one_operation : (address f i j word : ℕ) (op : Op) → IsAt c address (InOperation f i word) → operation_at flat f j ≡ Some op
      → words_before flat certificate f j ≤ words_before flat certificate f i + word → words_before flat certificate f i + word < words_before flat certificate f (j + 1) → j ≡ i
  one_operation address f i j word op at there low high =
      let next = next_words c f j op there in
      let v : ℕ = words_before flat certificate f i + word - words_before flat certificate f j in
      let small : v < size (function_at flat f).sizes (kind_of certificate op) op = omega (arith, next, low, high) in
      let too : IsAt c address (InOperation f j v) = (at.0, subst (λ (o : Option Op). v < size_in c f o) (sym there) small, omega (arith, at.2, low)) in
      let same : InOperation f j v ≡ InOperation f i word = one_place flat image certificate address (InOperation f j v) (InOperation f i word) valid too at in
      cc

  -- and no operation is past the last
  pub not_past : (address f i word : ℕ) → IsAt c address (InOperation f i word) → words_before flat certificate f i + word < words_before flat certificate f (length (function_at flat f).ops)
  not_past address f i word at =
      let has = has_word c address f i word at in
      let inside : words_before flat certificate f (i + 1) ≤ (fact_at certificate f).words = ((valid.holds 6 f i).v6 refl).inside at.0 has.inside in
      let over : words_before flat certificate f (length (function_at flat f).ops) ≡ (fact_at certificate f).words = ((valid.holds 6 f (length (function_at flat f).ops)).v6 refl).over at.0 refl in
      omega (arith, has.next, has.small, inside, over)

-- what is read of an operation
pub at_index : {X : Type 0} (xs : List X) (j : ℕ) (x : X) → j < length xs → x ≡ get_or xs j x → slice_get xs j ≡ Some x
at_index [] j x small is = absurd (omega arith)
at_index (y ∷ xs) zero x small is = ap Some (sym is)
at_index (y ∷ xs) (suc j) x small is = at_index xs j x (omega arith) is

pub read_operation : (flat : FlatCode) (f j : ℕ) (ops : List Op) (op : Op) → ops ≡ (function_at flat f).ops → j < length ops → op ≡ get_or ops j op → operation_at flat f j ≡ Some op
read_operation flat f j ops op are small is = ap (λ (xs : List Op). slice_get xs j) (sym are) ∙ at_index ops j op small is

-- the site of a call that is read
pub read_site : (c : Checked) (address f g j site : ℕ) (op : Op) (call : IsInCall c address g site) → f ≡ g → j ≡ call.operation → operation_at c.flat f j ≡ Some op → site_of op ≡ Some site
read_site c address f g j site op call function operation is =
    let there : operation_at c.flat g call.operation ≡ Some op = (λ i. operation_at c.flat (sym function i) (sym operation i)) ∙ is in
    ap site_in (sym there) ∙ call.site_is

pub read_at : (c : Checked) (address f g i word : ℕ) → f ≡ g → IsAt c address (InOperation g i word) → IsAt c address (InOperation f i word)
read_at c address f g i word same at = subst (λ (h : ℕ). IsAt c address (InOperation h i word)) (sym same) at
