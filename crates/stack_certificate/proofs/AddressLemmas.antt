-- Sums of the words before an operation, a global or a table.
use Rattle.stack_certificate.proofs.Common.{◌≡◌, ℕ, ◌+◌, ◌<◌, ◌≤◌, List, length, map, take, arith, sym, ap, subst, ◌∙◌, Option, Some, slice_index_or, sum, sum_by, sum_by_more, sum_by_more_le, sum-map, slice_get-get_or, slice_get_within, Op, FlatCode, function_at, operation_at, kind_of, size, size_at, words_before}
use Rattle.stack_certificate.specs.declared.certificates.Certificate.{Certificate}

-- a sum grows by the next element, and stays within a bound of the whole
pub sum_step : {X : Type 0} (f : X → ℕ) (xs : List X) (i : ℕ) (x : X) → i < length xs → x ≡ slice_index_or xs i x → sum_by f (take i xs) + f x ≡ sum_by f (take (i + 1) xs)
sum_step f xs i x lt e = sym (sum_by_more f xs i x lt ∙ ap (λ y. sum_by f (take i xs) + f y) (sym e))

pub sum_room : {X : Type 0} (f : X → ℕ) (xs : List X) (i : ℕ) (x : X) (most : ℕ) → i < length xs → x ≡ slice_index_or xs i x → sum (map f xs) ≤ most → sum_by f (take i xs) + f x ≤ most
sum_room f xs i x most lt e h =
    let whole : sum_by f xs ≤ most = subst (λ n. n ≤ most) (sum-map f xs) h in
    let next : sum_by f (take i xs) + f (slice_index_or xs i x) ≤ sum_by f xs = sum_by_more_le f xs i x lt in
    let part : sum_by f (take i xs) + f x ≤ sum_by f xs = subst (λ y. sum_by f (take i xs) + f y ≤ sum_by f xs) (sym e) next in
    omega arith

-- one more operation
sized : (sizes : List ℕ) (certificate : Certificate) (op : Op) (o : Option Op) → Some op ≡ o → size sizes (kind_of certificate op) op ≡ size_at sizes (kind_of certificate op) o
sized sizes certificate op o e = ap (λ p. size_at sizes (kind_of certificate op) p) e

regroup : (a s t w more : ℕ) → s + w ≡ more → w ≡ t → a + s + t ≡ a + more
regroup a s t w more step here = omega arith

pub words_step : (code : FlatCode) (certificate : Certificate) (f i : ℕ) (op : Op) → Some op ≡ operation_at code f i →
    words_before code certificate f i + size_at (function_at code f).sizes (kind_of certificate op) (operation_at code f i) ≡ words_before code certificate f (i + 1)
words_step code certificate f i op e =
    let lt : i < length (function_at code f).ops = slice_get_within (function_at code f).ops i op (sym e) in
    let there : Some op ≡ Some (slice_index_or (function_at code f).ops i op) = e ∙ slice_get-get_or (function_at code f).ops i op lt in
    let same : op ≡ slice_index_or (function_at code f).ops i op = cc in
    let weight : Op → ℕ = λ o. size (function_at code f).sizes (kind_of certificate o) o in
    let step : sum_by weight (take i (function_at code f).ops) + weight op ≡ sum_by weight (take (i + 1) (function_at code f).ops) = sum_step weight (function_at code f).ops i op lt same in
    let here : weight op ≡ size_at (function_at code f).sizes (kind_of certificate op) (operation_at code f i) = sized (function_at code f).sizes certificate op _ e in
    regroup (2 + (function_at code f).params) _ _ _ _ step here
