-- What a list up to an element becomes with that element.
use Rattle.codegen_link.proofs.Common.{◌≡◌, ℕ, zero, suc, ◌+◌, ◌<◌, ◌≤◌, List, [], ◌∷◌, ◌++◌, length, map, take, Option, Some, None, refl, sym, ap, subst, ◌∙◌, append_assoc, arith, slice_get, slice_index_or, filter_map, sum_by, IsSome, cons_option, take_more, take_all, map_more, map-append, filter_map-append, sum_by_more, slice_get_within, slice_get-get_or, get_or_from_slice_get, IsInRange, encoding, Instr, IsWordOf}
use Rattle.codegen_link.proofs.InstructionLemmas.{Fit}

pub take-step : {X : Type 0} (xs : List X) (i : ℕ) (x : X) → slice_get xs i ≡ Some x → take (i + 1) xs ≡ take i xs ++ x ∷ []
take-step xs i x e = take_more xs i x (slice_get_within xs i x e) ∙ ap (λ y. take i xs ++ y ∷ []) (get_or_from_slice_get xs i x x e)

pub filter-step : {X Y : Type 0} (h : X → Option Y) (xs : List X) (i : ℕ) (x : X) → slice_get xs i ≡ Some x →
    filter_map h (take (i + 1) xs) ≡ filter_map h (take i xs) ++ cons_option (h x) []
filter-step h xs i x e = ap (λ ys. filter_map h ys) (take-step xs i x e) ∙ filter_map-append h (take i xs) (x ∷ [])

pub sum-step : {X : Type 0} (f : X → ℕ) (xs : List X) (i : ℕ) (x : X) → slice_get xs i ≡ Some x → sum_by f (take (i + 1) xs) ≡ sum_by f (take i xs) + f x
sum-step f xs i x e = sum_by_more f xs i x (slice_get_within xs i x e) ∙ ap (λ y. sum_by f (take i xs) + f y) (get_or_from_slice_get xs i x x e)

pub grows : (w p s more x y : ℕ) → w ≡ p + s → x ≡ y → more ≡ s + y → w + x ≡ p + more
grows w p s more x y before same step = omega arith

-- ---- words that are made of a list of instructions

pub fits-at : (L : List Instr) (w : ℕ) (x : Instr) → Fit L → slice_get L w ≡ Some x → IsInRange x
fits-at [] w x all e = cc
fits-at (y ∷ L) zero x all e = let same : y ≡ x = cc in subst IsInRange same all.0
fits-at (y ∷ L) (suc w) x all e = fits-at L w x all.1 e

word-of : (x : Instr) (r : Option ℕ) → IsInRange x → IsWordOf (Some x) r → r ≡ Some (encoding x)
word-of x None fits is = absurd (is fits)
word-of x (Some v) fits is = ap (λ n. Some n) is.1

-- there is a word of each instruction that fits
pub word-there : (L : List Instr) (w : ℕ) (d : Instr) (r : Option ℕ) → Fit L → w < length L → IsWordOf (slice_get L w) r → r ≡ Some (encoding (slice_index_or L w d))
word-there L w d r all lt is =
    let e : slice_get L w ≡ Some (slice_index_or L w d) = slice_get-get_or L w d lt in
    word-of (slice_index_or L w d) r (fits-at L w (slice_index_or L w d) all e) (subst (λ o. IsWordOf o r) e is)

is-some : (r : Option ℕ) (v : ℕ) → r ≡ Some v → IsSome r
is-some r v e = rw e refl

pub some-word : (L : List Instr) (w : ℕ) (r : Option ℕ) → Fit L → w < length L → IsWordOf (slice_get L w) r → IsSome r
some-word L w r all lt is = is-some r (encoding (slice_index_or L w Instr.Ecall)) (word-there L w Instr.Ecall r all lt is)

-- one more word
pub emitted : (old code next : List ℕ) (L : List Instr) (w : ℕ) (r : Option ℕ) (v : ℕ) → Fit L → w < length L → IsWordOf (slice_get L w) r → r ≡ Some v →
    code ≡ old ++ map encoding (take w L) → next ≡ code ++ v ∷ [] → next ≡ old ++ map encoding (take (w + 1) L)
emitted old code next L w r v all lt is some before after =
    let there = word-there L w Instr.Ecall r all lt is in
    let same : v ≡ encoding (slice_index_or L w Instr.Ecall) = cc in
    after ∙ (ap (λ c. c ++ v ∷ []) before ∙ (append_assoc old (map encoding (take w L)) (v ∷ []) ∙
    (ap (λ x. old ++ (map encoding (take w L) ++ x ∷ [])) same ∙ ap (λ t. old ++ t) (sym (map_more encoding L w Instr.Ecall lt)))))

-- all words
pub whole : (old code : List ℕ) (L : List Instr) (w : ℕ) → length L ≤ w → code ≡ old ++ map encoding (take w L) → code ≡ old ++ map encoding L
whole old code L w le e = e ∙ ap (λ t. old ++ map encoding t) (take_all w L le)

-- the words of more instructions
pub next-words : (old code next : List ℕ) (xs ys zs : List Instr) → code ≡ old ++ map encoding xs → next ≡ code ++ map encoding ys → zs ≡ xs ++ ys → next ≡ old ++ map encoding zs
next-words old code next xs ys zs before after same =
    after ∙ (ap (λ c. c ++ map encoding ys) before ∙ (append_assoc old (map encoding xs) (map encoding ys) ∙
    (ap (λ t. old ++ t) (sym (map-append encoding xs ys)) ∙ ap (λ t. old ++ map encoding t) (sym same))))
