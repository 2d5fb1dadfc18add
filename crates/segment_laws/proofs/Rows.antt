-- Rows of words one after another, as one list.
use Rattle.segment_laws.proofs.Common.{◌≡◌, ℕ, zero, suc, ◌+◌, ◌-◌, ◌*◌, ◌<◌, ◌≤◌, List, [], ◌∷◌, ◌++◌, length, get_or, set, map, take, length-append, refl, sym, ap, ◌∙◌, arith, sum_by, flat_map, length-map, length-set, get_or-map, get_or-append_right, set-append_left, set-append_right, sum_by-cons, FlatCode, FlatGlobal, global_address, global_words, globals_place, AreGlobals}
use Rattle.cap_word.specs.Rows.{row, width, word_at, with_word}

-- the rows as one list, and where a row begins in it
abbrev pub joined : List (List ℕ) → List ℕ
joined rows = flat_map (λ (r : List ℕ). r) rows

abbrev pub start_of : List (List ℕ) → ℕ → ℕ
start_of rows g = sum_by length (take g rows)

get-left : (xs ys : List ℕ) (i : ℕ) → i < length xs → get_or (xs ++ ys) i 0 ≡ get_or xs i 0
get-left [] ys i below = absurd (omega arith)
get-left (x ∷ xs) ys zero below = refl
get-left (x ∷ xs) ys (suc i) below = get-left xs ys i (omega arith)

start-suc : (r : List ℕ) (rows : List (List ℕ)) (g : ℕ) → start_of (r ∷ rows) (suc g) ≡ length r + start_of rows g
start-suc r rows g = sum_by-cons length r (take g rows)

pub get_or-joined : (rows : List (List ℕ)) (g k : ℕ) → g < length rows → k < width rows g → get_or (joined rows) (start_of rows g + k) 0 ≡ word_at rows g k
get_or-joined [] g k there inside = absurd (omega arith)
get_or-joined (r ∷ rows) zero k there inside = (let e : 0 + k ≡ k = omega arith in ap (λ (n : ℕ). get_or (r ++ joined rows) n 0) e) ∙ get-left r (joined rows) k inside
get_or-joined (r ∷ rows) (suc g) k there inside =
    let start : start_of (r ∷ rows) (suc g) + k ≡ length r + (start_of rows g + k) = omega (arith, start-suc r rows g) in
    let back : length r + (start_of rows g + k) - length r ≡ start_of rows g + k = omega arith in
    ap (λ (n : ℕ). get_or (r ++ joined rows) n 0) start
    ∙ get_or-append_right r (joined rows) (length r) (length r + (start_of rows g + k)) 0 refl (omega arith)
    ∙ ap (λ (n : ℕ). get_or (joined rows) n 0) back
    ∙ get_or-joined rows g k (omega arith) inside

pub set-joined : (rows : List (List ℕ)) (g k v : ℕ) → g < length rows → k < width rows g → joined (with_word rows g k v) ≡ set (joined rows) (start_of rows g + k) v
set-joined [] g k v there inside = absurd (omega arith)
set-joined (r ∷ rows) zero k v there inside =
    sym (set-append_left r (joined rows) k v inside) ∙ (let e : k ≡ 0 + k = omega arith in ap (λ (n : ℕ). set (r ++ joined rows) n v) e)
set-joined (r ∷ rows) (suc g) k v there inside =
    let start : start_of (r ∷ rows) (suc g) + k ≡ length r + (start_of rows g + k) = omega (arith, start-suc r rows g) in
    let back : length r + (start_of rows g + k) - length r ≡ start_of rows g + k = omega arith in
    ap (λ (xs : List ℕ). r ++ xs) (set-joined rows g k v (omega arith) inside)
    ∙ ap (λ (n : ℕ). r ++ set (joined rows) n v) (sym back)
    ∙ sym (set-append_right r (joined rows) (length r) (length r + (start_of rows g + k)) v refl (omega arith))
    ∙ ap (λ (n : ℕ). set (r ++ joined rows) n v) (sym start)

pub joined-room : (rows : List (List ℕ)) (g : ℕ) → g < length rows → start_of rows g + width rows g ≤ length (joined rows)
joined-room [] g there = absurd (omega arith)
joined-room (r ∷ rows) zero there = omega (arith, length-append r (joined rows))
joined-room (r ∷ rows) (suc g) there =
    let rest = joined-room rows g (omega arith) in
    let start = start-suc r rows g in
    omega (arith, rest, start, length-append r (joined rows))

-- ---- the globals

start-same : (rows : List (List ℕ)) (gs : List FlatGlobal) (g : ℕ) → map length rows ≡ map (λ x. x.words) gs → start_of rows g ≡ sum_by (λ x. x.words) (take g gs)
start-same rows gs zero same = refl
start-same [] [] (suc g) same = refl
start-same [] (x ∷ gs) (suc g) same = absurd (cc)
start-same (r ∷ rows) [] (suc g) same = absurd (cc)
start-same (r ∷ rows) (x ∷ gs) (suc g) same =
    let first : length r ≡ x.words = cc in
    let rest : map length rows ≡ map (λ y. y.words) gs = cc in
    start-suc r rows g ∙ (λ i. first i + start-same rows gs g rest i) ∙ sym (sum_by-cons (λ (y : FlatGlobal). y.words) x (take g gs))

-- what is known of word k of global g
pub record HasGlobal (code : FlatCode) (rows : List (List ℕ)) (words : List ℕ) (g k : ℕ) : Type 0 where
  pub number : ℕ
  pub address : global_address code g + 4 * k ≡ globals_place + 4 * number
  pub inside : number < length words
  pub value : get_or words number 0 ≡ word_at rows g k
  pub set_is : (v : ℕ) → joined (with_word rows g k v) ≡ set words number v
  pub small : k < global_words code g

pub HasGlobal-at : (code : FlatCode) (rows : List (List ℕ)) (words : List ℕ) (g k : ℕ) → AreGlobals code rows words → g < length code.globals → k < width rows g → HasGlobal code rows words g k
HasGlobal-at code rows words g k are there inside =
    let lengths : length rows ≡ length code.globals = sym (length-map rows length) ∙ ap length are.widths ∙ length-map code.globals (λ x. x.words) in
    let row_there : g < length rows = omega (arith, lengths, there) in
    let start : start_of rows g ≡ sum_by (λ x. x.words) (take g code.globals) = start-same rows code.globals g are.widths in
    let room = joined-room rows g row_there in
    let count : length (joined rows) ≡ length words = ap length are.joined in
    let widths : width rows g ≡ global_words code g = sym (get_or-map length rows g [] 0 row_there) ∙ ap (λ (ns : List ℕ). get_or ns g 0) are.widths in
    record {
      number = start_of rows g + k;
      address = omega (arith, start);
      inside = omega (arith, room, count, inside);
      value = ap (λ (ws : List ℕ). get_or ws (start_of rows g + k) 0) (sym are.joined) ∙ get_or-joined rows g k row_there inside;
      set_is = λ v. set-joined rows g k v row_there inside ∙ ap (λ (ws : List ℕ). set ws (start_of rows g + k) v) are.joined;
      small = omega (arith, inside, widths);
    }

-- a row of as many words leaves the widths
widths-set : (rows : List (List ℕ)) (g : ℕ) (new : List ℕ) → length new ≡ width rows g → map length (set rows g new) ≡ map length rows
widths-set [] g new same = refl
widths-set (r ∷ rows) zero new same = ap (λ (n : ℕ). n ∷ map length rows) same
widths-set (r ∷ rows) (suc g) new same = ap (λ (ns : List ℕ). length r ∷ ns) (widths-set rows g new same)

pub AreGlobals-set : (code : FlatCode) (rows : List (List ℕ)) (words : List ℕ) (g k v : ℕ) → AreGlobals code rows words → (has : HasGlobal code rows words g k) → AreGlobals code (with_word rows g k v) (set words has.number v)
AreGlobals-set code rows words g k v are has = record {
  widths = widths-set rows g (set (row rows g) k v) (length-set (row rows g) k v) ∙ are.widths;
  joined = has.set_is v;
}
