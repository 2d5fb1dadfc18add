-- Rows that are cut from words, where a word or a row of them is written, and where a frame or a run starts.
use Rattle.source_runs.proofs.Common.{◌≡◌, ℕ, zero, suc, ◌+◌, ◌-◌, ◌<◌, ◌≤◌, List, [], ◌∷◌, ◌++◌, length, take, drop, map, sym, ap, ◌∙◌, arith, refl, set, get_or, append_assoc, replicate, sum, slice_index, slice_set, length-append, length-replicate, get_or-set_same, set-set, take-set-le, drop-set-lt, drop-set-add, take-replicate, drop-replicate, take_at, drop_at, drop_all, take_all, take_more, GlobalFact, rows_of, widths_of, sum-cons}
use Rattle.std.proofs.lemmas.List.Edits.{fill_more}
use Rattle.cap_word.specs.Rows.{row, width, with_word, with_zeros, zeros, scalars}
use Rattle.c_tree.specs.Sizes as sizes
use Rattle.source_runs.proofs.Ranges.{append-none}

pub rows_length : (ns words : List ℕ) → length (rows_of ns words) ≡ length ns
rows_length [] words = refl
rows_length (n ∷ ns) words = ap suc (rows_length ns (drop n words))

take-set-lt : (n : ℕ) (words : List ℕ) (i v : ℕ) → i < n → take n (set words i v) ≡ set (take n words) i v
take-set-lt zero words i v h = absurd (omega arith)
take-set-lt (suc n) (w ∷ words) (suc i) v h = ap (λ (xs : List ℕ). w ∷ xs) (take-set-lt n words i v (omega arith))
take-set-lt (suc n) _ _ v h = refl

-- a word is written at its place
pub row-set : (ns words : List ℕ) (x i at v : ℕ) → at ≡ sum (take x ns) + i → i < slice_index ns x → rows_of ns (slice_set words at v) ≡ with_word (rows_of ns words) x i v
row-set [] words x i at v e h = absurd (omega arith)
row-set (n ∷ ns) words zero i at v e h =
    let here : at ≡ i = omega arith in
    rw (here, take-set-lt n words i v h, drop-set-lt n words i v h) refl
row-set (n ∷ ns) words (suc x) i at v e h =
    let j = sum (take x ns) + i in
    let there : at ≡ n + j = omega (arith, sum-cons n (take x ns)) in
    let past : n ≤ n + j = omega arith in
    rw (there, take-set-le n words (n + j) v past, drop-set-add n words j v) (ap (λ (rows : List (List ℕ)). take n words ∷ rows) (row-set ns (drop n words) x i j v refl h))

-- ---- a row that is filled with 0 from its start on

abbrev pub filled : List (List ℕ) → ℕ → ℕ → List (List ℕ)
filled rows x i = slice_set rows x (replicate i 0 ++ drop i (row rows x))

pub filled-more : (rows : List (List ℕ)) (x i : ℕ) → x < length rows → i < width rows x → with_word (filled rows x i) x i 0 ≡ filled rows x (i + 1)
filled-more rows x i there h =
    let part = replicate i 0 ++ drop i (row rows x) in
    let here : row (filled rows x i) x ≡ part = get_or-set_same rows x part [] there in
    ap (λ (r : List ℕ). slice_set (filled rows x i) x (slice_set r i 0)) here
    ∙ (set-set rows x part (slice_set part i 0) ∙ ap (slice_set rows x) (fill_more i 0 (row rows x) h))

pub filled-all : (rows : List (List ℕ)) (x i : ℕ) → i ≡ width rows x → filled rows x i ≡ with_zeros rows x
filled-all rows x i e =
    let none : drop i (row rows x) ≡ [] = drop_all i (row rows x) (omega arith) in
    ap (λ (r : List ℕ). slice_set rows x (replicate i 0 ++ r)) none ∙ ap (λ (r : List ℕ). slice_set rows x r) (append-none (replicate i 0) ∙ ap (λ n. replicate n 0) e)

-- one word more of the row at its place
pub cleared-more : (ns words : List ℕ) (rows : List (List ℕ)) (x i at : ℕ) → length rows ≡ length ns → rows_of ns words ≡ filled rows x i → at ≡ sum (take x ns) + i → i < slice_index ns x → x < length ns → width rows x ≡ slice_index ns x →
    rows_of ns (slice_set words at 0) ≡ filled rows x (i + 1)
cleared-more ns words rows x i at count e place h there wide =
    let within : x < length rows = omega arith in
    let below : i < width rows x = omega arith in
    row-set ns words x i at 0 place h ∙ (ap (λ (r : List (List ℕ)). with_word r x i 0) e ∙ filled-more rows x i within below)

-- ---- frames at the start of their functions

zero-rows : (ds : List ℕ) (m : ℕ) → m ≡ sum ds → rows_of ds (replicate m 0) ≡ zeros ds
zero-rows [] m e = refl
zero-rows (d ∷ ds) m e =
    let le : d ≤ m = omega (arith, sum-cons d ds) in
    let rest : m - d ≡ sum ds = omega (arith, sum-cons d ds) in
    rw (take-replicate {X = ℕ} d m 0 le, drop-replicate {X = ℕ} d m 0) (ap (λ (rows : List (List ℕ)). replicate d 0 ∷ rows) (zero-rows ds (m - d) rest))

start-rows : (arguments ds : List ℕ) (m : ℕ) → m ≡ sum ds → rows_of (sizes.scalars (length arguments) ++ ds) (arguments ++ replicate m 0) ≡ scalars arguments ++ zeros ds
start-rows [] ds m e = zero-rows ds m e
start-rows (a ∷ arguments) ds m e = ap (λ (rows : List (List ℕ)). (a ∷ []) ∷ rows) (start-rows arguments ds m e)

past-scalars : (arguments ds : List ℕ) → drop (length arguments) (sizes.scalars (length arguments) ++ ds) ≡ ds
past-scalars [] ds = refl
past-scalars (a ∷ arguments) ds = past-scalars arguments ds

start-words : (arguments ds : List ℕ) → sum (sizes.scalars (length arguments) ++ ds) ≡ length arguments + sum ds
start-words [] ds = omega arith
start-words (a ∷ arguments) ds = sum-cons 1 (sizes.scalars (length arguments) ++ ds) ∙ omega (arith, start-words arguments ds)

-- arguments and 0 in every other name, where the parameters come first
pub frame-rows : (arguments ns ds : List ℕ) (p m : ℕ) → p ≡ length arguments → ns ≡ sizes.scalars p ++ ds → length arguments + m ≡ sum ns → rows_of ns (arguments ++ replicate m 0) ≡ scalars arguments ++ zeros (drop (length arguments) ns)
frame-rows arguments ns ds p m one e full =
    let is : ns ≡ sizes.scalars (length arguments) ++ ds = e ∙ ap (λ n. sizes.scalars n ++ ds) one in
    let rest : m ≡ sum ds = omega (arith, ap sum is, start-words arguments ds) in
    rw (is, past-scalars arguments ds) (start-rows arguments ds m rest)

-- the parameters have no more words than all names
pub frame-fits : (arguments ns ds : List ℕ) (p : ℕ) → p ≡ length arguments → ns ≡ sizes.scalars p ++ ds → length arguments ≤ sum ns
frame-fits arguments ns ds p one e =
    let is : ns ≡ sizes.scalars (length arguments) ++ ds = e ∙ ap (λ n. sizes.scalars n ++ ds) one in
    omega (arith, ap sum is, start-words arguments ds)

-- ---- the words of the globals as a run starts

abbrev pub first_of : List GlobalFact → List ℕ
first_of [] = []
first_of (g ∷ gs) = replicate g.words g.start ++ first_of gs

pub first-more : (gs : List GlobalFact) (g : GlobalFact) → first_of (gs ++ g ∷ []) ≡ first_of gs ++ replicate g.words g.start
first-more [] g = append-none (replicate g.words g.start)
first-more (h ∷ gs) g = ap (λ (xs : List ℕ). replicate h.words h.start ++ xs) (first-more gs g) ∙ sym (append_assoc (replicate h.words h.start) (first_of gs) (replicate g.words g.start))

pub first-count : (gs : List GlobalFact) → length (first_of gs) ≡ sum (widths_of gs)
first-count [] = refl
first-count (g ∷ gs) = length-append (replicate g.words g.start) (first_of gs) ∙ omega (arith, length-replicate g.words g.start, first-count gs, sum-cons g.words (widths_of gs))

pub first-rows : (gs : List GlobalFact) → rows_of (widths_of gs) (first_of gs) ≡ map (λ (g : GlobalFact). replicate g.words g.start) gs
first-rows [] = refl
first-rows (g ∷ gs) =
    rw (take_at (replicate g.words g.start) (first_of gs) g.words (length-replicate g.words g.start), drop_at (replicate g.words g.start) (first_of gs) g.words (length-replicate g.words g.start))
    (ap (λ (rows : List (List ℕ)). replicate g.words g.start ∷ rows) (first-rows gs))

-- one global more
pub first-resized : (gs : List GlobalFact) (i : ℕ) (g d : GlobalFact) (words new : List ℕ) (more : ℕ) → i < length gs → g ≡ get_or gs i d → words ≡ first_of (take i gs) → more ≡ length words + g.words →
    new ≡ take more words ++ replicate (more - length words) g.start → new ≡ first_of (take (i + 1) gs)
first-resized gs i g d words new more lt is so all made =
    let rest : more - length words ≡ g.words = omega (arith, all) in
    let list : take (i + 1) gs ≡ take i gs ++ g ∷ [] = take_more gs i d lt ∙ ap (λ (h : GlobalFact). take i gs ++ h ∷ []) (sym is) in
    made
    ∙ (ap (λ (xs : List ℕ). xs ++ replicate (more - length words) g.start) (take_all more words (omega (arith, all)) ∙ so)
    ∙ (ap (λ (n : ℕ). first_of (take i gs) ++ replicate n g.start) rest ∙ (sym (first-more (take i gs) g) ∙ ap first_of (sym list))))
