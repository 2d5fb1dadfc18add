-- The key of a thread: its site and those of the innermost calls.
use Rattle.source_runs.proofs.Common.{◌≡◌, ℕ, ◌+◌, ◌-◌, ◌<◌, ◌≤◌, List, [], ◌∷◌, ◌++◌, length, take, map, sym, ap, ◌∙◌, arith, refl, get_or, set, reverse, length-map, length-reverse, get_or-map, get_or-reverse, map_push, reverse-append, take_all, take_more, take_more_set, ProgramTree, waiting_frame_of, WaitingFrame}
use Rattle.c_mean.specs.Frames as source

-- the sites of the frames below, innermost first
abbrev pub sites_of : List WaitingFrame → List ℕ
sites_of below = reverse (map (λ (w : WaitingFrame). w.site) below)

reverse-cons : (w : WaitingFrame) (below : List WaitingFrame) → sites_of (w ∷ below) ≡ sites_of below ++ w.site ∷ []
reverse-cons w below = reverse-append (w.site ∷ []) (map (λ (v : WaitingFrame). v.site) below)

pub sites-are : (tree : ProgramTree) (below : List WaitingFrame) → map (λ (w : source.WaitingFrame). w.site) (reverse (map (waiting_frame_of tree) below)) ≡ sites_of below
sites-are tree [] = refl
sites-are tree (w ∷ below) =
    ap (map (λ (v : source.WaitingFrame). v.site)) (reverse-append (waiting_frame_of tree w ∷ []) (map (waiting_frame_of tree) below))
    ∙ (map_push (λ (v : source.WaitingFrame). v.site) (reverse (map (waiting_frame_of tree) below)) (waiting_frame_of tree w)
    ∙ (ap (λ (xs : List ℕ). xs ++ w.site ∷ []) (sites-are tree below) ∙ sym (reverse-cons w below)))

sites-count : (below : List WaitingFrame) → length (sites_of below) ≡ length below
sites-count below = length-reverse (map (λ (w : WaitingFrame). w.site) below) ∙ length-map below (λ (w : WaitingFrame). w.site)

-- one site more
pub key-more : (site : ℕ) (below : List WaitingFrame) (places : List ℕ) (count left : ℕ) (w : WaitingFrame) → 1 ≤ count → count < length places → left + count ≡ length below → w ≡ get_or below left w → take count places ≡ site ∷ take (count - 1) (sites_of below) →
    take (count + 1) (set places count w.site) ≡ site ∷ take (count + 1 - 1) (sites_of below)
key-more site below places count left w some room all is so =
    let k = count - 1 in
    let up : count + 1 - 1 ≡ k + 1 = omega arith in
    let there : k < length (sites_of below) = omega (arith, sites-count below) in
    let place : length (map (λ (v : WaitingFrame). v.site) below) - 1 - k ≡ left = omega (arith, length-map below (λ (v : WaitingFrame). v.site)) in
    let within : k < length (map (λ (v : WaitingFrame). v.site) below) = omega (arith, length-map below (λ (v : WaitingFrame). v.site)) in
    let low : left < length below = omega arith in
    let found : get_or (sites_of below) k 0 ≡ w.site =
    get_or-reverse (map (λ (v : WaitingFrame). v.site) below) k 0 within
    ∙ (ap (λ i. get_or (map (λ (v : WaitingFrame). v.site) below) i 0) place
    ∙ (get_or-map (λ (v : WaitingFrame). v.site) below left w 0 low ∙ ap (λ (v : WaitingFrame). v.site) (sym is))) in
    take_more_set places count w.site room
    ∙ (ap (λ (xs : List ℕ). xs ++ w.site ∷ []) so
    ∙ (ap (λ x. site ∷ (take k (sites_of below) ++ x ∷ [])) (sym found)
    ∙ (ap (λ (xs : List ℕ). site ∷ xs) (sym (take_more (sites_of below) k 0 there))
    ∙ ap (λ n. site ∷ take n (sites_of below)) (sym up))))

-- no site is left, or the key has all that it may have
pub key-all : (below : List WaitingFrame) (count left : ℕ) → 1 ≤ count → count ≤ 8 → left + count ≡ length below + 1 → left ≡ 0 → take (count - 1) (sites_of below) ≡ take 7 (sites_of below)
key-all below count left some most all none =
    take_all (count - 1) (sites_of below) (omega (arith, sites-count below)) ∙ sym (take_all 7 (sites_of below) (omega (arith, sites-count below)))

pub key-full : (below : List WaitingFrame) (count : ℕ) → count ≡ 8 → take (count - 1) (sites_of below) ≡ take 7 (sites_of below)
key-full below count e =
    let seven : count - 1 ≡ 7 = omega arith in
    ap (λ n. take n (sites_of below)) seven
