-- What is left of a walk while functions are on its path.
use Rattle.cycle_break.proofs.Common.{◌≡◌, ℕ, zero, suc, ◌+◌, ◌-◌, ◌<◌, ◌≤◌, ◌||◌, true, false, not, if◌then◌else◌, Some, None, find, List, [], ◌∷◌, length, map, drop, get_or, refl, sym, ap, ◌∙◌, arith, drop_all, list_any, GraphSite, callees, sites_of, is_call_of, LeadsTo, has, by_test, sites_of-here, Frame, come, Walked, is_visited, leave, note, into_each, through, walk}
use Rattle.cycle_break.proofs.NumberLemmas.{has-head, has-tail}

-- one function of a list
abbrev step_into : (List ℕ → ℕ → Walked → Walked) → List ℕ → ℕ → Walked → Walked
step_into go path f walked = if is_visited path walked f then walked else go path f walked

-- ---- the walk of a list of functions, from the first that wasn't visited on

abbrev pub Grows : (List ℕ → ℕ → Walked → Walked) → Type 0
Grows go = (path : List ℕ) (f : ℕ) (walked : Walked) (g : ℕ) → has g walked.left ≡ true → has g (go path f walked).left ≡ true

visited-grown : (go : List ℕ → ℕ → Walked → Walked) → Grows go → (path : List ℕ) (f g : ℕ) (walked : Walked) → is_visited path walked g ≡ true → is_visited path (go path f walked) g ≡ true
visited-grown go grows path f g walked h =
    by_test (has g path) (λ t. rw t refl) (λ e. let l : has g walked.left ≡ true = rw e at h in rw (e, grows path f walked g l) refl)

pub into_each-first : (go : List ℕ → ℕ → Walked → Walked) → Grows go → (path cs : List ℕ) (walked : Walked) (g : ℕ) → has g (go path g walked).left ≡ true →
    find (λ f. not (is_visited path walked f)) cs ≡ Some g → into_each go path cs walked ≡ into_each go path cs (go path g walked)
into_each-first go grows path [] walked g here h = absurd cc
into_each-first go grows path (c ∷ cs) walked g here h =
    by_test (is_visited path walked c)
    (λ t. let rest : find (λ f. not (is_visited path walked f)) cs ≡ Some g = rw t at h in
    let after : is_visited path (go path g walked) c ≡ true = visited-grown go grows path g c walked t in
    rw (t, after) (into_each-first go grows path cs walked g here rest))
    (λ e. let first : Some c ≡ Some g = rw e at h in
    let same : c ≡ g = cc in
    let after : is_visited path (go path g walked) g ≡ true = by_test (has g path) (λ t. rw t refl) (λ n. rw (n, here) refl) in
    rw e (rw (same, after) refl))

pub into_each-none : (go : List ℕ → ℕ → Walked → Walked) (path cs : List ℕ) (walked : Walked) → find (λ f. not (is_visited path walked f)) cs ≡ None → into_each go path cs walked ≡ walked
into_each-none go path [] walked h = refl
into_each-none go path (c ∷ cs) walked h =
    by_test (is_visited path walked c)
    (λ t. let rest : find (λ f. not (is_visited path walked f)) cs ≡ None = rw t at h in rw t (into_each-none go path cs walked rest))
    (λ e. let first : Some c ≡ None = rw e at h in absurd cc)

-- ---- which functions are left doesn't hang on the back edges so far

abbrev pub SameLeft : (List ℕ → ℕ → Walked → Walked) → Type 0
SameLeft go = (path : List ℕ) (f : ℕ) (a b : Walked) → a.left ≡ b.left → (go path f a).left ≡ (go path f b).left

step-left : (go : List ℕ → ℕ → Walked → Walked) → SameLeft go → (path : List ℕ) (c : ℕ) (a b : Walked) → a.left ≡ b.left → (step_into go path c a).left ≡ (step_into go path c b).left
step-left go same path c a b e =
    let visited : is_visited path a c ≡ is_visited path b c = ap (λ (l : List ℕ). has c path || has c l) e in
    by_test (is_visited path b c)
    (λ t. let t' : is_visited path a c ≡ true = visited ∙ t in rw (t, t') e)
    (λ n. let n' : is_visited path a c ≡ false = visited ∙ n in rw (n, n') (same path c a b e))

pub into_each-left : (go : List ℕ → ℕ → Walked → Walked) → SameLeft go → (path cs : List ℕ) (a b : Walked) → a.left ≡ b.left → (into_each go path cs a).left ≡ (into_each go path cs b).left
into_each-left go same path [] a b e = e
into_each-left go same path (c ∷ cs) a b e = into_each-left go same path cs (step_into go path c a) (step_into go path c b) (step-left go same path c a b e)

module _ (tables : List (List ℕ)) where
  pub note-is : (path : List ℕ) (s : GraphSite) (walked : Walked) → (note tables path s walked).left ≡ walked.left
  note-is path s walked = by_test (list_any (λ f. has f path) (callees tables s.target)) (λ t. rw t refl) (λ e. rw e refl)

  through-left : (go : List ℕ → ℕ → Walked → Walked) → SameLeft go → (path : List ℕ) (ss : List GraphSite) (a b : Walked) → a.left ≡ b.left → (through go tables path ss a).left ≡ (through go tables path ss b).left
  through-left go same path [] a b e = e
  through-left go same path (s ∷ ss) a b e =
      let cs = callees tables s.target in
      through-left go same path ss (note tables path s (into_each go path cs a)) (note tables path s (into_each go path cs b))
      (note-is path s (into_each go path cs a) ∙ into_each-left go same path cs a b e ∙ sym (note-is path s (into_each go path cs b)))

  module _ (sites : List GraphSite) (without : List ℕ) where
    pub walk-left : (depth : ℕ) → SameLeft (walk tables sites without depth)
    unfolding walk
    walk-left zero path f a b e = e
    walk-left (suc depth) path f a b e =
        ap (λ (l : List ℕ). f ∷ l) (through-left (walk tables sites without depth) (walk-left depth) (f ∷ path) (sites_of sites without f) a b e)

    -- ---- nothing is unleft

    step-grows : (go : List ℕ → ℕ → Walked → Walked) → Grows go → (path : List ℕ) (c : ℕ) (walked : Walked) (g : ℕ) → has g walked.left ≡ true → has g (step_into go path c walked).left ≡ true
    step-grows go grows path c walked g h =
        by_test (is_visited path walked c) (λ t. rw t h) (λ e. rw e (grows path c walked g h))

    into_each-grows : (go : List ℕ → ℕ → Walked → Walked) → Grows go → (path cs : List ℕ) (walked : Walked) (g : ℕ) → has g walked.left ≡ true → has g (into_each go path cs walked).left ≡ true
    into_each-grows go grows path [] walked g h = h
    into_each-grows go grows path (c ∷ cs) walked g h = into_each-grows go grows path cs (step_into go path c walked) g (step-grows go grows path c walked g h)

    through-grows : (go : List ℕ → ℕ → Walked → Walked) → Grows go → (path : List ℕ) (ss : List GraphSite) (walked : Walked) (g : ℕ) → has g walked.left ≡ true → has g (through go tables path ss walked).left ≡ true
    through-grows go grows path [] walked g h = h
    through-grows go grows path (s ∷ ss) walked g h =
        let one = into_each go path (callees tables s.target) walked in
        through-grows go grows path ss (note tables path s one) g (ap (has g) (note-is path s one) ∙ into_each-grows go grows path (callees tables s.target) walked g h)

    pub walk-grows : (depth : ℕ) → Grows (walk tables sites without depth)
    unfolding walk
    walk-grows zero path f walked g h = h
    walk-grows (suc depth) path f walked g h =
        has-tail g f (through (walk tables sites without depth) tables (f ∷ path) (sites_of sites without f) walked).left
        (through-grows (walk tables sites without depth) (walk-grows depth) (f ∷ path) (sites_of sites without f) walked g h)

    pub walk-leaves : (depth : ℕ) (path : List ℕ) (f : ℕ) (walked : Walked) → has f (walk tables sites without (suc depth) path f walked).left ≡ true
    unfolding walk
    walk-leaves depth path f walked = has-head f (through (walk tables sites without depth) tables (f ∷ path) (sites_of sites without f) walked).left

    -- ---- the frames of the path

    module _ (functions : ℕ) where
      abbrev pub functions_of : List Frame → List ℕ
      functions_of frames = map (λ frame. frame.function) frames

      -- the sites that a frame has still to take
      abbrev pub rest_of : Frame → List GraphSite
      rest_of frame = sites_of (drop frame.place sites) without frame.function

      -- the innermost function's sites are taken, it is left, and so on outward
      abbrev pub finish : List Frame → Walked → Walked
      finish [] walked = walked
      finish (frame ∷ below) walked =
          finish below (leave frame.function (through (walk tables sites without (functions - suc (length below))) tables (functions_of (frame ∷ below)) (rest_of frame) walked))

      finish-left : (frames : List Frame) (a b : Walked) → a.left ≡ b.left → (finish frames a).left ≡ (finish frames b).left
      finish-left [] a b e = e
      finish-left (frame ∷ below) a b e =
          let go = walk tables sites without (functions - suc (length below)) in
          finish-left below (leave frame.function (through go tables (functions_of (frame ∷ below)) (rest_of frame) a)) (leave frame.function (through go tables (functions_of (frame ∷ below)) (rest_of frame) b))
          (ap (λ (l : List ℕ). frame.function ∷ l) (through-left go (walk-left (functions - suc (length below))) (functions_of (frame ∷ below)) (rest_of frame) a b e))

      -- the innermost function has no site left
      pub finish-leave : (frame : Frame) (below : List Frame) (left : List ℕ) → length sites ≤ frame.place →
          (finish (frame ∷ below) (come left)).left ≡ (finish below (come (frame.function ∷ left))).left
      finish-leave frame below left end =
          let none : rest_of frame ≡ [] = rw (drop_all frame.place sites end) refl in
          ap (λ (ss : List GraphSite). (finish below (leave frame.function (through (walk tables sites without (functions - suc (length below))) tables (functions_of (frame ∷ below)) ss (come left)))).left) none

      -- its next site has a callee that wasn't visited
      pub finish-enter : (frame : Frame) (below : List Frame) (left : List ℕ) (g place : ℕ) (d : GraphSite) → frame.place < length sites →
          is_call_of without frame.function (get_or sites frame.place d) ≡ true →
          suc (suc (length below)) ≤ functions →
          LeadsTo sites without g 0 place →
          find (λ f. not (is_visited (functions_of (frame ∷ below)) (come left) f)) (callees tables (get_or sites frame.place d).target) ≡ Some g →
          (finish (frame ∷ below) (come left)).left ≡ (finish (record { function = g; place = place } ∷ frame ∷ below) (come left)).left
      unfolding walk
      finish-enter frame below left g place d within mine room leads found =
          let path = functions_of (frame ∷ below) in
          let s = get_or sites frame.place d in
          let cs = callees tables s.target in
          let depth = functions - suc (suc (length below)) in
          let one_more : functions - suc (length below) ≡ suc depth = omega arith in
          let here : rest_of frame ≡ s ∷ sites_of (drop (frame.place + 1) sites) without frame.function = sites_of-here sites without frame.place frame.function d within mine in
          let ss = sites_of (drop (frame.place + 1) sites) without frame.function in
          let go = walk tables sites without (suc depth) in
          let first : into_each go path cs (come left) ≡ into_each go path cs (go path g (come left)) =
          into_each-first go (walk-grows (suc depth)) path cs (come left) g (walk-leaves depth path g (come left)) found in
          let same : through go tables path (s ∷ ss) (come left) ≡ through go tables path (s ∷ ss) (go path g (come left)) =
          ap (λ (w : Walked). through go tables path ss (note tables path s w)) first in
          let below_sites : sites_of sites without g ≡ sites_of (drop place sites) without g = leads.same in
          let opened = λ (w : Walked). ap (λ (n : ℕ). finish below (leave frame.function (through (walk tables sites without n) tables path (rest_of frame) w))) one_more
          ∙ ap (λ (rest : List GraphSite). finish below (leave frame.function (through go tables path rest w))) here in
          let down : finish (record { function = g; place = place } ∷ frame ∷ below) (come left) ≡ finish (frame ∷ below) (go path g (come left)) =
          ap (λ (rest : List GraphSite). finish (frame ∷ below) (leave g (through (walk tables sites without depth) tables (g ∷ path) rest (come left)))) (sym below_sites) in
          ap (λ (w : Walked). w.left) (opened (come left) ∙ ap (λ (w : Walked). finish below (leave frame.function w)) same ∙ sym (down ∙ opened (go path g (come left))))

      -- its next site has none
      pub finish-on : (frame : Frame) (below : List Frame) (left : List ℕ) (next : ℕ) (d : GraphSite) → frame.place < length sites →
          is_call_of without frame.function (get_or sites frame.place d) ≡ true →
          LeadsTo sites without frame.function (frame.place + 1) next →
          find (λ f. not (is_visited (functions_of (frame ∷ below)) (come left) f)) (callees tables (get_or sites frame.place d).target) ≡ None →
          (finish (frame ∷ below) (come left)).left ≡ (finish (record { function = frame.function; place = next } ∷ below) (come left)).left
      finish-on frame below left next d within mine leads none =
          let path = functions_of (frame ∷ below) in
          let s = get_or sites frame.place d in
          let cs = callees tables s.target in
          let go = walk tables sites without (functions - suc (length below)) in
          let ss = sites_of (drop (frame.place + 1) sites) without frame.function in
          let here : rest_of frame ≡ s ∷ ss = sites_of-here sites without frame.place frame.function d within mine in
          let skipped : into_each go path cs (come left) ≡ come left = into_each-none go path cs (come left) none in
          let left_side : finish (frame ∷ below) (come left) ≡ finish below (leave frame.function (through go tables path ss (note tables path s (come left)))) =
          ap (λ (rest : List GraphSite). finish below (leave frame.function (through go tables path rest (come left)))) here
          ∙ ap (λ (w : Walked). finish below (leave frame.function (through go tables path ss (note tables path s w)))) skipped in
          let noted : (through go tables path ss (note tables path s (come left))).left ≡ (through go tables path ss (come left)).left =
          through-left go (walk-left (functions - suc (length below))) path ss (note tables path s (come left)) (come left) (note-is path s (come left)) in
          ap (λ (w : Walked). w.left) left_side
          ∙ finish-left below _ _ (ap (λ (l : List ℕ). frame.function ∷ l) noted)
          ∙ ap (λ (rest : List GraphSite). (finish below (leave frame.function (through go tables path rest (come left)))).left) leads.same
