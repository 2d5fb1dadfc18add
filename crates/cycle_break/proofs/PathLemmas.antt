-- One step of the walk's code.
use Rattle.cycle_break.proofs.Common.{◌≡◌, ◌≢◌, ℕ, zero, suc, ◌+◌, ◌-◌, ◌*◌, ◌<◌, ◌≤◌, ◌==◌, Bool, true, false, not, Some, None, find, List, [], ◌∷◌, length, set, drop, get_or, refl, sym, ap, ◌∙◌, subst, arith, nat_tests, length-map, length-set, get_or-set_same, get_or-set_other, AllByRecursion, GraphSite, IsSiteOf, all-at, no_site, callees, is_call_of, sites_of, LeadsTo, has, IsOnce, by_test, by_eq, Frame, come, is_marked, IsMarked, is_visited, through, walk, unmarked}
use Rattle.cycle_break.proofs.NumberLemmas.{once-length, true_false}
use Rattle.cycle_break.proofs.FinishLemmas.{functions_of, finish, finish-enter, finish-on}

-- ---- lists of marks

pub unmarked-set : (visited : List Bool) (g : ℕ) → g < length visited → is_marked visited g ≡ false → unmarked visited ≡ suc (unmarked (set visited g true))
unmarked-set [] g within out = absurd (omega arith)
unmarked-set (b ∷ bs) zero within out = rw out (omega arith)
unmarked-set (b ∷ bs) (suc g) within out = let rest : unmarked bs ≡ suc (unmarked (set bs g true)) = unmarked-set bs g (omega arith) out in omega (arith, rest)

find-holds : (P : ℕ → Type 0) (p : ℕ → Bool) (cs : List ℕ) (g : ℕ) → AllByRecursion P cs → find p cs ≡ Some g → P g × (p g ≡ true)
find-holds P p [] g all h = absurd cc
find-holds P p (c ∷ cs) g all h =
    by_test (p c)
    (λ t. let first : Some c ≡ Some g = rw t at h in let same : c ≡ g = cc in (subst P same all.0, rw (← same) t))
    (λ e. find-holds P p cs g all.1 (rw e at h))

-- a function that isn't marked
pub record IsUnvisited (functions : ℕ) (visited : List Bool) (g : ℕ) : Type 0 where
  pub function : g < functions
  pub within : g < length visited
  pub out : is_marked visited g ≡ false

unmarked-found : (functions : ℕ) (visited : List Bool) (cs : List ℕ) (g : ℕ) → length visited ≡ functions → AllByRecursion (λ c. c < functions) cs →
    find (λ f. not (is_marked visited f)) cs ≡ Some g → IsUnvisited functions visited g
unmarked-found functions visited cs g each below found =
    let holds = find-holds (λ c. c < functions) (λ f. not (is_marked visited f)) cs g below found in
    record {
      function = holds.0;
      within = omega (arith, holds.0);
      out = by_test (is_marked visited g) (λ t. absurd (let z : false ≡ true = rw t at holds.1 in cc)) (λ e. e);
    }

find-same : (p q : ℕ → Bool) (cs : List ℕ) → AllByRecursion (λ c. p c ≡ q c) cs → find p cs ≡ find q cs
find-same p q [] all = refl
find-same p q (c ∷ cs) all =
    by_test (q c) (λ t. let t' : p c ≡ true = all.0 ∙ t in rw (t, t') refl) (λ e. let e' : p c ≡ false = all.0 ∙ e in rw (e, e') (find-same p q cs all.1))

entered : (f g : ℕ) (path left : List ℕ) → f ≢ g → is_visited (f ∷ path) (come left) g ≡ is_visited path (come left) g
entered f g path left ne = let no : (f == g) ≡ false = grind (arith, nat_tests, ne) in rw no refl

module _ (tables : List (List ℕ)) (sites : List GraphSite) (without : List ℕ) (functions : ℕ) where
  pub record IsFrame (frame : Frame) : Type 0 where
    pub function : frame.function < functions
    pub within : frame.place ≤ length sites
    pub mine : (d : GraphSite) → frame.place < length sites → is_call_of without frame.function (get_or sites frame.place d) ≡ true

  frame-led : (function place next : ℕ) → function < functions → LeadsTo sites without function place next → IsFrame (record { function = function; place = next })
  frame-led function place next below leads = record { function = below; within = leads.within; mine = leads.site }

  -- what a walk keeps while functions are on its path
  pub record IsOnWay (target : List ℕ) (path : List Frame) (visited : List Bool) (left : List ℕ) : Type 0 where
    pub each : length visited ≡ functions
    pub frames : AllByRecursion IsFrame path
    pub once : IsOnce (functions_of tables sites without functions path)
    pub marks : (f : ℕ) → f < functions → is_marked visited f ≡ is_visited (functions_of tables sites without functions path) (come left) f
    pub below : AllByRecursion (λ f. f < functions) left
    pub finishes : (finish tables sites without functions path (come left)).left ≡ target

  set-marks : (frames : List Frame) (visited : List Bool) (left : List ℕ) (g : ℕ) (f : ℕ) → length visited ≡ functions → g < functions → f < functions →
      is_marked visited f ≡ is_visited (functions_of tables sites without functions frames) (come left) f →
      is_marked (set visited g true) f ≡ is_visited (g ∷ functions_of tables sites without functions frames) (come left) f
  set-marks frames visited left g f each below within mark =
      by_eq f g
      (λ same. let self : (g == g) ≡ true = grind (arith, nat_tests) in let in_visited : g < length visited = omega (arith, each) in rw (same, get_or-set_same visited g true false in_visited, self) refl)
      (λ ne. let ne' : g ≢ f = λ e. ne (sym e) in rw (get_or-set_other visited g f true false ne) (mark ∙ sym (entered g f (functions_of tables sites without functions frames) left ne')))

  first_finishes : (depth root place : ℕ) (left : List ℕ) → suc depth ≡ functions → LeadsTo sites without root 0 place →
      (finish tables sites without functions (record { function = root; place = place } ∷ []) (come left)).left ≡ (walk tables sites without functions [] root (come left)).left
  unfolding walk
  first_finishes depth root place left deep leads =
      let one : functions - 1 ≡ depth = omega arith in
      ap (λ (n : ℕ). root ∷ (through (walk tables sites without n) tables (root ∷ []) (sites_of (drop place sites) without root) (come left)).left) one
      ∙ ap (λ (ss : List GraphSite). root ∷ (through (walk tables sites without depth) tables (root ∷ []) ss (come left)).left) (sym leads.same)
      ∙ ap (λ (n : ℕ). (walk tables sites without n [] root (come left)).left) deep

  pub IsOnWay-first : (depth : ℕ) (root place : ℕ) (visited : List Bool) (left : List ℕ) → suc depth ≡ functions → root < functions → is_marked visited root ≡ false → IsMarked functions visited left →
      LeadsTo sites without root 0 place →
      IsOnWay (walk tables sites without functions [] root (come left)).left (record { function = root; place = place } ∷ []) (set visited root true) left
  IsOnWay-first depth root place visited left deep below out marked leads = record {
    each = length-set visited root true ∙ marked.each;
    frames = (frame-led root 0 place below leads, tt);
    once = (refl, tt);
    marks = λ f within. set-marks [] visited left root f marked.each below within (marked.marks f within);
    below = marked.below;
    finishes = first_finishes depth root place left deep leads;
  }

  callees_marked : (frames : List Frame) (visited : List Bool) (left cs : List ℕ) → ((f : ℕ) → f < functions → is_marked visited f ≡ is_visited (functions_of tables sites without functions frames) (come left) f) →
      AllByRecursion (λ c. c < functions) cs →
      AllByRecursion (λ c. not (is_marked visited c) ≡ not (is_visited (functions_of tables sites without functions frames) (come left) c)) cs
  callees_marked frames visited left [] marks below = tt
  callees_marked frames visited left (c ∷ cs) marks below = (ap not (marks c below.0), callees_marked frames visited left cs marks below.1)

  -- at the site of the first frame
  module _ {target : List ℕ} {frame : Frame} {below : List Frame} {visited : List Bool} {left : List ℕ}
      (known : AllByRecursion (IsSiteOf functions tables) sites) (more : frame.place ≢ length sites) (on : IsOnWay target (frame ∷ below) visited left) where
    abbrev called : List ℕ
    called = callees tables (get_or sites frame.place no_site).target

    abbrev entered_by : List ℕ
    entered_by = functions_of tables sites without functions (frame ∷ below)

    here : frame.place < length sites
    here = omega (arith, on.frames.0.within, more)

    small : AllByRecursion (λ c. c < functions) called
    small = (all-at (IsSiteOf functions tables) sites frame.place no_site known here).target.all

    -- the marks and the path tell the same callee
    found_too : find (λ f. not (is_visited entered_by (come left) f)) called ≡ find (λ f. not (is_marked visited f)) called
    found_too = sym (find-same (λ f. not (is_marked visited f)) (λ f. not (is_visited entered_by (come left) f)) called
        (callees_marked (frame ∷ below) visited left called on.marks small))

    -- the callee that isn't marked
    pub callee_found : (g : ℕ) → find (λ f. not (is_marked visited f)) called ≡ Some g → IsUnvisited functions visited g
    callee_found g found = unmarked-found functions visited called g on.each small found

    -- a function is entered
    pub IsOnWay-enter : (g place : ℕ) → find (λ f. not (is_marked visited f)) called ≡ Some g → LeadsTo sites without g 0 place →
        IsOnWay target (record { function = g; place = place } ∷ frame ∷ below) (set visited g true) left
    IsOnWay-enter g place found leads =
        let holds = callee_found g found in
        let out : not (is_visited entered_by (come left) g) ≡ true = ap not (sym (on.marks g holds.function) ∙ holds.out) in
        let off : has g entered_by ≡ false = by_test (has g entered_by) (λ t. true_false false (let z : false ≡ true = rw t at out in z) refl) (λ e. e) in
        let all_below : AllByRecursion (λ f. f < functions) entered_by = paths_below (frame ∷ below) on.frames in
        let room : suc (length entered_by) ≤ functions = once-length functions (g ∷ entered_by) (off, on.once) (holds.function, all_below) in
        let as_long : length entered_by ≡ suc (length below) = length-map (frame ∷ below) (λ (f : Frame). f.function) in
        let mine = on.frames.0.mine no_site here in
        let finishes = finish-enter tables sites without functions frame below left g place no_site here mine (omega arith) leads (found_too ∙ found) in
        record {
          each = length-set visited g true ∙ on.each;
          frames = (frame-led g 0 place holds.function leads, on.frames);
          once = (off, on.once);
          marks = λ f lt. set-marks (frame ∷ below) visited left g f on.each holds.function lt (on.marks f lt);
          below = on.below;
          finishes = sym finishes ∙ on.finishes;
        }
      where
        paths_below : (frames : List Frame) → AllByRecursion IsFrame frames →
            AllByRecursion (λ f. f < functions) (functions_of tables sites without functions frames)
        paths_below [] all = tt
        paths_below (fr ∷ frs) all = (all.0.function, paths_below frs all.1)

    -- on to the next site
    pub IsOnWay-on : (next : ℕ) → find (λ f. not (is_marked visited f)) called ≡ None → LeadsTo sites without frame.function (frame.place + 1) next →
        IsOnWay target (record { function = frame.function; place = next } ∷ below) visited left
    IsOnWay-on next none leads = record {
      each = on.each;
      frames = (frame-led frame.function (frame.place + 1) next on.frames.0.function leads, on.frames.1);
      once = on.once;
      marks = on.marks;
      below = on.below;
      finishes = sym (finish-on tables sites without functions frame below left next no_site here (on.frames.0.mine no_site here) leads (found_too ∙ none))
          ∙ on.finishes;
    }

  -- the walk is over
  pub IsOnWay-over : (target : List ℕ) (visited : List Bool) (left : List ℕ) → IsOnWay target [] visited left → (left ≡ target) × IsMarked functions visited left
  IsOnWay-over target visited left on = (on.finishes, record { each = on.each; marks = on.marks; below = on.below })

-- ---- the work that is left

abbrev pub remaining : ℕ → List Frame → ℕ
remaining sites [] = 0
remaining sites (frame ∷ below) = (suc sites - frame.place) + remaining sites below

abbrev pub work : ℕ → List Bool → List Frame → ℕ
work sites visited frames = unmarked visited * (sites + 2) + remaining sites frames

pub work-enter : (sites : ℕ) (visited : List Bool) (frame : Frame) (frames : List Frame) (g : ℕ) → g < length visited → is_marked visited g ≡ false →
    work sites (set visited g true) (frame ∷ frames) < work sites visited frames
work-enter sites visited frame frames g within out =
    let one = unmarked-set visited g within out in
    let u = unmarked (set visited g true) in
    rw one (omega arith)
