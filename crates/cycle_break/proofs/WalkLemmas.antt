-- What a walk does: it leaves the function that it begins with, and finds a site to be a back edge exactly where a callee of
-- the site isn't left before its caller.
use Rattle.cycle_break.proofs.Common.{◌≡◌, ◌≢◌, ◌⊎◌, inl, inr, ℕ, zero, suc, ◌+◌, ◌<◌, ◌≤◌, ◌==◌, Bool, true, false, not, if◌then◌else◌, List, [], ◌∷◌, length, map, refl, sym, ap, ◌∙◌, subst, arith, nat_tests, AllByRecursion, list_any, GraphSite, callees, CallGraphState, function_count, IsSiteOf, IsCallGraph, IsRising, IsAmong, sites_of, has, IsOnce, by_test, Walked, start, is_visited, note, into_each, through, walk, whole_walk, numbers_from, All-weaker}
use Rattle.cycle_break.proofs.NumberLemmas.{has-head, has-tail, has-cases, not_has, not_has-cons, true_false, once-length}
use Rattle.cycle_break.proofs.SiteLemmas.{IsOwn, all-own, own-among, among-all, same-number, rising-filter}

-- whether one of these functions is not among those that were left
abbrev pub is_late : List ℕ → List ℕ → Bool
is_late older fs = list_any (λ f. not (has f older)) fs

-- no function on the path was left
abbrev pub Apart : List ℕ → Walked → Type 0
Apart path walked = (f : ℕ) → has f path ≡ true → has f walked.left ≡ false

module _ (graph : CallGraphState) (without : List ℕ) where
  -- a function's sites are back edges exactly where a callee isn't among the older functions
  abbrev pub IsSettled : List ℕ → List ℕ → ℕ → Type 0
  IsSettled back older f =
      (s : GraphSite) → IsOwn graph.sites without f s → has s.number back ≡ is_late older (callees graph.tables s.target)

  abbrev pub AreSettled : List ℕ → List ℕ → Type 0
  AreSettled back [] = Unit {0}
  AreSettled back (f ∷ older) = IsSettled back older f × AreSettled back older

  -- no site is a back edge so far whose caller wasn't visited
  abbrev pub Unmarked : List ℕ → Walked → Type 0
  Unmarked path walked =
      (s : GraphSite) → IsAmong graph.sites s → has s.caller walked.left ≡ false → has s.caller path ≡ false → has s.number walked.back ≡ false

  -- the sites of a function that was left before, or isn't left after, are back edges as before
  abbrev pub Keeps : Walked → Walked → Type 0
  Keeps old new =
      (s : GraphSite) → IsAmong graph.sites s → (has s.caller old.left ≡ true) ⊎ (has s.caller new.left ≡ false) → has s.number new.back ≡ has s.number old.back

  pub record IsReady (depth : ℕ) (path : List ℕ) (walked : Walked) : Type 0 where
    pub room : depth + length path ≡ function_count graph
    pub once : IsOnce path
    pub below : AllByRecursion (λ f. f < function_count graph) path
    pub apart : Apart path walked
    pub settled : AreSettled walked.back walked.left
    pub unmarked : Unmarked path walked

  pub record HasGone (path : List ℕ) (old new : Walked) : Type 0 where
    pub grows : (f : ℕ) → has f old.left ≡ true → has f new.left ≡ true
    pub apart : Apart path new
    pub settled : AreSettled new.back new.left
    pub keeps : Keeps old new

  -- what was left isn't unleft
  pub not_before : (path : List ℕ) (old new : Walked) (f : ℕ) → HasGone path old new → has f new.left ≡ false → has f old.left ≡ false
  not_before path old new f gone h = by_test (has f old.left) (λ t. true_false _ (gone.grows f t) h) (λ e. e)

  pub HasGone-refl : (depth : ℕ) (path : List ℕ) (walked : Walked) → IsReady depth path walked → HasGone path walked walked
  HasGone-refl depth path walked ready = record { grows = λ f h. h; apart = ready.apart; settled = ready.settled; keeps = λ s a b. refl }

  pub HasGone-trans : (path : List ℕ) (a b c : Walked) → HasGone path a b → HasGone path b c → HasGone path a c
  HasGone-trans path a b c first second = record {
    grows = λ f h. second.grows f (first.grows f h);
    apart = second.apart;
    settled = second.settled;
    keeps = λ s among when. elim when [
      | inl before ↦ second.keeps s among (inl (first.grows s.caller before)) ∙ first.keeps s among (inl before)
      | inr after ↦ second.keeps s among (inr after) ∙ first.keeps s among (inr (not_before path b c s.caller second after))
    ];
  }

  -- after a walk it is ready to go on
  pub IsReady-after : (depth : ℕ) (path : List ℕ) (old new : Walked) → IsReady depth path old → HasGone path old new → IsReady depth path new
  IsReady-after depth path old new ready gone = record {
    room = ready.room;
    once = ready.once;
    below = ready.below;
    apart = gone.apart;
    settled = gone.settled;
    unmarked = λ s among out off. gone.keeps s among (inr out) ∙ ready.unmarked s among (not_before path old new s.caller gone out) off;
  }

  -- the walks of functions of some depth do what they should
  abbrev pub GoesWell : ℕ → (List ℕ → ℕ → Walked → Walked) → Type 0
  GoesWell depth go =
      (path : List ℕ) (f : ℕ) (walked : Walked) → IsReady depth path walked → f < function_count graph → has f path ≡ false → has f walked.left ≡ false →
      HasGone path walked (go path f walked) × (has f (go path f walked).left ≡ true)

  -- after it each function was visited
  abbrev pub AllVisited : List ℕ → Walked → List ℕ → Type 0
  AllVisited path walked fs = AllByRecursion (λ f. is_visited path walked f ≡ true) fs

  visited-after : (path : List ℕ) (old new : Walked) (f : ℕ) → HasGone path old new → is_visited path old f ≡ true → is_visited path new f ≡ true
  visited-after path old new f gone h =
      by_test (has f path) (λ t. rw t refl) (λ e. let l : has f old.left ≡ true = rw e at h in rw (e, gone.grows f l) refl)

  unvisited : (path : List ℕ) (walked : Walked) (f : ℕ) → is_visited path walked f ≡ false → (has f path ≡ false) × (has f walked.left ≡ false)
  unvisited path walked f h =
      by_test (has f path) (λ t. true_false true refl (rw t at h)) (λ e. (e, rw e at h))

  -- one function of a list
  abbrev step_into : (List ℕ → ℕ → Walked → Walked) → List ℕ → ℕ → Walked → Walked
  step_into go path f walked = if is_visited path walked f then walked else go path f walked

  step-goes : (depth : ℕ) (go : List ℕ → ℕ → Walked → Walked) → GoesWell depth go → (path : List ℕ) (f : ℕ) (walked : Walked) → IsReady depth path walked → f < function_count graph →
      HasGone path walked (step_into go path f walked) × (is_visited path (step_into go path f walked) f ≡ true)
  step-goes depth go well path f walked ready below =
      by_test (is_visited path walked f)
      (λ t. rw t (HasGone-refl depth path walked ready, t))
      (λ e. let off = unvisited path walked f e in
      let went = well path f walked ready below off.0 off.1 in
      rw e (went.0, rw (off.0, went.1) refl))

  pub into_each-goes : (depth : ℕ) (go : List ℕ → ℕ → Walked → Walked) → GoesWell depth go → (path fs : List ℕ) (walked : Walked) → IsReady depth path walked →
      AllByRecursion (λ f. f < function_count graph) fs →
      HasGone path walked (into_each go path fs walked) × AllVisited path (into_each go path fs walked) fs
  into_each-goes depth go well path [] walked ready below = (HasGone-refl depth path walked ready, tt)
  into_each-goes depth go well path (f ∷ fs) walked ready below =
      let once = step-goes depth go well path f walked ready below.0 in
      let next = step_into go path f walked in
      let rest = into_each-goes depth go well path fs next (IsReady-after depth path walked next ready once.0) below.1 in
      (HasGone-trans path walked next _ once.0 rest.0, (visited-after path next _ f rest.0 once.1, rest.1))

  -- ---- through the sites of a function

  -- on the path, or not left
  on_path-late : (path : List ℕ) (walked : Walked) (fs : List ℕ) → Apart path walked → AllVisited path walked fs → list_any (λ f. has f path) fs ≡ is_late walked.left fs
  on_path-late path walked [] apart all = refl
  on_path-late path walked (f ∷ fs) apart all =
      let rest = on_path-late path walked fs apart all.1 in
      by_test (has f path)
      (λ t. rw (t, apart f t) refl)
      (λ e. let l : has f walked.left ≡ true = rw e at all.0 in rw (e, l) rest)

  late-after : (path : List ℕ) (old new : Walked) (fs : List ℕ) → ((f : ℕ) → has f old.left ≡ true → has f new.left ≡ true) → Apart path new → AllVisited path old fs → is_late old.left fs ≡ is_late new.left fs
  late-after path old new [] grows apart all = refl
  late-after path old new (f ∷ fs) grows apart all =
      let rest = late-after path old new fs grows apart all.1 in
      by_test (has f path)
      (λ t. by_test (has f old.left) (λ l. true_false (has f new.left) (grows f l) (apart f t)) (λ l. rw (l, apart f t) refl))
      (λ e. let l : has f old.left ≡ true = rw e at all.0 in rw (l, grows f l) rest)

  -- what noting a site changes
  pub note-left : (path : List ℕ) (s : GraphSite) (walked : Walked) → (note graph.tables path s walked).left ≡ walked.left
  note-left path s walked = by_test (list_any (λ f. has f path) (callees graph.tables s.target)) (λ t. rw t refl) (λ e. rw e refl)

  note-other : (path : List ℕ) (s : GraphSite) (walked : Walked) (n : ℕ) → s.number ≢ n → has n (note graph.tables path s walked).back ≡ has n walked.back
  note-other path s walked n ne =
      let other : (s.number == n) ≡ false = grind (arith, nat_tests, ne) in
      by_test (list_any (λ f. has f path) (callees graph.tables s.target)) (λ t. rw (t, other) refl) (λ e. rw e refl)

  note-same : (path : List ℕ) (s : GraphSite) (walked : Walked) → has s.number walked.back ≡ false → has s.number (note graph.tables path s walked).back ≡ list_any (λ f. has f path) (callees graph.tables s.target)
  note-same path s walked fresh =
      by_test (list_any (λ f. has f path) (callees graph.tables s.target)) (λ t. rw t (has-head s.number walked.back)) (λ e. rw e fresh)

  -- sites of two callers have two numbers
  apart-numbers : IsRising graph.sites → (s t : GraphSite) → IsAmong graph.sites s → IsAmong graph.sites t → s.caller ≢ t.caller → s.number ≢ t.number
  apart-numbers rising s t hs ht ne e = ne (ap (λ (x : GraphSite). x.caller) (same-number graph.sites s t rising hs ht e))

  foreign : IsRising graph.sites → (f : ℕ) (ss : List GraphSite) (s : GraphSite) → AllByRecursion (IsOwn graph.sites without f) ss → IsAmong graph.sites s → s.caller ≢ f → has s.number (map (λ x. x.number) ss) ≡ false
  foreign rising f [] s own among ne = refl
  foreign rising f (t ∷ ss) s own among ne =
      let callers : t.caller ≢ s.caller = λ e. ne (sym e ∙ own.0.caller) in
      not_has-cons s.number t.number (map (λ x. x.number) ss) (apart-numbers rising t s own.0.among among callers) (foreign rising f ss s own.1 among ne)

  later : (n : ℕ) (ss : List GraphSite) → AllByRecursion (λ (t : GraphSite). n < t.number) ss → has n (map (λ x. x.number) ss) ≡ false
  later n [] all = refl
  later n (t ∷ ss) all = let ne : t.number ≢ n = omega (arith, all.0) in not_has-cons n t.number (map (λ x. x.number) ss) ne (later n ss all.1)

  settled-note : IsRising graph.sites → (path : List ℕ) (s : GraphSite) (walked : Walked) (left : List ℕ) → IsAmong graph.sites s → has s.caller left ≡ false →
      AreSettled walked.back left → AreSettled (note graph.tables path s walked).back left
  settled-note rising path s walked [] among out all = tt
  settled-note rising path s walked (g ∷ left) among out all =
      let off = not_has s.caller g left out in (
        (λ t own. let callers : s.caller ≢ t.caller = λ e. off.0 (sym own.caller ∙ sym e) in
            note-other path s walked t.number (apart-numbers rising s t among own.among callers) ∙ all.0 t own),
        settled-note rising path s walked left among off.1 all.1,
      )

  record IsUnder (depth : ℕ) (path : List ℕ) (f : ℕ) (ss : List GraphSite) (walked : Walked) : Type 0 where
    pub ready : IsReady depth (f ∷ path) walked
    pub own : AllByRecursion (IsOwn graph.sites without f) ss
    pub rising : IsRising ss
    pub fresh : AllByRecursion (λ (s : GraphSite). has s.number walked.back ≡ false) ss
    pub below : AllByRecursion (λ (s : GraphSite). AllByRecursion (λ c. c < function_count graph) (callees graph.tables s.target)) ss

  record HasTaken (path : List ℕ) (f : ℕ) (ss : List GraphSite) (old new : Walked) : Type 0 where
    pub grows : (g : ℕ) → has g old.left ≡ true → has g new.left ≡ true
    pub apart : Apart (f ∷ path) new
    pub settled : AreSettled new.back new.left
    pub keeps : (s : GraphSite) → IsAmong graph.sites s → (has s.caller old.left ≡ true) ⊎ ((has s.caller new.left ≡ false) × (has s.number (map (λ x. x.number) ss) ≡ false)) →
        has s.number new.back ≡ has s.number old.back
    pub each : AllByRecursion (λ (s : GraphSite). has s.number new.back ≡ is_late new.left (callees graph.tables s.target)) ss

  -- the next site, once its callees were visited
  noted : IsRising graph.sites → (depth : ℕ) (path : List ℕ) (f : ℕ) (s : GraphSite) (ss : List GraphSite) (old walked : Walked) → IsUnder depth path f (s ∷ ss) old →
      HasGone (f ∷ path) old walked → IsUnder depth path f ss (note graph.tables (f ∷ path) s walked)
  noted rising depth path f s ss old walked under gone =
      let ready = IsReady-after depth (f ∷ path) old walked under.ready gone in
      let out : has f walked.left ≡ false = gone.apart f (has-head f path) in
      let stays : (t : GraphSite) → IsOwn graph.sites without f t → has t.number old.back ≡ false → has t.number walked.back ≡ false =
      λ t own fresh. gone.keeps t own.among (inr (let z : has t.caller walked.left ≡ false = rw own.caller out in z)) ∙ fresh in
      let left_same = note-left (f ∷ path) s walked in
      record {
        ready = record {
          room = ready.room;
          once = ready.once;
          below = ready.below;
          apart = λ g h. ap (has g) left_same ∙ ready.apart g h;
          settled = let P : List ℕ → Type 0 = λ l. AreSettled (note graph.tables (f ∷ path) s walked).back l in
              subst P (sym left_same) (settled-note rising (f ∷ path) s walked walked.left under.own.0.among (rw under.own.0.caller out) ready.settled);
          unmarked = λ t among off on. let off' : has t.caller walked.left ≡ false = ap (has t.caller) (sym left_same) ∙ off in
              let ne : f ≢ t.caller = (not_has t.caller f path on).0 in
              let callers : s.caller ≢ t.caller = λ e. ne (sym under.own.0.caller ∙ e) in
              note-other (f ∷ path) s walked t.number (apart-numbers rising s t under.own.0.among among callers) ∙ ready.unmarked t among off' on;
        };
        own = under.own.1;
        rising = under.rising.1;
        fresh = fresh_after ss under.own.1 under.rising.0 under.fresh.1 stays;
        below = under.below.1;
      }
    where
      fresh_after : (ts : List GraphSite) → AllByRecursion (IsOwn graph.sites without f) ts → AllByRecursion (λ (t : GraphSite). s.number < t.number) ts → AllByRecursion (λ (t : GraphSite). has t.number old.back ≡ false) ts →
          ((t : GraphSite) → IsOwn graph.sites without f t → has t.number old.back ≡ false → has t.number walked.back ≡ false) →
          AllByRecursion (λ (t : GraphSite). has t.number (note graph.tables (f ∷ path) s walked).back ≡ false) ts
      fresh_after [] own more fresh stays = tt
      fresh_after (t ∷ ts) own more fresh stays =
          let ne : s.number ≢ t.number = omega (arith, more.0) in
          (note-other (f ∷ path) s walked t.number ne ∙ stays t own.0 fresh.0, fresh_after ts own.1 more.1 fresh.1 stays)

  through-goes : IsRising graph.sites → (depth : ℕ) (go : List ℕ → ℕ → Walked → Walked) → GoesWell depth go → (path : List ℕ) (f : ℕ) (ss : List GraphSite) (walked : Walked) →
      IsUnder depth path f ss walked → HasTaken path f ss walked (through go graph.tables (f ∷ path) ss walked)
  through-goes rising depth go well path f [] walked under =
      record { grows = λ g h. h; apart = under.ready.apart; settled = under.ready.settled; keeps = λ s a b. refl; each = tt }
  through-goes rising depth go well path f (s ∷ ss) walked under =
      let cs = callees graph.tables s.target in
      let one = into_each go (f ∷ path) cs walked in
      let went = into_each-goes depth go well (f ∷ path) cs walked under.ready under.below.0 in
      let two = note graph.tables (f ∷ path) s one in
      let three = through go graph.tables (f ∷ path) ss two in
      let rest = through-goes rising depth go well path f ss two (noted rising depth path f s ss walked one under went.0) in
      let left_same : two.left ≡ one.left = note-left (f ∷ path) s one in
      let grows : (g : ℕ) → has g one.left ≡ true → has g three.left ≡ true = λ g h. rest.grows g (ap (has g) left_same ∙ h) in
      let before : (g : ℕ) → has g three.left ≡ false → has g one.left ≡ false = λ g h. by_test (has g one.left) (λ t. true_false _ (grows g t) h) (λ e. e) in
      let out : has f one.left ≡ false = went.0.apart f (has-head f path) in
      let fresh : has s.number one.back ≡ false =
      went.0.keeps s under.own.0.among (inr (let z : has s.caller one.left ≡ false = rw under.own.0.caller out in z)) ∙ under.fresh.0 in
      let mine : has s.caller three.left ≡ false = rw under.own.0.caller (rest.apart f (has-head f path)) in
      record {
        grows = λ g h. grows g (went.0.grows g h);
        apart = rest.apart;
        settled = rest.settled;
        keeps = λ t among when. elim when [
          | inl was ↦
              let was_one : has t.caller one.left ≡ true = went.0.grows t.caller was in
              let callers : s.caller ≢ t.caller = λ e. true_false (has t.caller one.left) was_one (let z : has t.caller one.left ≡ false = rw (← e, under.own.0.caller) out in z) in
              rest.keeps t among (inl (ap (has t.caller) left_same ∙ was_one))
              ∙ note-other (f ∷ path) s one t.number (apart-numbers rising s t under.own.0.among among callers)
              ∙ went.0.keeps t among (inl was)
          | inr never ↦
              let off = not_has t.number s.number (map (λ x. x.number) ss) never.1 in
              rest.keeps t among (inr (never.0, off.1))
              ∙ note-other (f ∷ path) s one t.number off.0
              ∙ went.0.keeps t among (inr (before t.caller never.0))
        ];
        each = (
          rest.keeps s under.own.0.among (inr (mine, later s.number ss under.rising.0))
              ∙ note-same (f ∷ path) s one fresh
              ∙ on_path-late (f ∷ path) one cs went.0.apart went.1
              ∙ late-after (f ∷ path) one three cs grows rest.apart went.1,
          rest.each,
        );
      }

  -- ---- a function

  below_callees : IsCallGraph graph → (f : ℕ) → AllByRecursion (λ (s : GraphSite). AllByRecursion (λ c. c < function_count graph) (callees graph.tables s.target)) (sites_of graph.sites without f)
  below_callees kept f =
      All-weaker (IsOwn graph.sites without f) (λ s. AllByRecursion (λ c. c < function_count graph) (callees graph.tables s.target))
      (λ s own. (among-all (IsSiteOf (function_count graph) graph.tables) graph.sites s kept.sites own.among).target.all)
      (sites_of graph.sites without f) (all-own graph.sites without f)

  pub walk-goes : IsCallGraph graph → (depth : ℕ) → GoesWell depth (walk graph.tables graph.sites without depth)
  unfolding walk
  walk-goes kept zero path f walked ready below off out =
      let more : suc (length path) ≤ function_count graph = once-length (function_count graph) (f ∷ path) (off, ready.once) (below, ready.below) in
      absurd (omega (arith, more, ready.room))
  walk-goes kept (suc depth) path f walked ready below off out =
      let ss = sites_of graph.sites without f in
      let all = all-own graph.sites without f in
      let under : IsUnder depth path f ss walked = record {
        ready = record {
          room = omega (arith, ready.room);
          once = (off, ready.once);
          below = (below, ready.below);
          apart = λ g h. has-cases g f path h (λ e. let P : ℕ → Type 0 = λ n. has n walked.left ≡ false in subst P e out) (λ rest. ready.apart g rest);
          settled = ready.settled;
          unmarked = λ s among a b. ready.unmarked s among a (not_has s.caller f path b).1;
        };
        own = all;
        rising = rising-filter _ graph.sites kept.rising;
        fresh = All-weaker (IsOwn graph.sites without f) (λ s. has s.number walked.back ≡ false) (λ s own. ready.unmarked s own.among (rw own.caller out) (rw own.caller off)) ss all;
        below = below_callees kept f;
      } in
      let taken = through-goes kept.rising depth (walk graph.tables graph.sites without depth) (walk-goes kept depth) path f ss walked under in
      let new = through (walk graph.tables graph.sites without depth) graph.tables (f ∷ path) ss walked in (
        record {
          grows = λ g h. has-tail g f new.left (taken.grows g h);
          apart = λ g h. not_has-cons g f new.left (λ e. true_false (has g path) h (let P : ℕ → Type 0 = λ n. has n path ≡ false in subst P e off)) (taken.apart g (has-tail g f path h));
          settled = (
            (λ s own. among-all (λ t. has t.number new.back ≡ is_late new.left (callees graph.tables t.target)) ss s taken.each
                (let P : ℕ → Type 0 = λ n. IsAmong (sites_of graph.sites without n) s in subst P own.caller (own-among graph.sites without s own.among own.kept))),
            taken.settled,
          );
          keeps = λ s among when. elim when [
            | inl was ↦ taken.keeps s among (inl was)
            | inr never ↦ let apart = not_has s.caller f new.left never in
                taken.keeps s among (inr (apart.1, foreign kept.rising f ss s all among (λ e. apart.0 (sym e))))
          ];
        },
        has-head f new.left,
      )

  -- ---- the whole walk

  pub IsReady-start : IsReady (function_count graph) [] start
  IsReady-start = record {
    room = omega arith;
    once = tt;
    below = tt;
    apart = λ f h. refl;
    settled = tt;
    unmarked = λ s a b c. refl;
  }

  numbers-below : (first count : ℕ) → first + count ≡ function_count graph → AllByRecursion (λ f. f < function_count graph) (numbers_from first count)
  numbers-below first zero e = tt
  numbers-below first (suc count) e = (omega arith, numbers-below (first + 1) count (omega arith))

  visited-numbers : (walked : Walked) (first count f : ℕ) → AllVisited [] walked (numbers_from first count) → first ≤ f → f < first + count → has f walked.left ≡ true
  visited-numbers walked first zero f all ge lt = absurd (omega arith)
  visited-numbers walked first (suc count) f all ge lt =
      by_test (first == f)
      (λ e. let same : first ≡ f = grind (arith, nat_tests) in let P : ℕ → Type 0 = λ n. has n walked.left ≡ true in subst P same all.0)
      (λ e. let ne : first ≢ f = grind (arith, nat_tests) in visited-numbers walked (first + 1) count f all.1 (omega arith) (omega arith))

  -- every function is left, and each site is found to be a back edge exactly where a callee isn't left before its caller
  pub record IsWhole (walked : Walked) : Type 0 where
    pub all : (f : ℕ) → f < function_count graph → has f walked.left ≡ true
    pub settled : AreSettled walked.back walked.left

  pub whole_walk-is : IsCallGraph graph → IsWhole (whole_walk graph without)
  whole_walk-is kept =
      let went = into_each-goes (function_count graph) (walk graph.tables graph.sites without (function_count graph)) (walk-goes kept (function_count graph)) []
      (graph.main ∷ numbers_from 0 (function_count graph)) start IsReady-start (kept.main, numbers-below 0 (function_count graph) (omega arith)) in
      record {
        all = λ f h. visited-numbers (whole_walk graph without) 0 (function_count graph) f went.1.1 (omega arith) (omega arith);
        settled = went.0.settled;
      }
