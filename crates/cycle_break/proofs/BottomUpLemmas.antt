-- Where the sites that are left out break every cycle, the walk finds no back edge, so it leaves the functions from the bottom up.
use Rattle.cycle_break.proofs.Common.{◌≡◌, ℕ, zero, suc, true, false, if◌then◌else◌, List, [], ◌∷◌, ◌++◌, refl, sym, ap, ◌∙◌, subst, AllByRecursion, list_any, GraphSite, callees, CallGraphState, function_count, IsCallGraph, sites_of, has, Call, IsCallBy, IsPath, BreaksEveryCycle, by_test, IsBottomUp, Walked, start, is_visited, note, into_each, through, walk, whole_walk, numbers_from, All-weaker}
use Rattle.cycle_break.proofs.NumberLemmas.{has-cases, has-head, has-tail, true_false}
use Rattle.cycle_break.proofs.SiteLemmas.{IsOwn, all-own}
use Rattle.cycle_break.proofs.WalkLemmas.{is_late, AreSettled, whole_walk-is}

module _ (graph : CallGraphState) (without : List ℕ) where
  -- a path of at least one call
  record Leads (from to : ℕ) : Type 0 where
    pub first : Call
    pub others : List Call
    pub path : IsPath graph without from (first ∷ others) to

  path-more : (from between to : ℕ) (calls : List Call) (call : Call) → IsPath graph without from calls between → IsCallBy graph without between call → call.callee ≡ to →
      IsPath graph without from (calls ++ call ∷ []) to
  path-more from between to [] call path by e = (subst (λ n. IsCallBy graph without n call) (sym path) by, e)
  path-more from between to (c ∷ calls) call path by e = (path.0, path-more c.callee between to calls call path.1 by e)

  leads-more : (from between to : ℕ) (call : Call) → Leads from between → IsCallBy graph without between call → call.callee ≡ to → Leads from to
  leads-more from between to call leads by e = record {
    first = leads.first;
    others = leads.others ++ call ∷ [];
    path = (leads.path.0, path-more leads.first.callee between to leads.others call leads.path.1 by e);
  }

  -- each function on the path leads to a function
  abbrev Linked : List ℕ → ℕ → Type 0
  Linked path f = (p : ℕ) → has p path ≡ true → Leads p f

  abbrev LeavesBack : (List ℕ → ℕ → Walked → Walked) → Type 0
  LeavesBack go = (path : List ℕ) (f : ℕ) (walked : Walked) → Linked path f → (go path f walked).back ≡ walked.back

  step-back : (go : List ℕ → ℕ → Walked → Walked) → LeavesBack go → (path : List ℕ) (f : ℕ) (walked : Walked) → Linked path f →
      (if is_visited path walked f then walked else go path f walked).back ≡ walked.back
  step-back go same path f walked linked = by_test (is_visited path walked f) (λ t. rw t refl) (λ e. rw e (same path f walked linked))

  into_each-back : (go : List ℕ → ℕ → Walked → Walked) → LeavesBack go → (path fs : List ℕ) (walked : Walked) → AllByRecursion (Linked path) fs → (into_each go path fs walked).back ≡ walked.back
  into_each-back go same path [] walked linked = refl
  into_each-back go same path (f ∷ fs) walked linked =
      into_each-back go same path fs (if is_visited path walked f then walked else go path f walked) linked.1 ∙ step-back go same path f walked linked.0

  module _ (acyclic : BreaksEveryCycle graph without) where
    call-of : (f : ℕ) (s : GraphSite) (c : ℕ) → IsOwn graph.sites without f s → has c (callees graph.tables s.target) ≡ true → IsCallBy graph without f (record { site = s; callee = c })
    call-of f s c own h = record { site = own.among; caller = own.caller; kept = own.kept; callee = h }

    -- a callee is reached from each function on the path
    linked-callee : (path : List ℕ) (f : ℕ) (s : GraphSite) (c : ℕ) → Linked path f → IsOwn graph.sites without f s → has c (callees graph.tables s.target) ≡ true → Linked (f ∷ path) c
    linked-callee path f s c linked own h p on =
        has-cases p f path on
        (λ e. record { first = record { site = s; callee = c }; others = []; path = (subst (λ n. IsCallBy graph without n (record { site = s; callee = c })) e (call-of f s c own h), refl) })
        (λ rest. leads-more p f c (record { site = s; callee = c }) (linked p rest) (call-of f s c own h) refl)

    linked-callees : (path : List ℕ) (f : ℕ) (s : GraphSite) → Linked path f → IsOwn graph.sites without f s → (cs : List ℕ) → ((c : ℕ) → has c cs ≡ true → has c (callees graph.tables s.target) ≡ true) →
        AllByRecursion (Linked (f ∷ path)) cs
    linked-callees path f s linked own [] sub = tt
    linked-callees path f s linked own (c ∷ cs) sub =
        (linked-callee path f s c linked own (sub c (has-head c cs)), linked-callees path f s linked own cs (λ d h. sub d (has-tail d c cs h)))

    -- so none is on the path
    off-path : (path : List ℕ) (cs : List ℕ) → AllByRecursion (Linked path) cs → list_any (λ c. has c path) cs ≡ false
    off-path path [] linked = refl
    off-path path (c ∷ cs) linked =
        let rest = off-path path cs linked.1 in
        by_test (has c path)
        (λ t. let cycle = linked.0 c t in absurd (acyclic c cycle.first cycle.others cycle.path))
        (λ e. rw (e, rest) refl)

    note-back : (path : List ℕ) (s : GraphSite) (walked : Walked) → list_any (λ c. has c path) (callees graph.tables s.target) ≡ false → (note graph.tables path s walked).back ≡ walked.back
    note-back path s walked off = rw off refl

    through-back : (go : List ℕ → ℕ → Walked → Walked) → LeavesBack go → (path : List ℕ) (f : ℕ) (ss : List GraphSite) (walked : Walked) → Linked path f → AllByRecursion (IsOwn graph.sites without f) ss →
        (through go graph.tables (f ∷ path) ss walked).back ≡ walked.back
    through-back go same path f [] walked linked own = refl
    through-back go same path f (s ∷ ss) walked linked own =
        let cs = callees graph.tables s.target in
        let all = linked-callees path f s linked own.0 cs (λ c h. h) in
        let one = into_each go (f ∷ path) cs walked in
        through-back go same path f ss (note graph.tables (f ∷ path) s one) linked own.1
        ∙ note-back (f ∷ path) s one (off-path (f ∷ path) cs all)
        ∙ into_each-back go same (f ∷ path) cs walked all

    walk-back : (depth : ℕ) → LeavesBack (walk graph.tables graph.sites without depth)
    unfolding walk
    walk-back zero path f walked linked = refl
    walk-back (suc depth) path f walked linked =
        through-back (walk graph.tables graph.sites without depth) (walk-back depth) path f (sites_of graph.sites without f) walked linked (all-own graph.sites without f)

    from-nowhere : (fs : List ℕ) → AllByRecursion (Linked []) fs
    from-nowhere [] = tt
    from-nowhere (f ∷ fs) = ((λ p h. true_false false h refl), from-nowhere fs)

    whole-back : (whole_walk graph without).back ≡ []
    whole-back =
        into_each-back (walk graph.tables graph.sites without (function_count graph)) (walk-back (function_count graph)) []
        (graph.main ∷ numbers_from 0 (function_count graph)) start (from-nowhere (graph.main ∷ numbers_from 0 (function_count graph)))

    all-early : (older cs : List ℕ) → is_late older cs ≡ false → AllByRecursion (λ c. has c older ≡ true) cs
    all-early older [] late = tt
    all-early older (c ∷ cs) late =
        by_test (has c older)
        (λ t. (t, all-early older cs (let z : is_late older cs ≡ false = rw t at late in z)))
        (λ e. true_false true refl (let z : true ≡ false = rw e at late in z))

    settled-up : (back left : List ℕ) → back ≡ [] → AreSettled graph without back left → IsBottomUp graph without left
    settled-up back [] none settled = tt
    settled-up back (f ∷ left) none settled = (
      All-weaker (IsOwn graph.sites without f) (λ s. AllByRecursion (λ c. has c left ≡ true) (callees graph.tables s.target))
          (λ s own. all-early left (callees graph.tables s.target) (sym (settled.0 s own) ∙ ap (has s.number) none)) (sites_of graph.sites without f) (all-own graph.sites without f),
      settled-up back left none settled.1,
    )

  pub whole_walk-up : IsCallGraph graph → BreaksEveryCycle graph without → IsBottomUp graph without (whole_walk graph without).left
  whole_walk-up kept acyclic = settled-up acyclic (whole_walk graph without).back (whole_walk graph without).left (whole-back acyclic) (whole_walk-is graph without kept).settled
