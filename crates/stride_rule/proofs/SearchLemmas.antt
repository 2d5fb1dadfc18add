-- A search through the clients finds the lawful choice.
use Rattle.stride_rule.proofs.Common.{◌≡◌, ◌≢◌, ℕ, ◌==◌, ◌&&◌, if◌then◌else◌, Bool, true, false, IsTrue, Option, Some, None, List, [], ◌∷◌, refl, sym, ap, ◌∙◌, subst, ◌⊎◌, inl, inr, arith, ⊤, AllByRecursion, list_all, nat_tests, ThreadId, Bounds, is_met, Client, Row, IsFirstEligible, IsLawfulStrideThread, IsAbsent, client_of, is_before, is_running, better, found_with, found_among, is_before_best, met_with, met_among, clients_of, needs_in, need_of, AreOnce, waiting_in, by_test}
use Rattle.stride_rule.specs.declared.searching.Found.{Found}
use Rattle.stride_rule.proofs.ClientLemmas.{other_number}
use Rattle.stride_rule.proofs.NotingLemmas.{all_wait}
use Rattle.stride_rule.proofs.OrderLemmas.{goes_before-self, goes_before-asym, goes_before-cotrans}

-- what is found with all these clients
abbrev pub found_from : (ThreadId → Bool) → Option ℕ → Found → List Client → Found
found_from eligible running found [] = found
found_from eligible running found (client ∷ clients) = found_from eligible running (found_with eligible running found client) clients

abbrev pub found_in : (ThreadId → Bool) → Option ℕ → List Client → Found
found_in eligible running clients = found_from eligible running (record { best = None; all = true }) clients

-- the first alone, where all clients wait: of the first so far and one more client
abbrev pub first_with : (ThreadId → Bool) → Option Client → Client → Option Client
first_with eligible best client = if is_before_best client best && eligible client.thread then Some client else best

abbrev pub first_from : (ThreadId → Bool) → Option Client → List Client → Option Client
first_from eligible best [] = best
first_from eligible best (client ∷ clients) = first_from eligible (first_with eligible best client) clients

abbrev pub first_in : (ThreadId → Bool) → List Client → Option Client
first_in eligible clients = first_from eligible None clients

is_before-self : (a : Client) → is_before a a ≡ false
is_before-self a = goes_before-self a.pass a.thread.number

is_before-asym : (a b : Client) → is_before a b ≡ true → is_before b a ≡ false
is_before-asym a b h = goes_before-asym a.pass a.thread.number b.pass b.thread.number h

is_before-cotrans : (a b c : Client) → is_before a b ≡ false → is_before b c ≡ false → is_before a c ≡ false
is_before-cotrans a b c h k = goes_before-cotrans a.pass a.thread.number b.pass b.thread.number c.pass c.thread.number h k

-- the client stands in the list
abbrev pub Lies : Client → List Client → Type 0
Lies b [] = ⊥
Lies b (c ∷ cs) = (c ≡ b) ⊎ Lies b cs

pub once-waiting : (running : Option ℕ) (cs : List Client) → AreOnce cs → AreOnce (waiting_in running cs)
once-waiting running [] once = tt
once-waiting running (c ∷ cs) once =
    by_test (is_running running c) _
    (λ runs. rw runs (once-waiting running cs once.1))
    (λ waits. rw waits (absent-waiting running c.thread.number cs once.0, once-waiting running cs once.1)) where
      absent-waiting : (running : Option ℕ) (number : ℕ) (cs : List Client) → IsAbsent number cs → IsAbsent number (waiting_in running cs)
      absent-waiting running number [] none = tt
      absent-waiting running number (c ∷ cs) none =
          by_test (is_running running c) _
          (λ runs. rw runs (absent-waiting running number cs none.1))
          (λ waits. rw waits (none.0, absent-waiting running number cs none.1))

lies-other : (number : ℕ) (b : Client) (cs : List Client) → IsAbsent number cs → Lies b cs → b.thread.number ≢ number
lies-other number b [] none lies e = absurd lies
lies-other number b (c ∷ cs) none (inl is) e = none.0 (ap (λ (v : Client). v.thread.number) is ∙ e)
lies-other number b (c ∷ cs) none (inr lies) e = lies-other number b cs none.1 lies e

-- a client that stands in the list is that of its thread
pub client-of_lies : (b : Client) (cs : List Client) → AreOnce cs → Lies b cs → client_of b.thread.number cs ≡ Some b
client-of_lies b [] once lies = absurd lies
client-of_lies b (c ∷ cs) once (inl is) =
    let same : (c.thread.number == b.thread.number) ≡ true = let e : c.thread.number ≡ b.thread.number = ap (λ (v : Client). v.thread.number) is in grind (arith, nat_tests) in
    rw same (ap (λ (v : Client). Some v) is)
client-of_lies b (c ∷ cs) once (inr lies) =
    let other : (c.thread.number == b.thread.number) ≡ false = other_number _ _ (λ e. lies-other c.thread.number b cs once.0 lies (sym e)) in
    rw other (client-of_lies b cs once.1 lies)

module _ (eligible : ThreadId → Bool) (running : Option ℕ) where
  -- what is said of clients that a best one stands before
  abbrev pub IsNoneEligible : List Client → Type 0
  IsNoneEligible waiting = AllByRecursion (λ c. eligible c.thread ≡ false) waiting

  abbrev pub IsNoneBefore : Client → List Client → Type 0
  IsNoneBefore b waiting = AllByRecursion (λ c. IsTrue (eligible c.thread) → is_before c b ≡ false) waiting

  -- the best before is no better than the best now
  abbrev pub NoBetter : Option Client → Client → Type 0
  NoBetter None b = ⊤
  NoBetter (Some a) b = is_before a b ≡ false

  pub record IsBestNow (before : Option Client) (waiting : List Client) (b : Client) : Type 0 where
    pub from : (before ≡ Some b) ⊎ (Lies b waiting × (eligible b.thread ≡ true))
    pub no_better : NoBetter before b
    pub first : IsNoneBefore b waiting

  abbrev pub IsBest : Option Client → List Client → Option Client → Type 0
  IsBest before waiting None = (before ≡ None) × IsNoneEligible waiting
  IsBest before waiting (Some b) = IsBestNow before waiting b

  nothing_more : (before : Option Client) → IsBest before [] before
  nothing_more None = (refl, tt)
  nothing_more (Some b) = record { from = inl refl; no_better = is_before-self b; first = tt }

  -- a client that isn't eligible changes nothing
  passed_over : (before : Option Client) (c : Client) (waiting : List Client) (best : Option Client) → eligible c.thread ≡ false →
      IsBest before waiting best → IsBest before (c ∷ waiting) best
  passed_over before c waiting None failing is = (is.0, (failing, is.1))
  passed_over before c waiting (Some b) failing is = record { from = later is.from; no_better = is.no_better; first = ((λ passing. absurd (let both : true ≡ false = sym passing ∙ failing in cc)), is.first) } where
    later : (before ≡ Some b) ⊎ (Lies b waiting × (eligible b.thread ≡ true)) → (before ≡ Some b) ⊎ (Lies b (c ∷ waiting) × (eligible b.thread ≡ true))
    later (inl e) = inl e
    later (inr l) = inr (inr l.0, l.1)

  -- an eligible client is compared with the best before
  come_from : (c b : Client) (waiting : List Client) (before : Option Client) → eligible c.thread ≡ true →
      (Some c ≡ Some b) ⊎ (Lies b waiting × (eligible b.thread ≡ true)) → (before ≡ Some b) ⊎ (Lies b (c ∷ waiting) × (eligible b.thread ≡ true))
  come_from c b waiting before passing (inl e) =
      let is : c ≡ b = cc in inr (inl is, subst (λ (v : Client). eligible v.thread ≡ true) is passing)
  come_from c b waiting before passing (inr l) = inr (inr l.0, l.1)

  stay_from : (a c b : Client) (waiting : List Client) → (Some a ≡ Some b) ⊎ (Lies b waiting × (eligible b.thread ≡ true)) →
      (Some a ≡ Some b) ⊎ (Lies b (c ∷ waiting) × (eligible b.thread ≡ true))
  stay_from a c b waiting (inl e) = inl e
  stay_from a c b waiting (inr l) = inr (inr l.0, l.1)

  taken : (before : Option Client) (c : Client) (waiting : List Client) (best : Option Client) → eligible c.thread ≡ true →
      NoBetter before c → IsBest (Some c) waiting best → IsBest before (c ∷ waiting) best
  taken before c waiting None passing worse is = absurd (let e : Some c ≡ None = is.0 in cc)
  taken None c waiting (Some b) passing worse is = record { from = come_from c b waiting None passing is.from; no_better = tt; first = ((λ _. is.no_better), is.first) }
  taken (Some a) c waiting (Some b) passing worse is = record {
    from = come_from c b waiting (Some a) passing is.from;
    no_better = is_before-cotrans a c b worse is.no_better;
    first = ((λ _. is.no_better), is.first);
  }

  kept : (a c : Client) (waiting : List Client) (best : Option Client) → is_before c a ≡ false → IsBest (Some a) waiting best → IsBest (Some a) (c ∷ waiting) best
  kept a c waiting None later is = absurd (let e : Some a ≡ None = is.0 in cc)
  kept a c waiting (Some b) later is = record {
    from = stay_from a c b waiting is.from;
    no_better = is.no_better;
    first = ((λ _. is_before-cotrans c a b later is.no_better), is.first);
  }

  compared : (before : Option Client) (c : Client) (waiting : List Client) (best : Option Client) → eligible c.thread ≡ true →
      IsBest (better before c) waiting best → IsBest before (c ∷ waiting) best
  compared None c waiting best passing is = taken None c waiting best passing tt is
  compared (Some a) c waiting best passing is =
      by_test (is_before c a) _
      (λ first. taken (Some a) c waiting best passing (is_before-asym c a first) (rw first at is))
      (λ later. kept a c waiting best later (rw later at is))

  -- ---- one more client

  abbrev with_one : Found → Client → Found
  with_one f c = found_with eligible running f c

  runs_on : (f : Found) (c : Client) → is_running running c ≡ true → with_one f c ≡ f
  runs_on f c runs = rw runs refl

  takes_one : (f : Found) (c : Client) → is_running running c ≡ false → eligible c.thread ≡ true → with_one f c ≡ record { best = better f.best c; all = f.all }
  takes_one f c waits passing = rw (waits, passing) refl

  skips_one : (f : Found) (c : Client) → is_running running c ≡ false → eligible c.thread ≡ false → with_one f c ≡ record { best = f.best; all = false }
  skips_one f c waits failing = rw (waits, failing) refl

  abbrev waiting : List Client → List Client
  waiting cs = waiting_in running cs

  without_one : (c : Client) (cs : List Client) → is_running running c ≡ true → waiting (c ∷ cs) ≡ waiting cs
  without_one c cs runs = rw runs refl

  one_waits : (c : Client) (cs : List Client) → is_running running c ≡ false → waiting (c ∷ cs) ≡ c ∷ waiting cs
  one_waits c cs waits = rw waits refl

  -- what is found from `g` on, of these that wait
  abbrev BestIs : Found → List Client → Found → List Client → Type 0
  BestIs f ws g cs = IsBest f.best ws (found_from eligible running g cs).best

  moved : (f g h : Found) (ws vs : List Client) (cs : List Client) → g ≡ h → ws ≡ vs → BestIs f vs h cs → BestIs f ws g cs
  moved f g h ws vs cs same also is =
      subst (λ (v : Found). BestIs f ws v cs) (sym same) (subst (λ (v : List Client). BestIs f v h cs) (sym also) is)

  pub best_from : (f : Found) (cs : List Client) → IsBest f.best (waiting_in running cs) (found_from eligible running f cs).best
  best_from f [] = nothing_more f.best
  best_from f (c ∷ cs) =
      by_test (is_running running c) (BestIs f (waiting (c ∷ cs)) (with_one f c) cs)
      (λ runs. moved f (with_one f c) f (waiting (c ∷ cs)) (waiting cs) cs (runs_on f c runs) (without_one c cs runs) (best_from f cs))
      (λ waits.
      by_test (eligible c.thread) (BestIs f (waiting (c ∷ cs)) (with_one f c) cs)
      (λ passing.
      let g : Found = record { best = better f.best c; all = f.all } in
      moved f (with_one f c) g (waiting (c ∷ cs)) (c ∷ waiting cs) cs (takes_one f c waits passing) (one_waits c cs waits)
      (compared f.best c (waiting cs) (found_from eligible running g cs).best passing (best_from g cs)))
      (λ failing.
      let g : Found = record { best = f.best; all = false } in
      moved f (with_one f c) g (waiting (c ∷ cs)) (c ∷ waiting cs) cs (skips_one f c waits failing) (one_waits c cs waits)
      (passed_over f.best c (waiting cs) (found_from eligible running g cs).best failing (best_from g cs))))

  -- ---- whether all are eligible

  abbrev all_after : Found → List Client → Bool
  all_after f cs = (found_from eligible running f cs).all

  abbrev all_pass : List Client → Bool
  all_pass ws = list_all (λ c. eligible c.thread) ws

  none_all : (cs : List Client) (best : Option Client) → all_after (record { best = best; all = false }) cs ≡ false
  none_all [] best = refl
  none_all (c ∷ cs) best =
      let f : Found = record { best = best; all = false } in
      by_test (is_running running c) (all_after (with_one f c) cs ≡ false)
      (λ runs. ap (λ (v : Found). all_after v cs) (runs_on f c runs) ∙ none_all cs best)
      (λ waits.
      by_test (eligible c.thread) (all_after (with_one f c) cs ≡ false)
      (λ passing. ap (λ (v : Found). all_after v cs) (takes_one f c waits passing) ∙ none_all cs (better best c))
      (λ failing. ap (λ (v : Found). all_after v cs) (skips_one f c waits failing) ∙ none_all cs best))

  passes_one : (c : Client) (ws : List Client) → eligible c.thread ≡ true → all_pass (c ∷ ws) ≡ all_pass ws
  passes_one c ws passing = rw passing refl

  fails_one : (c : Client) (ws : List Client) → eligible c.thread ≡ false → all_pass (c ∷ ws) ≡ false
  fails_one c ws failing = rw failing refl

  pub all_from : (cs : List Client) (best : Option Client) →
      (found_from eligible running (record { best = best; all = true }) cs).all ≡ list_all (λ c. eligible c.thread) (waiting_in running cs)
  all_from [] best = refl
  all_from (c ∷ cs) best =
      let f : Found = record { best = best; all = true } in
      by_test (is_running running c) (all_after (with_one f c) cs ≡ all_pass (waiting (c ∷ cs)))
      (λ runs. ap (λ (v : Found). all_after v cs) (runs_on f c runs) ∙ all_from cs best ∙ sym (ap (λ (ws : List Client). all_pass ws) (without_one c cs runs)))
      (λ waits.
      by_test (eligible c.thread) (all_after (with_one f c) cs ≡ all_pass (waiting (c ∷ cs)))
      (λ passing.
      ap (λ (v : Found). all_after v cs) (takes_one f c waits passing) ∙ all_from cs (better best c)
      ∙ sym (ap (λ (ws : List Client). all_pass ws) (one_waits c cs waits) ∙ passes_one c (waiting cs) passing))
      (λ failing.
      ap (λ (v : Found). all_after v cs) (skips_one f c waits failing) ∙ none_all cs best
      ∙ sym (ap (λ (ws : List Client). all_pass ws) (one_waits c cs waits) ∙ fails_one c (waiting cs) failing)))

  -- ---- the choice

  chosen_from : (b : Client) (waiting : List Client) → AreOnce waiting → IsBestNow None waiting b → (all : Bool) → all ≡ list_all (λ c. eligible c.thread) waiting →
      IsFirstEligible waiting eligible (record { thread = b.thread; all = all })
  chosen_from b waiting once is all e = record {
    client = b;
    waits = client-of_lies b waiting once (there is.from).0;
    thread_is = refl;
    passes = (there is.from).1;
    first = is.first;
    all_is = e;
  } where
    there : (None ≡ Some b) ⊎ (Lies b waiting × (eligible b.thread ≡ true)) → Lies b waiting × (eligible b.thread ≡ true)
    there (inl failing) = absurd cc
    there (inr l) = l

  pub first_found : (cs : List Client) (b : Client) → AreOnce cs → (found_in eligible running cs).best ≡ Some b →
      IsFirstEligible (waiting_in running cs) eligible (record { thread = b.thread; all = (found_in eligible running cs).all })
  first_found cs b once e =
      let best : IsBest None (waiting_in running cs) (Some b) =
      subst (λ (o : Option Client). IsBest None (waiting_in running cs) o) e (best_from (record { best = None; all = true }) cs) in
      chosen_from b (waiting_in running cs) (once-waiting running cs once) best (found_in eligible running cs).all (all_from cs None)

  pub none_found : (cs : List Client) → (found_in eligible running cs).best ≡ None →
      AllByRecursion (λ c. eligible c.thread ≡ false) (waiting_in running cs)
  none_found cs e =
      let best : IsBest None (waiting_in running cs) None =
      subst (λ (o : Option Client). IsBest None (waiting_in running cs) o) e (best_from (record { best = None; all = true }) cs) in
      best.1

-- ---- the first alone

module _ (eligible : ThreadId → Bool) where
  abbrev alone : Option Client → Found
  alone best = record { best = best; all = false }

  -- one more client, by whether it is eligible and whether it goes before the best so far
  one_alone_by : (best : Option Client) (c : Client) (passes : Bool) → eligible c.thread ≡ passes → found_with eligible None (alone best) c ≡ alone (first_with eligible best c)
  one_alone_by None c true e = rw e refl
  one_alone_by None c false e = rw e refl
  one_alone_by (Some b) c true e = compared_by (is_before c b) refl where
    compared_by : (goes : Bool) → is_before c b ≡ goes → found_with eligible None (alone (Some b)) c ≡ alone (first_with eligible (Some b) c)
    compared_by true f = rw (e, f) refl
    compared_by false f = rw (e, f) refl
  one_alone_by (Some b) c false e = compared_by (is_before c b) refl where
    compared_by : (goes : Bool) → is_before c b ≡ goes → found_with eligible None (alone (Some b)) c ≡ alone (first_with eligible (Some b) c)
    compared_by true f = rw (e, f) refl
    compared_by false f = rw (e, f) refl

  alone_from : (best : Option Client) (cs : List Client) → (found_from eligible None (alone best) cs).best ≡ first_from eligible best cs
  alone_from best [] = refl
  alone_from best (c ∷ cs) =
      ap (λ (f : Found). (found_from eligible None f cs).best) (one_alone_by best c (eligible c.thread) refl) ∙ alone_from (first_with eligible best c) cs

  best_alone : (running : Option ℕ) (cs : List Client) → running ≡ None → IsBest eligible running None (waiting_in running cs) (first_in eligible cs)
  best_alone running cs none =
      subst (λ (r : Option ℕ). IsBest eligible r None (waiting_in r cs) (first_in eligible cs)) (sym none)
      (subst (λ (o : Option Client). IsBest eligible None None (waiting_in None cs) o) (alone_from None cs) (best_from eligible None (alone None) cs))

  pub first_alone : (running : Option ℕ) (cs : List Client) (b : Client) → running ≡ None → AreOnce cs → Some b ≡ first_in eligible cs →
      IsLawfulStrideThread (waiting_in running cs) eligible (Some b.thread)
  first_alone running cs b none once e =
      let best : IsBest eligible running None (waiting_in running cs) (Some b) =
      subst (λ (o : Option Client). IsBest eligible running None (waiting_in running cs) o) (sym e) (best_alone running cs none) in
      chosen_from eligible running b (waiting_in running cs) (once-waiting running cs once) best (list_all (λ c. eligible c.thread) (waiting_in running cs)) refl

  pub none_alone : (running : Option ℕ) (cs : List Client) → running ≡ None → None ≡ first_in eligible cs →
      IsLawfulStrideThread (waiting_in running cs) eligible None
  none_alone running cs none e =
      let best : IsBest eligible running None (waiting_in running cs) None =
      subst (λ (o : Option Client). IsBest eligible running None (waiting_in running cs) o) (sym e) (best_alone running cs none) in
      best.1

-- ---- a search through places

pub found_among_is : (eligible : ThreadId → Bool) (running : Option ℕ) (f : Found) (ps : List (Option Row)) → found_among eligible running f ps ≡ found_from eligible running f (clients_of ps)
found_among_is eligible running f [] = refl
found_among_is eligible running f (None ∷ ps) = found_among_is eligible running f ps
found_among_is eligible running f (Some r ∷ ps) = found_among_is eligible running (found_with eligible running f r.client) ps

-- ---- a search by needs

module _ (bounds : Bounds) (test : ThreadId → Bool) where
  -- the need at each place is met exactly where its thread passes
  abbrev pub AreRowsExact : List (Option Row) → Type 0
  AreRowsExact [] = ⊤
  AreRowsExact (None ∷ ps) = AreRowsExact ps
  AreRowsExact (Some r ∷ ps) = (is_met bounds r.need ≡ test r.client.thread) × AreRowsExact ps

  abbrev IsExact : List (Option Row) → Client → Type 0
  IsExact ps c = is_met bounds (need_of c.thread.number (needs_in ps)) ≡ test c.thread

  -- those behind the first place
  tail_exact : (r : Row) (ps : List (Option Row)) (cs : List Client) → IsAbsent r.client.thread.number cs → AllByRecursion (IsExact (Some r ∷ ps)) cs → AllByRecursion (IsExact ps) cs
  tail_exact r ps [] none all = tt
  tail_exact r ps (c ∷ cs) none all =
      let other : (r.client.thread.number == c.thread.number) ≡ false = other_number _ _ (λ e. none.0 (sym e)) in
      (rw other at all.0, tail_exact r ps cs none.1 all.1)

  pub rows_exact : (ps : List (Option Row)) → AreOnce (clients_of ps) → AllByRecursion (IsExact ps) (clients_of ps) → AreRowsExact ps
  rows_exact [] once all = tt
  rows_exact (None ∷ ps) once all = rows_exact ps once all
  rows_exact (Some r ∷ ps) once all =
      let same : (r.client.thread.number == r.client.thread.number) ≡ true = grind (arith, nat_tests) in
      (rw same at all.0, rows_exact ps once.1 (tail_exact r ps (clients_of ps) once.0 all.1))

  pub met_among_is : (best : Option Client) (ps : List (Option Row)) → AreRowsExact ps → met_among bounds best ps ≡ first_from test best (clients_of ps)
  met_among_is best [] exact = refl
  met_among_is best (None ∷ ps) exact = met_among_is best ps exact
  met_among_is best (Some r ∷ ps) exact =
      let same : met_with bounds best (Some r) ≡ first_with test best r.client = rw exact.0 refl in
      rw same (met_among_is (first_with test best r.client) ps exact.1)

  -- ---- the choice by needs

  pub first_met_is : (running : Option ℕ) (ps : List (Option Row)) (b : Client) → running ≡ None → AreOnce (clients_of ps) →
      AllByRecursion (IsExact ps) (waiting_in running (clients_of ps)) → Some b ≡ met_among bounds None ps → IsLawfulStrideThread (waiting_in running (clients_of ps)) test (Some b.thread)
  first_met_is running ps b none once exact e =
      first_alone test running (clients_of ps) b none once
      (e ∙ met_among_is None ps (rows_exact ps once (subst (λ (cs : List Client). AllByRecursion (IsExact ps) cs) (all_wait running (clients_of ps) none) exact)))

  pub none_met_is : (running : Option ℕ) (ps : List (Option Row)) → running ≡ None → AreOnce (clients_of ps) →
      AllByRecursion (IsExact ps) (waiting_in running (clients_of ps)) → None ≡ met_among bounds None ps → IsLawfulStrideThread (waiting_in running (clients_of ps)) test None
  none_met_is running ps none once exact e =
      none_alone test running (clients_of ps) none
      (e ∙ met_among_is None ps (rows_exact ps once (subst (λ (cs : List Client). AllByRecursion (IsExact ps) cs) (all_wait running (clients_of ps) none) exact)))
