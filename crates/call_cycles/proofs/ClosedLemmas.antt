-- Functions that are marked together with all that they call, and those that are found to lie on no cycle.
use Rattle.call_cycles.proofs.Common.{◌≡◌, inl, inr, ⊎_elim, ◌⊎◌, ℕ, ◌<◌, Bool, true, false, List, [], ◌∷◌, ◌++◌, length, replicate, set, refl, sym, ◌∙◌, subst, arith, cases_lt, get_or-replicate, get_or-set_same, get_or-set_other, get_or_past, length-replicate, FlatCode, has, by_eq, true_false, Calls, IsWay, IsOnCycle, AreOffCycles, IsClosed, Marks, is_marked, mark-stays}
use Rattle.call_cycles.proofs.MarkLemmas.{has-either, has-left, has-last, marked-below}

pub none-marked : (n g : ℕ) → is_marked (replicate n false) g ≡ true → ⊥
none-marked n g h =
    ⊎_elim
    (λ lt. true_false (is_marked (replicate n false) g) h (get_or-replicate n g false false lt))
    (λ le. true_false (is_marked (replicate n false) g) h (get_or_past (replicate n false) g false (let e = length-replicate n false in omega (arith, e, le))))
    (cases_lt g n)

-- ---- the walk from a function, where marked functions lead to marked ones alone

-- how far the walk has come: all that the function calls is marked; what a marked function calls is marked, unless it is still to be
-- looked at
pub record IsSpread (code : FlatCode) (f functions : ℕ) (marks : List Bool) (left : List ℕ) : Type 0 where
  pub each : length marks ≡ functions
  pub first : (g : ℕ) → Calls code f g → is_marked marks g ≡ true
  pub closed : (g : ℕ) → is_marked marks g ≡ true → (has g left ≡ true) ⊎ ((h : ℕ) → Calls code g h → is_marked marks h ≡ true)
  pub waiting : (g : ℕ) → has g left ≡ true → is_marked marks g ≡ true

module _ (code : FlatCode) (f functions : ℕ) where
  pub spread-first : (marks marks' : List Bool) (left : List ℕ) → length marks ≡ functions → IsClosed code marks → Marks (Calls code f) marks [] marks' left → IsSpread code f functions marks' left
  spread-first marks marks' left each closed new = record {
    each = new.each ∙ each;
    first = new.done;
    closed = λ g h. ⊎_elim (λ was. inr (λ k call. new.kept k (closed g k was call))) (λ there. inl there) (new.later g h);
    waiting = λ g h. ⊎_elim (λ none. true_false false none refl) (λ marked. marked) (new.added g h);
  }

  pub spread-more : (next : ℕ) (marks : List Bool) (left : List ℕ) (marks' : List Bool) (left' : List ℕ) → IsSpread code f functions marks (left ++ next ∷ []) → Marks (Calls code next) marks left marks' left' →
      IsSpread code f functions marks' left'
  spread-more next marks left marks' left' was new = record {
    each = new.each ∙ was.each;
    first = λ g call. new.kept g (was.first g call);
    closed = λ g h.
        ⊎_elim
        (λ old. ⊎_elim
        (λ waits. ⊎_elim
        (λ before. inl (new.still g before))
        (λ e. inr (λ k call. new.done k (subst (λ (n : ℕ). Calls code n k) (sym e) call)))
        (has-either g next left waits))
        (λ all. inr (λ k call. new.kept k (all k call)))
        (was.closed g old))
        (λ added. inl added)
        (new.later g h);
    waiting = λ g h. ⊎_elim (λ before. new.kept g (was.waiting g (has-left g left (next ∷ []) before))) (λ marked. marked) (new.added g h);
  }

  -- the function that the walk takes next
  pub spread-next : (next : ℕ) (marks : List Bool) (left : List ℕ) → IsSpread code f functions marks (left ++ next ∷ []) →
      (is_marked marks next ≡ true) × (next < functions)
  spread-next next marks left spread =
      let marked = spread.waiting next (has-last next left) in
      (marked, omega (arith, marked-below marks next marked, spread.each))

  -- nothing is left
  spread-closed : (marks : List Bool) → IsSpread code f functions marks [] → IsClosed code marks
  spread-closed marks spread = λ g h marked call. ⊎_elim (λ none. true_false false none refl) (λ all. all h call) (spread.closed g marked)

  pub spread-end : (marks : List Bool) (left : List ℕ) → length left ≡ 0 → IsSpread code f functions marks left → IsClosed code marks
  spread-end marks [] none spread = spread-closed marks spread
  spread-end marks (x ∷ left) none spread = absurd (omega arith)

  -- the function itself is marked too
  pub closed-set : (marks : List Bool) (left : List ℕ) → f < length marks → IsSpread code f functions marks left → IsClosed code marks → IsClosed code (set marks f true)
  closed-set marks left within spread closed = λ g h marked call.
      by_eq g f
      (λ e. mark-stays marks f h within (spread.first h (subst (λ (n : ℕ). Calls code n h) e call)))
      (λ ne. mark-stays marks f h within (closed g h (sym (get_or-set_other marks f g true false ne) ∙ marked) call))

-- a way from a marked function leads to one
way-marked : (code : FlatCode) (marks : List Bool) (g h : ℕ) (way : List ℕ) → IsClosed code marks → is_marked marks g ≡ true → IsWay code g way h → is_marked marks h ≡ true
way-marked code marks g h [] closed marked e = subst (λ (n : ℕ). is_marked marks n ≡ true) e marked
way-marked code marks g h (next ∷ way) closed marked w = way-marked code marks next h way closed (closed g next marked w.0) w.1

-- so a function that the walk didn't reach lies on no cycle
pub unreached-off : (code : FlatCode) (f functions : ℕ) (marks : List Bool) (left : List ℕ) → length left ≡ 0 → IsSpread code f functions marks left →
    is_marked marks f ≡ false → IsOnCycle code f → ⊥
unreached-off code f functions marks left none spread out cycle =
    let closed = spread-end code f functions marks left none spread in
    true_false (is_marked marks f) (way-marked code marks cycle.first f cycle.rest closed (spread.first cycle.first cycle.call) cycle.way) out

-- ---- what was found

pub off-more : (code : FlatCode) (off : List Bool) (f : ℕ) (found : Bool) → f < length off → (found ≡ true → IsOnCycle code f → ⊥) → AreOffCycles code off → AreOffCycles code (set off f found)
off-more code off f found within here was = λ g marked cycle.
    by_eq g f
    (λ e. here (sym (get_or-set_same off f found false within) ∙ subst (λ (n : ℕ). is_marked (set off f found) n ≡ true) e marked) (subst (IsOnCycle code) e cycle))
    (λ ne. was g (sym (get_or-set_other off f g found false ne) ∙ marked) cycle)
