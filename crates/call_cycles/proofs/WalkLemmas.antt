-- What calls lead to, and the least function on a cycle.
use Rattle.call_cycles.proofs.Common.{◌≡◌, ⊎_elim, ℕ, ◌<◌, Bool, true, List, [], ◌∷◌, ◌++◌, refl, sym, subst, Some, cases_lt, FlatCode, Calls, IsWay, Reaches, IsOnCycle, IsLeastOf, Marks, is_marked}

-- one call more
way-more : (code : FlatCode) (f g h : ℕ) (way : List ℕ) → IsWay code f way g → Calls code g h → IsWay code f (way ++ h ∷ []) h
way-more code f g h [] e call = (subst (λ (n : ℕ). Calls code n h) (sym e) call, refl)
way-more code f g h (next ∷ way) w call = (w.0, way-more code next g h way w.1 call)

pub reaches-more : (code : FlatCode) (f g h : ℕ) → Reaches code f g → Calls code g h → Reaches code f h
reaches-more code f g h r call = record { first = r.first; call = r.call; rest = r.rest ++ h ∷ []; way = way-more code r.first g h r.rest r.way call }

pub reaches-one : (code : FlatCode) (f g : ℕ) → Calls code f g → Reaches code f g
reaches-one code f g call = record { first = g; call = call; rest = []; way = refl }

-- what a walk marks at one more function is reached, if that function is
pub reached-more : (code : FlatCode) (f next : ℕ) (marks : List Bool) (left : List ℕ) (marks' : List Bool) (left' : List ℕ) →
    ((g : ℕ) → is_marked marks g ≡ true → Reaches code f g) → Reaches code f next → Marks (Calls code next) marks left marks' left' →
    (g : ℕ) → is_marked marks' g ≡ true → Reaches code f g
reached-more code f next marks left marks' left' was here new g marked = ⊎_elim (was g) (reaches-more code f next g here) (new.from g marked)

-- ---- the least of all

pub least-cycle : (code : FlatCode) (n : ℕ) → ((g : ℕ) → g < n → IsOnCycle code g → ⊥) → IsOnCycle code n → IsLeastOf (IsOnCycle code) (Some n)
least-cycle code n below here = record {
  holds = here;
  least = λ m cycle. ⊎_elim (λ lt. absurd (below m lt cycle)) (λ le. le) (cases_lt m n);
}
