-- Silent steps of the machine and of flat code, one after another.
use Rattle.segment_laws.proofs.Common.{◌≡◌, ℕ, zero, suc, ◌+◌, ◌<◌, List, refl, sym, ap, subst, ◌∙◌, arith, Move, Goes, moves, and_then, goes_on, Local, LocalMove, local_step, local_machine, Checked, Comes}
use Rattle.segment_laws.proofs.Ways.{HasForm, IsGoodState, WayIn, Leads, HasForm-next}

-- ---- steps of the machine

-- it goes on to one state
pub goes_one : {S W Q E : Type 0} (m : Move S W Q E) (s t : S) → m ≡ Goes s → m ≡ Goes t → s ≡ t
goes_one m s t a b = let both : Goes s ≡ Goes t = sym a ∙ b in cc

-- a first step, and then the others
pub Comes-suc : (code : List ℕ) (k : ℕ) (l next at : Local) → local_step code l ≡ Goes next → Comes code k next at → Comes code (suc k) l at
Comes-suc code k l next at step rest = ap (λ (m : LocalMove). and_then m (moves (local_machine code) k)) step ∙ rest

pub Comes-then : (code : List ℕ) (m n : ℕ) (l middle at : Local) → Comes code m l middle → Comes code n middle at → Comes code (m + n) l at
Comes-then code m n l middle at first second = goes_on (local_machine code) m n l middle first ∙ second

-- what is left of silent steps behind a state on the way
pub Comes-rest : (code : List ℕ) (m n k : ℕ) (l middle at : Local) → Comes code m l middle → m + n ≡ k → Comes code k l at → Comes code n middle at
Comes-rest code m n k l middle at first sum whole = sym (goes_on (local_machine code) m n l middle first) ∙ ap (λ (j : ℕ). moves (local_machine code) j l) sum ∙ whole

-- where steps went on, the first did
pub record IsFirst (code : List ℕ) (k : ℕ) (l at : Local) : Type 0 where
  pub next : Local
  pub step : local_step code l ≡ Goes next
  pub rest : Comes code k next at

first_of : (code : List ℕ) (k : ℕ) (l at : Local) (move : LocalMove) → local_step code l ≡ move → and_then move (moves (local_machine code) k) ≡ Goes at → IsFirst code k l at
first_of code k l at (Goes next) e rest = record { next = next; step = e; rest = rest }
first_of code k l at _ e rest = absurd cc

pub Comes-first : (code : List ℕ) (k : ℕ) (l at : Local) → Comes code (suc k) l at → IsFirst code k l at
Comes-first code k l at comes = first_of code k l at (local_step code l) refl comes

-- ---- form

pub HasForm-comes : (c : Checked) (code : List ℕ) (k : ℕ) (l at : Local) → HasForm c l → Comes code k l at → HasForm c at
HasForm-comes c code zero l at form comes = let same : l ≡ at = cc in subst (HasForm c) same form
HasForm-comes c code (suc k) l at form comes =
    let first = Comes-first code k l at comes in
    HasForm-comes c code k first.next at (HasForm-next c code l first.next form first.step) first.rest

-- ---- good steps

pub way_comes : (c : Checked) (code : List ℕ) (n : ℕ) (l after : Local) → WayIn c code n l after → Comes code n l after
way_comes c code zero l after way = ap Goes way
way_comes c code (suc n) l after way = Comes-suc code n l way.1.0 after way.1.1 (way_comes c code n way.1.0 after way.1.2)

pub Leads-comes : (c : Checked) (code : List ℕ) (n : ℕ) (l after : Local) → Leads c code n l after → Comes code n l after
Leads-comes c code n l after leads = way_comes c code n l after leads.way

-- a state strictly within good steps is good, and its step goes on
pub record IsWithin (c : Checked) (code : List ℕ) (at : Local) : Type 0 where
  pub good : IsGoodState c code at
  pub next : Local
  pub step : local_step code at ≡ Goes next

way_within : (c : Checked) (code : List ℕ) (n k : ℕ) (l after at : Local) → WayIn c code n l after → k < n → Comes code k l at → IsWithin c code at
way_within c code zero k l after at way lt comes = absurd (omega arith)
way_within c code (suc n) zero l after at way lt comes =
    let same : l ≡ at = cc in
    subst (IsWithin c code) same (record { good = way.0; next = way.1.0; step = way.1.1 })
way_within c code (suc n) (suc k) l after at way lt comes =
    let first = Comes-first code k l at comes in
    let same : first.next ≡ way.1.0 = goes_one (local_step code l) first.next way.1.0 first.step way.1.1 in
    way_within c code n k way.1.0 after at way.1.2 (omega arith) (subst (λ (s : Local). Comes code k s at) same first.rest)

pub Leads-within : (c : Checked) (code : List ℕ) (n k : ℕ) (l after at : Local) → Leads c code n l after → k < n → Comes code k l at → IsWithin c code at
Leads-within c code n k l after at leads lt comes = way_within c code n k l after at leads.way lt comes
