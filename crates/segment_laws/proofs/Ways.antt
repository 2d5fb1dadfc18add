-- Good steps of one thread, one after another: from states that are in place, each with a good access.
use Rattle.segment_laws.proofs.Common.{◌≡◌, ℕ, zero, suc, ◌+◌, List, refl, sym, ap, subst, arith, cond, nat_lt, Goes, copies_in, KeepsCopies, KeepsShape, Local, local_step, Checked, KeepsForm, KeepsForm-step, KeepsCopies-step, KeepsShape-step, shape_of}
use Rattle.machine_world.proofs.FormLaws as forms
use Rattle.chunk_pool.specs.declared.shape.Shape.{Shape}
pub use Rattle.segment_laws.specs.Ways.{Owns, HasForm, IsGoodState, WayIn, Leads, ComesTo}

way_joined : (c : Checked) (code : List ℕ) (m n : ℕ) (l middle after : Local) → WayIn c code m l middle → WayIn c code n middle after → WayIn c code (m + n) l after
way_joined c code zero n l middle after first second =
    let same : n ≡ zero + n = omega arith in
    subst (λ (k : ℕ). WayIn c code k l after) same (subst (λ (from : Local). WayIn c code n from after) (sym first) second)
way_joined c code (suc m) n l middle after first second =
    let same : suc (m + n) ≡ suc m + n = omega arith in
    subst (λ (k : ℕ). WayIn c code k l after) same (first.0, (first.1.0, first.1.1, way_joined c code m n first.1.0 middle after first.1.2 second))

pub Leads-none : (c : Checked) (code : List ℕ) (l : Local) → Leads c code 0 l l
Leads-none c code l = record { way = refl }

pub Leads-one : (c : Checked) (code : List ℕ) (l next : Local) → IsGoodState c code l → local_step code l ≡ Goes next → Leads c code 1 l next
Leads-one c code l next good e = record { way = (good, (next, e, refl)) }

pub Leads-then : (c : Checked) (code : List ℕ) (m n : ℕ) (l middle after : Local) → Leads c code m l middle → Leads c code n middle after → Leads c code (m + n) l after
Leads-then c code m n l middle after first second = record { way = way_joined c code m n l middle after first.way second.way }

-- ---- form

abbrev most_once : ℕ → ℕ → ℕ
most_once chunk count = cond (nat_lt chunk count) 1 0

-- each step keeps the form of areas and thread
pub HasForm-next : (c : Checked) (code : List ℕ) (l next : Local) → HasForm c l → local_step code l ≡ Goes next → HasForm c next
HasForm-next c code l next form e =
    let kept_form : forms.HasForm c l = record { areas = form.areas; core = form.core; owns = record { once = form.owns.once } } in
    let kept : KeepsForm c (Goes next) = subst (KeepsForm c) e (KeepsForm-step c code l kept_form) in
    let shape : shape_of next.areas.pool ≡ shape_of l.areas.pool = subst (KeepsShape l) e (KeepsShape-step code l) in
    record {
      areas = kept.0;
      core = kept.1;
      owns = record {
        once = λ chunk.
            let same : copies_in chunk next ≡ copies_in chunk l = subst (KeepsCopies chunk l) e (KeepsCopies-step code l chunk) in
            let count : most_once chunk next.areas.pool.count ≡ most_once chunk l.areas.pool.count = ap (λ (s : Shape). most_once chunk s.count) shape in
            omega (arith, same, count, form.owns.once chunk);
      };
    }
