-- A step of the world leaves every thread but the running one.
use Rattle.machine_world.proofs.Common.{◌≡◌, ◌≢◌, ℕ, Bool, nat_eq, not, List, [], ◌∷◌, ◌++◌, Some, None, refl, sym, ap, ◌∙◌, cond, ⊎_elim, cond_both, cases_eq, cond-false, eq-eqb, ne_eqb, eqb-true, KeepsThread, Thread, World, Setting, first_with, replaced, without, resumed, step}
use Rattle.machine_world.proofs.StepCases.{Ways, row_for, on_step, on_printed}
use Rattle.machine_world.proofs.CountedLaws.{first_with-number}

-- ---- threads by number

pub first_with-replaced : (number : ℕ) (new : Thread) (threads : List Thread) → number ≢ new.number → first_with number (replaced new threads) ≡ first_with number threads
first_with-replaced number new [] apart = refl
first_with-replaced number new (t ∷ ts) apart =
    let rest = first_with-replaced number new ts apart in
    cond_both (nat_eq t.number new.number) new t (λ (u : Thread). first_with number (u ∷ replaced new ts) ≡ first_with number (t ∷ ts))
    (λ same.
    let equal : t.number ≡ new.number = eqb-true t.number new.number same in
    cond-false (nat_eq new.number number) (Some new) (first_with number (replaced new ts)) (ne_eqb new.number number (λ e. apart (sym e)))
    ∙ rest
    ∙ sym (cond-false (nat_eq t.number number) (Some t) (first_with number ts) (ne_eqb t.number number (λ e. apart (sym e ∙ equal)))))
    (λ _. ap (cond (nat_eq t.number number) (Some t)) rest)

pub first_with-without : (number gone : ℕ) (threads : List Thread) → number ≢ gone → first_with number (without gone threads) ≡ first_with number threads
first_with-without number gone [] apart = refl
first_with-without number gone (t ∷ ts) apart =
    let rest = first_with-without number gone ts apart in
    ⊎_elim
    (λ (same : t.number ≡ gone).
    ap (λ (b : Bool). first_with number (cond (not b) (t ∷ without gone ts) (without gone ts))) (eq-eqb t.number gone same)
    ∙ rest
    ∙ sym (cond-false (nat_eq t.number number) (Some t) (first_with number ts) (ne_eqb t.number number (λ e. apart (sym e ∙ same)))))
    (λ differ.
    ap (λ (b : Bool). first_with number (cond (not b) (t ∷ without gone ts) (without gone ts))) (ne_eqb t.number gone differ)
    ∙ ap (cond (nat_eq t.number number) (Some t)) rest)
    (cases_eq t.number gone)

pub first_with-append : (number : ℕ) (new : Thread) (threads : List Thread) → number ≢ new.number → first_with number (threads ++ new ∷ []) ≡ first_with number threads
first_with-append number new [] apart = cond-false (nat_eq new.number number) (Some new) None (ne_eqb new.number number (λ e. apart (sym e)))
first_with-append number new (t ∷ ts) apart = ap (cond (nat_eq t.number number) (Some t)) (first_with-append number new ts apart)

-- ---- moves

module _ (s : Setting) (number : ℕ) (w : World) (old : number ≢ w.next) where
  kept_ways : (thread : Thread) → number ≢ thread.number → Ways s w (KeepsThread number w) thread
  kept_ways thread apart = record {
    goes = λ after e. first_with-replaced number _ w.threads apart;
    answers = λ ask still e. on_printed (KeepsThread number w) (row_for s w thread ask).prints _ (first_with-replaced number _ w.threads apart) (λ word some. first_with-replaced number _ w.threads apart);
    blocks = λ block. first_with-replaced number _ w.threads apart;
    spawns = λ entry argument need still taken e few some. first_with-append number _ (replaced (resumed thread (Some w.next)) w.threads) old ∙ first_with-replaced number _ w.threads apart;
    ends = λ areas e. first_with-without number thread.number w.threads apart;
  }

pub KeepsThread-step : (s : Setting) (number : ℕ) (w : World) → w.running ≢ Some number → number ≢ w.next → KeepsThread number w (step s w)
KeepsThread-step s number w apart old =
    on_step s w (KeepsThread number w) (λ stop. tt) tt
    (λ running thread runs there left. kept_ways s number w old thread (λ same. apart (runs ∙ ap Some (sym (same ∙ first_with-number running w.threads thread there)))))
