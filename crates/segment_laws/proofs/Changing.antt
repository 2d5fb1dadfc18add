-- A record that is written, put or taken away, and the threads.
use Rattle.segment_laws.proofs.Common.{◌≡◌, ℕ, ◌+◌, ◌<◌, ◌≤◌, List, [], ◌∷◌, ◌++◌, length, Option, Some, None, refl, sym, ap, subst, ◌∙◌, arith, ⊎_elim, AllByRecursion, cases_eq, Thread, first_with, replaced, without, at_place, find_from, with_found, threads_from, threads_in, IsNumbered, IsOfRecord, KeepsRecords}
use Rattle.segment_laws.proofs.Finding.{finds, found, find_same}
use Rattle.segment_laws.proofs.Numbering.{AreNamed, first_found, first_back, all_found, threads_same, threads_replaced, threads_more, threads_without, length_less}

module _ {R : Type 0} (number_of : R → ℕ) where
  -- each thread has the number of its record
  abbrev pub HasNumbers : (ℕ → R → Thread) → Type 0
  HasNumbers thread_in = (k : ℕ) (s : R) → (thread_in k s).number ≡ number_of s

  pub named : (thread_in : ℕ → R → Thread) (slots : List (Option R)) → HasNumbers thread_in → AreNamed (find_from number_of thread_in 0 slots)
  named thread_in slots has number thread e = let h = found number_of thread_in slots number thread e in ap (λ (t : Thread). t.number) h.is ∙ has (0 + h.i) h.r ∙ h.number_is

  of_record : (thread_in : ℕ → R → Thread) (slots : List (Option R)) (number : ℕ) (thread : Thread) → find_from number_of thread_in 0 slots number ≡ Some thread → IsOfRecord number_of thread_in slots thread
  of_record thread_in slots number thread e =
      let h = found number_of thread_in slots number thread e in
      let sum : 0 + h.i ≡ h.i = omega arith in
      record { place = h.i; r = h.r; there = h.there; is = h.is ∙ ap (λ (k : ℕ). thread_in k h.r) sum }

  -- ---- found

  pub thread_found : (thread_in : ℕ → R → Thread) (slots : List (Option R)) (next place : ℕ) (r : R) → HasNumbers thread_in → IsNumbered number_of slots next → at_place slots place ≡ Some r → first_with (number_of r) (threads_in number_of thread_in slots next) ≡ Some (thread_in place r)
  thread_found thread_in slots next place r has numbered there =
      let less = numbered.below place r there in
      first_found (find_from number_of thread_in 0 slots) (number_of r) 0 next (named thread_in slots has) (omega arith) (omega (arith, less)) ∙ finds number_of thread_in slots next place r numbered there

  pub thread_back : (thread_in : ℕ → R → Thread) (slots : List (Option R)) (next number : ℕ) (thread : Thread) → HasNumbers thread_in → first_with number (threads_in number_of thread_in slots next) ≡ Some thread → IsOfRecord number_of thread_in slots thread × (thread.number ≡ number)
  thread_back thread_in slots next number thread has e =
      let is = first_back (find_from number_of thread_in 0 slots) number 0 next thread (named thread_in slots has) e in
      (of_record thread_in slots number thread is, named thread_in slots has number thread is)

  pub thread_members : (thread_in : ℕ → R → Thread) (slots : List (Option R)) (next : ℕ) → AllByRecursion (IsOfRecord number_of thread_in slots) (threads_in number_of thread_in slots next)
  thread_members thread_in slots next = all_found (IsOfRecord number_of thread_in slots) (find_from number_of thread_in 0 slots) 0 next (λ number thread e. of_record thread_in slots number thread e)

  -- ---- the same

  pub all_same : (thread_in thread_in' : ℕ → R → Thread) (slots slots' : List (Option R)) (next : ℕ) → IsNumbered number_of slots next → ((k : ℕ) → at_place slots' k ≡ at_place slots k) → ((k : ℕ) (s : R) → at_place slots k ≡ Some s → thread_in' k s ≡ thread_in k s) →
      IsNumbered number_of slots' next × (threads_in number_of thread_in' slots' next ≡ threads_in number_of thread_in slots next)
  all_same thread_in thread_in' slots slots' next numbered records threads =
      let numbered' : IsNumbered number_of slots' next = record {
        unique = λ i j r s at also same. numbered.unique i j r s (sym (records i) ∙ at) (sym (records j) ∙ also) same;
        below = λ i r at. numbered.below i r (sym (records i) ∙ at);
      } in (
        numbered',
        threads_same (find_from number_of thread_in 0 slots) (find_from number_of thread_in' 0 slots') 0 next
            (λ number low high. find_same number_of thread_in thread_in' slots slots' next next number numbered numbered'
            (λ i s at same. (records i ∙ at, threads i s at)) (λ i s at same. sym (records i) ∙ at)),
      )

  -- ---- written

  pub record_written : (thread_in thread_in' : ℕ → R → Thread) (slots slots' : List (Option R)) (next place : ℕ) (r r' : R) → HasNumbers thread_in → HasNumbers thread_in' → IsNumbered number_of slots next → at_place slots place ≡ Some r → at_place slots' place ≡ Some r' → number_of r' ≡ number_of r →
      KeepsRecords thread_in thread_in' slots slots' place → IsNumbered number_of slots' next × (threads_in number_of thread_in' slots' next ≡ replaced (thread_in' place r') (threads_in number_of thread_in slots next))
  record_written thread_in thread_in' slots slots' next place r r' has has' numbered was now same keeps = (
    numbered',
    threads_replaced (find_from number_of thread_in 0 slots) (find_from number_of thread_in' 0 slots') (thread_in' place r') 0 next (named thread_in slots has) others (thread_in place r)
        (ap (find_from number_of thread_in 0 slots) (has' place r' ∙ same) ∙ finds number_of thread_in slots next place r numbered was)
        (ap (find_from number_of thread_in' 0 slots') (has' place r') ∙ finds number_of thread_in' slots' next place r' numbered' now),
  )
    where
      -- the record at a place had the same number before
      before : (i : ℕ) (s : R) → at_place slots' i ≡ Some s → (t : R) × (at_place slots i ≡ Some t) × (number_of t ≡ number_of s)
      before i s at = ⊎_elim
          (λ (is : i ≡ place).
          let here : Some r' ≡ Some s = sym now ∙ ap (at_place slots') (sym is) ∙ at in
          let r_is : r' ≡ s = cc in
          (r, ap (at_place slots) is ∙ was, sym same ∙ ap number_of r_is))
          (λ (apart : i ≡ place → ⊥). (s, sym (keeps.records i apart) ∙ at, refl))
          (cases_eq i place)

      numbered' : IsNumbered number_of slots' next
      numbered' = record {
        unique = λ i j s t at also e.
            let first = before i s at in
            let second = before j t also in
            numbered.unique i j first.0 second.0 first.1 second.1 (first.2 ∙ e ∙ sym second.2);
        below = λ i s at. let first = before i s at in subst (λ (n : ℕ). n < next) first.2 (numbered.below i first.0 first.1);
      }

      others : (number : ℕ) → (number ≡ (thread_in' place r').number → ⊥) → find_from number_of thread_in' 0 slots' number ≡ find_from number_of thread_in 0 slots number
      others number apart = find_same number_of thread_in thread_in' slots slots' next next number numbered numbered'
          (λ i s at e.
          let away : i ≡ place → ⊥ = λ is.
          let here : Some r ≡ Some s = sym was ∙ ap (at_place slots) (sym is) ∙ at in
          let r_is : r ≡ s = cc in
          apart (sym e ∙ ap number_of (sym r_is) ∙ sym same ∙ sym (has' place r')) in
          (keeps.records i away ∙ at, keeps.threads i s away at))
          (λ i s at e.
          let away : i ≡ place → ⊥ = λ is.
          let here : Some r' ≡ Some s = sym now ∙ ap (at_place slots') (sym is) ∙ at in
          let r_is : r' ≡ s = cc in
          apart (sym e ∙ ap number_of (sym r_is) ∙ sym (has' place r')) in
          sym (keeps.records i away) ∙ at)

  -- ---- put at an empty place

  pub record_added : (thread_in thread_in' : ℕ → R → Thread) (slots slots' : List (Option R)) (next place : ℕ) (r : R) → IsNumbered number_of slots next → at_place slots place ≡ None → at_place slots' place ≡ Some r → number_of r ≡ next →
      KeepsRecords thread_in thread_in' slots slots' place → IsNumbered number_of slots' (next + 1) × (threads_in number_of thread_in' slots' (next + 1) ≡ threads_in number_of thread_in slots next ++ thread_in' place r ∷ [])
  record_added thread_in thread_in' slots slots' next place r numbered was now is keeps =
      let find' = find_from number_of thread_in' 0 slots' in
      let sum : 0 + next ≡ next = omega arith in
      let last : find' (0 + next) ≡ Some (thread_in' place r) = ap find' (sum ∙ sym is) ∙ finds number_of thread_in' slots' (next + 1) place r numbered' now in (
        numbered',
        threads_more find' 0 next ∙ ap (λ (found : Option Thread). threads_from find' 0 next ++ with_found found []) last
            ∙ ap (λ (ts : List Thread). ts ++ thread_in' place r ∷ []) (threads_same (find_from number_of thread_in 0 slots) find' 0 next others),
      )
    where
      -- a record elsewhere was there before
      before : (i : ℕ) (s : R) → (i ≡ place → ⊥) → at_place slots' i ≡ Some s → at_place slots i ≡ Some s
      before i s apart at = sym (keeps.records i apart) ∙ at

      at_new : (i : ℕ) (s : R) → i ≡ place → at_place slots' i ≡ Some s → number_of s ≡ next
      at_new i s same at =
          let here : Some r ≡ Some s = sym now ∙ ap (at_place slots') (sym same) ∙ at in
          let r_is : r ≡ s = cc in
          ap number_of (sym r_is) ∙ is

      less : (i : ℕ) (s : R) → (i ≡ place → ⊥) → at_place slots' i ≡ Some s → number_of s < next
      less i s apart at = numbered.below i s (before i s apart at)

      numbered' : IsNumbered number_of slots' (next + 1)
      numbered' = record {
        unique = λ i j s t at also e. ⊎_elim
            (λ (first : i ≡ place). ⊎_elim
            (λ (second : j ≡ place). first ∙ sym second)
            (λ (second : j ≡ place → ⊥). absurd (let high = at_new i s first at in let low = less j t second also in omega (arith, high, low, e)))
            (cases_eq j place))
            (λ (first : i ≡ place → ⊥). ⊎_elim
            (λ (second : j ≡ place). absurd (let low = less i s first at in let high = at_new j t second also in omega (arith, high, low, e)))
            (λ (second : j ≡ place → ⊥). numbered.unique i j s t (before i s first at) (before j t second also) e)
            (cases_eq j place))
            (cases_eq i place);
        below = λ i s at. ⊎_elim
            (λ (same : i ≡ place). let high = at_new i s same at in omega (arith, high))
            (λ (apart : i ≡ place → ⊥). let low = less i s apart at in omega (arith, low))
            (cases_eq i place);
      }

      others : (number : ℕ) → 0 ≤ number → number < 0 + next → find_from number_of thread_in' 0 slots' number ≡ find_from number_of thread_in 0 slots number
      others number low high = find_same number_of thread_in thread_in' slots slots' next (next + 1) number numbered numbered'
          (λ i s at e.
          let away : i ≡ place → ⊥ = λ same. (let both : None ≡ Some s = sym was ∙ ap (at_place slots) (sym same) ∙ at in cc) in
          (keeps.records i away ∙ at, keeps.threads i s away at))
          (λ i s at e.
          let away : i ≡ place → ⊥ = λ same. (let new = at_new i s same at in omega (arith, new, e, high)) in
          before i s away at)

  -- ---- taken away

  pub record_removed : (thread_in thread_in' : ℕ → R → Thread) (slots slots' : List (Option R)) (next place : ℕ) (r : R) → HasNumbers thread_in → IsNumbered number_of slots next → at_place slots place ≡ Some r → at_place slots' place ≡ None → KeepsRecords thread_in thread_in' slots slots' place →
      IsNumbered number_of slots' next × (threads_in number_of thread_in' slots' next ≡ without (number_of r) (threads_in number_of thread_in slots next)) × (length (without (number_of r) (threads_in number_of thread_in slots next)) + 1 ≡ length (threads_in number_of thread_in slots next))
  record_removed thread_in thread_in' slots slots' next place r has numbered was now keeps =
      let below = numbered.below place r was in (
        numbered',
        threads_without (find_from number_of thread_in 0 slots) (find_from number_of thread_in' 0 slots') (number_of r) 0 next (named thread_in slots has) others (gone (find_from number_of thread_in' 0 slots' (number_of r)) refl),
        length_less (find_from number_of thread_in 0 slots) (number_of r) 0 next (thread_in place r) (named thread_in slots has) (finds number_of thread_in slots next place r numbered was) (omega arith) (omega (arith, below)),
      )
    where
      away : (i : ℕ) (s : R) → at_place slots' i ≡ Some s → i ≡ place → ⊥
      away i s at same = let both : None ≡ Some s = sym now ∙ ap (at_place slots') (sym same) ∙ at in cc

      before : (i : ℕ) (s : R) → at_place slots' i ≡ Some s → at_place slots i ≡ Some s
      before i s at = sym (keeps.records i (away i s at)) ∙ at

      numbered' : IsNumbered number_of slots' next
      numbered' = record {
        unique = λ i j s t at also e. numbered.unique i j s t (before i s at) (before j t also) e;
        below = λ i s at. numbered.below i s (before i s at);
      }

      gone : (other : Option Thread) → find_from number_of thread_in' 0 slots' (number_of r) ≡ other → other ≡ None
      gone None e = refl
      gone (Some thread) e =
          let h = found number_of thread_in' slots' (number_of r) thread e in
          absurd (away h.i h.r h.there (numbered.unique h.i place h.r r (before h.i h.r h.there) was h.number_is))

      others : (number : ℕ) → (number ≡ number_of r → ⊥) → find_from number_of thread_in' 0 slots' number ≡ find_from number_of thread_in 0 slots number
      others number apart = find_same number_of thread_in thread_in' slots slots' next next number numbered numbered'
          (λ i s at e.
          let far : i ≡ place → ⊥ = λ same.
          let here : Some r ≡ Some s = sym was ∙ ap (at_place slots) (sym same) ∙ at in
          let r_is : r ≡ s = cc in
          apart (sym e ∙ ap number_of (sym r_is)) in
          (keeps.records i far ∙ at, keeps.threads i s far at))
          (λ i s at e. before i s at)
