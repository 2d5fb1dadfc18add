-- The passes of a stride rule from call to call.
use Rattle.lawful_log.proofs.Common.{◌≡◌, ◌≢◌, ℕ, ◌+◌, ◌<◌, ◌≤◌, true, false, nat_eq, List, [], ◌∷◌, Some, refl, sym, ap, ◌∙◌, subst, arith, AllByRecursion, eq-eqb, ThreadId, PastChoice, pass_of, latest_pass, Need, StrideChoice, Client, client_of, with_growth, grown, StrideState, AreOnce, new_rule, with_client, after_choice, after_segment_for, after_leaving, stride_of, IsAtPass, HasPasses, StartedBy, by_test, eq_true}
use Rattle.choice_rules.proofs.Strides.{pass_of-newcomer, pass_of-chosen, pass_of-other}
use Rattle.stride_rule.proofs.ClientLemmas.{all_append, all-without, pass-of_client}
use Rattle.lawful_log.proofs.Finding.{all_at, key_is}

-- ---- a choice

module _ (tickets : List (ℕ × ℕ)) (taken : List PastChoice) (number node started : ℕ) where
  abbrev latest : PastChoice
  latest = record { thread = number; node = node; started = started }

  stays : (c : Client) → c.thread.number ≢ number → c.thread.number < started → IsAtPass tickets taken c → IsAtPass tickets (latest ∷ taken) c
  stays c apart below is = record { pass = is.pass ∙ sym (pass_of-other tickets latest taken c.thread.number below apart); stride = is.stride }

  grows : (c : Client) → c.thread.number ≡ number → c.thread.number < started → IsAtPass tickets taken c → IsAtPass tickets (latest ∷ taken) (with_growth c)
  grows c same below is = record {
    pass = ap (λ (n : ℕ). n + c.stride) is.pass ∙ ap (λ (n : ℕ). pass_of tickets taken c.thread.number + n) is.stride
        ∙ ap (λ (n : ℕ). pass_of tickets taken n + stride_of tickets n) same
        ∙ sym (pass_of-chosen tickets latest taken (subst (λ (n : ℕ). n < started) same below))
        ∙ ap (λ (n : ℕ). pass_of tickets (latest ∷ taken) n) (sym same);
    stride = is.stride;
  }

  all_stay : (cs : List Client) → AllByRecursion (λ c. c.thread.number ≢ number) cs → AllByRecursion (λ c. c.thread.number < started) cs → AllByRecursion (IsAtPass tickets taken) cs →
      AllByRecursion (IsAtPass tickets (latest ∷ taken)) cs
  all_stay [] apart below all = tt
  all_stay (c ∷ cs) apart below all = (stays c apart.0 below.0 all.0, all_stay cs apart.1 below.1 all.1)

  all_grown : (cs : List Client) → AreOnce cs → AllByRecursion (λ c. c.thread.number < started) cs → AllByRecursion (IsAtPass tickets taken) cs →
      AllByRecursion (IsAtPass tickets (latest ∷ taken)) (grown number cs)
  all_grown [] once below all = tt
  all_grown (c ∷ cs) once below all =
      by_test (nat_eq c.thread.number number) _
      (λ same.
      let is : c.thread.number ≡ number = eq_true c.thread.number number same in
      let apart : AllByRecursion (λ (x : Client). x.thread.number ≢ number) cs = subst (λ (n : ℕ). AllByRecursion (λ (x : Client). x.thread.number ≢ n) cs) is once.0 in
      rw same (grows c is below.0 all.0, all_stay cs apart below.1 all.1))
      (λ other.
      let apart : c.thread.number ≢ number = (λ e. let yes : nat_eq c.thread.number number ≡ true = eq-eqb c.thread.number number e in absurd (let no : true ≡ false = sym yes ∙ other in cc)) in
      rw other (stays c apart below.0 all.0, all_grown cs once.1 below.1 all.1))

pub passes_taken : (tickets : List (ℕ × ℕ)) (rule : StrideState) (taken : List PastChoice) (choice : StrideChoice) (node started : ℕ) (client : Client) → client_of choice.thread.number rule.clients ≡ Some client → AreOnce rule.clients →
    AllByRecursion (λ c. c.thread.number < started) rule.clients → HasPasses tickets rule taken →
    HasPasses tickets (after_choice rule choice) (record { thread = choice.thread.number; node = node; started = started } ∷ taken)
passes_taken tickets rule taken choice node started client there once below has =
    let its = all_at (λ (c : Client). c.thread.number) (IsAtPass tickets taken) choice.thread.number rule.clients client has.each there in
    let number : client.thread.number ≡ choice.thread.number = key_is (λ (c : Client). c.thread.number) choice.thread.number rule.clients client there in
    record {
      tickets_are = has.tickets_are;
      latest = pass-of_client choice.thread.number rule.clients client there ∙ its.pass ∙ ap (λ (n : ℕ). pass_of tickets taken n) number;
      each = all_grown tickets taken choice.thread.number node started rule.clients once below has.each;
    }

-- ---- a start

newcomer : (tickets : List (ℕ × ℕ)) (taken : List PastChoice) (started number : ℕ) → StartedBy taken started → started ≤ number → latest_pass tickets taken ≡ pass_of tickets taken number
newcomer tickets [] started number by later = refl
newcomer tickets (latest ∷ earlier) started number by later = sym (pass_of-newcomer tickets latest earlier number (omega arith))

pub passes_started : (tickets : List (ℕ × ℕ)) (rule : StrideState) (taken : List PastChoice) (thread : ThreadId) (started : ℕ) → StartedBy taken started → started ≤ thread.number → HasPasses tickets rule taken →
    HasPasses tickets (with_client rule thread) taken
passes_started tickets rule taken thread started by later has = record {
  tickets_are = has.tickets_are;
  latest = has.latest;
  each = all_append (IsAtPass tickets taken) rule.clients _ has.each (record {
    pass = has.latest ∙ newcomer tickets taken started thread.number by later;
    stride = ap (λ (t : List (ℕ × ℕ)). stride_of t thread.number) has.tickets_are;
  });
}

pub passes_first : (tickets : List (ℕ × ℕ)) → HasPasses tickets (new_rule tickets) []
passes_first tickets = record { tickets_are = refl; latest = refl; each = tt }

-- ---- the end of a segment

pub passes_rejoined : (tickets : List (ℕ × ℕ)) (rule : StrideState) (taken : List PastChoice) (number : ℕ) (need : Need) → HasPasses tickets rule taken → HasPasses tickets (after_segment_for rule number need) taken
passes_rejoined tickets rule taken number need has = record { tickets_are = has.tickets_are; latest = has.latest; each = has.each }

pub passes_left : (tickets : List (ℕ × ℕ)) (rule : StrideState) (taken : List PastChoice) (number : ℕ) → HasPasses tickets rule taken → HasPasses tickets (after_leaving rule number) taken
passes_left tickets rule taken number has = record {
  tickets_are = has.tickets_are;
  latest = has.latest;
  each = all-without number (IsAtPass tickets taken) rule.clients has.each;
}
