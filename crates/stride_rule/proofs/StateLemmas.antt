-- What a rule keeps through its calls.
use Rattle.stride_rule.proofs.Common.{◌≡◌, ℕ, ◌+◌, ◌*◌, ◌^◌, ◌≤◌, ◌<◌, ◌||◌, max, not, Bool, true, false, IsTrue, Option, Some, None, List, [], ◌∷◌, ◌++◌, refl, sym, ap, ◌∙◌, subst, arith, IsSome, IfSome, ◌==◌, AllByRecursion, ThreadId, Need, StrideChoice, Client, Row, IsFirst, IsAbsent, client_of, pass_in, with_growth, grown, without, with_need, without_need, clients_of, needs_in, stride_of, tickets_of, StrideState, IsClient, IsNear, IsKept, with_client, after_choice, after_segment, after_segment_for, after_leaving, by_test}
use Rattle.std.proofs.Math.Nat.{div-le_self}
use Rattle.stride_rule.proofs.ClientLemmas.{all_to, all_append, pass-of_client, all-client, all-without, once-grown, once-without, once-append}
use Rattle.stride_rule.proofs.RowLemmas.{clients_appended, needs_appended}
use Rattle.stride_rule.proofs.OrderLemmas.{not_before-le}

pub stride-le : (tickets : List (ℕ × ℕ)) (thread : ℕ) → stride_of tickets thread ≤ 1048576
stride-le tickets thread = div-le_self 1048576 (tickets_of tickets thread)

-- ---- what is said of each part of a state says what the state is

module _ (rule : StrideState) (kept : IsKept rule) where
  pub as_started : (thread : ThreadId) (clients : List Client) (greatest : ℕ) (needs : List (ℕ × Need)) → clients ≡ (with_client rule thread).clients → greatest ≡ (with_client rule thread).greatest →
      needs ≡ with_need thread.number Need.Nothing rule.needs → record rule { clients = clients; greatest = greatest; needs = needs } ≡ with_client rule thread
  as_started thread clients greatest needs e f h = λ i. record rule { clients = e i; greatest = f i; needs = h i }

  pub as_noted : (choice : StrideChoice) (clients : List Client) (latest noted : ℕ) (held_back : Bool) (needs : List (ℕ × Need)) → clients ≡ grown choice.thread.number rule.clients →
      latest ≡ pass_in choice.thread.number rule.clients → noted ≡ rule.noted + 1 → held_back ≡ (rule.held_back || not choice.all) → needs ≡ rule.needs →
      record rule { clients = clients; running = Some choice.thread.number; latest = latest; noted = noted; held_back = held_back; needs = needs } ≡ after_choice rule choice
  as_noted choice clients latest noted held_back needs e f g b h = λ i. record rule { clients = e i; running = Some choice.thread.number; latest = f i; noted = g i; held_back = b i; needs = h i }

  pub as_told : (number : ℕ) (need : Need) (clients : List Client) (needs : List (ℕ × Need)) → clients ≡ rule.clients → needs ≡ with_need number need rule.needs →
      record rule { clients = clients; running = None; needs = needs } ≡ after_segment_for rule number need
  as_told number need clients needs e h = λ i. record rule { clients = e i; running = None; needs = h i }

  pub as_left : (number : ℕ) (clients : List Client) (needs : List (ℕ × Need)) → clients ≡ without number rule.clients → needs ≡ without_need number rule.needs →
      record rule { clients = clients; running = None; needs = needs } ≡ after_leaving rule number
  as_left number clients needs e h = λ i. record rule { clients = e i; running = None; needs = h i }

-- ---- a thread that is there

some-append : (n : ℕ) (cs : List Client) (c : Client) → IsSome (client_of n cs) → IsSome (client_of n (cs ++ c ∷ []))
some-append n [] c some = absurd (let no : false ≡ true = some in cc)
some-append n (x ∷ xs) c some =
    by_test (x.thread.number == n) _
    (λ same. rw same refl)
    (λ other. let rest : IsSome (client_of n xs) = rw other at some in rw other (some-append n xs c rest))

some-grown : (n : ℕ) (cs : List Client) → IsSome (client_of n cs) → IsSome (client_of n (grown n cs))
some-grown n [] some = absurd (let no : false ≡ true = some in cc)
some-grown n (x ∷ xs) some =
    by_test (x.thread.number == n) _
    (λ same. rw (same, same) refl)
    (λ other. let rest : IsSome (client_of n xs) = rw other at some in rw (other, other) (some-grown n xs rest))

-- ---- a thread is started

module _ (rule : StrideState) (thread : ThreadId) (kept : IsKept rule) where
  abbrev stride : ℕ
  stride = stride_of rule.tickets thread.number

  client_stays : (c : Client) → IsClient rule c → IsClient (with_client rule thread) c
  client_stays c is = record { stride_is = is.stride_is; greatest = let h : c.stride ≤ rule.greatest = is.greatest in omega arith; bound = is.bound }

  near_stays : (c : Client) → IsNear rule.latest rule.greatest c → IsNear rule.latest (max rule.greatest stride) c
  near_stays c is = record { least = is.least; most = let h : c.pass ≤ rule.latest + rule.greatest = is.most in omega arith }

  pub kept_with_client : IsAbsent thread.number rule.clients → IsKept (with_client rule thread)
  kept_with_client none = record {
    tickets = kept.tickets;
    counted = kept.counted;
    latest = kept.latest;
    greatest = let h : stride ≤ 1048576 = stride-le rule.tickets thread.number in let k : rule.greatest ≤ 1048576 = kept.greatest in omega arith;
    clients = all_append (IsClient (with_client rule thread)) rule.clients _ (all_to (IsClient rule) (IsClient (with_client rule thread)) client_stays rule.clients kept.clients)
        (record { stride_is = refl; greatest = omega arith; bound = kept.latest });
    once = once-append thread.number rule.clients _ refl kept.once none;
    near = λ e. all_append (IsNear rule.latest (max rule.greatest stride)) rule.clients _
        (all_to (IsNear rule.latest rule.greatest) (IsNear rule.latest (max rule.greatest stride)) near_stays rule.clients (kept.near e))
        (record { least = omega arith; most = omega arith });
    there = λ n e. some-append n rule.clients _ (kept.there n e);
  }

-- ---- a choice is noted

-- its thread is the one whose pass was the least: the others are then near it, and so is its own pass after it has grown
near-grown : (number latest greatest : ℕ) (cs : List Client) → AllByRecursion (IsNear latest greatest) cs → AllByRecursion (λ c. c.stride ≤ greatest) cs →
    pass_in number cs ≡ latest → AllByRecursion (IsNear latest greatest) (grown number cs)
near-grown number latest greatest [] near small e = tt
near-grown number latest greatest (c ∷ cs) near small e =
    by_test (c.thread.number == number) _
    (λ same.
    let it : c.pass ≡ latest = rw same at e in
    let h : c.stride ≤ greatest = small.0 in
    rw same (record { least = omega arith; most = omega arith }, near.1))
    (λ other.
    let rest : pass_in number cs ≡ latest = rw other at e in
    rw other (near.0, near-grown number latest greatest cs near.1 small.1 rest))

near-first : (latest greatest : ℕ) (first : Client) (cs : List Client) → latest ≤ first.pass → AllByRecursion (IsNear latest greatest) cs → IsFirst cs first →
    AllByRecursion (IsNear first.pass greatest) cs
near-first latest greatest first [] h near is = tt
near-first latest greatest first (c ∷ cs) h near is = (
  record {
    least = not_before-le c.pass c.thread.number first.pass first.thread.number is.0;
    most = let k : c.pass ≤ latest + greatest = near.0.most in omega arith;
  },
  near-first latest greatest first cs h near.1 is.1,
)

not_held : (held all : Bool) → (held || not all) ≡ false → (held ≡ false) × (all ≡ true)
not_held false true e = (refl, refl)
not_held _ _ e = absurd (let no : true ≡ false = e in cc)

is-some : (o : Option Client) → IsSome o → (c : Client) × (o ≡ Some c)
is-some None some = absurd (let no : false ≡ true = some in cc)
is-some (Some c) some = (c, refl)

module _ (rule : StrideState) (choice : StrideChoice) (kept : IsKept rule) where
  abbrev number : ℕ
  number = choice.thread.number

  client_goes_on : (c : Client) → IsClient rule c → IsClient (after_choice rule choice) c
  client_goes_on c is = record { stride_is = is.stride_is; greatest = is.greatest; bound = let h : c.pass ≤ 1048576 * rule.noted = is.bound in omega arith }

  -- after the choice each pass may be by one whole stride greater
  client_bound : (c : Client) → IsClient rule c → IsClient (after_choice rule choice) (with_growth c)
  client_bound c is = record {
    stride_is = is.stride_is;
    greatest = is.greatest;
    bound =
        let h : c.pass ≤ 1048576 * rule.noted = is.bound in
        let k : c.stride ≤ rule.greatest = is.greatest in
        let m : rule.greatest ≤ 1048576 = kept.greatest in
        omega arith;
  }

  clients_grown : (cs : List Client) → AllByRecursion (IsClient rule) cs → AllByRecursion (IsClient (after_choice rule choice)) (grown number cs)
  clients_grown [] all = tt
  clients_grown (c ∷ cs) all =
      by_test (c.thread.number == number) _
      (λ same. rw same (client_bound c all.0, all_to (IsClient rule) (IsClient (after_choice rule choice)) client_goes_on cs all.1))
      (λ other. rw other (client_goes_on c all.0, clients_grown cs all.1))

  pub small_passes : AllByRecursion (λ c. c.pass + c.stride ≤ 2 ^ 61) rule.clients
  small_passes = all_to (IsClient rule) (λ c. c.pass + c.stride ≤ 2 ^ 61) (λ c is.
      let h : c.pass ≤ 1048576 * rule.noted = is.bound in
      let k : c.stride ≤ rule.greatest = is.greatest in
      let m : rule.greatest ≤ 1048576 = kept.greatest in
      let n : rule.noted ≤ 2 ^ 40 = kept.counted in
      omega arith) rule.clients kept.clients

  near_after : (chosen : Client) → client_of number rule.clients ≡ Some chosen → IsFirst rule.clients chosen → rule.held_back ≡ false →
      AllByRecursion (IsNear (pass_in number rule.clients) rule.greatest) (grown number rule.clients)
  near_after chosen found first calm =
      let pass : pass_in number rule.clients ≡ chosen.pass = pass-of_client number rule.clients chosen found in
      let near = all-client number (IsNear rule.latest rule.greatest) rule.clients chosen (kept.near calm) found in
      near-grown number (pass_in number rule.clients) rule.greatest rule.clients
      (subst (λ (p : ℕ). AllByRecursion (IsNear p rule.greatest) rule.clients) (sym pass)
      (near-first rule.latest rule.greatest chosen rule.clients near.least (kept.near calm) first))
      (all_to (IsClient rule) _ (λ c is. is.greatest) rule.clients kept.clients)
      refl

  first_of : (chosen : Client) → client_of number rule.clients ≡ Some chosen → IfSome (client_of number rule.clients) (IsFirst rule.clients) → IsFirst rule.clients chosen
  first_of chosen found first = let is : IfSome (Some chosen) (IsFirst rule.clients) = rw found at first in is

  pub kept_after_choice : IsSome (client_of number rule.clients) → (IsTrue choice.all → IfSome (client_of number rule.clients) (IsFirst rule.clients)) →
      rule.noted < 2 ^ 40 → IsKept (after_choice rule choice)
  kept_after_choice some first room =
      let chosen = is-some (client_of number rule.clients) some in
      let pass : pass_in number rule.clients ≡ chosen.0.pass = pass-of_client number rule.clients chosen.0 chosen.1 in
      let at = all-client number (IsClient rule) rule.clients chosen.0 kept.clients chosen.1 in
      let bound : chosen.0.pass ≤ 1048576 * rule.noted = at.bound in
      record {
        tickets = kept.tickets;
        counted = omega arith;
        latest = omega arith;
        greatest = kept.greatest;
        clients = clients_grown rule.clients kept.clients;
        once = once-grown number rule.clients kept.once;
        near = λ e. let calm = not_held rule.held_back choice.all e in near_after chosen.0 chosen.1 (first_of chosen.0 chosen.1 (first calm.1)) calm.0;
        there = λ n e. let same : number ≡ n = cc in subst (λ (m : ℕ). IsSome (client_of m (grown number rule.clients))) same (some-grown number rule.clients some);
      }

-- ---- the choice under way ends

client_same : (rule other : StrideState) → other.tickets ≡ rule.tickets → other.greatest ≡ rule.greatest → other.noted ≡ rule.noted →
    (c : Client) → IsClient rule c → IsClient other c
client_same rule other e f g c is = record {
  stride_is = is.stride_is ∙ ap (λ (t : List (ℕ × ℕ)). stride_of t c.thread.number) (sym e);
  greatest = let h : c.stride ≤ rule.greatest = is.greatest in omega arith;
  bound = let h : c.pass ≤ 1048576 * rule.noted = is.bound in omega arith;
}

pub kept_after_segment : (rule : StrideState) → IsKept rule → IsKept (after_segment rule)
kept_after_segment rule kept = record {
  tickets = kept.tickets;
  counted = kept.counted;
  latest = kept.latest;
  greatest = kept.greatest;
  clients = all_to (IsClient rule) (IsClient (after_segment rule)) (client_same rule (after_segment rule) refl refl refl) rule.clients kept.clients;
  once = kept.once;
  near = kept.near;
  there = λ n e. absurd (let no : None ≡ Some n = e in cc);
}

pub kept_after_segment_for : (rule : StrideState) (number : ℕ) (need : Need) → IsKept rule → IsKept (after_segment_for rule number need)
kept_after_segment_for rule number need kept = record {
  tickets = kept.tickets;
  counted = kept.counted;
  latest = kept.latest;
  greatest = kept.greatest;
  clients = all_to (IsClient rule) (IsClient (after_segment_for rule number need)) (client_same rule (after_segment_for rule number need) refl refl refl) rule.clients kept.clients;
  once = kept.once;
  near = kept.near;
  there = λ n e. absurd (let no : None ≡ Some n = e in cc);
}

pub kept_after_leaving : (rule : StrideState) (number : ℕ) → IsKept rule → IsKept (after_leaving rule number)
kept_after_leaving rule number kept = record {
  tickets = kept.tickets;
  counted = kept.counted;
  latest = kept.latest;
  greatest = kept.greatest;
  clients = all-without number (IsClient (after_leaving rule number)) rule.clients
      (all_to (IsClient rule) (IsClient (after_leaving rule number)) (client_same rule (after_leaving rule number) refl refl refl) rule.clients kept.clients);
  once = once-without number rule.clients kept.once;
  near = λ e. all-without number (IsNear rule.latest rule.greatest) rule.clients (kept.near e);
  there = λ n e. absurd (let no : None ≡ Some n = e in cc);
}

-- ---- a thread is started at the end of the places

pub started : (rule : StrideState) → IsKept rule → (mid new : List (Option Row)) (thread : ThreadId) (its greatest : ℕ) → clients_of mid ≡ rule.clients → needs_in mid ≡ rule.needs → IsAbsent thread.number rule.clients →
    its ≡ stride_of rule.tickets thread.number → greatest ≡ max rule.greatest its →
    new ≡ mid ++ Some (record { client = record { thread = thread; stride = its; pass = rule.latest }; need = Need.Nothing }) ∷ [] →
    record rule { clients = clients_of new; greatest = greatest; needs = needs_in new } ≡ with_client rule thread
started rule kept mid new thread its greatest clients needs none stride_is greatest_is is =
    let row : Row = record { client = record { thread = thread; stride = its; pass = rule.latest }; need = Need.Nothing } in
    as_started rule kept thread (clients_of new) greatest (needs_in new)
    (ap clients_of is ∙ clients_appended mid row ∙ ap (λ (cs : List Client). cs ++ row.client ∷ []) clients
    ∙ ap (λ (s : ℕ). rule.clients ++ record { thread = thread; stride = s; pass = rule.latest } ∷ []) stride_is)
    (greatest_is ∙ ap (λ (s : ℕ). max rule.greatest s) stride_is)
    (ap needs_in is ∙ needs_appended mid row (subst (λ (cs : List Client). IsAbsent thread.number cs) (sym clients) none)
    ∙ ap (λ (ns : List (ℕ × Need)). with_need thread.number Need.Nothing ns) needs)
