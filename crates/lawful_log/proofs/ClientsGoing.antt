-- The clients of a stride rule beside what waits, from call to call.
use Rattle.lawful_log.proofs.Common.{◌≡◌, ◌≢◌, ℕ, ◌<◌, Bool, List, [], ◌∷◌, ◌++◌, length, Option, Some, None, refl, sym, ap, ◌∙◌, subst, arith, ⊎_elim, slice_index_or, slice_index, AllByRecursion, cases_eq, ThreadId, Waiter, IsPlaced, Need, StridesState, IsFirstAtNode, IsStarted, IsRejoined, stride_choice, Choice, StrideChoice, Client, IsAbsent, client_of, with_growth, StrideState, new_rule, with_client, after_choice, after_segment_for, after_leaving, waiting_in, waiting_of, stride_of, once-grown, once-without, once-append, waiting-none, waiter_of, IsClientOf, AreBoth, AreClients, HasRunner}
use Rattle.lawful_log.proofs.Finding.{all_both, all_at, key_is, apart_at, append_other, append_self, append_there, but, but_self, but_other, grown_other, grown_self, without_other, without_self, own_clients, filtered_other}
use Rattle.lawful_log.proofs.StrideChoices.{waiter_for}

abbrev number_of : Client → ℕ
number_of = λ client. client.thread.number

abbrev thread_of_waiter : Waiter → ℕ
thread_of_waiter = λ waiter. waiter.thread

-- those that still wait
abbrev pub others : ℕ → List Waiter → List Waiter
others number waiting = but thread_of_waiter number waiting

by_number : (a b : ℕ) (P : Type 0) → (a ≡ b → P) → (a ≢ b → P) → P
by_number a b P same apart = ⊎_elim same apart (cases_eq a b)

both_by : (places : List (Option ℕ)) (nodes : List ℕ) (a a' : Option Client) (b b' : Option Waiter) → a' ≡ a → b' ≡ b → AreBoth places nodes a b → AreBoth places nodes a' b'
both_by places nodes a a' b b' e f is = subst (λ (o : Option Client). AreBoth places nodes o b') (sym e) (subst (λ (o : Option Waiter). AreBoth places nodes a o) (sym f) is)

both_kept : (places places' : List (Option ℕ)) (nodes nodes' : List ℕ) (a : Option Client) (b : Option Waiter) → ((c : Client) (w : Waiter) → a ≡ Some c → b ≡ Some w → IsClientOf places nodes c w → IsClientOf places' nodes' c w) →
    AreBoth places nodes a b → AreBoth places' nodes' a b
both_kept places places' nodes nodes' None None keeps is = tt
both_kept places places' nodes nodes' (Some c) (Some w) keeps is = keeps c w refl refl is
both_kept places places' nodes nodes' _ _ keeps is = absurd is

all_waiting : (rule : StrideState) → rule.running ≡ None → waiting_of rule ≡ rule.clients
all_waiting rule none = ap (λ (r : Option ℕ). waiting_in r rule.clients) none ∙ waiting-none rule.clients

-- of all but the running one the client waits
waits_other : (rule : StrideState) (number other : ℕ) → rule.running ≡ Some number → other ≢ number → client_of other (waiting_of rule) ≡ client_of other rule.clients
waits_other rule number other running apart =
    ap (λ (r : Option ℕ). client_of other (waiting_in r rule.clients)) running ∙ but_other number_of number other rule.clients apart

-- ---- at the start

pub clients_first : (places : List (Option ℕ)) (tickets : List (ℕ × ℕ)) → AreClients places (record { rule = new_rule tickets; nodes = [] }) []
clients_first places tickets = record { each = λ number. tt; once = tt }

-- where the places of those that wait stay
pub clients_placed : (old new : List (Option ℕ)) (strides : StridesState) (waiting : List Waiter) (live : Waiter → Type 0) → ((t : ThreadId) (x : Waiter) → t.number ≡ x.thread → live x → IsPlaced old t → IsPlaced new t) →
    AllByRecursion live waiting → AreClients old strides waiting → AreClients new strides waiting
clients_placed old new strides waiting live keeps all clients = record {
  each = λ number. both_kept old new strides.nodes strides.nodes (client_of number (waiting_of strides.rule)) (waiter_of number waiting)
      (λ c w there waits is. record {
        placed = keeps c.thread w (key_is number_of number (waiting_of strides.rule) c there ∙ sym (key_is thread_of_waiter number waiting w waits)) (all_at thread_of_waiter live number waiting w all waits) is.placed;
        node = is.node;
      }) (clients.each number);
  once = clients.once;
}

-- each client's thread has been started
pub clients_below : (places : List (Option ℕ)) (strides : StridesState) (waiting : List Waiter) (live : Waiter → Type 0) (started : ℕ) → strides.rule.running ≡ None → ((w : Waiter) → live w → w.thread < started) →
    AllByRecursion live waiting → AreClients places strides waiting → AllByRecursion (λ c. c.thread.number < started) strides.rule.clients
clients_below places strides waiting live started none below all clients =
    let found = own_clients strides.rule.clients clients.once in
    all_both (λ c. client_of c.thread.number strides.rule.clients ≡ Some c) (λ c. client_of c.thread.number strides.rule.clients ≡ Some c) (λ c. c.thread.number < started)
    (λ c there also.
    let waits : client_of c.thread.number (waiting_of strides.rule) ≡ Some c = ap (λ (cs : List Client). client_of c.thread.number cs) (all_waiting strides.rule none) ∙ there in
    let w = waiter_for places strides waiting clients c.thread.number c waits in
    subst (λ (n : ℕ). n < started) (key_is thread_of_waiter c.thread.number waiting w.waiter w.there)
    (below w.waiter (all_at thread_of_waiter live c.thread.number waiting w.waiter all w.there)))
    strides.rule.clients found found

-- ---- a choice

pub clients_taken : (places : List (Option ℕ)) (strides : StridesState) (waiting : List Waiter) (choice : StrideChoice) → strides.rule.running ≡ None → AreClients places strides waiting →
    AreClients places (record { rule = after_choice strides.rule choice; nodes = strides.nodes }) (others choice.thread.number waiting)
clients_taken places strides waiting choice none clients =
    let n : ℕ = choice.thread.number in
    let cs = strides.rule.clients in
    let after : StrideState = after_choice strides.rule choice in
    record {
      each = λ number. by_number number n _
          (λ same.
          subst (λ (m : ℕ). AreBoth places strides.nodes (client_of m (waiting_of after)) (waiter_of m (others n waiting))) (sym same)
          (both_by places strides.nodes None (client_of n (waiting_of after)) None (waiter_of n (others n waiting)) (but_self number_of n after.clients) (but_self thread_of_waiter n waiting) tt))
          (λ apart.
          both_by places strides.nodes (client_of number (waiting_of strides.rule)) (client_of number (waiting_of after)) (waiter_of number waiting) (waiter_of number (others n waiting))
          (waits_other after n number refl apart ∙ grown_other n number cs apart ∙ ap (λ (l : List Client). client_of number l) (sym (all_waiting strides.rule none)))
          (but_other thread_of_waiter n number waiting apart) (clients.each number));
      once = once-grown n cs clients.once;
    }

pub runner_taken : (strides : StridesState) (eligible : ThreadId → Bool) (choice : Choice) → strides.rule.running ≡ None → IsFirstAtNode strides eligible choice → choice.thread.slot < length strides.nodes →
    HasRunner (record { rule = after_choice strides.rule (stride_choice strides.rule eligible choice.thread); nodes = strides.nodes }) choice.thread
runner_taken strides eligible choice none is place = record {
  running = record { running = refl; place = place };
  client = with_growth is.first.client;
  there = grown_self choice.thread.number strides.rule.clients is.first.client
      (ap (λ (cs : List Client). client_of choice.thread.number cs) (sym (all_waiting strides.rule none)) ∙ is.first.waits);
  thread_is = is.first.thread_is;
}

-- ---- a start

waits_self : (rule : StrideState) (running : Option ℕ) (number : ℕ) (cs : List Client) → running ≢ Some number → client_of number (waiting_in running cs) ≡ client_of number cs
waits_self rule None number cs apart = ap (λ (l : List Client). client_of number l) (waiting-none cs)
waits_self rule (Some other) number cs apart = but_other number_of other number cs (λ e. apart (ap Some (sym e)))

pub none_by : (places : List (Option ℕ)) (nodes : List ℕ) (c : Option Client) (w : Option Waiter) → w ≡ None → AreBoth places nodes c w → c ≡ None
none_by places nodes None w e both = refl
none_by places nodes (Some c) None e both = absurd both
none_by places nodes (Some c) (Some w) e both = absurd (cc)

-- a thread of which nothing waits, and which isn't running, has no client
pub none_there : (places : List (Option ℕ)) (strides : StridesState) (waiting : List Waiter) (number : ℕ) → strides.rule.running ≢ Some number → waiter_of number waiting ≡ None → AreClients places strides waiting →
    client_of number strides.rule.clients ≡ None
none_there places strides waiting number apart none clients =
    sym (waits_self strides.rule strides.rule.running number strides.rule.clients apart)
    ∙ none_by places strides.nodes (client_of number (waiting_of strides.rule)) (waiter_of number waiting) none (clients.each number)

pub may_start : (places : List (Option ℕ)) (strides : StridesState) (waiting : List Waiter) (number : ℕ) → strides.rule.running ≢ Some number → waiter_of number waiting ≡ None → AreClients places strides waiting →
    IsAbsent number strides.rule.clients
may_start places strides waiting number apart none clients = apart_at number_of number strides.rule.clients (none_there places strides waiting number apart none clients)

-- another thread's record stands elsewhere
elsewhere : (places : List (Option ℕ)) (thread other : ThreadId) → IsPlaced places thread → IsPlaced places other → other.number ≢ thread.number → other.slot ≢ thread.slot
elsewhere places thread other placed also apart same =
    let both : Some thread.number ≡ Some other.number = sym placed ∙ ap (λ (s : ℕ). slice_index_or places s None) (sym same) ∙ also in
    let equal : thread.number ≡ other.number = cc in
    apart (sym equal)

pub clients_started : (places : List (Option ℕ)) (strides new : StridesState) (waiting : List Waiter) (thread : ThreadId) → strides.rule.running ≢ Some thread.number → waiter_of thread.number waiting ≡ None → IsPlaced places thread →
    IsStarted strides new thread → AreClients places strides waiting → AreClients places new (waiting ++ record { thread = thread.number; node = 0; since = 0 } ∷ [])
clients_started places strides new waiting thread apart none placed started clients =
    let n : ℕ = thread.number in
    let cs = strides.rule.clients in
    let c : Client = record { thread = thread; stride = stride_of strides.rule.tickets n; pass = strides.rule.latest } in
    let w : Waiter = record { thread = n; node = 0; since = 0 } in
    let now : StridesState = record { rule = with_client strides.rule thread; nodes = new.nodes } in
    let absent : client_of n cs ≡ None = none_there places strides waiting n apart none clients in
    let is : AreClients places now (waiting ++ w ∷ []) = record {
      each = λ number. by_number number n _
          (λ same.
          subst (λ (m : ℕ). AreBoth places new.nodes (client_of m (waiting_of now.rule)) (waiter_of m (waiting ++ w ∷ []))) (sym same)
          (both_by places new.nodes (Some c) (client_of n (waiting_of now.rule)) (Some w) (waiter_of n (waiting ++ w ∷ []))
          (waits_self now.rule strides.rule.running n (cs ++ c ∷ []) apart ∙ append_self number_of n cs c refl absent)
          (append_self thread_of_waiter n waiting w refl none)
          (record { placed = placed; node = started.nodes.here })))
          (λ differ.
          both_by places new.nodes (client_of number (waiting_of strides.rule)) (client_of number (waiting_of now.rule)) (waiter_of number waiting) (waiter_of number (waiting ++ w ∷ []))
          (filtered_other number_of _ number cs c (λ e. differ (sym e)))
          (append_other thread_of_waiter number waiting w (λ e. differ (sym e)))
          (both_kept places places strides.nodes new.nodes (client_of number (waiting_of strides.rule)) (waiter_of number waiting)
          (λ x y there waits its. record {
            placed = its.placed;
            node = started.nodes.others x.thread.slot (elsewhere places thread x.thread placed its.placed
                (λ e. differ (sym (key_is number_of number (waiting_of strides.rule) x there) ∙ e))) ∙ its.node;
          }) (clients.each number)));
      once = once-append n cs c refl clients.once (apart_at number_of n cs absent);
    } in
    subst (λ (r : StrideState). AreClients places (record { rule = r; nodes = new.nodes }) (waiting ++ w ∷ [])) (sym started.rule) is

pub runner_started : (strides new : StridesState) (thread other : ThreadId) → IsStarted strides new other → HasRunner strides thread → HasRunner new thread
runner_started strides new thread other started has =
    let now : StridesState = record { rule = with_client strides.rule other; nodes = new.nodes } in
    let c : Client = record { thread = other; stride = stride_of strides.rule.tickets other.number; pass = strides.rule.latest } in
    let longer = started.nodes.longer in
    let is : HasRunner now thread = record {
      running = record { running = has.running.running; place = (let at = has.running.place in omega (arith, at, longer)) };
      client = has.client;
      there = append_there number_of thread.number strides.rule.clients has.client c has.there;
      thread_is = has.thread_is;
    } in
    subst (λ (r : StrideState). HasRunner (record { rule = r; nodes = new.nodes }) thread) (sym started.rule) is

-- ---- the end of a segment

pub clients_rejoined : (places : List (Option ℕ)) (strides new : StridesState) (waiting : List Waiter) (thread : ThreadId) (node since : ℕ) (need : Need) → HasRunner strides thread → waiter_of thread.number waiting ≡ None → IsPlaced places thread →
    IsRejoined strides new thread node need → AreClients places strides waiting → AreClients places new (waiting ++ record { thread = thread.number; node = node; since = since } ∷ [])
clients_rejoined places strides new waiting thread node since need has none placed rejoined clients =
    let n : ℕ = thread.number in
    let cs = strides.rule.clients in
    let w : Waiter = record { thread = n; node = node; since = since } in
    let now : StridesState = record { rule = after_segment_for strides.rule n need; nodes = new.nodes } in
    let waits_now : (number : ℕ) → client_of number (waiting_of now.rule) ≡ client_of number cs = λ number. ap (λ (l : List Client). client_of number l) (waiting-none cs) in
    let is : AreClients places now (waiting ++ w ∷ []) = record {
      each = λ number. by_number number n _
          (λ same.
          subst (λ (m : ℕ). AreBoth places new.nodes (client_of m (waiting_of now.rule)) (waiter_of m (waiting ++ w ∷ []))) (sym same)
          (both_by places new.nodes (Some has.client) (client_of n (waiting_of now.rule)) (Some w) (waiter_of n (waiting ++ w ∷ []))
          (waits_now n ∙ has.there) (append_self thread_of_waiter n waiting w refl none)
          (record {
            placed = subst (λ (t : ThreadId). IsPlaced places t) (sym has.thread_is) placed;
            node = ap (λ (t : ThreadId). slice_index new.nodes t.slot) has.thread_is ∙ rejoined.nodes.here;
          })))
          (λ differ.
          both_by places new.nodes (client_of number (waiting_of strides.rule)) (client_of number (waiting_of now.rule)) (waiter_of number waiting) (waiter_of number (waiting ++ w ∷ []))
          (waits_now number ∙ sym (waits_other strides.rule n number has.running.running differ))
          (append_other thread_of_waiter number waiting w (λ e. differ (sym e)))
          (both_kept places places strides.nodes new.nodes (client_of number (waiting_of strides.rule)) (waiter_of number waiting)
          (λ x y there waits its. record {
            placed = its.placed;
            node = rejoined.nodes.others x.thread.slot (elsewhere places thread x.thread placed its.placed
                (λ e. differ (sym (key_is number_of number (waiting_of strides.rule) x there) ∙ e))) ∙ its.node;
          }) (clients.each number)));
      once = clients.once;
    } in
    subst (λ (r : StrideState). AreClients places (record { rule = r; nodes = new.nodes }) (waiting ++ w ∷ [])) (sym rejoined.rule) is

pub clients_left : (places : List (Option ℕ)) (strides : StridesState) (waiting : List Waiter) (thread : ThreadId) → HasRunner strides thread → waiter_of thread.number waiting ≡ None → AreClients places strides waiting →
    AreClients places (record { rule = after_leaving strides.rule thread.number; nodes = strides.nodes }) waiting
clients_left places strides waiting thread has none clients =
    let n : ℕ = thread.number in
    let cs = strides.rule.clients in
    let after : StrideState = after_leaving strides.rule n in
    let waits_now : (number : ℕ) → client_of number (waiting_of after) ≡ client_of number after.clients = λ number. ap (λ (l : List Client). client_of number l) (waiting-none after.clients) in
    record {
      each = λ number. by_number number n _
          (λ same.
          subst (λ (m : ℕ). AreBoth places strides.nodes (client_of m (waiting_of after)) (waiter_of m waiting)) (sym same)
          (both_by places strides.nodes None (client_of n (waiting_of after)) None (waiter_of n waiting) (waits_now n ∙ without_self n cs clients.once) none tt))
          (λ differ.
          both_by places strides.nodes (client_of number (waiting_of strides.rule)) (client_of number (waiting_of after)) (waiter_of number waiting) (waiter_of number waiting)
          (waits_now number ∙ without_other n number cs differ ∙ sym (waits_other strides.rule n number has.running.running differ)) refl (clients.each number));
      once = once-without n cs clients.once;
    }

-- the client of the chosen thread
pub chosen_client : (strides : StridesState) (eligible : ThreadId → Bool) (choice : Choice) → strides.rule.running ≡ None → (is : IsFirstAtNode strides eligible choice) →
    client_of choice.thread.number strides.rule.clients ≡ Some is.first.client
chosen_client strides eligible choice none is = ap (λ (cs : List Client). client_of choice.thread.number cs) (sym (all_waiting strides.rule none)) ∙ is.first.waits
