-- What the options of a word list are, by its command.
use Rattle.std.proofs.Common.{ℕ, zero, suc, ◌≡◌, ◌+◌, ◌-◌, ◌*◌, ◌≤◌, List, [], ◌∷◌, ◌++◌, map, length, take, replicate, slice_index, Option, Some, None, refl, sym, ap, subst, arith, mul_comm}
use Rattle.std.specs.Prelude.{◌==◌}
use Rattle.call_graph.proofs.ListLemmas.{by_test}
use Rattle.codegen_link.specs.Plans.{AreInRange}
use Rattle.command_words.specs.OptionTable.{name_of}
use Rattle.command_words.specs.declared.option_table.CommandOption.TheVariants as option
use Rattle.command_words.specs.Values.{IsAudit, IsPlacement, IsPolicy, AreCaps, AreCapsAbove, cap_of, AreTickets, AreTicketsFrom, IsRule}
use Rattle.command_words.specs.WordList.{IsWordList, Serve, Run, Build, Audit}
use Rattle.command_words.specs.declared.options.Audit.{Audit as AuditOptions}
use Rattle.command_words.specs.declared.options.Placement.{Placement}
use Rattle.command_words.specs.declared.options.Policy.{Policy}
use Rattle.command_words.specs.declared.options.Rule.{Rule}
use Rattle.command_words.specs.declared.options.Rule.TheVariants.{Graph, Stride}
use Rattle.command_words.specs.declared.options.Tickets.{Tickets}
use Rattle.stride_rule.specs.Tickets as strides
use Rattle.command_options.specs.Options.{AreAuditOptions, sizes_of, IsRunPolicy, IsRuleInRange}

in-range : (given : List ℕ → Option (List ℕ)) (placement : Placement) → IsPlacement given placement → AreInRange (sizes_of placement)
in-range given placement h =
    let chunk = h.chunk in
    let path = h.max_path in
    let least : 64 ≤ placement.chunk = chunk.not_less in
    record { aligned = h.whole; least = least; most = chunk.not_more; path = path.not_less; room = (let most = path.not_more in omega arith) }

-- each cap that is given is at most 1,000,000
cap-most : (below : ℕ) (pairs : List (ℕ × ℕ)) (sought : ℕ) → AreCapsAbove below pairs → cap_of pairs sought ≤ 1000000
cap-most below [] sought h = omega arith
cap-most below ((resource, most) ∷ rest) sought h =
    by_test (resource == sought)
    (λ t. rw t (h.3))
    (λ f. rw f (cap-most resource rest sought h.4))

caps-most : (pairs : List (ℕ × ℕ)) → AreCapsAbove 0 pairs → (resources : List ℕ) (r : ℕ) → slice_index (map (cap_of pairs) resources) r ≤ 1000000
caps-most pairs h (x ∷ resources) zero = cap-most 0 pairs x h
caps-most pairs h (x ∷ resources) (suc r) = caps-most pairs h resources r
caps-most pairs h [] _ = omega arith

pub none-most : (n r : ℕ) → slice_index (replicate n 0) r ≤ 1000000
none-most (suc n) (suc r) = none-most n r
none-most _ _ = omega arith

caps-in-range : (given : Option (List ℕ)) (caps : List ℕ) → AreCaps given caps → (r : ℕ) → slice_index caps r ≤ 1000000
caps-in-range None caps h r = subst (λ (xs : List ℕ). slice_index xs r ≤ 1000000) (sym h) (none-most 8 r)
caps-in-range (Some text) caps h r = let is = h.1 in subst (λ (xs : List ℕ). slice_index xs r ≤ 1000000) (sym h.2)
    (caps-most h.0 is.in_range (0 ∷ 1 ∷ 2 ∷ 3 ∷ 4 ∷ 5 ∷ 6 ∷ 7 ∷ []) r)

-- the tickets that are handed out are those of the text
taken-pairs : (pairs : List (ℕ × ℕ)) (n : ℕ) → take (length pairs) (pairs ++ replicate n (0, 0)) ≡ pairs
taken-pairs [] n = refl
taken-pairs (pair ∷ pairs) n = ap (λ (ps : List (ℕ × ℕ)). pair ∷ ps) (taken-pairs pairs n)

rising-tickets : (least : ℕ) (pairs : List (ℕ × ℕ)) → AreTicketsFrom least pairs → strides.AreTicketsFrom least pairs
rising-tickets least [] h = tt
rising-tickets least ((thread, tickets) ∷ rest) h = (h.0, h.2, h.3, rising-tickets (suc thread) rest h.4)

tickets-in-range : (given : Option (List ℕ)) (tickets : Tickets) → AreTickets given tickets → IsRuleInRange (Stride tickets)
tickets-in-range None tickets h = subst (λ (t : Tickets). IsRuleInRange (Stride t)) (sym h) (omega arith, tt)
tickets-in-range (Some text) tickets h =
    subst (λ (t : Tickets). IsRuleInRange (Stride t)) (sym h.2)
    (h.1.few, subst (λ (ps : List (ℕ × ℕ)). strides.AreTickets ps) (sym (taken-pairs h.0 (64 - length h.0))) (rising-tickets 0 h.0 h.1.in_range))

rule-in-range : (given tickets_given : Option (List ℕ)) (rule : Rule) → IsRule given tickets_given rule → IsRuleInRange rule
rule-in-range given tickets_given Graph h = tt
rule-in-range given tickets_given (Stride tickets) h = tickets-in-range tickets_given tickets h.1

run-policy-of : (given : List ℕ → Option (List ℕ)) (policy : Policy) → IsPolicy given policy → IsRunPolicy policy
run-policy-of given policy h =
    let chunks = h.chunks in
    let fuel = h.fuel in
    let backlog = h.backlog in
    let high = h.high in
    let low = h.low in
    record {
      some_chunks = chunks.not_less;
      chunks = chunks.not_more;
      extra = h.extra.not_more;
      extra_least = h.extra_bytes.not_less;
      extra_most = h.extra_bytes.not_more;
      extra_whole = h.extra_whole;
      fuel = fuel.not_more;
      some_backlog = backlog.not_less;
      backlog = backlog.not_more;
      caps = λ r some lt. caps-in-range _ policy.caps h.caps r;
      high = high.not_more;
      low = (let some = high.not_less in let most = low.not_more in omega arith);
      rule = rule-in-range (given (name_of option.Rule)) (given (name_of option.Tickets)) policy.rule h.rule;
      knee = h.knee.not_more;
    }

-- a list for `build`
pub build-sizes : (words : List (List ℕ)) (source image certificate : List ℕ) (placement : Placement)
    → IsWordList words (Build source image certificate placement) → AreInRange (sizes_of placement)
build-sizes words source image certificate placement h = in-range _ placement h.2

-- a list for `serve`
pub serve-sizes : (words : List (List ℕ)) (source : List ℕ) (placement : Placement) (policy : Policy) → IsWordList words (Serve source placement policy)
    → AreInRange (sizes_of placement)
serve-sizes words source placement policy h = in-range _ placement h.2

pub serve-policy : (words : List (List ℕ)) (source : List ℕ) (placement : Placement) (policy : Policy) → IsWordList words (Serve source placement policy)
    → IsRunPolicy policy
serve-policy words source placement policy h = run-policy-of _ policy h.3

pub serve-pool : (words : List (List ℕ)) (source : List ℕ) (placement : Placement) (policy : Policy) → IsWordList words (Serve source placement policy) →
    policy.chunks * placement.chunk + policy.extra * policy.extra_bytes ≤ 67108864
serve-pool words source placement policy h =
    let chunk : ℕ = placement.chunk in let chunks : ℕ = policy.chunks in let bytes : ℕ = policy.extra_bytes in let extra : ℕ = policy.extra in
    subst (λ n. n ≤ 67108864) (λ i. mul_comm chunk chunks i + mul_comm bytes extra i) h.4

-- a list for `run`
pub run-policy : (words : List (List ℕ)) (source image certificate : List ℕ) (policy : Policy) → IsWordList words (Run source image certificate policy)
    → IsRunPolicy policy
run-policy words source image certificate policy h = run-policy-of _ policy h.2

-- ---- a list for `audit`

caps-count : (given : Option (List ℕ)) (caps : List ℕ) → AreCaps given caps → length caps ≡ 8
caps-count None caps h = ap length h
caps-count (Some text) caps h = ap length h.2

audit-options-of : (given : List ℕ → Option (List ℕ)) (options : AuditOptions) → IsAudit given options → AreAuditOptions options
audit-options-of given options h =
    let policy = h.policy in
    record { run = run-policy-of given options.policy policy; cap_count = caps-count _ options.policy.caps policy.caps; steps = h.steps.not_more }

pub audit-options : (words : List (List ℕ)) (source log : List ℕ) (options : AuditOptions) → IsWordList words (Audit source log options)
    → AreAuditOptions options
audit-options words source log options h = audit-options-of _ options h.2
