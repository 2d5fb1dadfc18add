-- The values of the options, or that the texts are none.
use Rattle.decisions.proofs.Common.{◌≡◌, ◌∙◌, ℕ, suc, ◌-◌, ◌<◌, ◌≤◌, ◌%◌, ◌⊎◌, inl, inr, List, [], ◌∷◌, length, map, replicate, Option, Some, None, refl, ap, arith, codes, decided_by, both_decided, either_decided, number_same, Below, below_decided, option_same, text_same, le_decided, length-map, canonical_decimal, pieces, Placement, Policy, IsChosen, IsNumber, IsNumberOf, default_max_path, IsPlacement, cap_text, AreCapsAbove, caps_of, AreCaps, ticket_text, AreTicketsFrom, tickets_of, AreTickets, rule_name, IsAudit, IsRule, IsPolicy, Decided}
use Rattle.command_words.specs.declared.options.Audit.{Audit}
use Rattle.command_words.specs.declared.options.Rule.{Rule}
use Rattle.command_words.specs.declared.options.Rule.TheVariants.{Graph, Stride}
use Rattle.command_words.specs.declared.options.Tickets.{Tickets}
use Rattle.command_words.specs.OptionTable.{name_of, default_of, least_of, most_of}
use Rattle.command_words.specs.declared.option_table.CommandOption.{CommandOption}
use Rattle.command_words.specs.declared.option_table.CommandOption.TheVariants as option
use Rattle.decisions.proofs.Decisions.{lt_decided}

abbrev Texts : Type 0
Texts = List ℕ → Option (List ℕ)

-- ---- numbers

chosen_decided : (given : Option (List ℕ)) (default n : ℕ) → Decided (IsChosen given default n)
chosen_decided None default n = number_same n default
chosen_decided (Some text) default n = text_same text (canonical_decimal n)

is_number_decided : (given : Option (List ℕ)) (default least most n : ℕ) → Decided (IsNumber given default least most n)
is_number_decided given default least most n =
    decided_by (λ (h : IsChosen given default n × ((least ≤ n) × (n ≤ most))). record { chosen = h.0; not_less = h.1.0; not_more = h.1.1 })
    (λ h. (h.chosen, (h.not_less, h.not_more)))
    (both_decided (chosen_decided given default n) (both_decided (le_decided least n) (le_decided n most)))

-- some number is in the range and has what is decided of each
pub ranged_decided : (given : Option (List ℕ)) (default least most : ℕ) (P : ℕ → Type 0) → ((n : ℕ) → Decided (P n))
    → Decided ((n : ℕ) × (IsNumber given default least most n × P n))
ranged_decided given default least most P each =
    decided_by (λ (b : Below (λ n. IsNumber given default least most n × P n) (suc most)). (b.0, b.1.1))
    (λ h. (h.0, ((let below = h.1.0.not_more in omega (arith, below)), h.1)))
    (below_decided (λ n. IsNumber given default least most n × P n) (λ n. both_decided (is_number_decided given default least most n) (each n)) (suc most))

pub number_decided : (given : Option (List ℕ)) (default least most : ℕ) → Decided ((n : ℕ) × IsNumber given default least most n)
number_decided given default least most =
    decided_by (λ (h : (n : ℕ) × (IsNumber given default least most n × Unit {0})). (h.0, h.1.0)) (λ h. (h.0, (h.1, tt)))
    (ranged_decided given default least most (λ n. Unit {0}) (λ n. inl tt))

-- the same of an option by its row of the table
ranged_option : (given : Texts) (it : CommandOption) (P : ℕ → Type 0) → ((n : ℕ) → Decided (P n)) → Decided ((n : ℕ) × (IsNumberOf given it n × P n))
ranged_option given it P each = ranged_decided (given (name_of it)) (default_of it) (least_of it) (most_of it) P each

number_option : (given : Texts) (it : CommandOption) → Decided ((n : ℕ) × IsNumberOf given it n)
number_option given it = number_decided (given (name_of it)) (default_of it) (least_of it) (most_of it)

-- ---- the sizes

pub placement_decided : (given : Texts) → Decided ((placement : Placement) × IsPlacement given placement)
placement_decided given =
    decided_by (λ (h : Sizes). (record { chunk = h.0; max_path = h.1.1.1.0 }, record { chunk = h.1.0; whole = h.1.1.0; max_path = h.1.1.1.1 }))
    (λ h. (h.0.chunk, (h.1.chunk, (h.1.whole, (h.0.max_path, h.1.max_path)))))
    (ranged_option given option.Chunk Rest (λ chunk. both_decided (number_same (chunk % 16) 0)
    (number_decided (given (name_of option.MaxPath)) (default_max_path chunk) (least_of option.MaxPath) (chunk - 16))))
  where
    Rest : ℕ → Type 0
    Rest chunk = (chunk % 16 ≡ 0) × ((path : ℕ)
        × IsNumber (given (name_of option.MaxPath)) (default_max_path chunk) (least_of option.MaxPath) (chunk - 16) path)

    Sizes : Type 0
    Sizes = (chunk : ℕ) × (IsNumberOf given option.Chunk chunk × Rest chunk)

-- ---- pairs of numbers

-- whether fields are the texts of pairs whose first numbers rise, with each number in its range
module _ (text_of : ℕ × ℕ → List ℕ) (next : ℕ → ℕ) (Above : ℕ → ℕ → Type 0) (above : (base first : ℕ) → Decided (Above base first)) (firsts seconds : ℕ)
    (Rise : ℕ → List (ℕ × ℕ) → Type 0) (none : (base : ℕ) → Rise base [])
    (join : (base first second : ℕ) (pairs : List (ℕ × ℕ)) → Above base first × (first ≤ firsts) × (1 ≤ second) × (second ≤ seconds) × Rise (next first) pairs → Rise base ((first, second) ∷ pairs))
    (split : (base first second : ℕ) (pairs : List (ℕ × ℕ)) → Rise base ((first, second) ∷ pairs) → Above base first × (first ≤ firsts) × (1 ≤ second) × (second ≤ seconds) × Rise (next first) pairs) where
  -- the fields are the texts of such pairs
  abbrev PairsFrom : List (List ℕ) → ℕ → Type 0
  PairsFrom fields base = (pairs : List (ℕ × ℕ)) × ((fields ≡ map text_of pairs) × Rise base pairs)

  -- the field is one pair, and the others follow it
  abbrev First : List ℕ → List (List ℕ) → ℕ → ℕ → ℕ → Type 0
  First field fields base first second = ((field ≡ text_of (first, second)) × (Above base first × (1 ≤ second))) × PairsFrom fields (next first)

  abbrev SomePair : List ℕ → List (List ℕ) → ℕ → Type 0
  SomePair field fields base = Below (λ first. Below (λ second. First field fields base first second) (suc seconds)) (suc firsts)

  some_decided : (field : List ℕ) (fields : List (List ℕ)) (base : ℕ) → ((n : ℕ) → Decided (PairsFrom fields n)) → Decided (SomePair field fields base)
  some_decided field fields base again =
      below_decided (λ first. Below (λ second. First field fields base first second) (suc seconds))
      (λ first. below_decided (λ second. First field fields base first second)
      (λ second. both_decided (both_decided (text_same field (text_of (first, second))) (both_decided (above base first) (le_decided 1 second))) (again (next first))) (suc seconds)) (suc firsts)

  to_pairs : (field : List ℕ) (fields : List (List ℕ)) (base : ℕ) → SomePair field fields base → PairsFrom (field ∷ fields) base
  to_pairs field fields base b =
      let f = b.1.1.1.1 in
      let text = f.0.0 in
      let more = f.1.1.0 in
      let first_below = b.1.0 in
      let second_below = b.1.1.1.0 in
      ((b.0, b.1.1.0) ∷ f.1.0, ((cc), join base b.0 b.1.1.0 f.1.0 (f.0.1.0, omega (arith, first_below), f.0.1.1, omega (arith, second_below), f.1.1.1)))

  from_pairs : (field : List ℕ) (fields : List (List ℕ)) (base : ℕ) → PairsFrom (field ∷ fields) base → SomePair field fields base
  from_pairs field fields base (([], h)) = let e = h.0 in absurd cc
  from_pairs field fields base (((first, second) ∷ pairs, h)) =
      let e = h.0 in
      let is = split base first second pairs h.1 in
      let a = is.1 in
      let b = is.3 in
      (first, (omega (arith, a), (second, (omega (arith, b), (((cc), (is.0, is.2)), (pairs, ((cc), is.4)))))))

  pairs_from : (fields : List (List ℕ)) (base : ℕ) → Decided (PairsFrom fields base)
  pairs_from [] base = inl ([], (refl, none base))
  pairs_from (field ∷ fields) base = decided_by (to_pairs field fields base) (from_pairs field fields base) (some_decided field fields base (λ n. pairs_from fields n))

-- ---- the caps

abbrev CapsFrom : List (List ℕ) → ℕ → Type 0
CapsFrom fields below = (pairs : List (ℕ × ℕ)) × ((fields ≡ map cap_text pairs) × AreCapsAbove below pairs)

caps_from : (fields : List (List ℕ)) → Decided (CapsFrom fields 0)
caps_from fields =
    pairs_from cap_text (λ resource. resource) (λ below resource. below < resource) lt_decided 7 1000000 AreCapsAbove (λ below. tt) (λ below resource most pairs h. h) (λ below resource most pairs h. h)
    fields 0

pub caps_decided : (given : Option (List ℕ)) → Decided ((caps : List ℕ) × AreCaps given caps)
caps_decided None = inl (replicate 8 0, refl)
caps_decided (Some text) =
    decided_by (λ (h : CapsFrom (pieces 44 text) 0). (caps_of h.0, (h.0, record { joined = h.1.0; in_range = h.1.1 }, refl)))
    (λ h. (h.1.0, (h.1.1.joined, h.1.1.in_range)))
    (caps_from (pieces 44 text))

-- ---- the rule

abbrev TicketsFrom : List (List ℕ) → ℕ → Type 0
TicketsFrom fields least = (pairs : List (ℕ × ℕ)) × ((fields ≡ map ticket_text pairs) × AreTicketsFrom least pairs)

tickets_from : (fields : List (List ℕ)) → Decided (TicketsFrom fields 0)
tickets_from fields =
    pairs_from ticket_text (λ thread. suc thread) (λ least thread. least ≤ thread) le_decided 1000000 1024 AreTicketsFrom (λ least. tt) (λ least thread tickets pairs h. h) (λ least thread tickets pairs h. h)
    fields 0

few_pairs : (fields : List (List ℕ)) (pairs : List (ℕ × ℕ)) → fields ≡ map ticket_text pairs → length fields ≡ length pairs
few_pairs fields pairs e = ap length e ∙ length-map pairs ticket_text

tickets_decided : (given : Option (List ℕ)) → Decided ((tickets : Tickets) × AreTickets given tickets)
tickets_decided None = inl (tickets_of [], refl)
tickets_decided (Some text) =
    decided_by (λ (h : TicketsFrom (pieces 44 text) 0 × (length (pieces 44 text) ≤ 64)).
    (tickets_of h.0.0, (h.0.0, record { joined = h.0.1.0; in_range = h.0.1.1; few = (let e = few_pairs _ _ h.0.1.0 in let few = h.1 in omega arith) }, refl)))
    (λ h. ((h.1.0, (h.1.1.joined, h.1.1.in_range)), (let e = few_pairs _ _ h.1.1.joined in let few = h.1.1.few in omega arith)))
    (both_decided (tickets_from (pieces 44 text)) (le_decided (length (pieces 44 text)) 64))

rule_decided : (given tickets_given : Option (List ℕ)) → Decided ((rule : Rule) × IsRule given tickets_given rule)
rule_decided given tickets_given =
    decided_by to from (either_decided (both_decided (text_same (rule_name given) (codes "graph")) (option_same text_same tickets_given None))
    (both_decided (text_same (rule_name given) (codes "stride")) (tickets_decided tickets_given)))
  where
    ByGraph : Type 0
    ByGraph = (rule_name given ≡ codes "graph") × (tickets_given ≡ None)

    ByStride : Type 0
    ByStride = (rule_name given ≡ codes "stride") × ((tickets : Tickets) × AreTickets tickets_given tickets)

    to : ByGraph ⊎ ByStride → (rule : Rule) × IsRule given tickets_given rule
    to (inl h) = (Graph, h)
    to (inr h) = (Stride h.1.0, (h.0, h.1.1))

    from : (rule : Rule) × IsRule given tickets_given rule → ByGraph ⊎ ByStride
    from ((Graph, h)) = inl h
    from ((Stride tickets, h)) = inr (h.0, (tickets, h.1))

-- ---- the policy

pub policy_decided : (given : Texts) → Decided ((policy : Policy) × IsPolicy given policy)
policy_decided given =
    decided_by to from (both_decided (number_option given option.Chunks)
    (both_decided (number_option given option.Extra)
    (both_decided (ranged_option given option.ExtraSize (λ bytes. bytes % 16 ≡ 0) (λ bytes. number_same (bytes % 16) 0))
    (both_decided (number_option given option.Fuel)
    (both_decided (number_option given option.Backlog)
    (both_decided (caps_decided (given (name_of option.Caps)))
    (both_decided (ranged_option given option.High (λ high. (low : ℕ) × IsLow high low)
    (λ high. number_decided (given (name_of option.Low)) (default_of option.Low) (least_of option.Low) (high - 1)))
    (both_decided (rule_decided (given (name_of option.Rule)) (given (name_of option.Tickets)))
    (number_option given option.Knee)))))))))
  where
    IsLow : ℕ → ℕ → Type 0
    IsLow high low = IsNumber (given (name_of option.Low)) (default_of option.Low) (least_of option.Low) (high - 1) low

    Parts : Type 0
    Parts = ((n : ℕ) × IsNumberOf given option.Chunks n)
        × (((n : ℕ) × IsNumberOf given option.Extra n)
        × (((n : ℕ) × (IsNumberOf given option.ExtraSize n × (n % 16 ≡ 0)))
        × (((n : ℕ) × IsNumberOf given option.Fuel n)
        × (((n : ℕ) × IsNumberOf given option.Backlog n)
        × (((caps : List ℕ) × AreCaps (given (name_of option.Caps)) caps)
        × (((n : ℕ) × (IsNumberOf given option.High n × ((low : ℕ) × IsLow n low)))
        × (((rule : Rule) × IsRule (given (name_of option.Rule)) (given (name_of option.Tickets)) rule)
        × ((n : ℕ) × IsNumberOf given option.Knee n))))))))

    to : Parts → (policy : Policy) × IsPolicy given policy
    to p =
        let q = p.1.1.1 in
        let r = q.1.1.1 in (
          record {
            chunks = p.0.0;
            extra = p.1.0.0;
            extra_bytes = p.1.1.0.0;
            fuel = q.0.0;
            backlog = q.1.0.0;
            caps = q.1.1.0.0;
            high = r.0.0;
            low = r.0.1.1.0;
            rule = r.1.0.0;
            knee = r.1.1.0;
          },
          record {
            chunks = p.0.1;
            extra = p.1.0.1;
            extra_bytes = p.1.1.0.1.0;
            extra_whole = p.1.1.0.1.1;
            fuel = q.0.1;
            backlog = q.1.0.1;
            caps = q.1.1.0.1;
            high = r.0.1.0;
            low = r.0.1.1.1;
            rule = r.1.0.1;
            knee = r.1.1.1;
          },
        )

    from : (policy : Policy) × IsPolicy given policy → Parts
    from ((policy, is)) = (
      (policy.chunks, is.chunks),
      (
        (policy.extra, is.extra),
        (
          (policy.extra_bytes, (is.extra_bytes, is.extra_whole)),
          (
            (policy.fuel, is.fuel),
            (
              (policy.backlog, is.backlog),
              (
                (policy.caps, is.caps),
                (
                  (policy.high, (is.high, (policy.low, is.low))),
                  (
                    (policy.rule, is.rule),
                    (policy.knee, is.knee),
                  ),
                ),
              ),
            ),
          ),
        ),
      ),
    )

-- ---- the options of an audit

pub audit_options_decided : (given : Texts) → Decided ((options : Audit) × IsAudit given options)
audit_options_decided given =
    decided_by to from (both_decided (policy_decided given) (number_option given option.Steps))
  where
    Parts : Type 0
    Parts = ((policy : Policy) × IsPolicy given policy) × ((n : ℕ) × IsNumberOf given option.Steps n)

    to : Parts → (options : Audit) × IsAudit given options
    to p = (record { policy = p.0.0; steps = p.1.0 }, record { policy = p.0.1; steps = p.1.1 })

    from : (options : Audit) × IsAudit given options → Parts
    from ((options, is)) = ((options.policy, is.policy), (options.steps, is.steps))
