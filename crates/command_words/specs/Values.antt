-- The values of the options: their ranges and defaults. `given` returns the text that is given for an option.
use Rattle.std.specs.Prelude.{ℕ, suc, ◌≡◌, ⊤, length, take, ◌-◌, ◌*◌, ◌/◌, ◌%◌, ◌==◌, ◌<◌, ◌≤◌, List, [], ◌∷◌, ◌++◌}
use Rattle.std.specs.Prelude.{map, replicate, codes, Option, Some, None, if◌then◌else◌}
use Rattle.cap_text.specs.Decimals.{canonical_decimal}
use Rattle.cap_text.specs.Pieces.{pieces}
use Rattle.command_words.specs.OptionTable.{name_of, default_of, least_of, most_of}
use Rattle.command_words.specs.declared.option_table.CommandOption.{CommandOption}
use Rattle.command_words.specs.declared.option_table.CommandOption.TheVariants as option
use Rattle.command_words.specs.declared.options.Audit.{Audit}
use Rattle.command_words.specs.declared.options.Placement.{Placement}
use Rattle.command_words.specs.declared.options.Policy.{Policy}
use Rattle.command_words.specs.declared.options.Rule.{Rule}
use Rattle.command_words.specs.declared.options.Rule.TheVariants.{Graph, Stride}
use Rattle.command_words.specs.declared.options.Tickets.{Tickets}

-- the number that is given by its canonical decimal, or the default
abbrev pub IsChosen : Option (List ℕ) → ℕ → ℕ → Type 0
IsChosen None default number = number ≡ default
IsChosen (Some text) default number = text ≡ canonical_decimal number

-- the same within a range, which applies to the default too
pub record IsNumber (given : Option (List ℕ)) (default least most number : ℕ) : Type 0 where
  pub chosen : IsChosen given default number
  pub not_less : least ≤ number
  pub not_more : number ≤ most

-- the same for an option, by its row of the table
abbrev pub IsNumberOf : (given : List ℕ → Option (List ℕ)) → CommandOption → ℕ → Type 0
IsNumberOf given it number = IsNumber (given (name_of it)) (default_of it) (least_of it) (most_of it) number

-- the greatest multiple of 16 that is at most half of the chunk without its header
abbrev pub default_max_path : ℕ → ℕ
default_max_path chunk = (chunk - 16) / 2 / 16 * 16

-- the options of placement: the given or default chunk size, a multiple of 16, and maximum path
pub record IsPlacement (given : List ℕ → Option (List ℕ)) (placement : Placement) : Type 0 where
  pub chunk : IsNumberOf given option.Chunk placement.chunk
  pub whole : placement.chunk % 16 ≡ 0
  pub max_path : IsNumber (given (name_of option.MaxPath)) (default_max_path placement.chunk) (least_of option.MaxPath)
      (placement.chunk - 16) placement.max_path

-- a resource and its cap, as `R=N` (61 is `=`)
abbrev pub cap_text : ℕ × ℕ → List ℕ
cap_text (resource, most) = canonical_decimal resource ++ 61 ∷ canonical_decimal most

-- the resources increase, from above this one up to 7, and each cap is in its range
abbrev pub AreCapsAbove : ℕ → List (ℕ × ℕ) → Type 0
AreCapsAbove below [] = ⊤
AreCapsAbove below ((resource, most) ∷ rest) =
    (below < resource) × (resource ≤ 7) × (least_of option.Caps ≤ most) × (most ≤ most_of option.Caps)
    × AreCapsAbove resource rest

-- the cap of a resource, or 0 if it has none
abbrev pub cap_of : List (ℕ × ℕ) → ℕ → ℕ
cap_of [] sought = 0
cap_of ((resource, most) ∷ rest) sought = if resource == sought then most else cap_of rest sought

-- the caps of the resources 0 to 7
abbrev pub caps_of : List (ℕ × ℕ) → List ℕ
caps_of caps = map (cap_of caps) (0 ∷ 1 ∷ 2 ∷ 3 ∷ 4 ∷ 5 ∷ 6 ∷ 7 ∷ [])

-- the text consists of the caps, joined by `,` (44)
pub record IsCapsText (text : List ℕ) (caps : List (ℕ × ℕ)) : Type 0 where
  pub joined : pieces 44 text ≡ map cap_text caps
  pub in_range : AreCapsAbove 0 caps

-- the given caps, or no caps
abbrev pub AreCaps : Option (List ℕ) → List ℕ → Type 0
AreCaps None caps = caps ≡ replicate 8 0
AreCaps (Some text) caps = (pairs : List (ℕ × ℕ)) × IsCapsText text pairs × (caps ≡ caps_of pairs)

-- ---- the rule of choice

-- a thread and its tickets, as `T=N`
abbrev pub ticket_text : ℕ × ℕ → List ℕ
ticket_text (thread, tickets) = canonical_decimal thread ++ 61 ∷ canonical_decimal tickets

-- the threads increase, from this one up to 1,000,000, and the tickets of each are in their range
abbrev pub AreTicketsFrom : ℕ → List (ℕ × ℕ) → Type 0
AreTicketsFrom least [] = ⊤
AreTicketsFrom least ((thread, tickets) ∷ rest) =
    (least ≤ thread) × (thread ≤ 1000000) × (least_of option.Tickets ≤ tickets) × (tickets ≤ most_of option.Tickets)
    × AreTicketsFrom (suc thread) rest

-- the text consists of the tickets of at most 64 threads, joined by `,` (44)
pub record IsTicketsText (text : List ℕ) (tickets : List (ℕ × ℕ)) : Type 0 where
  pub joined : pieces 44 text ≡ map ticket_text tickets
  pub in_range : AreTicketsFrom 0 tickets
  pub few : length tickets ≤ 64

-- the tickets as a value of the code, and as a list
abbrev pub tickets_of : List (ℕ × ℕ) → Tickets
tickets_of pairs = record { pairs = pairs ++ replicate (64 - length pairs) (0, 0); count = length pairs }

abbrev pub pairs_of : Tickets → List (ℕ × ℕ)
pairs_of tickets = take tickets.count tickets.pairs

-- the given tickets, or no tickets
abbrev pub AreTickets : Option (List ℕ) → Tickets → Type 0
AreTickets None tickets = tickets ≡ tickets_of []
AreTickets (Some text) tickets = (pairs : List (ℕ × ℕ)) × IsTicketsText text pairs × (tickets ≡ tickets_of pairs)

-- the given name of the rule, or `graph`
abbrev pub rule_name : Option (List ℕ) → List ℕ
rule_name None = codes "graph"
rule_name (Some text) = text

-- the rule is `graph`, with which no tickets are given, or `stride`
abbrev pub IsRule : (given tickets_given : Option (List ℕ)) → Rule → Type 0
IsRule given tickets_given Graph = (rule_name given ≡ codes "graph") × (tickets_given ≡ None)
IsRule given tickets_given (Stride tickets) = (rule_name given ≡ codes "stride") × AreTickets tickets_given tickets

-- the options of a run: the given or default value of each, within its range
pub record IsPolicy (given : List ℕ → Option (List ℕ)) (policy : Policy) : Type 0 where
  pub chunks : IsNumberOf given option.Chunks policy.chunks
  pub extra : IsNumberOf given option.Extra policy.extra
  pub extra_bytes : IsNumberOf given option.ExtraSize policy.extra_bytes
  pub extra_whole : policy.extra_bytes % 16 ≡ 0
  pub fuel : IsNumberOf given option.Fuel policy.fuel
  pub backlog : IsNumberOf given option.Backlog policy.backlog
  pub caps : AreCaps (given (name_of option.Caps)) policy.caps
  pub high : IsNumberOf given option.High policy.high
  pub low : IsNumber (given (name_of option.Low)) (default_of option.Low) (least_of option.Low)
      (policy.high - 1) policy.low
  pub rule : IsRule (given (name_of option.Rule)) (given (name_of option.Tickets)) policy.rule
  pub knee : IsNumberOf given option.Knee policy.knee

-- the options of an audit include a run's policy, of which the words give only the options that audits take
-- (`audit_policy`)
pub record IsAudit (given : List ℕ → Option (List ℕ)) (options : Audit) : Type 0 where
  pub policy : IsPolicy given options.policy
  pub steps : IsNumberOf given option.Steps options.steps
