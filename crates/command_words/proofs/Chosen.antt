-- The texts that were given choose one value.
use Rattle.command_words.proofs.Common.{◌≡◌, ◌∙◌, ℕ, ◌+◌, ◌-◌, ◌*◌, ◌%◌, ◌<◌, ◌≤◌, refl, ap, sym, subst, arith, false, true≢false, List, [], ◌∷◌, map, Option, Some, None, IfNone, codes, bytes_eq, bytes_eq-Decides, decimal_unique, Placement, Policy, Tickets, name_of, default_of, least_of, IsAudit, IsChosen, IsNumber, IsNumberOf, IsPlacement, IsPolicy, AreCaps, AreCapsAbove, cap_text, caps_of, default_max_path, AreTickets, IsRule, rule_name, ticket_text, tickets_of, Request, Serve, Run, Build, Check, Graph, Demo, Audit, Budget, Texts, IsAsked, HasThree, HasTwo}
use Rattle.command_words.specs.declared.option_values.Marks.{Marks}
use Rattle.command_words.specs.declared.options.Audit.{Audit as AuditOptions}
use Rattle.command_words.specs.declared.options.Rule.{Rule}
use Rattle.command_words.specs.declared.options.Rule.TheVariants.{Graph, Stride}
use Rattle.command_words.specs.Shared.{AreMarks, IsRoom}
use Rattle.command_words.specs.declared.option_table.CommandOption.TheVariants as option
use Rattle.command_words.proofs.CapsSoFar.{Caps, one_cap}
use Rattle.command_words.proofs.TicketsSoFar.{ticket_parts}

pub if_none : {A : Type 0} {P : Type 0} (r : Option A) → P → IfNone r P
if_none None holds = holds
if_none (Some x) holds = tt

pub one_chosen : (given : Option (List ℕ)) (default m n : ℕ) → IsChosen given default m → IsChosen given default n → m ≡ n
one_chosen None default m n is same = is ∙ sym same
one_chosen (Some text) default m n is same = decimal_unique m n (sym is ∙ same)

one_list : (below : ℕ) (caps others : Caps) → map cap_text caps ≡ map cap_text others → AreCapsAbove below caps → AreCapsAbove below others → caps ≡ others
one_list below [] [] same are also = refl
one_list below ((resource, most) ∷ caps) ((other, more) ∷ others) same are also =
    let first : cap_text (resource, most) ≡ cap_text (other, more) = cc in
    let rest : map cap_text caps ≡ map cap_text others = cc in
    let one = one_cap resource most other more are.1 also.1 first in
    λ i. (one.0 i, one.1 i) ∷ one_list resource caps others rest are.4 (subst (λ r. AreCapsAbove r others) (sym one.0) also.4) i
one_list below _ _ same are also = absurd (cc)

pub one_caps : (given : Option (List ℕ)) (caps others : List ℕ) → AreCaps given caps → AreCaps given others → caps ≡ others
one_caps None caps others is same = is ∙ sym same
one_caps (Some text) caps others is same =
    is.2 ∙ ap caps_of (one_list 0 is.0 same.0 (sym is.1.joined ∙ same.1.joined) is.1.in_range same.1.in_range) ∙ sym same.2

pub one_placement : (given : Texts) (p q : Placement) → IsPlacement given p → IsPlacement given q → p ≡ q
one_placement given p q is same =
    let chunk = one_chosen (given (name_of option.Chunk)) (default_of option.Chunk) p.chunk q.chunk is.chunk.chosen same.chunk.chosen in
    let max_path = one_chosen (given (name_of option.MaxPath)) (default_max_path p.chunk) p.max_path q.max_path is.max_path.chosen
    (subst (λ c. IsChosen (given (name_of option.MaxPath)) (default_max_path c) q.max_path) (sym chunk) same.max_path.chosen) in
    λ i. record { chunk = chunk i; max_path = max_path i }

-- of two texts of tickets the threads and the tickets are the same
pub one_ticket : (thread count other more : ℕ) → ticket_text (thread, count) ≡ ticket_text (other, more) → (thread ≡ other) × (count ≡ more)
one_ticket thread count other more same = ticket_parts thread count other more same

one_ticket_list : (least : ℕ) (tickets others : Caps) → map ticket_text tickets ≡ map ticket_text others → tickets ≡ others
one_ticket_list least [] [] same = refl
one_ticket_list least ((thread, count) ∷ tickets) ((other, more) ∷ others) same =
    let first : ticket_text (thread, count) ≡ ticket_text (other, more) = cc in
    let rest : map ticket_text tickets ≡ map ticket_text others = cc in
    let one = one_ticket thread count other more first in
    λ i. (one.0 i, one.1 i) ∷ one_ticket_list least tickets others rest i
one_ticket_list least _ _ same = absurd (cc)

one_tickets : (given : Option (List ℕ)) (tickets others : Tickets) → AreTickets given tickets → AreTickets given others → tickets ≡ others
one_tickets None tickets others is same = is ∙ sym same
one_tickets (Some text) tickets others is same = is.2 ∙ ap tickets_of (one_ticket_list 0 is.0 same.0 (sym is.1.joined ∙ same.1.joined)) ∙ sym same.2

-- the texts name one rule
not_stride : (given : Option (List ℕ)) → rule_name given ≡ codes "graph" → rule_name given ≡ codes "stride" → ⊥
not_stride given graph stride =
    let same : codes "graph" ≡ codes "stride" = sym graph ∙ stride in
    true≢false (sym ((bytes_eq-Decides (codes "graph") (codes "stride")).1 same) ∙ refl)

one_rule : (given tickets : Option (List ℕ)) (r s : Rule) → IsRule given tickets r → IsRule given tickets s → r ≡ s
one_rule given tickets Graph Graph is same = refl
one_rule given tickets Graph (Stride t) is same = absurd (not_stride given is.0 same.0)
one_rule given tickets (Stride t) Graph is same = absurd (not_stride given same.0 is.0)
one_rule given tickets (Stride t) (Stride u) is same = ap Stride (one_tickets tickets t u is.1 same.1)

pub one_policy : (given : Texts) (p q : Policy) → IsPolicy given p → IsPolicy given q → p ≡ q
one_policy given p q is same =
    let chunks = one_chosen (given (name_of option.Chunks)) (default_of option.Chunks) p.chunks q.chunks is.chunks.chosen same.chunks.chosen in
    let extra = one_chosen (given (name_of option.Extra)) (default_of option.Extra) p.extra q.extra is.extra.chosen same.extra.chosen in
    let extra_bytes = one_chosen (given (name_of option.ExtraSize)) (default_of option.ExtraSize) p.extra_bytes q.extra_bytes
    is.extra_bytes.chosen same.extra_bytes.chosen in
    let fuel = one_chosen (given (name_of option.Fuel)) (default_of option.Fuel) p.fuel q.fuel is.fuel.chosen same.fuel.chosen in
    let backlog = one_chosen (given (name_of option.Backlog)) (default_of option.Backlog) p.backlog q.backlog is.backlog.chosen same.backlog.chosen in
    let caps = one_caps (given (name_of option.Caps)) p.caps q.caps is.caps same.caps in
    let high = one_chosen (given (name_of option.High)) (default_of option.High) p.high q.high is.high.chosen same.high.chosen in
    let low = one_chosen (given (name_of option.Low)) (default_of option.Low) p.low q.low is.low.chosen same.low.chosen in
    let rule = one_rule (given (name_of option.Rule)) (given (name_of option.Tickets)) p.rule q.rule is.rule same.rule in
    let knee = one_chosen (given (name_of option.Knee)) (default_of option.Knee) p.knee q.knee is.knee.chosen same.knee.chosen in
    λ i. record {
      chunks = chunks i;
      extra = extra i;
      extra_bytes = extra_bytes i;
      fuel = fuel i;
      backlog = backlog i;
      caps = caps i;
      high = high i;
      low = low i;
      rule = rule i;
      knee = knee i;
    }

pub one_audit : (given : Texts) (a b : AuditOptions) → IsAudit given a → IsAudit given b → a ≡ b
one_audit given a b is same =
    let policy = one_policy given a.policy b.policy is.policy same.policy in
    let steps = one_chosen (given (name_of option.Steps)) (default_of option.Steps) a.steps b.steps is.steps.chosen same.steps.chosen in
    λ i. record { policy = policy i; steps = steps i }

-- a chunk is chosen that is no multiple of 16
pub no_whole : (given : Texts) (chunk : ℕ) → IsNumberOf given option.Chunk chunk → (chunk % 16 ≡ 0 → ⊥) → (p : Placement) → IsPlacement given p → ⊥
no_whole given chunk chosen other p is =
    let same = one_chosen (given (name_of option.Chunk)) (default_of option.Chunk) p.chunk chunk is.chunk.chosen chosen.chosen in
    other (subst (λ (c : ℕ). c % 16 ≡ 0) same is.whole)

-- a chunk is chosen, and no path in its range
pub no_path : (given : Texts) (chunk : ℕ) → IsNumberOf given option.Chunk chunk
    → ((n : ℕ) → IsNumber (given (name_of option.MaxPath)) (default_max_path chunk) (least_of option.MaxPath) (chunk - 16) n → ⊥) → (p : Placement)
    → IsPlacement given p → ⊥
no_path given chunk chosen none p is =
    let same = one_chosen (given (name_of option.Chunk)) (default_of option.Chunk) p.chunk chunk is.chunk.chosen chosen.chosen in
    none p.max_path
    (subst (λ (c : ℕ). IsNumber (given (name_of option.MaxPath)) (default_max_path c) (least_of option.MaxPath) (c - 16) p.max_path) same is.max_path)

-- a high mark is chosen, and no low one below it
pub no_low : (given : Texts) (high : ℕ) → IsNumberOf given option.High high
    → ((n : ℕ) → IsNumber (given (name_of option.Low)) (default_of option.Low) (least_of option.Low) (high - 1) n → ⊥) → (m : Marks) → AreMarks given m → ⊥
no_low given high chosen none m is =
    let same = one_chosen (given (name_of option.High)) (default_of option.High) m.high high is.high.chosen chosen.chosen in
    none m.low (subst (λ (c : ℕ). IsNumber (given (name_of option.Low)) (default_of option.Low) (least_of option.Low) (c - 1) m.low) same is.low)

-- the parts of a policy
pub room_of_policy : (given : Texts) (p : Policy) → IsPolicy given p
    → IsRoom given (record { chunks = p.chunks; extra = p.extra; fuel = p.fuel; backlog = p.backlog })
room_of_policy given p is = record { chunks = is.chunks; extra = is.extra; fuel = is.fuel; backlog = is.backlog }

pub marks_of_policy : (given : Texts) (p : Policy) → IsPolicy given p
    → AreMarks given (record { caps = p.caps; high = p.high; low = p.low; knee = p.knee })
marks_of_policy given p is = record { caps = is.caps; high = is.high; low = is.low; knee = is.knee }

-- ---- the command's name

pub other_name : (given : Texts) (a b : List ℕ) → given (codes "command") ≡ Some a → given (codes "command") ≡ Some b → bytes_eq a b ≡ false → ⊥
other_name given a b is also differ =
    let both : Some a ≡ Some b = sym is ∙ also in
    let same : a ≡ b = cc in
    true≢false (sym ((bytes_eq-Decides a b).1 same) ∙ differ)

-- a command of three names, where there aren't three
pub no_three : (given : Texts) (name : List ℕ) → given (codes "command") ≡ Some name → bytes_eq name (codes "serve") ≡ false
    → bytes_eq name (codes "graph") ≡ false
    → bytes_eq name (codes "demo") ≡ false → bytes_eq name (codes "audit") ≡ false → ((n first second third : List ℕ) → HasThree given n first second third → ⊥)
    → (request : Request) → IsAsked given request → ⊥
no_three given name is serve graph demo audit none (Serve source placement policy) asked = other_name given name (codes "serve") is asked.0.0 serve
no_three given name is serve graph demo audit none (Run source image certificate policy) asked = none (codes "run") source image certificate asked.0
no_three given name is serve graph demo audit none (Build source image certificate placement) asked = none (codes "build") source image certificate asked.0
no_three given name is serve graph demo audit none (Check source image certificate) asked = none (codes "check") source image certificate asked.0
no_three given name is serve graph demo audit none (Graph source placement) asked = other_name given name (codes "graph") is asked.0.0 graph
no_three given name is serve graph demo audit none (Budget source image certificate) asked = none (codes "budget") source image certificate asked.0
no_three given name is serve graph demo audit none (Demo number) asked = other_name given name (codes "demo") is asked.0.0 demo
no_three given name is serve graph demo audit none (Audit source log options) asked = other_name given name (codes "audit") is asked.0.0 audit

-- an audit of two names, where there aren't two
pub no_two : (given : Texts) → given (codes "command") ≡ Some (codes "audit") → ((n first second : List ℕ) → HasTwo given n first second → ⊥)
    → (request : Request) → IsAsked given request → ⊥
no_two given is none (Serve source placement policy) asked = other_name given (codes "audit") (codes "serve") is asked.0.0 refl
no_two given is none (Run source image certificate policy) asked = other_name given (codes "audit") (codes "run") is asked.0.0 refl
no_two given is none (Build source image certificate placement) asked = other_name given (codes "audit") (codes "build") is asked.0.0 refl
no_two given is none (Check source image certificate) asked = other_name given (codes "audit") (codes "check") is asked.0.0 refl
no_two given is none (Graph source placement) asked = other_name given (codes "audit") (codes "graph") is asked.0.0 refl
no_two given is none (Demo number) asked = other_name given (codes "audit") (codes "demo") is asked.0.0 refl
no_two given is none (Audit source log options) asked = none (codes "audit") source log asked.0
no_two given is none (Budget source image certificate) asked = other_name given (codes "audit") (codes "budget") is asked.0.0 refl

-- a size of the chunks that are added is chosen that is no multiple of 16
pub no_extra : (given : Texts) (bytes : ℕ) → IsNumberOf given option.ExtraSize bytes → (bytes % 16 ≡ 0 → ⊥)
    → (n : ℕ) → IsNumberOf given option.ExtraSize n → n % 16 ≡ 0 → ⊥
no_extra given bytes chosen other n is whole =
    let same = one_chosen (given (name_of option.ExtraSize)) (default_of option.ExtraSize) n bytes is.chosen chosen.chosen in
    other (subst (λ (b : ℕ). b % 16 ≡ 0) same whole)

-- the command `serve`, where none is asked for
pub no_serve : (given : Texts) → given (codes "command") ≡ Some (codes "serve")
    → ((source : List ℕ) (p : Placement) (q : Policy) → IsAsked given (Serve source p q) → ⊥) → (request : Request) → IsAsked given request → ⊥
no_serve given is none (Serve source p q) asked = none source p q asked
no_serve given is none (Run source image certificate q) asked = other_name given (codes "serve") (codes "run") is asked.0.0 refl
no_serve given is none (Build source image certificate p) asked = other_name given (codes "serve") (codes "build") is asked.0.0 refl
no_serve given is none (Check source image certificate) asked = other_name given (codes "serve") (codes "check") is asked.0.0 refl
no_serve given is none (Graph source p) asked = other_name given (codes "serve") (codes "graph") is asked.0.0 refl
no_serve given is none (Budget source image certificate) asked = other_name given (codes "serve") (codes "budget") is asked.0.0 refl
no_serve given is none (Audit source log options) asked = other_name given (codes "serve") (codes "audit") is asked.0.0 refl
no_serve given is none (Demo number) asked = other_name given (codes "serve") (codes "demo") is asked.0.0 refl

-- the pool would be too large
pub no_pool : (given : Texts) (placement : Placement) (policy : Policy) → IsPlacement given placement → IsPolicy given policy
    → 67108864 < placement.chunk * policy.chunks + policy.extra_bytes * policy.extra
    → (source : List ℕ) (p : Placement) (q : Policy) → IsAsked given (Serve source p q) → ⊥
no_pool given placement policy placed ruled large source p q asked =
    let small : placement.chunk * policy.chunks + policy.extra_bytes * policy.extra ≤ 67108864 =
    subst (λ (x : Placement). x.chunk * policy.chunks + policy.extra_bytes * policy.extra ≤ 67108864) (one_placement given p placement asked.1 placed)
    (subst (λ (x : Policy). p.chunk * x.chunks + x.extra_bytes * x.extra ≤ 67108864) (one_policy given q policy asked.2 ruled) asked.3) in
    omega arith
