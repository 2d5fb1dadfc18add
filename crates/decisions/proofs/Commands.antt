-- Each command, or that the words don't ask for it.
use Rattle.decisions.proofs.Common.{◌≡◌, ℕ, ◌+◌, ◌*◌, ◌≤◌, inl, inr, List, [], ◌∷◌, ◌++◌, Option, refl, subst, arith, codes, decided_by, both_decided, Below, below_decided, list_same, text_same, le_decided, canonical_decimal, Placement, Policy, Said, positionals_of, value_of, IsOneOf, all_options, IsAudit, IsPlacement, IsPolicy, Serve, Run, Build, Check, Graph, Demo, Audit, Budget, Says, IsWordList, audit_policy, placement_options, policy_options, Decided}
use Rattle.command_words.specs.declared.options.Audit.{Audit as AuditOptions}
use Rattle.command_words.proofs.Chosen.{one_placement, one_policy}
use Rattle.command_words.proofs.GivenOptions.{within}
use Rattle.decisions.proofs.Spoken.{Text, Heard, heard_decided, one_following, follows_of}
use Rattle.decisions.proofs.Values.{audit_options_decided, placement_decided, policy_decided}

-- ---- the words behind a command's name

one_word : (words : List Text) → Decided ((word : Text) × (words ≡ word ∷ []))
one_word (word ∷ []) = inl (word, refl)
one_word _ = inr (λ h. let e = h.1 in absurd cc)

abbrev Two : List Text → Type 0
Two words = (first : Text) × ((second : Text) × (words ≡ first ∷ second ∷ []))

two_words : (words : List Text) → Decided (Two words)
two_words (a ∷ b ∷ []) = inl (a, (b, refl))
two_words _ = inr (λ h. let e = h.1.1 in absurd cc)

abbrev Three : List Text → Type 0
Three words = (first : Text) × ((second : Text) × ((third : Text) × (words ≡ first ∷ second ∷ third ∷ [])))

three_words : (words : List Text) → Decided (Three words)
three_words (a ∷ b ∷ c ∷ []) = inl (a, (b, (c, refl)))
three_words _ = inr (λ h. let e = h.1.1.1 in absurd cc)

-- ---- a command by its name and options

says_as : (words : List Text) (name : Text) (positionals other options : List Text) (said : List Said) → positionals_of said ≡ other → Says words name positionals options said → Says words name other options said
says_as words name positionals other options said e says =
    record { in_words = says.in_words; plain = says.plain; positional = e; known = says.known; once = says.once }

heard_as : (words : List Text) (name : Text) (positionals options : List Text) (said : List Said) → Says words name positionals options said → Says words name (positionals_of said) options said
heard_as words name positionals options said says = says_as words name positionals (positionals_of said) options said refl says

-- the words say something that has this
abbrev SaysWith : List Text → Text → List Text → (List Said → Type 0) → Type 0
SaysWith words name options P = (said : List Said) × (Says words name (positionals_of said) options said × P said)

command_decided : (words : List Text) (name : Text) (options : List Text) → ((word : Text) → IsOneOf options word → IsOneOf all_options word)
    → (P : List Said → Type 0) → ((said : List Said) → Decided (P said)) → Decided (SaysWith words name options P)
command_decided words name options within P each = by (heard_decided words name options within) where
  whole : (h : Heard words name options) → Decided (P h.0) → Decided (SaysWith words name options P)
  whole h (inl p) = inl (h.0, (h.1, p))
  whole h (inr none) = inr (λ other.
      let same : other.0 ≡ h.0 = one_following words name other.0 h.0 (follows_of words name _ options other.0 within other.1.0) (follows_of words name _ options h.0 within h.1) in
      none (subst P same other.1.1))

  by : Decided (Heard words name options) → Decided (SaysWith words name options P)
  by (inr none) = inr (λ other. none (other.0, other.1.0))
  by (inl h) = whole h (each h.0)

no_options : (word : Text) → IsOneOf [] word → IsOneOf all_options word
no_options = within all_options [] refl

-- the options of `serve`
abbrev run_and_placement : List Text
run_and_placement = placement_options ++ policy_options

-- ---- the two sets of options of `serve`

abbrev Sizes : (Text → Option Text) → Type 0
Sizes given = (placement : Placement) × ((policy : Policy) × ((IsPlacement given placement × IsPolicy given policy) × (placement.chunk * policy.chunks + policy.extra_bytes * policy.extra ≤ 67108864)))

sizes_decided : (said : List Said) → Decided (Sizes (value_of said))
sizes_decided said = by (placement_decided (value_of said)) (policy_decided (value_of said)) where
  fit : (p : (placement : Placement) × IsPlacement (value_of said) placement) (q : (policy : Policy) × IsPolicy (value_of said) policy)
      → Decided (p.0.chunk * q.0.chunks + q.0.extra_bytes * q.0.extra ≤ 67108864) → Decided (Sizes (value_of said))
  fit p q (inl fits) = inl (p.0, (q.0, ((p.1, q.1), fits)))
  fit p q (inr none) = inr (λ s.
      let first : s.0 ≡ p.0 = one_placement (value_of said) s.0 p.0 s.1.1.0.0 p.1 in
      let second : s.1.0 ≡ q.0 = one_policy (value_of said) s.1.0 q.0 s.1.1.0.1 q.1 in
      none (subst (λ (policy : Policy). p.0.chunk * policy.chunks + policy.extra_bytes * policy.extra ≤ 67108864) second
      (subst (λ (placement : Placement). placement.chunk * s.1.0.chunks + s.1.0.extra_bytes * s.1.0.extra ≤ 67108864) first s.1.1.1)))

  by : Decided ((placement : Placement) × IsPlacement (value_of said) placement) → Decided ((policy : Policy) × IsPolicy (value_of said) policy) → Decided (Sizes (value_of said))
  by (inr none) q = inr (λ s. none (s.0, s.1.1.0.0))
  by (inl p) (inr none) = inr (λ s. none (s.1.0, s.1.1.0.1))
  by (inl p) (inl q) = fit p q (le_decided (p.0.chunk * q.0.chunks + q.0.extra_bytes * q.0.extra) 67108864)

-- ---- the commands

abbrev pub AsksServe : List Text → Type 0
AsksServe words = (source : Text) × ((placement : Placement) × ((policy : Policy) × IsWordList words (Serve source placement policy)))

pub serve_decided : (words : List Text) → Decided (AsksServe words)
serve_decided words = decided_by to from (command_decided words (codes "serve") run_and_placement (within all_options run_and_placement refl) P (λ said. both_decided (one_word (positionals_of said)) (sizes_decided said))) where
  P : List Said → Type 0
  P said = ((word : Text) × (positionals_of said ≡ word ∷ [])) × Sizes (value_of said)

  to : SaysWith words (codes "serve") run_and_placement P → AsksServe words
  to s = let z = s.1.1.1 in (s.1.1.0.0, (z.0, (z.1.0, (s.0, says_as words (codes "serve") _ _ run_and_placement s.0 s.1.1.0.1 s.1.0, z.1.1.0.0, z.1.1.0.1, z.1.1.1))))

  from : AsksServe words → SaysWith words (codes "serve") run_and_placement P
  from a =
      let is = a.1.1.1 in
      (is.0, (heard_as words (codes "serve") _ run_and_placement is.0 is.1, ((a.0, is.1.positional), (a.1.0, (a.1.1.0, ((is.2, is.3), is.4))))))

abbrev pub AsksRun : List Text → Type 0
AsksRun words = (source : Text) × ((image : Text) × ((certificate : Text) × ((policy : Policy) × IsWordList words (Run source image certificate policy))))

pub run_decided : (words : List Text) → Decided (AsksRun words)
run_decided words = decided_by to from
    (command_decided words (codes "run") policy_options (within all_options policy_options refl) P (λ said. both_decided (three_words (positionals_of said)) (policy_decided (value_of said)))) where
      P : List Said → Type 0
      P said = Three (positionals_of said) × ((policy : Policy) × IsPolicy (value_of said) policy)

      to : SaysWith words (codes "run") policy_options P → AsksRun words
      to s = let t = s.1.1.0 in (t.0, (t.1.0, (t.1.1.0, (s.1.1.1.0, (s.0, says_as words (codes "run") _ _ policy_options s.0 t.1.1.1 s.1.0, s.1.1.1.1)))))

      from : AsksRun words → SaysWith words (codes "run") policy_options P
      from a =
          let is = a.1.1.1.1 in
          (is.0, (heard_as words (codes "run") _ policy_options is.0 is.1, ((a.0, (a.1.0, (a.1.1.0, is.1.positional))), (a.1.1.1.0, is.2))))

abbrev pub AsksBuild : List Text → Type 0
AsksBuild words = (source : Text) × ((image : Text) × ((certificate : Text) × ((placement : Placement) × IsWordList words (Build source image certificate placement))))

pub build_decided : (words : List Text) → Decided (AsksBuild words)
build_decided words = decided_by to from
    (command_decided words (codes "build") placement_options (within all_options placement_options refl) P (λ said. both_decided (three_words (positionals_of said)) (placement_decided (value_of said)))) where
      P : List Said → Type 0
      P said = Three (positionals_of said) × ((placement : Placement) × IsPlacement (value_of said) placement)

      to : SaysWith words (codes "build") placement_options P → AsksBuild words
      to s = let t = s.1.1.0 in (t.0, (t.1.0, (t.1.1.0, (s.1.1.1.0, (s.0, says_as words (codes "build") _ _ placement_options s.0 t.1.1.1 s.1.0, s.1.1.1.1)))))

      from : AsksBuild words → SaysWith words (codes "build") placement_options P
      from a =
          let is = a.1.1.1.1 in
          (is.0, (heard_as words (codes "build") _ placement_options is.0 is.1, ((a.0, (a.1.0, (a.1.1.0, is.1.positional))), (a.1.1.1.0, is.2))))

-- three files' names and no option
abbrev Files : List Text → Text → Type 0
Files words name = (first : Text) × ((second : Text) × ((third : Text) × ((said : List Said) × Says words name (first ∷ second ∷ third ∷ []) [] said)))

files_decided : (words : List Text) (name : Text) → Decided (Files words name)
files_decided words name = decided_by to from (command_decided words name [] no_options (λ said. Three (positionals_of said)) (λ said. three_words (positionals_of said))) where
  to : SaysWith words name [] (λ said. Three (positionals_of said)) → Files words name
  to s = let t = s.1.1 in (t.0, (t.1.0, (t.1.1.0, (s.0, says_as words name _ _ [] s.0 t.1.1.1 s.1.0))))

  from : Files words name → SaysWith words name [] (λ said. Three (positionals_of said))
  from a = let is = a.1.1.1 in (is.0, (heard_as words name _ [] is.0 is.1, (a.0, (a.1.0, (a.1.1.0, is.1.positional)))))

abbrev pub AsksCheck : List Text → Type 0
AsksCheck words = (source : Text) × ((image : Text) × ((certificate : Text) × IsWordList words (Check source image certificate)))

pub check_decided : (words : List Text) → Decided (AsksCheck words)
check_decided words = files_decided words (codes "check")

abbrev pub AsksBudget : List Text → Type 0
AsksBudget words = (source : Text) × ((image : Text) × ((certificate : Text) × IsWordList words (Budget source image certificate)))

pub budget_decided : (words : List Text) → Decided (AsksBudget words)
budget_decided words = files_decided words (codes "budget")

abbrev pub AsksGraph : List Text → Type 0
AsksGraph words = (source : Text) × ((placement : Placement) × IsWordList words (Graph source placement))

pub graph_decided : (words : List Text) → Decided (AsksGraph words)
graph_decided words = decided_by to from
    (command_decided words (codes "graph") placement_options (within all_options placement_options refl) P (λ said. both_decided (one_word (positionals_of said)) (placement_decided (value_of said)))) where
      P : List Said → Type 0
      P said = ((word : Text) × (positionals_of said ≡ word ∷ [])) × ((placement : Placement) × IsPlacement (value_of said) placement)

      to : SaysWith words (codes "graph") placement_options P → AsksGraph words
      to s = let t = s.1.1.0 in (t.0, (s.1.1.1.0, (s.0, says_as words (codes "graph") _ _ placement_options s.0 t.1 s.1.0, s.1.1.1.1)))

      from : AsksGraph words → SaysWith words (codes "graph") placement_options P
      from a = let is = a.1.1 in (is.0, (heard_as words (codes "graph") _ placement_options is.0 is.1, ((a.0, is.1.positional), (a.1.0, is.2))))

abbrev pub AsksAudit : List Text → Type 0
AsksAudit words = (source : Text) × ((log : Text) × ((options : AuditOptions) × IsWordList words (Audit source log options)))

pub audit_decided : (words : List Text) → Decided (AsksAudit words)
audit_decided words = decided_by to from
    (command_decided words (codes "audit") audit_policy (within all_options audit_policy refl) P (λ said. both_decided (two_words (positionals_of said)) (audit_options_decided (value_of said)))) where
      P : List Said → Type 0
      P said = Two (positionals_of said) × ((options : AuditOptions) × IsAudit (value_of said) options)

      to : SaysWith words (codes "audit") audit_policy P → AsksAudit words
      to s = let t = s.1.1.0 in (t.0, (t.1.0, (s.1.1.1.0, (s.0, says_as words (codes "audit") _ _ audit_policy s.0 t.1.1 s.1.0, s.1.1.1.1))))

      from : AsksAudit words → SaysWith words (codes "audit") audit_policy P
      from a =
          let is = a.1.1.1 in
          (is.0, (heard_as words (codes "audit") _ audit_policy is.0 is.1, ((a.0, (a.1.0, is.1.positional)), (a.1.1.0, is.2))))

abbrev pub AsksDemo : List Text → Type 0
AsksDemo words = (number : ℕ) × IsWordList words (Demo number)

abbrev Numbered : ℕ → List Said → Type 0
Numbered bound said = Below (λ number. (positionals_of said ≡ canonical_decimal number ∷ []) × (1 ≤ number)) bound

demo_by : (words : List Text) (bound : ℕ) → bound ≡ 1001 → Decided (AsksDemo words)
demo_by words bound b = decided_by to from (command_decided words (codes "demo") [] no_options (Numbered bound) each) where
  each : (said : List Said) → Decided (Numbered bound said)
  each said = below_decided (λ number. (positionals_of said ≡ canonical_decimal number ∷ []) × (1 ≤ number)) (λ number. both_decided (list_same text_same (positionals_of said) (canonical_decimal number ∷ [])) (le_decided 1 number)) bound

  to : SaysWith words (codes "demo") [] (Numbered bound) → AsksDemo words
  to s =
      let t = s.1.1 in
      let below = t.1.0 in
      (t.0, (s.0, says_as words (codes "demo") _ _ [] s.0 t.1.1.0 s.1.0, t.1.1.1, omega (arith, below, b)))

  from : AsksDemo words → SaysWith words (codes "demo") [] (Numbered bound)
  from a =
      let is = a.1 in
      let most = is.3 in
      (is.0, (heard_as words (codes "demo") _ [] is.0 is.1, (a.0, (omega (arith, most, b), (is.1.positional, is.2)))))

pub demo_decided : (words : List Text) → Decided (AsksDemo words)
demo_decided words = demo_by words 1001 refl
