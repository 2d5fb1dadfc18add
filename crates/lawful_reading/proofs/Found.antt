-- A log is read line by line, and something is said of it.
use Rattle.lawful_reading.proofs.Common.{◌≡◌, ℕ, zero, suc, ◌≤◌, inl, inr, List, [], ◌∷◌, ◌++◌, length, refl, sym, ap, ◌∙◌, arith, append-nil, length-append, FitsEntry, entry_text, log_text, Entry, Given, State, Stopped, start_of, IsAllowed, IsBeyond, Leads, nowhere, by_line, BeginsWith, IsJudgement, Judgement, Decided, both_decided, line_decided, text_same, Found}
use Rattle.lawful_reading.proofs.Searching.{entries}
use Rattle.lawful_reading.proofs.Lines.{GoesOn, goes_decided, beyond_decided, is_stopped_decided}
use Rattle.lawful_reading.proofs.Beyond.{beyond_all}
use Rattle.lawful_reading.proofs.Judgements.{first_line}

-- ---- one line more

one_more : (g : Given) (a b c : State) (read : List Entry) (entry : Entry) → Leads g a read b → FitsEntry entry → IsAllowed g b entry c → c.steps ≤ g.most_steps → Leads g a (read ++ entry ∷ []) c
one_more g a b c _ entry nowhere fits allowed within = by_line fits allowed within nowhere
one_more g a b c _ entry (by_line {between = s} {entry = x} {entries = es} also and_so and_within rest) fits allowed within =
    by_line also and_so and_within (one_more g s b c es entry rest fits allowed within)

pub last_line : (read : List Entry) (entry : Entry) (u : List ℕ) → log_text (read ++ entry ∷ []) ++ u ≡ log_text read ++ (entry_text entry ++ 10 ∷ u)
unfolding log_text
last_line [] entry u = first_line entry [] u
last_line (x ∷ read) entry u =
    first_line x (read ++ entry ∷ []) u ∙ ap (λ (r : List ℕ). entry_text x ++ 10 ∷ r) (last_line read entry u)
    ∙ sym (first_line x read (entry_text entry ++ 10 ∷ u))

shorter : (xs left bytes : List ℕ) (n : ℕ) → bytes ≡ xs ++ 10 ∷ left → length bytes ≤ suc n → length left ≤ n
shorter xs left bytes n is small = let e = ap length is ∙ length-append xs (10 ∷ left) in omega (arith, e, small)

some_left : (xs left bytes : List ℕ) → bytes ≡ xs ++ 10 ∷ left → length bytes ≤ 0 → ⊥
some_left xs left bytes is small = let e = ap length is ∙ length-append xs (10 ∷ left) in omega (arith, e, small)

-- ---- the whole

module _ (g : Given) (trace log : List ℕ) where
  abbrev Said : Type 0
  Said = (judgement : Judgement) × IsJudgement g trace log judgement

  -- the lines so far lead here, and these bytes are left
  record IsRead (bytes : List ℕ) (state : State) (read : List Entry) : Type 0 where
    pub leads : Leads g (start_of g trace) read state
    pub within : state.steps ≤ g.most_steps
    pub log_is : log ≡ log_text read ++ bytes

  module _ (bytes : List ℕ) (state : State) (read : List Entry) (is : IsRead bytes state read) where
    -- these bytes begin with the line of this entry
    abbrev Begins : Entry → Type 0
    Begins entry = (left : List ℕ) × (bytes ≡ entry_text entry ++ 10 ∷ left)

    abbrev NextLine : (Entry → Type 0) → Type 0
    NextLine P = Found Entry FitsEntry (λ entry. Begins entry × P entry)

    next_line : (P : Entry → Type 0) → ((entry : Entry) → Decided (P entry)) → Decided (NextLine P)
    next_line P each = entries (λ entry. Begins entry × P entry) (λ entry. both_decided (line_decided (entry_text entry) bytes) (each entry))

    -- a line that goes on within the steps
    abbrev Goes : Entry → Type 0
    Goes entry = GoesOn g state is.within entry

    goes_on : (line : NextLine Goes) → IsRead line.1.1.0.0 line.1.1.1.0 (read ++ line.0 ∷ [])
    goes_on (entry, (fits, ((left, begins), (after, (allowed, within))))) = record {
      leads = one_more g (start_of g trace) state after read entry is.leads fits allowed within;
      within = within;
      log_is = is.log_is ∙ ap (λ (r : List ℕ). log_text read ++ r) begins ∙ sym (last_line read entry left);
    }

    -- none goes on, and none is beyond
    refused : (NextLine Goes → ⊥) → (NextLine (IsBeyond g state) → ⊥) → Decided ((bytes ≡ []) × (state.end ≡ Stopped)) → Said
    refused none nor (inl over) = (
      Judgement.Lawful,
      record {
        entries = read;
        last = state;
        leads = is.leads;
        stopped = over.1;
        log_is = is.log_is ∙ ap (λ (r : List ℕ). log_text read ++ r) over.0 ∙ append-nil (log_text read);
      },
    )
    refused none nor (inr others) = (
      Judgement.Unlawful (suc (length read)),
      record {
        entries = read;
        last = state;
        leads = is.leads;
        bytes = bytes;
        refused = record {
          over = λ empty stopped. others (empty, stopped);
          refused = λ entry left begins after allowed. beyond entry left begins
              (beyond_all g state is.within entry after allowed (λ x ok within. none (entry, (begins.fits, ((left, begins.bytes_are), (x, (ok, within)))))));
          within = λ entry left begins long. beyond entry left begins long;
        };
        log_is = is.log_is;
        line_is = refl;
      },
    ) where
      beyond : (entry : Entry) (left : List ℕ) → BeginsWith entry bytes left → IsBeyond g state entry → ⊥
      beyond entry left begins long = nor (entry, (begins.fits, ((left, begins.bytes_are), long)))

    ends : (NextLine Goes → ⊥) → Decided (NextLine (IsBeyond g state)) → Said
    ends none (inl (entry, (fits, ((left, begins), long)))) = (
      Judgement.Steps (suc (length read)),
      record {
        entries = read;
        last = state;
        leads = is.leads;
        entry = entry;
        bytes = bytes;
        left = left;
        begins = record { fits = fits; bytes_are = begins };
        beyond = long;
        log_is = is.log_is;
        line_is = refl;
      },
    )
    ends none (inr nor) = refused none nor (both_decided (text_same bytes []) (is_stopped_decided g state is.within))

    ended : (NextLine Goes → ⊥) → Said
    ended none = ends none (next_line (IsBeyond g state) (beyond_decided g state is.within))

    step : (NextLine Goes → Said) → Decided (NextLine Goes) → Said
    step on (inl line) = on line
    step on (inr none) = ended none

  read_on : (n : ℕ) (bytes : List ℕ) (state : State) (read : List Entry) → length bytes ≤ n → IsRead bytes state read → Said
  read_on zero bytes state read small is = ended bytes state read is (λ line. some_left (entry_text line.0) line.1.1.0.0 bytes line.1.1.0.1 small)
  read_on (suc n) bytes state read small is =
      step bytes state read is
      (λ line. read_on n line.1.1.0.0 line.1.1.1.0 (read ++ line.0 ∷ []) (shorter (entry_text line.0) line.1.1.0.0 bytes n line.1.1.0.1 small) (goes_on bytes state read is line))
      (next_line bytes state read is (Goes bytes state read is) (goes_decided g state is.within))

  abbrev Whole : List ℕ → Type 0
  Whole bytes = bytes ≡ log_text [] ++ bytes

  all_left : (bytes : List ℕ) → Whole bytes
  unfolding log_text
  all_left bytes = refl

  pub some_judgement : Said
  some_judgement = read_on (length log) log (start_of g trace) [] (omega arith) (record { leads = nowhere; within = omega arith; log_is = all_left log })
