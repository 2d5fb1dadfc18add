-- What is said of the text of a log whose lines are allowed, one after another.
use Rattle.audited_logs.proofs.Common.{◌≡◌, ℕ, suc, ◌≤◌, ◌⊎◌, inl, inr, List, [], ◌∷◌, ◌++◌, length, refl, sym, ap, ◌∙◌, append_assoc, arith, ⊎_elim, FitsEntry, entry_text, log_text, Entry, Given, IsAllowed, IsBeyond, Leads, nowhere, by_line, IsLawfulOrTooLong}
use Rattle.lawful_reading.specs.State.{State, Stopped, start_of}
use Rattle.audited_logs.proofs.Needed.{decided}

-- these lines lead to the stop
pub record Ends (g : Given) (before : State) (entries : List Entry) : Type 0 where
  pub last : State
  pub leads : Leads g before entries last
  pub stopped : last.end ≡ Stopped

-- one of them needs more steps than may be taken, and those before it are allowed
pub record Breaks (g : Given) (before : State) (entries : List Entry) : Type 0 where
  pub done : List Entry
  pub entry : Entry
  pub left : List Entry
  pub last : State
  pub are : entries ≡ done ++ entry ∷ left
  pub leads : Leads g before done last
  pub fits : FitsEntry entry
  pub beyond : IsBeyond g last entry

abbrev pub Reads : Given → State → List Entry → Type 0
Reads g before entries = Ends g before entries ⊎ Breaks g before entries

-- one line more in front
reads_more : (g : Given) (before after : State) (entry : Entry) (entries : List Entry) → FitsEntry entry → IsAllowed g before entry after → before.steps ≤ g.most_steps → (after.steps ≤ g.most_steps → Reads g after entries) → Reads g before (entry ∷ entries)
reads_more g before after entry entries fits is within rest = ⊎_elim
    (λ (h : after.steps ≤ g.most_steps). ⊎_elim
    (λ (ends : Ends g after entries). let all : Reads g before (entry ∷ entries) = inl (record { last = ends.last; leads = by_line fits is h ends.leads; stopped = ends.stopped }) in all)
    (λ (breaks : Breaks g after entries).
    let all : Reads g before (entry ∷ entries) = inr (record {
      done = entry ∷ breaks.done;
      entry = breaks.entry;
      left = breaks.left;
      last = breaks.last;
      are = ap (λ (es : List Entry). entry ∷ es) breaks.are;
      leads = by_line fits is h breaks.leads;
      fits = breaks.fits;
      beyond = breaks.beyond;
    }) in all)
    (rest h))
    (λ (h : IsBeyond g before entry).
    let all : Reads g before (entry ∷ entries) = inr (record { done = []; entry = entry; left = entries; last = before; are = refl; leads = nowhere; fits = fits; beyond = h }) in all)
    (decided g before entry after is within)

-- ---- lines without a limit

-- lines that are allowed one after another, however many steps they need; each is one of the format
pub data Chain (g : Given) : State → List Entry → State → Type 0 where
  no_line : {state : State} → Chain g state [] state
  one_line : {before between after : State} {entry : Entry} {entries : List Entry} → FitsEntry entry → IsAllowed g before entry between → Chain g between entries after → Chain g before (entry ∷ entries) after

-- and they lead to the stop
pub record Whole (g : Given) (before : State) (entries : List Entry) : Type 0 where
  pub last : State
  pub chain : Chain g before entries last
  pub stopped : last.end ≡ Stopped

pub whole_more : (g : Given) (before after : State) (entry : Entry) (entries : List Entry) → FitsEntry entry → IsAllowed g before entry after → Whole g after entries → Whole g before (entry ∷ entries)
whole_more g before after entry entries fits is rest = record { last = rest.last; chain = one_line fits is rest.chain; stopped = rest.stopped }

chain_reads : (g : Given) (before last : State) (entries : List Entry) → Chain g before entries last → last.end ≡ Stopped → before.steps ≤ g.most_steps → Reads g before entries
chain_reads g before last entries no_line stopped within = inl (record { last = before; leads = nowhere; stopped = stopped })
chain_reads g before last entries (one_line {between = between} {entry = entry} {entries = rest} fits is chain) stopped within =
    reads_more g before between entry rest fits is within (λ h. chain_reads g between last rest chain stopped h)

-- ---- the text

text_append : (done left : List Entry) → log_text (done ++ left) ≡ log_text done ++ log_text left
unfolding log_text
text_append [] left = refl
text_append (entry ∷ done) left = ap (λ (bytes : List ℕ). (entry_text entry ++ 10 ∷ []) ++ bytes) (text_append done left) ∙ sym (append_assoc (entry_text entry ++ 10 ∷ []) (log_text done) (log_text left))

text_first : (entry : Entry) (left : List Entry) → log_text (entry ∷ left) ≡ entry_text entry ++ 10 ∷ log_text left
unfolding log_text
text_first entry left = append_assoc (entry_text entry) (10 ∷ []) (log_text left)

judged : (g : Given) (trace : List ℕ) (entries : List Entry) → Reads g (start_of g trace) entries → IsLawfulOrTooLong g trace (log_text entries)
judged g trace entries (inl ends) = inl (record { entries = entries; last = ends.last; leads = ends.leads; stopped = ends.stopped; log_is = refl })
judged g trace entries (inr breaks) = inr (
  suc (length breaks.done),
  record {
    entries = breaks.done;
    last = breaks.last;
    leads = breaks.leads;
    entry = breaks.entry;
    bytes = log_text (breaks.entry ∷ breaks.left);
    left = log_text breaks.left;
    begins = record { fits = breaks.fits; bytes_are = text_first breaks.entry breaks.left };
    beyond = breaks.beyond;
    log_is = ap log_text breaks.are ∙ text_append breaks.done (breaks.entry ∷ breaks.left);
    line_is = refl;
  },
)

-- lines that lead to the stop are judged so
pub whole_judged : (g : Given) (trace : List ℕ) (entries : List Entry) → Whole g (start_of g trace) entries → IsLawfulOrTooLong g trace (log_text entries)
whole_judged g trace entries whole = judged g trace entries (chain_reads g (start_of g trace) whole.last entries whole.chain whole.stopped (omega arith))
