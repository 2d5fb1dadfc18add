-- Texts of entries that fit their types.
use Rattle.run_course.proofs.Common.{◌≡◌, ℕ, ◌+◌, List, [], ◌∷◌, ◌++◌, Result, Ok, Err, refl, sym, ap, ◌∙◌, append-nil, OnOk, entry_text, log_text, Entry, IsFitText, All-append}
use Rattle.std.proofs.lemmas.Grind.{flat_map-append}
use Rattle.schedule_log.specs.EntryRanges.{FitsEntry}

-- ---- texts

pub no_line : log_text [] ≡ []
unfolding log_text
no_line = refl

pub one_line : (entry : Entry) → log_text (entry ∷ []) ≡ entry_text entry ++ 10 ∷ []
unfolding log_text
one_line entry = append-nil (entry_text entry ++ 10 ∷ [])

pub text_append : (a b : List Entry) → log_text (a ++ b) ≡ log_text a ++ log_text b
unfolding log_text
text_append a b = flat_map-append (λ entry. entry_text entry ++ 10 ∷ []) a b

-- ---- texts of entries that fit

pub fit_none : IsFitText []
fit_none = record { fitting = []; fit = tt; text_is = sym no_line }

pub fit_one : (entry : Entry) → FitsEntry entry → IsFitText (entry_text entry ++ 10 ∷ [])
fit_one entry fits = record { fitting = entry ∷ []; fit = (fits, tt); text_is = sym (one_line entry) }

pub fit_on : (s t : List ℕ) → IsFitText s → IsFitText t → IsFitText (s ++ t)
fit_on s t first then_ = record {
  fitting = first.fitting ++ then_.fitting;
  fit = All-append FitsEntry first.fitting then_.fitting first.fit then_.fit;
  text_is = ap (λ (l : List ℕ). l ++ t) first.text_is ∙ (ap (λ (l : List ℕ). log_text first.fitting ++ l) then_.text_is ∙ sym (text_append first.fitting then_.fitting));
}

-- whatever the answer is
pub fit_anyway : {E : Type 0} (result : Result (Unit {0}) E) (text : List ℕ) → IsFitText text → OnOk result (IsFitText text)
fit_anyway (Ok v) text fits = fits
fit_anyway (Err e) text fits = tt
