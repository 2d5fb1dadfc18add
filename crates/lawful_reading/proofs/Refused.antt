-- Logs that are refused at once.
use Rattle.lawful_reading.proofs.Common.{◌≡◌, ℕ, suc, ◌+◌, List, [], ◌∷◌, ◌++◌, length, refl, ap, ◌∙◌, arith, length-append, subst, entry_text, log_text, Given, End, NotYet, Stopped, start_of, nowhere, IsUnlawful}

pub not-empty : (xs rest : List ℕ) → [] ≡ xs ++ 10 ∷ rest → ⊥
not-empty xs rest e =
    let n : 0 ≡ length xs + suc (length rest) = ap length e ∙ length-append xs (10 ∷ rest) in
    absurd (omega (arith, n))

abbrev IsNotYet : End → Type 0
IsNotYet NotYet = Unit {0}
IsNotYet _ = ⊥

pub stopped-not : NotYet ≡ Stopped → ⊥
stopped-not e = subst IsNotYet e tt

pub empty : (g : Given) (trace : List ℕ) → IsUnlawful g trace [] 1
unfolding log_text
empty g trace = record {
  entries = [];
  last = start_of g trace;
  leads = nowhere;
  bytes = [];
  refused = record {
    over = λ e. stopped-not;
    refused = λ entry left begins after allowed. not-empty (entry_text entry) left begins.bytes_are;
    within = λ entry left begins beyond. not-empty (entry_text entry) left begins.bytes_are;
  };
  log_is = refl;
  line_is = refl;
}
