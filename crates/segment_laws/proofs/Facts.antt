-- What the rules of a certificate give, in the forms in which one operation after another is followed.
use Rattle.segment_laws.proofs.Common.{ℕ, ◌≤◌, List, length, sym, subst, arith, Areas, Checked, AreWellFormed}
use Rattle.segment_laws.proofs.Spots.{Fit}
pub use Rattle.segment_laws.specs.Facts.{FrameFacts, IsOperationAt, CodeFacts}

-- so well-formed areas fit the map
pub Fit-areas : (c : Checked) (code : List ℕ) (areas : Areas) → CodeFacts c code → AreWellFormed c areas → Fit areas
Fit-areas c code areas facts form = record {
  pool = form.pool;
  globals = omega (arith, form.globals, facts.globals_small);
  tables = subst (λ (n : List ℕ). length n ≤ 65536) (sym form.tables) facts.tables_small;
  global_words = form.global_words;
}
