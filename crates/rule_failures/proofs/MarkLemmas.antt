-- Marks on words that are taken by runs of words.
use Rattle.rule_failures.proofs.Common.{◌≡◌, ℕ, ◌+◌, ◌-◌, ◌*◌, ◌/◌, ◌%◌, ◌<◌, ◌≤◌, Bool, false, List, length, arith, refl, IsIn, AreApart, is_marked, AreMarked}

-- ---- a run of which no word was marked meets no other run

at_byte : (s a b base k : ℕ) → s % 4 ≡ 0 → base % 4 ≡ 0 → base ≤ b → k ≡ (b - base) / 4 → (s ≤ b) × (b < s + 4 * a) → base ≤ s → (s ≤ base + 4 * k) × (base + 4 * k < s + 4 * a)
at_byte s a b base k ds db low e h room = (omega arith, omega arith)

pub marks_apart : (base n start words : ℕ) (starts runs : ℕ → ℕ) (marks : List Bool) → base % 4 ≡ 0 → AreMarked base starts runs n marks →
    starts n ≡ base + 4 * start → runs n ≡ words → ((word : ℕ) → start ≤ word → word < start + words → is_marked marks word ≡ false) →
    (y : ℕ) → y < n → AreApart (starts n) (runs n) (starts y) (runs y)
marks_apart base n start words starts runs marks whole h e f unmarked y lt = record {
  no_byte = λ byte here there.
      let k : ℕ = (byte - base) / 4 in
      let low : base ≤ byte = omega arith in
      let inside : (base ≤ starts y) × (starts y + 4 * runs y ≤ base + 4 * length marks) = h.inside y lt in
      let among : IsIn (starts y) (runs y) (base + 4 * k) = at_byte (starts y) (runs y) byte base k (h.aligned y lt) whole low refl there inside.0 in
      h.free k (unmarked k (omega arith) (omega arith)) y lt among;
}
