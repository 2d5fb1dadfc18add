-- A source is tokens, or has a place where none begins.
use Rattle.decisions.proofs.Common.{ℕ, zero, suc, ◌≡◌, ◌≢◌, ◌+◌, ◌-◌, ◌<◌, ◌≤◌, ◌⊎◌, inl, inr, true, IsTrue, List, [], ◌∷◌, length, get_or, drop, refl, sym, subst, arith, codes, both_decided, denied, number_same, bool_same, cases_lt, length-drop, drop_all, get_or_past, Mark, Token, TokenKind, IsFirstGap, IsFirstToken, LexError, BadByte, OpenComment, is_white_space, is_word_byte, mark_text, BeginsWith, BeginsComment, LeadsTo, AreTokensOf, BeginsNone, IsLexErrorOf, Decided, mark_text-some, mark_token, bad_byte, space_gap, comment_gap}
use Rattle.c_lex.specs.declared.tokens.TokenKind.TheVariants as kinds
use Rattle.decisions.proofs.Decisions.{implied_decided, first_without, IsFirstWithout, begins_decided}
use Rattle.decisions.proofs.Tables.{some_mark, mark_text-few}
use Rattle.c_lex.proofs.CommentLemmas.{line_comment, block_comment, open_comment}
use Rattle.c_lex.proofs.Leads.{gap_step, token_step, LeadsTo-here}
use Rattle.decisions.proofs.Words.{First, Gap, Token as Kind, Neither, word_first}

-- ---- comments

behind_two : (text : List ℕ) (a b : ℕ) → BeginsWith text (a ∷ b ∷ []) → length text ≡ 2 + length (drop 2 text)
behind_two text a b begins = subst (λ (t : List ℕ). length t ≡ 2 + length (drop 2 t)) (sym begins.1) (omega arith)

twice_denied : (a b : ℕ) → ((a ≢ b) → ⊥) → a ≡ b
twice_denied a b none = elim (number_same a b) [ inl e ↦ e | inr apart ↦ absurd (none apart) ]

line_first : (at : ℕ) (text : List ℕ) → BeginsWith text (codes "//") → First at text
line_first at text begins = by (first_without (λ k. get_or (drop 2 text) k 0 ≢ 10) (λ k. denied (number_same (get_or (drop 2 text) k 0) 10)) (length (drop 2 text))) where
  whole : length text ≡ 2 + length (drop 2 text)
  whole = behind_two text 47 47 begins

  by : ((k : ℕ) → k < length (drop 2 text) → get_or (drop 2 text) k 0 ≢ 10) ⊎ ((k : ℕ) × ((k < length (drop 2 text)) × IsFirstWithout (λ n. get_or (drop 2 text) n 0 ≢ 10) k)) → First at text
  by (inl all) = Gap (2 + length (drop 2 text)) (comment_gap text (2 + length (drop 2 text)) (omega (arith, whole))
      (inl (line_comment text (length (drop 2 text)) begins (omega arith) all (λ h. absurd (omega (arith, h))))))
  by (inr w) =
      let inside = w.1.0 in
      Gap (2 + w.0) (comment_gap text (2 + w.0) (omega (arith, whole, inside))
      (inl (line_comment text w.0 begins (omega (arith, inside)) w.1.1.lower (λ h. twice_denied (get_or (drop 2 text) w.0 0) 10 w.1.1.fails))))

-- no `*/` begins at this place
abbrev NoEnd : List ℕ → ℕ → Type 0
NoEnd text k = get_or text k 0 ≡ 42 → get_or text (k + 1) 0 ≢ 47

no_end_decided : (text : List ℕ) (k : ℕ) → Decided (NoEnd text k)
no_end_decided text k = implied_decided (number_same (get_or text k 0) 42) (λ e. denied (number_same (get_or text (k + 1) 0) 47))

end_there : (text : List ℕ) (k : ℕ) → (NoEnd text k → ⊥) → (get_or text k 0 ≡ 42) × (get_or text (k + 1) 0 ≡ 47)
end_there text k some = by (number_same (get_or text k 0) 42) (number_same (get_or text (k + 1) 0) 47) where
  by : Decided (get_or text k 0 ≡ 42) → Decided (get_or text (k + 1) 0 ≡ 47) → (get_or text k 0 ≡ 42) × (get_or text (k + 1) 0 ≡ 47)
  by (inl star) (inl slash) = (star, slash)
  by (inr none) slash = absurd (some (λ star. absurd (none star)))
  by (inl star) (inr none) = absurd (some (λ e. none))

inside_by : (text : List ℕ) (k : ℕ) → get_or text k 0 ≡ 47 → k < length text
inside_by text k slash = elim (cases_lt k (length text)) [ inl inside ↦ inside | inr past ↦ (let zero_there = get_or_past text k 0 past in absurd (omega (arith, slash, zero_there))) ]

no_end_past : (text : List ℕ) (k : ℕ) → length text ≤ k → NoEnd text k
no_end_past text k past = λ star. let none = get_or_past text k 0 past in absurd (omega (arith, star, none))

block_first : (at : ℕ) (text : List ℕ) → BeginsWith text (codes "/*") → First at text
block_first at text begins = by (first_without (NoEnd (drop 2 text)) (no_end_decided (drop 2 text)) (length (drop 2 text))) where
  whole : length text ≡ 2 + length (drop 2 text)
  whole = behind_two text 47 42 begins

  by : ((k : ℕ) → k < length (drop 2 text) → NoEnd (drop 2 text) k) ⊎ ((k : ℕ) × ((k < length (drop 2 text)) × IsFirstWithout (NoEnd (drop 2 text)) k)) → First at text
  by (inl all) = Neither (OpenComment at) (refl, open_comment text begins (λ k. elim (cases_lt k (length (drop 2 text))) [ inl inside ↦ all k inside | inr past ↦ no_end_past (drop 2 text) k past ]))
  by (inr w) =
      let ends = end_there (drop 2 text) w.0 w.1.1.fails in
      let inside = inside_by (drop 2 text) (w.0 + 1) ends.1 in
      Gap (2 + w.0 + 2) (comment_gap text (2 + w.0 + 2) (omega (arith, whole, inside)) (inr (block_comment text w.0 begins inside ends.0 ends.1 w.1.1.lower)))

-- ---- marks

abbrev MarkOf : List ℕ → ℕ → Mark → Type 0
MarkOf text size mark = BeginsWith text (mark_text mark) × (length (mark_text mark) ≡ size)

mark_of : (text : List ℕ) (size : ℕ) → Decided ((mark : Mark) × MarkOf text size mark)
mark_of text size = some_mark (MarkOf text size) (λ mark. both_decided (begins_decided (mark_text mark) text) (number_same (length (mark_text mark)) size))

mark_first : (at : ℕ) (text : List ℕ) → 0 < length text → ¬ IsTrue (is_white_space (get_or text 0 0)) → ¬ IsTrue (is_word_byte (get_or text 0 0)) → ¬ BeginsComment text → First at text
mark_first at text some no_space no_word no_comment = by (mark_of text 3) (mark_of text 2) (mark_of text 1) where
  found : (size : ℕ) (m : (mark : Mark) × MarkOf text size mark) → ((other : Mark) → BeginsWith text (mark_text other) → length (mark_text other) ≤ size) → First at text
  found size m longest = Kind (kinds.Mark m.0) (length (mark_text m.0)) (mark_token text m.0 m.1.0 (λ other begins. let h = longest other begins in let e = m.1.1 in omega arith) no_comment)

  by : Decided ((mark : Mark) × MarkOf text 3 mark) → Decided ((mark : Mark) × MarkOf text 2 mark) → Decided ((mark : Mark) × MarkOf text 1 mark) → First at text
  by (inl m) two one = found 3 m (λ other begins. let few = mark_text-few other in omega arith)
  by (inr no_three) (inl m) one = found 2 m (λ other begins. let few = mark_text-few other in let apart : length (mark_text other) ≡ 3 → ⊥ = λ e. no_three (other, (begins, e)) in omega arith)
  by (inr no_three) (inr no_two) (inl m) = found 1 m (λ other begins.
      let few = mark_text-few other in
      let apart : length (mark_text other) ≡ 3 → ⊥ = λ e. no_three (other, (begins, e)) in
      let also : length (mark_text other) ≡ 2 → ⊥ = λ e. no_two (other, (begins, e)) in
      omega arith)
  by (inr no_three) (inr no_two) (inr no_one) = Neither (BadByte at) (
    refl,
    bad_byte text some no_space no_word (λ other begins.
        let few = mark_text-few other in
        let many = mark_text-some other in
        let apart : length (mark_text other) ≡ 3 → ⊥ = λ e. no_three (other, (begins, e)) in
        let also : length (mark_text other) ≡ 2 → ⊥ = λ e. no_two (other, (begins, e)) in
        let too : length (mark_text other) ≡ 1 → ⊥ = λ e. no_one (other, (begins, e)) in
        omega arith),
  )

-- ---- the first piece

first_of_text : (at : ℕ) (text : List ℕ) → 0 < length text → First at text
first_of_text at text some = by (bool_same (is_white_space (get_or text 0 0)) true) (bool_same (is_word_byte (get_or text 0 0)) true) (begins_decided (codes "//") text) (begins_decided (codes "/*") text) where
  by : Decided (is_white_space (get_or text 0 0) ≡ true) → Decided (is_word_byte (get_or text 0 0) ≡ true) → Decided (BeginsWith text (codes "//")) → Decided (BeginsWith text (codes "/*")) → First at text
  by (inl white) word line block = Gap 1 (space_gap text some white)
  by (inr no_space) (inl word) line block = word_first at text some word
  by (inr no_space) (inr no_word) (inl line) block = line_first at text line
  by (inr no_space) (inr no_word) (inr no_line) (inl block) = block_first at text block
  by (inr no_space) (inr no_word) (inr no_line) (inr no_block) = mark_first at text some no_space no_word (λ comment. elim comment [ inl line ↦ no_line line | inr block ↦ no_block block ])

-- ---- the whole

-- from a place on, the tokens lead to the end or to a place where none begins
pub record LeadsToEnd (source : List ℕ) (at : ℕ) : Type 0 where
  pub tokens : List Token
  pub stop : ℕ
  pub leads : LeadsTo at (drop at source) tokens stop []

pub record LeadsToNone (source : List ℕ) (at : ℕ) : Type 0 where
  pub tokens : List Token
  pub stop : ℕ
  pub rest : List ℕ
  pub error : LexError
  pub leads : LeadsTo at (drop at source) tokens stop rest
  pub none : BeginsNone stop rest error

at_end : (source : List ℕ) (at : ℕ) → length source ≤ at → LeadsToEnd source at
at_end source at past =
    record { tokens = []; stop = at; leads = subst (λ (l : List ℕ). LeadsTo at (drop at source) [] at l) (drop_all at source past) (LeadsTo-here at (drop at source)) }

from_place : (left : ℕ) (source : List ℕ) (at : ℕ) → length source ≤ at + left → LeadsToEnd source at ⊎ LeadsToNone source at
from_place zero source at fits = inl (at_end source at (omega (arith, fits)))
from_place (suc left) source at fits = by (λ next h. from_place left source next h) (cases_lt at (length source)) where
  after_gap : (size : ℕ) → IsFirstGap (drop at source) size → LeadsToEnd source (at + size) ⊎ LeadsToNone source (at + size) → LeadsToEnd source at ⊎ LeadsToNone source at
  after_gap size gap (inl e) = inl (record { tokens = e.tokens; stop = e.stop; leads = gap_step source at size e.tokens e.stop [] gap e.leads })
  after_gap size gap (inr e) = inr (record { tokens = e.tokens; stop = e.stop; rest = e.rest; error = e.error; leads = gap_step source at size e.tokens e.stop e.rest gap e.leads; none = e.none })

  after_token : (kind : TokenKind) (size : ℕ) → IsFirstToken (drop at source) kind size → LeadsToEnd source (at + size) ⊎ LeadsToNone source (at + size) → LeadsToEnd source at ⊎ LeadsToNone source at
  after_token kind size token (inl e) =
      inl (record { tokens = record { kind = kind; at = at; length = size } ∷ e.tokens; stop = e.stop; leads = token_step source at size kind e.tokens e.stop [] token e.leads })
  after_token kind size token (inr e) =
      inr (record { tokens = record { kind = kind; at = at; length = size } ∷ e.tokens; stop = e.stop; rest = e.rest; error = e.error; leads = token_step source at size kind e.tokens e.stop e.rest token e.leads; none = e.none })

  piece : ((next : ℕ) → length source ≤ next + left → LeadsToEnd source next ⊎ LeadsToNone source next) → First at (drop at source) → LeadsToEnd source at ⊎ LeadsToNone source at
  piece again (Gap size gap) = after_gap size gap (again (at + size) (let some = gap.some in omega (arith, fits)))
  piece again (Kind kind size token) = after_token kind size token (again (at + size) (let some = token.some in omega (arith, fits)))
  piece again (Neither error none) = inr (record { tokens = []; stop = at; rest = drop at source; error = error; leads = LeadsTo-here at (drop at source); none = none })

  by : ((next : ℕ) → length source ≤ next + left → LeadsToEnd source next ⊎ LeadsToNone source next) → (at < length source) ⊎ (length source ≤ at) → LeadsToEnd source at ⊎ LeadsToNone source at
  by again (inr past) = inl (at_end source at past)
  by again (inl inside) = piece again (first_of_text at (drop at source) (let long = length-drop at source in omega (arith, long, inside)))

pub lex_decided : (source : List ℕ) → ((tokens : List Token) × AreTokensOf source tokens) ⊎ ((error : LexError) × IsLexErrorOf source error)
lex_decided source =
    elim (from_place (length source) source 0 (omega arith)) [
      | inl e ↦ inl (e.tokens, (e.stop, e.leads))
      | inr e ↦ inr (e.error, record { tokens = e.tokens; stop = e.stop; rest = e.rest; leads = e.leads; none = e.none })
    ]
