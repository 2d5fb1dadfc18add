-- What a text begins with, by what was found of its bytes.
use Rattle.c_lex.proofs.Common.{ℕ, zero, suc, ◌≡◌, ◌<◌, ◌≤◌, ◌^◌, ◌+◌, ◌-◌, inl, inr, List, [], ◌∷◌, length, get_or, take, drop, IsTrue, refl, sym, ap, ◌∙◌, subst, arith, is_ascii_digit, append-nil, length-append, length-drop, get_or-take, length-take-le, take-append-drop, take_at, drop_at, drop_more, Mark, TokenKind, is_white_space, is_word_byte, IsComment, nothing, space, comment, mark_text, BeginsWith, IsNumber, AllWordBytes, IsWord, BeginsComment, IsTaken, IsOfKind, BeginsWithBadByte, BeginsWithBadNumber, IsFirstGap, IsFirstToken}
use Rattle.c_lex.specs.declared.tokens.TokenKind.TheVariants as kinds
use Rattle.c_lex.proofs.MarkTable.{mark_text-some}
use Rattle.c_lex.proofs.TakenLemmas.{AllWordBytes-from, word_taken, mark_taken}

-- the first n bytes are a word, and the next is none of it
pub record IsWordFront (text : List ℕ) (n : ℕ) : Type 0 where
  pub some : 0 < length text
  pub first : IsTrue (is_word_byte (get_or text 0 0))
  pub within : n ≤ length text
  pub each : (k : ℕ) → k < n → IsTrue (is_word_byte (get_or text k 0))
  pub ends : n < length text → ¬ IsTrue (is_word_byte (get_or text n 0))

pub IsWordFront-some : (text : List ℕ) (n : ℕ) → IsWordFront text n → 0 < n
IsWordFront-some text zero front = absurd (front.ends front.some front.first)
IsWordFront-some text (suc n) front = omega arith

front_bytes : (text : List ℕ) (n : ℕ) → IsWordFront text n → AllWordBytes (take n text)
front_bytes text n front =
    let long : length (take n text) ≡ n = length-take-le n text front.within in
    AllWordBytes-from (take n text) (λ k inside. let below : k < n = omega arith in subst (λ b. IsTrue (is_word_byte b)) (sym (get_or-take n text k 0 below)) (front.each k below))

pub IsWordFront-word : (text : List ℕ) (n : ℕ) → IsWordFront text n → IsWord (take n text)
IsWordFront-word text zero front = absurd (front.ends front.some front.first)
IsWordFront-word [] (suc n) front = absurd (let some = front.some in omega arith)
IsWordFront-word (b ∷ text) (suc n) front = front_bytes (b ∷ text) (suc n) front

-- what stands behind the front
behind_front : (text : List ℕ) (n : ℕ) → IsWordFront text n → (b : ℕ) (rest : List ℕ) → drop n text ≡ b ∷ rest → ¬ IsTrue (is_word_byte b)
behind_front text n front b rest behind =
    let long : length text - n ≡ suc (length rest) = sym (length-drop n text) ∙ ap length behind in
    let inside : n < length text = omega arith in
    let split = drop_more text n 0 inside in
    let same : get_or text n 0 ≡ b = cc in
    subst (λ byte. ¬ IsTrue (is_word_byte byte)) same (front.ends inside)

pub IsWordFront-taken : (text : List ℕ) (n : ℕ) → IsWordFront text n → IsTaken (take n text) (drop n text)
IsWordFront-taken text zero front = absurd (front.ends front.some front.first)
IsWordFront-taken [] (suc n) front = absurd (let some = front.some in omega arith)
IsWordFront-taken (b ∷ text) (suc n) front = word_taken b (take n text) (drop n text) (front_bytes (b ∷ text) (suc n) front) (behind_front (b ∷ text) (suc n) front)

pub word_token : (text : List ℕ) (n : ℕ) (kind : TokenKind) → IsWordFront text n → IsOfKind (take n text) kind → IsFirstToken text kind n
word_token text n kind front of_kind = record { some = IsWordFront-some text n front; within = front.within; taken = IsWordFront-taken text n front; of_kind = of_kind }

pub bad_number : (text : List ℕ) (n : ℕ) → IsWordFront text n → IsTrue (is_ascii_digit (get_or (take n text) 0 0)) → ((value : ℕ) → value < 2 ^ 32 → ¬ IsNumber (take n text) value) → BeginsWithBadNumber text
bad_number text zero front digit none = absurd (front.ends front.some front.first)
bad_number [] (suc n) front digit none = absurd (let some = front.some in omega arith)
bad_number (b ∷ text) (suc n) front digit none = record {
  first = b;
  others = take n text;
  after = drop n text;
  split = ap (λ l. b ∷ l) (sym (take-append-drop n text));
  digit = digit;
  taken = IsWordFront-taken (b ∷ text) (suc n) front;
  no_number = none;
}

pub mark_token : (text : List ℕ) (mark : Mark) → BeginsWith text (mark_text mark) → ((other : Mark) → BeginsWith text (mark_text other) → length (mark_text other) ≤ length (mark_text mark)) → ¬ BeginsComment text → IsFirstToken text (kinds.Mark mark) (length (mark_text mark))
mark_token text mark begins longest no_comment =
    let front : take (length (mark_text mark)) text ≡ mark_text mark = ap (take (length (mark_text mark))) begins.1 ∙ take_at (mark_text mark) begins.0 (length (mark_text mark)) refl in
    let back : drop (length (mark_text mark)) text ≡ begins.0 = ap (drop (length (mark_text mark))) begins.1 ∙ drop_at (mark_text mark) begins.0 (length (mark_text mark)) refl in
    let long : length text ≡ length (mark_text mark) + length begins.0 = ap length begins.1 ∙ length-append (mark_text mark) begins.0 in
    record {
      some = mark_text-some mark;
      within = omega arith;
      taken = rw (front, back) (mark_taken mark text begins.0 begins.1 longest no_comment);
      of_kind = front;
    }

pub bad_byte : (text : List ℕ) → 0 < length text → ¬ IsTrue (is_white_space (get_or text 0 0)) → ¬ IsTrue (is_word_byte (get_or text 0 0)) → ((mark : Mark) → ¬ BeginsWith text (mark_text mark)) → BeginsWithBadByte text
bad_byte [] some no_space no_word no_mark = absurd (omega arith)
bad_byte (b ∷ text) some no_space no_word no_mark = (no_space, no_word, no_mark)

pub space_gap : (text : List ℕ) → 0 < length text → IsTrue (is_white_space (get_or text 0 0)) → IsFirstGap text 1
space_gap [] some white = absurd (omega arith)
space_gap (b ∷ text) some white = record { some = omega arith; within = omega arith; between = space white nothing }

IsComment-some : (text after : List ℕ) → IsComment text after → 0 < length text
IsComment-some text after (inl line) = let long = ap length line.spelled in omega arith
IsComment-some text after (inr block) = let long = ap length block.spelled in omega arith

pub comment_gap : (text : List ℕ) (n : ℕ) → n ≤ length text → IsComment (take n text) (drop n text) → IsFirstGap text n
comment_gap text n within is =
    let some = IsComment-some _ _ is in
    let long = length-take-le n text within in
    record { some = omega arith; within = within; between = comment (take n text) [] (sym (append-nil (take n text))) is nothing }
