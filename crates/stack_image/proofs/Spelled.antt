-- Bytes that nothing refuses are the spelling of the image that is read.
use Rattle.stack_image.proofs.Common.{◌≡◌, ◌∙◌, ℕ, ◌-◌, ◌*◌, List, [], ◌∷◌, ◌++◌, length, drop, refl, sym, ap, append_assoc, arith, append-nil, take-append-drop, drop-drop, drop_all, length-drop, magic, words, spelling, IsWithinLimits, HoldsWords, code_size, globals_size, tables_size, entries_size, words_of, behind, image_of}
use Rattle.stack_image.proofs.WordBytes.{IsBytes, IsBytes-drop, AreWords-words_of, number_at-drop, length-words_of, words_then_behind}
use Rattle.stack_image.proofs.NoRefusal.{IsRefusedByNothing, magic_in_front}

-- six parts, one after another, and nothing behind
joined : (bytes m h c g t e b1 b2 b3 b4 b5 b6 : List ℕ) → bytes ≡ m ++ b1 → b1 ≡ h ++ b2 → b2 ≡ c ++ b3 → b3 ≡ g ++ b4 → b4 ≡ t ++ b5 → b5 ≡ e ++ b6 → b6 ≡ [] →
    bytes ≡ m ++ h ++ c ++ g ++ t ++ e
joined bytes m h c g t e b1 b2 b3 b4 b5 b6 p q r s u v w =
    rw (p, q, r, s, u, v, w) (simp (append_assoc, append-nil))

-- the counts are the four words behind CAP1
words_of-counts : (bytes : List ℕ) → words_of 4 (drop 4 bytes) ≡ code_size bytes ∷ globals_size bytes ∷ tables_size bytes ∷ entries_size bytes ∷ []
words_of-counts bytes = rw (number_at-drop 4 bytes 0, number_at-drop 4 bytes 4, number_at-drop 4 bytes 8, number_at-drop 4 bytes 12) refl

pub spelled : (bytes : List ℕ) → IsBytes bytes → IsRefusedByNothing bytes → bytes ≡ spelling (image_of bytes)
unfolding spelling image_of
spelled bytes fits h =
    let c = code_size bytes in
    let g = globals_size bytes in
    let t = tables_size bytes in
    let e = entries_size bytes in
    let b1 = drop 4 bytes in
    let b2 = behind 5 bytes in
    let b3 = behind c b2 in
    let b4 = behind g b3 in
    let b5 = behind t b4 in
    let b6 = behind e b5 in
    let fits2 : IsBytes b2 = IsBytes-drop 20 bytes fits in
    let fits3 : IsBytes b3 = IsBytes-drop (4 * c) b2 fits2 in
    let fits4 : IsBytes b4 = IsBytes-drop (4 * g) b3 fits3 in
    let fits5 : IsBytes b5 = IsBytes-drop (4 * t) b4 fits4 in
    let len1 : length b1 ≡ length bytes - 4 = length-drop 4 bytes in
    let len2 : length b2 ≡ length bytes - 20 = length-drop 20 bytes in
    let len3 : length b3 ≡ length b2 - 4 * c = length-drop (4 * c) b2 in
    let len4 : length b4 ≡ length b3 - 4 * g = length-drop (4 * g) b3 in
    let len5 : length b5 ≡ length b4 - 4 * t = length-drop (4 * t) b4 in
    let end = h.end in
    let long = h.long in
    let front : bytes ≡ magic ++ b1 =
    sym (take-append-drop 4 bytes) ∙ ap (λ (b : List ℕ). b ++ b1) (magic_in_front bytes h.magic (omega arith)) in
    let counts : b1 ≡ words (c ∷ g ∷ t ∷ e ∷ []) ++ b2 =
    words_then_behind 4 b1 (IsBytes-drop 4 bytes fits) (omega arith)
    ∙ ap (λ (ws : List ℕ). words ws ++ behind 4 b1) (words_of-counts bytes)
    ∙ ap (λ (b : List ℕ). words (c ∷ g ∷ t ∷ e ∷ []) ++ b) (drop-drop 16 4 bytes) in
    let whole : bytes ≡ magic ++ words (c ∷ g ∷ t ∷ e ∷ []) ++ words (words_of c b2) ++ words (words_of g b3) ++ words (words_of t b4) ++ words (words_of e b5) =
    joined bytes magic (words (c ∷ g ∷ t ∷ e ∷ [])) (words (words_of c b2)) (words (words_of g b3)) (words (words_of t b4)) (words (words_of e b5))
    b1 b2 b3 b4 b5 b6 front counts
    (words_then_behind c b2 fits2 (omega arith))
    (words_then_behind g b3 fits3 (omega arith))
    (words_then_behind t b4 fits4 (omega arith))
    (words_then_behind e b5 fits5 (omega arith))
    (drop_all (4 * e) b5 (omega arith)) in
    let sizes : length (words_of c b2) ∷ length (words_of g b3) ∷ length (words_of t b4) ∷ length (words_of e b5) ∷ [] ≡ c ∷ g ∷ t ∷ e ∷ [] =
    rw (length-words_of c b2, length-words_of g b3, length-words_of t b4, length-words_of e b5) refl in
    whole ∙ ap (λ (ws : List ℕ). magic ++ words ws ++ words (words_of c b2) ++ words (words_of g b3) ++ words (words_of t b4) ++ words (words_of e b5)) (sym sizes)

pub image_of-limits : (bytes : List ℕ) → IsRefusedByNothing bytes → IsWithinLimits (image_of bytes)
unfolding image_of
image_of-limits bytes h = record {
  code = rw (length-words_of (code_size bytes) (behind 5 bytes)) h.limits.code;
  globals = omega (arith, length-words_of (globals_size bytes) (behind (code_size bytes) (behind 5 bytes)), h.limits.globals);
  tables = omega (arith, length-words_of (tables_size bytes) (behind (globals_size bytes) (behind (code_size bytes) (behind 5 bytes))), h.limits.tables);
  entries = omega (arith, length-words_of (entries_size bytes) (behind (tables_size bytes) (behind (globals_size bytes) (behind (code_size bytes) (behind 5 bytes)))), h.limits.entries);
}

pub image_of-words : (bytes : List ℕ) → IsBytes bytes → HoldsWords (image_of bytes)
unfolding image_of
image_of-words bytes fits =
    let fits2 : IsBytes (behind 5 bytes) = IsBytes-drop 20 bytes fits in
    let fits3 : IsBytes (behind (code_size bytes) (behind 5 bytes)) = IsBytes-drop (4 * code_size bytes) (behind 5 bytes) fits2 in
    let fits4 : IsBytes (behind (globals_size bytes) (behind (code_size bytes) (behind 5 bytes))) =
    IsBytes-drop (4 * globals_size bytes) (behind (code_size bytes) (behind 5 bytes)) fits3 in
    let fits5 : IsBytes (behind (tables_size bytes) (behind (globals_size bytes) (behind (code_size bytes) (behind 5 bytes)))) =
    IsBytes-drop (4 * tables_size bytes) (behind (globals_size bytes) (behind (code_size bytes) (behind 5 bytes))) fits4 in
    record {
      code = AreWords-words_of (code_size bytes) (behind 5 bytes) fits2;
      globals = AreWords-words_of (globals_size bytes) (behind (code_size bytes) (behind 5 bytes)) fits3;
      tables = AreWords-words_of (tables_size bytes) (behind (globals_size bytes) (behind (code_size bytes) (behind 5 bytes))) fits4;
      entries = AreWords-words_of (entries_size bytes) (behind (tables_size bytes) (behind (globals_size bytes) (behind (code_size bytes) (behind 5 bytes)))) fits5;
    }
