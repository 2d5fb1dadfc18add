-- What was put of a log and not written.
use Rattle.runner.proofs.Common.{◌≡◌, ℕ, ◌+◌, ◌-◌, ◌<◌, ◌≤◌, List, [], ◌∷◌, ◌++◌, length, take, drop, Option, Some, None, refl, sym, ap, ◌∙◌, subst, arith, append_assoc, append-nil, length-append, ⊎_elim, Appends, append_known, cases_lt, append_cancel_left, length-take-le, take-append-drop, take-append-le, entry_text, log_text, TakesPrefix, Entry, no_line, one_line, text_append, HeldBack, last_line}
use Rattle.std.proofs.Math.Seq.{take-append-add}

-- ---- last lines

no_bytes : length (log_text []) ≡ 0
no_bytes = ap length no_line

line_bytes : (entry : Entry) → length (log_text (entry ∷ [])) ≡ last_line (entry ∷ [])
unfolding last_line
line_bytes entry = ap length (one_line entry) ∙ length-append (entry_text entry) (10 ∷ [])

-- a line is at most the last
pub few_bytes : (entries : List Entry) → length entries ≤ 1 → length (log_text entries) ≤ last_line entries
few_bytes [] few = let none = no_bytes in omega (arith, none)
few_bytes (entry ∷ []) few = let line = line_bytes entry in omega (arith, line)
few_bytes (entry ∷ other ∷ entries) few = absurd (omega (arith, few))

last_more : (entry : Entry) (entries : List Entry) → last_line entries ≤ last_line (entry ∷ entries)
unfolding last_line
last_more entry [] = omega arith
last_more entry (other ∷ entries) = omega arith

pub last_on : (a b : List Entry) → last_line b ≤ last_line (a ++ b)
last_on [] b = omega arith
last_on (entry ∷ a) b = let rest = last_on a b in let one = last_more entry (a ++ b) in omega (arith, rest, one)

pub text_bytes : (a b : List Entry) → length (log_text (a ++ b)) ≡ length (log_text a) + length (log_text b)
text_bytes a b = ap length (text_append a b) ∙ length-append (log_text a) (log_text b)

-- ---- the least lines whose text has so many bytes

pub record Covers (lines : List Entry) (count : ℕ) : Type 0 where
  pub more : List Entry
  pub later : List Entry
  pub lines_are : lines ≡ more ++ later
  pub reach : count ≤ length (log_text more)
  pub most : length (log_text more) ≤ count + last_line more

cover_none : (lines : List Entry) → Covers lines 0
cover_none lines = record { more = []; later = lines; lines_are = refl; reach = omega arith; most = let none = no_bytes in omega (arith, none) }

cover_one : (entry : Entry) (lines : List Entry) (count : ℕ) → count ≤ length (log_text (entry ∷ [])) → Covers (entry ∷ lines) count
cover_one entry lines count inside = record { more = entry ∷ []; later = lines; lines_are = refl; reach = inside; most = let line = line_bytes entry in omega (arith, line) }

cover_more : (entry : Entry) (lines : List Entry) (count : ℕ) → length (log_text (entry ∷ [])) ≤ count → Covers lines (count - length (log_text (entry ∷ []))) → Covers (entry ∷ lines) count
cover_more entry lines count beyond rest =
    let size = text_bytes (entry ∷ []) rest.more in
    let last = last_more entry rest.more in
    let reach = rest.reach in
    let most = rest.most in
    record {
      more = entry ∷ rest.more;
      later = rest.later;
      lines_are = ap (λ (l : List Entry). entry ∷ l) rest.lines_are;
      reach = omega (arith, size, reach, beyond);
      most = omega (arith, size, most, beyond, last);
    }

pub covers : (lines : List Entry) (count : ℕ) → count ≤ length (log_text lines) → Covers lines count
covers [] count inside = let none = no_bytes in let zero_ : 0 ≡ count = omega (arith, none, inside) in subst (Covers []) zero_ (cover_none [])
covers (entry ∷ lines) count inside =
    let size = text_bytes (entry ∷ []) lines in
    ⊎_elim
    (λ (beyond : length (log_text (entry ∷ [])) < count).
    cover_more entry lines count (omega (arith, beyond)) (covers lines (count - length (log_text (entry ∷ []))) (omega (arith, size, inside, beyond))))
    (λ (within : count ≤ length (log_text (entry ∷ []))). cover_one entry lines count within)
    (cases_lt (length (log_text (entry ∷ []))) count)

-- ---- how many bytes were written

-- a prefix of the text was written, and of it all but what is left of so many bytes
pub record Sends (old new : Option (List ℕ)) (text : List ℕ) (sent held : ℕ) : Type 0 where
  pub count : ℕ
  pub inside : count ≤ length text
  pub writes : Appends old new (take count text)
  pub left : length text + sent ≤ count + held

-- a text that went through a writer that held nothing, and then what the sink took of what is held and more
pub sends_on : (a b c : Option (List ℕ)) (h s t : List ℕ) (n : ℕ) → Appends (append_known a []) (append_known b h) s → TakesPrefix a b s → n ≤ length (h ++ t) → Appends b c (take n (h ++ t)) →
    Sends a c (s ++ t) n (length (h ++ t))
sends_on None b c h s t n grows first most taken = record { count = length (s ++ t); inside = omega arith; writes = tt; left = omega (arith, most) }
sends_on (Some a) None c h s t n grows first most taken = absurd first.2
sends_on (Some a) (Some b) None h s t n grows first most taken = absurd taken
sends_on (Some a) (Some b) (Some c) h s t n grows first most taken =
    let u = take first.0 s in
    let whole : u ++ h ≡ s =
    append_cancel_left a (u ++ h) s
    (sym (append_assoc a u h) ∙ ap (λ (l : List ℕ). l ++ h) (sym first.2) ∙ grows ∙ ap (λ (l : List ℕ). l ++ s) (append-nil a)) in
    let all : s ++ t ≡ u ++ (h ++ t) = ap (λ (l : List ℕ). l ++ t) (sym whole) ∙ append_assoc u h t in
    let size : length (s ++ t) ≡ length u + length (h ++ t) = ap length all ∙ length-append u (h ++ t) in
    record {
      count = length u + n;
      inside = omega (arith, size, most);
      writes = taken ∙ ap (λ (l : List ℕ). l ++ take n (h ++ t)) first.2 ∙ append_assoc a u (take n (h ++ t))
          ∙ ap (λ (l : List ℕ). a ++ l) (sym (take-append-add u (h ++ t) n) ∙ ap (take (length u + n)) (sym all));
      left = omega (arith, size);
    }

-- ---- what was held back

dropped : (n : ℕ) (l : List ℕ) → n ≤ length l → length (drop n l) + n ≡ length l
dropped n l inside =
    let parts = length-append (take n l) (drop n l) in
    let whole = ap length (take-append-drop n l) in
    let first = length-take-le n l inside in
    omega (arith, parts, whole, first)

pub held_at : (done more later rest whole : List Entry) (count : ℕ) → whole ≡ done ++ rest → rest ≡ more ++ later → count ≤ length (log_text (done ++ more)) → length (log_text (done ++ more)) ≤ count + (4096 + last_line (done ++ more)) →
    (back : HeldBack done rest (take count (log_text whole))) × (back.more ≡ more)
held_at done more later rest whole count whole_is rest_is inside most =
    let put = log_text (done ++ more) in
    let text : log_text whole ≡ put ++ log_text later =
    ap log_text (whole_is ∙ (ap (λ (l : List Entry). done ++ l) rest_is ∙ sym (append_assoc done more later))) ∙ text_append (done ++ more) later in
    let size = dropped count put inside in (
      record {
        more = more;
        later = later;
        rest_is = rest_is;
        held = drop count put;
        text = ap (λ (l : List ℕ). take count l ++ drop count put) text ∙ (ap (λ (l : List ℕ). l ++ drop count put) (take-append-le count put (log_text later) inside) ∙ take-append-drop count put);
        most = omega (arith, size, most);
      },
      refl,
    )

-- nothing but the entries done was put
pub held_done : (done rest whole : List Entry) (count : ℕ) → whole ≡ done ++ rest → count ≤ length (log_text done) → length (log_text done) ≤ count + (4096 + last_line done) → (back : HeldBack done rest (take count (log_text whole))) × (back.more ≡ [])
held_done done rest whole count whole_is inside most =
    held_at done [] rest rest whole count whole_is refl (subst (λ (l : List Entry). count ≤ length (log_text l)) (sym (append-nil done)) inside)
    (subst (λ (l : List Entry). length (log_text l) ≤ count + (4096 + last_line l)) (sym (append-nil done)) most)
