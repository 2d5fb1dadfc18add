-- The tickets of a text, read one after another.
use Rattle.command_words.proofs.Common.{◌≡◌, ◌∙◌, ℕ, suc, ◌+◌, ◌-◌, ◌<◌, ◌≤◌, refl, ap, sym, subst, arith, List, [], ◌∷◌, ◌++◌, map, length, replicate, append-nil, append_assoc, slice_set, inl, inr, map-append, canonical_decimal, pieces, after_each, decimal_unique, decimal_field, FieldEnds, Tickets, least_of, most_of, ticket_text, AreTicketsFrom, IsTicketsText, tickets_of}
use Rattle.cap_text.proofs.PieceLaws.{pieces_joined, text_of_pieces, lacks_decimal}
use Rattle.command_words.specs.declared.option_table.CommandOption.TheVariants as option

abbrev pub Pairs : Type 0
Pairs = List (ℕ × ℕ)

-- ---- the text of one thread's tickets

equals_ends : (rest : List ℕ) → FieldEnds (61 ∷ rest)
equals_ends rest (inl e) = absurd (omega arith)
equals_ends rest (inr within) = absurd (omega (arith, within.0, within.1))

-- a text is that of one thread and its tickets
pub ticket_parts : (thread count other more : ℕ) → ticket_text (thread, count) ≡ ticket_text (other, more) → (thread ≡ other) × (count ≡ more)
ticket_parts thread count other more same =
    let both = decimal_field thread other (61 ∷ canonical_decimal count) (61 ∷ canonical_decimal more) (equals_ends (canonical_decimal count))
    (equals_ends (canonical_decimal more)) same in
    let rest : 61 ∷ canonical_decimal count ≡ 61 ∷ canonical_decimal more = both.1 in
    (both.0, decimal_unique count more (cc))

-- its pieces at `=` are the two numbers
joined_two : (thread count : ℕ) → canonical_decimal thread ++ after_each 61 (canonical_decimal count ∷ []) ≡ ticket_text (thread, count)
joined_two thread count = ap (λ (t : List ℕ). canonical_decimal thread ++ 61 ∷ t) (append-nil (canonical_decimal count))

pub pieces_of_ticket : (thread count : ℕ) → pieces 61 (ticket_text (thread, count)) ≡ canonical_decimal thread ∷ canonical_decimal count ∷ []
pieces_of_ticket thread count =
    sym (ap (pieces 61) (joined_two thread count))
    ∙ pieces_joined 61 (canonical_decimal thread) (canonical_decimal count ∷ []) (lacks_decimal 61 thread (λ c least most e. absurd (omega arith)))
    (lacks_decimal 61 count (λ c least most e. absurd (omega arith)), tt)

pub ticket_of_pieces : (field : List ℕ) (thread count : ℕ) → pieces 61 field ≡ canonical_decimal thread ∷ canonical_decimal count ∷ []
    → field ≡ ticket_text (thread, count)
ticket_of_pieces field thread count e = text_of_pieces 61 field (canonical_decimal thread) (canonical_decimal count ∷ []) e ∙ joined_two thread count

-- ---- the pieces of a text at `=`, read one after another

module _ (field : List ℕ) (parts : List (List ℕ)) where
  -- the first is no number
  pub no_thread : parts ≡ pieces 61 field → ((n : ℕ) (rest : List (List ℕ)) → n ≤ 1000000 → parts ≡ canonical_decimal n ∷ rest → ⊥)
      → (thread count : ℕ) → thread ≤ 1000000 → least_of option.Tickets ≤ count → count ≤ most_of option.Tickets → field ≡ ticket_text (thread, count) → ⊥
  no_thread is none thread count small some few text = none thread (canonical_decimal count ∷ []) small
      (is ∙ ap (pieces 61) text ∙ pieces_of_ticket thread count)

module _ (field : List ℕ) (parts left : List (List ℕ)) (first : ℕ) (is : parts ≡ pieces 61 field) (one : parts ≡ canonical_decimal first ∷ left) where
  all_of : (thread count : ℕ) → field ≡ ticket_text (thread, count) → canonical_decimal first ∷ left ≡ canonical_decimal thread ∷ canonical_decimal count ∷ []
  all_of thread count text = sym one ∙ is ∙ ap (pieces 61) text ∙ pieces_of_ticket thread count

  -- the second is no number
  pub no_count : ((n : ℕ) (rest : List (List ℕ)) → n ≤ most_of option.Tickets → left ≡ canonical_decimal n ∷ rest → ⊥)
      → (thread count : ℕ) → thread ≤ 1000000 → least_of option.Tickets ≤ count → count ≤ most_of option.Tickets → field ≡ ticket_text (thread, count) → ⊥
  no_count none thread count small some few text = let all = all_of thread count text in none count [] few (cc)

module _ (field : List ℕ) (parts left rest : List (List ℕ)) (first second : ℕ) (is : parts ≡ pieces 61 field) (one : parts ≡ canonical_decimal first ∷ left)
    (two : left ≡ canonical_decimal second ∷ rest) where
  both_of : (thread count : ℕ) → field ≡ ticket_text (thread, count) →
      canonical_decimal first ∷ canonical_decimal second ∷ rest ≡ canonical_decimal thread ∷ canonical_decimal count ∷ []
  both_of thread count text = ap (λ (l : List (List ℕ)). canonical_decimal first ∷ l) (sym two) ∙ all_of field parts left first is one thread count text

  -- a third one
  pub no_end : (rest ≡ [] → ⊥) → (thread count : ℕ) → thread ≤ 1000000 → least_of option.Tickets ≤ count → count ≤ most_of option.Tickets
      → field ≡ ticket_text (thread, count) → ⊥
  no_end more thread count small some few text = let all = both_of thread count text in more (cc)

  -- two numbers, of which the second is too small
  pub no_tickets : second < least_of option.Tickets → (thread count : ℕ) → thread ≤ 1000000 → least_of option.Tickets ≤ count → count ≤ most_of option.Tickets
      → field ≡ ticket_text (thread, count) → ⊥
  no_tickets none thread count small some few text =
      let all = both_of thread count text in
      let same : canonical_decimal second ≡ canonical_decimal count = cc in
      absurd (omega (arith, decimal_unique second count same))

  -- two numbers
  pub ticket_read : rest ≡ [] → field ≡ ticket_text (first, second)
  ticket_read none =
      ticket_of_pieces field first second (sym is ∙ one ∙ ap (λ (l : List (List ℕ)). canonical_decimal first ∷ l)
      (two ∙ ap (λ (l : List (List ℕ)). canonical_decimal second ∷ l) none))

-- ---- several, one after another

-- the tickets of so many threads have been read, each below `least`, and these pieces of the text are left
pub record AreSoFar (text : List ℕ) (left : List (List ℕ)) (least : ℕ) (tickets : Tickets) : Type 0 where
  pub read : Pairs
  pub joined : pieces 44 text ≡ map ticket_text read ++ left
  pub rising : (rest : Pairs) → AreTicketsFrom least rest → AreTicketsFrom 0 (read ++ rest)
  pub only : (others : Pairs) → IsTicketsText text others → (rest : Pairs) × (left ≡ map ticket_text rest) × AreTicketsFrom least rest
      × (length read + length rest ≤ 64)
  pub few : length read ≤ 64
  pub tickets_are : tickets ≡ tickets_of read

pub none_so_far : (text : List ℕ) (left : List (List ℕ)) (tickets : Tickets) → left ≡ pieces 44 text → tickets ≡ tickets_of [] → AreSoFar text left 0 tickets
none_so_far text left tickets is none = record {
  read = [];
  joined = sym is;
  rising = λ rest above. above;
  only = λ others whole. (others, is ∙ whole.joined, whole.in_range, omega (arith, whole.few));
  few = omega arith;
  tickets_are = none;
}

-- so many have been read, at most 64
pub count_few : (text : List ℕ) (left : List (List ℕ)) (least : ℕ) (tickets : Tickets) → AreSoFar text left least tickets → tickets.count ≤ 64
count_few text left least tickets so_far =
    let counted : tickets.count ≡ length so_far.read = ap (λ (t : Tickets). t.count) so_far.tickets_are in omega (arith, so_far.few)

length-end : (pairs : Pairs) (pair : ℕ × ℕ) → length (pairs ++ pair ∷ []) ≡ length pairs + 1
length-end [] pair = refl
length-end (first ∷ pairs) pair = omega (arith, length-end pairs pair)

-- the array with one thread more
set_behind : (pairs : Pairs) (pair : ℕ × ℕ) (n : ℕ)
    → slice_set (pairs ++ replicate (suc n) (0, 0)) (length pairs) pair ≡ (pairs ++ pair ∷ []) ++ replicate n (0, 0)
set_behind [] pair n = refl
set_behind (first ∷ pairs) pair n = ap (λ (ps : Pairs). first ∷ ps) (set_behind pairs pair n)

room_of : (k n : ℕ) → k + suc n ≡ 64 → (64 - k ≡ suc n) × (64 - (k + 1) ≡ n)
room_of k n e = (omega arith, omega arith)

one_set : (read : Pairs) (pair : ℕ × ℕ) → length read < 64 →
    record { pairs = slice_set (tickets_of read).pairs (length read) pair; count = length read + 1 } ≡ tickets_of (read ++ pair ∷ [])
one_set read pair room = by (63 - length read) (omega arith) where
  by : (n : ℕ) → length read + suc n ≡ 64 →
      ◌≡◌ {A = Tickets} (record { pairs = slice_set (tickets_of read).pairs (length read) pair; count = length read + 1 }) (tickets_of (read ++ pair ∷ []))
  by n e =
      let at = room_of (length read) n e in
      let count : length read + 1 ≡ length (read ++ pair ∷ []) = sym (length-end read pair) in
      let left : n ≡ 64 - length (read ++ pair ∷ []) = sym at.1 ∙ ap (λ (k : ℕ). 64 - k) count in
      let pairs : slice_set (read ++ replicate (64 - length read) (0, 0)) (length read) pair ≡ (read ++ pair ∷ []) ++ replicate
      (64 - length (read ++ pair ∷ [])) (0, 0) =
      ap (λ (k : ℕ). slice_set (read ++ replicate k (0, 0)) (length read) pair) at.0 ∙ set_behind read pair n
      ∙ ap (λ (k : ℕ). (read ++ pair ∷ []) ++ replicate k (0, 0)) left in
      λ i. record { pairs = pairs i; count = count i }

-- one thread more
pub one_more : (text field : List ℕ) (left rest : List (List ℕ)) (least thread count : ℕ) (tickets now : Tickets) → AreSoFar text left least tickets
    → left ≡ field ∷ rest
    → field ≡ ticket_text (thread, count) → least ≤ thread → thread ≤ 1000000 → least_of option.Tickets ≤ count → count ≤ most_of option.Tickets
    → tickets.count < 64
    → now ≡ record { pairs = slice_set tickets.pairs tickets.count (thread, count); count = tickets.count + 1 } → AreSoFar text rest (thread + 1) now
one_more text field left rest least thread count tickets now so_far parts is above small some few room set =
    let read : Pairs = so_far.read ++ (thread, count) ∷ [] in
    let counted : tickets.count ≡ length so_far.read = ap (λ (t : Tickets). t.count) so_far.tickets_are in
    let fits : length so_far.read < 64 = omega arith in
    record {
      read = read;
      joined = so_far.joined ∙ ap (λ (l : List (List ℕ)). map ticket_text so_far.read ++ l) (parts ∙ ap (λ (f : List ℕ). f ∷ rest) is)
          ∙ sym (append_assoc (map ticket_text so_far.read) (ticket_text (thread, count) ∷ []) rest)
          ∙ ap (λ (l : List (List ℕ)). l ++ rest) (sym (map-append ticket_text so_far.read ((thread, count) ∷ [])));
      rising = λ more from.
          let next : AreTicketsFrom (suc thread) more = subst (λ (n : ℕ). AreTicketsFrom n more) (omega arith) from in
          subst (AreTicketsFrom 0) (sym (append_assoc so_far.read ((thread, count) ∷ []) more))
          (so_far.rising ((thread, count) ∷ more) (above, small, some, few, next));
      only = λ others whole. let of = so_far.only others whole in next of.0 (sym parts ∙ of.1) of.2 of.3;
      few = omega (arith, length-end so_far.read (thread, count), fits);
      tickets_are = set ∙ ap (λ (t : Tickets). record { pairs = slice_set t.pairs t.count (thread, count); count = t.count + 1 }) so_far.tickets_are
          ∙ one_set so_far.read (thread, count) fits;
    }
  where
    next : (of : Pairs) → field ∷ rest ≡ map ticket_text of → AreTicketsFrom least of → length so_far.read + length of ≤ 64 →
        (more : Pairs) × (rest ≡ map ticket_text more) × AreTicketsFrom (thread + 1) more × (length (so_far.read ++ (thread, count) ∷ []) + length more ≤ 64)
    next [] same from fits = absurd (cc)
    next ((other, given) ∷ more) same from fits =
        let first : field ≡ ticket_text (other, given) = cc in
        let one = ticket_parts thread count other given (sym is ∙ first) in
        let at : suc other ≡ thread + 1 = omega (arith, one.0) in
        (more, cc, subst (λ (n : ℕ). AreTicketsFrom n more) at from.4, omega (arith, length-end so_far.read (thread, count), fits))

-- a next piece that is no tickets, or of no thread from `least` on
pub no_ticket : (text field : List ℕ) (left rest : List (List ℕ)) (least : ℕ) (tickets : Tickets) → AreSoFar text left least tickets → left ≡ field ∷ rest
    → ((thread count : ℕ) → least ≤ thread → thread ≤ 1000000 → least_of option.Tickets ≤ count → count ≤ most_of option.Tickets
    → field ≡ ticket_text (thread, count) → ⊥)
    → (others : Pairs) → IsTicketsText text others → ⊥
no_ticket text field left rest least tickets so_far parts none others whole = let of = so_far.only others whole in next of.0 (sym parts ∙ of.1) of.2
  where
    next : (of : Pairs) → field ∷ rest ≡ map ticket_text of → AreTicketsFrom least of → ⊥
    next [] same from = absurd (cc)
    next ((other, given) ∷ more) same from = none other given from.0 from.1 from.2 from.3 (cc)

-- a next piece where 64 have been read
pub no_room : (text field : List ℕ) (left rest : List (List ℕ)) (least : ℕ) (tickets : Tickets) → AreSoFar text left least tickets → left ≡ field ∷ rest
    → tickets.count ≡ 64 → (others : Pairs) → IsTicketsText text others → ⊥
no_room text field left rest least tickets so_far parts full others whole = let of = so_far.only others whole in next of.0 (sym parts ∙ of.1) of.3
  where
    next : (of : Pairs) → field ∷ rest ≡ map ticket_text of → length so_far.read + length of ≤ 64 → ⊥
    next [] same fits = absurd (cc)
    next (pair ∷ more) same fits =
        let counted : tickets.count ≡ length so_far.read = ap (λ (t : Tickets). t.count) so_far.tickets_are in absurd (omega arith)

-- all tickets have been read
pub all_read : (text : List ℕ) (left : List (List ℕ)) (least : ℕ) (tickets : Tickets) → AreSoFar text left least tickets → left ≡ []
    → (pairs : Pairs) × IsTicketsText text pairs × (tickets ≡ tickets_of pairs)
all_read text left least tickets so_far none = (
  so_far.read,
  record {
    joined = so_far.joined ∙ ap (λ (l : List (List ℕ)). map ticket_text so_far.read ++ l) none ∙ append-nil (map ticket_text so_far.read);
    in_range = subst (AreTicketsFrom 0) (append-nil so_far.read) (so_far.rising [] tt);
    few = so_far.few;
  },
  so_far.tickets_are,
)
