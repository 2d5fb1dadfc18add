-- The caps of a text, read one after another.
use Rattle.command_words.proofs.Common.{◌≡◌, ◌∙◌, ℕ, zero, suc, ◌+◌, ◌<◌, ◌≤◌, ◌==◌, refl, ap, sym, subst, arith, true, false, List, [], ◌∷◌, ◌++◌, map, append-nil, append_assoc, slice_set, cond, AllByRecursion, ne_eqb, Decides-eqb, map-append, canonical_decimal, pieces, decimal_unique, least_of, most_of, cap_text, cap_of, caps_of, AreCapsAbove, IsCapsText}
use Rattle.command_words.specs.declared.option_table.CommandOption.TheVariants as option
use Rattle.command_words.proofs.Decimals.{cap_parts, cap_text_is}

abbrev pub Caps : Type 0
Caps = List (ℕ × ℕ)

abbrev AreUpTo : ℕ → Caps → Type 0
AreUpTo most caps = AllByRecursion (λ cap. cap.0 ≤ most) caps

-- so many caps have been read, of resources up to `below`, and these pieces of the text are left
pub record AreSoFar (text : List ℕ) (left : List (List ℕ)) (below : ℕ) (caps : List ℕ) : Type 0 where
  pub read : Caps
  pub joined : pieces 44 text ≡ map cap_text read ++ left
  pub rising : (rest : Caps) → AreCapsAbove below rest → AreCapsAbove 0 (read ++ rest)
  pub only : (others : Caps) → IsCapsText text others → (rest : Caps) × (left ≡ map cap_text rest) × AreCapsAbove below rest
  pub up_to : AreUpTo below read
  pub caps_are : caps ≡ caps_of read

-- two texts of caps
pub one_cap : (resource most other more : ℕ) → resource ≤ 7 → other ≤ 7 → cap_text (resource, most) ≡ cap_text (other, more) → (resource ≡ other)
    × (most ≡ more)
one_cap resource most other more small less same =
    let left = cap_parts (cap_text (resource, most)) (61 ∷ canonical_decimal most) (48 + resource) other more (cap_text_is resource most small) less same in
    let both : 61 ∷ canonical_decimal most ≡ 61 ∷ canonical_decimal more = left.1 in
    (omega (arith, left.0), decimal_unique most more (cc))

up_to_more : (below more : ℕ) (caps : Caps) → below ≤ more → AreUpTo below caps → AreUpTo more caps
up_to_more below more [] le all = tt
up_to_more below more (cap ∷ caps) le all = (omega (arith, all.0), up_to_more below more caps le all.1)

up_to_end : (most resource cap : ℕ) (caps : Caps) → resource ≤ most → AreUpTo most caps → AreUpTo most (caps ++ (resource, cap) ∷ [])
up_to_end most resource cap [] le all = (le, tt)
up_to_end most resource cap (first ∷ caps) le all = (all.0, up_to_end most resource cap caps le all.1)

-- the cap of another resource stays, and that of a new one is there
other_cap : (caps : Caps) (resource most sought : ℕ) → (resource == sought) ≡ false → cap_of caps sought ≡ cap_of (caps ++ (resource, most) ∷ []) sought
other_cap [] resource most sought other = rw other refl
other_cap ((first, cap) ∷ caps) resource most sought other = ap (cond (first == sought) cap) (other_cap caps resource most sought other)

here_cap : (caps : Caps) (below resource most : ℕ) → below < resource → AreUpTo below caps → most ≡ cap_of (caps ++ (resource, most) ∷ []) resource
here_cap [] below resource most new all =
    let is : (resource == resource) ≡ true = (Decides-eqb resource resource).1 refl in
    rw is refl
here_cap ((first, cap) ∷ caps) below resource most new all =
    let other : (first == resource) ≡ false = ne_eqb first resource (λ e. absurd (omega (arith, all.0))) in
    rw other (here_cap caps below resource most new all.1)

eight : (g : ℕ → ℕ) (a b c d e f h i : ℕ) → a ≡ g 0 → b ≡ g 1 → c ≡ g 2 → d ≡ g 3 → e ≡ g 4 → f ≡ g 5 → h ≡ g 6 → i ≡ g 7
    → a ∷ b ∷ c ∷ d ∷ e ∷ f ∷ h ∷ i ∷ [] ≡ map g (0 ∷ 1 ∷ 2 ∷ 3 ∷ 4 ∷ 5 ∷ 6 ∷ 7 ∷ [])
eight g a b c d e f h i pa pb pc pd pe pf ph pi = λ j. pa j ∷ pb j ∷ pc j ∷ pd j ∷ pe j ∷ pf j ∷ ph j ∷ pi j ∷ []

-- the array with one cap more
pub one_set : (caps : Caps) (below resource most : ℕ) → below < resource → resource ≤ 7 → AreUpTo below caps
    → slice_set (caps_of caps) resource most ≡ caps_of (caps ++ (resource, most) ∷ [])
one_set caps below (suc zero) most new small all = eight (cap_of (caps ++ (1, most) ∷ [])) (cap_of caps 0) most (cap_of caps 2) (cap_of caps 3)
    (cap_of caps 4) (cap_of caps 5) (cap_of caps 6) (cap_of caps 7)
    (other_cap caps 1 most 0 refl) (here_cap caps below 1 most new all) (other_cap caps 1 most 2 refl) (other_cap caps 1 most 3 refl)
    (other_cap caps 1 most 4 refl) (other_cap caps 1 most 5 refl) (other_cap caps 1 most 6 refl) (other_cap caps 1 most 7 refl)
one_set caps below (suc (suc zero)) most new small all = eight (cap_of (caps ++ (2, most) ∷ [])) (cap_of caps 0) (cap_of caps 1) most (cap_of caps 3)
    (cap_of caps 4) (cap_of caps 5) (cap_of caps 6) (cap_of caps 7)
    (other_cap caps 2 most 0 refl) (other_cap caps 2 most 1 refl) (here_cap caps below 2 most new all) (other_cap caps 2 most 3 refl)
    (other_cap caps 2 most 4 refl) (other_cap caps 2 most 5 refl) (other_cap caps 2 most 6 refl) (other_cap caps 2 most 7 refl)
one_set caps below (suc (suc (suc zero))) most new small all = eight (cap_of (caps ++ (3, most) ∷ [])) (cap_of caps 0) (cap_of caps 1) (cap_of caps 2) most
    (cap_of caps 4) (cap_of caps 5) (cap_of caps 6) (cap_of caps 7)
    (other_cap caps 3 most 0 refl) (other_cap caps 3 most 1 refl) (other_cap caps 3 most 2 refl) (here_cap caps below 3 most new all)
    (other_cap caps 3 most 4 refl) (other_cap caps 3 most 5 refl) (other_cap caps 3 most 6 refl) (other_cap caps 3 most 7 refl)
one_set caps below (suc (suc (suc (suc zero)))) most new small all = eight (cap_of (caps ++ (4, most) ∷ [])) (cap_of caps 0) (cap_of caps 1) (cap_of caps 2)
    (cap_of caps 3) most (cap_of caps 5) (cap_of caps 6) (cap_of caps 7)
    (other_cap caps 4 most 0 refl) (other_cap caps 4 most 1 refl) (other_cap caps 4 most 2 refl) (other_cap caps 4 most 3 refl)
    (here_cap caps below 4 most new all) (other_cap caps 4 most 5 refl) (other_cap caps 4 most 6 refl) (other_cap caps 4 most 7 refl)
one_set caps below (suc (suc (suc (suc (suc zero))))) most new small all = eight (cap_of (caps ++ (5, most) ∷ [])) (cap_of caps 0) (cap_of caps 1)
    (cap_of caps 2) (cap_of caps 3) (cap_of caps 4) most (cap_of caps 6) (cap_of caps 7)
    (other_cap caps 5 most 0 refl) (other_cap caps 5 most 1 refl) (other_cap caps 5 most 2 refl) (other_cap caps 5 most 3 refl) (other_cap caps 5 most 4 refl)
    (here_cap caps below 5 most new all) (other_cap caps 5 most 6 refl) (other_cap caps 5 most 7 refl)
one_set caps below (suc (suc (suc (suc (suc (suc zero)))))) most new small all = eight (cap_of (caps ++ (6, most) ∷ [])) (cap_of caps 0) (cap_of caps 1)
    (cap_of caps 2) (cap_of caps 3) (cap_of caps 4) (cap_of caps 5) most (cap_of caps 7)
    (other_cap caps 6 most 0 refl) (other_cap caps 6 most 1 refl) (other_cap caps 6 most 2 refl) (other_cap caps 6 most 3 refl) (other_cap caps 6 most 4 refl)
    (other_cap caps 6 most 5 refl) (here_cap caps below 6 most new all) (other_cap caps 6 most 7 refl)
one_set caps below (suc (suc (suc (suc (suc (suc (suc zero))))))) most new small all = eight (cap_of (caps ++ (7, most) ∷ [])) (cap_of caps 0) (cap_of caps 1)
    (cap_of caps 2) (cap_of caps 3) (cap_of caps 4) (cap_of caps 5) (cap_of caps 6) most
    (other_cap caps 7 most 0 refl) (other_cap caps 7 most 1 refl) (other_cap caps 7 most 2 refl) (other_cap caps 7 most 3 refl) (other_cap caps 7 most 4 refl)
    (other_cap caps 7 most 5 refl) (other_cap caps 7 most 6 refl) (here_cap caps below 7 most new all)
one_set caps below _ most new small all = absurd (omega arith)

-- one cap more
pub one_more : (text field : List ℕ) (left rest : List (List ℕ)) (below resource most : ℕ) (caps now : List ℕ) → AreSoFar text left below caps
    → left ≡ field ∷ rest
    → field ≡ cap_text (resource, most) → below < resource → resource ≤ 7 → least_of option.Caps ≤ most → most ≤ most_of option.Caps
    → now ≡ slice_set caps resource most → AreSoFar text rest resource now
one_more text field left rest below resource most caps now so_far parts is new small some few set =
    let read : Caps = so_far.read ++ (resource, most) ∷ [] in
    record {
      read = read;
      joined = so_far.joined ∙ ap (λ (l : List (List ℕ)). map cap_text so_far.read ++ l) (parts ∙ ap (λ (f : List ℕ). f ∷ rest) is)
          ∙ sym (append_assoc (map cap_text so_far.read) (cap_text (resource, most) ∷ []) rest)
          ∙ ap (λ (l : List (List ℕ)). l ++ rest) (sym (map-append cap_text so_far.read ((resource, most) ∷ [])));
      rising = λ more above. subst (AreCapsAbove 0) (sym (append_assoc so_far.read ((resource, most) ∷ []) more))
          (so_far.rising ((resource, most) ∷ more) (new, small, some, few, above));
      only = λ others whole. let of = so_far.only others whole in next of.0 (sym parts ∙ of.1) of.2;
      up_to = up_to_end resource resource most so_far.read (omega arith) (up_to_more below resource so_far.read (omega arith) so_far.up_to);
      caps_are = set ∙ ap (λ (c : List ℕ). slice_set c resource most) so_far.caps_are ∙ one_set so_far.read below resource most new small so_far.up_to;
    }
  where
    next : (of : Caps) → field ∷ rest ≡ map cap_text of → AreCapsAbove below of → (more : Caps) × (rest ≡ map cap_text more) × AreCapsAbove resource more
    next [] same above = absurd (cc)
    next ((other, cap) ∷ more) same above =
        let first : field ≡ cap_text (other, cap) = cc in
        let one = one_cap resource most other cap small above.1 (sym is ∙ first) in
        (more, cc, subst (λ r. AreCapsAbove r more) (sym one.0) above.4)

-- a next piece that is no cap, or none of a resource above
pub no_cap : (text field : List ℕ) (left rest : List (List ℕ)) (below : ℕ) (caps : List ℕ) → AreSoFar text left below caps → left ≡ field ∷ rest
    → ((resource most : ℕ) → below < resource → resource ≤ 7 → least_of option.Caps ≤ most → most ≤ most_of option.Caps → field ≡ cap_text (resource, most) → ⊥)
    → (others : Caps) → IsCapsText text others → ⊥
no_cap text field left rest below caps so_far parts none others whole = let of = so_far.only others whole in next of.0 (sym parts ∙ of.1) of.2
  where
    next : (of : Caps) → field ∷ rest ≡ map cap_text of → AreCapsAbove below of → ⊥
    next [] same above = absurd (cc)
    next ((other, cap) ∷ more) same above = none other cap above.0 above.1 above.2 above.3 (cc)

-- all caps have been read
pub all_read : (text : List ℕ) (left : List (List ℕ)) (below : ℕ) (caps : List ℕ) → AreSoFar text left below caps → left ≡ []
    → (pairs : Caps) × IsCapsText text pairs × (caps ≡ caps_of pairs)
all_read text left below caps so_far none = (
  so_far.read,
  record {
    joined = so_far.joined ∙ ap (λ (l : List (List ℕ)). map cap_text so_far.read ++ l) none ∙ append-nil (map cap_text so_far.read);
    in_range = subst (AreCapsAbove 0) (append-nil so_far.read) (so_far.rising [] tt);
  },
  so_far.caps_are,
)
