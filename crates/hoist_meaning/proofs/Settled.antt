-- What stays on the way: the words of earlier variables, the widths of all, and the value of a part that is done, which is a number or a new
-- name that holds it, whatever the globals are by then.
use Rattle.hoist_meaning.proofs.Common.{ℕ, ◌≡◌, ◌≢◌, ◌+◌, ◌<◌, ◌≤◌, refl, sym, ap, ◌∙◌, false, List, [], ◌∷◌, ◌++◌, length, set, replicate, arith, ◌%◌, ◌^◌, slice_index, Ok, get_or-set_other, row, width, with_word, with_zeros, RawExprTree, RawNumber, value, Meaning, Variable, Binding, find, variable_of, scalar_value, expr_of, Spot, new_name, used}
use Rattle.hoist_meaning.proofs.Bindings.{Agreement, New, in_tree, NamesStand, row_written, last_found}
use Rattle.hoist_meaning.proofs.Spots.{StandsAt}
use Rattle.hoist_meaning.proofs.Extends.{Extends, TreeBelow, extends_text, extends_paired, extends_find, extends_below, pair_below}
use Rattle.hoist_meaning.proofs.Ends.{Rows}
use Rattle.hoist_meaning.proofs.Premises.{IsPlaced, Keeps}
use Rattle.hoist_meaning.proofs.Storing.{width_kept, only_word}
use Rattle.hoist_meaning.proofs.Stills.{zeroed_width}

-- ---- what is kept

pub keeps_all : (v : ℕ) (names : Rows) → Keeps v names names
keeps_all v names = record { words = λ y less. refl; widths = λ y. refl }

pub keeps_on : (v w : ℕ) (names middle after : Rows) → v ≤ w → Keeps v names middle → Keeps w middle after → Keeps v names after
keeps_on v w names middle after less h g = record { words = λ y small. g.words y (omega (arith, less, small)) ∙ h.words y small; widths = λ y. g.widths y ∙ h.widths y }

not_same : (v x y : ℕ) → v ≤ x → y < v → y ≢ x
not_same v x y less small e = omega (arith, less, small, e)

pub write_keeps : (v x word : ℕ) (names : Rows) → v ≤ x → Keeps v names (with_word names x 0 word)
write_keeps v x word names less = record { words = λ y small. get_or-set_other names x y (set (row names x) 0 word) [] (not_same v x y less small); widths = λ y. width_kept names x 0 word y }

pub zeros_keep : (v x : ℕ) (names : Rows) → v ≤ x → Keeps v names (with_zeros names x)
zeros_keep v x names less = record { words = λ y small. get_or-set_other names x y (replicate (width names x) 0) [] (not_same v x y less small); widths = λ y. zeroed_width names x y }

pub written : (names : Rows) (x word : ℕ) → width names x ≡ 1 → row (with_word names x 0 word) x ≡ word ∷ []
written names x word h = row_written names x 0 word ∙ only_word (row names x) word h

pub single : (r : List ℕ) (word : ℕ) → length r ≡ 1 → slice_index r 0 ≡ word → r ≡ word ∷ []
single (a ∷ []) word h e = ap (λ b. b ∷ []) e
single _ word h e = absurd (omega (arith, h))

-- ---- places

pub stands_on : (text names after : Rows) (a : Agreement) (v : ℕ) → TreeBelow v a → NamesStand a text names → Keeps v names after → NamesStand a text after
stands_on text names after a v below stand keeps = λ x y p. stand x y p ∙ sym (keeps.words y (pair_below v a x y below p))

pub later_stands : (text names : Rows) (ds : List Binding) (a b : Agreement) (k v w : ℕ) {room : ℕ} (s : Spot) → IsPlaced text names ds a v room s → Extends k v w a b → (later : Rows) → Keeps v names later → NamesStand b text later
later_stands text names ds a b k v w s h ext later keeps = λ x y p. stands_on text names later a v h.below h.alike keeps x y (extends_paired k v w a b x y ext p)

-- A later place with more new names is one from which the same is asked, of the variables that are left.
pub placed_on : (text names : Rows) (ds : List Binding) (a b : Agreement) (k v room w more : ℕ) (s t : Spot) (after : Rows) → IsPlaced text names ds a v room s → Extends k v w a b → StandsAt b w t → Keeps v names after → v ≤ w → w + more ≤ v + room →
    IsPlaced text after ds b w more t
placed_on text names ds a b k v room w more s t after h ext stand keeps less few =
    let kept = stands_on text names after a v h.below h.alike keeps in
    let small = h.few in
    record {
      place = stand;
      text_names = extends_text k v w a b ext ∙ h.text_names;
      below = extends_below k v w a b less ext h.below;
      alike = λ x y p. kept x y (extends_paired k v w a b x y ext p);
      few = omega (arith, few, small);
      wide = λ y low high. keeps.widths y ∙ h.wide y (omega (arith, low, less)) (omega (arith, high, few));
    }

-- of fewer variables to come
pub less_placed : (text names : Rows) (ds : List Binding) (a : Agreement) (v room less : ℕ) (s : Spot) → v + less ≤ v + room → IsPlaced text names ds a v room s → IsPlaced text names ds a v less s
less_placed text names ds a v room less s few h =
    let small = h.few in
    record { place = h.place; text_names = h.text_names; below = h.below; alike = h.alike; few = omega (arith, few, small); wide = λ y low high. h.wide y low (omega (arith, high, few)) }

-- ---- values of new names

pub last_variable : (h x : ℕ) (b : Agreement) → variable_of (find (new_name h).text (in_tree (New h x b))) ≡ Variable.Local x
last_variable h x b = ap variable_of (last_found (new_name h).text (Meaning.Local x false) (in_tree b))

pub used_value : (ds : List Binding) (h x word : ℕ) (names globals : Rows) → variable_of (find (new_name h).text ds) ≡ Variable.Local x → row names x ≡ word ∷ [] → value names globals (expr_of ds (used h)) ≡ Ok word
used_value ds h x word names globals e r = (λ i. value names globals (scalar_value (e i))) ∙ ap (λ ws. Ok (slice_index ws 0)) r

-- ---- parts that are done

-- a new name has a number below k, and its variable one below v
pub data IsSettled (k v : ℕ) (b : Agreement) (names : Rows) : RawExprTree → ℕ → Type 0 where
  number : (n : ℕ) → IsSettled k v b names (RawNumber n) (n % 2 ^ 32)
  name : (h x word : ℕ) → h < k → x < v → variable_of (find (new_name h).text (in_tree b)) ≡ Variable.Local x → row names x ≡ word ∷ [] → IsSettled k v b names (used h) word

pub settled_value : (k v : ℕ) (b : Agreement) (names globals : Rows) {e : RawExprTree} {word : ℕ} → IsSettled k v b names e word → value names globals (expr_of (in_tree b) e) ≡ Ok word
settled_value k v b names globals (IsSettled.number n) = refl
settled_value k v b names globals (IsSettled.name h x word p q e r) = used_value (in_tree b) h x word names globals e r

pub settled_on : (k v w : ℕ) (b c : Agreement) (names after : Rows) {e : RawExprTree} {word : ℕ} → IsSettled k v b names e word → Extends k v w b c → Keeps v names after → IsSettled k v c after e word
settled_on k v w b c names after (IsSettled.number n) ext keeps = IsSettled.number n
settled_on k v w b c names after (IsSettled.name h x word p q e r) ext keeps = IsSettled.name h x word p q (ap variable_of (extends_find k v w b c h p ext) ∙ e) (keeps.words x q ∙ r)

pub settled_more : (k v j w : ℕ) (b : Agreement) (names : Rows) {e : RawExprTree} {word : ℕ} → k ≤ j → v ≤ w → IsSettled k v b names e word → IsSettled j w b names e word
settled_more k v j w b names p q (IsSettled.number n) = IsSettled.number n
settled_more k v j w b names p q (IsSettled.name h x word r s e f) = IsSettled.name h x word (omega (arith, p, r)) (omega (arith, q, s)) e f

-- one after another
pub data AreSettled (k v : ℕ) (b : Agreement) (names : Rows) : List RawExprTree → List ℕ → Type 0 where
  none : AreSettled k v b names [] []
  more : (e : RawExprTree) (word : ℕ) (es : List RawExprTree) (words : List ℕ) → IsSettled k v b names e word → AreSettled k v b names es words → AreSettled k v b names (e ∷ es) (word ∷ words)

pub all_settled_on : (k v w : ℕ) (b c : Agreement) (names after : Rows) {es : List RawExprTree} {words : List ℕ} → AreSettled k v b names es words → Extends k v w b c → Keeps v names after → AreSettled k v c after es words
all_settled_on k v w b c names after AreSettled.none ext keeps = AreSettled.none
all_settled_on k v w b c names after (AreSettled.more e word es words one rest) ext keeps =
    AreSettled.more e word es words (settled_on k v w b c names after one ext keeps) (all_settled_on k v w b c names after rest ext keeps)

pub all_settled_more : (k v j w : ℕ) (b : Agreement) (names : Rows) {es : List RawExprTree} {words : List ℕ} → k ≤ j → v ≤ w → AreSettled k v b names es words → AreSettled j w b names es words
all_settled_more k v j w b names p q AreSettled.none = AreSettled.none
all_settled_more k v j w b names p q (AreSettled.more e word es words one rest) = AreSettled.more e word es words (settled_more k v j w b names p q one) (all_settled_more k v j w b names p q rest)

pub one_more_settled : (k v : ℕ) (b : Agreement) (names : Rows) {es : List RawExprTree} {words : List ℕ} (e : RawExprTree) (word : ℕ) → AreSettled k v b names es words → IsSettled k v b names e word → AreSettled k v b names (es ++ e ∷ []) (words ++ word ∷ [])
one_more_settled k v b names e word AreSettled.none h = AreSettled.more e word [] [] h AreSettled.none
one_more_settled k v b names e word (AreSettled.more f g es words one rest) h = AreSettled.more f g (es ++ e ∷ []) (words ++ word ∷ []) one (one_more_settled k v b names e word rest h)
