-- A word that goes to the same place in the text and in the tree: both store it, and names stand again, or both meet the trap of an index.
use Rattle.hoist_meaning.proofs.Common.{ℕ, ◌≡◌, ◌≢◌, refl, sym, ap, subst, ◌∙◌, ⊎_elim, Bool, true, false, List, [], ◌∷◌, length, length-set, set, arith, Result, Ok, Err, nat_lt, cases_eq, get_or-set_other, row, width, with_word, TrapKind, ProgramTree, Item, Place, InLocalElement, WaitingFrame, Running, DeepProgram, DeepWaitingFrame, DeepRunning}
use Rattle.c_mean.specs.Steps as tree_steps
use Rattle.deep_mean.specs.DeepToDo as deep_items
use Rattle.deep_mean.specs.DeepSteps as deep_steps
use Rattle.hoist_meaning.proofs.Bindings.{Agreement, Both, Paired, AreBelow, NamesStand, paired_below, row_written, write_stands}
use Rattle.hoist_meaning.proofs.Items.{at}
use Rattle.hoist_meaning.proofs.Ends.{Rows}
use Rattle.hoist_meaning.proofs.Frames.{text_at, Words, PlacesAlike}

-- a write keeps how many words each name has
pub width_kept : (rows : Rows) (x i word u : ℕ) → width (with_word rows x i word) u ≡ width rows u
width_kept rows x i word u =
    ⊎_elim (λ (e : u ≡ x). ap (width (with_word rows x i word)) e ∙ ap length (row_written rows x i word) ∙ length-set (row rows x) i word ∙ ap (width rows) (sym e))
    (λ (ne : u ≢ x). ap length (get_or-set_other rows x u (set (row rows x) i word) [] ne)) (cases_eq u x)

-- one word in a row of one
pub only_word : (r : List ℕ) (word : ℕ) → length r ≡ 1 → set r 0 word ≡ word ∷ []
only_word (x ∷ []) word e = refl
only_word _ word e = absurd (omega (arith, e))

other_row : (rows : Rows) (x word u : ℕ) → u ≢ x → row (with_word rows x 0 word) u ≡ row rows u
other_row rows x word u ne = get_or-set_other rows x u (set (row rows x) 0 word) [] ne

module _ (text : DeepProgram) (program : ProgramTree) (f : ℕ) where
  written : (a b : Agreement) (txt names : Rows) (x y i word : ℕ) → Words text program f a txt names → NamesStand b (with_word txt x i word) (with_word names y i word) → Words text program f b (with_word txt x i word) (with_word names y i word)
  written a b txt names x y i word h stand =
      record { stand = stand; text_wide = λ u. width_kept txt x i word u ∙ h.text_wide u; tree_wide = λ u. width_kept names y i word u ∙ h.tree_wide u }

  -- variables that come next are apart from all that are in scope
  next_stands : (a : Agreement) (n m word : ℕ) (txt names : Rows) → AreBelow n m a → NamesStand a txt names → NamesStand a (with_word txt n 0 word) (with_word names m 0 word)
  next_stands a n m word txt names below stand = λ u v p.
      let w = paired_below a n m u v below p in
      other_row txt n word u (λ e. omega (arith, w.0, e)) ∙ stand u v p ∙ sym (other_row names m word v (λ e. omega (arith, w.1, e)))

  declared_stand : (a : Agreement) (t : List ℕ) (n m word : ℕ) (txt names : Rows) → AreBelow n m a → width txt n ≡ 1 → width names m ≡ 1 → NamesStand a txt names → NamesStand (Both t n m false a) (with_word txt n 0 word) (with_word names m 0 word)
  declared_stand a t n m word txt names below one two stand = λ u v p.
      ⊎_elim (λ (h : (u ≡ n) × (v ≡ m)).
      ap (row (with_word txt n 0 word)) h.0 ∙ row_written txt n 0 word ∙ only_word (row txt n) word one ∙ sym (only_word (row names m) word two) ∙ sym (row_written names m 0 word) ∙ sym (ap (row (with_word names m 0 word)) h.1))
      (λ (h : Paired a u v). next_stands a n m word txt names below stand u v h) p

  -- what storing comes to in both
  pub data StoredAlike (b : Agreement) (ds : List deep_items.Item) (is : List Item) (ws : List DeepWaitingFrame) (xs : List WaitingFrame) : Rows → Result DeepRunning TrapKind → Result Running TrapKind → Type 0 where
    BothStore : (globals txt names after : Rows) → Words text program f b txt names → StoredAlike b ds is ws xs globals (Ok (text_at text program f ws after txt ds)) (Ok (at program f xs after names is))
    BothFail : (globals : Rows) (trap : TrapKind) → StoredAlike b ds is ws xs globals (Err trap) (Err trap)

  where_alike : (within : Bool) (b : Agreement) (ds : List deep_items.Item) (is : List Item) (ws : List DeepWaitingFrame) (xs : List WaitingFrame) (globals txt names after : Rows) → Words text program f b txt names
      → StoredAlike b ds is ws xs globals (deep_steps.stored_where within (text_at text program f ws after txt ds)) (tree_steps.stored_where within (at program f xs after names is))
  where_alike true b ds is ws xs globals txt names after h = StoredAlike.BothStore globals txt names after h
  where_alike false b ds is ws xs globals txt names after h = StoredAlike.BothFail globals TrapKind.Index

  pub stored_alike : (a b : Agreement) (p q : Place) (word : ℕ) (ds : List deep_items.Item) (is : List Item) (ws : List DeepWaitingFrame) (xs : List WaitingFrame) (globals txt names : Rows) → PlacesAlike text program f a b p q → Words text program f a txt names
      → StoredAlike b ds is ws xs globals (deep_steps.stored (text_at text program f ws globals txt ds) p word) (tree_steps.stored (at program f xs globals names is) q word)
  stored_alike a b p q word ds is ws xs globals txt names (PlacesAlike.ToNowhere _) h = StoredAlike.BothStore globals txt names globals h
  stored_alike a b p q word ds is ws xs globals txt names (PlacesAlike.ToLocal _ n m x y below pair) h =
      StoredAlike.BothStore globals (with_word txt x 0 word) (with_word names y 0 word) globals (written a a txt names x y 0 word h (write_stands a n m x y 0 word txt names below pair h.stand))
  stored_alike a b p q word ds is ws xs globals txt names (PlacesAlike.ToDeclared _ t n m below one two) h =
      StoredAlike.BothStore globals (with_word txt n 0 word) (with_word names m 0 word) globals
      (written a (Both t n m false a) txt names n m 0 word h (declared_stand a t n m word txt names below (h.text_wide n ∙ one) (h.tree_wide m ∙ two) h.stand))
  stored_alike a b p q word ds is ws xs globals txt names (PlacesAlike.ToFixed _ n m below) h =
      StoredAlike.BothStore globals (with_word txt n 0 word) (with_word names m 0 word) globals (written a a txt names n m 0 word h (next_stands a n m word txt names below h.stand))
  stored_alike a b p q word ds is ws xs globals txt names (PlacesAlike.ToGlobal _ g) h = StoredAlike.BothStore globals txt names (with_word globals g 0 word) h
  stored_alike a b p q word ds is ws xs globals txt names (PlacesAlike.ToLocalElement _ n m x y i below pair) h =
      let same : width txt x ≡ width names y = ap length (h.stand x y pair) in
      subst (λ (w : ℕ). StoredAlike a ds is ws xs globals (deep_steps.stored (text_at text program f ws globals txt ds) (InLocalElement x i) word) (tree_steps.stored_where (nat_lt i w) (at program f xs globals (with_word names y i word) is))) same
      (where_alike (nat_lt i (width txt x)) a ds is ws xs globals (with_word txt x i word) (with_word names y i word) globals (written a a txt names x y i word h (write_stands a n m x y i word txt names below pair h.stand)))
  stored_alike a b p q word ds is ws xs globals txt names (PlacesAlike.ToGlobalElement _ g i) h =
      where_alike (nat_lt i (width globals g)) a ds is ws xs globals txt names (with_word globals g i word) h
