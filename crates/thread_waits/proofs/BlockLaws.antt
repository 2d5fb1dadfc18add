-- The least numbers of blocks of places, and trees that have them.
use Rattle.thread_waits.proofs.Common.{◌≡◌, ◌≢◌, ℕ, ◌+◌, ◌*◌, ◌/◌, ◌<◌, ◌≤◌, ◌⊎◌, inl, inr, List, length, min, Option, Some, None, refl, sym, ◌∙◌, ap, subst, arith, below_more, slice_index_or, slice_set, get_or-set_same, get_or-set_other, length-set, Wait, IsBetween, IsLeafOf, IsLeastBetween, IsTreeOf, no_number, number_or, same_or_not}

pub past_or_not : (n k : ℕ) → (k < n) ⊎ (n ≤ k)
past_or_not n k = grind arith

pub number_is : (o : Option ℕ) (n : ℕ) → number_or o ≡ n → n ≢ no_number → o ≡ Some n
number_is None n e d = absurd (d (sym e))
number_is (Some m) n e d = rw e refl

pub lesser_is : (a b : ℕ) → (b < a) ⊎ (a ≤ b) → (min a b ≡ a) ⊎ (min a b ≡ b)
lesser_is a b (inl h) = inr (omega arith)
lesser_is a b (inr h) = inl (omega arith)

module _ (number : Option Wait → Option ℕ) where
  -- ---- place by place

  stands_by : (places : List (Option Wait)) (start end least next value : ℕ) → start ≤ end → IsLeastBetween number places start end least → next ≡ number_or (number (slice_index_or places end None)) →
      value ≢ no_number → (value ≡ least) ⊎ (value ≡ next) → IsBetween number places start (end + 1) value
  stands_by places start end least next value order so is d (inl same) =
      let s : IsBetween number places start end least = so.stands (λ e. d (same ∙ e)) in
      let before : s.place < end = s.before in
      record { place = s.place; from = s.from; before = omega arith; number_is = s.number_is ∙ ap Some (sym same) }
  stands_by places start end least next value order so is d (inr same) =
      record { place = end; from = order; before = omega arith; number_is = number_is (number (slice_index_or places end None)) value (sym (same ∙ is)) d }

  pub one_between : (places : List (Option Wait)) (start end least next : ℕ) → start ≤ end → IsLeastBetween number places start end least → next ≡ number_or (number (slice_index_or places end None)) →
      IsLeastBetween number places start (end + 1) (min least next)
  one_between places start end least next order so is = record {
    most = let most : least ≤ no_number = so.most in omega arith;
    lowest = λ k from before.
        below_more (λ j. start ≤ j → min least next ≤ number_or (number (slice_index_or places j None))) end
        (λ j under past. let low : least ≤ number_or (number (slice_index_or places j None)) = so.lowest j past under in omega arith)
        (λ past. subst (λ (n : ℕ). min least next ≤ n) is (omega arith)) k before from;
    stands = λ d. stands_by places start end least next (min least next) order so is d (lesser_is least next (past_or_not least next));
  }

  -- ---- changes

  -- where the numbers are the same
  pub between_same : (old new : List (Option Wait)) (start end least : ℕ) →
      ((k : ℕ) → start ≤ k → k < end → number_or (number (slice_index_or new k None)) ≡ number_or (number (slice_index_or old k None))) →
      IsLeastBetween number old start end least → IsLeastBetween number new start end least
  between_same old new start end least same so = record {
    most = so.most;
    lowest = λ k from before. rw (same k from before) (so.lowest k from before);
    stands = λ d.
        let s : IsBetween number old start end least = so.stands d in
        record {
          place = s.place;
          from = s.from;
          before = s.before;
          number_is = number_is (number (slice_index_or new s.place None)) least (same s.place s.from s.before ∙ ap number_or s.number_is) d;
        };
  }

  module _ (places : List (Option Wait)) (place : ℕ) (next : Option Wait) (there : place < length places) (leaves : List ℕ) (t : IsTreeOf number places leaves) where
    other_at : (k : ℕ) → k ≢ place → number_or (number (slice_index_or (slice_set places place next) k None)) ≡ number_or (number (slice_index_or places k None))
    other_at k d = rw (get_or-set_other places place k next None d) refl

    none_at : number_or (number (slice_index_or places place None)) ≡ no_number → number_or (number next) ≡ no_number → (k : ℕ) → (k ≡ place) ⊎ (k ≢ place) →
        number_or (number (slice_index_or (slice_set places place next) k None)) ≡ number_or (number (slice_index_or places k None))
    none_at now after k (inl e) = rw (e, get_or-set_same places place next None there, now) after
    none_at now after k (inr d) = other_at k d

    -- who has no number comes after one who has none
    pub tree_kept : number_or (number (slice_index_or places place None)) ≡ no_number → number_or (number next) ≡ no_number → IsTreeOf number (slice_set places place next) leaves
    tree_kept now after = record {
      places_fit = rw (length-set places place next) t.places_fit;
      leaf = λ block. between_same places (slice_set places place next) (16 * block) (16 * block + 16) (slice_index_or leaves block no_number)
          (λ k from before. none_at now after k (same_or_not k place)) (t.leaf block);
    }

    leaf_at : (value block : ℕ) → IsLeafOf number (slice_set places place next) (place / 16) value → (block ≡ place / 16) ⊎ (block ≢ place / 16) →
        IsLeafOf number (slice_set places place next) block (slice_index_or (slice_set leaves (place / 16) value) block no_number)
    leaf_at value block so (inl e) =
        let fit : length places ≤ 16 * length leaves = t.places_fit in
        rw (e, get_or-set_same leaves (place / 16) value no_number (omega arith)) so
    leaf_at value block so (inr d) =
        rw (get_or-set_other leaves (place / 16) block value no_number d)
        (between_same places (slice_set places place next) (16 * block) (16 * block + 16) (slice_index_or leaves block no_number)
        (λ k from before. other_at k (λ e. d (omega arith))) (t.leaf block))

    -- the leaf of the place's block is set
    pub tree_set : (value : ℕ) → IsLeafOf number (slice_set places place next) (place / 16) value → IsTreeOf number (slice_set places place next) (slice_set leaves (place / 16) value)
    tree_set value so = record {
      places_fit = rw (length-set places place next, length-set leaves (place / 16) value) t.places_fit;
      leaf = λ block. leaf_at value block so (same_or_not block (place / 16));
    }
