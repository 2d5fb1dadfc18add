use Rattle.rule_failures.proofs.Common.{◌≡◌, length, List, ℕ, refl, sym, ap, ◌∙◌, subst, arith, below_more, inl, inr, slice_index, cases_lt, false≢true, IsPlaced, frame_places, frame_words, AreMarked}
use Rattle.rule_failures.proofs.FrameLemmas.{place_of, words_of, place_of_ra, words_of_ra, taken_as, placed_as}
use Rattle.rule_failures.proofs.places.first_untaken.Goals as goal

pub returns-then-not-takes_place : goal.returns-then-not-takes_place
returns-then-not-takes_place c =
    let e : slice_index (frame_places c.args.fact.now) c.loop-x.x ≡ slice_index c.as_slice-places.result.now c.loop-x.x =
    place_of c.args.fact.now c.loop-x.x (omega arith) ∙ ap (λ (l : List ℕ). slice_index l c.loop-x.x) (sym c.as_slice-places.ensures) in
    let f = words_of c.args.sizes.now c.loop-x.x (omega arith) in (
      λ h. absurd (false≢true (((c.if-not-takes_place.ensures.placed c.loop-x.x (slice_index (frame_places c.args.fact.now)) (slice_index (frame_words c.args.sizes.now)) c.loop-x.invariant.marked e f).1)
          (taken_as c.args.fact.now c.args.sizes.now c.loop-x.x _ _ e f (h (omega arith))))),
      λ j lt le. c.loop-x.invariant.lower j lt,
    )

pub loop-x-preserved : goal.loop-x-preserved
loop-x-preserved c =
    let e : slice_index (frame_places c.args.fact.now) c.loop-x.x ≡ slice_index c.as_slice-places.result.now c.loop-x.x =
    place_of c.args.fact.now c.loop-x.x (omega arith) ∙ ap (λ (l : List ℕ). slice_index l c.loop-x.x) (sym c.as_slice-places.ensures) in
    let f = words_of c.args.sizes.now c.loop-x.x (omega arith) in
    record {
      marked = c.if-not-takes_place.ensures.marked c.loop-x.x (slice_index (frame_places c.args.fact.now)) (slice_index (frame_words c.args.sizes.now)) c.loop-x.invariant.marked e f refl;
      count = omega arith;
      lower = below_more (λ x. IsPlaced c.args.fact.now c.args.sizes.now x) c.loop-x.x c.loop-x.invariant.lower
          (placed_as c.args.fact.now c.args.sizes.now c.loop-x.x _ _ e f
          ((c.if-not-takes_place.ensures.placed c.loop-x.x (slice_index (frame_places c.args.fact.now)) (slice_index (frame_words c.args.sizes.now)) c.loop-x.invariant.marked e f).0 refl));
    }

pub returns-then-not-takes_place-2 : goal.returns-then-not-takes_place-2
returns-then-not-takes_place-2 c =
    let starts : ℕ → ℕ = slice_index (frame_places c.args.fact.now) in
    let runs : ℕ → ℕ = slice_index (frame_words c.args.sizes.now) in
    let at : c.loop-x.x ≡ length c.args.sizes.now = omega arith in
    let marked : AreMarked 0 starts runs (length c.args.sizes.now) c.loop-x.marks = subst (λ (n : ℕ). AreMarked 0 starts runs n c.loop-x.marks) at c.loop-x.invariant.marked in
    let e = place_of_ra c.args.fact.now (length c.args.sizes.now) c.requires.places in
    let f = words_of_ra c.args.sizes.now in (
      λ h. absurd (false≢true (((c.if-not-takes_place-2.ensures.placed (length c.args.sizes.now) starts runs marked e f).1)
          (taken_as c.args.fact.now c.args.sizes.now (length c.args.sizes.now) _ _ e f (h (omega arith))))),
      λ j lt le. c.loop-x.invariant.lower j (omega arith),
    )

pub returns : goal.returns
returns c =
    let starts : ℕ → ℕ = slice_index (frame_places c.args.fact.now) in
    let runs : ℕ → ℕ = slice_index (frame_words c.args.sizes.now) in
    let at : c.loop-x.x ≡ length c.args.sizes.now = omega arith in
    let marked : AreMarked 0 starts runs (length c.args.sizes.now) c.loop-x.marks = subst (λ (n : ℕ). AreMarked 0 starts runs n c.loop-x.marks) at c.loop-x.invariant.marked in
    let e = place_of_ra c.args.fact.now (length c.args.sizes.now) c.requires.places in
    let f = words_of_ra c.args.sizes.now in
    let last : IsPlaced c.args.fact.now c.args.sizes.now (length c.args.sizes.now) =
    placed_as c.args.fact.now c.args.sizes.now (length c.args.sizes.now) _ _ e f ((c.if-not-takes_place-2.ensures.placed (length c.args.sizes.now) starts runs marked e f).0 refl) in
    λ i le. elim (cases_lt i (length c.args.sizes.now)) [
      | inl below ↦ c.loop-x.invariant.lower i (omega arith)
      | inr above ↦ (let is : length c.args.sizes.now ≡ i = omega arith in subst (λ (x : ℕ). IsPlaced c.args.fact.now c.args.sizes.now x) is last)
    ]
