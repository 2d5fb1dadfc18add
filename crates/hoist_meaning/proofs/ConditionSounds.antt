-- What is known of a place makes the conditions there sound.
use Rattle.hoist_meaning.proofs.Common.{ℕ, ◌+◌, refl, sym, ap, ◌∙◌, Bool, List, length, RawExprTree, ProgramTree, expr_faults, Spot, DeepProgram, calls_in, counted, names_in, left_of, before}
use Rattle.hoist_meaning.proofs.Bindings.{Agreement}
use Rattle.hoist_meaning.proofs.Items.{after}
use Rattle.hoist_meaning.proofs.Spots.{with_names, before_stands}
use Rattle.hoist_meaning.proofs.Extends.{extends_paired, names_extend}
use Rattle.hoist_meaning.proofs.Premises.{IsSound}
use Rattle.hoist_meaning.proofs.Sizes.{before_adds}
use Rattle.hoist_meaning.proofs.SiteNumbers.{sites_stand}
use Rattle.hoist_meaning.proofs.Alike.{Within}
use Rattle.hoist_meaning.proofs.Fits.{PlaceFits, Whole, ConditionFits}
use Rattle.hoist_meaning.proofs.Rising.{names_rise, extends_pair, scope_of, stand_later}
use Rattle.hoist_meaning.proofs.Sound.{ConditionSound}

module _ (text : DeepProgram) (program : ProgramTree) (ns text_calls tree_calls : List ℕ) (f : ℕ) (whole : Whole text program ns text_calls tree_calls f) (gives loop : Bool) where
  -- a condition, after which the places stand by another agreement with the same pairs
  pub record ConditionEnds (a : Agreement) (k : ℕ) (s t : Spot) (e : RawExprTree) : Type 0 where
    pub next : Agreement
    pub sound : ConditionSound text program ns f a k s t e
    pub place : PlaceFits next (counted s (calls_in e)) (after t (before k e))
    pub fewer : Within next a
    pub more : Within a next

  pub condition_sound : (a : Agreement) (k : ℕ) (s t : Spot) (e : RawExprTree) → ConditionFits text program ns text_calls tree_calls f gives loop a k s t e → ConditionEnds a k s t e
  condition_sound a k s t e h =
      let m = length t.sizes in
      let w = m + names_in e in
      let b = with_names k m e a in
      let u = after t (before k e) in
      let scope = scope_of text program f a (names_in e) s t u.sizes h.place (before_adds k e t) h.tree_sizes whole.tree_few in
      let place = before_stands a k m e t h.place.stand.tree scope.few in
      let ext = names_extend k m e a in
      let sites = sites_stand ns tree_calls text_calls whole.numbers k s.site e t h.plain h.in_tree h.in_text in
      let sound : IsSound ns gives loop a k m s.site e t = record { source = h.named; fine = h.fine; left_fine = ap (λ bs. expr_faults bs (left_of k e)) (sym place.names) ∙ h.left_fine; sites = sites } in
      record {
        next = b;
        sound = record { variables = m; gives = gives; loop = loop; scope = scope; sound = sound };
        place = record { stand = stand_later a b k w s (counted s (calls_in e)) t u h.place refl refl ext place (names_rise (length s.sizes) k m e a h.place.stand.below); knows = h.place.knows };
        fewer = λ x y p. extends_paired k m w a b x y ext p;
        more = λ x y p. extends_pair k m w a b x y ext p;
      }
