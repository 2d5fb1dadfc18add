use Rattle.stride_rule.proofs.Common.{◌≡◌, ◌∙◌, List, length, subst, sym, rules, with_items_is, Summary}
use Rattle.stride_rule.proofs.LevelLemmas.{AreSummaries, levels_all}
use Rattle.stride_rule.proofs.levels.Levels.renew_all.Goals as goal

pub returns : goal.returns
returns c =
    let new_small = c.renew_small.new.small in
    let new_middle = c.renew_level.new.level in
    let new_large = c.renew_level-2.new.level in
    let long_small : length new_small ≡ length c.args.self.now.small.items = search rules in
    let long_middle : length new_middle ≡ length c.args.self.now.middle.items = search rules in
    let long_large : length new_large ≡ length c.args.self.now.large.items = search rules in
    let is_small = with_items_is c.args.self.now.small new_small (long_small ∙ sym c.args.self.now.small.ok.0) in
    let is_middle = with_items_is c.args.self.now.middle new_middle (long_middle ∙ sym c.args.self.now.middle.ok.0) in
    let is_large = with_items_is c.args.self.now.large new_large (long_large ∙ sym c.args.self.now.large.ok.0) in
    let are = levels_all c.args.self.now c.args.places.now new_small new_middle new_large c.requires long_small long_middle long_large
    (rw c.deref_mut.ensures.value at c.renew_small.ensures)
    (rw (c.deref.ensures.value, c.deref_mut-2.ensures.value, is_small) at c.renew_level.ensures)
    (rw (c.deref-2.ensures.value, c.deref_mut-3.ensures.value, is_middle) at c.renew_level-2.ensures) in
    let smalls = subst (λ (l : List Summary). AreSummaries l new_middle new_large c.args.places.now) (sym is_small) are in
    let middles = subst (λ (l : List Summary). AreSummaries new_small l new_large c.args.places.now) (sym is_middle) are in
    let larges = subst (λ (l : List Summary). AreSummaries new_small new_middle l c.args.places.now) (sym is_large) are in
    record { small = smalls.small; middle = middles.middle; large = larges.large }
