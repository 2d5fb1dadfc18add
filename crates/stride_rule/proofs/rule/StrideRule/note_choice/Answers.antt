use Rattle.stride_rule.proofs.Common.{refl, subst, sym, IsKept}
use Rattle.stride_rule.proofs.StateLemmas.{as_noted, small_passes, kept_after_choice}
use Rattle.stride_rule.proofs.rule.StrideRule.note_choice.Goals as goal

pub grow-self-inside-requires : goal.grow-self-inside-requires
grow-self-inside-requires c = record {
  once = c.self.invariant.kept.once;
  room = (small_passes _ c.args.choice.now c.self.invariant.kept);
}

pub invariant_of-self : goal.invariant_of-self
invariant_of-self c =
    let waits = rw (← c.self.view_is) at c.requires.waits in
    let first = rw (← c.self.view_is) at c.requires.first in
    let room = rw (← c.self.view_is) at c.requires.room in
    let clients = c.grow-self-inside.ensures.grown in
    let pass = c.grow-self-inside.ensures.pass in
    let needs = c.grow-self-inside.ensures.needs in
    record {
      kept = subst IsKept (sym (as_noted _ c.self.invariant.kept c.args.choice.now _ _ _ _ _ clients pass refl c.is_held_back-self-inside.ensures needs))
          (kept_after_choice _ c.args.choice.now c.self.invariant.kept waits first room);
      covered = c.grow-self-inside.ensures.levels _ c.self.invariant.covered;
    }

pub returns : goal.returns
returns c =
    let clients = c.grow-self-inside.ensures.grown in
    let pass = c.grow-self-inside.ensures.pass in
    let needs = c.grow-self-inside.ensures.needs in
    rw (← c.self.view_is) (as_noted _ c.self.invariant.kept c.args.choice.now _ _ _ _ _ clients pass refl c.is_held_back-self-inside.ensures needs)
