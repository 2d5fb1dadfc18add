use Rattle.std.specs.Int.{w128}
use Rattle.schedule_reading.proofs.Common.{◌≡◌, ◌≢◌, ◌<◌, ◌+◌, ◌⊎◌, inl, inr, ℕ, pos, length, get_or, false, true, sym, ap, ◌∙◌, subst, arith, rules, FitsSigned, to_z-of_z}
use mir.Val.{of_z, to_z}
use Rattle.schedule_reading.proofs.Averages.{ShownFrom, turn_end, turn_more, turn_other, turn_short, turn_skip}
use Rattle.schedule_reading.proofs.edges.are_averages.Goals as goal
use Rattle.schedule_reading.proofs.edges.are_averages.Goals.{then-resource-eq0-via-then-resource-eq0, then-resource-eq0-via-else-resource-eq0+then-caps-resource-ne0, then-read-values-via-then-read-values, then-read-values-via-else-read-values+then-values-read, then-resource-eq0+else-read-values+else-values-read, else-resource-eq0+else-caps-resource-ne0}

pub returns-then-read-values : goal.returns-then-read-values
returns-then-read-values c =
    let caps = c.args.caps.now in
    let r = c.loop-resource.resource in
    let either : (r ≡ 0) ⊎ (get_or caps r 0 ≢ 0) = elim c.then-resource-eq0.branch [
      | then-resource-eq0-via-then-resource-eq0 w ↦ inl w.if-resource-eq0.true
      | then-resource-eq0-via-else-resource-eq0+then-caps-resource-ne0 w ↦ inr w.if-caps-resource-ne0.true
    ] in (
      λ e. absurd (let no : false ≡ true = e in cc),
      λ e. elim c.then-read-values.branch [
        | then-read-values-via-then-read-values w ↦
            absurd (turn_short caps c.args.change.now c.args.values.now c.told-caps c.told-change r c.loop-resource.read c.loop-resource-test.true either w.if-read-values.true c.loop-resource.invariant.from e)
        | then-read-values-via-else-read-values+then-values-read w ↦
            absurd (turn_other caps c.args.change.now c.args.values.now c.told-caps c.told-change r c.loop-resource.read c.loop-resource-test.true either w.if-read-values.false (λ same. w.if-values-read.true (ap (of_z w128) same)) c.loop-resource.invariant.from e)
      ],
    )

pub loop-resource-preserved : goal.loop-resource-preserved
loop-resource-preserved c =
    let caps = c.args.caps.now in
    let change = c.args.change.now in
    let values = c.args.values.now in
    let r = c.loop-resource.resource in
    let read = c.loop-resource.read in
    let below : r < 8 = c.loop-resource-test.true in
    elim c.if-resource-eq0.branch [
      | then-resource-eq0+else-read-values+else-values-read w ↦
          let either : (r ≡ 0) ⊎ (get_or caps r 0 ≢ 0) = elim w.then-resource-eq0.branch [
            | then-resource-eq0-via-then-resource-eq0 v ↦ inl v.if-resource-eq0.true
            | then-resource-eq0-via-else-resource-eq0+then-caps-resource-ne0 v ↦ inr v.if-caps-resource-ne0.true
          ] in
          let there : read < length values = w.if-read-values.false in
          let value : FitsSigned w128 (get_or values read (pos 0)) = search rules in
          let average : FitsSigned w128 (get_or change r (pos 0)) = search rules in
          let same : get_or values read (pos 0) ≡ get_or change r (pos 0) = sym (to_z-of_z w128 (get_or values read (pos 0)) value) ∙ ap (to_z w128) w.if-values-read.false ∙ to_z-of_z w128 (get_or change r (pos 0)) average in
          let is = w.read-is in record {
            from = subst (λ (n : ℕ). ShownFrom caps change values (r + 1) n) (sym w.read-is)
                (turn_more caps change values c.told-caps c.told-change r read below either there same c.loop-resource.invariant.from);
            few = let few = c.loop-resource.invariant.few in omega (arith, few, is);
            within = omega (arith, there, is);
          }
      | else-resource-eq0+else-caps-resource-ne0 w ↦ let is = w.read-is in record {
        from = subst (λ (n : ℕ). ShownFrom caps change values (r + 1) n) (sym w.read-is)
            (turn_skip caps change values c.told-caps c.told-change r read below w.if-resource-eq0.false w.if-caps-resource-ne0.false c.loop-resource.invariant.from);
        few = let few = c.loop-resource.invariant.few in omega (arith, few, is);
        within = let within = c.loop-resource.invariant.within in omega (arith, within, is);
      }
    ]

pub returns : goal.returns
returns c =
    let all : c.loop-resource.resource ≡ 8 = (let past = c.loop-resource-test.false in let end = c.loop-resource.auto.resource-end in omega (arith, past, end)) in
    turn_end c.args.caps.now c.args.change.now c.args.values.now c.told-caps c.told-change c.loop-resource.resource c.loop-resource.read all c.loop-resource.invariant.within c.loop-resource.invariant.from
