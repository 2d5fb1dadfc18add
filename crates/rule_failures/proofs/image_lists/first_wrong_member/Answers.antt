use Rattle.rule_failures.proofs.Common.{◌≡◌, ◌<◌, ◌≤◌, ◌+◌, ℕ, List, length, map, take, sym, ap, ◌∙◌, subst, arith, Some, None, slice_get, slice_index_or, sum_by, nat_lt, if◌then◌else◌, length-map, take_all, program_code, fact_at, sum_room, sum_step, V8, member_entries, IsFirst, IsFirstOther}
use Rattle.rule_failures.proofs.FirstLemmas.{first_same}
use Rattle.rule_failures.proofs.PieceLemmas.{differs_in, agrees_more, differs_behind, sized_whole}
use Rattle.rule_failures.proofs.image_lists.first_wrong_member.Goals as goal

pub first_other_entry-requires-clause-room : goal.first_other_entry-requires-clause-room
first_other_entry-requires-clause-room c =
    let at : c.table-item.result ≡ slice_index_or c.args.flat.now.tables.items c.loop-table.table-index c.table-item.result =
    c.table-item.is ∙ ap (λ l. slice_index_or l c.loop-table.table-index c.table-item.result) c.loop-table.invariant.items in
    let room : sum_by length (take c.loop-table.table-index c.args.flat.now.tables.items) + length c.table-item.result ≤ 65536 =
    sum_room length c.args.flat.now.tables.items c.loop-table.table-index c.table-item.result 65536 (omega (arith, ap length c.loop-table.invariant.items)) at c.args.flat.now.well_formed.table_members in
    omega (arith, ap length c.as_slice.ensures)

pub returns-in-Some : goal.returns-in-Some
returns-in-Some c = λ f.
    let entries : List ℕ → List ℕ = λ members. map (λ g. (fact_at c.args.certificate.now g).entry) members in
    let code = program_code c.args.flat.now in
    let at : c.table-item.result ≡ slice_index_or c.args.flat.now.tables.items c.loop-table.table-index c.table-item.result =
    c.table-item.is ∙ ap (λ l. slice_index_or l c.loop-table.table-index c.table-item.result) c.loop-table.invariant.items in
    let other : IsFirstOther (entries c.table-item.result) c.as_slice-words.result.now c.loop-table.passed (Some c.in-Some.index) =
    subst (λ l. IsFirstOther (entries l) c.as_slice-words.result.now c.loop-table.passed (Some c.in-Some.index)) c.as_slice.ensures c.in-Some.ensures in
    let first : IsFirst (λ j. slice_get c.as_slice-words.result.now j ≡ slice_get (member_entries code c.args.certificate.now) j) (Some c.in-Some.index) =
    differs_in entries length (λ x. length-map x (λ g. (fact_at c.args.certificate.now g).entry)) c.args.flat.now.tables.items c.loop-table.table-index c.table-item.result c.as_slice-words.result.now c.loop-table.passed
    c.in-Some.index (omega (arith, ap length c.loop-table.invariant.items)) at c.loop-table.invariant.passed c.loop-table.invariant.lower other in
    let there : IsFirst (λ j. slice_get c.args.image.now.tables j ≡ slice_get (member_entries code c.args.certificate.now) j) (Some c.in-Some.index) =
    subst (λ ws. IsFirst (λ j. slice_get ws j ≡ slice_get (member_entries code c.args.certificate.now) j) (Some c.in-Some.index)) c.as_slice-words.ensures first in
    first_same (λ j. slice_get c.args.image.now.tables j ≡ slice_get (member_entries code c.args.certificate.now) j) (V8 code c.args.image.now c.args.certificate.now f)
    (λ j e. record { word = e }) (λ j v. v.word) (Some c.in-Some.index) there

pub loop-table-preserved : goal.loop-table-preserved
loop-table-preserved c =
    let entries : List ℕ → List ℕ = λ members. map (λ g. (fact_at c.args.certificate.now g).entry) members in
    let at : c.table-item.result ≡ slice_index_or c.args.flat.now.tables.items c.loop-table.table-index c.table-item.result =
    c.table-item.is ∙ ap (λ l. slice_index_or l c.loop-table.table-index c.table-item.result) c.loop-table.invariant.items in
    let lt : c.loop-table.table-index < length c.args.flat.now.tables.items = omega (arith, ap length c.loop-table.invariant.items) in
    let none : IsFirstOther (entries c.table-item.result) c.as_slice-words.result.now c.loop-table.passed None =
    subst (λ l. IsFirstOther (entries l) c.as_slice-words.result.now c.loop-table.passed None) c.as_slice.ensures c.in_default.ensures in
    let more = agrees_more entries length (λ x. length-map x (λ g. (fact_at c.args.certificate.now g).entry)) c.args.flat.now.tables.items c.loop-table.table-index c.table-item.result c.as_slice-words.result.now
    c.loop-table.passed lt at c.loop-table.invariant.passed c.loop-table.invariant.lower none in
    record {
      items = c.loop-table.invariant.items;
      passed = omega (arith, c.len-passed.ensures, c.loop-table.invariant.passed, sum_step length c.args.flat.now.tables.items c.loop-table.table-index c.table-item.result lt at);
      lower = λ i less. more i (omega (arith, c.len-passed.ensures));
    }

pub returns : goal.returns
returns c = λ f.
    let entries : List ℕ → List ℕ = λ members. map (λ g. (fact_at c.args.certificate.now g).entry) members in
    let code = program_code c.args.flat.now in
    let all : take c.loop-table.table-index c.args.flat.now.tables.items ≡ c.args.flat.now.tables.items =
    take_all c.loop-table.table-index c.args.flat.now.tables.items (omega (arith, ap length c.loop-table.invariant.items)) in
    let whole : c.loop-table.passed ≡ length (member_entries code c.args.certificate.now) =
    c.loop-table.invariant.passed ∙ (ap (λ l. sum_by length l) all ∙ sized_whole entries length (λ x. length-map x (λ g. (fact_at c.args.certificate.now g).entry)) c.args.flat.now.tables.items) in
    let first : IsFirst (λ j. slice_get c.as_slice-words.result.now j ≡ slice_get (member_entries code c.args.certificate.now) j) (if nat_lt c.loop-table.passed (length c.as_slice-words.result.now) then Some c.loop-table.passed else None) =
    differs_behind (member_entries code c.args.certificate.now) c.as_slice-words.result.now c.loop-table.passed whole c.loop-table.invariant.lower in
    let told : IsFirst (λ j. slice_get c.as_slice-words.result.now j ≡ slice_get (member_entries code c.args.certificate.now) j) c.first_too_many.result =
    subst (λ r. IsFirst (λ j. slice_get c.as_slice-words.result.now j ≡ slice_get (member_entries code c.args.certificate.now) j) r) (sym c.first_too_many.ensures) first in
    let there : IsFirst (λ j. slice_get c.args.image.now.tables j ≡ slice_get (member_entries code c.args.certificate.now) j) c.first_too_many.result =
    subst (λ ws. IsFirst (λ j. slice_get ws j ≡ slice_get (member_entries code c.args.certificate.now) j) c.first_too_many.result) c.as_slice-words.ensures told in
    first_same (λ j. slice_get c.args.image.now.tables j ≡ slice_get (member_entries code c.args.certificate.now) j) (V8 code c.args.image.now c.args.certificate.now f)
    (λ j e. record { word = e }) (λ j v. v.word) c.first_too_many.result there
