-- The law: the program of the rewritten tree does what the text does.
use Rattle.hoist_meaning.proofs.Common.{ℕ, sym, subst, List, RawItemTree, ProgramTree, IsWellScoped, AreForPartsWhole, IsResolvedBy, is_call, items_places, RiseWithin, deep_program, items_hoisted, site_numbers, RunsTheSame, AreItemsNamed}
use Rattle.hoist_meaning.proofs.Sources.{sources_same}

-- The law: where every call in the parentheses of a `for` is whole, the names are a source's, and the calls stand in the order of the
-- text, the rewritten tree, whose calls are numbered by their names' places, does what the text does. Its program is well scoped, as each
-- program that is read is.
pub hoisting_keeps_meaning : (items : List RawItemTree) (end : ℕ) (program : ProgramTree) → AreForPartsWhole items → AreItemsNamed items → RiseWithin 0 (items_places is_call items) end
    → IsResolvedBy (site_numbers (items_hoisted items)) (items_hoisted items) program → IsWellScoped program → RunsTheSame program (deep_program items)
hoisting_keeps_meaning items end program whole named rise resolved scoped = subst (λ p. RunsTheSame p (deep_program items)) (sym resolved.tree) (sources_same items end whole named rise program resolved scoped)
