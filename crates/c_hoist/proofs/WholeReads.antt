-- A source in which every call is whole is read as before: as the same program, with the same numbers of its calls.
use Rattle.c_lex.specs.declared.tokens.Token.{Token}
use Rattle.c_lex.specs.Tokens.{AreTokensOf}
use Rattle.c_hoist.proofs.Common.{ℕ, sym, subst, ◌∙◌, List, length, tokens_stand, RawItemTree, ProgramTree, counting, AreCallsWhole, is_call, items_places, site_numbers, program_rises, program_of, IsResolvedBy, IsResolved, IsHoistedTo, ReadsNested}
use Rattle.c_grammar.specs.Grammar.{IsProgram}
use Rattle.c_tree.proofs.WholeInFors.{parts_whole}
use Rattle.c_parse.proofs.NestedWhole.{items_whole}
use Rattle.c_parse.proofs.ForWhole.{for_parts_none}
use Rattle.grammar_laws.proofs.RankLaws.{rising_ranks}
use Rattle.c_scope.specs.SourceText.{ReadsAs}
use Rattle.c_hoist.proofs.SameNumbers.{same_numbers}
use Rattle.c_hoist.proofs.WholeKept.{items_kept}

-- in a tree of the grammar calls are numbered in the order of the tree
numbered_in_order : (source : List ℕ) (tokens : List Token) (tree : List RawItemTree) → AreTokensOf source tokens → IsProgram source tokens tree → counting 0 (site_numbers tree)
numbered_in_order source tokens tree l p = rising_ranks (items_places is_call tree) (length source) (program_rises source tokens (length source) tree is_call (tokens_stand source tokens l) p)

resolved_so : (tree : List RawItemTree) (program : ProgramTree) → counting 0 (site_numbers tree) → IsResolved tree program → IsResolvedBy (site_numbers tree) tree program
resolved_so tree program c r = record { rules = r.rules; main = r.main; limits = r.limits; tree = r.tree ∙ sym (same_numbers (site_numbers tree) c (program_of tree)) }

hoisted_to : (tree : List RawItemTree) (program : ProgramTree) → AreCallsWhole tree → counting 0 (site_numbers tree) → IsResolved tree program → IsHoistedTo tree program
hoisted_to tree program h c r = let P : List RawItemTree → Type 0 = λ t. IsResolvedBy (site_numbers t) t program in subst P (sym (items_kept tree h)) (resolved_so tree program c r)

pub reads_nested : (source : List ℕ) (program : ProgramTree) → ReadsAs source program → ReadsNested source program
reads_nested source program r =
    let whole = items_whole r.tree r.parsed.none_nested in
    record {
      tokens = r.tokens;
      tree = r.tree;
      lexed = r.lexed;
      parsed = record { within = r.parsed.within; tree = r.parsed.tree; none_nested = for_parts_none r.tree (parts_whole r.tree whole) };
      resolved = hoisted_to r.tree program whole (numbered_in_order source r.tokens r.tree r.lexed r.parsed.tree) r.resolved;
    }
