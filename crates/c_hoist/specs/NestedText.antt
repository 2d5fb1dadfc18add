-- The program of a source text that may have calls inside expressions, and the refusal of a text that has none.
use Rattle.std.specs.Prelude.{ℕ, List}
use Rattle.c_tree.specs.RawTrees.{RawItemTree}
use Rattle.c_tree.specs.Trees.{ProgramTree}
use Rattle.c_parse.specs.ForParts.{nested_in_fors}
use Rattle.scope_rules.specs.declared.errors.ScopeError.{ScopeError}
use Rattle.scope_rules.specs.Outcomes.{IsRefused}
use Rattle.scope_rules.specs.Numbered.{IsResolvedBy}
use Rattle.c_scope.specs.declared.source_errors.SourceError.{SourceError}
use Rattle.c_scope.specs.SourceText.{ReadsWhere, IsSourceErrorWhere}
use Rattle.hoist_parts.specs.Statements.{items_hoisted}
use Rattle.grammar_laws.specs.Ranks.{site_numbers}
use Rattle.deep_mean.specs.Naming.{deep_program}
use Rattle.hoist_meaning.specs.SameRuns.{RunsTheSame}

-- The rewritten tree breaks no rule of scope, defines `main` and exceeds no limit, and the program is that tree with
-- numbers in place of its names. Its calls are numbered by the places of their names in the text.
abbrev pub IsHoistedTo : List RawItemTree → ProgramTree → Type 0
IsHoistedTo tree program = IsResolvedBy (site_numbers (items_hoisted tree)) (items_hoisted tree) program

abbrev pub IsRefusedHoisted : List RawItemTree → ScopeError → Type 0
IsRefusedHoisted tree error = IsRefused (items_hoisted tree) error

-- the source is read as this program: no call in the parentheses of a `for` is nested
abbrev pub ReadsNested : List ℕ → ProgramTree → Type 0
ReadsNested source program = ReadsWhere nested_in_fors IsHoistedTo source program

-- The program does what the source means, with calls inside expressions: both have the same runs (`SameRuns` of
-- hoist_meaning), for every tree of the source.
abbrev pub MeansText : List ℕ → ProgramTree → Type 0
MeansText source program = (read : ReadsNested source program) → RunsTheSame program (deep_program read.tree)

-- the refusal of the source
abbrev pub IsNestedSourceErrorOf : List ℕ → SourceError → Type 0
IsNestedSourceErrorOf source error = IsSourceErrorWhere nested_in_fors IsRefusedHoisted source error
