-- Names that are declared or used are no calls.
use Rattle.grammar_laws.proofs.Common.{◌≡◌, List, [], ◌∷◌, Option, Some, None, refl, NameTree, Declared, Used, names_places, parameters_places}
use Rattle.grammar_laws.specs.Nested.{is_call}

pub no_declared : (ns : List NameTree) → names_places is_call Declared ns ≡ []
no_declared [] = refl
no_declared (n ∷ ns) = no_declared ns

pub no_used : (ns : List NameTree) → names_places is_call Used ns ≡ []
no_used [] = refl
no_used (n ∷ ns) = no_used ns

pub no_parameters : (ps : List (Option NameTree)) → parameters_places is_call ps ≡ []
no_parameters [] = refl
no_parameters (None ∷ ps) = no_parameters ps
no_parameters (Some n ∷ ps) = no_parameters ps
