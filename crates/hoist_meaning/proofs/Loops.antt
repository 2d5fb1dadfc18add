-- Where the innermost loop leads that a statement stands in.
use Rattle.std.proofs.Common.{Bool, false, Option, Some, None}
use Rattle.hoist_meaning.proofs.Bindings.{Agreement}
use Rattle.hoist_meaning.proofs.Alike.{Within}

-- where the innermost loop leads, if the statement stands in one
pub data InLoops : Bool → Option Agreement → Agreement → Type 0 where
  NoneLeft : (a : Agreement) → InLoops false None a
  OneLeft : (loop : Bool) (o a : Agreement) → Within o a → InLoops loop (Some o) a

pub within_self : (a : Agreement) → Within a a
within_self a = λ x y p. p

pub within_on : (a b c : Agreement) → Within a b → Within b c → Within a c
within_on a b c h g = λ x y p. g x y (h x y p)

pub loops_on : (loop : Bool) (o : Option Agreement) (a b : Agreement) → Within a b → InLoops loop o a → InLoops loop o b
loops_on loop o a b h (InLoops.NoneLeft _) = InLoops.NoneLeft b
loops_on loop o a b h (InLoops.OneLeft _ q _ g) = InLoops.OneLeft loop q b (within_on q a b g h)
