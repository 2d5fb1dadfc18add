-- A source that is resolved item by item.
use Rattle.std.specs.Prelude.{ℕ, ◌≡◌, ◌≤◌, List, None, length}
use Rattle.c_tree.specs.RawTrees.{RawItemTree}
use Rattle.c_tree.specs.RawTemporaries.{AreWithinTemporaries}
use Rattle.c_tree.specs.TextOrder.{program_sites}
use Rattle.c_tree.specs.WellScoped.{AreSiteNumbers}
use Rattle.c_tree.specs.WholeCalls.{AreCallsWhole}
use Rattle.scope_rules.specs.declared.items.Items.{Items}
use Rattle.scope_rules.specs.declared.resolver.Resolver.{Resolver}
use Rattle.scope_rules.specs.Faults.{least_of}
use Rattle.scope_rules.specs.Items.{Sofar, definitions, at_start, items_after, items_faults, program_of}
use Rattle.scope_rules.specs.ItemViews.{sofar_of, IsCounted}

-- the same items, but functions are only counted beyond the limit of calls
pub record Agrees (w v : Sofar) : Type 0 where
  pub spot : w.spot ≡ v.spot
  pub globals : w.globals ≡ v.globals
  pub tables : w.tables ≡ v.tables
  pub count : length w.functions ≡ length v.functions
  pub functions : v.spot.site ≤ 65535 → w.functions ≡ v.functions

-- these items were resolved, of a source that defines the same functions as `all`
pub record HaveRead (w : Items) (all read : List RawItemTree) : Type 0 where
  pub defined : w.definitions ≡ definitions all
  pub sofar : Agrees (sofar_of w) (items_after (definitions all) at_start read)
  pub faults : w.place.least ≡ least_of None (items_faults (definitions all) at_start read)
  pub counted : w.place.site ≤ 65535 → IsCounted w

-- all items of a source were resolved, whose statements need no more temporaries than allowed
pub record AreAllRead (w : Items) : Type 0 where
  pub source : List RawItemTree
  pub read : HaveRead w source source
  pub within : AreWithinTemporaries source

abbrev pub HasRead : Resolver → List RawItemTree → List RawItemTree → Type 0
HasRead r all read = HaveRead r.items all read

-- a source in which every call is whole was resolved completely, and there is a number for each
-- call
pub record CanNumber (r : Resolver) (numbers : List ℕ) : Type 0 where
  pub source : List RawItemTree
  pub read : HasRead r source source
  pub within : AreWithinTemporaries source
  pub whole : AreCallsWhole source
  pub each : length numbers ≡ length (program_sites (program_of source))
  pub distinct : AreSiteNumbers numbers
