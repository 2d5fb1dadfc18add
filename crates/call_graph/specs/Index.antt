-- The sites of each function, linked by their indices in the list of all.
use Rattle.std.specs.Prelude.{ℕ, ◌≡◌, ◌+◌, ◌<◌, ◌≤◌, ◌==◌, ◌&&◌, Bool, true, not, List, filter, length, drop, slice_index}
use Rattle.std.specs.List.{AllByRecursion, slice_index_or}
use Rattle.call_graph.specs.declared.sites.GraphSite.{GraphSite}
use Rattle.call_graph.specs.Lists.{has}

-- whether a site is the function's, and not one of these
abbrev pub is_call_of : List ℕ → ℕ → GraphSite → Bool
is_call_of without caller site = (site.caller == caller) && not (has site.number without)

-- the function's sites, in order, without these
abbrev pub sites_of : List GraphSite → List ℕ → ℕ → List GraphSite
sites_of sites without caller = filter (is_call_of without caller) sites

-- every caller is a function
abbrev pub CallersBelow : ℕ → List GraphSite → Type 0
CallersBelow functions sites = AllByRecursion (λ site. site.caller < functions) sites

-- from an index on, the function's next site is at another index, or there is none and that index is the
-- end
pub record LeadsTo (sites : List GraphSite) (without : List ℕ) (caller place next : ℕ) : Type 0 where
  pub later : place ≤ next
  pub within : next ≤ length sites
  pub same : sites_of (drop place sites) without caller ≡ sites_of (drop next sites) without caller
  pub site : (d : GraphSite) → next < length sites → is_call_of without caller (slice_index_or sites next d) ≡ true

-- the index of each function's first site, and of the next site of each site's caller
pub record IsIndex (sites : List GraphSite) (without : List ℕ) (functions : ℕ) (firsts nexts : List ℕ) : Type 0 where
  pub each_function : length firsts ≡ functions
  pub each_site : length nexts ≡ length sites
  pub first : (function : ℕ) → function < functions → LeadsTo sites without function 0 (slice_index firsts function)
  pub next : (place : ℕ) (d : GraphSite) (caller : ℕ) → place < length sites → is_call_of without caller (slice_index_or sites place d) ≡ true →
      LeadsTo sites without caller (place + 1) (slice_index nexts place)
