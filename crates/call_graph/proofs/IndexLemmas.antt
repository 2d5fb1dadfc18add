-- One site more in the index, at its front.
use Rattle.call_graph.proofs.Common.{◌≡◌, ◌≢◌, ℕ, zero, suc, ◌+◌, ◌-◌, ◌<◌, ◌≤◌, ◌==◌, ◌&&◌, Bool, true, false, not, List, ◌∷◌, length, get_or, drop, set, refl, sym, ◌∙◌, arith, nat_tests, drop_more, get_or_default, length-set, get_or-set_same, get_or-set_other, GraphSite, Function, has}
use Rattle.call_graph.specs.Index.{is_call_of, sites_of, LeadsTo}
use Rattle.call_graph.proofs.ListLemmas.{by_test}

and_false : (b : Bool) → (b && false) ≡ false
and_false true = refl
and_false false = refl

-- two numbers are equal or not
pub by_eq : {P : Type 0} (a b : ℕ) → (a ≡ b → P) → (a ≢ b → P) → P
by_eq {P} a b same other = by_test (a == b) (λ e. same (grind (arith, nat_tests))) (λ e. other (grind (arith, nat_tests)))

-- from a place on: at it, or later
by_place : {P : Type 0} (k p : ℕ) → (k ≡ p → P) → (suc p ≤ k → P) → p ≤ k → P
by_place {P} k p same later past = by_eq k p same (λ ne. later (omega arith))

own : (caller : ℕ) → ((caller == caller) && true) ≡ true
own caller = grind (arith, nat_tests)

not_own : (caller f : ℕ) → f ≢ caller → ((caller == f) && true) ≡ false
not_own caller f ne = grind (arith, nat_tests)

same_caller : (caller f : ℕ) (b : Bool) → ((caller == f) && b) ≡ true → caller ≡ f
same_caller caller f b h = by_test (caller == f) (λ e. grind (arith, nat_tests)) (λ e. absurd (let x : false ≡ true = rw e at h in cc))

module _ (sites : List GraphSite) (without : List ℕ) where
  -- a place whose site isn't the function's
  pub sites_of-past : (place caller : ℕ) (d : GraphSite) → place < length sites → is_call_of without caller (get_or sites place d) ≡ false →
      sites_of (drop place sites) without caller ≡ sites_of (drop (place + 1) sites) without caller
  sites_of-past place caller d within other = rw (drop_more sites place d within, other) refl

  -- a place whose site is the function's
  pub sites_of-here : (place caller : ℕ) (d : GraphSite) → place < length sites → is_call_of without caller (get_or sites place d) ≡ true →
      sites_of (drop place sites) without caller ≡ get_or sites place d ∷ sites_of (drop (place + 1) sites) without caller
  sites_of-here place caller d within here = rw (drop_more sites place d within, here) refl

  -- one place earlier, past a site that isn't the function's
  pub leads-past : (place caller next : ℕ) (d : GraphSite) → place < length sites → is_call_of without caller (get_or sites place d) ≡ false →
      LeadsTo sites without caller (place + 1) next → LeadsTo sites without caller place next
  leads-past place caller next d within other leads = record {
    later = omega (arith, leads.later);
    within = leads.within;
    same = sites_of-past place caller d within other ∙ leads.same;
    site = leads.site;
  }

  -- a place whose site is the function's
  pub leads-here : (place caller : ℕ) (d : GraphSite) → place < length sites → is_call_of without caller (get_or sites place d) ≡ true →
      LeadsTo sites without caller place place
  leads-here place caller d within here = record {
    later = omega arith;
    within = omega arith;
    same = refl;
    site = λ e h. rw (get_or_default sites place e d within) here;
  }

  -- an index of the sites from a place on
  pub record IsIndexFrom (functions place : ℕ) (firsts nexts : List ℕ) : Type 0 where
    pub within : place ≤ length sites
    pub each_function : length firsts ≡ functions
    pub each_site : length nexts ≡ length sites
    pub first : (function : ℕ) → function < functions → LeadsTo sites without function place (get_or firsts function 0)
    pub next : (k : ℕ) (d : GraphSite) (caller : ℕ) → place ≤ k → k < length sites → is_call_of without caller (get_or sites k d) ≡ true →
        LeadsTo sites without caller (k + 1) (get_or nexts k 0)

  pub IsIndexFrom-skipped : (functions place : ℕ) (firsts nexts : List ℕ) (d : GraphSite) → 0 < place → not (has (get_or sites (place - 1) d).number without) ≡ false →
      IsIndexFrom functions place firsts nexts → IsIndexFrom functions (place - 1) firsts nexts
  IsIndexFrom-skipped functions zero firsts nexts d some skipped index = absurd (omega arith)
  IsIndexFrom-skipped functions (suc p) firsts nexts d some skipped index =
      let within : p < length sites = omega (arith, index.within) in
      let more : p + 1 ≡ suc p = omega arith in
      let before : suc p - 1 ≡ p = omega arith in
      let out : not (has (get_or sites p d).number without) ≡ false = rw before at skipped in
      let no : (f : ℕ) (e : GraphSite) → is_call_of without f (get_or sites p e) ≡ false = λ f e. rw (get_or_default sites p e d within, out) (and_false _) in
      rw before (record {
        within = omega arith;
        each_function = index.each_function;
        each_site = index.each_site;
        first = λ f h. leads-past p f (get_or firsts f 0) d within (no f d) (rw more (index.first f h));
        next = λ k e caller past h is. by_place k p (λ same. absurd (let x : false ≡ true = sym (no caller e) ∙ rw same at is in cc)) (λ later. index.next k e caller later h is) past;
      })

  pub IsIndexFrom-kept : (functions place : ℕ) (firsts nexts : List ℕ) (d : GraphSite) → 0 < place → not (has (get_or sites (place - 1) d).number without) ≡ true →
      (get_or sites (place - 1) d).caller < functions →
      IsIndexFrom functions place firsts nexts →
      IsIndexFrom functions (place - 1) (set firsts (get_or sites (place - 1) d).caller (place - 1)) (set nexts (place - 1) (get_or firsts (get_or sites (place - 1) d).caller 0))
  IsIndexFrom-kept functions zero firsts nexts d some kept below index = absurd (omega arith)
  IsIndexFrom-kept functions (suc p) firsts nexts d some kept below index =
      let within : p < length sites = omega (arith, index.within) in
      let more : p + 1 ≡ suc p = omega arith in
      let before : suc p - 1 ≡ p = omega arith in
      let open_ : not (has (get_or sites p d).number without) ≡ true = rw before at kept in
      let caller_below : (get_or sites p d).caller < functions = rw before at below in
      let in_firsts : (get_or sites p d).caller < length firsts = omega (arith, index.each_function) in
      let in_nexts : p < length nexts = omega (arith, index.each_site) in
      rw before (record {
        within = omega arith;
        each_function = length-set firsts (get_or sites p d).caller p ∙ index.each_function;
        each_site = length-set nexts p (get_or firsts (get_or sites p d).caller 0) ∙ index.each_site;
        first = λ f h. by_eq f (get_or sites p d).caller
            (λ same. rw (same, get_or-set_same firsts (get_or sites p d).caller p 0 in_firsts)
            (leads-here p (get_or sites p d).caller d within (rw (open_) (own (get_or sites p d).caller))))
            (λ other. rw (get_or-set_other firsts (get_or sites p d).caller f p 0 other)
            (leads-past p f (get_or firsts f 0) d within (rw open_ (not_own (get_or sites p d).caller f other)) (rw more (index.first f h))));
        next = λ k e caller past h is. by_place k p
            (λ same. let mine : is_call_of without caller (get_or sites p d) ≡ true = rw (same, get_or_default sites p e d within) at is in
            let whose : (get_or sites p d).caller ≡ caller = same_caller _ _ _ mine in
            rw (same, get_or-set_same nexts p (get_or firsts (get_or sites p d).caller 0) 0 in_nexts, whose, more) (index.first caller (rw whose at caller_below)))
            (λ later. let ne : k ≢ p = omega arith in rw (get_or-set_other nexts p k (get_or firsts (get_or sites p d).caller 0) 0 ne) (index.next k e caller later h is)) past;
      })

-- what stands past the end of a list of sites
abbrev pub no_site : GraphSite
no_site = record { number = 0; caller = 0; target = Function 0 }
