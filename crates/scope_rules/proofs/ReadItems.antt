-- One more item of a source that is read item by item.
use Rattle.scope_rules.proofs.Common.{◌≡◌, ◌≤◌, refl, sym, ap, subst, ◌∙◌, List, [], ◌∷◌, ◌++◌, append_assoc, append-nil, None, RawItemTree, Items, Binding, least_of, Sofar, definitions, at_start, item_after, item_faults, items_after, items_faults, sofar_of, IsCounted, Agrees, HaveRead}
use Rattle.scope_rules.proofs.Agreeing.{few_sites, fewer_before, agrees, agrees_item, same_faults}
use Rattle.scope_rules.proofs.Least.{least_of_append}

pub after_one_more : (defs : List Binding) (w : Sofar) (is : List RawItemTree) (i : RawItemTree) → items_after defs w (is ++ i ∷ []) ≡ item_after defs (items_after defs w is) i
after_one_more defs w [] i = refl
after_one_more defs w (j ∷ is) i = after_one_more defs (item_after defs w j) is i

pub faults_of_one_more : (defs : List Binding) (w : Sofar) (is : List RawItemTree) (i : RawItemTree) → items_faults defs w (is ++ i ∷ []) ≡ items_faults defs w is ++ item_faults defs (items_after defs w is) i
faults_of_one_more defs w [] i = append-nil (item_faults defs w i)
faults_of_one_more defs w (j ∷ is) i =
    ap (λ fs. item_faults defs w j ++ fs) (faults_of_one_more defs (item_after defs w j) is i)
    ∙ sym (append_assoc (item_faults defs w j) (items_faults defs (item_after defs w j) is) (item_faults defs (items_after defs (item_after defs w j) is) i))

pub one_more : (w v : Items) (i : RawItemTree) → sofar_of v ≡ item_after w.definitions (sofar_of w) i → v.definitions ≡ w.definitions
    → v.place.least ≡ least_of w.place.least (item_faults w.definitions (sofar_of w) i) → (IsCounted w → IsCounted v)
    → (all read : List RawItemTree) → HaveRead w all read → HaveRead v all (read ++ i ∷ [])
one_more w v i s d f n all read h =
    let defs = definitions all in
    let before = items_after defs at_start read in
    let faults = items_faults defs at_start read in
    let more = after_one_more defs at_start read i in
    let few = few_sites all read in
    let after : sofar_of v ≡ item_after defs (sofar_of w) i = s ∙ ap (λ x. item_after x (sofar_of w) i) h.defined in
    let now : Agrees (sofar_of v) (item_after defs before i) = subst (λ x. Agrees x (item_after defs before i)) (sym after) (agrees_item defs (sofar_of w) before i few h.sofar) in
    record {
      defined = d ∙ h.defined;
      sofar = subst (Agrees (sofar_of v)) (sym more) now;
      faults =
          f
          ∙ (ap (λ x. least_of w.place.least (item_faults x (sofar_of w) i)) h.defined
          ∙ (ap (least_of w.place.least) (same_faults defs (sofar_of w) before i h.sofar.spot)
          ∙ (ap (λ x. least_of x (item_faults defs before i)) h.faults
          ∙ (sym (least_of_append None faults (item_faults defs before i)) ∙ sym (ap (least_of None) (faults_of_one_more defs at_start read i))))));
      counted = λ g.
          let here : (item_after defs before i).spot.site ≤ 65535 = subst (λ x. x.site ≤ 65535) now.spot g in
          n (h.counted (subst (λ x. x.site ≤ 65535) (sym h.sofar.spot) (fewer_before defs before i few here)));
    }

pub read_all : (w : Items) (is : List RawItemTree) (defs : List Binding) → w.definitions ≡ defs → defs ≡ definitions is → sofar_of w ≡ items_after defs at_start is
    → w.place.least ≡ least_of None (items_faults defs at_start is) → IsCounted w → HaveRead w is is
read_all w is defs d e s f n = record {
  defined = d ∙ e;
  sofar = subst (Agrees (sofar_of w)) (s ∙ ap (λ x. items_after x at_start is) e) (agrees (sofar_of w));
  faults = f ∙ ap (λ x. least_of None (items_faults x at_start is)) e;
  counted = λ h. n;
}
