-- The ends of calls: all of a statement's expression, or within one, where the result's declaration makes the call.
use Rattle.hoist_meaning.proofs.Common.{ℕ, suc, ◌≡◌, ◌+◌, ◌≤◌, refl, sym, ap, subst, ◌∙◌, Bool, true, false, List, [], ◌∷◌, ◌++◌, length, Option, Some, None, arith, if◌then◌else◌, nat_eq, Ok, Err, width, with_word, NameTree, RawExprTree, RawExprTrees, RawNumber, RawName, RawElement, RawUnary, RawParenthesized, RawBinary, RawLogicalAnd, RawLogicalOr, RawConditional, RawCall, NoExprs, And, CallTree, Called, DeclareWith, ProgramTree, Value, values, Item, Simply, Meaning, Found, Rule, Binding, find, broken, takes, is_wrong_count, function_in, function_of, callee_in, callee_of, exprs_faults, listed, exprs_of, Spot, declare_faults, number_at, call_numbered, both_none, not_broken, same_number, Ready, ReadyCall, Evaluation, Calls, of_value, evaluate, evaluate_arguments, callee_by, is_spawn_by, new_name, used, declared_as, holds_call, is_spawn, arguments_names, spawned_left, arguments_left, call_left, arguments_before, AreSourceNames, AllSourceNames, not-false}
use Rattle.scope_rules.specs.declared.meanings.Callee as called
use Rattle.scope_rules.specs.Calls.{right_faults, call_name_faults, spawned_faults, arguments_faults, call_faults, spawned_function, first_value, spawn_of, call_by, call_of}
use Rattle.deep_mean.specs.Naming as deep
use Rattle.hoist_meaning.proofs.KnownSpawn.{both_fine, one_fine}
use Rattle.hoist_meaning.proofs.Bindings.{Agreement, New, in_text, in_tree, IsAgreement, LocalAlike, MeaningAlike, FoundAlike, found_alike, callee_alike}
use Rattle.hoist_meaning.proofs.Items.{items_of, after, items_both, at, stop_step, call_stops, call_parts, ReadyAlike}
use Rattle.hoist_meaning.proofs.Spots.{below_limit, with_argument_names, arguments_stand}
use Rattle.hoist_meaning.proofs.Extends.{extends_text, arguments_extend}
use Rattle.hoist_meaning.proofs.Ends.{Rows, NoCall, EndsAs, at_once, reach_ends, told_ends}
use Rattle.hoist_meaning.proofs.Premises.{KnowsSpawnAlone, IsPlaced, IsLeft, evaluated, AreSound, ArePartsLeft, IsCalled, side_left, IsSideLeft, IsSideCall, IsSideSound}
use Rattle.hoist_meaning.proofs.Settled.{keeps_all, keeps_on, write_keeps, written, less_placed, last_variable, used_value, AreSettled}
use Rattle.hoist_meaning.proofs.Parts.{Evaluates}
use Rattle.hoist_meaning.proofs.ArgumentEnds.{ArgumentsEnd}

-- ---- the function that `spawn` starts, and what is left of its name

function_local : (b : Agreement) (x : ℕ) (array : Bool) (n : Meaning) → LocalAlike b x array n → 0 ≡ function_in n
function_local b x array (Meaning.Local y other) h = refl
function_local b x array _ h = absurd h

function_meaning : (b : Agreement) (m n : Meaning) → MeaningAlike b m n → function_in m ≡ function_in n
function_meaning b (Meaning.Local x array) n h = function_local b x array n h
function_meaning b _ n h = sym (ap function_in h)

function_found : (b : Agreement) (o p : Option Found) → FoundAlike b o p → function_of o ≡ function_of p
function_found b None None h = refl
function_found b (Some f) (Some g) h = function_meaning b f.meaning g.meaning h
function_found b _ _ h = absurd h

none_spawned : (c : Bool) (names : List Binding) (e : RawExprTree) → spawned_function names e ≡ 0 → spawned_function names (if c then RawNumber 0 else e) ≡ 0
none_spawned true names e h = refl
none_spawned false names e h = h

spawned_alike : (b : Agreement) (e : RawExprTree) → IsAgreement b → AreSourceNames e → spawned_function (in_tree b) (spawned_left e) ≡ spawned_function (in_text b) e
spawned_alike b (RawName g) agrees source = sym (function_found b (find g.text (in_text b)) (find g.text (in_tree b)) (found_alike b g.text agrees source))
spawned_alike b (RawElement n i) agrees source = none_spawned (holds_call (RawElement n i)) (in_tree b) (RawElement n i) refl
spawned_alike b (RawUnary op e) agrees source = none_spawned (holds_call (RawUnary op e)) (in_tree b) (RawUnary op e) refl
spawned_alike b (RawParenthesized e) agrees source = none_spawned (holds_call (RawParenthesized e)) (in_tree b) (RawParenthesized e) refl
spawned_alike b (RawBinary op l r) agrees source = none_spawned (holds_call (RawBinary op l r)) (in_tree b) (RawBinary op l r) refl
spawned_alike b (RawLogicalAnd l r) agrees source = none_spawned (holds_call (RawLogicalAnd l r)) (in_tree b) (RawLogicalAnd l r) refl
spawned_alike b (RawLogicalOr l r) agrees source = none_spawned (holds_call (RawLogicalOr l r)) (in_tree b) (RawLogicalOr l r) refl
spawned_alike b (RawConditional c x y) agrees source = none_spawned (holds_call (RawConditional c x y)) (in_tree b) (RawConditional c x y) refl
spawned_alike b _ agrees source = refl

-- ---- `spawn` has two arguments

no_spawn : (q : called.Callee) → is_spawn_by q ≡ false → q ≡ called.Callee.Spawn → ⊥
no_spawn q not_one e = let wrong : false ≡ true = sym not_one ∙ ap is_spawn_by e in cc

spawn_takes : (m : Meaning) → callee_in m ≡ called.Callee.Spawn → takes m ≡ Some 2
spawn_takes (Meaning.Function f gives params defined) e = absurd (no_spawn (called.Callee.Function f) refl e)
spawn_takes (Meaning.Modelled m) e = absurd (no_spawn (called.Callee.Modelled m) refl e)
spawn_takes Meaning.Spawn e = refl
spawn_takes _ e = absurd (no_spawn (called.Callee.Function 0) refl e)

pub spawn_arity : (used_ : Bool) (o : Option Found) (at count : ℕ) → callee_of o ≡ called.Callee.Spawn → call_name_faults used_ o at count ≡ [] → 2 ≡ count
spawn_arity used_ None at count e f = absurd (no_spawn (called.Callee.Function 0) refl e)
spawn_arity used_ (Some g) at count e f =
    let both = both_none (broken (is_wrong_count (takes g.meaning) count) at Rule.Arity) _ f in
    same_number 2 count (not-false (nat_eq 2 count) (ap (λ t. is_wrong_count t count) (sym (spawn_takes g.meaning e)) ∙ not_broken (is_wrong_count (takes g.meaning) count) at Rule.Arity both.0))

one_value : (bs : List Binding) (ys : List RawExprTree) → 2 ≡ suc (length ys) → first_value (exprs_of bs ys) ∷ [] ≡ exprs_of bs ys
one_value bs (y ∷ []) h = refl
one_value bs _ h = absurd (omega (arith, h))

-- ---- the call that is left, by what is called

spawn_parts : (ns : List ℕ) (bs : List Binding) (k j : ℕ) (es : RawExprTrees) → 2 ≡ length (listed (arguments_left true k es)) → call_parts (call_numbered ns (spawn_of bs j (listed (arguments_left true k es)))) ≡ exprs_of bs (evaluated true k es)
spawn_parts ns bs k j NoExprs two = absurd (omega (arith, two))
spawn_parts ns bs k j (And e es) two = one_value bs (listed (arguments_left false k es)) two

module _ (ns : List ℕ) (bs : List Binding) (k j : ℕ) (es : RawExprTrees) where
  abbrev pub made_by : called.Callee → Bool → CallTree
  made_by q stays = call_numbered ns (call_by q bs j (listed (arguments_left stays k es)))

  pub parts_by : (q : called.Callee) (stays : Bool) → is_spawn_by q ≡ stays → (q ≡ called.Callee.Spawn → 2 ≡ length (listed (arguments_left stays k es))) → call_parts (made_by q stays) ≡ exprs_of bs (evaluated stays k es)
  parts_by called.Callee.Spawn true e arity = spawn_parts ns bs k j es (arity refl)
  parts_by (called.Callee.Function g) true e arity = absurd (let wrong : false ≡ true = e in cc)
  parts_by (called.Callee.Modelled m) true e arity = absurd (let wrong : false ≡ true = e in cc)
  parts_by called.Callee.Spawn false e arity = absurd (let wrong : true ≡ false = e in cc)
  parts_by _ false e arity = refl

pub arguments_fine : (q : called.Callee) (bs : List Binding) (at k : ℕ) (stays : Bool) (es : RawExprTrees) → is_spawn_by q ≡ stays → arguments_faults q bs at (listed (arguments_left stays k es)) ≡ [] → exprs_faults bs (evaluated stays k es) ≡ []
arguments_fine called.Callee.Spawn bs at k true NoExprs e f = refl
arguments_fine called.Callee.Spawn bs at k true (And x es) e f = (both_none (spawned_faults bs at (spawned_left x)) (exprs_faults bs (listed (arguments_left false k es))) f).1
arguments_fine (called.Callee.Function g) bs at k true es e f = absurd (let wrong : false ≡ true = e in cc)
arguments_fine (called.Callee.Modelled m) bs at k true es e f = absurd (let wrong : false ≡ true = e in cc)
arguments_fine called.Callee.Spawn bs at k false es e f = absurd (let wrong : true ≡ false = e in cc)
arguments_fine _ bs at k false es e f = f

-- the call of the text whose parts have these values is the call that is left
pub ready_by : (ns : List ℕ) (b : Agreement) (k j site : ℕ) (es : RawExprTrees) (q : called.Callee) (stays : Bool) (names globals : Rows) (words : List ℕ) → IsAgreement b → AllSourceNames es → is_spawn_by q ≡ stays →
    (q ≡ called.Callee.Spawn → 2 ≡ length (listed (arguments_left stays k es))) → number_at ns j ≡ site → values names globals (exprs_of (in_tree b) (evaluated stays k es)) ≡ Ok words →
    ReadyAlike names globals (ReadyCall site (callee_by q (in_text b) es) words) (call_numbered ns (call_by q (in_tree b) j (listed (arguments_left stays k es))))
ready_by ns b k j site NoExprs called.Callee.Spawn true names globals words agrees source e arity number is = let two = arity refl in absurd (omega (arith, two))
ready_by ns b k j site (And x es) called.Callee.Spawn true names globals words agrees source e arity number is =
    (number, spawned_alike b x agrees source.0, ap (values names globals) (one_value (in_tree b) (listed (arguments_left false k es)) (arity refl)) ∙ is)
ready_by ns b k j site es (called.Callee.Function g) true names globals words agrees source e arity number is = absurd (let wrong : false ≡ true = e in cc)
ready_by ns b k j site es (called.Callee.Modelled m) true names globals words agrees source e arity number is = absurd (let wrong : false ≡ true = e in cc)
ready_by ns b k j site es called.Callee.Spawn false names globals words agrees source e arity number is = absurd (let wrong : true ≡ false = e in cc)
ready_by ns b k j site es _ false names globals words agrees source e arity number is = (number, refl, is)

pub trap_by : (v : ℕ) (b : Agreement) (ls : List RawExprTree) (made : CallTree) (start globals names : Rows) (outcome : Value) → call_parts made ≡ exprs_of (in_tree b) ls → ArePartsLeft v b ls start globals names outcome → IsSideLeft v (Called made) start globals names outcome
trap_by v b ls made start globals names (Ok word) e h = absurd h.is
trap_by v b ls made start globals names (Err trap) e h = record { keeps = h.keeps; is = ap (values names globals) e ∙ h.is }

-- ---- the ends

module _ (program : ProgramTree) (ns : List ℕ) (f : ℕ) (text : Rows) where
  -- the declaration of a call's result, where the call's own parts are left
  module _ (h x v : ℕ) (c : Agreement) (made : CallTree) (start : Rows) (rest : List Item) (less : v ≤ x) (one : width start x ≡ 1) where
    held_outcome : (others later : Rows) (outcome : Value) → IsSideLeft v (Called made) start others later outcome →
        EndsAs program f text false (IsLeft v (New h x c) (used h) start) NoCall rest others later (Simply (DeclareWith x (Called made)) ∷ rest) (of_value outcome)
    held_outcome others later (Ok word) leaf = absurd leaf.is
    held_outcome others later (Err trap) leaf =
        EndsAs.Stopped others later (Simply (DeclareWith x (Called made)) ∷ rest) trap (record {
          stops = λ below.
              stop_step program (at program f below others later (Simply (DeclareWith x (Called made)) ∷ rest)) (record { trap = Some trap; globals = others }) (call_stops program f below others later x trap made rest leaf.is);
        })

    held_call : (others later : Rows) (call : Ready) → IsSideCall v (Called made) start others later call →
        EndsAs program f text false (IsLeft v (New h x c) (used h) start) NoCall rest others later (Simply (DeclareWith x (Called made)) ∷ rest) (Calls call [])
    held_call others later call leaf =
        EndsAs.Within others later (Simply (DeclareWith x (Called made)) ∷ rest) call [] tt
        (record { after = later; x = x; made = made; later = rest; comes = at_once program f text others later (Simply (DeclareWith x (Called made)) ∷ rest); alike = leaf.is })
        (λ word globals.
        EndsAs.Valued globals (with_word later x 0 word) rest word (with_word later x 0 word) (at_once program f text globals (with_word later x 0 word) rest) (record {
          keeps = keeps_on v x start later (with_word later x 0 word) less leaf.keeps (write_keeps x x word later (omega arith));
          is = used_value (in_tree (New h x c)) h x word (with_word later x 0 word) globals (last_variable h x c) (written later x word (leaf.keeps.widths x ∙ one));
        }))

    pub held_ends : {globals : Rows} {items : List Item} {e : Evaluation} → EndsAs program f text true (IsSideLeft v (Called made) start) (IsSideCall v (Called made) start) (Simply (DeclareWith x (Called made)) ∷ rest) globals start items e →
        EndsAs program f text false (IsLeft v (New h x c) (used h) start) NoCall rest globals start items e
    held_ends ends =
        reach_ends program f text false (IsLeft v (New h x c) (used h) start) NoCall rest true (IsSideLeft v (Called made) start) (IsSideCall v (Called made) start) (Simply (DeclareWith x (Called made)) ∷ rest) (λ outer opens. tt) held_outcome held_call ends

  module _ (ds : List Binding) (spawns : KnowsSpawnAlone ds) (gives loop : Bool) where
    -- ---- a call by name

    module _ (n : NameTree) (es : RawExprTrees) (whole : (stays : Bool) → ArgumentsEnd program ns f text ds gives loop stays es) where
      pub side_call_ends : (used_ : Bool) (a : Agreement) (k v site : ℕ) (s : Spot) (globals names : Rows) (rest : List Item) → IsPlaced text names ds a v (arguments_names (is_spawn n) es) s → IsSideSound ns gives loop used_ a k v site (RawCall n es) s →
          EndsAs program f text true (IsSideLeft v (side_left ns s k (RawCall n es)) names) (IsSideCall v (side_left ns s k (RawCall n es)) names) rest globals names (items_of ns s (arguments_before (is_spawn n) k es) rest) (evaluate text globals (deep.expr_of ds site (RawCall n es)))
      side_call_ends used_ a k v site s globals names rest placed sound =
          let stays = is_spawn n in
          let m = arguments_names stays es in
          let c = with_argument_names stays k v es a in
          let t = after s (arguments_before stays k es) in
          let xs = listed (arguments_left stays k es) in
          let place = arguments_stand a k v stays es s placed.place placed.few in
          let ext = arguments_extend stays k v es a in
          let agrees = place.agrees in
          let texts : in_text c ≡ ds = extends_text k v (v + m) a c ext ∙ placed.text_names in
          let q = callee_of (find n.text (in_tree c)) in
          let same : callee_of (find n.text ds) ≡ q = ap (λ bs. callee_of (find n.text bs)) (sym texts) ∙ callee_alike c n.text agrees sound.source.0 in
          let spawning : is_spawn_by q ≡ stays = ap is_spawn_by (sym same) ∙ spawns n.text in
          let faults = both_none (call_name_faults used_ (find n.text (in_tree c)) n.at (length xs)) (arguments_faults q (in_tree c) n.at xs) sound.left_fine in
          let arity : q ≡ called.Callee.Spawn → 2 ≡ length xs = λ e. spawn_arity used_ (find n.text (in_tree c)) n.at (length xs) e faults.0 in
          let made = call_numbered ns (call_by q (in_tree c) t.site xs) in
          let left : Called made ≡ side_left ns s k (RawCall n es) = sym (ap (λ bs. Called (call_numbered ns (call_of bs t.site n xs))) place.names) in
          let callee = callee_by q (in_text c) es in
          let is : evaluate_arguments text globals site (callee_by q ds es) [] (deep.arguments_of ds stays (site + 1) es) ≡ evaluate text globals (deep.expr_of ds site (RawCall n es)) =
          sym (λ i. evaluate_arguments text globals site (callee_by (same i) ds es) [] (deep.arguments_of ds (spawns n.text i) (site + 1) es)) in
          let sound_es : AreSound ns gives loop stays a k v (site + 1) es s = record { source = sound.source.1; fine = sound.fine; left_fine = arguments_fine q (in_tree c) n.at k stays es spawning faults.1; sites = sound.sites.0 } in
          let ends = whole stays a k v v (site + 1) site (callee_by q ds es) [] [] s globals names names rest (omega arith) (keeps_all v names) AreSettled.none placed sound_es in
          let Left = ArePartsLeft v c (evaluated stays k es) names in
          let Whole = IsCalled v c (evaluated stays k es) site (callee_by q ds es) names in
          let told = told_ends program f text true Left (IsSideLeft v (Called made) names) Whole (IsSideCall v (Called made) names) rest
          (λ others later outcome leaf. trap_by v c (evaluated stays k es) made names others later outcome (parts_by ns (in_tree c) k t.site es q stays spawning arity) leaf)
          (λ others later call leaf. record {
            keeps = leaf.keeps;
            is =
                subst (λ r. ReadyAlike later others r made) (sym leaf.call_is)
                (subst (λ bs. ReadyAlike later others (ReadyCall site (callee_by q bs es) leaf.words) made) texts
                (ready_by ns c k t.site site es q stays later others leaf.words agrees sound.source.1 spawning arity sound.sites.1 leaf.is));
          }) ends in
          subst (λ ev. EndsAs program f text true (IsSideLeft v (side_left ns s k (RawCall n es)) names) (IsSideCall v (side_left ns s k (RawCall n es)) names) rest globals names (items_of ns s (arguments_before stays k es) rest) ev) is
          (subst (λ r. EndsAs program f text true (IsSideLeft v r names) (IsSideCall v r names) rest globals names (items_of ns s (arguments_before stays k es) rest) (evaluate_arguments text globals site (callee_by q ds es) [] (deep.arguments_of ds stays (site + 1) es))) left told)

      pub call_ends : Evaluates program ns f text ds gives loop (RawCall n es)
      call_ends true may a k v site s globals names rest placed sound = absurd may
      call_ends false may a k v site s globals names rest placed sound =
          let stays = is_spawn n in
          let m = arguments_names stays es in
          let c = with_argument_names stays k v es a in
          let t = after s (arguments_before stays k es) in
          let few = placed.few in
          let less = less_placed text names ds a v (m + 1) m s (omega arith) placed in
          let place = arguments_stand a k v stays es s placed.place less.few in
          let declared = declared_as (k + m) (call_left k n es) in
          let fines = both_fine gives loop s (arguments_before stays k es) (declared ∷ []) sound.fine in
          let call_fine = both_none (declare_faults t (new_name (k + m))) (right_faults t.names (call_left k n es)) (one_fine gives loop t declared fines.1) in
          let sound_call : IsSideSound ns gives loop true a k v site (RawCall n es) s = record {
            source = sound.source;
            fine = fines.0;
            left_fine = ap (λ bs. call_faults true bs n (listed (arguments_left stays k es))) (sym place.names) ∙ call_fine.1;
            sites = sound.sites;
          } in
          let made = call_numbered ns (call_of t.names t.site n (listed (arguments_left stays k es))) in
          let between = Simply (DeclareWith (v + m) (Called made)) ∷ rest in
          let number = below_limit (length t.sizes) (v + m) place.count (omega (arith, few)) in
          let items : items_of ns s (arguments_before stays k es ++ declared ∷ []) rest ≡ items_of ns s (arguments_before stays k es) between =
          items_both ns s (arguments_before stays k es) (declared ∷ []) rest ∙ ap (λ x. items_of ns s (arguments_before stays k es) (Simply (DeclareWith x (Called made)) ∷ rest)) number in
          subst (λ is. EndsAs program f text false (IsLeft v (New (k + m) (v + m) c) (used (k + m)) names) NoCall rest globals names is (evaluate text globals (deep.expr_of ds site (RawCall n es)))) (sym items)
          (held_ends (k + m) (v + m) v c made names rest (omega arith) (placed.wide (v + m) (omega arith) (omega arith)) (side_call_ends true a k v site s globals names between less sound_call))
