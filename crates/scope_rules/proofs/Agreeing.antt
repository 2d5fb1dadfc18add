-- Items that agree up to the limit of calls agree after one more.
use Rattle.scope_rules.proofs.Common.{◌≡◌, ◌≤◌, refl, true, false, List, [], ◌∷◌, ◌++◌, length, length-append, arith, RawItemTree, RawGlobal, RawGlobalArray, RawTableItem, RawPrototypeItem, RawFunctionItem, capped, Meaning, Binding, find, bound, stmts_after, Sofar, definitions, at_start, is_defined, with_function, members_of, body_spot, function_left, function_tree_of, item_faults, item_after, items_after, Agrees}
use Rattle.scope_rules.proofs.Growth.{stmts_grown}
use Rattle.scope_rules.proofs.Programs.{body_site}
use Rattle.scope_rules.proofs.Sites.{items_numbered}

-- the number of the next site is at most 65,537
pub few_sites : (all read : List RawItemTree) → (items_after (definitions all) at_start read).spot.site ≤ 65537
few_sites all read = let n = (items_numbered (definitions all) at_start read (record { site = refl; rise = λ h. tt })).site in omega (arith, n)

-- a body is within the limit of calls only if the items before it are
pub fewer_before : (defs : List Binding) (w : Sofar) (i : RawItemTree) → w.spot.site ≤ 65537 → (item_after defs w i).spot.site ≤ 65535 → w.spot.site ≤ 65535
fewer_before defs w (RawFunctionItem gives n params body) f h =
    let b = body_spot defs w.spot gives n params in
    let same : b.site ≡ w.spot.site = body_site defs w.spot gives n params in
    let few : b.site ≤ 65537 = omega (arith, same, f) in
    let grown = (stmts_grown b body).site few in
    omega (arith, same, grown, h)
fewer_before defs w _ f h = h

pub agrees : (w : Sofar) → Agrees w w
agrees w = record { spot = refl; globals = refl; tables = refl; count = refl; functions = λ h. refl }

pub agrees_item : (defs : List Binding) (w v : Sofar) (i : RawItemTree) → v.spot.site ≤ 65537 → Agrees w v → Agrees (item_after defs w i) (item_after defs v i)
agrees_item defs w v (RawGlobal n start) f h = record {
  spot = λ k. record (h.spot k) { names = bound (h.spot k).names n.text (Meaning.Global (capped (length (h.globals k))) false) };
  globals = λ k. h.globals k ++ record { words = 1; start = start } ∷ [];
  tables = h.tables;
  count = h.count;
  functions = h.functions;
}
agrees_item defs w v (RawGlobalArray n size) f h = record {
  spot = λ k. record (h.spot k) { names = bound (h.spot k).names n.text (Meaning.Global (capped (length (h.globals k))) true) };
  globals = λ k. h.globals k ++ record { words = size; start = 0 } ∷ [];
  tables = h.tables;
  count = h.count;
  functions = h.functions;
}
agrees_item defs w v (RawTableItem n size members) f h = record {
  spot = λ k. record (h.spot k) { names = bound (h.spot k).names n.text (Meaning.Table (capped (length (h.tables k)))) };
  globals = h.globals;
  tables = λ k. h.tables k ++ members_of (h.spot k).names members ∷ [];
  count = h.count;
  functions = h.functions;
}
agrees_item defs w v (RawPrototypeItem gives n params) f h = record {
  spot = λ k. record (h.spot k) { names = with_function defs (h.spot k).names gives n (length params) (is_defined (find n.text (h.spot k).names)) };
  globals = h.globals;
  tables = h.tables;
  count = h.count;
  functions = h.functions;
}
agrees_item defs w v (RawFunctionItem gives n params body) f h = record {
  spot = λ k. function_left (h.spot k) (with_function defs (h.spot k).names gives n (length params) true) (stmts_after (body_spot defs (h.spot k) gives n params) body);
  globals = h.globals;
  tables = h.tables;
  count =
      let a = length-append w.functions (function_tree_of (body_spot defs w.spot gives n params) gives n params body ∷ []) in
      let b = length-append v.functions (function_tree_of (body_spot defs v.spot gives n params) gives n params body ∷ []) in
      let c = h.count in
      omega (arith, a, b, c);
  functions = λ g.
      let same = h.functions (fewer_before defs v (RawFunctionItem gives n params body) f g) in
      λ k. same k ++ function_tree_of (body_spot defs (h.spot k) gives n params) gives n params body ∷ [];
}

-- the rules that an item breaks are the same
pub same_faults : (defs : List Binding) (w v : Sofar) (i : RawItemTree) → w.spot ≡ v.spot → item_faults defs w i ≡ item_faults defs v i
same_faults defs w v (RawGlobal n start) e = λ k. item_faults defs (record v { spot = e k }) (RawGlobal n start)
same_faults defs w v (RawGlobalArray n size) e = λ k. item_faults defs (record v { spot = e k }) (RawGlobalArray n size)
same_faults defs w v (RawTableItem n size members) e = λ k. item_faults defs (record v { spot = e k }) (RawTableItem n size members)
same_faults defs w v (RawPrototypeItem gives n params) e = λ k. item_faults defs (record v { spot = e k }) (RawPrototypeItem gives n params)
same_faults defs w v (RawFunctionItem gives n params body) e = λ k. item_faults defs (record v { spot = e k }) (RawFunctionItem gives n params body)
