-- `slice` shows a run of the words. Assumes `Logic`.
use lib.ListN.{drop as drop_first}
use Rattle.chunk_pool.proofs.Common.{◌≡◌, ℕ, ◌+◌, ◌*◌, ◌^◌, ◌<◌, ◌≤◌, List, [], ◌∷◌, ◌++◌, length, take, refl, sym, ◌∙◌, ap, arith, length-take, length-drop, w64, full_share, SProp, never, id⊢, ftrue, fat, flft, Val, vptr, vint, fact, tables, Env, WpFn, ‵, raw, ◌⊛◌, prop, at_ret, ◌$◌, ◌∵◌, !, qed, move, keep, drop, use1, split, join, rewrite, regoal, fsplit, fjoin, flt_l, flt_i, feq_i, suffices, frame, done, whole, sub, agg, stop, fld, lit, of_opd, and_then, no_more, bin, first, blocks, exec, returns, enter, alloc_all, pass_all, free_all, look_at, get, get_in, take_at, give_at, sets, sets_last, env, u32, usize, RefOf, yes, layout, owns, Ptr, in_a_block, plain, types_at, elements_shared, slice_val, nothing, heard, Stays, says, stay_dropped, walk_of, ends_at, Goes-dropped, after, proved_at, words_lent}
use denote.Opens.{hide, unhide}
use Rattle.chunk_pool.specs.contracts.block.Words as words
use Rattle.chunk_pool.specs.contracts.block.Start as start
use Rattle.chunk_pool.proofs.Blocks.{start_val, start_told, start_typed, seen_run}
use Rattle.chunk_pool.specs.contracts.block.Words.slice as f
use Rattle.chunk_pool.proofs.block.Words.slice.Statement.{statement}
use Rattle.chunk_pool.proofs.block.Words.slice.Code as code

abbrev stayed : Stays f.ended.signature.params f.ended.kept
stayed = (stay_dropped (RefOf (0 ∷ []) tt (plain (λ _. words.the_row)) (λ _. tt)) yes, (stay_dropped (plain (λ _. start.the_row)) yes, (stay_dropped (plain (λ _. usize)) yes, (stay_dropped (plain (λ _. usize)) yes, tt))))

pub slice_spec : {M : Type 1} → statement M
slice_spec 𝓤 𝓛 𝓜 𝓡 wired =
    let c = f.clauses 𝓛 𝓜.mem 𝓡.returns in let W = walk_of 𝓛 f.ended stayed c in let 𝓣 = tables 𝓤 𝓛.H 𝓜 𝓡 𝓡.env in
    proved_at 𝓛 f.ended stayed c 𝓜 𝓡
    (Goes-dropped 𝓛 1 (RefOf (0 ∷ []) tt (plain (λ _. words.the_row)) (λ _. tt)) yes (λ κs x w. refl), (Goes-dropped 𝓛 1 (plain (λ _. start.the_row)) yes (λ κs x w. refl), (Goes-dropped 𝓛 1 (plain (λ _. usize)) yes (λ κs x w. refl), (Goes-dropped 𝓛 1 (plain (λ _. usize)) yes (λ κs x w. refl), tt))))
    f.Key.name code.function (code.unfolded 𝓤 𝓛.H 𝓜 𝓡 wired)
    (λ z are.
    let κ = z.0.0.0 in let q = z.0.1.0 in let a = z.0.3 in let vss = z.0.4 in let d = a.0.now in let at = a.1.0.at in let from = a.1.1.0 in let len = a.1.1.1.0 in
    let rb = a.0.ref_ptr.0 in let ro = a.0.ref_ptr.1 in let f_from = are.1.1.0.1 in let f_len = are.1.1.1.0.1 in
    let Asked : Type 0 = (at ≡ d.at) × (from + len ≤ length d.items) in
    let run : List ℕ = take len (drop_first from d.items) in
    let Post : Val → SProp 𝓤 = W.post z in
    qed 𝓛 (((‵ (flft κ q) ⊛ ‵ ftrue) ⊛ ‵ (owns (types_at f.ended.signature.params z.0.0) a vss)) ∷ raw (fact 𝓤 Asked) ∷ []) ∵
    move ! (1 ∷ []) $ heard ! Asked (λ asked. split ! $ split ! $ move ! (2 ∷ []) $ fsplit ! $ fsplit ! $ keep ! (1 ∷ 3 ∷ []) $
    regoal ! (λ (us : List Val). prop (WpFn 𝓤 𝓛.H 𝓣.C 𝓣.Λ code.function us Post)) (λ j. are.0.0 j ++ (start_told at vss.1.0 are.1.0 j ++ (are.1.1.0.0 j ++ (are.1.1.1.0.0 j ++ [])))) refl $
    enter ! 𝓣.C 𝓣.Λ code.function (vptr rb ro ∷ start_val at ∷ vint w64 from ∷ vint w64 len ∷ []) Post $
    alloc_all ! (λ l. pass_all ! refl ((tt, tt), (start_typed [] at, ((tt, record { fits = f_from }), ((tt, record { fits = f_len }), tt)))) $
    let En : Env 𝓤 𝓛.H = env (code.function).locals l in
    -- [what the `&` shows; the token]
    unhide ! $ fsplit ! $ drop ! $ in_a_block ! d.at (λ p. words_lent p d.items d.spare κ) (id⊢ 𝓤 (never 𝓤)) (λ b o e. fsplit ! $ flt_l ! (λ small.
    let far : from * 4 < 2 ^ 64 = omega (arith, asked.1) in
    let long : length run ≡ len = omega (arith, asked.1, length-take len (drop_first from d.items), length-drop from d.items) in
    let place : ℕ × ℕ = (b, from * 4 + o) in
    take_at ! 2 $ rewrite ! 0 (λ (p : Ptr). ‵ (fat full_share (layout start.the_row) (l 2) 0 (start_val p))) (asked.0 ∙ e) refl $ give_at ! 2 $
    first ! $ blocks ! $
    sets ! (bin ! (get ! refl) (lit ! tt) (record { fits = far })) refl (tt, record { fits = far }) $
    sets ! (bin ! (get_in ! (fld ! refl (stop !)) (sub ! 0 refl (whole !))) (get ! refl) tt) refl (tt, tt) $
    use1 𝓛 (‵ (elements_shared u32 run b (from * 4 + o) κ)) (seen_run 𝓛 κ b d.items from len o) $ hide ! $
    sets_last ! (agg ! (and_then ! (get ! refl) (and_then ! (get ! refl) (no_more !)))) refl (tt, (tt, (record { fits = f_len }, tt))) $
    exec ! 𝓣.C 𝓣.Λ En (after 1 (code.function).body) (at_ret En Post) $ sets ! (of_opd ! (get ! refl)) refl (tt, (tt, (record { fits = f_len }, tt))) $
    flt_i ! (length run * 4) (2 ^ 63) (omega (arith, long, asked.1)) $ flt_i ! (length run) (2 ^ 64) (omega (arith, long)) $ fjoin ! $
    feq_i ! (List Val) (slice_val place len ∷ []) (slice_val place (length run) ∷ []) (ap (λ (n : ℕ). slice_val place n ∷ []) (sym long)) $ fjoin ! $ fjoin ! $
    returns ! (look_at ! 0 refl) $ free_all ! refl $ keep ! (1 ∷ 0 ∷ []) $
    suffices ! _ (ends_at 𝓛 f.ended stayed c z (slice_val place len) (record { ref_ptr = place; now = run }) (tt, (tt, (tt, (tt, tt)))) (tt, (tt, (tt, (tt, tt))))) $ says ! refl $
    nothing ! $ move ! (1 ∷ 0 ∷ []) $ join ! $ frame ! $ nothing ! $ nothing ! $ fjoin ! $ nothing ! $ fjoin ! $ nothing ! $ fjoin ! $ nothing ! $ fjoin ! $ done !)))))
