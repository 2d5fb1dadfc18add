-- `write` writes one word of a block. Assumes `Logic`.
use Rattle.chunk_pool.proofs.Common.{◌≡◌, ℕ, ◌+◌, ◌*◌, ◌^◌, ◌<◌, List, [], ◌∷◌, ◌++◌, length, set, refl, sym, ◌∙◌, subst, arith, length-set, w64, w32, full_share, SProp, never, id⊢, ftrue, fat, flft, froom, Val, vptr, vint, vunit, fact, tables, Env, WpFn, ‵, raw, ◌⊛◌, prop, at_ret, ◌$◌, ◌∵◌, !, qed, move, keep, use1, use2, split, join, rewrite, regoal, fsplit, fsplit3, fjoin, fjoin3, flt_l, flt_i, feq_i, suffices, frame, done, whole, sub, store, stop, fld, lit, unit_lit, of_opd, bin, assigns_last, first, blocks, exec, returns, enter, alloc_all, pass_all, free_all, look_at, get, get_in, take_at, give_at, through, sets, env, u32, usize, yes, row, layout, owns, Ptr, in_a_block, plain, types_at, nothing, heard, opens, closes, Stays, says, stay_dropped, stay_ref, walk_of, ends_at, Goes-dropped, Goes-ref, after, proved_at, words_own, words_type}
use Rattle.chunk_pool.specs.contracts.block.Words as words
use Rattle.chunk_pool.specs.contracts.block.Start as start
use Rattle.chunk_pool.proofs.Blocks.{start_val, start_told, start_typed, word_at, rest, word_out, word_in}
use Rattle.chunk_pool.specs.contracts.block.Words.write as f
use Rattle.chunk_pool.proofs.block.Words.write.Statement.{statement}
use Rattle.chunk_pool.proofs.block.Words.write.Code as code

abbrev stayed : Stays f.ended.signature.params f.ended.kept
stayed = (stay_ref (0 ∷ []) tt (plain (λ _. words.the_row)), (stay_dropped (plain (λ _. start.the_row)) yes, (stay_dropped (plain (λ _. usize)) yes, (stay_dropped (plain (λ _. u32)) yes, tt))))

pub write_spec : {M : Type 1} → statement M
write_spec 𝓤 𝓛 𝓜 𝓡 wired =
    let c = f.clauses 𝓛 𝓜.mem 𝓡.returns in let W = walk_of 𝓛 f.ended stayed c in let 𝓣 = tables 𝓤 𝓛.H 𝓜 𝓡 𝓡.env in
    proved_at 𝓛 f.ended stayed c 𝓜 𝓡
    (Goes-ref 𝓛 1 0 tt (plain (λ _. words.the_row)), (Goes-dropped 𝓛 1 (plain (λ _. start.the_row)) yes (λ κs x w. refl), (Goes-dropped 𝓛 1 (plain (λ _. usize)) yes (λ κs x w. refl), (Goes-dropped 𝓛 1 (plain (λ _. u32)) yes (λ κs x w. refl), tt))))
    f.Key.name code.function (code.unfolded 𝓤 𝓛.H 𝓜 𝓡 wired)
    (λ z are.
    let κ = z.0.0.0 in let q = z.0.1.0 in let a = z.0.3 in let vss = z.0.4 in let d = a.0.now in let at = a.1.0.at in let i = a.1.1.0 in let x = a.1.1.1.0 in
    let rb = a.0.ref_ptr.0 in let ro = a.0.ref_ptr.1 in let fi = are.1.1.0.1 in let fx = are.1.1.1.0.1 in
    let Asked : Type 0 = (at ≡ d.at) × (i < length d.items) in
    let new : (words.the_row).Denot = record { at = d.at; items = set d.items i x; spare = d.spare } in
    let Post : Val → SProp 𝓤 = W.post z in
    qed 𝓛 (((‵ (flft κ q) ⊛ ‵ ftrue) ⊛ ‵ (owns (types_at f.ended.signature.params z.0.0) a vss)) ∷ raw (fact 𝓤 Asked) ∷ []) ∵
    move ! (1 ∷ []) $ heard ! Asked (λ asked. split ! $ split ! $ move ! (2 ∷ []) $ fsplit ! $ keep ! (0 ∷ 2 ∷ []) $
    regoal ! (λ (us : List Val). prop (WpFn 𝓤 𝓛.H 𝓣.C 𝓣.Λ code.function us Post)) (λ j. are.0.0 j ++ (start_told at vss.1.0 are.1.0 j ++ (are.1.1.0.0 j ++ (are.1.1.1.0.0 j ++ [])))) refl $
    enter ! 𝓣.C 𝓣.Λ code.function (vptr rb ro ∷ start_val at ∷ vint w64 i ∷ vint w32 x ∷ []) Post $
    alloc_all ! (λ l. pass_all ! refl ((tt, tt), (start_typed [] at, ((tt, record { fits = fi }), ((tt, record { fits = fx }), tt)))) $
    let En : Env 𝓤 𝓛.H = env (code.function).locals l in
    fsplit3 ! $ move ! (1 ∷ 2 ∷ 3 ∷ []) $ opens ! tt words.the_row {h = d} rb ro (λ vs. move ! (1 ∷ []) $ fsplit ! $ move ! (1 ∷ []) $
    in_a_block ! d.at (λ p. words_own p d.items d.spare) (id⊢ 𝓤 (never 𝓤)) (λ b o e. fsplit ! $ flt_l ! (λ small. fsplit ! $
    let far : i * 4 < 2 ^ 64 = omega (arith, asked.1) in
    take_at ! 2 $ rewrite ! 0 (λ (p : Ptr). ‵ (fat full_share (layout start.the_row) (l 2) 0 (start_val p))) (asked.0 ∙ e) refl $ give_at ! 2 $
    -- [the words; the room; what the fields own; the cell; the open borrow, in three entries; the reference's value]
    use1 𝓛 (‵ (word_at 𝓛 b (i * 4 + o) (lib.ListN.get_or d.items i 0)) ⊛ ‵ (rest 𝓛 d.items i b o)) (word_out 𝓛 d.items i b o asked.1) $ split ! $
    first ! $ blocks ! $
    sets ! (bin ! (get ! refl) (lit ! tt) (record { fits = far })) refl (tt, record { fits = far }) $
    sets ! (bin ! (get_in ! (fld ! refl (stop !)) (sub ! 0 refl (whole !))) (get ! refl) tt) refl (tt, tt) $
    assigns_last ! (of_opd ! (get ! refl)) (through ! refl (stop !)) (store ! 0 refl (tt, record { fits = fx })) $
    exec ! 𝓣.C 𝓣.Λ En (after 1 (code.function).body) (at_ret En Post) $ sets ! (of_opd ! (unit_lit !)) refl (tt, tt) $
    use2 𝓛 (‵ (row u32 full_share new.items b o)) (word_in 𝓛 d.items i x b o asked.1) $
    let same : length d.items ≡ length new.items = sym (length-set d.items i x) in
    move ! (1 ∷ []) $ rewrite ! 0 (λ (n : ℕ). ‵ (froom (words_type d.spare) b (n * 4 + o))) same refl $ move ! (1 ∷ 0 ∷ []) $ fjoin ! $
    flt_i ! ((length new.items + d.spare) * 4) (2 ^ 63) (subst (λ (n : ℕ). (n + d.spare) * 4 < 2 ^ 63) same small) $ fjoin ! $
    rewrite ! 0 (λ (p : Ptr). ‵ (words_own p new.items d.spare)) (sym e) refl $ move ! (1 ∷ 0 ∷ []) $ fjoin ! $ move ! (1 ∷ 0 ∷ []) $ closes ! tt words.the_row new vs rb ro $
    returns ! (look_at ! 0 refl) $ free_all ! refl $ keep ! (0 ∷ 1 ∷ 2 ∷ []) $ feq_i ! (List Val) (vunit ∷ []) (vunit ∷ []) refl $ move ! (1 ∷ 2 ∷ 3 ∷ 0 ∷ []) $
    suffices ! _ (ends_at 𝓛 f.ended stayed c z vunit tt (new, (tt, (tt, (tt, tt)))) (tt, (tt, (tt, (tt, tt))))) $ says ! (refl, refl, refl) $
    nothing ! $ move ! (3 ∷ 0 ∷ []) $ join ! $ frame ! $ feq_i ! (List Val) vss.0 (vptr rb ro ∷ []) are.0.0 $ fjoin3 ! $ nothing ! $ nothing ! $ fjoin ! $ nothing ! $ fjoin ! $ nothing ! $ fjoin ! $ move ! (1 ∷ 0 ∷ []) $ fjoin ! $ done !))))))
