-- `deallocate` gives back the room of the words, with the right to do so. Assumes `Logic`.
use Rattle.chunk_pool.proofs.Common.{◌≡◌, ℕ, ◌*◌, ◌^◌, ◌<◌, List, [], ◌∷◌, ◌++◌, length, refl, sym, ap, ◌∙◌, subst, arith, lit<, w64, Ty, Fn, Args, a_type, dcons, dnil, Val, vint, vptr, vunit, inst_fn, SProp, never, id⊢, Lft, Share, ftrue, flft, froom, ty_unit, has_ty, WT, capped_is, Env, WpFn, ◌⊑◌, ⊑_trans, fact, tables, ‵, raw, ◌⊛◌, given, later, prop, at_ret, ◌$◌, ◌∵◌, !, qed, by, move, drop, use1, split, join, group, learn, rewrite, regoal, fsplit, fjoin, flt_l, feq_i, await, whole, sub, stop, fld, lit, unit_lit, of_opd, bin, no_more, and_then, first, blocks, exec, returns, enter, alloc_all, pass_all, free_all, look_at, get, get_in, sets, lands_last, env, RattleType, owns, Ptr, block_ptr, in_a_block, usize, RefOf, yes, param, bounded, plain, types_at, nothing, heard, alive, calls_at_last, Stays, stay_dropped, walk_of, Goes-dropped, Al, seen, Goes-blank, Gives, at_gives, Gives-goes, Gives-Gives, after, fm, proved_at, leaves, words_type, words_own}
use lib.Dec.{T as Is_true}
use Rattle.chunk_pool.specs.contracts.block.Start as start
use Rattle.chunk_pool.specs.contracts.block.Words as words
use Rattle.chunk_pool.specs.contracts.block.Deed as deed
use Rattle.chunk_pool.proofs.Blocks.{start_val, start_told, start_typed, words_val, words_told, deed_val, deed_told, all_room}
use Rattle.chunk_pool.specs.contracts.block.deallocate.{ended, clauses}
use Rattle.chunk_pool.specs.contracts.block.deallocate.Key.{name as #self}
use Rattle.chunk_pool.proofs.block.deallocate.Statement.{statement}
use Rattle.chunk_pool.proofs.block.deallocate.Code as code

pub deallocate_spec : {M : Type 1} → statement M
deallocate_spec 𝓤 𝓛 𝓜 𝓡 wired A L g d dd met md =
    let H = 𝓛.H in
    let T = ended A g d dd in
    let c = clauses A g d dd 𝓛 𝓜.mem 𝓡.returns in
    let args : Args = bounded (a_type ∷ []) (A, tt) (dcons d (dcons dd dnil)) in
    let fn : Fn = inst_fn args code.function in
    let C = (tables 𝓤 H 𝓜 𝓡 𝓡.env).C in
    let Λ = (tables 𝓤 H 𝓜 𝓡 𝓡.env).Λ in
    let Z : RattleType = param 0 A in
    let Dd : RattleType = deed.the_row Z g in
    let handle = RefOf (0 ∷ []) tt (plain (λ _. Z)) (λ _. tt) in
    let stays : Stays T.signature.params T.kept =
    (stay_dropped handle yes, (stay_dropped (plain (λ _. start.the_row)) yes, (stay_dropped (plain (λ _. usize)) yes, (stay_dropped (plain (λ _. words.the_row)) T.kept.1.1.1.0, (stay_dropped (plain (λ _. Dd)) T.kept.1.1.1.1.0, tt))))) in
    proved_at 𝓛 T stays c 𝓜 𝓡
    (Goes-dropped 𝓛 2 handle yes (λ κs x f. refl), (Goes-dropped 𝓛 2 (plain (λ _. start.the_row)) yes (λ κs x f. refl), (Goes-dropped 𝓛 2 (plain (λ _. usize)) yes (λ κs x f. refl), (Goes-blank 𝓛 2 (plain (λ _. words.the_row)) T.kept.1.1.1.0 (λ κs x f. tt), (Goes-blank 𝓛 2 (plain (λ _. Dd)) T.kept.1.1.1.1.0 (λ κs x f. tt), tt)))))
    (#self args) fn (code.unfolded 𝓤 H 𝓜 𝓡 wired (A, tt) d dd) (λ z are.
    let Post : Val → SProp 𝓤 = (walk_of 𝓛 T stays c).post z in
    let a = z.0.3 in
    let vss = z.0.4 in
    let Y : Al = record { row = A; laws = L; g = g; d = d; drops = dd } in
    let κ : Lft = z.0.0.0 in
    let q : Share = z.0.1.0 in
    let h = a.0.now in
    let at = a.0.ref_ptr in
    let p = a.1.0.at in
    let n = a.1.1.0 in
    let w = a.1.1.1.0 in
    let k = a.1.1.1.1.0 in
    let τ : Ty = words_type n in
    let fits : n < 2 ^ 64 = are.1.1.0.1 in
    let Asked : Type 0 = (w.at ≡ p) × (length w.items ≡ n) × (w.spare ≡ 0) × (k.at ≡ p) × (k.len ≡ n) × (k.alloc ≡ h) in
    qed 𝓛 ((raw (alive 𝓛 T.signature z.0.0 z.0.1) ⊛ ‵ (owns (types_at T.signature.params z.0.0) a vss)) ∷ (raw (fact 𝓤 (z.0.0.1.0 ⊑ A.lives)) ⊛ raw (fact 𝓤 Asked)) ∷ []) ∵
    move ! (1 ∷ []) $ split ! $ heard ! (z.0.0.1.0 ⊑ A.lives) (λ le. heard ! Asked (λ asked. split ! $ move ! (1 ∷ []) $
    fsplit ! $ fsplit ! $ drop ! $ use1 𝓛 (‵ (seen Y κ at h)) (id⊢ 𝓤 _) $ move ! (2 ∷ []) $
    use1 𝓛 (‵ (flft κ q) ⊛ ‵ (flft z.0.0.1.0 z.0.1.1.0) ⊛ ‵ ftrue) (id⊢ 𝓤 _) $ split ! $ move ! (3 ∷ []) $
    -- [the other parameters; the token; the other tokens; the `&`]
    fsplit ! $ drop ! $ fsplit ! $ drop ! $ fsplit ! $ fsplit ! $ drop ! $
    in_a_block ! w.at (λ r. words_own r w.items w.spare) (id⊢ 𝓤 (never 𝓤)) (λ b o e. fsplit ! $ flt_l ! (λ small. fsplit ! $ move ! (1 ∷ []) $ drop ! $
    -- [the words; the deed; the token; the other tokens; the `&`]
    use1 𝓛 (‵ (froom (words_type (length w.items)) b o)) (all_room 𝓛 w.items b o) $ rewrite ! 0 (λ (m : ℕ). ‵ (froom (words_type m) b o)) asked.1 refl $
    let bytes : n * 4 < 2 ^ 64 = omega (arith, asked.1) in let is : p ≡ block_ptr b o = sym asked.0 ∙ e in
    move ! (1 ∷ []) $ fsplit ! $ fsplit ! $ drop ! $ move ! (1 ∷ []) $ drop ! $
    rewrite ! 0 (λ (u : A.Denot × ℕ × Ptr). ‵ (g.dealloc_token u.0 (words_type u.1) u.2)) (λ i. (asked.5 i, asked.4 i, (asked.3 ∙ is) i)) refl $
    -- [the right to free it; the room; the token; the other tokens; the `&`]
    move ! (1 ∷ 0 ∷ 4 ∷ 2 ∷ []) $
    let y = at_gives Y 𝓛 𝓜.mem 𝓡.returns κ q at h b o (n * 4) 4 τ in
    regoal ! (λ (us : List Val). prop (WpFn 𝓤 H C Λ fn us Post))
    (λ i. are.0.0 i ++ ((start_told p vss.1.0 are.1.0 ∙ ap (λ (r : Ptr). start_val r ∷ []) is) i ++ (are.1.1.0.0 i ++ (words_told vss.1.1.1.0 are.1.1.1.0.0 i ++ (deed_told vss.1.1.1.1.0 are.1.1.1.1.0.0 i ++ []))))) refl $
    enter ! C Λ fn (vptr at.0 at.1 ∷ start_val (block_ptr b o) ∷ vint w64 n ∷ words_val ∷ deed_val ∷ []) Post $
    alloc_all ! (λ l. pass_all ! refl ((tt, tt), (start_typed [] (block_ptr b o), ((tt, record { fits = fits }), ((tt, tt), ((tt, (tt, tt)), tt))))) $ let En : Env 𝓤 𝓛.H = env fn.locals l in
    first ! $ blocks ! $
    sets ! (of_opd ! (get_in ! (fld ! refl (stop !)) (sub ! 0 refl (whole !)))) refl (tt, tt) $
    sets ! (bin ! (get ! refl) (lit ! tt) (record { fits = bytes })) refl (tt, record { fits = bytes }) $
    group ! 4 $ use1 𝓛 (raw ((Gives Y 𝓛 𝓜.mem 𝓡.returns).pre y)) (Gives-goes Y 𝓛 𝓜.mem 𝓡.returns κ q at h (⊑_trans κ z.0.0.1.0 A.lives z.0.2.0 le) b o (n * 4) 4 τ (capped_is (n * 4) bytes) refl bytes (lit< tt)) $
    calls_at_last ! (fm 𝓛 𝓜 𝓡) (Gives Y 𝓛 𝓜.mem 𝓡.returns) (met.deallocate dd) y (and_then ! (get ! refl) (and_then ! (get ! refl) (and_then ! (get ! refl) (and_then ! (lit ! tt) (no_more !))))) (λ v.
    use1 𝓛 (later (given (v ≡ vunit) (‵ (flft κ q)))) (Gives-Gives Y 𝓛 𝓜.mem 𝓡.returns κ q at h b o (n * 4) 4 τ v) $ await ! tt $ learn ! (λ over. join ! $
    lands_last ! refl (subst (λ (u : Val). Is_true (has_ty ty_unit u) × WT u) (sym over) (tt, tt)) $
    exec ! C Λ En (after 1 fn.body) (at_ret En Post) $ sets ! (of_opd ! (unit_lit !)) refl (tt, tt) $
    returns ! (look_at ! 0 refl) $ free_all ! refl $
    feq_i ! (List Val) (vunit ∷ []) (vunit ∷ []) refl $ nothing ! $ nothing ! $ nothing ! $ fjoin ! $ nothing ! $ fjoin ! $ nothing ! $ fjoin ! $ nothing ! $ fjoin ! $ nothing ! $ fjoin ! $ move ! (3 ∷ 0 ∷ 2 ∷ 1 ∷ []) $
    by ! (leaves 𝓛 T stays c z vunit tt (tt, (tt, (tt, (tt, (tt, tt))))) (tt, (tt, (tt, (tt, (tt, tt))))))))))))))
