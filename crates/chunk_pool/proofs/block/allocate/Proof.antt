-- `allocate` asks for room, which its owner holds beside the deed. Assumes `Logic`.
use Rattle.chunk_pool.proofs.Common.{◌≡◌, ℕ, ◌+◌, ◌*◌, ◌^◌, ◌<◌, List, [], ◌∷◌, ◌++◌, refl, arith, lit<, w64, Ok, Err, true, false, Ty, Fn, Args, a_type, dcons, dnil, Val, vint, vptr, vcons, vnil, vstruct, inst_fn, SProp, emp, id⊢, Lft, Share, ftrue, flft, froom, capped_is, Env, WpFn, ◌⊑◌, ⊑_trans, fact, fact_i, tables, ‵, raw, ◌⊛◌, later, prop, at_ret, ◌$◌, ◌∵◌, !, qed, by, move, drop, use0, use1, use2, use3, split, join, regoal, rewrite, fsplit, fjoin, flt_i, await, whole, agg, stop, fld, lit, of_opd, bin, no_more, and_then, first, switches_on, exec, returns, enter, alloc_all, pass_all, free_all, look_at, get, get_in, get_tag, sets, sets_last, lands_as, env, RattleType, owns, Ptr, block_ptr, param, bounded, layout, types_at, type_at, plain, usize, RefOf, yes, nothing, heard, owned, Struct, Struct-Makes, Tuple, alive, calls_at, Stays, stay_dropped, walk_of, Goes-dropped, Al, seen, Answer-typed, Takes, at_takes, Answered, Takes-goes, Takes-gives, answers, after, head, arm_body, fm, Good, proved_at, leaves, Wp, after_seq, at_return, words_type}
use types.Match.{live, vrt, in_variant}
use denote.Laws.{Is}
use denote.Struct.Declared as Declared
use Rattle.core.specs.contracts.alloc.AllocError as refusal
use Rattle.std_alloc.proofs.ResultValues.{ok_of, err_of}
use Rattle.std_alloc.proofs.RcSteps.{first_Good}
use types.Kit.{Post as After, any_q}
use Rattle.chunk_pool.specs.contracts.block.Start as start
use Rattle.chunk_pool.specs.contracts.block.Words as words
use Rattle.chunk_pool.specs.contracts.block.Deed as deed
use Rattle.chunk_pool.proofs.Blocks.{start_val, start_own, start_made, start_typed, words_val, words_data, words_made, deed_val, deed_data, deed_made, made_val, made_of}
use Rattle.chunk_pool.specs.contracts.block.allocate.{ended, clauses}
use Rattle.chunk_pool.specs.contracts.block.allocate.Key.{name as #self}
use Rattle.chunk_pool.proofs.block.allocate.Statement.{statement}
use Rattle.chunk_pool.proofs.block.allocate.Code as code

pub allocate_spec : {M : Type 1} → statement M
allocate_spec 𝓤 𝓛 𝓜 𝓡 wired A L g d dd met md =
    let H = 𝓛.H in
    let T = ended A g d dd in
    let c = clauses A g d dd 𝓛 𝓜.mem 𝓡.returns in
    let args : Args = bounded (a_type ∷ []) (A, tt) (dcons d (dcons dd dnil)) in
    let fn : Fn = inst_fn args code.function in
    let C = (tables 𝓤 H 𝓜 𝓡 𝓡.env).C in
    let Λ = (tables 𝓤 H 𝓜 𝓡 𝓡.env).Λ in
    let Z : RattleType = param 0 A in
    let handle = RefOf (0 ∷ []) tt (plain (λ _. Z)) (λ _. tt) in
    let stays : Stays T.signature.params T.kept = (stay_dropped handle yes, (stay_dropped (plain (λ _. usize)) yes, tt)) in
    proved_at 𝓛 T stays c 𝓜 𝓡 (Goes-dropped 𝓛 2 handle yes (λ κs x f. refl), (Goes-dropped 𝓛 2 (plain (λ _. usize)) yes (λ κs x f. refl), tt))
    (#self args) fn (code.unfolded 𝓤 H 𝓜 𝓡 wired (A, tt) d dd) (λ z are.
    let Post : Val → SProp 𝓤 = (walk_of 𝓛 T stays c).post z in
    let a = z.0.3 in
    let vss = z.0.4 in
    let Y : Al = record { row = A; laws = L; g = g; d = d; drops = dd } in
    let κ : Lft = z.0.0.0 in
    let q : Share = z.0.1.0 in
    let h = a.0.now in
    let at = a.0.ref_ptr in
    let n = a.1.0 in
    let τ : Ty = words_type n in
    let y = at_takes Y 𝓛 𝓜.mem 𝓡.returns κ q at h (n * 4) 4 τ in
    let Dd : RattleType = deed.the_row Z g in
    let Three : RattleType = Tuple (start.the_row ∷ words.the_row ∷ Dd ∷ []) in
    let Out : RattleType = type_at T.signature.result z.0.0 in
    let Asked : Type 0 = n < 2 ^ 60 in
    qed 𝓛 ((raw (alive 𝓛 T.signature z.0.0 z.0.1) ⊛ ‵ (owns (types_at T.signature.params z.0.0) a vss)) ∷ (raw (fact 𝓤 (z.0.0.1.0 ⊑ A.lives)) ⊛ raw (fact 𝓤 Asked)) ∷ []) ∵
    move ! (1 ∷ []) $ split ! $ heard ! (z.0.0.1.0 ⊑ A.lives) (λ le. heard ! Asked (λ asked. split ! $ move ! (1 ∷ []) $
    fsplit ! $ fsplit ! $ drop ! $ move ! (1 ∷ []) $ drop ! $ use1 𝓛 (‵ (seen Y κ at h)) (id⊢ 𝓤 _) $ move ! (1 ∷ []) $
    use1 𝓛 (‵ (flft κ q) ⊛ ‵ (flft z.0.0.1.0 z.0.1.1.0) ⊛ ‵ ftrue) (id⊢ 𝓤 _) $ split ! $ move ! (2 ∷ 0 ∷ []) $
    let bytes : n * 4 < 2 ^ 64 = omega (arith, asked) in
    regoal ! (λ (us : List Val). prop (WpFn 𝓤 H C Λ fn us Post)) (λ i. are.0.0 i ++ (are.1.0.0 i ++ [])) refl $
    enter ! C Λ fn (vptr at.0 at.1 ∷ vint w64 n ∷ []) Post $
    alloc_all ! (λ l. pass_all ! refl ((tt, tt), ((tt, record { fits = are.1.0.1 }), tt)) $ let En : Env 𝓤 𝓛.H = env fn.locals l in
    let Then : After 𝓤 H = any_q (after_seq 𝓤 H (Wp 𝓤 H C Λ En (after 3 fn.body) (at_return 𝓤 H En Post)) (at_return 𝓤 H En Post)) in
    -- [the `&`; its token; the other tokens]
    sets ! (bin ! (get ! refl) (lit ! tt) (record { fits = bytes })) refl (tt, record { fits = bytes }) $
    use2 𝓛 (raw ((Takes Y 𝓛 𝓜.mem 𝓡.returns).pre y)) (Takes-goes Y 𝓛 𝓜.mem 𝓡.returns κ q at h (⊑_trans κ z.0.0.1.0 A.lives z.0.2.0 le) (n * 4) 4 τ (capped_is (n * 4) bytes) refl bytes (lit< tt)) $
    calls_at ! (fm 𝓛 𝓜 𝓡) (Takes Y 𝓛 𝓜.mem 𝓡.returns) (met.allocate dd) y (and_then ! (get ! refl) (and_then ! (get ! refl) (and_then ! (lit ! tt) (no_more !)))) (λ v.
    use1 𝓛 (later (raw (Answered Y 𝓛 𝓜.mem 𝓡.returns h τ v) ⊛ ‵ (flft κ q))) (Takes-gives Y 𝓛 𝓜.mem 𝓡.returns κ q at h (n * 4) 4 τ v) $ await ! tt $ split ! $
    answers Y ! 𝓜.mem 𝓡.returns h τ v
    (λ b o e.
    let p : Ptr = block_ptr b o in
    let made : Val = made_val p in
    let typed : Good (layout Three) made = (tt, ((tt, tt), (tt, ((tt, tt), tt)))) in
    let ok = first_Good (layout Three) made typed in
    move ! (2 ∷ 3 ∷ []) $ join ! $ move ! (1 ∷ 2 ∷ []) $ lands_as ! e refl (Answer-typed true b o) $
    first ! $ switches_on ! (get_tag ! (vrt ! refl (fld ! refl (stop !))) (whole !)) $ exec ! C Λ En (arm_body 0 (head (after 2 fn.body))) Then $
    sets ! (of_opd ! (get_in ! (vrt ! refl (fld ! refl (stop !))) (in_variant ! 0 0 refl refl (whole !)))) refl (tt, tt) $ sets ! (of_opd ! (get ! refl)) refl (tt, tt) $
    sets ! (agg ! (and_then ! (get ! refl) (no_more !))) refl (start_typed [] p) $
    sets ! (agg ! (no_more !)) refl (tt, tt) $ sets ! (agg ! (no_more !)) refl (tt, tt) $
    sets ! (agg ! (and_then ! (get ! refl) (no_more !))) refl (tt, (tt, tt)) $
    sets ! (agg ! (and_then ! (get ! refl) (and_then ! (get ! refl) (and_then ! (get ! refl) (no_more !))))) refl typed $
    sets_last ! (agg ! (and_then ! (lit ! tt) (and_then ! (get ! refl) (no_more !)))) refl ok $
    exec ! C Λ En (after 3 fn.body) (at_ret En Post) $ sets ! (of_opd ! (get ! refl)) refl ok $
    returns ! (look_at ! 0 refl) $ free_all ! refl $
    -- [the room; the token; what is alive]
    let s : (start.the_row).Denot = record { at = p } in let w : (words.the_row).Denot = record { at = p; items = []; spare = n } in let k : Dd.Denot = record { mark = record {}; alloc = h; at = p; len = n } in
    let here : o ≡ 0 * 4 + o = omega arith in
    rewrite ! 0 (λ (i : ℕ). ‵ (froom τ b i)) here refl $ nothing ! $ fjoin ! $ flt_i ! ((0 + n) * 4) (2 ^ 63) (omega (arith, asked)) $ fjoin ! $
    use0 𝓛 (‵ (words_data (words_val ∷ []))) (words_made 𝓛) $ fjoin ! $ move ! (1 ∷ []) $
    use0 𝓛 (‵ (deed_data (deed_val ∷ []))) (deed_made 𝓛) $ fjoin ! $
    use0 𝓛 (‵ (start_own p (start_val p ∷ []))) (start_made 𝓛 p) $ move ! (0 ∷ 2 ∷ 1 ∷ []) $
    use3 𝓛 (‵ (Three.own_val (s, w, k) (made ∷ []))) (made_of 𝓛 start.the_row words.the_row Dd s w k p) $
    use1 𝓛 (‵ (Out.own_val (Ok (s, w, k)) (live 0 (vcons made vnil) ∷ []))) (ok_of 𝓛 Three refusal.the_row (s, w, k) made) $
    let Told : Type 0 = (p ≡ p) × (w.items ≡ []) × (n ≡ n) × (p ≡ p) × (n ≡ n) × (h ≡ h) in
    use0 𝓛 (raw (fact 𝓤 Told)) (fact_i 𝓤 Told (emp 𝓤) (refl, refl, refl, refl, refl, refl)) $ nothing ! $ nothing ! $ fjoin ! $ nothing ! $ fjoin ! $ move ! (3 ∷ 0 ∷ 2 ∷ 1 ∷ []) $
    by ! (leaves 𝓛 T stays c z (live 0 (vcons made vnil)) (Ok (s, w, k)) (tt, (tt, tt)) (tt, (tt, tt))))
    (λ e.
    let Refusal : RattleType = Struct (Declared.shape refusal.the_type) in
    let none : Val = live 1 (vcons (vstruct vnil) vnil) in
    join ! $ lands_as ! e refl (Answer-typed false 0 0) $
    first ! $ switches_on ! (get_tag ! (vrt ! refl (fld ! refl (stop !))) (whole !)) $ exec ! C Λ En (arm_body 1 (head (after 2 fn.body))) Then $
    sets ! (of_opd ! (get_in ! (vrt ! refl (fld ! refl (stop !))) (in_variant ! 1 0 refl refl (whole !)))) refl (tt, tt) $
    sets_last ! (agg ! (and_then ! (lit ! tt) (and_then ! (get ! refl) (no_more !)))) refl (tt, (record { fits = lit< tt }, (tt, tt))) $
    exec ! C Λ En (after 3 fn.body) (at_ret En Post) $ sets ! (of_opd ! (get ! refl)) refl (tt, (record { fits = lit< tt }, (tt, tt))) $
    returns ! (look_at ! 0 refl) $ free_all ! refl $
    owned ! Refusal (Is Refusal) (Struct-Makes 𝓛 (Declared.shape refusal.the_type) tt) tt (vstruct vnil ∷ []) (tt, (refl, tt)) $
    use1 𝓛 (‵ (Out.own_val (Err (record {})) (none ∷ []))) (err_of 𝓛 Three refusal.the_row (record {}) (vstruct vnil)) $
    use0 𝓛 (raw (fact 𝓤 (Unit {0}))) (fact_i 𝓤 (Unit {0}) (emp 𝓤) tt) $ nothing ! $ nothing ! $ fjoin ! $ nothing ! $ fjoin ! $ move ! (3 ∷ 0 ∷ 2 ∷ 1 ∷ []) $
    by ! (leaves 𝓛 T stays c z none (Err (record {})) (tt, (tt, tt)) (tt, (tt, tt)))))))))
