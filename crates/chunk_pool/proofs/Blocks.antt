-- What the walks of a block share: where it begins as a machine value, and its words taken out and put back. Assumes `Logic`.
use Rattle.chunk_pool.proofs.Common.{◌≡◌, ℕ, zero, suc, ◌+◌, ◌*◌, ◌<◌, List, [], ◌∷◌, ◌++◌, length, get_or, set, take, refl, sym, ◌∙◌, subst, arith, lit<, Ura, full_share, Fml, Lft, ftrue, fat, froom, ent, sep, emp, id⊢, via, snd∗, mono_r, ty_int, ty_ptr, ty_struct, tcons, tnil, Sym, w32, Val, vint, vstruct, vcons, vnil, of_list, Logic, sem, ‵, ⋆, ◌⊛◌, ◌$◌, ◌∵◌, !, qed, by, move, keep, use1, use2, split, fsplit, fjoin, fpack, feq_i, rewrite, done, u32, part_at, shares, shared_of, uint_in, uint_out, Ptr, RawPtr, block_ptr, null_ptr, ptr_val, RattleType, Valss, elements_shared, nothing, Struct, within, Tuple, tuple_type, Good, words_type}
use denote.Index.{row, others, takes, puts, place_is, place as nth}
use denote.Shadow.{shadow, makes_shadow}
use denote.Struct.Declared as Declared

-- ---- where a block begins

abbrev pub start_val : Ptr → Val
start_val p = vstruct (vcons (ptr_val p) vnil)

abbrev pub start_own : Ptr → List Val → Fml
start_own p = (Struct (record { name = []; args = []; types = []; fields = RawPtr ∷ [] })).own_val (p, tt)

pub start_told : (p : Ptr) (vs : List Val) → shadow (start_own p vs) → vs ≡ start_val p ∷ []
start_told p vs s = s.1.0 ∙ (λ i. vstruct (of_list (s.1.1.0 i ++ [])) ∷ [])

pub start_made : {M : Type 1} {𝓤 : Ura M} (𝓛 : Logic 𝓤) (p : Ptr) → ent 𝓤 (emp 𝓤) (sem 𝓛 (start_own p (start_val p ∷ [])))
start_made 𝓛 p = makes_shadow 𝓛 (start_own p (start_val p ∷ [])) (λ _. (tt, (tt, tt))) ((ptr_val p ∷ [], tt), (refl, (refl, tt)))

pub start_typed : (ν : Sym) (p : Ptr) → Good (ty_struct ν (tcons ty_ptr tnil)) (start_val p)
start_typed ν (block_ptr b o) = (tt, (tt, tt))
start_typed ν null_ptr = (tt, (record { fits = lit< tt }, tt))

-- ---- its owner and its deed, which take no space

abbrev pub words_val : Val
words_val = vstruct vnil

abbrev pub words_data : List Val → Fml
words_data = (Struct (record { name = []; args = []; types = []; fields = [] })).own_val tt

pub words_told : (vs : List Val) → shadow (words_data vs) → vs ≡ words_val ∷ []
words_told vs s = s.1.0

pub words_made : {M : Type 1} {𝓤 : Ura M} (𝓛 : Logic 𝓤) → ent 𝓤 (emp 𝓤) (sem 𝓛 (words_data (words_val ∷ [])))
words_made 𝓛 = makes_shadow 𝓛 (words_data (words_val ∷ [])) (λ _. (tt, tt)) (tt, (refl, tt))

abbrev pub deed_val : Val
deed_val = vstruct (vcons words_val vnil)

abbrev pub deed_data : List Val → Fml
deed_data = (Struct (record { name = []; args = []; types = []; fields = Struct (record { name = []; args = []; types = []; fields = [] }) ∷ [] })).own_val (tt, tt)

pub deed_told : (vs : List Val) → shadow (deed_data vs) → vs ≡ deed_val ∷ []
deed_told vs s = s.1.0 ∙ (λ i. vstruct (of_list (s.1.1.0.1.0 i ++ [])) ∷ [])

pub deed_made : {M : Type 1} {𝓤 : Ura M} (𝓛 : Logic 𝓤) → ent 𝓤 (emp 𝓤) (sem 𝓛 (deed_data (deed_val ∷ [])))
deed_made 𝓛 = makes_shadow 𝓛 (deed_data (deed_val ∷ [])) (λ _. (tt, ((λ _. (tt, tt)), tt))) ((words_val ∷ [], tt), (refl, ((tt, (refl, tt)), tt)))

-- the three together
abbrev pub made_val : Ptr → Val
made_val p = vstruct (vcons (start_val p) (vcons words_val (vcons deed_val vnil)))

pub made_of : {M : Type 1} {𝓤 : Ura M} (𝓛 : Logic 𝓤) (R S T : RattleType) (x : R.Denot) (y : S.Denot) (z : T.Denot) (p : Ptr)
    → ent 𝓤 (sep 𝓤 (sem 𝓛 (R.own_val x (start_val p ∷ []))) (sep 𝓤 (sem 𝓛 (S.own_val y (words_val ∷ []))) (sem 𝓛 (T.own_val z (deed_val ∷ [])))))
    (sem 𝓛 ((Tuple (R ∷ S ∷ T ∷ [])).own_val (x, y, z) (made_val p ∷ [])))
made_of 𝓛 R S T x y z p =
    qed 𝓛 (‵ (R.own_val x (start_val p ∷ [])) ∷ ‵ (S.own_val y (words_val ∷ [])) ∷ ‵ (T.own_val z (deed_val ∷ [])) ∷ []) ∵
    nothing ! $ move ! (3 ∷ 0 ∷ []) $ fjoin ! $ move ! (2 ∷ 0 ∷ []) $ fjoin ! $ move ! (1 ∷ 0 ∷ []) $ fjoin ! $
    feq_i ! (List Val) (made_val p ∷ []) (made_val p ∷ []) refl $ fjoin ! $
    fpack ! (Valss (R ∷ S ∷ T ∷ [])) (within (Declared.shape (tuple_type (R ∷ S ∷ T ∷ []))) (x, (y, (z, tt))) (made_val p ∷ [])) (start_val p ∷ [], (words_val ∷ [], (deed_val ∷ [], tt))) $ done !

-- ---- words

module _ {M : Type 1} {𝓤 : Ura M} (𝓛 : Logic 𝓤) where
  open 𝓛 use {H}

  abbrev pub word_at : ℕ → ℕ → ℕ → Fml
  word_at b o x = fat full_share (ty_int w32) b o (vint w32 x)

  abbrev pub rest : List ℕ → ℕ → ℕ → ℕ → Fml
  rest items i b o = others (shares u32) full_share items i b o

  pub word_out : (items : List ℕ) (i b o : ℕ) → i < length items → ent 𝓤 (sem 𝓛 (row u32 full_share items b o)) (⋆ 𝓛 (‵ (word_at b (i * 4 + o) (get_or items i 0)) ∷ ‵ (rest items i b o) ∷ []))
  word_out items i b o inside =
      qed 𝓛 (‵ (row u32 full_share items b o) ∷ []) ∵
      use1 𝓛 (‵ (part_at u32 full_share (get_or items i 0) b (nth 4 o i)) ⊛ ‵ (rest items i b o)) (takes (shares u32) full_share 𝓛 items i 0 b o inside) $ split ! $
      rewrite ! 0 (λ (k : ℕ). ‵ (part_at u32 full_share (get_or items i 0) b k)) (place_is 4 o i) refl $
      use1 𝓛 (‵ (word_at b (i * 4 + o) (get_or items i 0))) (uint_out 𝓛 full_share w32 (get_or items i 0) b (i * 4 + o)) $ done !

  pub word_in : (items : List ℕ) (i x b o : ℕ) → i < length items → ent 𝓤 (⋆ 𝓛 (‵ (word_at b (i * 4 + o) x) ∷ ‵ (rest items i b o) ∷ [])) (sem 𝓛 (row u32 full_share (set items i x) b o))
  word_in items i x b o inside =
      qed 𝓛 (‵ (word_at b (i * 4 + o) x) ∷ ‵ (rest items i b o) ∷ []) ∵
      use1 𝓛 (‵ (part_at u32 full_share x b (i * 4 + o))) (uint_in 𝓛 full_share w32 x b (i * 4 + o)) $
      rewrite ! 0 (λ (k : ℕ). ‵ (part_at u32 full_share x b k)) (sym (place_is 4 o i)) refl $
      by ! (puts (shares u32) full_share 𝓛 items i x b o inside)

  -- a word behind the words is one of them
  pub word_more : (items : List ℕ) (x b o : ℕ) → ent 𝓤 (⋆ 𝓛 (‵ (word_at b (length items * 4 + o) x) ∷ ‵ (row u32 full_share items b o) ∷ [])) (sem 𝓛 (row u32 full_share (items ++ x ∷ []) b o))
  word_more [] x b o =
      let here : 0 * 4 + o ≡ o = omega arith in
      qed 𝓛 (‵ (word_at b (0 * 4 + o) x) ∷ ‵ ftrue ∷ []) ∵
      rewrite ! 0 (λ (k : ℕ). ‵ (word_at b k x)) here refl $
      use1 𝓛 (‵ (part_at u32 full_share x b o)) (uint_in 𝓛 full_share w32 x b o) $ done !
  word_more (y ∷ items) x b o =
      let here : suc (length items) * 4 + o ≡ length items * 4 + (o + 4) = omega arith in
      qed 𝓛 (‵ (word_at b (suc (length items) * 4 + o) x) ∷ ‵ (row u32 full_share (y ∷ items) b o) ∷ []) ∵
      rewrite ! 0 (λ (k : ℕ). ‵ (word_at b k x)) here refl $
      move ! (1 ∷ []) $ fsplit ! $ move ! (2 ∷ 1 ∷ []) $
      use2 𝓛 (‵ (row u32 full_share (items ++ x ∷ []) b (o + 4))) (word_more items x b (o + 4)) $ move ! (1 ∷ 0 ∷ []) $ fjoin ! $ done !

  -- the words' room
  pub all_room : (items : List ℕ) (b o : ℕ) → ent 𝓤 (sem 𝓛 (row u32 full_share items b o)) (sem 𝓛 (froom (words_type (length items)) b o))
  all_room [] b o = 𝓛.laws.room_nil (ty_int w32) b o
  all_room (y ∷ items) b o =
      qed 𝓛 (‵ (part_at u32 full_share y b o) ∷ ‵ (row u32 full_share items b (o + 4)) ∷ []) ∵
      use1 𝓛 (‵ (word_at b o y)) (uint_out 𝓛 full_share w32 y b o) $ use1 𝓛 (‵ (froom (ty_int w32) b o)) (𝓛.laws.at_room (ty_int w32) b o (vint w32 y)) $ move ! (1 ∷ []) $
      use1 𝓛 (‵ (froom (words_type (length items)) b (o + 4))) (all_room items b (o + 4)) $ move ! (1 ∷ []) $ by ! (𝓛.laws.room_cons (ty_int w32) (length items) b o)

  -- ---- what a `&` shows

  module _ (κ : Lft) (b : ℕ) where
    abbrev Seen : List ℕ → ℕ → Fml
    Seen items o = elements_shared u32 items b o κ

    seen_from : (items : List ℕ) (i o at : ℕ) → at ≡ i * 4 + o → ent 𝓤 (sem 𝓛 (Seen items o)) (sem 𝓛 (Seen (lib.ListN.drop i items) at))
    seen_from items zero o at e = let same : o ≡ at = omega arith in subst (λ (k : ℕ). ent 𝓤 (sem 𝓛 (Seen items o)) (sem 𝓛 (Seen items k))) same (id⊢ 𝓤 _)
    seen_from [] (suc i) o at e = id⊢ 𝓤 _
    seen_from (x ∷ items) (suc i) o at e =
        via 𝓤 (sem 𝓛 (Seen items (o + 4))) (snd∗ 𝓤 (sem 𝓛 (shared_of u32 x b o κ)) (sem 𝓛 (Seen items (o + 4)))) (seen_from items i (o + 4) at (omega arith))

    seen_first : (n : ℕ) (items : List ℕ) (o : ℕ) → ent 𝓤 (sem 𝓛 (Seen items o)) (sem 𝓛 (Seen (take n items) o))
    seen_first zero items o = qed 𝓛 (‵ (Seen items o) ∷ []) ∵ keep ! [] $ done !
    seen_first (suc n) [] o = id⊢ 𝓤 _
    seen_first (suc n) (x ∷ items) o = mono_r 𝓤 (sem 𝓛 (shared_of u32 x b o κ)) (seen_first n items (o + 4))

    -- a run of the words
    pub seen_run : (items : List ℕ) (from n o : ℕ) → ent 𝓤 (sem 𝓛 (Seen items o)) (sem 𝓛 (Seen (take n (lib.ListN.drop from items)) (from * 4 + o)))
    seen_run items from n o = via 𝓤 (sem 𝓛 (Seen (lib.ListN.drop from items) (from * 4 + o))) (seen_from items from o (from * 4 + o) refl) (seen_first n (lib.ListN.drop from items) (from * 4 + o))
