-- A text has one gap at its front.
use Rattle.c_lex.proofs.Common.{ℕ, ◌≡◌, ◌⊎◌, inl, inr, ⊎_elim, List, [], ◌∷◌, ◌++◌, codes, IsTrue, refl, sym, ap, ◌∙◌, subst, arith, append_assoc, both_ways, append-nil, is_white_space, Lacks, line_feed, IsLineComment, IsBlockComment, IsComment, IsGap, nothing, space, comment, BeginsWith, BeginsComment}
use Rattle.c_lex.proofs.Lists.{cuts_compare, same_heads, same_tails}

star_no_slash : ◌≡◌ {A = ℕ} 42 47 → ⊥
star_no_slash same = omega (arith, same)

-- what follows the longer of two line comments
line_no_more : (body other after rest more : List ℕ) → other ≡ body ++ more → after ≡ more ++ rest → Lacks other line_feed → (after ≡ []) ⊎ BeginsWith after line_feed → more ≡ []
line_no_more body other after rest [] front back lacks ended = refl
line_no_more body other after rest (c ∷ more) front back lacks ended =
    ⊎_elim
    (λ none. absurd (let both : c ∷ (more ++ rest) ≡ [] = sym back ∙ none in cc))
    (λ begins. let both : c ∷ (more ++ rest) ≡ 10 ∷ begins.0 = sym back ∙ begins.1 in
    let feed : c ≡ 10 = same_heads both in
    absurd (lacks body more (front ∙ ap (λ b. body ++ b ∷ more) feed)))
    ended

line_unique : (body other after rest : List ℕ) → Lacks body line_feed → Lacks other line_feed → (after ≡ []) ⊎ BeginsWith after line_feed → (rest ≡ []) ⊎ BeginsWith rest line_feed → body ++ after ≡ other ++ rest → (body ≡ other) × (after ≡ rest)
line_unique body other after rest lacks lacks' ended ended' same =
    ⊎_elim
    (λ w. let none = line_no_more body other after rest w.more w.front w.back lacks' ended in
    (sym (append-nil body) ∙ ap (λ l. body ++ l) (sym none) ∙ sym w.front, w.back ∙ ap (λ l. l ++ rest) none))
    (λ w. let none = line_no_more other body rest after w.more w.front w.back lacks ended' in
    (w.front ∙ ap (λ l. other ++ l) none ∙ append-nil other, sym (w.back ∙ ap (λ l. l ++ after) none)))
    (cuts_compare body other after rest same)

-- what follows the longer of two block comments
block_no_more : (body other after rest more : List ℕ) → other ≡ body ++ more → 42 ∷ 47 ∷ after ≡ more ++ (42 ∷ 47 ∷ rest) → Lacks (other ++ 42 ∷ []) (codes "*/") → more ≡ []
block_no_more body other after rest [] front back lacks = refl
block_no_more body other after rest (c ∷ []) front back lacks = absurd (star_no_slash (sym (same_heads (same_tails back))))
block_no_more body other after rest (c ∷ d ∷ more) front back lacks =
    let star : c ≡ 42 = sym (same_heads back) in
    let slash : d ≡ 47 = sym (same_heads (same_tails back)) in
    absurd (lacks body (more ++ 42 ∷ []) (ap (λ l. l ++ 42 ∷ []) front ∙ append_assoc body (c ∷ d ∷ more) (42 ∷ []) ∙ ap (λ b. body ++ b ∷ d ∷ (more ++ 42 ∷ [])) star ∙ ap (λ b. body ++ 42 ∷ b ∷ (more ++ 42 ∷ [])) slash))

block_unique : (body other after rest : List ℕ) → Lacks (body ++ 42 ∷ []) (codes "*/") → Lacks (other ++ 42 ∷ []) (codes "*/") → body ++ (42 ∷ 47 ∷ after) ≡ other ++ (42 ∷ 47 ∷ rest) → (body ≡ other) × (after ≡ rest)
block_unique body other after rest lacks lacks' same =
    ⊎_elim
    (λ w. let none = block_no_more body other after rest w.more w.front w.back lacks' in
    let tails : 42 ∷ 47 ∷ after ≡ 42 ∷ 47 ∷ rest = w.back ∙ ap (λ l. l ++ (42 ∷ 47 ∷ rest)) none in
    (sym (append-nil body) ∙ ap (λ l. body ++ l) (sym none) ∙ sym w.front, same_tails (same_tails tails)))
    (λ w. let none = block_no_more other body rest after w.more w.front w.back lacks in
    let tails : 42 ∷ 47 ∷ rest ≡ 42 ∷ 47 ∷ after = w.back ∙ ap (λ l. l ++ (42 ∷ 47 ∷ after)) none in
    (w.front ∙ ap (λ l. other ++ l) none ∙ append-nil other, sym (same_tails (same_tails tails))))
    (cuts_compare body other (42 ∷ 47 ∷ after) (42 ∷ 47 ∷ rest) same)

-- the two forms of comment, with what comes behind
line_whole : (text after : List ℕ) (line : IsLineComment text after) → text ++ after ≡ 47 ∷ 47 ∷ (line.body ++ after)
line_whole text after line = ap (λ l. l ++ after) line.spelled

block_whole : (text after : List ℕ) (block : IsBlockComment text) → text ++ after ≡ 47 ∷ 42 ∷ (block.body ++ (42 ∷ 47 ∷ after))
block_whole text after block = ap (λ l. l ++ after) block.spelled ∙ ap (λ l. 47 ∷ 42 ∷ l) (append_assoc block.body (42 ∷ 47 ∷ []) after)

-- a comment begins the text that it is the front of
pub comment_begins : (text after : List ℕ) → IsComment text after → BeginsComment (text ++ after)
comment_begins text after (inl line) = inl (line.body ++ after, line_whole text after line)
comment_begins text after (inr block) = inr (block.body ++ (42 ∷ 47 ∷ after), block_whole text after block)

comment_unique : (text other after rest : List ℕ) → IsComment text after → IsComment other rest → text ++ after ≡ other ++ rest → (text ≡ other) × (after ≡ rest)
comment_unique text other after rest (inl a) (inl b) same =
    let whole : 47 ∷ 47 ∷ (a.body ++ after) ≡ 47 ∷ 47 ∷ (b.body ++ rest) = sym (line_whole text after a) ∙ same ∙ line_whole other rest b in
    let bodies : a.body ++ after ≡ b.body ++ rest = same_tails (same_tails whole) in
    let one = line_unique a.body b.body after rest a.one_line b.one_line a.ended b.ended bodies in
    (a.spelled ∙ ap (λ l. 47 ∷ 47 ∷ l) one.0 ∙ sym b.spelled, one.1)
comment_unique text other after rest (inl a) (inr b) same =
    absurd (let whole : 47 ∷ 47 ∷ (a.body ++ after) ≡ 47 ∷ 42 ∷ (b.body ++ (42 ∷ 47 ∷ rest)) = sym (line_whole text after a) ∙ same ∙ block_whole other rest b in star_no_slash (sym (same_heads (same_tails whole))))
comment_unique text other after rest (inr a) (inl b) same =
    absurd (let whole : 47 ∷ 42 ∷ (a.body ++ (42 ∷ 47 ∷ after)) ≡ 47 ∷ 47 ∷ (b.body ++ rest) = sym (block_whole text after a) ∙ same ∙ line_whole other rest b in star_no_slash (same_heads (same_tails whole)))
comment_unique text other after rest (inr a) (inr b) same =
    let whole : 47 ∷ 42 ∷ (a.body ++ (42 ∷ 47 ∷ after)) ≡ 47 ∷ 42 ∷ (b.body ++ (42 ∷ 47 ∷ rest)) = sym (block_whole text after a) ∙ same ∙ block_whole other rest b in
    let bodies : a.body ++ (42 ∷ 47 ∷ after) ≡ b.body ++ (42 ∷ 47 ∷ rest) = same_tails (same_tails whole) in
    let one = block_unique a.body b.body after rest a.first b.first bodies in
    (a.spelled ∙ ap (λ l. 47 ∷ 42 ∷ (l ++ 42 ∷ 47 ∷ [])) one.0 ∙ sym b.spelled, one.1)

-- an open comment is no comment
pub open_no_comment : (body text after : List ℕ) → Lacks body (codes "*/") → IsComment text after → 47 ∷ 42 ∷ body ≡ text ++ after → ⊥
open_no_comment body text after lacks (inl line) same = let whole : 47 ∷ 42 ∷ body ≡ 47 ∷ 47 ∷ (line.body ++ after) = same ∙ line_whole text after line in star_no_slash (same_heads (same_tails whole))
open_no_comment body text after lacks (inr block) same =
    let whole : 47 ∷ 42 ∷ body ≡ 47 ∷ 42 ∷ (block.body ++ (42 ∷ 47 ∷ after)) = same ∙ block_whole text after block in
    let bodies : body ≡ block.body ++ (42 ∷ 47 ∷ after) = same_tails (same_tails whole) in
    lacks block.body after bodies

-- no gap begins here
pub record BeginsNoGap (rest : List ℕ) : Type 0 where
  pub no_space : (b : ℕ) (more : List ℕ) → rest ≡ b ∷ more → ¬ IsTrue (is_white_space b)
  pub no_comment : (text after : List ℕ) → rest ≡ text ++ after → ¬ IsComment text after

-- white space begins no comment
pub space_no_comment : (b : ℕ) (more : List ℕ) → IsTrue (is_white_space b) → ¬ BeginsComment (b ∷ more)
space_no_comment b more white begun =
    let slash : b ≡ 47 = ⊎_elim (λ begins. same_heads begins.1) (λ begins. same_heads begins.1) begun in
    both_ways (is_white_space 47) refl (sym (ap is_white_space slash) ∙ white)

pub gap_unique : (gap other after rest : List ℕ) → IsGap gap after → IsGap other rest → gap ++ after ≡ other ++ rest → BeginsNoGap after → BeginsNoGap rest → (gap ≡ other) × (after ≡ rest)
gap_unique [] [] after rest nothing nothing same none none' = (refl, same)
gap_unique [] (b ∷ other) after rest nothing (space white more) same none none' = absurd (none.no_space b (other ++ rest) same white)
gap_unique [] other after rest nothing (comment text more split is others) same none none' =
    absurd (none.no_comment text (more ++ rest) (same ∙ ap (λ l. l ++ rest) split ∙ append_assoc text more rest) is)
gap_unique (b ∷ gap) [] after rest (space white more) nothing same none none' = absurd (none'.no_space b (gap ++ after) (sym same) white)
gap_unique (b ∷ gap) (c ∷ other) after rest (space white more) (space white' more') same none none' =
    let heads : b ≡ c = same_heads same in
    let tails : gap ++ after ≡ other ++ rest = same_tails same in
    let one = gap_unique gap other after rest more more' tails none none' in
    ((λ i. heads i ∷ one.0 i), one.1)
gap_unique (b ∷ gap) other after rest (space white more) (comment text others split is more') same none none' =
    absurd (space_no_comment b (gap ++ after) white (subst BeginsComment (sym (same ∙ ap (λ l. l ++ rest) split ∙ append_assoc text others rest)) (comment_begins text (others ++ rest) is)))
gap_unique gap [] after rest (comment text others split is more) nothing same none none' =
    absurd (none'.no_comment text (others ++ after) (sym same ∙ ap (λ l. l ++ after) split ∙ append_assoc text others after) is)
gap_unique gap (b ∷ other) after rest (comment text others split is more) (space white more') same none none' =
    absurd (space_no_comment b (other ++ rest) white (subst BeginsComment (sym (sym same ∙ ap (λ l. l ++ after) split ∙ append_assoc text others after)) (comment_begins text (others ++ after) is)))
gap_unique gap other after rest (comment text others split is more) (comment text' others' split' is' more') same none none' =
    let whole : text ++ (others ++ after) ≡ text' ++ (others' ++ rest) = sym (append_assoc text others after) ∙ ap (λ l. l ++ after) (sym split) ∙ same ∙ ap (λ l. l ++ rest) split' ∙ append_assoc text' others' rest in
    let first = comment_unique text text' (others ++ after) (others' ++ rest) is is' whole in
    let one = gap_unique others others' after rest more more' first.1 none none' in
    (split ∙ (λ i. first.0 i ++ one.0 i) ∙ sym split', one.1)
