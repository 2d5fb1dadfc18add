-- What is known, told and seen after one entry more.
use Rattle.run_history.proofs.Common.{◌≡◌, ◌∙◌, ℕ, Bool, List, [], ◌∷◌, ◌++◌, Option, ap, sym, refl, subst, append_assoc, append-nil, get, nat_cmp, Window, Entry, OfThreads, OfPairs, OfSpawned, Answering, ByThread, ByPairing, BySpawn, Happening, Ran, Numbers, First, Value, Keeps, named_for, named_by, works_for, none_started, started_after, happenings, happenings_from, IsNumbersOf, IsOneMore}
use Rattle.run_history.specs.declared.answering.Answerer.{Answerer}
use Rattle.run_history.specs.Known.{Known, nothing_known, known_after, known_from, with_entry, happening}
use Rattle.run_history.specs.Sights.{Sight, named_in, sight_of, sights, sights_from}
use Rattle.run_history.proofs.Gathered.{numbers_more}

known_from-more : (accepts : List Bool) (k : Known) (before : List Entry) (entry : Entry) → known_from accepts k (before ++ entry ∷ []) ≡ with_entry accepts entry (known_from accepts k before)
known_from-more accepts k [] entry = refl
known_from-more accepts k (x ∷ before) entry = known_from-more accepts (with_entry accepts x k) before entry

pub known-more : (accepts : List Bool) (before : List Entry) (entry : Entry) → known_after accepts (before ++ entry ∷ []) ≡ with_entry accepts entry (known_after accepts before)
known-more accepts before entry = known_from-more accepts nothing_known before entry

happenings_from-more : (accepts : List Bool) (k : Known) (before : List Entry) (entry : Entry) →
    happenings_from accepts k (before ++ entry ∷ []) ≡ happenings_from accepts k before ++ happening accepts entry (known_from accepts k before) ∷ []
happenings_from-more accepts k [] entry = refl
happenings_from-more accepts k (x ∷ before) entry = ap (λ l. happening accepts x k ∷ l) (happenings_from-more accepts (with_entry accepts x k) before entry)

pub happenings-more : (accepts : List Bool) (before : List Entry) (entry : Entry) →
    happenings accepts (before ++ entry ∷ []) ≡ happenings accepts before ++ happening accepts entry (known_after accepts before) ∷ []
happenings-more accepts before entry = happenings_from-more accepts nothing_known before entry

sights_from-more : (answering : Answering) (accepts : List Bool) (before entries : List Entry) (entry : Entry) →
    sights_from answering accepts before (entries ++ entry ∷ []) ≡ sights_from answering accepts before entries ++ sight_of answering accepts (before ++ entries) entry ∷ []
sights_from-more answering accepts before [] entry = ap (λ l. sight_of answering accepts l entry ∷ []) (sym (append-nil before))
sights_from-more answering accepts before (x ∷ entries) entry =
    ap (λ l. sight_of answering accepts before x ∷ l)
    (sights_from-more answering accepts (before ++ x ∷ []) entries entry
    ∙ ap (λ l. sights_from answering accepts (before ++ x ∷ []) entries ++ sight_of answering accepts l entry ∷ []) (append_assoc before (x ∷ []) entries))

pub sights-more : (answering : Answering) (accepts : List Bool) (entries : List Entry) (entry : Entry) →
    sights answering accepts (entries ++ entry ∷ []) ≡ sights answering accepts entries ++ sight_of answering accepts entries entry ∷ []
sights-more answering accepts entries entry = sights_from-more answering accepts [] entries entry

named_by-same : (started started' : ℕ → Option ℕ) (told : Happening) → ((thread : ℕ) → started thread ≡ started' thread) → named_by started told ≡ named_by started' told
named_by-same started started' (Ran segment free) same =
    ap (λ (one : Option ℕ). Ran (record { thread = segment.thread; began = segment.began; ended = segment.ended; puts = segment.puts; request = works_for segment.request one }) free) (same segment.thread)
named_by-same started started' _ same = refl

-- what is kept for the answers names the request that a segment's thread works for
pub names : (answering : Answering) (before : List Happening) (answerer : Answerer) (told : Happening) → Keeps answering before answerer → named_for answerer told ≡ named_in answering before told
names ByThread before OfThreads told kept = refl
names (ByPairing First) before (OfPairs pairs) told kept = refl
names (ByPairing Value) before (OfPairs pairs) told kept = refl
names (BySpawn spawned) before (OfSpawned followed) told kept =
    named_by-same (λ one. get nat_cmp followed.started one) (started_after 0 spawned.now none_started before) told kept.started
names _ before _ told kept = absurd kept

-- what is gathered while a log is read is of these entries: what is known, the numbers, what is kept for the answers, and what was seen
pub record Reads {W : Type 0} (has_seen : List Sight → W → Type 0) (answering : Answering) (accepts : List Bool) (window : Option Window) (chunks : ℕ) (start now : W) (history : Known) (numbers : Numbers) (answerer : Answerer) (before : List Entry) : Type 0 where
  pub known : history ≡ known_after accepts before
  pub counted : IsNumbersOf ByThread window chunks (happenings accepts before) numbers
  pub kept : Keeps answering (happenings accepts before) answerer
  pub watched : (seen : List Sight) → has_seen seen start → has_seen (seen ++ sights answering accepts before) now

pub reads-none : {W : Type 0} (has_seen : List Sight → W → Type 0) (answering : Answering) (accepts : List Bool) (window : Option Window) (chunks : ℕ) (start : W) (history : Known) (numbers : Numbers) (answerer : Answerer) →
    history ≡ nothing_known → IsNumbersOf ByThread window chunks [] numbers → Keeps answering [] answerer → Reads has_seen answering accepts window chunks start start history numbers answerer []
reads-none has_seen answering accepts window chunks start history numbers answerer known counted kept = record {
  known = known;
  counted = counted;
  kept = kept;
  watched = λ seen h. subst (λ l. has_seen l start) (sym (append-nil seen)) h;
}

pub reads-more : {W : Type 0} (has_seen : List Sight → W → Type 0) (answering : Answering) (accepts : List Bool) (window : Option Window) (chunks : ℕ) (start now now' : W)
    (history history' : Known) (numbers numbers' : Numbers) (answerer answerer' : Answerer) (entry : Entry) →
    history' ≡ with_entry accepts entry history → IsOneMore window chunks (happening accepts entry history) numbers numbers' →
    ((told : List Happening) → Keeps answering told answerer → Keeps answering (told ++ happening accepts entry history ∷ []) answerer') →
    ((seen : List Sight) → has_seen seen now → has_seen (seen ++ record { entry = entry; told = happening accepts entry history; named = named_for answerer (happening accepts entry history) } ∷ []) now') →
    (before : List Entry) → Reads has_seen answering accepts window chunks start now history numbers answerer before →
    Reads has_seen answering accepts window chunks start now' history' numbers' answerer' (before ++ entry ∷ [])
reads-more has_seen answering accepts window chunks start now now' history history' numbers numbers' answerer answerer' entry known more keeps sees before was =
    let told : happening accepts entry history ≡ happening accepts entry (known_after accepts before) = ap (λ (k : Known). happening accepts entry k) was.known in
    let all : happenings accepts before ++ happening accepts entry history ∷ [] ≡ happenings accepts (before ++ entry ∷ []) =
    ap (λ (t : Happening). happenings accepts before ++ t ∷ []) told ∙ sym (happenings-more accepts before entry) in
    let named : named_for answerer (happening accepts entry history) ≡ named_in answering (happenings accepts before) (happening accepts entry (known_after accepts before)) =
    names answering (happenings accepts before) answerer (happening accepts entry history) was.kept ∙ ap (λ (t : Happening). named_in answering (happenings accepts before) t) told in
    let sight : ◌≡◌ {A = Sight} (record { entry = entry; told = happening accepts entry history; named = named_for answerer (happening accepts entry history) }) (sight_of answering accepts before entry) =
    (λ i. record { entry = entry; told = told i; named = named i }) in
    let seen-all : (seen : List Sight) → (seen ++ sights answering accepts before) ++ record { entry = entry; told = happening accepts entry history; named = named_for answerer (happening accepts entry history) } ∷ [] ≡ seen ++ sights answering accepts (before ++ entry ∷ []) =
    λ seen. append_assoc seen (sights answering accepts before) (record { entry = entry; told = happening accepts entry history; named = named_for answerer (happening accepts entry history) } ∷ [])
    ∙ ap (λ (s : Sight). seen ++ (sights answering accepts before ++ s ∷ [])) sight ∙ ap (λ (l : List Sight). seen ++ l) (sym (sights-more answering accepts before entry)) in
    record {
      known = known ∙ ap (λ (k : Known). with_entry accepts entry k) was.known ∙ sym (known-more accepts before entry);
      counted = subst (λ (l : List Happening). IsNumbersOf ByThread window chunks l numbers') all (numbers_more window chunks (happenings accepts before) (happening accepts entry history) numbers numbers' was.counted more);
      kept = subst (λ (l : List Happening). Keeps answering l answerer') all (keeps (happenings accepts before) was.kept);
      watched = λ seen h. subst (λ (l : List Sight). has_seen l now') (seen-all seen) (sees (seen ++ sights answering accepts before) (was.watched seen h));
    }
