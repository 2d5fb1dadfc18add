-- A text is a certificate, or has a first refused line.
use Rattle.decisions.proofs.Common.{ℕ, zero, suc, ◌≡◌, ◌∙◌, ◌+◌, ◌<◌, ◌≤◌, ◌^◌, ◌⊎◌, inl, inr, refl, sym, ap, subst, arith, List, [], ◌∷◌, ◌++◌, length, map, take, Option, Some, None, append_assoc, decided_by, both_decided, Below, below_decided, text_same, AllByRecursion, length-append, take_at, ended_lines, Certificate, FunctionFact, SiteFact, title_line, chunk_line, max_path_line, functions_line, function_line, sites_line, site_line, spelling, HasFewPlaces, HoldsFunctionWords, HoldsSiteWords, Rises, IsWithinLimits, HoldsWords, Due, IsAsSaid, IsOver, BreaksAfter, IsFirstRefused, Title, Chunk, MaxPath, FunctionCount, Functions, Sites, Decided}
use Rattle.decisions.proofs.Decisions.{Begins, begins_decided}
use Rattle.decisions.proofs.LinesSaid.{line_decided}

-- ---- the next line

abbrev NextLine : Due → List ℕ → Type 0
NextLine due text = (line : List ℕ) × ((more : List ℕ) × ((next : Due) × ((text ≡ line ++ 10 ∷ more) × IsAsSaid due line next)))

abbrev LineUpTo : Due → List ℕ → ℕ → Type 0
LineUpTo due text k = Begins (take k text ++ 10 ∷ []) text × ((next : Due) × IsAsSaid due (take k text) next)

line_to : (due : Due) (text : List ℕ) → Below (LineUpTo due text) (length text) → NextLine due text
line_to due text (k, (inside, ((more, e), (next, said)))) = (take k text, (more, (next, (e ∙ append_assoc (take k text) (10 ∷ []) more, said))))

line_from : (due : Due) (text : List ℕ) → NextLine due text → Below (LineUpTo due text) (length text)
line_from due text (line, (more, (next, (e, said)))) =
    let front : take (length line) text ≡ line = ap (take (length line)) e ∙ take_at line (10 ∷ more) (length line) refl in
    let long : length text ≡ length line + length (10 ∷ more) = ap length e ∙ length-append line (10 ∷ more) in (
      length line,
      (
        omega (arith, long),
        (
          (more, e ∙ sym (append_assoc line (10 ∷ []) more) ∙ ap (λ (l : List ℕ). (l ++ 10 ∷ []) ++ more) (sym front)),
          (next, subst (λ (l : List ℕ). IsAsSaid due l next) (sym front) said),
        ),
      ),
    )

next_decided : (due : Due) (text : List ℕ) → Decided (NextLine due text)
next_decided due text = decided_by (line_to due text) (line_from due text)
    (below_decided (LineUpTo due text) (λ k. both_decided (begins_decided (take k text ++ 10 ∷ []) text) (line_decided due (take k text))) (length text))

-- ---- what is written

pub record SitesText (n : ℕ) (last : Option ℕ) (text : List ℕ) : Type 0 where
  pub facts : List SiteFact
  pub count : length facts ≡ n
  pub rises : Rises last facts
  pub words : AllByRecursion HoldsSiteWords facts
  pub is : text ≡ ended_lines (map site_line facts)

-- the lines behind the count of functions
abbrev lines_of : List FunctionFact → List SiteFact → List (List ℕ)
lines_of functions sites = map function_line functions ++ (sites_line (length sites) ∷ map site_line sites)

pub record FunctionsText (n : ℕ) (text : List ℕ) : Type 0 where
  pub functions : List FunctionFact
  pub sites : List SiteFact
  pub count : length functions ≡ n
  pub few : AllByRecursion HasFewPlaces functions
  pub words : AllByRecursion HoldsFunctionWords functions
  pub most : length sites ≤ 65535
  pub rises : Rises None sites
  pub site_words : AllByRecursion HoldsSiteWords sites
  pub is : text ≡ ended_lines (lines_of functions sites)

pub record CountText (text : List ℕ) : Type 0 where
  pub number : ℕ
  pub more : List ℕ
  pub most : number ≤ 4096
  pub is : text ≡ functions_line number ++ 10 ∷ more
  pub behind : FunctionsText number more

pub record PathText (text : List ℕ) : Type 0 where
  pub path : ℕ
  pub more : List ℕ
  pub small : path < 2 ^ 32
  pub is : text ≡ max_path_line path ++ 10 ∷ more
  pub behind : CountText more

pub record ChunkText (text : List ℕ) : Type 0 where
  pub chunk : ℕ
  pub more : List ℕ
  pub small : chunk < 2 ^ 32
  pub is : text ≡ chunk_line chunk ++ 10 ∷ more
  pub behind : PathText more

pub record TitleText (text : List ℕ) : Type 0 where
  pub more : List ℕ
  pub is : text ≡ title_line ++ 10 ∷ more
  pub behind : ChunkText more

abbrev Written : Due → List ℕ → Type 0
Written Title text = TitleText text
Written Chunk text = ChunkText text
Written MaxPath text = PathText text
Written FunctionCount text = CountText text
Written (Functions n) text = FunctionsText n text
Written (Sites n last) text = SitesText n last text

-- a line, and lines behind it
one_more : (text line more first : List ℕ) (lines : List (List ℕ)) → text ≡ line ++ 10 ∷ more → line ≡ first → more ≡ ended_lines lines → text ≡ ended_lines (first ∷ lines)
one_more text line more first lines e is rest =
    e ∙ ap (λ (l : List ℕ). l ++ 10 ∷ more) is ∙ ap (λ (m : List ℕ). first ++ 10 ∷ m) rest ∙ sym (append_assoc first (10 ∷ []) (ended_lines lines))

renamed : (text line more first : List ℕ) → text ≡ line ++ 10 ∷ more → line ≡ first → text ≡ first ++ 10 ∷ more
renamed text line more first e is = e ∙ ap (λ (l : List ℕ). l ++ 10 ∷ more) is

with_line : (due : Due) (text line more : List ℕ) (next : Due) → text ≡ line ++ 10 ∷ more → IsAsSaid due line next → Written next more → Written due text
with_line Title text line more next e (is, to) w =
    record { more = more; is = renamed text line more title_line e is; behind = subst (λ (d : Due). Written d more) to w }
with_line Chunk text line more next e (n, small, is, to) w =
    record { chunk = n; more = more; small = small; is = renamed text line more (chunk_line n) e is; behind = subst (λ (d : Due). Written d more) to w }
with_line MaxPath text line more next e (n, small, is, to) w =
    record { path = n; more = more; small = small; is = renamed text line more (max_path_line n) e is; behind = subst (λ (d : Due). Written d more) to w }
with_line FunctionCount text line more next e (n, most, is, to) w =
    record { number = n; more = more; most = most; is = renamed text line more (functions_line n) e is; behind = subst (λ (d : Due). Written d more) to w }
with_line (Functions zero) text line more next e (n, most, is, to) w =
    let s : SitesText n None more = subst (λ (d : Due). Written d more) to w in
    let same : sites_line n ≡ sites_line (length s.facts) = ap sites_line (sym s.count) in
    record {
      functions = [];
      sites = s.facts;
      count = refl;
      few = tt;
      words = tt;
      most = (let c = s.count in omega (arith, c, most));
      rises = s.rises;
      site_words = s.words;
      is = one_more text line more (sites_line (length s.facts)) (map site_line s.facts) e (is ∙ same) s.is;
    }
with_line (Functions (suc left)) text line more next e (fact, few, words, is, to) w =
    let f : FunctionsText left more = subst (λ (d : Due). Written d more) to w in
    record {
      functions = fact ∷ f.functions;
      sites = f.sites;
      count = ap suc f.count;
      few = (few, f.few);
      words = (words, f.words);
      most = f.most;
      rises = f.rises;
      site_words = f.site_words;
      is = one_more text line more (function_line fact) (lines_of f.functions f.sites) e is f.is;
    }
with_line (Sites zero last) text line more next e said w = absurd said
with_line (Sites (suc left) last) text line more next e (fact, above, words, is, to) w =
    let s : SitesText left (Some fact.number) more = subst (λ (d : Due). Written d more) to w in
    record {
      facts = fact ∷ s.facts;
      count = ap suc s.count;
      rises = (above, s.rises);
      words = (words, s.words);
      is = one_more text line more (site_line fact) (map site_line s.facts) e is s.is;
    }

-- ---- where nothing more is due

over_written : (due : Due) (text : List ℕ) → IsOver due → text ≡ [] → Written due text
over_written (Sites zero last) text over e = record { facts = []; count = refl; rises = tt; words = tt; is = e }
over_written _ text over e = absurd over

over_decided : (due : Due) → Decided (IsOver due)
over_decided (Sites zero last) = inl tt
over_decided _ = inr (λ over. over)

-- ---- from line to line

abbrev WrittenOrNot : Due → List ℕ → Type 0
WrittenOrNot due text = Written due text ⊎ ((passed : ℕ) × BreaksAfter passed due text)

from_line : (size : ℕ) (due : Due) (text : List ℕ) → length text < size → WrittenOrNot due text
from_line zero due text fits = absurd (omega (arith, fits))
from_line (suc size) due text fits = by (λ next more h. from_line size next more h) (both_decided (over_decided due) (text_same text [])) (next_decided due text) where
  Again : Type 0
  Again = (next : Due) (more : List ℕ) → length more < size → WrittenOrNot next more

  behind : (n : NextLine due text) → WrittenOrNot n.1.1.0 n.1.0 → WrittenOrNot due text
  behind (line, (more, (next, (e, said)))) (inl w) = inl (with_line due text line more next e said w)
  behind (line, (more, (next, (e, said)))) (inr b) = inr (suc b.0, (line, more, next, e, said, b.1))

  shorter : (n : NextLine due text) → length n.1.0 < size
  shorter (line, (more, (next, (e, said)))) = let long : length text ≡ length line + length (10 ∷ more) = ap length e ∙ length-append line (10 ∷ more) in omega (arith, long, fits)

  by : Again → Decided (IsOver due × (text ≡ [])) → Decided (NextLine due text) → WrittenOrNot due text
  by again (inl h) n = inl (over_written due text h.0 h.1)
  by again (inr not_over) (inl n) = behind n (again n.1.1.0 n.1.0 (shorter n))
  by again (inr not_over) (inr none) = inr (zero, record { no_line = λ line more next e said. none (line, (more, (next, (e, said)))); not_over = λ over e. not_over (over, e) })

-- ---- the certificate

abbrev pub ReadOrRefused : List ℕ → Type 0
ReadOrRefused text = ((c : Certificate) × IsWithinLimits c × HoldsWords c × (text ≡ spelling c)) ⊎ ((number : ℕ) × IsFirstRefused text number)

abbrev certificate_of : (text : List ℕ) → TitleText text → Certificate
certificate_of text t = let f = t.behind.behind.behind.behind in record { chunk = t.behind.chunk; max_path = t.behind.behind.path; functions = f.functions; sites = f.sites }

spelled_so : (text : List ℕ) (t : TitleText text) → text ≡ spelling (certificate_of text t)
unfolding spelling
spelled_so text t =
    let a = t.behind in
    let b = a.behind in
    let d = b.behind in
    let f = d.behind in
    let counted : functions_line d.number ≡ functions_line (length f.functions) = ap functions_line (sym f.count) in
    let four : b.more ≡ ended_lines (functions_line (length f.functions) ∷ lines_of f.functions f.sites) = one_more b.more (functions_line d.number) d.more (functions_line (length f.functions)) (lines_of f.functions f.sites) d.is counted f.is in
    let three : a.more ≡ ended_lines (max_path_line b.path ∷ functions_line (length f.functions) ∷ lines_of f.functions f.sites) =
    one_more a.more (max_path_line b.path) b.more (max_path_line b.path) (functions_line (length f.functions) ∷ lines_of f.functions f.sites) b.is refl four in
    let two : t.more ≡ ended_lines (chunk_line a.chunk ∷ max_path_line b.path ∷ functions_line (length f.functions) ∷ lines_of f.functions f.sites) =
    one_more t.more (chunk_line a.chunk) a.more (chunk_line a.chunk) (max_path_line b.path ∷ functions_line (length f.functions) ∷ lines_of f.functions f.sites) a.is refl three in
    one_more text title_line t.more title_line (chunk_line a.chunk ∷ max_path_line b.path ∷ functions_line (length f.functions) ∷ lines_of f.functions f.sites) t.is refl two

limits_kept : (text : List ℕ) (t : TitleText text) → IsWithinLimits (certificate_of text t)
limits_kept text t =
    let d = t.behind.behind.behind in
    let f = d.behind in
    record { functions = (let c = f.count in let m = d.most in omega (arith, c, m)); places = f.few; sites = f.most; rising = f.rises }

words_held : (text : List ℕ) (t : TitleText text) → HoldsWords (certificate_of text t)
words_held text t =
    let f = t.behind.behind.behind.behind in
    record { chunk = t.behind.small; max_path = t.behind.behind.small; functions = f.words; sites = f.site_words }

pub certificate_decided : (text : List ℕ) → ReadOrRefused text
certificate_decided text = by (from_line (suc (length text)) Title text (omega arith)) where
  by : WrittenOrNot Title text → ReadOrRefused text
  by (inl t) = inl (certificate_of text t, limits_kept text t, words_held text t, spelled_so text t)
  by (inr b) = inr (b.0 + 1, (b.0, refl, b.1))
