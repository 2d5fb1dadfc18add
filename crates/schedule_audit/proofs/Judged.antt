-- One line of a log is read, and the verdict.
use Rattle.schedule_audit.proofs.Common.{◌≡◌, ℕ, ◌+◌, ◌<◌, ◌≤◌, Bool, true, false, List, [], ◌∷◌, ◌==◌, Option, Some, None, Result, Ok, length, take, drop, refl, sym, ap, ◌∙◌, subst, arith, length-drop, position, eq-eqb, ne_eqb, Given, State, start_of, End, Failure, Ruling, Judgement, IsReadTo, RulesLine, Kept, Stands, StandsSomehow, IsJudgementOf}
use Rattle.schedule_reading.specs.declared.reading.End.TheVariants as end
use Rattle.schedule_reading.specs.declared.reading.Next.TheVariants as next
use Rattle.schedule_reading.specs.declared.rulings.Ruling.TheVariants as ruling
use Rattle.schedule_audit.proofs.Judge.{cut, none_left, read_late, read_lawful, read_on, read_refused, read_start, read_unlawful, start_told, trace_in}

pub begun : (g : Given) (left : Option (List ℕ)) (log : List ℕ) (k : Kept) → ((trace : List ℕ) → Stands g (start_of g trace) k) → k.reader ≡ record { held = []; lines = 0; last = 0; refused = None } → k.next ≡ next.Unread → IsReadTo g left log log 1 k left
begun g left log k stands reader unread = read_start g left log k (stands (trace_in left)) (start_told g left k reader unread)

-- after a line that is allowed what is kept stands beside some state again
pub still_stands : (k : Kept) (now : Option (List ℕ)) (new : Kept) (now' : Option (List ℕ)) (bytes : List ℕ) (r : Result Ruling Failure) → ((h : Given) (state : State) → Stands h state k → RulesLine h state k bytes now new now' r) → r ≡ Ok ruling.Allowed →
    StandsSomehow k → StandsSomehow new
still_stands k now new now' bytes r rules e stands =
    let ruled : RulesLine stands.0 stands.1 k bytes now new now' (Ok ruling.Allowed) = subst (RulesLine stands.0 stands.1 k bytes now new now') e (rules stands.0 stands.1 stands.2) in
    (stands.0, ruled.2.after, ruled.2.stands)

module _ (g : Given) (left : Option (List ℕ)) (log rest : List ℕ) (line : ℕ) (k : Kept) (now : Option (List ℕ)) (is : IsReadTo g left log rest line k now) where
  module _ (at : ℕ) (found : position (λ byte. byte == 10) rest ≡ Some at) (new : Kept) (now' : Option (List ℕ)) (bytes : List ℕ) (bytes_are : bytes ≡ take at rest)
      (r : Result Ruling Failure) (rules : (h : Given) (state : State) → Stands h state k → RulesLine h state k bytes now new now' r) where
    ruled_line : (ruling : Ruling) → r ≡ Ok ruling → RulesLine g is.state k (take at rest) now new now' (Ok ruling)
    ruled_line ruling e = subst (λ (l : List ℕ). RulesLine g is.state k l now new now' (Ok ruling)) bytes_are (subst (RulesLine g is.state k bytes now new now') e (rules g is.state is.stands))

    pub line_on : r ≡ Ok ruling.Allowed → (more : List ℕ) → more ≡ drop (at + 1) rest → IsReadTo g left log more (line + 1) new now'
    line_on e more same = subst (λ (l : List ℕ). IsReadTo g left log l (line + 1) new now') (sym same)
        (read_on g left log rest line k now is at (cut rest at found) new now' (ruled_line ruling.Allowed e))

    pub line_refused : r ≡ Ok ruling.Refused → IsJudgementOf g left log (Judgement.Unlawful line)
    line_refused e = read_refused g left log rest line k now is at (cut rest at found) new now' (ruled_line ruling.Refused e)

    pub line_late : r ≡ Ok ruling.OutOfSteps → IsJudgementOf g left log (Judgement.Steps line)
    line_late e = read_late g left log rest line k now is at (cut rest at found) new now' (ruled_line ruling.OutOfSteps e)

  pub lawful_end : rest ≡ [] → k.end ≡ end.Stopped → IsJudgementOf g left log Judgement.Lawful
  lawful_end none stopped = read_lawful g left log rest line k now is none stopped

  pub unlawful_end : position (λ byte. byte == 10) rest ≡ None → (rest ≡ [] → k.end ≡ end.Stopped → ⊥) → IsJudgementOf g left log (Judgement.Unlawful line)
  unlawful_end none never = read_unlawful g left log rest line k now is (none_left rest none) never

-- how many lines there may still be
pub within_bytes : (rest : List ℕ) (at : ℕ) → position (λ byte. byte == 10) rest ≡ Some at → at < length rest
within_bytes rest at found = let below = (cut rest at found).below in below

pub fewer_left : (rest more : List ℕ) (at line most : ℕ) → position (λ byte. byte == 10) rest ≡ Some at → more ≡ drop (at + 1) rest → line + length rest ≤ most → line + 1 + length more ≤ most
fewer_left rest more at line most found same few =
    let below = within_bytes rest at found in
    let long = length-drop (at + 1) rest in
    let is = ap (λ (l : List ℕ). length l) same in
    omega (arith, below, long, is, few)

-- ---- where the last line ends

pub empty_is : (xs : List ℕ) (b : Bool) → b ≡ (length xs == 0) → b ≡ true → xs ≡ []
empty_is [] b e t = refl
empty_is (x ∷ xs) b e t = let no : (length (x ∷ xs) == 0) ≡ false = ne_eqb (length (x ∷ xs)) 0 (λ z. omega (arith, z)) in absurd (cc)

pub empty_not : (xs : List ℕ) (b : Bool) → b ≡ (length xs == 0) → b ≡ false → xs ≡ [] → ⊥
empty_not xs b e f none = let yes : (length xs == 0) ≡ true = eq-eqb (length xs) 0 (ap (λ (l : List ℕ). length l) none) in absurd (cc)

pub end_is : (view k : Kept) → view ≡ k → (e : End) → view.end ≡ e → k.end ≡ e
end_is view k same e is = ap (λ (x : Kept). x.end) (sym same) ∙ is
