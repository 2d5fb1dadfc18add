-- The machine and the grammar agree on whole lists of tokens.
use Rattle.grammar_laws.proofs.Common.{◌≡◌, subst, List, [], ◌∷◌, Option, Some, Sign, Symbol, Way, Nearest, TakesAll, Task, step}
use Rattle.grammar_laws.proofs.Covers.{Covers, Proper}
use Rattle.grammar_laws.proofs.Forward.{forward}
use Rattle.grammar_laws.proofs.Backward.{Includes, Stepped, Back, backward}

-- the machine takes the signs one after another, and comes from the first tasks to the others
pub data Steps : List Task → List Sign → List Task → Type 0 where
  none : {todo : List Task} → Steps todo [] todo
  one : {todo between left : List Task} {sign : Sign} {signs : List Sign} → step todo sign ≡ Some between → Steps between signs left → Steps todo (sign ∷ signs) left

pub stepped : (todo : List Task) (sign : Sign) {left : List Task} → step todo sign ≡ Some left → Stepped todo sign left
stepped t s e = let P : Option (List Task) → Type 0 = λ made. Back t s made in subst P e (backward t s)

pub proper_steps : {todo left : List Task} {signs : List Sign} → Steps todo signs left → Proper todo → Proper left
proper_steps Steps.none p = p
proper_steps (Steps.one {todo = t} {sign = s} e steps) p = let h = stepped t s e in proper_steps steps (h.proper p)

-- what the grammar takes, in any way
pub record Followed (way : Way) (todo : List Task) (signs : List Sign) (after : List Symbol) : Type 0 where
  pub left : List Task
  pub steps : Steps todo signs left
  pub covered : Covers way left after

pub follow : {way : Way} {rest after : List Symbol} {signs : List Sign} → TakesAll way rest signs after → (todo : List Task) → Covers way todo rest → Proper todo → Followed way todo signs after
follow TakesAll.none todo c p = record { left = todo; steps = Steps.none; covered = c }
follow (TakesAll.one {sign = s} t more) todo c p =
    let f = forward s c p t in
    let g = stepped todo s f.taken.stepped in
    let h = follow more f.taken.more f.taken.covered (g.proper p) in
    record { left = h.left; steps = Steps.one f.taken.stepped h.steps; covered = h.covered }

-- what includes a rest takes what it takes
record Widened (wide : List Symbol) (signs : List Sign) (after : List Symbol) : Type 0 where
  left : List Symbol
  takes : TakesAll Nearest wide signs left
  included : Includes left after

widen : {wide narrow after : List Symbol} {signs : List Sign} → Includes wide narrow → TakesAll Nearest narrow signs after → Widened wide signs after
widen {wide = w} i TakesAll.none = record { left = w; takes = TakesAll.none; included = i }
widen i (TakesAll.one {after = a} t more) = record { left = a; takes = TakesAll.one (i.takes _ _ t) more; included = record { takes = λ sign after u. u; nothing = λ n. n } }

join : {wide narrow left after : List Symbol} {signs : List Sign} → Includes wide narrow → TakesAll Nearest narrow signs left → Includes left after → Widened wide signs after
join i t j =
    let w = widen i t in
    record { left = w.left; takes = w.takes; included = record { takes = λ sign after u. w.included.takes sign after (j.takes sign after u); nothing = λ n. w.included.nothing (j.nothing n) } }

-- what the machine takes, in the way in which an else belongs to the nearest if
pub record Derived (todo : List Task) (signs : List Sign) (after : List Symbol) : Type 0 where
  pub rest : List Symbol
  pub left : List Symbol
  pub covered : Covers Nearest todo rest
  pub takes : TakesAll Nearest rest signs left
  pub included : Includes left after

pub derive : {todo left : List Task} {signs : List Sign} → Steps todo signs left → (after : List Symbol) → Covers Nearest left after → Derived todo signs after
derive Steps.none after c = record { rest = after; left = after; covered = c; takes = TakesAll.none; included = record { takes = λ sign after u. u; nothing = λ n. n } }
derive (Steps.one {todo = t} {sign = s} e steps) after c =
    let h = derive steps after c in
    let s = stepped t s e in
    let g = s.back h.rest h.covered in
    let w = join g.included h.takes h.included in
    record { rest = g.rest; left = w.left; covered = g.covered; takes = TakesAll.one g.taken w.takes; included = w.included }
