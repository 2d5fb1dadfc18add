use Rattle.run_course.proofs.Common.{◌∙◌, sym, None, Some, ap, inl, refl, Kept, known}
use Rattle.run_course.proofs.Seen.{seen_before}
use Rattle.run_course.proofs.course.Course.look.Goals as goal

pub returns-in-Event-clause-looks : goal.returns-in-Event-clause-looks
returns-in-Event-clause-looks g c = λ left knows.
    (left, knows, λ has. has, λ has. has, λ s state held stands. seen_before s state c.args.self.now held left (Some c.in-Event.event) stands (ap known (ap (λ (k : Kept). k.next) (sym c.self.view_is) ∙ c.in-Event.is)))

pub returns-in-Event-clause-nears : goal.returns-in-Event-clause-nears
returns-in-Event-clause-nears g c = inl refl

pub returns-in-Over-clause-looks : goal.returns-in-Over-clause-looks
returns-in-Over-clause-looks g c = λ left knows.
    (left, knows, λ has. has, λ has. has, λ s state held stands. seen_before s state c.args.self.now held left None stands (ap known (ap (λ (k : Kept). k.next) (sym c.self.view_is) ∙ c.in-Over.is)))

pub returns-in-Over-clause-nears : goal.returns-in-Over-clause-nears
returns-in-Over-clause-nears g c = inl refl

pub returns-in-Unread-clause-looks : goal.returns-in-Unread-clause-looks
returns-in-Unread-clause-looks g c = c.read.ensures.looks

pub returns-in-Unread-clause-nears : goal.returns-in-Unread-clause-nears
returns-in-Unread-clause-nears g c = c.read.ensures.nears

pub returns-in-Unread-clause-counts : goal.returns-in-Unread-clause-counts
returns-in-Unread-clause-counts g c = c.read.ensures.counts
