use Rattle.run_history.proofs.FollowedOnce.{followed_more}
use Rattle.run_history.proofs.followed.Followed.add.Goals as goal

pub returns-clause-followed : goal.returns-clause-followed
returns-clause-followed c = λ spawned before was.
    followed_more spawned before c.args.told c.args.self.now c.take.new.self was c.in_ok-take.ensures.segments c.in_ok-take.ensures.left c.in_ok-take.ensures.started c.in_ok-take.ensures.answers
