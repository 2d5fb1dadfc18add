use Rattle.segment_run.proofs.Common.{sym, subst, Areas, Owns, areas_of, thread_of}
use Rattle.segment_run.proofs.Linking.{front_held}
use Rattle.segment_run.proofs.links.end.Goals as goal

pub give-requires : goal.give-requires
give-requires c =
    let owns = subst (λ (a : Areas). Owns (thread_of a c.args.thread.now)) (sym c.areas.view_is) c.requires.owns in
    front_held (areas_of c.areas.inside) c.args.thread.now 0 owns c.requires.last
