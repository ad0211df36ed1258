use Rattle.std.proofs.Common.{arith, ◌≡◌}
use Rattle.rules.specs.Indications.{dark}
use Rattle.text.proofs.Put.{room_for_more, one_more}
use Rattle.lines.proofs.panel.Laws.{field_at, fields_listed, field_short}
use Rattle.lines.proofs.panel.put_posts.Goals as goal

pub put_post-requires-clause-room : goal.put_post-requires-clause-room
put_post-requires-clause-room c =
    room_for_more _ (field_at c.track_indications-shown.result) 6 c.args.s.settings.posts (field_short c.track_indications-shown.result)
    c.requires.0 c.loop-post.post c.loop-post-test.true c.loop-post.invariant

pub loop-post-preserved : goal.loop-post-preserved
unfolding dark
loop-post-preserved c =
    one_more _ (field_at c.track_indications-shown.result) 6 c.args.s.settings.posts (field_short c.track_indications-shown.result)
    c.requires.0 c.loop-post.post c.loop-post-test.true c.loop-post.invariant c.put_post.ensures

pub returns : goal.returns
returns c =
    let all : c.loop-post.post ≡ c.args.s.settings.posts = omega (arith, c.loop-post-test.false, c.loop-post.auto.post-end) in
    rw (← fields_listed c.args.s c.args.track, ← c.track_indications-shown.ensures) (rw all at c.loop-post.invariant)
