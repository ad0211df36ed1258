-- After p turns the fields of the posts 0 .. p − 1, as the list has them, are put.
use Rattle.std.proofs.Common.{◌≡◌}
use Rattle.text.specs.Put.{put}
use Rattle.text.specs.Text.{first_texts}
use Rattle.lines.proofs.panel.Laws.{field_at}
use Rattle.lines.proofs.panel.put_posts.Given as goal

abbrev pub invariant-loop-post : goal.invariant-loop-post
invariant-loop-post l = l.text ≡ put l.initial.text (first_texts (field_at l.shown) l.post)
