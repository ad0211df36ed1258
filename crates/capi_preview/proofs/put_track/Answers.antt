-- Arrays of three bytes, one for each post, are the lamps of the track.
use Rattle.std.proofs.Common.{[], rules, ◌∙◌, ap}
use Rattle.rules.specs.Indications.{dark}
use Rattle.image.proofs.Made.{mapped}
use Rattle.text.specs.Put.{put}
use Rattle.capi_preview.specs.Preview.{lamp_bytes}
use Rattle.capi_preview.proofs.Lamps.{track_flat}
use Rattle.capi_preview.proofs.put_track.Goals as goal

pub returns : goal.returns
returns c =
    c.put_text.ensures
    ∙ ap (put c.args.text.now)
    (track_flat c.args.shown
    (mapped _ (λ _. Unit {0}) lamp_bytes dark [] (λ p q x y k h. (search rules, tt)) c.args.shown c.map-lamps.result 16 _ tt c.map-lamps.ensures.items)
    c.as_flattened.ensures.value)
