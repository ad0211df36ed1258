use Rattle.std.proofs.Common.{◌≡◌, ◌∙◌, sym, true, false}
use Rattle.image.specs.Image.{track_a, track_b, track_well_formed}
use Rattle.image.proofs.Places.{track_place}
use Rattle.image.proofs.tracks_well_formed.Goals as goal

pub returns-then-track_well_formed : goal.returns-then-track_well_formed
returns-then-track_well_formed c =
    let l = c.args.bytes.now in
    let a : track_well_formed l track_a ≡ true = sym (track_place l track_a) ∙ sym c.track_well_formed.ensures ∙ c.if-track_well_formed.true in
    rw a (c.track_well_formed-then-track_well_formed.ensures ∙ track_place l track_b)

pub returns-else-track_well_formed : goal.returns-else-track_well_formed
returns-else-track_well_formed c =
    let l = c.args.bytes.now in
    let a : track_well_formed l track_a ≡ false = sym (track_place l track_a) ∙ sym c.track_well_formed.ensures ∙ c.if-track_well_formed.false in
    rw a c.if-track_well_formed.false
