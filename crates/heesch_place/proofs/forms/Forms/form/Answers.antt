use Rattle.std.proofs.Common.{◌<◌, length, ap, sym, arith}
use Rattle.heesch_grid.proofs.WindowFacts.{member_map}
use Rattle.heesch_place.specs.Spots.{Formed}
use Rattle.heesch_place.specs.Universes.{Placed}
use Rattle.heesch_place.proofs.Numbering.{length-mapped}
use Rattle.heesch_place.proofs.forms.Forms.form.Goals as goal

pub returns-clause-within : goal.returns-clause-within
returns-clause-within g c d h =
    let items = c.self.inside.forms.items in
    let p = c.index.result.now in
    let less : c.args.form < length items = omega (arith, c.requires, ap (λ (f : Formed). length f.forms) c.self.view_is, length-mapped (λ (p : Placed). p.tile) items) in
    c.self.invariant.are_forms.near p.tile d (member_map (λ (p : Placed). p.tile) items p (c.args.form, less, sym c.index.ensures)) h
