use Rattle.std.proofs.Common.{◌≡◌, true, map, All, Contains, sym, subst, ◌∙◌}
use Rattle.std.proofs.lemmas.List.Elements.{All-contains}
use Rattle.heesch_grid.specs.declared.Cell.{Cell}
use Rattle.heesch_grid.specs.Cells.{cell, has, origin}
use Rattle.heesch_grid.specs.Placement.{IsLeastIsometry}
use Rattle.heesch_grid.specs.Vectors.{IsWithin}
use Rattle.heesch_grid.proofs.CellFacts.{has-is}
use Rattle.heesch_grid.proofs.ListFacts.{All-from_members}
use Rattle.heesch_grid.proofs.WindowFacts.{member_map}
use Rattle.heesch_place.specs.Spots.{AreCovers, AreForms, head_of}
use Rattle.heesch_place.specs.Universes.{Placed}
use Rattle.heesch_place.proofs.Gathering.{member_at}
use Rattle.heesch_place.proofs.Moving.{isometry_near}
use Rattle.heesch_place.proofs.forms.Forms.of.Given as given
use Rattle.heesch_place.proofs.forms.Forms.of.Goals as goal
use Rattle.heesch_place.proofs.forms.Forms.of.Goals.{In_ok-forms}

-- the placements have the forms
forms : (g : given.Over) (c : In_ok-forms g) → AreForms g.G.Grid.geometry c.args.shape (map (λ p. p.tile) c.in_ok-forms.forms.items)
forms g c =
    subst (λ s. AreForms g.G.Grid.geometry s (map (λ (p : Placed). p.tile) c.in_ok-forms.forms.items)) c.in_ok-images.ensures
    (subst (AreForms g.G.Grid.geometry c.in_ok-images.images) (sym c.in_ok-forms.ensures.tiles) c.in_ok-tiles.ensures)

near : (g : given.Over) (c : In_ok-forms g) (p : Placed) (d : Cell) → Contains c.in_ok-forms.forms.items p → has p.tile d ≡ true → IsWithin 5000 d
near g c p d m h = (forms g c).near p.tile d (member_map (λ (p : Placed). p.tile) c.in_ok-forms.forms.items p m) h

pub covers_of-requires-clause-near : goal.covers_of-requires-clause-near
covers_of-requires-clause-near g c =
    let at = (goal.at.covers_of-requires-clause-near g c).In_ok-forms in
    All-from_members (λ (p : Placed). (d : Cell) → has p.tile d ≡ true → IsWithin 5000 d) c.as_slice.result.now (λ p m d h. near g at p d (subst (λ ps. Contains ps p) c.as_slice.ensures.value m) h)

pub invariant_of-result : goal.invariant_of-result
invariant_of-result g c =
    let geometry = g.G.Grid.geometry in
    let at = (goal.at.invariant_of-result g c).In_ok-forms in
    let items = c.in_ok-forms.forms.items in
    let shape = c.in_ok-images.ensures in
    let is : c.into_shape.result ≡ c.args.shape = c.into_shape.ensures ∙ shape in
    let least = subst (λ s. All (λ (p : Placed). IsLeastIsometry geometry s p.tile p.by) items) shape c.in_ok-forms.ensures.least in
    record {
      are_forms = subst (λ s. AreForms geometry s (map (λ (p : Placed). p.tile) items)) (sym is) (forms g at);
      least = subst (λ s. All (λ (p : Placed). IsLeastIsometry geometry s p.tile p.by) items) (sym is) least;
      near = All-from_members (λ (p : Placed). IsWithin 10000 (cell p.by.da p.by.db)) items (λ p m.
          let i = All-contains (λ (p : Placed). IsLeastIsometry geometry c.args.shape p.tile p.by) items p least m in
          let some = ((forms g at).begins p.tile (member_map (λ (p : Placed). p.tile) items p m)).some in
          let first : Contains p.tile (head_of p.tile) = member_at p.tile 0 origin some in
          isometry_near geometry g.met.G.Grid.laws c.args.shape p.tile p.by (head_of p.tile) i.is_isometry i.gives first c.requires (near g at p (head_of p.tile) m (has-is p.tile (head_of p.tile) first)));
      are_covers = subst (λ ps. AreCovers (map (λ (p : Placed). p.tile) ps) c.in_ok-covers.covers.items) c.as_slice.ensures.value c.in_ok-covers.ensures;
    }
