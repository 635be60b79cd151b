-- Layers that spell outer coronas: coronas that are hole-free up to the outermost.
use Rattle.std.proofs.Common.{◌≡◌, sym, ap, subst, ℕ, ◌+◌, ◌-◌, List, [], ◌∷◌, length, take, arith}
use Rattle.std.specs.Prelude.{◌↔◌}
use Rattle.std.specs.List.{AllZip}
use Rattle.std.proofs.lemmas.Slice.Zip.{AllZip-long}
use Rattle.heesch_grid.specs.declared.Cell.{Cell}
use Rattle.heesch_grid.specs.declared.isometries.Iso.{Iso}
use Rattle.heesch_grid.specs.Geometry.{Geometry}
use Rattle.heesch_grid.specs.Corona.{StaysHoleFree}
use Rattle.heesch_grid.specs.Placement.{IsLeastIsometry}
use Rattle.heesch_cert.specs.declared.entry.Layers.{Layers}
use Rattle.heesch_cert.specs.TrueEntry.{Spells}
use Rattle.heesch_audit.specs.Spelling.{SpellCoronas}
use Rattle.heesch_levels.specs.UpTo.{SpellsUpTo}
use Rattle.heesch_outer.specs.Coronas.{inner_layers}
use Rattle.heesch_outer.specs.Answer.{SpellsOuterCoronas}

module _ (g : Geometry) (shape : List Cell) where
  abbrev AreTiles : List Iso → List (List Cell) → Type 0
  AreTiles layer placed = AllZip (λ by tile. IsLeastIsometry g shape tile by) layer placed

  module _ (h : ℕ) (layers : Layers) (count : length layers.layers ≡ h + 1) where
    inner_is : (tiles : List (List (List Cell))) → Spells g shape layers.layers tiles → inner_layers tiles ≡ take h tiles
    inner_is tiles s =
        let long : length tiles ≡ length layers.layers = AllZip-long AreTiles layers.layers tiles s.isometries in
        ap (λ n. take n tiles) (let e : length tiles - 1 ≡ h = omega (arith, long, count) in e)

    -- layers whose patches are hole-free up to the outermost
    pub outer_spelled : SpellsUpTo g shape (h + 1) h layers → SpellsOuterCoronas g shape (h + 1) layers
    outer_spelled s = record {
      count = count;
      tiles = s.tiles;
      spelled = s.spelled;
      coronas = (s.coronas, subst (StaysHoleFree g (shape ∷ [])) (sym (inner_is s.tiles s.spelled)) s.free);
    }

    -- so the test of the spelling tells it
    pub outer_where_spelled : SpellCoronas g shape h layers.layers ↔ SpellsOuterCoronas g shape (h + 1) layers
    outer_where_spelled = (
      (λ s. record {
        count = count;
        tiles = s.0;
        spelled = s.1;
        coronas = (s.2.0, subst (StaysHoleFree g (shape ∷ [])) (sym (inner_is s.0 s.1)) s.2.1);
      }),
      (λ s. (s.tiles, s.spelled, (s.coronas.0, subst (StaysHoleFree g (shape ∷ [])) (inner_is s.tiles s.spelled) s.coronas.1))),
    )
