-- The tables of a cell's kind are near 0 and of the grid's lengths.
use Rattle.std.proofs.Common.{◌≡◌, ℕ, true, ◌&&◌, ◌==◌, List, length, ap, ◌∙◌}
use Rattle.std.specs.List.{list_all}
use Rattle.std.proofs.lemmas.Bool.{and_parts, eqb-true}
use Rattle.heesch_grid.specs.declared.Cell.{Cell}
use Rattle.heesch_grid.specs.declared.tabled.Tables.{Tables}
use Rattle.heesch_grid.specs.Cells.{cell_before}
use Rattle.heesch_grid.specs.KindLemmas.{kind_found}
use Rattle.heesch_grid.specs.Listing.{is_rising}
use Rattle.heesch_grid.specs.Neighbours.{table_near}
use Rattle.heesch_grid.specs.Pattern.{Kind, Pattern, grid_of, kind_of, within_test}
use Rattle.heesch_grid.specs.PatternTests.{passed, passes, tables_fit}
use Rattle.heesch_grid.specs.Tabled.{AreTablesAt, HasTables}

-- a table that passes its tests is so at the kind of a cell
table_of : (p : Pattern) (table : Kind → List Cell) (n : ℕ) (c : Cell) → tables_fit p table n ≡ true → table_near p table ≡ true → (grid_of p).is_cell c ≡ true → (list_all (within_test 4) (table (kind_of p.unit p.kinds c)) ≡ true) × (length (table (kind_of p.unit p.kinds c)) ≡ n)
table_of p table n c fits near is_cell =
    let k = kind_of p.unit p.kinds c in
    let fit = (kind_found p.unit (λ k. length (table k) == n && is_rising cell_before (table k)) p.kinds c fits is_cell).0 in
    ((kind_found p.unit (λ k. list_all (within_test 4) (table k)) p.kinds c near is_cell).0, eqb-true (length (table k)) n (and_parts (length (table k) == n) (is_rising cell_before (table k)) fit).0)

-- and so are the tables that are its kind's
pub tables_fit_at : (p : Pattern) (c : Cell) (t : Tables) → passes p ≡ true → (grid_of p).is_cell c ≡ true → HasTables (kind_of p.unit p.kinds c) t → AreTablesAt p c t
tables_fit_at p c t tests is_cell has =
    let t_is = passed p tests in
    let adjacent = table_of p (λ k. k.adjacent) p.adjacent_count c t_is.adjacent_fits t_is.adjacent_near is_cell in
    let touching = table_of p (λ k. k.touching) p.touching_count c t_is.touching_fits t_is.touching_near is_cell in
    record {
      tables = has;
      adjacent_near = ap (list_all (within_test 4)) has.adjacent_is ∙ adjacent.0;
      touching_near = ap (list_all (within_test 4)) has.touching_is ∙ touching.0;
      adjacent_count = ap length has.adjacent_is ∙ adjacent.1;
      touching_count = ap length has.touching_is ∙ touching.1;
    }
