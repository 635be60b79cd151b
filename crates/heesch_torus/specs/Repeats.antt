-- Whether two elements that stand side by side are one.
use Rattle.std.specs.Prelude.{◌≡◌, ◌≢◌, ℕ, suc, ◌<◌, List, length, slice_index_or}
use Rattle.heesch_grid.specs.declared.Cell.{Cell}

-- a cell stands beside itself
pub record HasRepeat (cells : List Cell) : Type 0 where
  pub at : ℕ
  pub below : suc at < length cells
  pub same : (d : Cell) → slice_index_or cells at d ≡ slice_index_or cells (suc at) d

-- no cell does
pub record HasNoRepeat (cells : List Cell) : Type 0 where
  pub differ : (k : ℕ) (d : Cell) → suc k < length cells → slice_index_or cells k d ≢ slice_index_or cells (suc k) d
