-- What the writer of a share writes.
use Rattle.std.specs.Prelude.{◌≡◌, ◌<◌, ◌≤◌, ◌^◌, ℕ, List, ◌++◌, length, slice_range}
use Rattle.heesch_grid.specs.declared.Cell.{Cell}
use Rattle.heesch_grid.specs.Geometry.{Geometry}
use Rattle.heesch_grid.specs.Polyform.{IsFreeList}
use Rattle.heesch_cert.specs.declared.header.Header.{Header}
use Rattle.heesch_cert.specs.Limits.{AreLimits}
use Rattle.heesch_catalogue.specs.Catalogues.{IsCatalogue, IsBegunCatalogue}
use Rattle.heesch_parts.specs.Shares.{share_line}
use Rattle.heesch_parts.specs.Spans.{span_of}
use Rattle.heesch_parts.specs.declared.written.Share.{Share}

-- the share is one of at most 1,000, and the limits of its header are limits
pub record MayBeWritten (share : Share) : Type 0 where
  pub first : 1 ≤ share.i
  pub last : share.i ≤ share.k
  pub most : share.k ≤ 1000
  pub limits : AreLimits share.header.limits

-- the shapes at the places that share i of k of the list has
abbrev pub shapes_of_share : (i k : ℕ) → List (List Cell) → List (List Cell)
shapes_of_share i k shapes = slice_range shapes (span_of (length shapes) i k).from (span_of (length shapes) i k).until

-- the output is the line of share i of k, and the catalogue text of those shapes of the list
abbrev pub IsShare : Geometry → Header → (i k : ℕ) → List (List Cell) → List ℕ → Type 0
IsShare g header i k shapes output = (catalogue : List ℕ) × IsCatalogue g header (shapes_of_share i k shapes) catalogue × (output ≡ share_line i k ++ catalogue)

-- the same of a beginning, as much as some first entries decide
abbrev pub IsBegunShare : Geometry → Header → (i k : ℕ) → List (List Cell) → List ℕ → Type 0
IsBegunShare g header i k shapes output = (begun : List ℕ) × IsBegunCatalogue g header (shapes_of_share i k shapes) begun × (output ≡ share_line i k ++ begun)

-- the same of the free list of the grid's polyforms of n cells, of which there are fewer than 2^32
abbrev pub IsShareOfSize : Geometry → Header → (n i k : ℕ) → List ℕ → Type 0
IsShareOfSize g header n i k output = (shapes : List (List Cell)) × IsFreeList g n shapes × (length shapes < 2 ^ 32) × IsShare g header i k shapes output

-- a beginning of it
abbrev pub IsBegunShareOfSize : Geometry → Header → (n i k : ℕ) → List ℕ → Type 0
IsBegunShareOfSize g header n i k output = (shapes : List (List Cell)) × IsFreeList g n shapes × IsBegunShare g header i k shapes output
