-- What the outputs of shares are joined to, as statements.
use Rattle.std.specs.Prelude.{◌≡◌, ℕ, ◌+◌, ◌≤◌, List, [], ◌∷◌, length, false, ⊤}
use Rattle.std.specs.List.{flat_map}
use Rattle.heesch_grid.specs.Geometry.{Geometry}
use Rattle.heesch_cert.specs.declared.entry.Entry.{Entry}
use Rattle.heesch_cert.specs.declared.header.Header.{Header}
use Rattle.heesch_catalogue.specs.Catalogues.{IsCatalogueOfSize}
use Rattle.heesch_parts.specs.Shares.{IsShareHeader, AreShares}
use Rattle.heesch_parts.specs.Written.{IsShareOfSize}
use Rattle.heesch_parts.specs.Joined.{IsJoined}

-- the outputs are those of shares of k of the polyforms of n cells, one each, the first of which has the number i
abbrev pub AreShareOutputs : Geometry → Header → (n i k : ℕ) → List (List ℕ) → Type 0
AreShareOutputs g header n i k [] = ⊤
AreShareOutputs g header n i k (output ∷ outputs) = IsShareOfSize g header n i k output × AreShareOutputs g header n (i + 1) k outputs

-- outputs one behind the other
abbrev pub together : List (List ℕ) → List ℕ
together outputs = flat_map (λ (output : List ℕ). output) outputs

-- the outputs of shares 1 to k of the polyforms of n cells, under a full catalogue's header
pub record AreAllShares (g : Geometry) (header : Header) (n : ℕ) (outputs : List (List ℕ)) : Type 0 where
  pub some : 1 ≤ length outputs
  pub most : length outputs ≤ 1000
  pub is_header : IsShareHeader header
  pub full : header.brief ≡ false
  pub are : AreShareOutputs g header n 1 (length outputs) outputs

-- such outputs, one behind the other, are share texts
abbrev pub ShareOutputsAreShares : Type 0
ShareOutputsAreShares = (g : Geometry) (header : Header) (n : ℕ) (outputs : List (List ℕ)) → AreAllShares g header n outputs → (shares : List (List Entry)) × AreShares (together outputs) header shares

-- and what they are joined to is the catalogue of the size
abbrev pub JoinedSharesAreCatalogues : Type 0
JoinedSharesAreCatalogues = (g : Geometry) (header : Header) (n : ℕ) (outputs : List (List ℕ)) (joined : List ℕ) → AreAllShares g header n outputs → IsJoined (together outputs) joined → IsCatalogueOfSize g header n joined
