-- The text that share texts are joined to.
use Rattle.std.specs.Prelude.{◌≡◌, ℕ, ◌≤◌, List, length, Option, ⊤}
use Rattle.heesch_cert.specs.declared.header.Header.{Header}
use Rattle.heesch_cert.specs.declared.entry.Entry.{Entry}
use Rattle.heesch_text.specs.Catalogue.{catalogue_text}
use Rattle.heesch_io.specs.Input.{IsAllOf}
use Rattle.heesch_reader.specs.declared.item.Item.{Item}
use Rattle.heesch_reader.specs.declared.item.Item.TheVariants as items
use Rattle.heesch_parts.specs.Shares.{AreShares, entries_of}

-- the input is the text of K shares, and the output the catalogue text of their header and of all their entries
pub record IsJoined (input output : List ℕ) : Type 0 where
  pub header : Header
  pub shares : List (List Entry)
  pub are : AreShares input header shares
  pub output_is : output ≡ catalogue_text header (entries_of shares)

-- the text that the source had left, no longer than is read, is joined to this
abbrev pub GivesText : (most : ℕ) → Option (List ℕ) → List ℕ → Type 0
GivesText most left output = (input : List ℕ) × IsAllOf left input × (length input ≤ most) × IsJoined input output

-- the item isn't one of a brief catalogue
abbrev pub IsFull : Item → Type 0
IsFull (items.Brief line cells verdict) = ⊥
IsFull item = ⊤
