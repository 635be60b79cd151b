-- Share texts, and the catalogue that shares are of.
use Rattle.std.specs.Prelude.{◌≡◌, ℕ, ◌+◌, ◌≤◌, List, [], ◌∷◌, ◌++◌, length, false, true, codes}
use Rattle.std.specs.List.{AllByRecursion, flat_map}
use Rattle.heesch_cert.specs.declared.header.Header.{Header}
use Rattle.heesch_cert.specs.declared.entry.Entry.{Entry}
use Rattle.heesch_text.specs.declared.line.Line.TheVariants as lines
use Rattle.heesch_text.specs.Lines.{text_of}
use Rattle.heesch_text.specs.Catalogue.{entry_lines, catalogue_text}
use Rattle.heesch_line.specs.Forms.{IsLine}
use Rattle.heesch_grammar.specs.Entries.{AreEntryLines, HoldsItsLines}
use Rattle.heesch_reader.specs.declared.item.Item.{Item}
use Rattle.heesch_reader.specs.declared.item.Item.TheVariants as items
use Rattle.heesch_reader.specs.Items.{lines_of}
use Rattle.heesch_parts.specs.PartLines.{numbers_text}
use Rattle.heesch_parts.specs.Stages.{may_join}

-- the line that names share i of k
abbrev pub share_line : (i k : ℕ) → List ℕ
share_line i k = codes "share" ++ numbers_text i k ++ codes "\n"

-- a share text: the line that names the share, and a catalogue text of its entries
abbrev pub share_text : (i k : ℕ) → Header → List Entry → List ℕ
share_text i k header entries = share_line i k ++ catalogue_text header entries

-- share texts one after the other, the first of which has the number i
abbrev pub shares_from : (i k : ℕ) → Header → List (List Entry) → List ℕ
shares_from i k header [] = []
shares_from i k header (entries ∷ shares) = share_text i k header entries ++ shares_from (i + 1) k header shares

-- all entries of shares
abbrev pub entries_of : List (List Entry) → List Entry
entries_of shares = flat_map (λ (entries : List Entry). entries) shares

-- the entry is one of a full catalogue text, and holds nothing beyond its lines
pub record IsEntry (e : Entry) : Type 0 where
  pub lines : AreEntryLines false (entry_lines e)
  pub forms : AllByRecursion IsLine (entry_lines e)
  pub holds : HoldsItsLines e

-- the header is that of a full catalogue of the polyforms of a size
pub record IsShareHeader (header : Header) : Type 0 where
  pub form : IsLine (lines.Header header)
  pub joins : may_join header ≡ true

-- the text is that of K shares, numbered 1 to K in order, under this header, and these are the entries of each
pub record AreShares (text : List ℕ) (header : Header) (shares : List (List Entry)) : Type 0 where
  pub text_is : text ≡ shares_from 1 (length shares) header shares
  pub some : 1 ≤ length shares
  pub most : length shares ≤ 1000
  pub header_is : IsShareHeader header
  pub each : AllByRecursion (AllByRecursion IsEntry) shares
  pub all : length (entries_of shares) ≤ 4294967295

-- ---- what a joiner appends

-- the items of entries behind so many lines, each numbered with the line that it begins on
abbrev pub items_behind : ℕ → List Entry → List Item
items_behind before [] = []
items_behind before (e ∷ entries) = items.Entry (before + 1) e ∷ items_behind (before + length (entry_lines e)) entries

-- the number of lines of a share: those of its entries, and the `share`, header and `end` lines
abbrev pub line_count : List Entry → ℕ
line_count entries = 3 + length (flat_map entry_lines entries)

-- the items of the entries of shares behind so many lines
abbrev pub share_items : ℕ → List (List Entry) → List Item
share_items before [] = []
share_items before (entries ∷ shares) = items_behind (before + 2) entries ++ share_items (before + line_count entries) shares

-- the items of a joined catalogue: the header, the entries of all shares, and an end with their number
abbrev pub joined_items : Header → List (List Entry) → List Item
joined_items header shares = items.Header header ∷ share_items 0 shares ++ items.End (length (entries_of shares)) ∷ []

-- ---- statements

-- a text is that of shares under one header alone, and of one list of shares
abbrev pub OneJoin : Type 0
OneJoin = (text : List ℕ) (header other : Header) (shares more : List (List Entry)) → AreShares text header shares → AreShares text other more → (header ≡ other) × (shares ≡ more)

-- the lines of the items that a joiner appends are the catalogue of the entries of all shares
abbrev pub JoinedAreCatalogues : Type 0
JoinedAreCatalogues = (header : Header) (shares : List (List Entry)) → IsShareHeader header → text_of (lines_of (joined_items header shares)) ≡ catalogue_text header (entries_of shares)
