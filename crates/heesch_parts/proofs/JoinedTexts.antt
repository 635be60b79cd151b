-- The text of the items that share texts are joined to.
use Rattle.std.proofs.Common.{ℕ, ◌+◌, List, [], ◌∷◌, ◌++◌, length, All}
use Rattle.std.proofs.lemmas.List.Elements.{All-append, All-cons, All-nil}
use Rattle.heesch_cert.specs.declared.entry.Entry.{Entry}
use Rattle.heesch_cert.specs.declared.header.Header.{Header}
use Rattle.heesch_text.specs.Catalogue.{entry_lines}
use Rattle.heesch_reader.specs.declared.item.Item.{Item}
use Rattle.heesch_reader.specs.declared.item.Item.TheVariants as items
use Rattle.heesch_parts.specs.Shares.{items_behind, share_items, joined_items, line_count, entries_of}
use Rattle.heesch_parts.specs.Joined.{IsFull}

behind_full : (before : ℕ) (es : List Entry) → All IsFull (items_behind before es)
behind_full before [] = All-nil IsFull
behind_full before (e ∷ es) = All-cons IsFull (items.Entry (before + 1) e) (items_behind (before + length (entry_lines e)) es) tt (behind_full (before + length (entry_lines e)) es)

shares_full : (before : ℕ) (shares : List (List Entry)) → All IsFull (share_items before shares)
shares_full before [] = All-nil IsFull
shares_full before (es ∷ shares) = All-append IsFull (items_behind (before + 2) es) (share_items (before + line_count es) shares) (behind_full (before + 2) es) (shares_full (before + line_count es) shares)

-- no item of a joined catalogue is brief
pub joined_full : (header : Header) (shares : List (List Entry)) → All IsFull (joined_items header shares)
joined_full header shares =
    let end : Item = items.End (length (entries_of shares)) in
    All-cons IsFull (items.Header header) (share_items 0 shares ++ end ∷ []) tt
    (All-append IsFull (share_items 0 shares) (end ∷ []) (shares_full 0 shares) (All-cons IsFull end [] tt (All-nil IsFull)))
