-- What outputs of all shares are joined to.
use Rattle.std.proofs.Common.{sym, ◌∙◌}
use Rattle.heesch_text.specs.Catalogue.{catalogue_text}
use Rattle.heesch_parts.specs.Shares.{entries_of}
use Rattle.heesch_parts.proofs.OneJoin.{one_join}
use Rattle.heesch_parts.specs.AllShares.{JoinedSharesAreCatalogues, ShareOutputsAreShares, together}
use Rattle.heesch_parts.proofs.Together.{Whole, whole_of}

pub outputs_are_shares : ShareOutputsAreShares
outputs_are_shares g header n outputs all = let w = whole_of g header n outputs all in (w.shares, w.are)

pub joined_are_catalogues : JoinedSharesAreCatalogues
joined_are_catalogues g header n outputs joined all is =
    let w : Whole g header n (together outputs) = whole_of g header n outputs all in
    let (same_header, same_shares) = one_join (together outputs) header is.header w.shares is.shares w.are is.are in
    (w.shapes, w.free, (entries_of w.shares, w.entries, w.read, is.output_is ∙ sym (λ i. catalogue_text (same_header i) (entries_of (same_shares i)))))
