use Rattle.std.proofs.Common.{◌∙◌, List, All, ap, subst, sym}
use Rattle.heesch_reader.specs.declared.item.Item.{Item}
use Rattle.heesch_reader.specs.Items.{lines_of}
use Rattle.heesch_text.specs.Lines.{text_of}
use Rattle.heesch_parts.proofs.OneJoin.{joined_text}
use Rattle.heesch_parts.specs.Joined.{IsFull}
use Rattle.heesch_parts.proofs.JoinedTexts.{joined_full}
use Rattle.heesch_parts.proofs.joined_texts.joined_text.Goals as goal

pub written-requires : goal.written-requires
written-requires g c =
    let (text, left, few, are) = c.in_ok-items.ensures.ok in
    subst (All IsFull) (sym (c.as_slice.ensures ∙ are.joined)) (joined_full are.header are.shares)

pub returns-in-Ok-clause-ok : goal.returns-in-Ok-clause-ok
returns-in-Ok-clause-ok g c =
    let (text, left, few, are) = c.in_ok-items.ensures.ok in
    let same = c.as_slice.ensures ∙ are.joined in (
      text,
      left,
      few,
      record {
        header = are.header;
        shares = are.shares;
        are = are.are;
        output_is = c.in-Ok.ensures ∙ ap (λ (all : List Item). text_of (lines_of all)) same ∙ joined_text are.header are.shares are.are.header_is;
      },
    )
