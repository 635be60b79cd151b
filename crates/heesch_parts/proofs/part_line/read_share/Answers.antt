use Rattle.std.proofs.Common.{◌≡◌, List, ℕ, ◌++◌, codes, ap, subst, ◌∙◌}
use Rattle.heesch_parts.specs.PartLines.{MakesShare}
use Rattle.heesch_parts.proofs.PartWords.{makes, fails}
use Rattle.heesch_parts.proofs.part_line.read_share.Goals as goal

pub returns-in-Ok-Empty : goal.returns-in-Ok-Empty
returns-in-Ok-Empty c =
    let all : c.as_slice.result.now ≡ codes "empty" ++ c.args.numbers.now = c.as_slice.ensures.value ∙ c.in_ok-append-2.ensures ∙ ap (λ (x : List ℕ). x ++ c.args.numbers.now) (c.in_ok-append.ensures ∙ ap (λ (x : List ℕ). x ++ codes "empty") c.new-bytes.ensures.items) in
    let line = rw c.in-Ok-Empty.field-0-is at c.in-Ok-Empty.ensures.ok in
    let made = subst (λ (x : List ℕ). MakesShare x c.share_of.result) c.as_slice-in-Ok-Empty.ensures c.share_of.ensures in
    makes c.args.numbers.now c.as_slice.result.now c.in-Ok-Empty.hints c.share_of.result all line.0 line.1 made

pub returns : goal.returns
returns c =
    let all : c.as_slice.result.now ≡ codes "empty" ++ c.args.numbers.now = c.as_slice.ensures.value ∙ c.in_ok-append-2.ensures ∙ ap (λ (x : List ℕ). x ++ c.args.numbers.now) (c.in_ok-append.ensures ∙ ap (λ (x : List ℕ). x ++ codes "empty") c.new-bytes.ensures.items) in
    fails c.args.numbers.now c.as_slice.result.now c.in-Err.fault all c.in-Err.ensures.not_a_line
