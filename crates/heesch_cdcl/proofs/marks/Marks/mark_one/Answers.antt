use Rattle.std.proofs.Common.{◌≡◌, ◌+◌, true, false, set, length, [], ◌∷◌, ◌++◌, sym, ap, subst, ◌∙◌, arith, rules}
use Rattle.std.proofs.lemmas.List.{get_or_read}
use Rattle.heesch_cdcl.specs.Marking.{Marking, AreCounted, marked}
use Rattle.heesch_cdcl.proofs.MarkLemmas.{AreCounted-more, unmarked}
use Rattle.heesch_cdcl.proofs.marks.Marks.mark_one.Goals as goal

pub invariant_of-self-then-is_at : goal.invariant_of-self-then-is_at
invariant_of-self-then-is_at c =
    let s = c.self.inside in
    let n = c.args.var in
    let view = c.self.view_is in
    let room : length s.seen.items ≡ c.args.trail.now.vars + 1 = ap (λ (ms : Marking). length ms.seen) view ∙ c.requires.marks.seen_room in
    let off : marked s.seen.items n ≡ false = sym (get_or_read s.seen.items n c.index.result.now (omega (arith, room, c.requires.range.1)) c.index.ensures false) ∙ c.if-index.false in
    let pushed : c.push.new.self.items ≡ s.touched.items ++ n ∷ [] = search rules in
    subst (λ vs. AreCounted (set s.seen.items n true) (set s.here.items n true) vs (s.pending + 1)) (sym pushed)
    (AreCounted-more s.seen.items s.here.items s.touched.items s.pending n c.self.invariant c.requires.range.0 (omega (arith, room, c.requires.range.1))
    (λ here. unmarked s.seen.items n off (ap (λ (ms : Marking). marked ms.seen n) view ∙ (c.requires.marks.here_seen n (sym (ap (λ (ms : Marking). marked ms.here n) view) ∙ here)).0)))
