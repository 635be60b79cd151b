use Rattle.std.proofs.Common.{◌≡◌, List, Option, ℕ, ◌≤◌, true, subst, rules}
use Rattle.std.specs.Prelude.{MatchOption}
use Rattle.heesch_grid.specs.declared.Cell.{Cell}
use Rattle.heesch_cert.specs.Parts.{IsLeastFailing}
use Rattle.heesch_cert.specs.TrueEntry.{ClassesHold, CoverHolds, FormFits, FreeHolds}
use Rattle.heesch_audit.specs.Portions.{PartsHold}
use Rattle.heesch_audit.specs.Walls.{IsSearchFailure}
use Rattle.heesch_audit.proofs.Parts.{least_search}
use Rattle.heesch_audit.proofs.Proofs.{if_ok_more}
use Rattle.heesch_audit.proofs.audited.Audited.failing_part.Goals as goal

pub returns : goal.returns
returns g c =
    let geometry = g.G.Grid.geometry in
    let limits = c.args.self.now.limits in
    let entry = c.args.self.now.entry.now in
    let same = c.requires.same in
    let form_yes : c.form_fits.result ≡ true = search rules in
    let cover_yes : c.in_ok-cover_holds.field-0 ≡ true = search rules in
    let classes_yes : c.in_ok-classes_hold.field-0 ≡ true = search rules in
    let free_yes : c.in_ok-free_holds.field-0 ≡ true = search rules in
    let form = subst (λ (cells : List Cell). FormFits geometry limits cells entry.verdict entry.evidence) same (c.form_fits.ensures.0 form_yes) in
    let cover = subst (λ (cells : List Cell). CoverHolds geometry cells entry.evidence) same (c.in_ok-cover_holds.ensures.0 cover_yes) in
    let classes = subst (λ (cells : List Cell). ClassesHold geometry cells entry.verdict entry.evidence) same (c.in_ok-classes_hold.ensures.0 classes_yes) in
    let free = subst (λ (cells : List Cell). FreeHolds geometry cells entry.verdict entry.evidence) same (c.in_ok-free_holds.ensures.0 free_yes) in
    if_ok_more (IsSearchFailure geometry limits c.args.self.now.shape.now entry.verdict entry.evidence) (λ (o : Option ℕ). MatchOption o (PartsHold geometry limits entry) (λ part. (part ≤ 8) × IsLeastFailing geometry limits entry part)) (λ o h. least_search geometry limits entry c.requires.canonical form cover classes free o (subst (λ (cells : List Cell). IsSearchFailure geometry limits cells entry.verdict entry.evidence o) same h)) c.failing_search.result c.failing_search.ensures
