use Rattle.std.proofs.Common.{◌≡◌, ◌∙◌, true, List, map, length, sym, ap, subst, rules}
use Rattle.heesch_grid.specs.declared.Cell.{Cell}
use Rattle.heesch_grid.specs.Listing.{ListsExactly}
use Rattle.heesch_cert.specs.declared.entry.Evidence.{Evidence}
use Rattle.heesch_cert.specs.declared.entry.TripleProof.{TripleProof}
use Rattle.heesch_cert.specs.TrueEntry.{area_before}
use Rattle.heesch_torus.specs.Domains.{IsTripleUpTo}
use Rattle.heesch_audit.specs.Portions.{AreTriplesAsked}
use Rattle.heesch_audit.proofs.Listed.{are_all}
use Rattle.heesch_audit.proofs.audited.Audited.are_asked.Goals as goal

pub returns : goal.returns
returns g c =
    let geometry = g.G.Grid.geometry in
    let shape = c.args.self.now.shape.now in
    let limits = c.args.self.now.limits in
    let written = c.in-Search.written in
    let all = c.in_ok-all.all.items in
    let listed : ListsExactly area_before (IsTripleUpTo geometry (length shape) limits.domain) all = subst (λ (cells : List Cell). ListsExactly area_before (IsTripleUpTo geometry (length cells) limits.domain) c.in_ok-all.all.items) c.cells.ensures.cells c.in_ok-all.ensures in
    let yes : c.is_undecided.result ≡ true = search rules in
    let undecided = c.is_undecided.ensures.0 yes in
    let exactly = are_all (IsTripleUpTo geometry (length shape) limits.domain) all (map (λ (x : TripleProof). x.triple) written) listed in
    let told = c.are_triples_of.ensures in (
      (λ t. subst (λ (e : Evidence). AreTriplesAsked geometry limits shape c.args.self.now.entry.now.verdict e) (sym c.in-Search.is) (record {
        all_searched = λ u. exactly.0 (ap (map (λ (x : TripleProof). x.triple)) (sym c.as_slice.ensures) ∙ (told.0 t ∙ c.as_slice-2.ensures.value));
        none_else = λ decided. absurd (decided undecided);
      })),
      (λ h.
          let shows = subst (λ (e : Evidence). AreTriplesAsked geometry limits shape c.args.self.now.entry.now.verdict e) c.in-Search.is h in
          told.1 (ap (map (λ (x : TripleProof). x.triple)) c.as_slice.ensures ∙ (exactly.1 (shows.all_searched undecided) ∙ sym c.as_slice-2.ensures.value))),
    )
