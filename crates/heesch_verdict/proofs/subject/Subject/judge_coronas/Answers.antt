use Rattle.std.proofs.Common.{rules}
use Rattle.heesch_cert.specs.TrueEntry.{TriplesShow}
use Rattle.heesch_verdict.proofs.Coronas.{coronas_judged}
use Rattle.heesch_verdict.proofs.subject.Subject.judge_coronas.Goals as goal

pub returns : goal.returns
returns g c =
    let geometry = g.G.Grid.geometry in
    let self = c.args.self.now in
    let walled = c.in_ok-h.field-0 in
    let opened = c.in_ok-m.field-0 in
    let w = c.in_ok-h.ensures in
    let o = c.in_ok-m.ensures in
    let verdict = c.verdict_of-verdict in
    let settled : TriplesShow geometry self.limits self.shape.now verdict.result c.in-Triples.triples = search rules in
    coronas_judged geometry self.limits self.shape.now c.requires.shape c.requires.no_plain walled w opened o verdict.result
    (verdict.ensures.fits self.limits opened.wider w.ends o.fits) verdict.ensures.first (verdict.ensures.last geometry self.limits self.shape.now o.shows) c.in-Triples.triples settled
