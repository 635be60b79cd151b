use Rattle.std.proofs.Common.{◌≡◌, ◌<◌, ◌+◌, [], ◌∷◌, ◌++◌, length, take, sym, ap, subst, ◌∙◌, arith, append_assoc, append-nil}
use Rattle.std.proofs.lemmas.List.{take_more, take_all, length-map}
use Rattle.heesch_cert.specs.declared.entry.Entry.{Entry}
use Rattle.heesch_sample.specs.Samples.{AreCountsOf}
use Rattle.heesch_sample.proofs.Tallies.{cells_at, tallied_more}
use Rattle.heesch_sample.proofs.samples.add_entries.Goals as goal

pub loop-at-init : goal.loop-at-init
loop-at-init g c = record {
  tallied = λ before is. subst (λ es. AreCountsOf g.G.Grid.geometry es c.args.tally.now) (sym (append-nil before)) is;
  shapes = omega arith;
}

pub loop-at-preserved : goal.loop-at-preserved
loop-at-preserved g c =
    let entries = c.args.entries.now in
    let shapes = c.args.shapes.now in
    let i = c.loop-at.at in
    let entry = c.index-entries-at.result in
    let many : length shapes ≡ length entries = sym (ap length c.requires.of_shapes) ∙ length-map entries (λ (e : Entry). e.cells) in
    let less : i < length entries = c.loop-at-test.true in
    let low : i < length shapes = omega (arith, many, less) in
    let more : take (i + 1) entries ≡ take i entries ++ entry ∷ [] = take_more entries i entry less ∙ ap (λ e. take i entries ++ e ∷ []) (sym c.index-entries-at.is) in
    record {
      tallied = λ before is.
          let so_far = c.loop-at.invariant.tallied before is in
          tallied_more g.G.Grid.geometry (before ++ take i entries) (before ++ take (i + 1) entries) entry c.index-shapes-at.result c.loop-at.tally c.add_shape.new.self so_far
          (ap (λ es. before ++ es) more ∙ sym (append_assoc before (take i entries) (entry ∷ [])))
          (cells_at entries shapes i entry c.index-shapes-at.result c.requires.of_shapes less low c.index-entries-at.is c.index-shapes-at.is)
          (c.in_ok-add_shape.ensures.ok so_far.found so_far.counts_are);
      shapes = omega (arith, c.in_ok-add_shape.ensures.shapes, c.loop-at.invariant.shapes);
    }

pub returns-clause-ok : goal.returns-clause-ok
returns-clause-ok g c = λ before is.
    subst (λ es. AreCountsOf g.G.Grid.geometry (before ++ es) c.loop-at.tally) (take_all c.loop-at.at c.args.entries.now c.loop-at-test.false) (c.loop-at.invariant.tallied before is)
