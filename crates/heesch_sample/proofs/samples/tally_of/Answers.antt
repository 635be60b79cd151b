use Rattle.std.proofs.Common.{◌+◌, ◌++◌, ◌∙◌, ap, arith, length, map, slice_range, subst, take}
use Rattle.heesch_cert.specs.declared.entry.Entry.{Entry}
use Rattle.std.proofs.lemmas.List.{take_all}
use Rattle.heesch_catalogue.proofs.EntryLists.{entries_both}
use Rattle.heesch_sample.specs.Samples.{AreCountsOf, HaveCounts}
use Rattle.heesch_sample.proofs.Tallies.{entries_between, none_counted, round_counted, round_length}
use Rattle.heesch_sample.proofs.samples.tally_of.Goals as goal

pub loop-from-init : goal.loop-from-init
loop-from-init g c = record {
  within = omega arith;
  counted = none_counted g.G.Grid.geometry c.args.limits c.new-tally.result c.new-tally.ensures;
  shapes = cc;
}

pub add_entries-requires-clause-of_shapes : goal.add_entries-requires-clause-of_shapes
add_entries-requires-clause-of_shapes g c =
    let are = entries_between g.G.Grid.geometry c.args.limits c.args.shapes.now c.in_ok-entries.entries.items c.loop-from.from (c.loop-from.from + c.min.result) c.requires.canonical c.in_ok-entries.ensures in
    ap (map (λ (e : Entry). e.cells)) c.deref.ensures.value ∙ are.of_shapes

pub add_entries-requires-clause-few : goal.add_entries-requires-clause-few
add_entries-requires-clause-few g c =
    let limits = c.args.limits in
    let shapes = c.args.shapes.now in
    let entries = c.in_ok-entries.entries.items in
    let from = c.loop-from.from in
    let until = from + c.min.result in
    let are = entries_between g.G.Grid.geometry limits shapes entries from until c.requires.canonical c.in_ok-entries.ensures in
    omega (arith, round_length g.G.Grid.geometry limits shapes entries from until (omega arith) are, ap length c.deref.ensures.value, c.loop-from.invariant.shapes, c.requires.few, c.requires.count)

pub loop-from-preserved : goal.loop-from-preserved
loop-from-preserved g c =
    let geometry = g.G.Grid.geometry in
    let limits = c.args.limits in
    let shapes = c.args.shapes.now in
    let from = c.loop-from.from in
    let until = from + c.min.result in
    let entries = c.in_ok-entries.entries.items in
    let (before, are, counts) = c.loop-from.invariant.counted in
    let are_too = entries_between geometry limits shapes entries from until c.requires.canonical c.in_ok-entries.ensures in
    record {
      within = omega arith;
      counted = round_counted geometry limits shapes from until c.add_entries.new.tally (omega arith) (
        before ++ entries,
        entries_both geometry limits (take from shapes) (slice_range shapes from until) before entries are are_too,
        subst (λ es. AreCountsOf geometry (before ++ es) c.add_entries.new.tally) c.deref.ensures.value (c.in_ok-add_entries.ensures.ok before counts),
      );
      shapes = omega (
        arith,
        c.in_ok-add_entries.ensures.shapes,
        c.loop-from.invariant.shapes,
        ap length c.deref.ensures.value,
        round_length geometry limits shapes entries from until (omega arith) are_too,
      );
    }

pub returns : goal.returns
returns g c =
    subst (λ ss. HaveCounts g.G.Grid.geometry c.args.limits ss c.loop-from.tally) (take_all c.loop-from.from c.args.shapes.now (omega (arith, c.requires.count))) c.loop-from.invariant.counted
