use Rattle.std.proofs.Common.{◌++◌, [], inl, inr, refl, sym, subst, arith}
use Rattle.std.proofs.lemmas.List.{append-nil}
use Rattle.heesch_check.specs.Reading.{IsReading}
use Rattle.heesch_check.proofs.Behind.{piece_counts, gathered_on, gathered_more, lacks_items}
use Rattle.heesch_check.proofs.reading.gather.Goals as goal

pub pieces-init : goal.pieces-init
pieces-init g c = record {
  more = ([], sym (append-nil c.args.items.now));
  grown = inl refl;
  counts = omega arith;
  goes_on = λ first found h. subst (IsReading first (g.R.Source.left c.args.source.now) (found ++ c.args.items.now) c.args.stream.now) c.in-More.is h;
  stops = λ first found h. inl refl;
  later = omega arith;
}

pub pieces-smaller : goal.pieces-smaller
pieces-smaller g c =
    let may = c.requires.may in
    piece_counts _ _ c.pieces.stream c.read.new.stream c.pieces.items c.read.new.items c.in_ok-reading.reading c.in_ok-reading.ensures.ok c.in-More-reading.is may.0 (may.1 ++ c.pieces.items) (c.pieces.invariant.goes_on may.0 may.1 may.2)

pub pieces-preserved : goal.pieces-preserved
pieces-preserved g c =
    let r = c.in_ok-reading.ensures.ok in
    let before = g.R.Source.left c.pieces.source in
    let now = g.R.Source.left c.read.new.source in
    let grows = r.grows c.in-More-reading.is in
    record {
      more = gathered_more before now c.pieces.stream c.read.new.stream c.args.items.now c.pieces.items c.read.new.items c.in_ok-reading.reading c.pieces.invariant.more r;
      grown = inr (omega (arith, grows, c.pieces.invariant.counts));
      counts = omega (arith, grows, c.pieces.invariant.counts);
      goes_on = λ first found h.
          subst (IsReading first now (found ++ c.read.new.items) c.read.new.stream) c.in-More-reading.is
          (gathered_on first before now found c.pieces.items c.read.new.items c.pieces.stream c.read.new.stream c.in_ok-reading.reading (c.pieces.invariant.goes_on first found h) r);
      stops = λ first found h.
          inr (lacks_items first before now found c.args.items.now c.pieces.items c.pieces.stream c.args.enough (c.pieces.invariant.goes_on first found h) c.pieces.invariant.more (omega (arith, c.len.ensures, c.pieces-test.true)) c.read.ensures.one_piece);
      later = omega (arith, c.pieces.invariant.later, c.read.ensures.later);
    }

pub returns-in_default-reading : goal.returns-in_default-reading
returns-in_default-reading g c =
    let r = c.in_ok-reading.ensures.ok in
    let before = g.R.Source.left c.pieces.source in
    let now = g.R.Source.left c.read.new.source in
    let m = gathered_more before now c.pieces.stream c.read.new.stream c.args.items.now c.pieces.items c.read.new.items c.in_ok-reading.reading c.pieces.invariant.more r in
    record {
      ok = record {
        more = m.0;
        after_is = m.1;
        are_enough = λ e. absurd (c.in_default-reading.not-More e);
        from_more = λ e. absurd (c.in_default-reading.not-More e);
        grown = λ e. absurd (c.in_default-reading.not-More e);
        goes_on = λ first found h. gathered_on first before now found c.pieces.items c.read.new.items c.pieces.stream c.read.new.stream c.in_ok-reading.reading (c.pieces.invariant.goes_on first found h) r;
      };
      no_further = λ first found h.
          inr (lacks_items first before now found c.args.items.now c.pieces.items c.pieces.stream c.args.enough (c.pieces.invariant.goes_on first found h) c.pieces.invariant.more (omega (arith, c.len.ensures, c.pieces-test.true)) c.read.ensures.one_piece);
      failed = λ e. absurd cc;
      later = omega (arith, c.pieces.invariant.later, c.read.ensures.later);
    }

pub returns-in_err-reading-clause-no_further : goal.returns-in_err-reading-clause-no_further
returns-in_err-reading-clause-no_further g c first found h =
    inr (lacks_items first (g.R.Source.left c.pieces.source) (g.R.Source.left c.read.new.source) found c.args.items.now c.pieces.items c.pieces.stream c.args.enough (c.pieces.invariant.goes_on first found h) c.pieces.invariant.more (omega (arith, c.len.ensures, c.pieces-test.true)) c.read.ensures.one_piece)
