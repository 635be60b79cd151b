use Rattle.std.proofs.Common.{[], inl, refl}
use Rattle.heesch_check.proofs.Behind.{piece_counts, reads_no_further}
use Rattle.heesch_check.proofs.reading.read_first.Goals as goal

pub pieces-smaller : goal.pieces-smaller
pieces-smaller g c =
    piece_counts _ _ c.pieces.stream c.read.new.stream c.pieces.items c.read.new.items c.in_ok-reading.reading c.in_ok-reading.ensures.ok c.in-More.is c.requires.may.0 [] (c.pieces.invariant.reads c.requires.may.0 c.requires.may.1)

pub returns-in_default-clause-no_further : goal.returns-in_default-clause-no_further
returns-in_default-clause-no_further g c first h = reads_no_further first (g.R.Source.left c.pieces.source) (g.R.Source.left c.read.new.source) [] c.pieces.stream (c.pieces.invariant.reads first h) (inl refl) c.read.ensures.one_piece

pub returns-then-not-is_empty-clause-no_further : goal.returns-then-not-is_empty-clause-no_further
returns-then-not-is_empty-clause-no_further g c first h = reads_no_further first (g.R.Source.left c.pieces.source) (g.R.Source.left c.read.new.source) [] c.pieces.stream (c.pieces.invariant.reads first h) (inl refl) c.read.ensures.one_piece

pub returns-in_err-reading-clause-no_further : goal.returns-in_err-reading-clause-no_further
returns-in_err-reading-clause-no_further g c first h = reads_no_further first (g.R.Source.left c.pieces.source) (g.R.Source.left c.read.new.source) [] c.pieces.stream (c.pieces.invariant.reads first h) (inl refl) c.read.ensures.one_piece
