use Rattle.std.proofs.Common.{arith}
use Rattle.std.proofs.lemmas.List.{get_or_default}
use Rattle.heesch_text.proofs.Tiles.{starts, goes_on, ends, natural, keeps}
use Rattle.heesch_text.proofs.evidence.append_tiles.Goals as goal

pub loop-i-init : goal.loop-i-init
loop-i-init c = starts _ _ _

pub returns-in_err-append_tile_line-clause-kept : goal.returns-in_err-append_tile_line-clause-kept
returns-in_err-append_tile_line-clause-kept c = keeps _ _ _ _ _ _ c.loop-i.invariant c.append_tile_line.ensures.kept

pub loop-i-preserved : goal.loop-i-preserved
loop-i-preserved c = goes_on c.args.out.now.items c.loop-i.out.items c.append_tile_line.new.out.items c.loop-i.i c.args.places.now c.args.members.now _ _ (omega arith) (omega arith)
    (get_or_default c.args.places.now c.loop-i.i _ _ (omega arith)) c.index-members-i.is c.loop-i.invariant c.in_ok-append_tile_line.ensures.ok c.in_ok-append_tile_line.ensures.naturals

pub returns-clause-ok : goal.returns-clause-ok
returns-clause-ok c = ends _ _ _ _ _ (omega arith) c.loop-i.invariant

pub returns-clause-naturals : goal.returns-clause-naturals
returns-clause-naturals c = natural _ _ _ _ _ (omega arith) c.loop-i.invariant
