use Rattle.std.proofs.Common.{ap, sym, ◌∙◌}
use Rattle.heesch_region.specs.Bits.{bit_of}
use Rattle.heesch_region.proofs.Places.{inside-true}
use Rattle.heesch_region.proofs.Marking.{mark_more}
use Rattle.heesch_region.proofs.window.Window.mark.Goals as goal

pub returns : goal.returns
returns c d =
    let w = c.args.self in
    mark_more w c.args.words.now c.set_bit.new.words c.args.c (inside-true w c.args.c c.requires.inside) (ap (bit_of c.set_bit.new.words) (sym c.place.ensures.is) ∙ c.set_bit.ensures.here) (λ n ne. c.set_bit.ensures.other n (λ e. ne (e ∙ c.place.ensures.is))) d
