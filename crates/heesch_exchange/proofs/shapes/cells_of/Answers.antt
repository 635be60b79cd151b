use Rattle.std.proofs.Common.{take, refl, sym, subst, take_all}
use Rattle.std.proofs.lemmas.List.{take_more}
use Rattle.heesch_line.specs.Scanning.{IsScanned}
use Rattle.heesch_exchange.proofs.shapes.cells_of.Goals as goal

pub loop-byte-preserved : goal.loop-byte-preserved
loop-byte-preserved c =
    let line = c.args.line.now in
    let i = c.loop-byte.byte-index in
    subst (λ t. IsScanned t c.take.new.self) (sym (take_more line i 0 c.loop-byte-test.true)) (c.in_ok-take.ensures.taken (take i line) c.loop-byte.invariant)

pub returns-in-Ok-clause-ok : goal.returns-in-Ok-clause-ok
returns-in-Ok-clause-ok c =
    let line = c.args.line.now in
    let whole : IsScanned line c.loop-byte.read = subst (λ t. IsScanned t c.loop-byte.read) (take_all c.loop-byte.byte-index line c.loop-byte-test.false) c.loop-byte.invariant in
    c.in-Ok.ensures.ok line whole

pub returns-in-Err-NotALine-clause-stop : goal.returns-in-Err-NotALine-clause-stop
returns-in-Err-NotALine-clause-stop c =
    let line = c.args.line.now in
    let whole : IsScanned line c.loop-byte.read = subst (λ t. IsScanned t c.loop-byte.read) (take_all c.loop-byte.byte-index line c.loop-byte-test.false) c.loop-byte.invariant in
    let none = rw c.in-Err-NotALine.field-0-is at c.in-Err-NotALine.ensures.none in
    (refl, refl, none line whole refl)
