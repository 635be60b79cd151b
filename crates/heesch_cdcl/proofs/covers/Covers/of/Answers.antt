use Rattle.std.proofs.Common.{◌≡◌, [], ◌∷◌, ◌++◌, All, length, length-append, map, sym, ap, subst, ◌∙◌, arith, rules}
use Rattle.std.proofs.lemmas.List.Elements.{All-map}
use Rattle.heesch_io.specs.Pieces.{AreEnds}
use Rattle.heesch_cnf.specs.Lines.{IsNumber}
use Rattle.heesch_io.proofs.Pieces.{AreEnds-push}
use Rattle.heesch_cdcl.specs.declared.covers.Cover.{Cover}
use Rattle.heesch_cdcl.proofs.covers.Covers.of.Goals as goal

pub loop-guard-preserved : goal.loop-guard-preserved
loop-guard-preserved c =
    let end = c.end_of-end.result in
    let pushed : c.push.new.self.items ≡ c.loop-guard.ends.items ++ end ∷ [] = search rules in
    record {
      count = omega (arith, ap length pushed, length-append c.loop-guard.ends.items (end ∷ []), c.loop-guard.invariant.count);
      cut = subst (λ es. AreEnds 0 es end) (sym pushed) (AreEnds-push 0 c.loop-guard.ends.items c.loop-guard.end end c.loop-guard.invariant.cut c.end_of-end.ensures.behind);
      within = omega (arith, ap length c.deref.ensures.value, c.end_of-end.ensures.within);
    }

pub returns-clause-numbers : goal.returns-clause-numbers
returns-clause-numbers c =
    let is = IsNumber c.args.formula.now.clauses in
    let same = c.in_ok-numbers_of.ensures ∙ ap (map (λ (x : Cover). x.number)) c.deref-2.ensures.value in
    subst (All is) (sym same) (All-map is (λ (x : Cover). x.number) c.in_ok-covers.covers.items c.in_ok-covers.ensures)
