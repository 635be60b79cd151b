use Rattle.std.proofs.Common.{◌≡◌, ◌<◌, true, false, None, List, [], length, get_or, All, vec_len, sym, ◌∙◌, subst, arith}
use Rattle.std.proofs.lemmas.List.{get_or_default}
use Rattle.heesch_cnf.specs.declared.literal.Lit.{Lit}
use Rattle.heesch_cnf.specs.Literals.{held}
use Rattle.heesch_rup.specs.Listed.{slot_at, IsFalsified, IsLastBelow}
use Rattle.heesch_rup.proofs.Hinted.{have_places}
use Rattle.heesch_rup.proofs.Chains.{walk_at, walk_more}
use Rattle.heesch_rup.proofs.occurrences.Occurrences.any_falsified.Goals.{else-place-count-via-then-place-count+else-is_falsified, else-place-count-via-else-place-count}
use Rattle.heesch_rup.proofs.occurrences.Occurrences.any_falsified.Goals as goal

pub is_falsified-requires : goal.is_falsified-requires
is_falsified-requires c =
    let clauses = c.args.clauses.now.clauses in
    let n = length c.args.values.now in
    let at = walk_at c.args.self.now.counts.items (held c.args.values.now) clauses (vec_len c.args.self.now.earlier) c.args.count c.args.slot c.loop-next.next c.in-Some.place c.in-Some.is c.loop-next.invariant in
    subst (λ (ls : List Lit). All (λ l. l.var < n) ls) (sym c.clause.ensures)
    (have_places c.args.clauses.now.vars n (get_or clauses c.in-Some.place []) c.requires.room (c.requires.form c.in-Some.place [] (omega (arith, at.0, c.requires.lists.within))))

pub loop-next-preserved : goal.loop-next-preserved
loop-next-preserved c =
    let clauses = c.args.clauses.now.clauses in
    let counts = c.args.self.now.counts.items in
    let values = held c.args.values.now in
    let place = c.in-Some.place in
    let o = c.index-next-in-Some.result.now in
    let at = walk_at counts values clauses (vec_len c.args.self.now.earlier) c.args.count c.args.slot c.loop-next.next place c.in-Some.is c.loop-next.invariant in
    let lt : place < length c.args.self.now.earlier.items = omega (arith, at.0) in
    let before = subst (IsLastBelow counts clauses place (slot_at counts clauses place)) (sym (c.index-next-in-Some.ensures ∙ get_or_default c.args.self.now.earlier.items place o None lt)) (c.requires.lists.earlier place lt) in
    walk_more counts values clauses (vec_len c.args.self.now.earlier) c.args.count c.args.slot c.loop-next.next place o c.in-Some.is c.loop-next.invariant
    (elim c.else-place-count.branch [
      | else-place-count-via-then-place-count+else-is_falsified w ↦ λ lt falsified. let bad : false ≡ true = sym w.if-is_falsified.false ∙ w.is_falsified.ensures.1 (subst (IsFalsified values) (sym w.clause.ensures) falsified) in cc
      | else-place-count-via-else-place-count w ↦ λ lt falsified. omega (arith, lt, w.if-place-count.false)
    ]) before
