use Rattle.std.proofs.Common.{◌+◌, ◌*◌, length, replicate, None, [], sym, ap, ◌∙◌}
use Rattle.heesch_trail.specs.State.{State}
use Rattle.heesch_trail.specs.Watches.{Watching}
use Rattle.heesch_trail.proofs.Marks.{Watched-open}
use Rattle.heesch_trail.proofs.trail.Trail.over.Goals as goal

pub invariant_of-result : goal.invariant_of-result
invariant_of-result c =
    let t = c.in_ok-over.field-0 in
    let w = c.in_ok-watches.watches in
    let opened = c.in_ok-over.ensures.opened in
    let vars = ap (λ (st : State). st.vars) opened in
    let clauses = ap (λ (st : State). length st.clauses) opened in
    Watched-open t w (length c.args.formula.clauses) c.new.result.items c.in_ok-over.ensures.valid (ap (λ (st : State). st.steps) opened) (sym clauses)
    (c.in_ok-watches.ensures ∙ ap (λ n. let x : Watching = record { pairs = replicate (length c.args.formula.clauses) None; lists = replicate (2 * n + 2) [] } in x) (sym vars)) c.new.ensures.items
