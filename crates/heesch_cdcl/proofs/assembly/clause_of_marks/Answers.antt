use Rattle.std.proofs.Common.{◌≡◌, ◌+◌, [], ◌∷◌, ◌++◌, get_or, Vec, Global, sym, ap, ◌∙◌, subst, refl, arith, rules}
use Rattle.heesch_cnf.specs.declared.literal.Lit.{Lit}
use Rattle.heesch_cdcl.specs.Marked.{IsClauseOfMarked}
use Rattle.heesch_cdcl.proofs.Assembled.{AreSorted-read, IsAssembled, Assembled-none, Assembled-push, Assembled-skip, Assembled-whole}
use Rattle.heesch_cdcl.proofs.assembly.clause_of_marks.Goals as goal
use Rattle.heesch_cdcl.proofs.assembly.clause_of_marks.Goals.{then-last-var+in_ok-map_err, else-last-var}

pub loop-var-init : goal.loop-var-init
loop-var-init c =
    let trail = c.args.trail.now in
    subst (IsAssembled trail.vars trail.steps c.args.marks.now.seen c.deref-var-items.result.now 0 0) (sym c.in_ok-clause.ensures.items)
    (Assembled-none trail.vars trail.steps c.args.marks.now.seen c.deref-var-items.result.now)

pub false_literal-requires : goal.false_literal-requires
false_literal-requires c =
    let trail = c.args.trail.now in
    let m = c.args.marks.now in
    let s = AreSorted-read trail.vars m.seen c.keep.new.kept.items c.sort_unstable.new.self.items c.deref-var-items.result.now c.requires c.in_ok-keep.ensures c.sort_unstable.ensures.permutation c.sort_unstable.ensures.sorted c.deref-var-items.ensures.value in
    (s.in_range c.loop-var.var-index 0 c.loop-var-test.true).1

pub loop-var-preserved : goal.loop-var-preserved
loop-var-preserved c =
    let trail = c.args.trail.now in
    let m = c.args.marks.now in
    let read = c.deref-var-items.result.now in
    let i = c.loop-var.var-index in
    let v = get_or read i 0 in
    let s = AreSorted-read trail.vars m.seen c.keep.new.kept.items c.sort_unstable.new.self.items read c.requires c.in_ok-keep.ensures c.sort_unstable.ensures.permutation c.sort_unstable.ensures.sorted c.deref-var-items.ensures.value in
    elim c.if-last-var.branch [
      | then-last-var+in_ok-map_err w ↦
          let pushed : w.push.new.self.items ≡ c.loop-var.clause.items ++ w.false_literal.result ∷ [] = search rules in
          let clause = ap (λ (x : Vec Lit Global). x.items) w.clause-is ∙ pushed ∙ ap (λ l. c.loop-var.clause.items ++ l ∷ []) w.false_literal.ensures in
          subst (λ n. IsAssembled trail.vars trail.steps m.seen read (i + 1) n c.if-last-var.clause.items) (sym w.last-is)
          (subst (IsAssembled trail.vars trail.steps m.seen read (i + 1) v) (sym clause)
          (Assembled-push trail.vars trail.steps m.seen read i c.loop-var.last v c.loop-var.clause.items s c.loop-var.invariant c.loop-var-test.true refl w.if-last-var.true))
      | else-last-var w ↦
          subst (λ n. IsAssembled trail.vars trail.steps m.seen read (i + 1) n c.if-last-var.clause.items) (sym w.last-is)
          (subst (IsAssembled trail.vars trail.steps m.seen read (i + 1) c.loop-var.last) (sym (ap (λ (x : Vec Lit Global). x.items) w.clause-is))
          (Assembled-skip trail.vars trail.steps m.seen read i c.loop-var.last v c.loop-var.clause.items s c.loop-var.invariant c.loop-var-test.true refl w.if-last-var.false))
    ]

pub returns : goal.returns
returns c =
    let trail = c.args.trail.now in
    let m = c.args.marks.now in
    let s = AreSorted-read trail.vars m.seen c.keep.new.kept.items c.sort_unstable.new.self.items c.deref-var-items.result.now c.requires c.in_ok-keep.ensures c.sort_unstable.ensures.permutation c.sort_unstable.ensures.sorted c.deref-var-items.ensures.value in
    subst (IsClauseOfMarked trail.vars trail.steps m.seen) (sym c.from_vec.ensures)
    (Assembled-whole trail.vars trail.steps m.seen c.deref-var-items.result.now c.loop-var.var-index c.loop-var.last c.loop-var.clause.items s c.loop-var.invariant (omega arith))
