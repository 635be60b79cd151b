use Rattle.std.proofs.Common.{◌≡◌, suc, ◌+◌, ◌-◌, arith}
use Rattle.heesch_grammar.proofs.Taking.{layers_stop, layers_more, behind_more}
use Rattle.heesch_grammar.proofs.parts.take_layers.Goals as goal

pub returns-in_default-line : goal.returns-in_default-line
returns-in_default-line c =
    let left : c.args.count - c.loop-i._i ≡ suc (c.args.count - (c.loop-i._i + 1)) = omega arith in
    let stopped = layers_stop _ _ _ _ _ _ _ _ c.in-Some.ensures.items c.in_default-line.not-Layer left c.loop-i.invariant.layers c.loop-i.invariant.rest in
    record { layers = stopped.0; rest = stopped.1 }

pub loop-i-preserved : goal.loop-i-preserved
loop-i-preserved c =
    let left : c.args.count - c.loop-i._i ≡ suc (c.args.count - (c.loop-i._i + 1)) = omega arith in
    record {
      layers = layers_more _ _ _ _ _ _ _ _ _ c.in-Some.ensures.items c.in-Layer.is left c.in_ok-push.ensures.ok c.loop-i.invariant.layers;
      rest = behind_more _ _ _ _ _ _ _ c.in-Some.ensures.items c.in-Layer.is left c.loop-i.invariant.rest;
    }
