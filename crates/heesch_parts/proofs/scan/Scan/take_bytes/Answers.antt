use Rattle.std.proofs.Common.{◌≡◌, List, ℕ, ◌++◌, take, sym, subst, append-nil, Err, arith, rules}
use Rattle.std.proofs.lemmas.List.{take_all}
use Rattle.heesch_parts.specs.Joining.{GoesTo, kept_of}
use Rattle.heesch_parts.proofs.Feeding.{nothing_new}
use Rattle.heesch_parts.proofs.Finishing.{goes_on, byte_more, byte_ends}
use Rattle.heesch_parts.proofs.scan.Scan.take_bytes.Goals as goal

pub take_byte-requires-clause-going : goal.take_byte-requires-clause-going
take_byte-requires-clause-going c =
    let g = c.loop-byte.invariant.goes c.requires.going.0 c.requires.going.1 c.requires.going.2 in
    (_, _, g.fed, c.loop-byte.invariant.has_room)

pub loop-byte-init : goal.loop-byte-init
loop-byte-init c = record {
  goes = λ before given fed. subst (λ (x : List ℕ). GoesTo x given c.args.items.now c.args.items.now (kept_of c.args.self.now)) (sym (append-nil before)) (nothing_new before given c.args.items.now (kept_of c.args.self.now) fed);
  room = omega arith;
  has_room = c.requires.going.3;
}

pub returns-in_err-take_byte-clause-fed : goal.returns-in_err-take_byte-clause-fed
returns-in_err-take_byte-clause-fed c = λ before given fed.
    let i = c.loop-byte.byte-index in
    let g = c.loop-byte.invariant.goes before given fed in
    let same : c.from_residual.result ≡ Err c.in_err-take_byte.field-0.0 = search rules in
    byte_ends c.from_residual.result before c.args.piece.now i 0 given c.args.items.now c.loop-byte.items c.take_byte.new.items (kept_of c.loop-byte.self) (kept_of c.take_byte.new.self) c.in_err-take_byte.field-0.0 c.loop-byte-test.true g
    (c.in_err-take_byte.ensures.fed (before ++ take i c.args.piece.now) _ g.fed) same

pub loop-byte-preserved : goal.loop-byte-preserved
loop-byte-preserved c = record {
  goes = λ before given fed.
      let i = c.loop-byte.byte-index in
      let g = c.loop-byte.invariant.goes before given fed in
      let h = c.in_ok-take_byte.ensures.fed (before ++ take i c.args.piece.now) _ g.fed in
      subst (λ (x : List ℕ). GoesTo x given c.args.items.now c.take_byte.new.items (kept_of c.take_byte.new.self)) (byte_more before c.args.piece.now i 0 c.loop-byte-test.true)
      (goes_on _ _ given c.args.items.now c.loop-byte.items c.take_byte.new.items (kept_of c.loop-byte.self) (kept_of c.take_byte.new.self) g h);
  room = omega (arith, c.loop-byte.invariant.room, c.in_ok-take_byte.ensures.room.0);
  has_room = c.in_ok-take_byte.ensures.room.1;
}

pub returns-clause-fed : goal.returns-clause-fed
returns-clause-fed c = λ before given fed.
    subst (λ (x : List ℕ). GoesTo (before ++ x) given c.args.items.now c.loop-byte.items (kept_of c.loop-byte.self)) (take_all c.loop-byte.byte-index c.args.piece.now c.loop-byte-test.false) (c.loop-byte.invariant.goes before given fed)
