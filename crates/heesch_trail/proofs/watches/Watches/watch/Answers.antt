use Rattle.std.proofs.Common.{[], get_or, Contains, sym, subst}
use Rattle.heesch_trail.specs.Watches.{Watching, Names, AreMore, list_of}
use Rattle.heesch_trail.proofs.Enlisted.{Names-kept, Listed-kept, More-both}
use Rattle.heesch_trail.proofs.watches.Watches.watch.Goals as goal

pub enlist-requires-2-clause-listed : goal.enlist-requires-2-clause-listed
enlist-requires-2-clause-listed c = Listed-kept c.args.self.now c.enlist.new.self c.args.index c.enlist.ensures.pairs c.enlist.ensures.kept c.requires.listed

pub returns-in_err-enlist-2-clause-kept : goal.returns-in_err-enlist-2-clause-kept
returns-in_err-enlist-2-clause-kept c place e has = c.enlist-2.ensures.kept place e (c.enlist.ensures.kept place e has)

pub returns-in_err-enlist-2-clause-more : goal.returns-in_err-enlist-2-clause-more
returns-in_err-enlist-2-clause-more c =
    More-both c.args.pair c.args.index c.args.binary c.args.self.now.lists c.enlist.new.self.lists c.enlist-2.new.self.lists c.enlist.ensures.others c.enlist.ensures.more c.enlist-2.ensures.others c.enlist-2.ensures.more

pub returns-clause-kept : goal.returns-clause-kept
returns-clause-kept c place e has =
    subst (λ (w : Watching). Contains (get_or w.lists place []) e) (sym c.set_pair.ensures) (c.enlist-2.ensures.kept place e (c.enlist.ensures.kept place e has))

pub returns-clause-one_there : goal.returns-clause-one_there
returns-clause-one_there c =
    subst (λ (w : Watching). Names (list_of w.lists c.args.pair.one) c.args.index) (sym c.set_pair.ensures)
    (Names-kept c.enlist.new.self.lists c.enlist-2.new.self.lists c.args.pair.one c.args.index c.enlist-2.ensures.kept c.in_ok-enlist.ensures.there)

pub returns-clause-more : goal.returns-clause-more
returns-clause-more c =
    subst (λ (w : Watching). AreMore c.args.pair c.args.index c.args.binary c.args.self.now.lists w.lists) (sym c.set_pair.ensures)
    (More-both c.args.pair c.args.index c.args.binary c.args.self.now.lists c.enlist.new.self.lists c.enlist-2.new.self.lists c.enlist.ensures.others c.enlist.ensures.more c.enlist-2.ensures.others c.enlist-2.ensures.more)
