-- Goals of `LoopCache::keep`: this pass takes the place of the same loop's last one.
use Rattle.std.proofs.{Common.◌<◌, Common.sym, Common.subst, lemmas.List.Elements.All-set, lemmas.List.Elements.All-push}
use Rattle.std.specs.List.{All}
use Rattle.lra_pass_results.specs.LoopCache.{IsRecalled}
use Rattle.lra_pass_results.proofs.loop_cache.LoopCache.keep.Goals as goal

pub returns-in-Some : goal.returns-in-Some
returns-in-Some g c others plan loops f all one =
    All-set (IsRecalled (g.F.Interfere.interference others) g.D.Domain.abstraction plan loops f) c.args.self.now.kept.items c.in-Some.place c.args.one one all

pub returns-in_ok-push-in-None : goal.returns-in_ok-push-in-None
returns-in_ok-push-in-None g c others plan loops f all one =
    subst (λ xs. All (IsRecalled (g.F.Interfere.interference others) g.D.Domain.abstraction plan loops f) xs) (sym c.in_ok-push-in-None.ensures.items)
    (All-push (IsRecalled (g.F.Interfere.interference others) g.D.Domain.abstraction plan loops f) c.args.self.now.kept.items c.args.one all one)

pub index_mut-requires : goal.index_mut-requires
index_mut-requires g c = subst (λ n. c.in-Some.place < n) c.deref.ensures.len (c.find_kept.ensures.inside c.in-Some.place c.in-Some.is)
