-- Goals of `LoopCache::recall`: what the loop of this point gave, if it began with the same value.
use Rattle.std.proofs.Common.{rules, ◌≡◌, ◌<◌, length, slice_index_or, subst}
use Rattle.lra_pass_results.proofs.CachedLoops.{recalled}
use Rattle.lra_pass_results.proofs.loop_cache.LoopCache.recall.Goals as goal

pub returns : goal.returns
returns g c others plan loops all =
    let place = c.in-Some.place in
    let one = c.index-one.result.now in
    let same : c.index-one.result.now.first ≡ c.args.first.now = search rules in
    let at : c.index-one.result.now ≡ slice_index_or c.args.self.now.kept.items c.in-Some.place c.index-one.result.now = search rules in
    let below = subst (λ xs. place < length xs) c.deref.ensures.value (c.find_kept.ensures.inside place c.in-Some.is) in
    let numbered = subst (λ xs. (slice_index_or xs place one).point ≡ c.args.point) c.deref.ensures.value (c.find_kept.ensures.point place one c.in-Some.is) in
    recalled (g.F.Interfere.interference others) g.D.Domain.abstraction plan loops c.args.point c.args.flag
    c.args.self.now.kept.items place one c.args.first.now c.in_ok-outcome.outcome all below at numbered same
    c.in_ok-outcome.ensures
