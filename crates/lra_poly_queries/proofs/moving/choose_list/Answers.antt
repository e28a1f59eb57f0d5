-- Goals of `choose_list`: the generators with these dimensions.
use Rattle.std.proofs.Common.{◌∙◌, ◌<◌, ap, arith, length, subst, suc, sym, ℕ, refl}
use Rattle.lra_mapped_systems.proofs.ListLemmas.{kinds_more, mapped_kinds, mapped_listed, mapped_more}
use Rattle.lra_poly_queries.specs.Moved.{chosen}
use Rattle.lra_poly_queries.proofs.MovedSets.{chosen_width}
use Rattle.lra_poly_queries.proofs.moving.choose_list.Goals as goal

pub push-requires : goal.push-requires
push-requires c =
    chosen_width c.args.dims.now c.index-rows-place.result c.in_ok-choose.field-0 c.in_ok-choose.ensures
    ∙ ap suc (sym c.loop-place.invariant.dims)

pub loop-place-preserved : goal.loop-place-preserved
loop-place-preserved c = record {
  dims = c.in_ok-push.ensures.dims ∙ c.loop-place.invariant.dims;
  rows = mapped_more (chosen c.args.dims.now) c.rows-rows.result.now c.loop-place.all.rows c.push.new.self.rows
      c.loop-place.place c.index-rows-place.result c.in_ok-choose.field-0 c.loop-place.invariant.rows
      c.loop-place-test.true c.index-rows-place.is c.in_ok-choose.ensures c.in_ok-push.ensures.rows;
  kinds = kinds_more c.kinds-kinds.result.now c.loop-place.all.kinds c.push.new.self.kinds c.loop-place.place
      c.loop-place.invariant.kinds
      (subst (λ (n : ℕ). c.loop-place.place < n) (ap length c.rows-rows.ensures.rows ∙ sym c.kinds-kinds.ensures.len)
      c.loop-place-test.true) c.in_ok-push.ensures.kinds;
}

pub returns-clause-generators : goal.returns-clause-generators
returns-clause-generators c =
    mapped_listed (chosen c.args.dims.now) c.args.list.now c.loop-place.all c.rows-rows.result.now
    c.kinds-kinds.result.now c.loop-place.place c.loop-place.invariant.rows c.loop-place.invariant.kinds
    c.rows-rows.ensures.rows c.kinds-kinds.ensures.kinds (omega arith) c.kinds-kinds.ensures.len

pub returns-clause-kinds : goal.returns-clause-kinds
returns-clause-kinds c =
    mapped_kinds (chosen c.args.dims.now) c.args.list.now c.loop-place.all c.rows-rows.result.now
    c.kinds-kinds.result.now c.loop-place.place c.loop-place.invariant.rows c.loop-place.invariant.kinds
    c.rows-rows.ensures.rows c.kinds-kinds.ensures.kinds (omega arith) c.kinds-kinds.ensures.len
    (λ r m. refl) c.requires
