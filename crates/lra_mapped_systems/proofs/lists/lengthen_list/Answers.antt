-- Goals of `lengthen_list`: the generators with k more columns of zeros.
use Rattle.std.proofs.Common.{◌∙◌, ◌++◌, ◌<◌, ap, arith, length, subst, suc, sym, ℕ}
use Rattle.lra_mapped_systems.specs.Crates.lra_linear_spec.Vectors.{zeros}
use Rattle.lra_mapped_systems.proofs.{ListLemmas.kinds_more, ListLemmas.longer_entry, ListLemmas.mapped_kinds, ListLemmas.mapped_listed, ListLemmas.mapped_more, PushedLists.longer_length}
use Rattle.lra_mapped_systems.proofs.lists.lengthen_list.Goals as goal

pub push-requires : goal.push-requires
push-requires c =
    let row = c.index-rows-place.result in
    longer_length row c.in_ok-lengthen.field-0 c.args.k c.args.list.now.dims c.in_ok-lengthen.ensures
    (ap length c.index-rows-place.is ∙ c.rows-rows.ensures.widths c.loop-place.place row c.loop-place-test.true)
    ∙ ap suc (sym c.loop-place.invariant.dims)

pub loop-place-preserved : goal.loop-place-preserved
loop-place-preserved c = record {
  dims = c.in_ok-push.ensures.dims ∙ c.loop-place.invariant.dims;
  rows = mapped_more (λ r. r ++ zeros c.args.k) c.rows-rows.result.now c.loop-place.all.rows c.push.new.self.rows
      c.loop-place.place c.index-rows-place.result c.in_ok-lengthen.field-0 c.loop-place.invariant.rows
      c.loop-place-test.true c.index-rows-place.is c.in_ok-lengthen.ensures c.in_ok-push.ensures.rows;
  kinds = kinds_more c.kinds-kinds.result.now c.loop-place.all.kinds c.push.new.self.kinds c.loop-place.place
      c.loop-place.invariant.kinds
      (subst (λ (n : ℕ). c.loop-place.place < n) (ap length c.rows-rows.ensures.rows ∙ sym c.kinds-kinds.ensures.len)
      c.loop-place-test.true) c.in_ok-push.ensures.kinds;
}

pub returns-clause-generators : goal.returns-clause-generators
returns-clause-generators c =
    mapped_listed (λ r. r ++ zeros c.args.k) c.args.list.now c.loop-place.all c.rows-rows.result.now
    c.kinds-kinds.result.now c.loop-place.place c.loop-place.invariant.rows c.loop-place.invariant.kinds
    c.rows-rows.ensures.rows c.kinds-kinds.ensures.kinds (omega arith) c.kinds-kinds.ensures.len

pub returns-clause-kinds : goal.returns-clause-kinds
returns-clause-kinds c =
    mapped_kinds (λ r. r ++ zeros c.args.k) c.args.list.now c.loop-place.all c.rows-rows.result.now
    c.kinds-kinds.result.now c.loop-place.place c.loop-place.invariant.rows c.loop-place.invariant.kinds
    c.rows-rows.ensures.rows c.kinds-kinds.ensures.kinds (omega arith) c.kinds-kinds.ensures.len
    (λ r m. longer_entry c.args.k r 0) c.requires.kinds
