-- Goals of `shorten`: the generators with n dimensions, the first ones.
use Rattle.std.proofs.Common.{◌∙◌, ◌<◌, add-one, ap, arith, length, rules, subst, suc, sym, take, ℕ}
use Rattle.lra_mapped_systems.proofs.ListLemmas.{kinds_more, mapped_kinds, mapped_listed, mapped_more, short_divisor}
use Rattle.lra_mapped_systems.proofs.lists.shorten.Goals as goal

pub loop-place-preserved : goal.loop-place-preserved
loop-place-preserved c = record {
  dims = search rules;
  rows = mapped_more (take (suc c.args.n)) c.rows-rows.result.now c.loop-place.all.rows c.push.new.self.rows
      c.loop-place.place c.index-rows-place.result c.in_ok-first_columns.field-0
      c.loop-place.invariant.rows c.loop-place-test.true c.index-rows-place.is
      (c.in_ok-first_columns.ensures ∙ ap (λ (w : ℕ). take w c.index-rows-place.result) (add-one c.args.n))
      c.in_ok-push.ensures.rows;
  kinds = kinds_more c.kinds-kinds.result.now c.loop-place.all.kinds c.push.new.self.kinds c.loop-place.place
      c.loop-place.invariant.kinds
      (subst (λ (n : ℕ). c.loop-place.place < n) (ap length c.rows-rows.ensures.rows ∙ sym c.kinds-kinds.ensures.len)
      c.loop-place-test.true) c.in_ok-push.ensures.kinds;
}

pub returns-clause-generators : goal.returns-clause-generators
returns-clause-generators c =
    mapped_listed (take (suc c.args.n)) c.args.list.now c.loop-place.all c.rows-rows.result.now c.kinds-kinds.result.now
    c.loop-place.place c.loop-place.invariant.rows c.loop-place.invariant.kinds
    c.rows-rows.ensures.rows c.kinds-kinds.ensures.kinds (omega arith) c.kinds-kinds.ensures.len

pub returns-clause-kinds : goal.returns-clause-kinds
returns-clause-kinds c =
    mapped_kinds (take (suc c.args.n)) c.args.list.now c.loop-place.all c.rows-rows.result.now c.kinds-kinds.result.now
    c.loop-place.place c.loop-place.invariant.rows c.loop-place.invariant.kinds
    c.rows-rows.ensures.rows c.kinds-kinds.ensures.kinds (omega arith) c.kinds-kinds.ensures.len
    (λ r k. short_divisor c.args.n r) c.requires.kinds
