-- Goals of `equalities`: the equalities, one more than the dimensions if there is no point.
use Rattle.std.proofs.Common.{ap, length, refl, subst, suc, sym, ◌∙◌, ◌≡◌, ◌<◌, ℕ}
use Rattle.lra_poly_widening.proofs.{Places.width_at, WideningLemmas.no_equalities, WideningLemmas.one_row, WideningLemmas.some_equalities}
use Rattle.lra_poly_widening.proofs.ranking.equalities.Goals as goal

pub bounds-rows-0 : goal.bounds-rows-0
bounds-rows-0 c = subst (λ (n : ℕ). 0 < n) (ap length (sym c.rows.ensures.rows))
    (one_row c.args.p.now c.rows-list.result.now c.rows-list.ensures.canonical (c.if-is_empty.ensures.0 refl) c.rows-list.ensures.rows)

pub returns-then-is_empty : goal.returns-then-is_empty
returns-then-is_empty c =
    let empty = c.if-is_empty.ensures.0 refl in
    let some : 0 < length c.rows.result.now = subst (λ (n : ℕ). 0 < n) (ap length (sym c.rows.ensures.rows))
    (one_row c.args.p.now c.rows-list.result.now c.rows-list.ensures.canonical empty c.rows-list.ensures.rows) in
    let wide : length c.index-rows-0.result ≡ suc c.args.p.now.dims =
    width_at (suc c.rows-list.result.now.dims) c.rows.result.now 0 c.index-rows-0.result c.rows.ensures.widths some c.index-rows-0.is ∙ ap suc c.rows-list.ensures.dims in
    no_equalities c.args.p.now (length c.entries.result.now) c.rows-list.ensures.canonical empty (ap length c.entries.ensures.entries ∙ wide)

pub returns-else-is_empty : goal.returns-else-is_empty
returns-else-is_empty c = some_equalities c.args.p.now _ c.is_empty.result c.count_equalities.result c.rows-list.ensures.canonical c.rows-list.ensures.rows c.if-is_empty.false c.is_empty.ensures
    c.count_equalities.ensures
