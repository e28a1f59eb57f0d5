-- Goals of `vanishes_where`: whether the products of the row with the generators vanish exactly where the bits say so.
use Rattle.std.proofs.Common.{arith, ap, subst, sym, ◌∙◌, ◌≡◌, ◌≢◌, ◌<◌, [], get_or, length, map, false, true, Bool, List, ℕ, ℤ}
use Rattle.std.proofs.lemmas.List.{get_or_default}
use Rattle.lra_poly_widening.specs.Crates.{lra_bits.TruthValues.value_at, lra_linear_spec.Descriptions.LinearRow, lra_linear_spec.Kinds.is_line}
use Rattle.lra_poly_widening.proofs.Crates.{lra_duality.InclusionLemmas.seen_generators, lra_duality.SaturationLemmas.given_length}
use Rattle.lra_poly_widening.specs.Saturated.{same_values, vanishes}
use Rattle.lra_poly_widening.proofs.AlikeLemmas.{agree_all, differ_at, unequal}
use Rattle.lra_poly_widening.proofs.ranking.vanishes_where.Goals as goal

-- the value that is found there isn't the one that is reported
apart_there : (f : List ℤ → Bool) (rows : List (List ℤ)) (i : ℕ) (r : List ℤ) (b found told : Bool) → i < length rows → r ≡ get_or rows i r → found ≡ f r → told ≡ b → found ≢ told →
    b ≢ f (get_or rows i [])
apart_there f rows i r b found told m is e t other same =
    other (e ∙ ap f (is ∙ get_or_default rows i r [] m) ∙ sym same ∙ sym t)

pub get-requires : goal.get-requires
get-requires c =
    let wide : length c.args.bits.now ≡ length c.rows-rows.result.now = c.requires.bits ∙
    given_length is_line c.args.list.now.rows c.args.list.now.kinds (ap length (sym c.kinds-kinds.ensures.kinds) ∙ c.kinds-kinds.ensures.len) ∙ ap length (sym c.rows-rows.ensures.rows) in
    subst (λ (n : ℕ). c.loop-place.place < n) (sym wide) c.loop-place-test.true

pub returns-then-vanishes-get : goal.returns-then-vanishes-get
returns-then-vanishes-get c =
    let rows = c.rows-rows.result.now in
    let i = c.loop-place.place in
    let r = c.index-rows-place.result in
    let many : length c.kinds-kinds.result.now ≡ length rows = c.kinds-kinds.ensures.len ∙ ap length (sym c.rows-rows.ensures.rows) in
    let wide : length c.args.bits.now ≡ length rows = c.requires.bits ∙
    given_length is_line c.args.list.now.rows c.args.list.now.kinds (ap length (sym c.kinds-kinds.ensures.kinds) ∙ c.kinds-kinds.ensures.len) ∙ ap length (sym c.rows-rows.ensures.rows) in
    seen_generators (λ (l : List LinearRow). false ≡ same_values c.args.bits.now (map (λ (g : LinearRow). vanishes c.args.row.now g.row) l)) c.args.list.now rows c.kinds-kinds.result.now
    c.rows-rows.ensures.rows c.kinds-kinds.ensures.kinds
    (differ_at is_line (vanishes c.args.row.now) rows c.kinds-kinds.result.now c.args.bits.now i many wide c.loop-place-test.true
    (apart_there (vanishes c.args.row.now) rows i r (value_at c.args.bits.now i) c.vanishes.result c.get.result c.loop-place-test.true c.index-rows-place.is c.vanishes.ensures c.get.ensures
    (unequal c.vanishes.result c.get.result c.if-vanishes-get.true)))

pub returns : goal.returns
returns c =
    let rows = c.rows-rows.result.now in
    let many : length c.kinds-kinds.result.now ≡ length rows = c.kinds-kinds.ensures.len ∙ ap length (sym c.rows-rows.ensures.rows) in
    seen_generators (λ (l : List LinearRow). true ≡ same_values c.args.bits.now (map (λ (g : LinearRow). vanishes c.args.row.now g.row) l)) c.args.list.now rows c.kinds-kinds.result.now
    c.rows-rows.ensures.rows c.kinds-kinds.ensures.kinds
    (agree_all is_line (vanishes c.args.row.now) rows c.kinds-kinds.result.now c.args.bits.now many (λ j m. c.loop-place.invariant j (omega (arith, m, c.loop-place-test.false))))
