-- Goals of `key_rows`: the rows in their order, each with what decides its place.
use Rattle.std.proofs.Common.{◌≡◌, ℤ, List, suc, map, length, ap, sym, ◌∙◌, refl, subst, arith}
use Rattle.std.proofs.lemmas.List.Elements.{All-push, All-nil}
use Rattle.std.specs.List.{All}
use Rattle.lra_farkas.specs.Crates.lra_linear_spec.Kinds.{is_equality}
use Rattle.lra_systems.proofs.LinearRows.{all_given}
use Rattle.lra_farkas.specs.{KeyedRows.row_of_keyed, declared.orders.Keyed.Keyed}
use Rattle.lra_farkas.proofs.KeyedRows.{keyed_pushed}
use Rattle.lra_farkas.proofs.orders.key_rows.Goals as goal

pub loop-place-init : goal.loop-place-init
loop-place-init c = record {
  so_far = ap (map row_of_keyed) c.new-keyed.ensures.items;
  widths = subst (All (λ (k : Keyed). length k.row ≡ suc c.args.rows.now.dims)) (sym c.new-keyed.ensures.items)
      (All-nil (λ (k : Keyed). length k.row ≡ suc c.args.rows.now.dims));
}

pub loop-place-preserved : goal.loop-place-preserved
loop-place-preserved c =
    let rows = c.args.rows.now in
    let l = c.len-place-end.ensures.rows in
    let many : length rows.rows ≡ length rows.kinds = sym l ∙ c.len-place-end.ensures.kinds in
    let t = c.loop-place-test.true in
    let x : Keyed = record { key = c.key_of-key.result; row = c.in_ok-row.row; kind = c.at-kind.result.1 } in
    record {
      so_far = keyed_pushed rows.rows rows.kinds c.loop-place.keyed.items c.push.new.self.items c.loop-place.place c.at-kind.result.0.now c.at-kind.result.1 x
          many (omega (arith, l, t)) c.at-kind.ensures.row c.at-kind.ensures.kind c.in_ok-row.ensures refl c.in_ok-push.ensures.items
          c.loop-place.invariant.so_far;
      widths = subst (All (λ (k : Keyed). length k.row ≡ suc rows.dims)) (sym c.in_ok-push.ensures.items)
          (All-push (λ (k : Keyed). length k.row ≡ suc rows.dims) c.loop-place.keyed.items x c.loop-place.invariant.widths
          (ap (λ (r : List ℤ). length r) c.in_ok-row.ensures ∙ c.at-kind.ensures.width));
    }

pub returns-clause-rows : goal.returns-clause-rows
returns-clause-rows c =
    let rows = c.args.rows.now in
    let l = c.len-place-end.ensures.rows in
    let many : length rows.rows ≡ length rows.kinds = sym l ∙ c.len-place-end.ensures.kinds in
    let past = c.loop-place-test.false in
    let before = c.loop-place.auto.place-end in
    c.loop-place.invariant.so_far ∙ all_given is_equality rows.rows rows.kinds c.loop-place.place many (omega (arith, l, past, before))
