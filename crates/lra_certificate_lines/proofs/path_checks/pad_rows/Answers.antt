-- Goals of `pad_rows`: the rows of a source, over so many symbols.
use Rattle.std.proofs.Common.{arith, ◌≡◌, ◌+◌, ◌-◌, ◌++◌, ℕ, suc, ap, sym, ◌∙◌, map, length}
use Rattle.lra_certificate_lines.specs.Crates.lra_linear_spec.Vectors.{zeros}
use Rattle.lra_certificate_spec.specs.Certificates.{padded}
use Rattle.lra_certificate_lines.proofs.TrackSteps.{padded_pushed, padded_length, all_constraints}
use Rattle.lra_multipliers.proofs.ListedKinds.{kinds_pushed}
use Rattle.lra_certificate_lines.proofs.path_checks.pad_rows.Goals as goal

pub loop-place-preserved : goal.loop-place-preserved
loop-place-preserved c =
    let r = c.at-kind.result.0.now in
    let is : c.in_ok-row.row ≡ r ++ zeros (suc c.args.dims - length r) =
    c.in_ok-row.ensures ∙ ap (λ (n : ℕ). r ++ zeros (n - length r)) (let n : c.args.dims + 1 ≡ suc c.args.dims = omega arith in n) in
    record {
      so_far = padded_pushed c.args.rows.now c.loop-place.wide c.push.new.self c.loop-place.place c.at-kind.result.0.now c.in_ok-row.row c.at-kind.result.1
          c.at-kind.ensures.row c.at-kind.ensures.kind c.loop-place.invariant.kinds c.in_ok-push.ensures.rows c.in_ok-push.ensures.kinds (suc c.args.dims)
          is c.loop-place.invariant.so_far;
      dims = c.push.ensures.dims ∙ c.loop-place.invariant.dims;
      kinds = kinds_pushed c.loop-place.wide c.push.new.self c.in_ok-row.row c.at-kind.result.1 c.loop-place.invariant.kinds c.in_ok-push.ensures.rows
          c.in_ok-push.ensures.kinds;
    }

pub push-requires : goal.push-requires
push-requires c =
    let n : c.args.dims + 1 ≡ suc c.args.dims = omega arith in
    let w = c.at-kind.ensures.width in
    let r = c.requires.room in
    padded_length c.at-kind.result.0.now c.in_ok-row.row (c.args.dims + 1) (omega (arith, w, r)) c.in_ok-row.ensures ∙ n ∙
    ap suc (sym c.loop-place.invariant.dims)

pub returns-clause-rows : goal.returns-clause-rows
returns-clause-rows c =
    let h = c.loop-place-test.false in
    let l = c.len-place-end.ensures.rows in
    c.loop-place.invariant.so_far ∙ ap (map (padded (suc c.args.dims))) (all_constraints c.args.rows.now c.loop-place.place (omega (arith, h, l)))
