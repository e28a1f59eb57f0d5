-- Goals of `universe`: all points of n dimensions.
use Rattle.std.proofs.Common.{◌≡◌, ◌∙◌, ap, length, sym, suc}
use Rattle.lra_cone.proofs.Stepped.{lines_have_width, rays_have_width}
use Rattle.lra_description_pair.proofs.{KnownPairs.none_known, PairLists.universe_made}
use Rattle.lra_description_pair.proofs.pair.universe.Goals as goal

pub generator_list-requires-clause-lines : goal.generator_list-requires-clause-lines
generator_list-requires-clause-lines c = lines_have_width c.in_ok-cone.cone (suc c.args.n) c.lines.result.now c.lines.ensures.cone
    (ap suc (sym c.in_ok-cone.ensures.dims)) c.lines.ensures.lines

pub generator_list-requires-clause-rays : goal.generator_list-requires-clause-rays
generator_list-requires-clause-rays c = rays_have_width c.in_ok-cone.cone (suc c.args.n) c.rays.result.now c.rays.ensures.cone
    (ap suc (sym c.in_ok-cone.ensures.dims)) c.rays.ensures.rays

pub invariant_of-result : goal.invariant_of-result
invariant_of-result c =
    let u = universe_made c.in_ok-cone.cone c.args.n c.lines.result.now c.rays.result.now c.new-rows.result c.in_ok-generators.generators c.lines.ensures.cone
    c.in_ok-cone.ensures.dims
    c.in_ok-cone.ensures.taken c.lines.ensures.lines c.rays.ensures.rays c.in_ok-generators.ensures.shown c.new-rows.ensures.dims c.new-rows.ensures.rows
    c.in_ok-generators.ensures.dims in
    let list = c.in_ok-generators.generators in
    let many = ap length (sym c.kinds-kinds.ensures.kinds) ∙ c.kinds-kinds.ensures.len in
    let wide : length c.kinds-kinds.result.now ≡ length list.rows = c.kinds-kinds.ensures.len in (
      u.0.canonical,
      u.1,
      u.2,
      u.3,
      none_known c.new-rows.result list (length c.kinds-kinds.result.now) c.new-saturation.result c.new-rows.ensures.rows c.new-rows.ensures.kinds many wide
          c.new-saturation.ensures,
    )

pub returns : goal.returns
returns c = (universe_made c.in_ok-cone.cone c.args.n c.lines.result.now c.rays.result.now c.new-rows.result c.in_ok-generators.generators c.lines.ensures.cone
    c.in_ok-cone.ensures.dims
    c.in_ok-cone.ensures.taken c.lines.ensures.lines c.rays.ensures.rays c.in_ok-generators.ensures.shown c.new-rows.ensures.dims c.new-rows.ensures.rows
    c.in_ok-generators.ensures.dims).0
