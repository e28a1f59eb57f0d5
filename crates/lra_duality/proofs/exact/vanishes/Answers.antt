-- Goals of `vanishes`: whether the product of two rows is 0.
use Rattle.std.proofs.Common.{rules, refl, length, ◌<◌, ◌^◌, pos}
use Rattle.lra_duality.specs.Crates.lra_linear_spec.Vectors.{product}
use Rattle.lra_duality.proofs.ResidueLemmas.{last_left, one_left}
use Rattle.lra_duality.proofs.exact.vanishes.Goals as goal

pub returns : goal.returns
returns c =
    let short : length c.args.xs.now < 2 ^ 60 = search rules in
    last_left c.args.xs.now c.args.ys.now c.divides-5.result c.requires.xs_in c.requires.ys_in short (c.if-not-divides.ensures.0 refl) (c.if-not-divides-2.ensures.0 refl)
    (c.if-not-divides-3.ensures.0 refl) (c.if-not-divides-4.ensures.0 refl) c.divides-5.ensures

pub returns-then-not-divides : goal.returns-then-not-divides
returns-then-not-divides c = one_left (pos 9223372036854775783) (product c.args.xs.now c.args.ys.now) _ refl c.if-not-divides.ensures
