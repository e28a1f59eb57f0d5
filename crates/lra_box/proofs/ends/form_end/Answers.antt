-- Goals of `form_end`: the least or the greatest value of a form over the intervals.
use Rattle.std.proofs.{Common.rules, Common.◌≡◌, Common.[], Common.◌∷◌, Common.None, Common.Some, Common.FitsSigned, Common.to_z, Common.of_z, lemmas.Int.to_z-of_z, lemmas.List.nil_from_length}
use Rattle.std.specs.Int.{w64, w128}
use Rattle.lra_box.proofs.EndLemmas.{ends_here, ends_none, ends_on}
use Rattle.lra_box.proofs.ends.form_end.Goals as goal

-- as in `sum_end`, with one clause: what is reported from here on is reported from the start
pub loop-factor-preserved : goal.loop-factor-preserved
loop-factor-preserved c =
    let f : c.loop-factor.factors.now ≡ c.in-Some-Some.factor.now ∷ c.in-Some-Some.factors_left.now = search rules in
    let i : c.loop-factor.intervals.now ≡ c.in-Some-Some.interval.now ∷ c.in-Some-Some.intervals_left.now = search rules in
    let wide : to_z w128 (of_z w128 (to_z w64 (of_z w64 c.in-Some-Some.factor.now))) ≡ c.in-Some-Some.factor.now = search rules in
    let fit : FitsSigned w128 c.in-Some.more = search rules in
    let more = rw wide at c.in-Some.ensures in
    let rest = rw (f, i) at c.loop-factor.invariant.rest in
    rw (to_z-of_z w128 c.in-Some.more fit) (record {
      same_length = search rules;
      rest = λ o told. rest o (ends_on c.args.side _ _ c.in-Some-Some.factor.now c.in-Some-Some.interval.now
          c.in-Some-Some.factors_left.now c.in-Some-Some.intervals_left.now o more told);
    })

pub returns-in-None : goal.returns-in-None
returns-in-None c =
    let f : c.loop-factor.factors.now ≡ c.in-Some-Some.factor.now ∷ c.in-Some-Some.factors_left.now = search rules in
    let i : c.loop-factor.intervals.now ≡ c.in-Some-Some.interval.now ∷ c.in-Some-Some.intervals_left.now = search rules in
    let wide : to_z w128 (of_z w128 (to_z w64 (of_z w64 c.in-Some-Some.factor.now))) ≡ c.in-Some-Some.factor.now = search rules in
    let none = rw wide at c.in-None.ensures in
    let rest = rw (f, i) at c.loop-factor.invariant.rest in
    rest None (ends_none c.args.side _ c.in-Some-Some.factor.now c.in-Some-Some.interval.now
    c.in-Some-Some.factors_left.now c.in-Some-Some.intervals_left.now none)

pub returns-in_default-2 : goal.returns-in_default-2
returns-in_default-2 c =
    let nil : c.loop-factor.factors.now ≡ [] = nil_from_length _ c.in_default.ensures.cases in
    let rest = rw nil at c.loop-factor.invariant.rest in
    rest (Some _) (ends_here c.args.side _ c.loop-factor.intervals.now)
