-- Goals of `head_of`: the source of an input.
use Rattle.std.proofs.Common.{◌≡◌, ◌-◌, ℤ, Vec, Option, length, take, drop, length-drop, refl, subst, arith, IfSome, option_map}
use Rattle.std.proofs.{lemmas.List.take_all, lemmas.Option.slice_get_read}
use Rattle.std.specs.Global.{Global}
use Rattle.lra_verify.specs.HeadViews.{head_view}
use Rattle.lra_verify.proofs.HeadSteps.{head_told}
use Rattle.lra_verify.proofs.head.head_of.Goals as goal

pub returns-clause-head : goal.returns-clause-head
returns-clause-head c =
    let v = c.in-Some.numbers in
    let z = c.index.result.now in
    let read = c.in_ok-numbers_behind in
    let one = subst (λ (o : Option (Vec ℤ Global)). IfSome o (λ n. length n.items ≡ 1)) c.in-Some.is read.ensures.count in
    let b = c.split_at.result.1.now in
    let l = length-drop 1 b in
    head_told c.args.bytes.now c.split_at.result.0.now b (take (length b - 1) (drop 1 b)) c.place_of.result read.field-0 v z
    (option_map head_view c.source_by.result) c.place_of.ensures.place c.split_at.ensures.front c.split_at.ensures.back (take_all (length b - 1) (drop 1 b) (omega (arith, l))) read.ensures.numbers
    c.in-Some.is one
    (slice_get_read v.items (length v.items) 0 z refl (omega (arith, one)) c.index.ensures) c.source_by.ensures.head
