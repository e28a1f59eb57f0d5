-- Goals of `flag_of`: the number of a flag.
use Rattle.std.proofs.Common.{arith}
use Rattle.lra_threads_source.proofs.PointNumbers.{sum_before}
use Rattle.lra_threads_source.proofs.listing.flag_of.Goals as goal

pub number_of-requires : goal.number_of-requires
number_of-requires c =
    let (graph, there, low) = c.requires.flag c.in-Some.thread c.in-Some.point c.in-Some.is in
    let all = sum_before c.args.graphs.now c.in-Some.thread graph there in
    let few = c.requires.few in
    omega (arith, low, all, few)

pub overflow_add-result : goal.overflow_add-result
overflow_add-result c =
    let (graph, there, low) = c.requires.flag c.in-Some.thread c.in-Some.point c.in-Some.is in
    let all = sum_before c.args.graphs.now c.in-Some.thread graph there in
    let few = c.requires.few in
    let count = c.count_points.ensures in
    let number = c.number_of.ensures in
    omega (arith, low, all, few, count, number)
