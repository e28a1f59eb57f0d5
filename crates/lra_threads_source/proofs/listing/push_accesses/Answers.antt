-- Goals of `push_accesses`: what is judged of the accesses of one thread more.
use Rattle.std.proofs.{Common.length, Common.refl, Common.arith, lemmas.Option.slice_get_read}
use Rattle.lra_threads_source.proofs.listing.push_accesses.Goals as goal

pub push_judged-requires-clause-judged : goal.push_judged-requires-clause-judged
push_judged-requires-clause-judged c = λ graph there.
    let found = c.args.found.now in
    let of = c.requires.found.each c.threads.k graph c.index-found-k.result there
    (slice_get_read found (length found) c.threads.k c.index-found-k.result refl c.threads-test.true c.index-found-k.is) in
    record {
      assertions = λ k d h. absurd (omega (arith, h));
      fitting = λ k d h. absurd (omega (arith, h));
      inside = rw c.deref.ensures.value of.inside;
    }
