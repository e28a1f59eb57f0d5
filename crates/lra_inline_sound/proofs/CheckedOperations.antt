-- If something holds of what is on top of a run, it holds of what its tree asks there: where a run stops by a number, and where an access is outside.
use Rattle.std.proofs.Common.{◌≡◌, ℕ, [], length, Some, None, refl, ap, subst, slice_get}
use Rattle.lra_inline_sound.specs.Crates.{lra_program.NextOperation.NextOpIs, lra_program.Program.Program, lra_program.Run.start, lra_program.Run.IsOn, lra_program.Run.Reaches, lra_program.Sites.Site}
use Rattle.lra_inline_sound.specs.Crates.{lra_program.Sites.sites_of, lra_program.Step.State, lra_program.Step.Config, lra_program.Traces.NoChange}
use Rattle.lra_inline_sound.proofs.Crates.lra_program.TraceLaws.{walk_of}
use Rattle.lra_operations.specs.CheckedOperations.{AgreesOnOps, TreesAgreeOnOverflows, TreesAgreeOnAccesses}
use Rattle.lra_operations.specs.{Agree.IsInlinedTree, Agree.point_of, Agree.AreDistinct, TracesAgree.KeepsWidth, Tree.Node}
use Rattle.lra_inline_sound.proofs.NextOperations.{Question, overflows, strays, Asks, all_in}
use Rattle.lra_inline_sound.proofs.{OncePerPoint.Unasked, OncePerPoint.asked_once, Reached.reached}

alone_keeps : KeepsWidth NoChange
alone_keeps s t e = ap (λ (x : State). length x.store) e

module _ (Q : Question) (unasked : Unasked Q.asks) (P : Program) (g : Node) (distinct : AreDistinct (sites_of P)) (is : IsInlinedTree P g) where
  asks_there : (number : ℕ) (s : Site) (c : Config) → slice_get (sites_of P) number ≡ Some s → Reaches P c → IsOn c (point_of s)
      → NextOpIs Q.holds P c.items c.here c.state → Asks Q (all_in Q None g) number c.state
  asks_there number s c at r on over =
      let walk = walk_of P r.length (start P r.draws) c [] r.steps in
      let hit = reached NoChange alone_keeps Q P g is c walk.0 (point_of s) r.draws r.length walk.1 on in
      subst (λ q. Asks Q (all_in Q None g) q c.state) (distinct hit.number number _ s hit.site at on.path refl) (hit.asks None over)

  pub graph_asks : AgreesOnOps Q.asks Q.holds P g
  graph_asks = record {
    once = asked_once Q.asks unasked P g is;
    there = λ number s c at r on over. let x = asks_there number s c at r on over in (x.asked, x.among, x.there, x.holds);
  }

pub trees_agree_on_overflows : TreesAgreeOnOverflows
trees_agree_on_overflows = graph_asks overflows (record { appends = λ t. refl; anys = λ x. refl; keeps = λ n. refl })

pub trees_agree_on_accesses : TreesAgreeOnAccesses
trees_agree_on_accesses P g distinct is n = graph_asks (strays n) (record { appends = λ t. refl; anys = λ x. refl; keeps = λ n. refl }) P g distinct is
