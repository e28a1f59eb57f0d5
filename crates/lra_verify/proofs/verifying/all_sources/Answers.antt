-- Goals of `all_sources`: the segments from all sources, the start first.
use Rattle.std.proofs.Common.{◌≡◌, ◌++◌, ◌∷◌, [], List, length, map, slice_get, ap, sym, ◌∙◌, subst, arith, length-append}
use Rattle.std.proofs.lemmas.List.Elements.{All-append, All-cons, All-nil}
use Rattle.std.specs.List.{All}
use Rattle.lra_operations.specs.TreeViews.{site_view}
use Rattle.lra_paths.specs.{Paths.actions_between_in, declared.sources.Source.Source}
use Rattle.lra_verify.specs.Crates.lra_path_disjuncts.Tables.{IsTable}
use Rattle.lra_verify.specs.EdgeViews.{actions_out_of}
use Rattle.lra_verify.proofs.VerifySteps.{leads_pushed}
use Rattle.lra_verify.proofs.verifying.all_sources.Goals as goal

pub loop-source-preserved : goal.loop-source-preserved
loop-source-preserved c =
    let old = c.loop-source.sources.items in
    let led = c.in_ok-led.led in
    let n = c.loop-source.source in
    let pushed : c.push.new.self.items ≡ old ++ led ∷ [] = c.in_ok-push.ensures.items in
    let so_far = c.loop-source.invariant in
    let len = ap (λ (xs : List Source). length xs) pushed ∙ length-append old (led ∷ []) in
    let count = so_far.count in
    let h = c.loop-source-test.true in
    let paths = c.args.paths.now in
    record {
      count = omega (arith, len, count);
      within = omega (arith, h);
      tables = subst (λ (xs : List Source). All (λ s. IsTable s.entries.items) xs) (sym pushed)
          (All-append (λ s. IsTable s.entries.items) old (led ∷ []) so_far.tables
          (All-cons (λ s. IsTable s.entries.items) led [] c.in_ok-led.ensures.table (All-nil (λ s. IsTable s.entries.items))));
      leads = λ g ways p goal below.
          subst (λ (xs : List Source). actions_out_of (slice_get xs p) goal ≡ actions_between_in paths.globals.now (map site_view paths.sites.now) g p goal)
          (sym pushed)
          (leads_pushed (actions_between_in paths.globals.now (map site_view paths.sites.now) g) old led n count (so_far.leads g ways)
          (c.in_ok-led.ensures.leads g ways) p goal below);
    }

pub returns-clause-count : goal.returns-clause-count
returns-clause-count c =
    let h = c.loop-source-test.false in
    let w = c.loop-source.invariant.within in
    let n = c.loop-source.invariant.count in
    omega (arith, h, w, n)

pub returns-clause-leads : goal.returns-clause-leads
returns-clause-leads c = λ g ways p goal low.
    let h = c.loop-source-test.false in
    c.loop-source.invariant.leads g ways p goal (omega (arith, h, low))
