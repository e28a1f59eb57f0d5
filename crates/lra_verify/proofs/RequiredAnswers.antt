-- What an input must get, by the answer to its program and to the lines after its source.
use Rattle.std.proofs.Common.{◌≡◌, ◌≤◌, ◌<◌, inl, inr, ℕ, List, length, Option, Some, None, Result, Ok, Err, IfOk, refl, ap, sym, ◌∙◌, subst, arith}
use Rattle.std.proofs.lemmas.List.{length-map}
use Rattle.lra_verify.specs.Crates.lra_resolution_spec.EntryPoint.{at_main}
use Rattle.lra_verify.specs.Crates.lra_certificate_spec.Claims.{IsProgram, program_of, HasHead, VerifiesTo, verified, source_refused, line_refused, greatest_certificate}
use Rattle.lra_verify.specs.Crates.lra_certificate_spec.Judged.{Head, judged, head_of, too_long, bad_line}
use Rattle.lra_verify.specs.Crates.{lra_base.declared.refusals.Cause.Cause, lra_base.declared.refusals.Place.Place, lra_front_end.Stages.HasTree, lra_front_end.Stages.HasInlinedTree}
use Rattle.lra_verify.specs.Crates.{lra_front_end.declared.front.AcceptedSource.AcceptedSource, lra_program.Program.Program, lra_program.ProgramViews.program_view, lra_program.Sites.Site}
use Rattle.lra_verify.specs.Crates.{lra_program.Sites.sites_of, lra_resolution_spec.Refuse.Refuse, lra_resolution_spec.Resolve.resolve, lra_syntax.Grammar.Spells, lra_syntax.Views.tree_view}
use Rattle.lra_operations.specs.{Tree.Node, TreeViews.node_view, TreeViews.site_view}
use Rattle.lra_paths.specs.Paths.{AreFewPaths}
use Rattle.lra_certificate_lines.specs.declared.refusals.VerifyError.TheVariants.{Refused, Memory}
use Rattle.lra_certificate_lines.specs.declared.refusals.VerifyRefusal.TheVariants.{Source, Paths, Line}
use Rattle.lra_certificate_lines.specs.{LineViews.IsJudgedAs, declared.refusals.VerifyError.VerifyError}
use Rattle.lra_verify.specs.{HeadViews.head_view, RefusalViews.IfRefused, SourceViews.IsAnswerTo}
use Rattle.lra_verify.proofs.Crates.lra_certificate_spec.JudgedBothWays.{few_points, judged_exactly}
use Rattle.std.specs.{List.All, Prelude.map, Prelude.option_map, Prelude.◌^◌}
use Rattle.lra_verify.specs.declared.head.Head as declared
use Rattle.lra_verify.proofs.VerifySteps.{live_few}

-- what is reported about the lines, if the paths are few
pub lines_answer : (P : Program) (g : Node) (rest : List ℕ) (result : Result (ℕ × ℕ) VerifyError) → AreFewPaths P g →
    IsJudgedAs (λ (r : ℕ × ℕ). r) (judged P g rest) result → IsAnswerTo P g rest result
lines_answer P g rest (Ok r) few told = (few, told)
lines_answer P g rest (Err (Refused (Line n fault))) few told = (few, told)
lines_answer P g rest (Err (Refused (Source r))) few told = told
lines_answer P g rest (Err (Refused (Paths p))) few told = absurd told
lines_answer P g rest (Err Memory) few told = told

module _ (bytes : List ℕ) (h : Head) (has : HasHead bytes h) (x : IsProgram h.source) where
  pub required_numbers : (result : Result (ℕ × ℕ) VerifyError) → IsAnswerTo (program_of x) x.operations h.rest result →
      IfOk result (λ r. VerifiesTo bytes (verified r.0 r.1))
  required_numbers (Ok r) a = (judged_exactly bytes r.0 r.1).0 h x (record { short = has.0; head = has.1; few = a.0; taken = a.1 })
  required_numbers (Err e) a = tt

  pub required_refusal : (result : Result (ℕ × ℕ) VerifyError) → IsAnswerTo (program_of x) x.operations h.rest result →
      IfRefused result (VerifiesTo bytes)
  required_refusal (Ok r) a = tt
  required_refusal (Err (Refused (Line n fault))) a = inr (inr (h, has, x, a.0, a.1))
  required_refusal (Err (Refused (Source r))) a = absurd a
  required_refusal (Err (Refused (Paths p))) a = (h, has, x, a)
  required_refusal (Err Memory) a = tt

-- an input that is too long, one without a head, and one whose source is refused
pub too_long_deserved : (bytes : List ℕ) → greatest_certificate < length bytes → VerifiesTo bytes (line_refused (record { line = 0; fault = too_long }))
too_long_deserved bytes h = inl (h, refl)

pub no_head_deserved : (bytes : List ℕ) → length bytes ≤ greatest_certificate → head_of bytes ≡ None →
    VerifiesTo bytes (line_refused (record { line = 0; fault = bad_line }))
no_head_deserved bytes h e = inr (inl (h, e, refl))

module _ (bytes : List ℕ) (o : Option declared.Head) (head : declared.Head) (short : length bytes ≤ greatest_certificate)
    (read : option_map head_view o ≡ head_of bytes) (some : o ≡ Some head) where
  has_head : HasHead bytes (head_view head)
  has_head = (short, sym read ∙ ap (option_map head_view) some)

  pub source_deserved : (cause : Cause) (place : Place) → Refuse at_main Spells head.source.now cause place → VerifiesTo bytes (source_refused cause place)
  source_deserved cause place r = (head_view head, has_head, r)

  module _ (f : AcceptedSource) (tree : HasTree head.source.now (tree_view f.tree))
      (graph : HasInlinedTree (tree_view f.tree) (node_view f.graph.tree) (map site_view f.graph.sites.items))
      (program : program_view f.resolution.program ≡ resolve (tree_view f.tree)) where
    abbrev is_program : IsProgram head.source.now
    is_program = record {
      tree = tree_view f.tree;
      read = tree;
      operations = node_view f.graph.tree;
      sites = map site_view f.graph.sites.items;
      graph = graph;
    }

    pub program_sites : map site_view f.graph.sites.items ≡ sites_of (program_view f.resolution.program)
    program_sites = graph.points ∙ ap sites_of (sym program)

    pub program_few : length f.graph.sites.items < 2 ^ 31
    program_few =
        let n = few_points is_program in
        let l = length-map f.graph.sites.items site_view in
        let m = ap (λ (x : List Site). length x) graph.points in
        omega (arith, n, l, m)

    pub program_live : All (λ s. s.live < 2 ^ 31) f.graph.sites.items
    program_live = live_few f.graph.sites.items (sites_of (resolve (tree_view f.tree))) graph.points graph.few

    pub judged_numbers : (result : Result (ℕ × ℕ) VerifyError) →
        IsAnswerTo (program_view f.resolution.program) (node_view f.graph.tree) head.rest.now result →
        IfOk result (λ r. VerifiesTo bytes (verified r.0 r.1))
    judged_numbers result a = required_numbers bytes (head_view head) has_head is_program result
        (subst (λ (P : Program). IsAnswerTo P (node_view f.graph.tree) head.rest.now result) program a)

    pub judged_refusal : (result : Result (ℕ × ℕ) VerifyError) →
        IsAnswerTo (program_view f.resolution.program) (node_view f.graph.tree) head.rest.now result → IfRefused result (VerifiesTo bytes)
    judged_refusal result a = required_refusal bytes (head_view head) has_head is_program result
        (subst (λ (P : Program). IsAnswerTo P (node_view f.graph.tree) head.rest.now result) program a)
