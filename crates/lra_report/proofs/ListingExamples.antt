-- What the report of a source lists.
use Rattle.std.proofs.Common.{◌≡◌, ℕ, [], ◌∷◌, refl}
use Rattle.std.specs.{Fmt.digits, Prelude.codes, Prelude.nat_eq, Prelude.nat_lt, Prelude.cond}
use Rattle.lra_report.specs.Listing.{listed_point, computing_from, Subject, subjects, accesses_from, AreListed, AreJudged}
use Rattle.lra_report.specs.{Report.PointReport, declared.verdict_kinds.VerdictKind.TheVariants.Access}
use Rattle.lra_report.specs.Crates.{lra_program.Program.Element, lra_program.Program.input, lra_program.Sites.Site, lra_program.Sites.sites_of, lra_syntax.Labels.labels_of}
use Rattle.lra_resolution_spec.specs.{LiveNames.globals_named, Resolve.resolve}
use Rattle.lra_operations.specs.Inlined.{InlineItems, main_inline_state, as_declaration, as_fresh, as_statement, as_assign, as_value, as_assert, as_none}
use Rattle.lra_operations.specs.{Agree.IsInlinedTree, Tree.Node, Tree.seq, Tree.point}
use Rattle.lra_base.specs.declared.number_types.NumberType.TheVariants.{Long}
use Rattle.lra_report.proofs.Crates.lra_syntax.TreeSamples.{at, literal_text, one_variable, called_twice, call_in_step}
use Rattle.lra_report.proofs.ReportTextExamples as report
use Rattle.lra_resolution_spec.proofs.SiteExamples.{site}

-- the second call's points: paths, places and names
abbrev second_call : ℕ → Site → PointReport
second_call number s = listed_point (globals_named called_twice.parts) (labels_of called_twice) number s []

called_twice_listed : ((second_call 6 (site (5 ∷ []) 1 2)).path ≡ codes "main/inc@1:71")
    × ((second_call 6 (site (5 ∷ []) 1 2)).place ≡ at 19)
    × ((second_call 6 (site (5 ∷ []) 1 2)).names ≡ codes "x~1" ∷ codes "x" ∷ [])
    × ((second_call 9 (site [] 6 1)).place ≡ at 79)
unfolding digits
called_twice_listed = (refl, refl, refl, refl)

-- paths of two calls, places and names
abbrev listed_in_step : ℕ → Site → PointReport
listed_in_step number s = listed_point (globals_named call_in_step.parts) (labels_of call_in_step) number s []

call_in_step_listed : ((listed_in_step 2 (site (9 ∷ []) 3 3)).path ≡ codes "main/h@1:112")
    × ((listed_in_step 2 (site (9 ∷ []) 3 3)).place ≡ at 47)
    × ((listed_in_step 5 (site (5 ∷ 9 ∷ []) 1 4)).path ≡ codes "main/h@1:112/k@1:66")
    × ((listed_in_step 5 (site (5 ∷ 9 ∷ []) 1 4)).place ≡ at 17)
    × ((listed_in_step 5 (site (5 ∷ 9 ∷ []) 1 4)).names ≡ codes "m" ∷ codes "a" ∷ codes "i" ∷ codes "d" ∷ [])
    × ((listed_in_step 10 (site (7 ∷ 9 ∷ []) 2 3)).path ≡ codes "main/h@1:112/k@1:81")
    × ((listed_in_step 10 (site (7 ∷ 9 ∷ []) 2 3)).place ≡ at 29)
    × ((listed_in_step 10 (site (7 ∷ 9 ∷ []) 2 3)).names ≡ codes "m" ∷ codes "a" ∷ codes "d" ∷ [])
    × ((listed_in_step 12 (site [] 10 1)).path ≡ codes "main")
    × ((listed_in_step 12 (site [] 10 1)).place ≡ at 118)
unfolding digits
call_in_step_listed = (refl, refl, refl, refl, refl, refl, refl, refl, refl, refl)

-- int main(void){ long x; x = 3; assert(x >= 3); } : the report with four points and one verdict lists what the source has; catches a report that leaves a point out
one_variable_points : AreListed (globals_named one_variable.parts) (labels_of one_variable) 1 (sites_of (resolve one_variable)) report.one_variable.points
one_variable_points = (refl, ((tt, tt), tt), (refl, ((tt, tt), tt), (refl, (((refl, tt), tt), tt), (refl, (((refl, tt), tt), tt), tt))))

-- its tree of operations, derived case by case
unfoldable one_variable_body : (g : Node) × InlineItems (resolve one_variable) (sites_of (resolve one_variable)) (main_inline_state (resolve one_variable))
    (resolve one_variable).main.body g 1 3
one_variable_body = (_, as_declaration refl as_fresh (as_statement (as_assign refl as_value) (as_statement (as_assert refl) as_none)))

abbrev one_variable_tree : Node
one_variable_tree = seq one_variable_body.0 (point 3)

one_variable_graph : IsInlinedTree (resolve one_variable) one_variable_tree
one_variable_graph = record {
  body = one_variable_body.0;
  last = 3;
  live = 1;
  inlined = one_variable_body.1;
  ends = refl;
  all = refl;
  parts = refl;
}

-- its one verdict is on the one assertion: no array is accessed, and nothing is asked of what fits
one_variable_judged : AreJudged (labels_of one_variable) (subjects report.one_variable.options one_variable_tree one_variable) report.one_variable.verdicts
unfolding one_variable_body
one_variable_judged = (refl, tt)

-- `b[1]=0; a[b[0]]=b[1];`, where a is declared at 6 and b at 12: the target's index first, then the target, then what it
-- gets, each at its array's name. Catches accesses that are numbered through all points, or reported at the declarator
abbrev access_of : ℕ → ℕ → Element
access_of declared c = record { array = record { declared = at declared; length = 3; number_type = Long }; place = at c; index = input }

abbrev access_at : ℕ → ℕ → ℕ → Subject
access_at number n c = record { kind = Access; number = number; site = site [] number 0; which = n; place = at c }

two_arrays : accesses_from (λ q. cond (nat_eq q 1) (access_of 12 30 ∷ access_of 6 28 ∷ access_of 12 36 ∷ []) (access_of 12 20 ∷ [])) 0
    (site [] 1 0 ∷ site [] 2 0 ∷ []) ≡ access_at 1 0 20 ∷ access_at 2 0 30 ∷ access_at 2 1 28 ∷ access_at 2 2 36 ∷ []
two_arrays = refl

-- of three points a tree computes at the second and the third
two_compute : computing_from (λ q. nat_lt 0 q) 0 (site [] 1 0 ∷ site [] 2 1 ∷ site [] 3 1 ∷ []) ≡ (2, site [] 2 1) ∷ (3, site [] 3 1) ∷ []
two_compute = refl
