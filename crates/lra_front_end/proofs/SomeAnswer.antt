-- Each source has an answer: its one refusal, or its tree with a tree of operations for each of its programs.
use Rattle.std.proofs.Common.{◌≡◌, List, [], ◌∷◌, length, Ok, Err, Option, Some, None, ◌⊎◌, inl, inr, ℕ, refl, sym, ◌∙◌, ◌≤◌, ◌+◌, arith}
use Rattle.std.proofs.lemmas.Bool.{cases_lt}
use Rattle.std.specs.{List.AllByRecursion, List.AllZip, Prelude.flat_map}
use Rattle.lra_base.specs.{Places.greatest_length, declared.refusals.Cause.Cause, declared.refusals.Cause.TheVariants.Recursive, declared.refusals.Place.Place, declared.refusals.Refusal.Refusal}
use Rattle.lra_front_end.specs.Crates.lra_resolution_spec.Refuse.{limit_fault, RefusesTree, bad_name, recursive, past_limit, too_long, bad_token, bad_text, not_parsed, bad_tree, OneAnswer}
use Rattle.lra_front_end.specs.Crates.lra_resolution_spec.EntryPoint.{EntryPoint, faults_of, programs_of, points_of}
use Rattle.lra_front_end.specs.Crates.{lra_parser_spec.Files.EndsOnce, lra_parser_spec.Files.file_at, lra_parser_spec.Reading.Read, lra_program.Sites.events_of, lra_program.Sites.event_sites}
use Rattle.lra_front_end.specs.Crates.{lra_operations.Tree.Node, lra_program.Program.Program, lra_program.WellFormed.IsWellFormed, lra_syntax.Faults.IsTree, lra_syntax.Faults.IsTextFault}
use Rattle.lra_front_end.specs.Crates.{lra_syntax.Grammar.Spells, lra_syntax.Labels.Labelled, lra_syntax.Labels.labels_of, lra_syntax.Reach.NotRecursive, lra_syntax.Trees.FileTree, lra_syntax.declared.tokens.Token.Token}
use Rattle.lra_lex.proofs.EachReading.{each_reading}
use Rattle.lra_front_end.proofs.Crates.lra_parser_spec.Answered.{tree_found, stops_at}
use Rattle.lra_front_end.proofs.Crates.{lra_inline_sound.Agreement.trees_agree, lra_inline_sound.DistinctSites.distinct_sites, lra_parser_spec.Ended.lexed_end}
use Rattle.lra_recursion.proofs.Deciding.{each_recursion}
use Rattle.lra_inline.proofs.{Existing.has_graph, Totals.fewer_within}
use Rattle.lra_front_end.specs.{Claims.HasRefusal, Claims.IsProgramTree, Claims.IsAccepted, Claims.EachAnswer, Stages.HasTree}
use Rattle.lra_front_end.proofs.{Limits.within_front, Limits.fault_behind, StageSteps.all_well, StageSteps.accepted}

-- a list of tokens has a tree, or a first fault
abbrev pub IsRead : List Token → Type 0
IsRead T = ((t : FileTree) × IsTree Spells T t) ⊎ ((c : Cause) × (at : Place) × IsTextFault Spells T c at)

text_read : (T : List Token) (r : Read FileTree) → EndsOnce T → file_at 63 T ≡ r → IsRead T
text_read T (Ok x) ends e = inl (x.0, tree_found T x.1 x.0 ends e)
text_read T (Err f) ends e =
    let s = stops_at T f ends e in
    inr (f.cause, s.token.place, (s.front, s.token, s.rest, s.parts, s.faulty, refl))

-- these programs have trees, where they pass no limit after so many points
program_trees : (ls : List Labelled) (n : ℕ) (Ps : List Program) → AllByRecursion IsWellFormed Ps → limit_fault ls n (flat_map events_of Ps) ≡ None
    → (gs : List Node) × AllZip IsProgramTree Ps gs
program_trees ls n [] well e = ([], tt)
program_trees ls n (P ∷ Ps) well e =
    let rest = flat_map events_of Ps in
    let front = within_front ls n (events_of P) rest e in
    let (g, is_graph) = has_graph P well.0 ls (fewer_within ls 0 n (events_of P) (omega arith) front) in
    let (gs, are) = program_trees ls (n + length (event_sites (events_of P))) Ps well.1 (sym (fault_behind ls n (events_of P) rest front) ∙ e) in
    (g ∷ gs, ((is_graph, trees_agree P g (distinct_sites P well.0) is_graph), are))

module _ (entry : EntryPoint) where
  abbrev Answer : List ℕ → Type 0
  Answer source = HasRefusal entry source ⊎ IsAccepted entry source

  -- what the tree of a source leads to
  module _ (source : List ℕ) (t : FileTree) (has : HasTree source t) where
    abbrev refused : (c : Cause) (at : Place) → RefusesTree entry t c at → Answer source
    refused c at why = inl (c, at, bad_tree has.tokens t c at has.not_long has.lexed has.parsed why)

    program_answer : (fault : Option Refusal) → faults_of entry t ≡ [] → NotRecursive t → limit_fault (labels_of t) 0 (points_of entry t) ≡ fault → Answer source
    program_answer (Some r) names straight e = refused r.cause r.place (past_limit r names straight e)
    program_answer None names straight e =
        let (gs, are) = program_trees (labels_of t) 0 (programs_of entry t) (all_well entry source t has names) e in
        inr (record { tree = t; accepted = accepted entry source t has (record { names = names; straight = straight; within = e }); operations = gs; are_graphs = are })

    tree_answer : (faults : List Refusal) → faults_of entry t ≡ faults → Answer source
    tree_answer (r ∷ further) e = refused r.cause r.place (bad_name r further e)
    tree_answer [] e = elim (each_recursion t) [
      | inl first ↦ refused Recursive first.0 (recursive first.0 e first.1)
      | inr straight ↦ program_answer (limit_fault (labels_of t) 0 (points_of entry t)) e straight refl
    ]

  -- a source that isn't too long
  short_answer : (source : List ℕ) → length source ≤ greatest_length → Answer source
  short_answer source short = elim (each_reading source) [
    | inr (c, at, fault) ↦ inl (c, at, not_parsed c at (bad_token c at short fault))
    | inl (T, lexed) ↦ elim (text_read T (file_at 63 T) (lexed_end source T lexed) refl) [
      | inr (c, at, fault) ↦ inl (c, at, not_parsed c at (bad_text T c at short lexed fault))
      | inl (t, parsed) ↦ tree_answer source t (record { tokens = T; not_long = short; lexed = lexed; parsed = parsed }) (faults_of entry t) refl
    ]
  ]

  pub some_answer : (source : List ℕ) → HasRefusal entry source ⊎ IsAccepted entry source
  some_answer source = elim (cases_lt greatest_length (length source)) [
    | inl long ↦ inl (_, _, not_parsed _ _ (too_long long))
    | inr short ↦ short_answer source short
  ]

pub each_answer : OneAnswer Spells → EachAnswer
each_answer one entry source =
    (some_answer entry source, λ refused accepted. (one entry source).2 accepted.tree refused.0 refused.1 accepted.accepted refused.2)
