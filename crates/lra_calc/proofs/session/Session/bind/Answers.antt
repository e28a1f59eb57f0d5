-- Goals of `Session::bind`: the name stands from now on for what the line of a number made.
use Rattle.std.proofs.Common.{rules, ◌≡◌, ℕ, List, ap, ◌∙◌, Option, Some, string_bytes, bytes_eq}
use Rattle.std.proofs.{Math.Path.fun_ext, lemmas.Map.Text.btree_map_updates_text}
use Rattle.std.specs.{BTreeMap.get_by_text, Map.update}
use Rattle.lra_calc.specs.Crates.lra_linear_spec.Polyhedra.{Polyhedron}
use Rattle.lra_calc.specs.Script as script
use Rattle.lra_calc.specs.Views.{session_of, made_of}
use Rattle.lra_calc.proofs.SessionLemmas.{fit_with}
use Rattle.lra_calc.proofs.session.Session.bind.Goals as goal

pub returns-clause-named : goal.returns-clause-named
returns-clause-named c =
    let same = btree_map_updates_text (string_bytes c.in_ok-name.name) c.args.self.now.made c.insert.new.self (Some c.args.made.polyhedron) c.in_ok-insert.ensures.updates in
    let old = session_of c.args.self.now in
    let key : string_bytes c.in_ok-name.name ≡ c.args.name.now = search rules in
    let name = string_bytes c.in_ok-name.name in
    ap (λ (m : List ℕ → Option Polyhedron). let s : script.Session = record { dims = old.dims; made = m; printed = old.printed; flagged = c.find_flagged-self.result } in s) (fun_ext same)
    ∙ ap (λ (f : Option ℕ). let s : script.Session = record { dims = old.dims; made = update bytes_eq old.made name (Some c.args.made.polyhedron); printed = old.printed; flagged = f } in s)
    c.find_flagged-self.ensures
    ∙ ap (λ (n : List ℕ). script.made_as c.args.number n (made_of c.args.made) old) key

pub returns-clause-sound : goal.returns-clause-sound
returns-clause-sound c =
    let same = btree_map_updates_text (string_bytes c.in_ok-name.name) c.args.self.now.made c.insert.new.self (Some c.args.made.polyhedron) c.in_ok-insert.ensures.updates in
    record {
      few = c.requires.session.few;
      fit = fit_with (get_by_text c.args.self.now.made) (get_by_text c.insert.new.self) (string_bytes c.in_ok-name.name) c.args.made.polyhedron c.args.self.now.dims c.requires.dims same
          c.requires.session.fit;
    }
