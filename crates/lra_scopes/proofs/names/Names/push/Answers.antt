-- Goals of `Names::push`: one more name.
use Rattle.std.proofs.Common.{◌≡◌, ◌∙◌, ◌++◌, ◌∷◌, [], ℕ, List, Some, cond, bytes_eq, ap, length, rules, string_bytes}
use Rattle.std.proofs.lemmas.Map.Text.{hash_map_updates_text}
use Rattle.indexmap.specs.IndexMap.{get_by_text}
use Rattle.lra_scopes.specs.declared.names.Declared.{Declared}
use Rattle.lra_scopes.proofs.NameLaws.{indexed_push}
use Rattle.lra_scopes.proofs.names.Names.push.Goals as goal

pub invariant_of-self-2 : goal.invariant_of-self-2
invariant_of-self-2 c =
    let d : Declared = record { word = c.in_ok-word.word; hidden = c.in_ok-hidden.hidden } in
    let text : string_bytes c.in_ok-text.text ≡ d.word = search rules in
    let pushed : c.push.new.self.items ≡ c.self.inside.declared.items ++ d ∷ [] = search rules in
    let count : c.len.result ≡ length c.self.inside.declared.items = search rules in
    let hidden : d.hidden ≡ get_by_text c.self.inside.places d.word = c.in_ok-hidden.ensures.old ∙ ap (get_by_text c.self.inside.places) text in
    indexed_push c.self.inside.places c.insert.new.self c.self.inside.declared.items c.push.new.self.items d pushed hidden
    (λ (name : List ℕ). hash_map_updates_text (string_bytes c.in_ok-text.text) c.self.inside.places c.insert.new.self (Some c.len.result) c.in_ok-hidden.ensures.updates name
    ∙ ap (λ (w : List ℕ). cond (bytes_eq w name) (Some c.len.result) (get_by_text c.self.inside.places name)) text
    ∙ ap (λ (n : ℕ). cond (bytes_eq d.word name) (Some n) (get_by_text c.self.inside.places name)) count)
    c.self.invariant
